use Rattle.std.proofs.Common.{◌++◌, map, ap, ◌∙◌, arith}
use Rattle.std.proofs.lemmas.List.{take_all}
use Rattle.topos_model.specs.Laws.{act}
use Rattle.named_functors.specs.NamedRows.{restriction_row}
use Rattle.named_functors.proofs.rows.push_element.Goals as goal

pub returns : goal.returns
unfolding restriction_row
returns c = record {
  pushed = c.loop-f.invariant ∙ ap (λ l. c.args.out.now ++ map (λ f. act c.args.functor.now f c.args.x) l)
      (take_all c.loop-f.f-index c.arrows_into-f-items.result.now (omega (arith, c.loop-f-test.false)) ∙ c.arrows_into-f-items.ensures.value);
}
