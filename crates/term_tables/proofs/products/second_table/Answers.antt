use Rattle.std.proofs.lemmas.Result.{IfOk-weaker}
use Rattle.topos_model.specs.declared.term.Term.{Snd}
use Rattle.topos_model.specs.formulas.Forcing.{value}
use Rattle.truth_tables.proofs.Standing.{number_table}
use Rattle.term_tables.proofs.Contexts.{over_sizes}
use Rattle.term_tables.proofs.PairParts.{pair_widths, second_values}
use Rattle.term_tables.proofs.products.second_table.Goals as goal

pub second_parts-requires : goal.second_parts-requires
second_parts-requires c =
    let (w, Γ, S, T, t, h) = c.requires.part in
    record {
      objects = c.requires.objects;
      widths = pair_widths w Γ S T t c.args.sizes.now c.args.widths.now c.args.tuples.now h;
      pairs = over_sizes w Γ c.args.sizes.now h.counted c.args.tuples.now h.stands.over;
    }

pub returns : goal.returns
returns c = record {
  stands = IfOk-weaker c.second_parts.result _ _ (λ rows made w Γ S T t h.
      number_table w Γ c.args.sizes.now h.counted T (value w (Snd t)) _ rows made (second_values w Γ S T t c.args.sizes.now c.args.widths.now c.args.tuples.now h)) c.second_parts.ensures;
}
