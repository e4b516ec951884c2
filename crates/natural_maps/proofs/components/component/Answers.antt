use Rattle.std.proofs.Common.{ℕ, List, [], ◌∷◌, ◌++◌, map, sym, ap, ◌∙◌, arith}
use Rattle.std.specs.List.{range_with_len}
use Rattle.std.proofs.lemmas.List.FromFn.{map-range_with_len_more}
use Rattle.topos_model.specs.declared.fault.Fault.TheVariants.{MapNotTotal}
use Rattle.finite_lists.specs.First.{some_if}
use Rattle.natural_maps.specs.Components.{number, is_missing, number_from, missing_at}
use Rattle.presheaf_core.proofs.SearchFrom.{first_from-none, first_from-some}
use Rattle.natural_maps.proofs.components.component.Goals as goal

pub returns-in-None-clause-fault : goal.returns-in-None-clause-fault
returns-in-None-clause-fault c =
    c.loop-x.invariant.search
    ∙ first_from-some (missing_at c.args.images.now c.args.start c.args.c) c.loop-x.x c.args.size _ (omega arith) (ap (λ o. some_if (is_missing o) (MapNotTotal c.args.c c.loop-x.x)) c.in-None.is)

pub loop-x-preserved : goal.loop-x-preserved
loop-x-preserved c = record {
  row =
      c.in_ok-push-in-Some.ensures.ok ∙ ap (λ (l : List ℕ). l ++ c.in-Some.y ∷ []) c.loop-x.invariant.row
      ∙ ap (λ o. map (number_from c.args.images.now c.args.start) (range_with_len 0 c.loop-x.x) ++ number o ∷ []) (sym c.in-Some.is)
      ∙ sym (map-range_with_len_more (number_from c.args.images.now c.args.start) 0 c.loop-x.x c.loop-x.x (omega arith));
  search =
      c.loop-x.invariant.search
      ∙ first_from-none (missing_at c.args.images.now c.args.start c.args.c) c.loop-x.x c.args.size (omega arith) (ap (λ o. some_if (is_missing o) (MapNotTotal c.args.c c.loop-x.x)) c.in-Some.is);
}
