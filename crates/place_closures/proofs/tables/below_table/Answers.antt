use Rattle.std.proofs.Common.{ℕ, List, map, ap, subst, ◌∙◌, arith}
use Rattle.std.specs.List.{flat_map, range_with_len}
use Rattle.std.proofs.lemmas.List.{take_all}
use Rattle.finite_lists.specs.Members.{In}
use Rattle.topos_model.specs.categories.Category.{into, dom}
use Rattle.topos_model.proofs.ArrowsInto.{In-into_from}
use Rattle.place_closures.specs.Pairs.{moved, table}
use Rattle.place_closures.proofs.tables.below_table.Goals as goal

pub moved_rows-requires-clause-arrows : goal.moved_rows-requires-clause-arrows
moved_rows-requires-clause-arrows g c = λ h i.
    let k = c.args.cat.now in
    In-into_from k _ h (subst (λ (l : List ℕ). In l h) (c.arrows_into-gs.ensures.value ∙ ap (into k) c.dom.ensures.value) i)

pub returns : goal.returns
unfolding table
returns g c =
    let k = c.args.cat.now in
    let size = g.X.Elements.size c.args.x.now in
    let rows : ℕ → List (List ℕ) = λ f. map (moved k size (g.X.Elements.restriction c.args.x.now) c.args.c f (into k (dom k f))) (range_with_len 0 (size (dom k f))) in
    c.loop-f.invariant ∙ ap (flat_map rows) (take_all c.loop-f.f-index c.arrows_into-f-items.result.now (omega (arith, c.loop-f-test.false)) ∙ c.arrows_into-f-items.ensures.value)
