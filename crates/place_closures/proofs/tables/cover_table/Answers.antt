use Rattle.std.proofs.Common.{◌≡◌, ℕ, List, get_or, map, sym, ap, subst, ◌∙◌, arith}
use Rattle.std.specs.List.{flat_map, range_with_len}
use Rattle.std.proofs.lemmas.List.{take_all}
use Rattle.finite_lists.specs.Members.{In}
use Rattle.topos_model.specs.categories.Category.{Category, into, dom}
use Rattle.topos_model.specs.Laws.{IsCategory, IsInto}
use Rattle.topos_model.specs.topologies.Cover.{Site}
use Rattle.topos_model.specs.topologies.LeastCovers.{least}
use Rattle.topologies.proofs.LeastCovers.{least-into}
use Rattle.place_closures.specs.Pairs.{moved, table}
use Rattle.place_closures.proofs.tables.cover_table.Goals as goal

pub moved_rows-requires-clause-arrows : goal.moved_rows-requires-clause-arrows
moved_rows-requires-clause-arrows g c = λ h i.
    let s = c.args.site.now in
    let k = c.cat-cat.result.now in
    let f = get_or c.arrows_into-f-items.result.now c.loop-f.f-index 0 in
    let laws = subst (λ (k : Category). IsCategory k) c.cat-cat.ensures c.laws.ensures.lawful in
    let row : c.as_slice.result.now ≡ least s (dom k f) = c.as_slice.ensures ∙ c.in_ok-cover.ensures ∙ c.arrows.ensures ∙ c.least.ensures.arrows ∙ ap (λ (t : Site). least t c.dom.result) (ap (λ (x : Category). record { category = x; dense = c.top.result.now.dense; families = c.top.result.now.families }) c.cat-cat.ensures ∙ c.top.ensures.site) ∙ ap (least s) c.dom.ensures.value in
    let e : dom s.category f ≡ dom k f = ap (λ (x : Category). dom x f) (sym c.cat-cat.ensures) in
    let a : IsInto s.category (dom s.category f) h = least-into s laws (dom s.category f) h (subst (λ (l : List ℕ). In l h) (row ∙ ap (least s) (sym e)) i) in
    subst (λ d. IsInto k d h) e (subst (λ (x : Category). IsInto x (dom s.category f) h) (sym c.cat-cat.ensures) a)

pub returns : goal.returns
unfolding table
returns g c =
    let s = c.args.site.now in
    let k = s.category in
    let size = g.X.Elements.size c.args.x.now in
    let rows : ℕ → List (List ℕ) = λ f. map (moved k size (g.X.Elements.restriction c.args.x.now) c.args.c f (least s (dom k f))) (range_with_len 0 (size (dom k f))) in
    c.loop-f.invariant ∙ ap (flat_map rows) (take_all c.loop-f.f-index c.arrows_into-f-items.result.now (omega (arith, c.loop-f-test.false)) ∙ c.arrows_into-f-items.ensures.value ∙ ap (λ (x : Category). into x c.args.c) c.cat-cat.ensures)
