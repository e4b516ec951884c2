use Rattle.std.proofs.Common.{◌≡◌, ◌<◌, ◌≤◌, ℕ, Bool, List, [], length, map, sym, ap, subst, ◌∙◌, arith}
use Rattle.std.proofs.lemmas.List.{length-map, take_all}
use Rattle.finite_lists.specs.Members.{In}
use Rattle.finite_lists.proofs.Lists.{In_at, map_same}
use Rattle.topos_model.specs.categories.Category.{Category, into}
use Rattle.topos_model.specs.topologies.Cover.{Site}
use Rattle.topos_model.specs.Laws.{IsCategory, IsTopology}
use Rattle.topos_model.proofs.ArrowsInto.{In-into_from}
use Rattle.fin_category.specs.Masks.{all_added}
use Rattle.fin_category.specs.ArrowSets.{arrows_in}
use Rattle.fin_category.proofs.ArrowLists.{Rises-into}
use Rattle.fin_category.proofs.Views.{few_into}
use Rattle.closed_sets.specs.Closed.{chosen, closed_lists}
use Rattle.closed_sets.specs.Listing.{IsListing}
use Rattle.place_closures.specs.Passes.{two_passes}
use Rattle.omega_object.specs.TruthValues.{closed_sieves}
use Rattle.omega_object.proofs.ChosenArrows.{one_pairs, chosen_all, closed_length, listed_are, length_listed}
use Rattle.omega_object.proofs.listing.sieves_on.Goals as goal

pub pair_passes-requires-clause-few : goal.pair_passes-requires-clause-few
pair_passes-requires-clause-few c =
    let k = c.args.site.now.category in
    let few : length k.ends ≤ 512 = subst (λ (x : Category). length x.ends ≤ 512) c.cat-cat.ensures c.laws.ensures.few in
    omega (arith, one_pairs k c.args.c, few_into k c.args.c, few)

pub returns-in-Over : goal.returns-in-Over
returns-in-Over c =
    let s = c.args.site.now in
    let laws = subst (λ (k : Category). IsCategory k) c.cat-cat.ensures c.laws.ensures.lawful in
    let top = subst (λ (t : Site). IsTopology t) c.top-topology.ensures.site c.top-topology.ensures.topology.topology in
    let B = c.in_ok-passes.passes.below in
    let C = c.in_ok-passes.passes.covers in
    let lists = closed_lists (length B) (two_passes B C) in
    let over : c.args.room < length lists = subst (IsListing lists c.args.room) c.in-Over.is c.in_ok-list_closed.ensures.listing in
    let all : length lists ≡ length (closed_sieves s c.args.c) =
    sym (length-map lists (chosen (into s.category c.args.c))) ∙ ap length (listed_are s laws top c.args.c B C c.in_ok-passes.ensures.below c.in_ok-passes.ensures.covers) in
    omega (arith, over, all)

pub arrows_at-requires-clause-places : goal.arrows_at-requires-clause-places
arrows_at-requires-clause-places c =
    let s = c.args.site.now in
    let laws = subst (λ (k : Category). IsCategory k) c.cat-cat.ensures c.laws.ensures.lawful in
    let top = subst (λ (t : Site). IsTopology t) c.top-topology.ensures.site c.top-topology.ensures.topology.topology in
    let B = c.in_ok-passes.passes.below in
    let C = c.in_ok-passes.passes.covers in
    let lists = closed_lists (length B) (two_passes B C) in
    let sets : c.in-All.sets ≡ lists = (subst (IsListing lists c.args.room) c.in-All.is c.in_ok-list_closed.ensures.listing).0 in
    let there : In lists c.set-item.result =
    subst (λ l. In l c.set-item.result) (c.as_slice-set-items.ensures ∙ sets) (subst (λ a. In c.as_slice-set-items.result.now a) (sym c.set-item.is) (In_at c.as_slice-set-items.result.now c.loop-set.set-index c.set-item.result c.loop-set-test.true)) in
    closed_length (length B) (two_passes B C) c.set-item.result there ∙ length_listed s laws top c.args.c B c.in_ok-passes.ensures.below
    ∙ sym (ap length (c.arrows_into-arrows.ensures.value ∙ ap (λ (k : Category). into k c.args.c) c.cat-cat.ensures))

pub arrows_at-requires-clause-few : goal.arrows_at-requires-clause-few
arrows_at-requires-clause-few c = λ f i.
    let k = c.cat-cat.result.now in
    let low = (In-into_from k c.args.c f (subst (λ l. In l f) c.arrows_into-arrows.ensures.value i)).0 in
    omega (arith, low, c.laws.ensures.few)

pub returns : goal.returns
returns c =
    let s = c.args.site.now in
    let k = s.category in
    let laws = subst (λ (k : Category). IsCategory k) c.cat-cat.ensures c.laws.ensures.lawful in
    let few : length k.ends ≤ 512 = subst (λ (x : Category). length x.ends ≤ 512) c.cat-cat.ensures c.laws.ensures.few in
    let top = subst (λ (t : Site). IsTopology t) c.top-topology.ensures.site c.top-topology.ensures.topology.topology in
    let B = c.in_ok-passes.passes.below in
    let C = c.in_ok-passes.passes.covers in
    let lists = closed_lists (length B) (two_passes B C) in
    let listing = subst (IsListing lists c.args.room) c.in-All.is c.in_ok-list_closed.ensures.listing in
    let items = c.as_slice-set-items.result.now in
    let sets : items ≡ lists = c.as_slice-set-items.ensures ∙ listing.0 in
    let arrows : c.arrows_into-arrows.result.now ≡ into k c.args.c = c.arrows_into-arrows.ensures.value ∙ ap (λ (k : Category). into k c.args.c) c.cat-cat.ensures in
    let made : List ℕ → List Bool → List ℕ = λ xs a. all_added [] (chosen xs a) in
    let rows : map arrows_in c.loop-set.rows ≡ map (made (into k c.args.c)) lists =
    c.loop-set.invariant ∙ ap (map (made c.arrows_into-arrows.result.now)) (take_all c.loop-set.set-index items (omega (arith, c.loop-set-test.false)) ∙ sets) ∙ ap (λ xs. map (made xs) lists) arrows in
    let same : map (made (into k c.args.c)) lists ≡ map (chosen (into k c.args.c)) lists =
    map_same (made (into k c.args.c)) (chosen (into k c.args.c)) lists (λ a i. chosen_all (into k c.args.c) a (Rises-into k c.args.c) (λ f m. let low = (In-into_from k c.args.c f m).0 in omega (arith, low, few))) in
    let within = listing.1 in (
      rows ∙ same ∙ listed_are s laws top c.args.c B C c.in_ok-passes.ensures.below c.in_ok-passes.ensures.covers,
      omega (arith, within, sym (length-map c.loop-set.rows arrows_in) ∙ ap length rows ∙ length-map lists (made (into k c.args.c))),
    )
