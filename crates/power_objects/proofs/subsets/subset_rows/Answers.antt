use Rattle.std.proofs.Common.{◌≡◌, length, map, sym, ap, subst, ◌∙◌, arith}
use Rattle.std.specs.List.{flat_map}
use Rattle.std.proofs.lemmas.List.{take_all}
use Rattle.std.proofs.lemmas.List.FromFn.{length-map-range_with_len}
use Rattle.finite_lists.specs.Members.{In}
use Rattle.finite_lists.proofs.Lists.{In_at}
use Rattle.topos_model.specs.categories.Category.{Category, into}
use Rattle.topos_model.specs.topologies.Cover.{Site}
use Rattle.topos_model.specs.Laws.{IsCategory, IsTopology}
use Rattle.place_closures.specs.Pairs.{pairs}
use Rattle.power_objects.specs.SubsetRows.{digit, closed_sets, subset_row}
use Rattle.power_objects.proofs.Rooms.{few_sets, few_pairs, sets_at}
use Rattle.power_objects.proofs.subsets.subset_rows.Goals as goal

pub under_rows-requires-clause-few : goal.under_rows-requires-clause-few
under_rows-requires-clause-few g c =
    let s = c.args.site.now in
    let size = g.X.Elements.size c.args.x.now in
    let move = g.X.Elements.restriction c.args.x.now in
    let laws = subst (λ (k : Category). IsCategory k) c.cat-cat.ensures c.laws.ensures.lawful in
    let top = subst (λ (t : Site). IsTopology t) c.top-topology.ensures.site c.top-topology.ensures.topology.topology in
    omega (arith, few_pairs s size move laws top c.requires.restricts c.args.c c.requires.object, c.requires.few, ap (λ (k : Category). length (pairs k size move c.args.c)) c.cat-cat.ensures)

pub bounds-all-c : goal.bounds-all-c
bounds-all-c g c =
    let s = c.args.site.now in
    let size = g.X.Elements.size c.args.x.now in
    let move = g.X.Elements.restriction c.args.x.now in
    omega (arith, c.requires.object, ap length c.requires.all, length-map-range_with_len (closed_sets s size move) 0 s.category.objects)

pub push_restrictions-requires-clause-set : goal.push_restrictions-requires-clause-set
push_restrictions-requires-clause-set g c =
    let s = c.args.site.now in
    let size = g.X.Elements.size c.args.x.now in
    let move = g.X.Elements.restriction c.args.x.now in
    let sets = c.as_slice-sets.result.now in
    let are : sets ≡ closed_sets s size move c.args.c = sets_at s size move c.args.all.now c.args.c _ c.index-all-c.result sets c.requires.all c.requires.object c.index-all-c.is c.as_slice-sets.ensures in
    subst (λ l. In l c.set-item.result) are (subst (λ a. In sets a) (sym c.set-item.is) (In_at sets c.loop-set.set-index c.set-item.result c.loop-set-test.true))

pub overflow_cast-result : goal.overflow_cast-result
overflow_cast-result g c =
    let s = c.args.site.now in
    let size = g.X.Elements.size c.args.x.now in
    let move = g.X.Elements.restriction c.args.x.now in
    let sets = c.as_slice-sets.result.now in
    let are : sets ≡ closed_sets s size move c.args.c = sets_at s size move c.args.all.now c.args.c _ c.index-all-c.result sets c.requires.all c.requires.object c.index-all-c.is c.as_slice-sets.ensures in
    omega (arith, ap length are, few_sets s size move c.args.c c.requires.object, c.requires.few)

pub overflow_cast-result-2 : goal.overflow_cast-result-2
overflow_cast-result-2 g c =
    let s = c.args.site.now in
    let size = g.X.Elements.size c.args.x.now in
    let move = g.X.Elements.restriction c.args.x.now in
    let laws = subst (λ (k : Category). IsCategory k) c.cat-cat.ensures c.laws.ensures.lawful in
    let top = subst (λ (t : Site). IsTopology t) c.top-topology.ensures.site c.top-topology.ensures.topology.topology in
    omega (arith, few_pairs s size move laws top c.requires.restricts c.args.c c.requires.object, c.requires.few, c.pair_count.ensures.pairs, ap (λ (k : Category). length (pairs k size move c.args.c)) c.cat-cat.ensures)

pub returns : goal.returns
returns g c =
    let s = c.args.site.now in
    let size = g.X.Elements.size c.args.x.now in
    let move = g.X.Elements.restriction c.args.x.now in
    let sets = c.as_slice-sets.result.now in
    let are : sets ≡ closed_sets s size move c.args.c = sets_at s size move c.args.all.now c.args.c _ c.index-all-c.result sets c.requires.all c.requires.object c.index-all-c.is c.as_slice-sets.ensures in
    let whole = take_all c.loop-set.set-index sets (omega (arith, c.loop-set-test.false)) in
    record {
      rows = record {
        count = ap length are;
        width = c.pair_count.ensures.pairs ∙ ap (λ (k : Category). length (pairs k size move c.args.c)) c.cat-cat.ensures;
        arrows = ap length (c.arrows_into.ensures.value ∙ ap (λ (k : Category). into k c.args.c) c.cat-cat.ensures);
        rows = c.loop-set.invariant.digits ∙ ap (flat_map (map digit)) (whole ∙ are);
        restrictions = c.loop-set.invariant.numbers ∙ ap (flat_map (subset_row s size move c.args.c)) (whole ∙ are);
      };
    }
