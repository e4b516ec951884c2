use Rattle.std.proofs.Common.{◌≡◌, ◌<◌, ◌≤◌, ◌*◌, ◌++◌, ◌∷◌, [], Bool, List, Option, length, map, sym, ap, subst, ◌∙◌, arith}
use Rattle.std.specs.Prelude.{MatchOption}
use Rattle.std.specs.List.{range_with_len}
use Rattle.std.proofs.lemmas.List.FromFn.{map-range_with_len_more}
use Rattle.topos_model.specs.categories.Category.{Category}
use Rattle.power_objects.specs.SubsetRows.{closed_sets, set_cost}
use Rattle.power_objects.proofs.Rooms.{nothing_spent, more_spent, all_spent, over_spent}
use Rattle.power_objects.proofs.listing.all_sets.Goals as goal

pub loop-c-init : goal.loop-c-init
loop-c-init g c = record {
  spent = nothing_spent c.args.site.now (g.X.Elements.size c.args.x.now) (g.X.Elements.restriction c.args.x.now) c.args.room;
  made = c.new-all.ensures;
}

pub returns-in-None : goal.returns-in-None
returns-in-None g c =
    let s = c.args.site.now in
    let size = g.X.Elements.size c.args.x.now in
    let move = g.X.Elements.restriction c.args.x.now in
    let x = c.loop-c.c in
    let left = c.loop-c.left in
    let over : left < length (closed_sets s size move x) * set_cost s.category size move x =
    subst (λ (o : Option (List (List Bool))). MatchOption o (left < length (closed_sets s size move x) * set_cost s.category size move x) (λ sets. (sets ≡ closed_sets s size move x) × (length sets * set_cost s.category size move x ≤ left))) c.in-None.is c.in_ok-sets_at.ensures.listed in
    let low : x < s.category.objects = omega (arith, c.loop-c-test.true, c.objects-c-end.ensures.count, ap (λ (k : Category). k.objects) c.cat-cat.ensures) in
    record { listed = over_spent s size move c.args.room left x c.loop-c.invariant.spent low over }

pub loop-c-preserved : goal.loop-c-preserved
loop-c-preserved g c =
    let s = c.args.site.now in
    let size = g.X.Elements.size c.args.x.now in
    let move = g.X.Elements.restriction c.args.x.now in
    let x = c.loop-c.c in
    let left = c.loop-c.left in
    let sets = c.in-Some.sets in
    let listed : (sets ≡ closed_sets s size move x) × (length sets * set_cost s.category size move x ≤ left) =
    subst (λ (o : Option (List (List Bool))). MatchOption o (left < length (closed_sets s size move x) * set_cost s.category size move x) (λ sets. (sets ≡ closed_sets s size move x) × (length sets * set_cost s.category size move x ≤ left))) c.in-Some.is c.in_ok-sets_at.ensures.listed in
    let cost : c.cost_of_set.result ≡ set_cost s.category size move x = c.cost_of_set.ensures.cost ∙ ap (λ (k : Category). set_cost k size move x) c.cat-cat.ensures in
    let used : c.len.result * c.cost_of_set.result ≡ length sets * set_cost s.category size move x = ap (λ n. n * c.cost_of_set.result) c.len.ensures ∙ ap (λ n. length sets * n) cost in
    let fits = listed.1 in
    record {
      spent = more_spent s size move c.args.room left (c.len.result * c.cost_of_set.result) x c.loop-c.invariant.spent (used ∙ ap (λ (l : List (List Bool)). length l * set_cost s.category size move x) listed.0) (omega (arith, used, fits));
      made = c.in_ok-push-in-Some.ensures.ok ∙ ap (λ l. l ++ sets ∷ []) c.loop-c.invariant.made ∙ ap (λ a. map (closed_sets s size move) (range_with_len 0 x) ++ a ∷ []) listed.0 ∙ sym (map-range_with_len_more (closed_sets s size move) 0 x x (omega arith));
    }

pub returns : goal.returns
returns g c =
    let s = c.args.site.now in
    let size = g.X.Elements.size c.args.x.now in
    let move = g.X.Elements.restriction c.args.x.now in
    let end : c.loop-c.c ≡ s.category.objects = omega (arith, c.loop-c-test.false, c.loop-c.auto.c-end, c.objects-c-end.ensures.count, ap (λ (k : Category). k.objects) c.cat-cat.ensures) in
    record { listed = (c.loop-c.invariant.made ∙ ap (λ n. map (closed_sets s size move) (range_with_len 0 n)) end, all_spent s size move c.args.room c.loop-c.left c.loop-c.c c.loop-c.invariant.spent end) }
