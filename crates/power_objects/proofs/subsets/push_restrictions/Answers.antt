use Rattle.std.proofs.Common.{◌≡◌, ◌<◌, ◌++◌, ◌∷◌, [], ℕ, Bool, List, length, get_or, map, take, ◌+◌, refl, sym, ap, subst, ◌∙◌, arith, append_assoc}
use Rattle.std.specs.List.{range_with_len}
use Rattle.std.proofs.lemmas.List.{take_all, take_more, map-append}
use Rattle.std.proofs.lemmas.List.FromFn.{length-map-range_with_len}
use Rattle.finite_lists.specs.Members.{In}
use Rattle.finite_lists.specs.Rising.{Rising}
use Rattle.finite_lists.proofs.Lists.{In_at}
use Rattle.topos_model.specs.categories.Category.{Category, into, dom}
use Rattle.topos_model.specs.topologies.Cover.{Site}
use Rattle.topos_model.specs.Laws.{IsCategory, IsInto, IsTopology}
use Rattle.topos_model.proofs.ArrowsInto.{In-into_from}
use Rattle.sieve_table.proofs.SieveMembers.{domain}
use Rattle.place_closures.specs.Pairs.{AreRestricted}
use Rattle.power_objects.specs.BitOrder.{Precedes, place_in, read_along}
use Rattle.power_objects.specs.SubsetRows.{under, closed_sets, subset_row, subset_cells}
use Rattle.power_objects.proofs.Order.{rising_closed}
use Rattle.power_objects.proofs.Pulled.{closed_length, length-under, under_within, pulled_in}
use Rattle.power_objects.proofs.Rooms.{few_sets, sets_at, under_at_place}
use Rattle.power_objects.proofs.subsets.push_restrictions.Goals as goal

rising_sets : (s : Site) (size : ℕ → ℕ) (move : ℕ → ℕ → ℕ) (c : ℕ) → Rising Precedes (closed_sets s size move c)
unfolding closed_sets
rising_sets s size move c = rising_closed _ _

-- what is at hand for the arrow number i into c
record IsAt (s : Site) (size : ℕ → ℕ) (move : ℕ → ℕ → ℕ) (c i : ℕ) (set : List Bool) (sets : List (List Bool)) (row : List ℕ) : Type 0 where
  pub few : length sets < 4_294_967_296
  pub places : (j : ℕ) → j < length sets → length (get_or sets j []) ≡ length row
  pub within : (j : ℕ) → j < length row → get_or row j 0 < length set
  pub rises : Rising Precedes sets
  pub member : In sets (read_along row set)
  pub same : place_in sets (read_along row set) ≡ place_in (closed_sets s size move (dom s.category (get_or (into s.category c) i 0))) (read_along (under s.category size move c (get_or (into s.category c) i 0)) set)

at : (s : Site) (size : ℕ → ℕ) (move : ℕ → ℕ → ℕ) (k : Category) (all : List (List (List Bool))) (along : List (List ℕ)) (c i d : ℕ) (set : List Bool) (arrows : List ℕ) (z got sets : List (List Bool)) (z' got' row : List ℕ) →
    IsCategory s.category → IsTopology s → AreRestricted s.category size move → k ≡ s.category → subset_cells s size move < 4_294_967_296 →
    all ≡ map (closed_sets s size move) (range_with_len 0 s.category.objects) → along ≡ map (under s.category size move c) (into s.category c) → In (closed_sets s size move c) set →
    arrows ≡ into k c → i < length arrows → d ≡ dom k (get_or arrows i 0) → got ≡ get_or all d z → sets ≡ got → got' ≡ get_or along i z' → row ≡ got' → IsAt s size move c i set sets row
at s size move k all along c i d set arrows z got sets z' got' row laws top restricts e few all_are along_are member arrows_are low d_is got_is sets_is got_is' row_is =
    let items : arrows ≡ into s.category c = arrows_are ∙ ap (λ (k : Category). into k c) e in
    let low' : i < length (into s.category c) = subst (λ l. i < length l) items low in
    let f = get_or (into s.category c) i 0 in
    let arrow : IsInto s.category c f = In-into_from s.category c f (In_at (into s.category c) i 0 low') in
    let d_are : d ≡ dom s.category f = d_is ∙ ap (λ l. dom k (get_or l i 0)) items ∙ ap (λ (k : Category). dom k f) e in
    let object : d < s.category.objects = subst (λ x. x < s.category.objects) (sym d_are) (domain s.category laws arrow) in
    let sets_are : sets ≡ closed_sets s size move (dom s.category f) = sets_at s size move all d z got sets all_are object got_is sets_is ∙ ap (closed_sets s size move) d_are in
    let row_are : row ≡ under s.category size move c f = under_at_place s.category size move along c i z' got' row along_are low' got_is' row_is in
    subst (λ (l : List (List Bool)). IsAt s size move c i set l row) (sym sets_are) (subst (λ r. IsAt s size move c i set (closed_sets s size move (dom s.category f)) r) (sym row_are) (record {
      few = let n = few_sets s size move (dom s.category f) (domain s.category laws arrow) in omega (arith, n, few);
      places = λ j l. closed_length s laws top size move restricts (dom s.category f) _ (In_at (closed_sets s size move (dom s.category f)) j [] l) ∙ sym (length-under s.category laws size move c f arrow);
      within = λ j l. let b = under_within s.category laws size move c f arrow j l in omega (arith, b, closed_length s laws top size move restricts c set member);
      rises = rising_sets s size move (dom s.category f);
      member = pulled_in s laws top size move restricts c f arrow set member;
      same = refl;
    }))

pub bounds-all-dom : goal.bounds-all-dom
bounds-all-dom g c =
    let s = c.args.site.now in
    let n : length c.args.all.now ≡ s.category.objects = ap length c.requires.all ∙ length-map-range_with_len (closed_sets s (g.X.Elements.size c.args.x.now) (g.X.Elements.restriction c.args.x.now)) 0 s.category.objects in
    let low = c.dom.ensures.object in
    omega (arith, n, low, ap (λ (k : Category). k.objects) c.cat-cat.ensures)

pub number_of-requires-clause-few : goal.number_of-requires-clause-few
number_of-requires-clause-few g c =
    (at c.args.site.now (g.X.Elements.size c.args.x.now) (g.X.Elements.restriction c.args.x.now) c.cat-cat.result.now c.args.all.now c.args.along.now c.args.c c.loop-i.i c.dom.result c.args.set.now c.arrows_into-arrows.result.now _ c.index-all-dom.result c.as_slice-sets.result.now _ c.index-along-i.result c.as_slice.result.now
    (subst (λ (k : Category). IsCategory k) c.cat-cat.ensures c.laws.ensures.lawful) (subst (λ (t : Site). IsTopology t) c.top-topology.ensures.site c.top-topology.ensures.topology.topology) c.requires.restricts c.cat-cat.ensures c.requires.few
    c.requires.all c.requires.along c.requires.set c.arrows_into-arrows.ensures.value c.loop-i-test.true c.dom.ensures.value c.index-all-dom.is c.as_slice-sets.ensures c.index-along-i.is c.as_slice.ensures).few

pub number_of-requires-clause-places : goal.number_of-requires-clause-places
number_of-requires-clause-places g c =
    (at c.args.site.now (g.X.Elements.size c.args.x.now) (g.X.Elements.restriction c.args.x.now) c.cat-cat.result.now c.args.all.now c.args.along.now c.args.c c.loop-i.i c.dom.result c.args.set.now c.arrows_into-arrows.result.now _ c.index-all-dom.result c.as_slice-sets.result.now _ c.index-along-i.result c.as_slice.result.now
    (subst (λ (k : Category). IsCategory k) c.cat-cat.ensures c.laws.ensures.lawful) (subst (λ (t : Site). IsTopology t) c.top-topology.ensures.site c.top-topology.ensures.topology.topology) c.requires.restricts c.cat-cat.ensures c.requires.few
    c.requires.all c.requires.along c.requires.set c.arrows_into-arrows.ensures.value c.loop-i-test.true c.dom.ensures.value c.index-all-dom.is c.as_slice-sets.ensures c.index-along-i.is c.as_slice.ensures).places

pub number_of-requires-clause-within : goal.number_of-requires-clause-within
number_of-requires-clause-within g c =
    (at c.args.site.now (g.X.Elements.size c.args.x.now) (g.X.Elements.restriction c.args.x.now) c.cat-cat.result.now c.args.all.now c.args.along.now c.args.c c.loop-i.i c.dom.result c.args.set.now c.arrows_into-arrows.result.now _ c.index-all-dom.result c.as_slice-sets.result.now _ c.index-along-i.result c.as_slice.result.now
    (subst (λ (k : Category). IsCategory k) c.cat-cat.ensures c.laws.ensures.lawful) (subst (λ (t : Site). IsTopology t) c.top-topology.ensures.site c.top-topology.ensures.topology.topology) c.requires.restricts c.cat-cat.ensures c.requires.few
    c.requires.all c.requires.along c.requires.set c.arrows_into-arrows.ensures.value c.loop-i-test.true c.dom.ensures.value c.index-all-dom.is c.as_slice-sets.ensures c.index-along-i.is c.as_slice.ensures).within

-- one number more
pushed_more : (h : ℕ → ℕ) (old out new items : List ℕ) (i x : ℕ) → i < length items → out ≡ old ++ map h (take i items) → new ≡ out ++ x ∷ [] → x ≡ h (get_or items i 0) → new ≡ old ++ map h (take (i + 1) items)
pushed_more h old out new items i x low before is same =
    is ∙ ap (λ l. l ++ x ∷ []) before ∙ ap (λ y. (old ++ map h (take i items)) ++ y ∷ []) same ∙ append_assoc old (map h (take i items)) (h (get_or items i 0) ∷ [])
    ∙ ap (λ l. old ++ l) (sym (map-append h (take i items) (get_or items i 0 ∷ [])) ∙ ap (map h) (sym (take_more items i 0 low)))

pub loop-i-preserved : goal.loop-i-preserved
loop-i-preserved g c =
    let s = c.args.site.now in
    let size = g.X.Elements.size c.args.x.now in
    let move = g.X.Elements.restriction c.args.x.now in
    let here = at s size move c.cat-cat.result.now c.args.all.now c.args.along.now c.args.c c.loop-i.i c.dom.result c.args.set.now c.arrows_into-arrows.result.now _ c.index-all-dom.result c.as_slice-sets.result.now _ c.index-along-i.result c.as_slice.result.now
    (subst (λ (k : Category). IsCategory k) c.cat-cat.ensures c.laws.ensures.lawful) (subst (λ (t : Site). IsTopology t) c.top-topology.ensures.site c.top-topology.ensures.topology.topology) c.requires.restricts c.cat-cat.ensures c.requires.few
    c.requires.all c.requires.along c.requires.set c.arrows_into-arrows.ensures.value c.loop-i-test.true c.dom.ensures.value c.index-all-dom.is c.as_slice-sets.ensures c.index-along-i.is c.as_slice.ensures in
    let number : ℕ → ℕ = λ f. place_in (closed_sets s size move (dom s.category f)) (read_along (under s.category size move c.args.c f) c.args.set.now) in
    let items : c.arrows_into-arrows.result.now ≡ into s.category c.args.c = c.arrows_into-arrows.ensures.value ∙ ap (λ (k : Category). into k c.args.c) c.cat-cat.ensures in
    pushed_more number c.args.out.now c.loop-i.out c.push.new.self c.arrows_into-arrows.result.now c.loop-i.i c.number_of.result c.loop-i-test.true c.loop-i.invariant c.in_ok-push.ensures.ok
    (c.number_of.ensures.found here.rises here.member ∙ here.same ∙ ap (λ l. number (get_or l c.loop-i.i 0)) (sym items))

pub returns : goal.returns
unfolding subset_row
returns g c =
    let s = c.args.site.now in
    let size = g.X.Elements.size c.args.x.now in
    let move = g.X.Elements.restriction c.args.x.now in
    let number : ℕ → ℕ = λ f. place_in (closed_sets s size move (dom s.category f)) (read_along (under s.category size move c.args.c f) c.args.set.now) in
    record {
      pushed = c.loop-i.invariant ∙ ap (λ l. c.args.out.now ++ map number l) (take_all c.loop-i.i c.arrows_into-arrows.result.now (omega (arith, c.loop-i-test.false)) ∙ c.arrows_into-arrows.ensures.value ∙ ap (λ (k : Category). into k c.args.c) c.cat-cat.ensures);
    }
