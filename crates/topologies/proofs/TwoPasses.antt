-- Two passes close a set of places: first under restriction, then under covers.
use Rattle.std.proofs.Common.{◌≡◌, ℕ, Bool, true, List, sym, ◌∙◌, ap, subst}
use Rattle.std.specs.List.{list_any, list_all}
use Rattle.finite_lists.specs.Members.{In}
use Rattle.finite_lists.proofs.Lists.{In-filter, In-filter_from, some_any, any_some, all_each, each_all}
use Rattle.topos_model.specs.categories.Category.{Category, into, dom, compose}
use Rattle.topos_model.specs.topologies.Cover.{Site}
use Rattle.topos_model.specs.Laws.{IsCategory, IsInto, IsTopology}
use Rattle.topos_model.specs.topologies.LeastCovers.{least}
use Rattle.topos_model.proofs.ArrowsInto.{In-into, In-into_from}
use Rattle.sieve_table.proofs.SieveMembers.{goes}
use Rattle.topologies.specs.Closures.{ArePlaces, restriction_pass, cover_pass, two_passes}
use Rattle.topologies.proofs.LeastCovers.{Covers, least-into, least-below, least_covers, sink, split}

module _ (s : Site) (laws : IsCategory s.category) (top : IsTopology s)
    {P : Type 0} (equal : P → P → Bool) (stage : P → ℕ) (move : P → ℕ → P) (all : List P) (places : ArePlaces s.category equal stage move all) where
  abbrev k : Category
  k = s.category

  abbrev pub Within : List P → List P → Type 0
  Within l t = (p : P) → In l p → In t p

  -- closed under restriction; under covers; and the same by least covers
  abbrev pub IsRestricted : List P → Type 0
  IsRestricted l = (p : P) (g : ℕ) → In l p → IsInto k (stage p) g → In l (move p g)

  abbrev pub IsCovered : List P → Type 0
  IsCovered l = (p : P) (S : List ℕ) → In all p → Covers s (stage p) S → ((g : ℕ) → In S g → In l (move p g)) → In l p

  abbrev pub IsLeastCovered : List P → Type 0
  IsLeastCovered l = (p : P) → In all p → ((g : ℕ) → In (least s (stage p)) g → In l (move p g)) → In l p

  abbrev restricted : List P → List P
  restricted l = restriction_pass k (least s) equal stage move all l

  abbrev covered : List P → List P
  covered l = cover_pass k (least s) equal stage move all l

  abbrev closed : List P → List P
  closed l = two_passes k (least s) equal stage move all l

  pub covered_least : (l : List P) → IsCovered l → IsLeastCovered l
  covered_least l h p i each = h p (least s (stage p)) i (least_covers s laws top (stage p) (places.object p i)) each

  pub least_covered : (l : List P) → IsLeastCovered l → IsCovered l
  least_covered l h p S i cover each = h p i (λ g j. each g (least-below s (stage p) g S cover j))

  has_place : (p : P) (l : List P) → In l p → list_any (equal p) l ≡ true
  has_place p l i = some_any (equal p) l p i (places.itself p)

  place_has : (p : P) (l : List P) → list_any (equal p) l ≡ true → In l p
  place_has p l h = let r = any_some (equal p) l h in subst (λ q. In l q) (sym (places.alike p r.0 r.2)) r.1

  In-covered : (l : List P) (p : P) → In all p → ((g : ℕ) → In (least s (stage p)) g → In l (move p g)) → In (covered l) p
  unfolding cover_pass
  In-covered l p i each =
      In-filter (λ p. list_all (λ g. list_any (equal (move p g)) l) (least s (stage p))) all p i (each_all _ (least s (stage p)) (λ g j. has_place (move p g) l (each g j)))

  In-covered_from : (l : List P) (p : P) → In (covered l) p → In all p × ((g : ℕ) → In (least s (stage p)) g → In l (move p g))
  unfolding cover_pass
  In-covered_from l p i =
      let r = In-filter_from (λ p. list_all (λ g. list_any (equal (move p g)) l) (least s (stage p))) all p i in
      (r.0, λ g j. place_has (move p g) l (all_each (λ g. list_any (equal (move p g)) l) (least s (stage p)) g r.1 j))

  In-restricted : (l : List P) (q : P) (g : ℕ) → Within l all → In l q → IsInto k (stage q) g → In (restricted l) (move q g)
  unfolding restriction_pass
  In-restricted l q g within i j =
      In-filter (λ p. list_any (λ q. list_any (λ g. equal (move q g) p) (into s.category (stage q))) l) all (move q g) (places.moved q g (within q i) j).0
      (some_any _ l q i (some_any _ (into k (stage q)) g (In-into k _ g j) (places.itself (move q g))))

  In-restricted_from : (l : List P) (p : P) → In (restricted l) p → In all p × ((q : P) × (g : ℕ) × In l q × IsInto k (stage q) g × (move q g ≡ p))
  unfolding restriction_pass
  In-restricted_from l p i =
      let r = In-filter_from (λ p. list_any (λ q. list_any (λ g. equal (move q g) p) (into s.category (stage q))) l) all p i in
      let a = any_some (λ q. list_any (λ g. equal (move q g) p) (into s.category (stage q))) l r.1 in
      let b = any_some (λ g. equal (move a.0 g) p) (into s.category (stage a.0)) a.2 in
      (r.0, (a.0, b.0, a.1, In-into_from k _ b.0 b.1, places.alike _ _ b.2))

  -- the restriction pass gives the least set above that is closed under restriction
  pub restriction_within : (l : List P) → Within (restricted l) all
  restriction_within l p i = (In-restricted_from l p i).0

  pub restriction_extends : (l : List P) → Within l all → Within l (restricted l)
  restriction_extends l within p i =
      subst (λ q. In (restricted l) q) (places.identity p (within p i)) (In-restricted l p (stage p) within i (laws.identity (stage p) (places.object p (within p i))).0)

  pub restriction_restricted : (l : List P) → Within l all → IsRestricted (restricted l)
  restriction_restricted l within p h i j =
      let (q, g, inq, m, e) = (In-restricted_from l p i).1 in
      let j' : IsInto k (dom k g) h = subst (λ d. IsInto k d h) (sym (ap stage e) ∙ (places.moved q g (within q inq) m).1) j in
      subst (λ p. In (restricted l) p) (sym (places.twice q g h (within q inq) m j') ∙ ap (λ p. move p h) e)
      (In-restricted l q (compose k g h) within inq (goes k laws m j'))

  pub restriction_least : (l t : List P) → Within l t → IsRestricted t → Within (restricted l) t
  restriction_least l t below closed p i =
      let (q, g, inq, m, e) = (In-restricted_from l p i).1 in subst (λ p. In t p) e (closed q g (below q inq) m)

  -- the cover pass, of any set, is closed both ways
  pub cover_restricted : (l : List P) → IsRestricted (covered l)
  cover_restricted l p g i j =
      let r = In-covered_from l p i in
      let m = places.moved p g r.0 j in
      In-covered l (move p g) m.0 (λ h n.
      let n' : In (least s (dom k g)) h = subst (λ d. In (least s d) h) m.1 n in
      subst (λ q. In l q) (sym (places.twice p g h r.0 j (least-into s laws _ h n'))) (r.1 (compose k g h) (sink s laws top (stage p) g h j n')))

  pub cover_covered : (l : List P) → IsLeastCovered (covered l)
  cover_covered l p i each =
      In-covered l p i (λ m n.
      let (g, h, ing, inh, e) = split s laws top (stage p) n in
      let j = least-into s laws (stage p) g ing in
      let r = In-covered_from l (move p g) (each g ing) in
      let inh' : In (least s (stage (move p g))) h = subst (λ d. In (least s d) h) (sym (places.moved p g i j).1) inh in
      subst (λ q. In l q) (places.twice p g h i j (least-into s laws _ h inh) ∙ ap (move p) e) (r.1 h inh'))

  -- this alone needs that the restriction pass came first
  pub cover_extends : (l : List P) → Within l all → IsRestricted l → Within l (covered l)
  cover_extends l within closed p i = In-covered l p (within p i) (λ g j. closed p g i (least-into s laws _ g j))

  pub cover_monotone : (l t : List P) → Within l t → Within (covered l) (covered t)
  cover_monotone l t below p i = let r = In-covered_from l p i in In-covered t p r.0 (λ g j. below _ (r.1 g j))

  pub cover_least : (t : List P) → IsLeastCovered t → Within (covered t) t
  cover_least t closed p i = let r = In-covered_from t p i in closed p r.0 r.1

  -- both passes: closed both ways, above the set, and the least such
  pub closed_restricted : (l : List P) → IsRestricted (closed l)
  unfolding two_passes
  closed_restricted l = cover_restricted (restricted l)

  pub closed_covered : (l : List P) → IsCovered (closed l)
  unfolding two_passes
  closed_covered l = least_covered (covered (restricted l)) (cover_covered (restricted l))

  pub closed_extends : (l : List P) → Within l all → Within l (closed l)
  unfolding two_passes
  closed_extends l within p i = cover_extends (restricted l) (restriction_within l) (restriction_restricted l within) p (restriction_extends l within p i)

  pub closed_least : (l t : List P) → Within l t → IsRestricted t → IsCovered t → Within (closed l) t
  unfolding two_passes
  closed_least l t below closed covers p i =
      cover_least t (covered_least t covers) p (cover_monotone (restricted l) t (restriction_least l t below closed) p i)

  pub closed_within : (l : List P) → Within (closed l) all
  unfolding two_passes
  closed_within l p i = (In-covered_from (restricted l) p i).0

  pub closed_monotone : (l t : List P) → Within l t → Within t all → Within (closed l) (closed t)
  closed_monotone l t below within = closed_least l (closed t) (λ p i. closed_extends t within p (below p i)) (closed_restricted t) (closed_covered t)

  pub closed_idempotent : (l : List P) → Within (closed (closed l)) (closed l)
  closed_idempotent l = closed_least (closed l) (closed l) (λ p i. i) (closed_restricted l) (closed_covered l)
