-- The first failing candidate: there is none exactly where the laws hold, and the law that is named fails at one that is given.
use Rattle.std.proofs.Common.{◌≡◌, ℕ, ◌<◌, Bool, true, false, not, inl, inr, List, Option, Some, None, refl, sym, ◌∙◌, ap, subst, arith}
use Rattle.std.specs.List.{range_with_len}
use Rattle.std.proofs.lemmas.Bool.{cases_Bool, both_ways}
use Rattle.finite_lists.specs.Members.{In}
use Rattle.finite_lists.specs.First.{or_else, some_if}
use Rattle.finite_lists.proofs.DistinctLists.{In-range, In-range_from}
use Rattle.finite_lists.proofs.FirstAnswers.{first_none, first_none_each, first_some_each}
use Rattle.topos_model.specs.declared.fault.Fault.{Fault}
use Rattle.topos_model.specs.declared.fault.Fault.TheVariants.{NotStable, NotTransitive}
use Rattle.topos_model.specs.categories.Category.{Category, into, dom, compose, pull}
use Rattle.topos_model.specs.topologies.Cover.{Site}
use Rattle.topos_model.specs.Laws.{IsCategory, IsInto, IsTopology}
use Rattle.topos_model.specs.topologies.LeastCovers.{is_among_covers, least}
use Rattle.topos_model.specs.topologies.TopologyFaults.{intersection, listed_sieves, least_twice, stability_fault, intersection_fault, least_twice_fault, topology_fault, IsListed, Fails}
use Rattle.topos_model.proofs.ArrowsInto.{In-into, In-into_from}
use Rattle.fin_category.proofs.ArrowLists.{In-intersection}
use Rattle.sieve_table.proofs.SieveMembers.{of_sieve, In-pull_from, In-pull, intersection-sieve, pull-sieve, goes, domain}
use Rattle.sieve_table.proofs.SieveComposites.{In-composites}
use Rattle.topologies.proofs.LeastCovers.{Covers, among_covers, covers_among, least-sieve, least-into, least_twice_sieve}
use Rattle.topologies.proofs.CandidateTests.{PullsCover, IntersectionsCover, TwiceCovers, listed_sieve, listed_covers, up, least_cover, passes_topology, topology_passes}
use Rattle.topologies.proofs.DenseTopology.{dense_topology}

-- a test that refuses answers, and one that passes does not
refused : {A : Type 0} (b : Bool) (x y : A) → some_if (not b) x ≡ Some y → (b ≡ false) × (x ≡ y)
refused true x y h = absurd (cc)
refused false x y h = (refl, cc)

passed : {A : Type 0} (b : Bool) (x : A) → some_if (not b) x ≡ None → b ≡ true
passed true x h = refl
passed false x h = absurd (cc)

let_pass : {A : Type 0} (b : Bool) (x : A) → b ≡ true → some_if (not b) x ≡ None
let_pass b x h = rw h refl

object_below : (s : Site) (c : ℕ) → In (range_with_len 0 s.category.objects) c → c < s.category.objects
object_below s c i = let r = In-range_from 0 s.category.objects c i in omega (arith, r.1)

In-objects : (s : Site) (c : ℕ) → c < s.category.objects → In (range_with_len 0 s.category.objects) c
In-objects s c low = In-range 0 s.category.objects c (omega arith) (omega arith)

no_cover : (s : Site) (c : ℕ) (S : List ℕ) → is_among_covers s c S ≡ false → Covers s c S → ⊥
no_cover s c S e i = both_ways _ e (covers_among s c S i)

-- the tests pass, so there is no fault
module _ (s : Site) (j : ℕ) where
  pub no_fault : PullsCover s → IntersectionsCover s → TwiceCovers s → topology_fault s j ≡ None
  unfolding topology_fault stability_fault intersection_fault least_twice_fault
  no_fault pulls meets twice =
      let a : stability_fault s j ≡ None = first_none _ (range_with_len 0 s.category.objects) (λ c i. first_none _ (listed_sieves s c) (λ S l. first_none _ (into s.category c) (λ f m.
      let_pass (is_among_covers s (dom s.category f) (pull s.category f S)) (NotStable j c S f) (covers_among s _ _ (pulls c S f (object_below s c i) l (In-into_from s.category c f m)))))) in
      let b : intersection_fault s j ≡ None = first_none _ (range_with_len 0 s.category.objects) (λ c i. first_none _ (listed_sieves s c) (λ S l. first_none _ (listed_sieves s c) (λ T m.
      let_pass (is_among_covers s c (intersection S T)) (NotTransitive j c S (intersection S T)) (covers_among s _ _ (meets c S T (object_below s c i) l m))))) in
      let d : least_twice_fault s j ≡ None = first_none _ (range_with_len 0 s.category.objects) (λ c i.
      let_pass (is_among_covers s c (least_twice s c)) (NotTransitive j c (least s c) (least_twice s c)) (covers_among s _ _ (twice c (object_below s c i)))) in
      ap (λ o. or_else o (or_else (intersection_fault s j) (least_twice_fault s j))) a ∙ ap (λ o. or_else o (least_twice_fault s j)) b ∙ d

-- a dense site lists no sieve, and has no fault
module _ (s : Site) (j : ℕ) (laws : IsCategory s.category) (dense : s.dense ≡ true) where
  none_listed : (c : ℕ) (S : List ℕ) → In (listed_sieves s c) S → ⊥
  unfolding listed_sieves
  none_listed c S i = rw dense at i

  pub dense_no_fault : topology_fault s j ≡ None
  dense_no_fault =
      no_fault s j (λ c S f low i l. absurd (none_listed c S i)) (λ c S T low i l. absurd (none_listed c S i))
      (λ c low. Rattle.topologies.proofs.LeastCovers.least_twice_covers s laws (dense_topology s laws dense) c low)

module _ (s : Site) (j : ℕ) (laws : IsCategory s.category) (plain : s.dense ≡ false) (given : IsListed s) where
  abbrev k : Category
  k = s.category

  -- where the first test finds nothing it holds, and likewise the others
  pub pulls_none : stability_fault s j ≡ None → PullsCover s
  unfolding stability_fault
  pulls_none h c S f low i l =
      among_covers s (dom k f) (pull k f S) (passed _ (NotStable j c S f)
      (first_none_each _ (into k c) f (first_none_each _ (listed_sieves s c) S (first_none_each _ (range_with_len 0 k.objects) c h (In-objects s c low)) i) (In-into k c f l)))

  pub intersections_none : intersection_fault s j ≡ None → IntersectionsCover s
  unfolding intersection_fault
  intersections_none h c S T low i l =
      among_covers s c (intersection S T) (passed _ (NotTransitive j c S (intersection S T))
      (first_none_each _ (listed_sieves s c) T (first_none_each _ (listed_sieves s c) S (first_none_each _ (range_with_len 0 k.objects) c h (In-objects s c low)) i) l))

  pub twice_none : least_twice_fault s j ≡ None → TwiceCovers s
  unfolding least_twice_fault
  twice_none h c low =
      among_covers s c (least_twice s c) (passed _ (NotTransitive j c (least s c) (least_twice s c)) (first_none_each _ (range_with_len 0 k.objects) c h (In-objects s c low)))

  stability_fails : (x : Fault) → stability_fault s j ≡ Some x → Fails s j x
  unfolding stability_fault
  stability_fails x h =
      let (c, i, e) = first_some_each _ (range_with_len 0 k.objects) x h in
      let (S, l, e') = first_some_each _ (listed_sieves s c) x e in
      let (f, m, e'') = first_some_each _ (into k c) x e' in
      let r = refused _ (NotStable j c S f) x e'' in
      subst (Fails s j) r.1 (refl, listed_covers s laws plain given c S l, In-into_from k c f m, no_cover s (dom k f) (pull k f S) r.0)

  intersection_fails : PullsCover s → (x : Fault) → intersection_fault s j ≡ Some x → Fails s j x
  unfolding intersection_fault
  intersection_fails pulls x h =
      let (c, i, e) = first_some_each _ (range_with_len 0 k.objects) x h in
      let (S, l, e') = first_some_each _ (listed_sieves s c) x e in
      let (T, m, e'') = first_some_each _ (listed_sieves s c) x e' in
      let r = refused _ (NotTransitive j c S (intersection S T)) x e'' in
      let sieve = listed_sieve s laws plain given c S l in
      let both = intersection-sieve k c S T sieve (listed_sieve s laws plain given c T m) in
      subst (Fails s j) r.1 (
        refl,
        listed_covers s laws plain given c S l,
        of_sieve k c (intersection S T) both,
        (λ f n.
            let a = sieve.within f n in
            up s laws plain given (dom k f) (pull k f T) (pull k f (intersection S T)) (pulls c T f (object_below s c i) m a) (pull-sieve k laws c f _ both a)
            (λ g o. let p = In-pull_from k f g T o in In-pull k f g _ p.0 (In-intersection S T _ (sieve.closed f g n p.0) p.1))),
        no_cover s c (intersection S T) r.0,
      )

  twice_has : (c f g : ℕ) → IsInto k c f → IsInto k (dom k f) g → In (least s c) f → In (least s (dom k f)) g → In (least_twice s c) (compose k f g)
  unfolding least_twice
  twice_has c f g a b m n = In-composites k (least s) c (least s c) f g (goes k laws a b) m n

  twice_fails : IntersectionsCover s → (x : Fault) → least_twice_fault s j ≡ Some x → Fails s j x
  unfolding least_twice_fault
  twice_fails meets x h =
      let (c, i, e) = first_some_each _ (range_with_len 0 k.objects) x h in
      let r = refused _ (NotTransitive j c (least s c) (least_twice s c)) x e in
      subst (Fails s j) r.1 (
        refl,
        least_cover s laws plain given meets c (object_below s c i),
        of_sieve k c _ (least_twice_sieve s laws c),
        (λ f m.
            let a = least-into s laws c f m in
            up s laws plain given (dom k f) (least s (dom k f)) _ (least_cover s laws plain given meets (dom k f) (domain k laws a)) (pull-sieve k laws c f _ (least_twice_sieve s laws c) a)
            (λ g n. let b = least-into s laws (dom k f) g n in In-pull k f g _ b (twice_has c f g a b m n))),
        no_cover s c (least_twice s c) r.0,
      )

  plain_fails : (x : Fault) → topology_fault s j ≡ Some x → Fails s j x
  unfolding topology_fault
  plain_fails x h = at (stability_fault s j) refl (intersection_fault s j) refl h
    where
      at : (o : Option Fault) → stability_fault s j ≡ o → (o' : Option Fault) → intersection_fault s j ≡ o' → or_else o (or_else o' (least_twice_fault s j)) ≡ Some x → Fails s j x
      at (Some y) e o' e' h = stability_fails x (e ∙ h)
      at None e (Some y) e' h = intersection_fails (pulls_none e) x (e' ∙ h)
      at None e None e' h = twice_fails (intersections_none e') x h

  plain_topology : topology_fault s j ≡ None → IsTopology s
  unfolding topology_fault
  plain_topology h = at (stability_fault s j) refl (intersection_fault s j) refl h
    where
      at : (o : Option Fault) → stability_fault s j ≡ o → (o' : Option Fault) → intersection_fault s j ≡ o' → or_else o (or_else o' (least_twice_fault s j)) ≡ None → IsTopology s
      at (Some y) e o' e' h = absurd (cc)
      at None e (Some y) e' h = absurd (cc)
      at None e None e' h = passes_topology s laws plain given (record { pulls = pulls_none e; intersections = intersections_none e'; twice = twice_none h })

  plain_no_fault : IsTopology s → topology_fault s j ≡ None
  plain_no_fault top = let p = topology_passes s laws plain given top in no_fault s j p.pulls p.intersections p.twice

-- there is none exactly where the laws hold
pub topology_of_none : (s : Site) (j : ℕ) → IsCategory s.category → IsListed s → topology_fault s j ≡ None → IsTopology s
topology_of_none s j laws given h =
    elim (cases_Bool s.dense) [ inl dense ↦ dense_topology s laws dense | inr plain ↦ plain_topology s j laws plain given h ]

pub none_of_topology : (s : Site) (j : ℕ) → IsCategory s.category → IsListed s → IsTopology s → topology_fault s j ≡ None
none_of_topology s j laws given top =
    elim (cases_Bool s.dense) [ inl dense ↦ dense_no_fault s j laws dense | inr plain ↦ plain_no_fault s j laws plain given top ]

-- and at one that is given the law that is named fails
pub fault_fails : (s : Site) (j : ℕ) (x : Fault) → IsCategory s.category → IsListed s → topology_fault s j ≡ Some x → Fails s j x
fault_fails s j x laws given h =
    elim (cases_Bool s.dense) [
      | inl dense ↦ absurd (impossible x (sym (dense_no_fault s j laws dense) ∙ h))
      | inr plain ↦ plain_fails s j laws plain given x h
    ]
  where
    impossible : (x : Fault) → None ≡ Some x → ⊥
    impossible x e = cc
