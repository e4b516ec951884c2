-- What the three laws of a topology say of its least covers.
use Rattle.std.proofs.Common.{◌≡◌, ℕ, ◌<◌, true, inl, inr, List, [], ◌∷◌, filter, refl, sym, subst}
use Rattle.std.specs.List.{list_all}
use Rattle.std.proofs.lemmas.Bool.{eqb-true, eq-eqb, and_from, and_parts}
use Rattle.finite_lists.specs.Members.{In}
use Rattle.finite_lists.proofs.Lists.{In-filter, In-filter_from, In_Contains, Contains_In, some_any, any_some, all_each, each_all, same_tests, filter_same}
use Rattle.topos_model.specs.categories.Category.{Category, has, into, dom, compose, sieves, pull}
use Rattle.topos_model.specs.topologies.Cover.{Site, covers, is_cover, contains}
use Rattle.topos_model.specs.types.Values.{same_numbers}
use Rattle.topos_model.specs.Laws.{IsCategory, IsInto, IsTopology}
use Rattle.topos_model.specs.topologies.LeastCovers.{is_among_covers, least, IsLeast}
use Rattle.topos_model.specs.topologies.TopologyFaults.{intersection, least_twice}
use Rattle.topos_model.proofs.ArrowsInto.{In-into}
use Rattle.fin_category.proofs.ArrowLists.{has-In, In-has, contains-each, each-contains, In-intersection, In-intersection_from}
use Rattle.sieve_table.proofs.SieveMembers.{IsSieve, sieve_of, of_sieve, In-pull_from, In-pull, pull-member, intersection-sieve, filter-sieve, pull-sieve, goes, object, domain}
use Rattle.sieve_table.proofs.SieveComposites.{In-composites_from, In-composites, composites-sieve}

-- a cover of c
abbrev pub Covers : Site → ℕ → List ℕ → Type 0
Covers s c S = In (covers s c) S

same_numbers_is : (s t : List ℕ) → same_numbers s t ≡ true → s ≡ t
same_numbers_is [] [] h = refl
same_numbers_is [] (y ∷ t) h = cc
same_numbers_is (x ∷ s) [] h = cc
same_numbers_is (x ∷ s) (y ∷ t) h =
    let p = and_parts _ _ h in
    let a : x ≡ y = eqb-true x y p.0 in
    let b : s ≡ t = same_numbers_is s t p.1 in
    cc

same_numbers_self : (s : List ℕ) → same_numbers s s ≡ true
same_numbers_self [] = refl
same_numbers_self (x ∷ s) = and_from _ _ (eq-eqb x x refl) (same_numbers_self s)

pub among_covers : (s : Site) (c : ℕ) (S : List ℕ) → is_among_covers s c S ≡ true → Covers s c S
unfolding is_among_covers
among_covers s c S h = let r = any_some (same_numbers S) (covers s c) h in subst (λ T. Covers s c T) (sym (same_numbers_is S r.0 r.2)) r.1

pub covers_among : (s : Site) (c : ℕ) (S : List ℕ) → Covers s c S → is_among_covers s c S ≡ true
unfolding is_among_covers
covers_among s c S i = some_any (same_numbers S) (covers s c) S i (same_numbers_self S)

pub cover_sieve : (s : Site) (c : ℕ) (S : List ℕ) → Covers s c S → IsSieve s.category c S
unfolding covers
cover_sieve s c S i = sieve_of s.category c S (In-filter_from (is_cover s c) (sieves s.category c) S i).0

pub cover_test : (s : Site) (c : ℕ) (S : List ℕ) → Covers s c S → is_cover s c S ≡ true
unfolding covers
cover_test s c S i = (In-filter_from (is_cover s c) (sieves s.category c) S i).1

pub cover_if : (s : Site) (c : ℕ) (S : List ℕ) → IsSieve s.category c S → is_cover s c S ≡ true → Covers s c S
unfolding covers
cover_if s c S sieve e = In-filter (is_cover s c) (sieves s.category c) S (of_sieve s.category c S sieve) e

pub In-least : (s : Site) (c f : ℕ) → IsInto s.category c f → ((S : List ℕ) → Covers s c S → In S f) → In (least s c) f
unfolding least
In-least s c f i all =
    In-filter (λ f. list_all (has f) (covers s c)) (into s.category c) f (In-into s.category c f i) (each_all (has f) (covers s c) (λ S cover. has-In S f (all S cover)))

-- the least cover lies in each cover
pub least-below : (s : Site) (c f : ℕ) (S : List ℕ) → Covers s c S → In (least s c) f → In S f
unfolding least
least-below s c f S cover i =
    In-has S f (all_each (has f) (covers s c) S (In-filter_from (λ f. list_all (has f) (covers s c)) (into s.category c) f i).1 cover)

-- the members of all of some sieves
abbrev common : Category → ℕ → List (List ℕ) → List ℕ
common k c Ss = filter (λ f. list_all (has f) Ss) (into k c)

module _ (s : Site) (laws : IsCategory s.category) where
  pub common-sieve : (c : ℕ) (Ss : List (List ℕ)) → ((S : List ℕ) → In Ss S → IsSieve s.category c S) → IsSieve s.category c (common s.category c Ss)
  common-sieve c Ss all =
      filter-sieve s.category laws c (λ f. list_all (has f) Ss)
      (λ f g i e j. each_all (has (compose s.category f g)) Ss (λ S l. has-In S (compose s.category f g) ((all S l).closed f g (In-has S f (all_each (has f) Ss S e l)) j)))

  pub least-sieve : (c : ℕ) → IsSieve s.category c (least s c)
  unfolding least
  least-sieve c = common-sieve c (covers s c) (λ S i. cover_sieve s c S i)

  pub least-into : (c f : ℕ) → In (least s c) f → IsInto s.category c f
  least-into c f i = (least-sieve c).within f i

  pub least_twice_sieve : (c : ℕ) → IsSieve s.category c (least_twice s c)
  unfolding least_twice
  least_twice_sieve c = composites-sieve s.category laws (least s) c (least s c) (least-into c) least-sieve

-- where covers are closed upward and under intersection, the intersection of all of them is a cover
module _ (s : Site) (laws : IsCategory s.category) (c : ℕ) (max : Covers s c (into s.category c))
    (up : (S R : List ℕ) → Covers s c S → IsSieve s.category c R → ((f : ℕ) → In S f → In R f) → Covers s c R)
    (meets : (S T : List ℕ) → Covers s c S → Covers s c T → Covers s c (intersection S T)) where
  common-covers : (Ss : List (List ℕ)) → ((S : List ℕ) → In Ss S → Covers s c S) → Covers s c (common s.category c Ss)
  common-covers [] all =
      up (into s.category c) _ max (common-sieve s laws c [] (λ S i. absurd i)) (λ f i. In-filter (λ f. true) (into s.category c) f i refl)
  common-covers (S ∷ Ss) all =
      up (intersection S (common s.category c Ss)) _ (meets S _ (all S (inl refl)) (common-covers Ss (λ T i. all T (inr i))))
      (common-sieve s laws c (S ∷ Ss) (λ T i. cover_sieve s c T (all T i)))
      (λ f i.
      let r = In-intersection_from S (common s.category c Ss) f i in
      let q = In-filter_from (λ f. list_all (has f) Ss) (into s.category c) f r.1 in
      In-filter (λ f. list_all (has f) (S ∷ Ss)) (into s.category c) f q.0 (and_from (has f S) (list_all (has f) Ss) (has-In S f r.0) q.1))

  pub least_covers_by : Covers s c (least s c)
  unfolding least
  least_covers_by = common-covers (covers s c) (λ S i. i)

module _ (s : Site) (laws : IsCategory s.category) (top : IsTopology s) where
  abbrev k : Category
  k = s.category

  pub maximal : (c : ℕ) → c < k.objects → Covers s c (into k c)
  maximal c low = Contains_In (covers s c) (into k c) (top.maximal c low)

  pub stable : (c f : ℕ) (S : List ℕ) → Covers s c S → IsInto k c f → Covers s (dom k f) (pull k f S)
  stable c f S cover i = Contains_In (covers s (dom k f)) (pull k f S) (top.stable c f S (In_Contains (covers s c) S cover) i)

  pub transitive : (c : ℕ) (S R : List ℕ) → Covers s c S → IsSieve k c R → ((f : ℕ) → In S f → Covers s (dom k f) (pull k f R)) → Covers s c R
  transitive c S R cover sieve along =
      Contains_In (covers s c) R (top.transitive c S R (In_Contains (covers s c) S cover) (In_Contains (sieves k c) R (of_sieve k c R sieve))
      (λ f i. In_Contains (covers s (dom k f)) (pull k f R) (along f (Contains_In S f i))))

  -- a sieve that contains a cover is a cover
  pub upward : (c : ℕ) (S R : List ℕ) → Covers s c S → IsSieve k c R → ((f : ℕ) → In S f → In R f) → Covers s c R
  upward c S R cover sieve below =
      transitive c S R cover sieve (λ f i.
      subst (λ T. Covers s (dom k f) T) (sym (pull-member k c f R sieve (below f i))) (maximal _ (domain k laws ((cover_sieve s c S cover).within f i))))

  -- the intersection of two covers is a cover
  pub intersection_covers : (c : ℕ) (S T : List ℕ) → Covers s c S → Covers s c T → Covers s c (intersection S T)
  intersection_covers c S T cover cover' =
      let sieve = cover_sieve s c S cover in
      let both = intersection-sieve k c S T sieve (cover_sieve s c T cover') in
      transitive c S (intersection S T) cover both (λ f i.
      let a = sieve.within f i in
      upward (dom k f) (pull k f T) (pull k f (intersection S T)) (stable c f T cover' a) (pull-sieve k laws c f _ both a)
      (λ g j. let r = In-pull_from k f g T j in In-pull k f g _ r.0 (In-intersection S T _ (sieve.closed f g i r.0) r.1)))

  pub least_covers : (c : ℕ) → c < k.objects → Covers s c (least s c)
  least_covers c low = least_covers_by s laws c (maximal c low) (upward c) (intersection_covers c)

  -- a sieve is a cover exactly if it contains the least cover
  pub covers_above : (c : ℕ) (S : List ℕ) → c < k.objects → IsSieve k c S → ((f : ℕ) → In (least s c) f → In S f) → Covers s c S
  covers_above c S low sieve above = upward c (least s c) S (least_covers c low) sieve above

  -- SINK: an arrow, and one of the least cover of its domain before it
  pub sink : (c f g : ℕ) → IsInto k c f → In (least s (dom k f)) g → In (least s c) (compose k f g)
  sink c f g i j =
      (In-pull_from k f g _ (least-below s (dom k f) g _ (stable c f _ (least_covers c (object k laws i)) i) j)).1

  pub least_twice_covers : (c : ℕ) → c < k.objects → Covers s c (least_twice s c)
  unfolding least_twice
  least_twice_covers c low =
      let sieve = least_twice_sieve s laws c in
      transitive c (least s c) _ (least_covers c low) sieve (λ f i.
      let a : IsInto k c f = least-into s laws c f i in
      covers_above (dom k f) _ (domain k laws a) (pull-sieve k laws c f _ sieve a)
      (λ g j. let b : IsInto k (dom k f) g = least-into s laws (dom k f) g j in In-pull k f g _ b (In-composites k (least s) c _ f g (goes k laws a b) i j)))

  -- SPLIT: each arrow of the least cover is one of it, and one of the least cover of its domain before it
  pub split : (c : ℕ) {h : ℕ} → In (least s c) h → (f : ℕ) × (g : ℕ) × In (least s c) f × In (least s (dom k f)) g × (compose k f g ≡ h)
  unfolding least_twice
  split c {h = h} i =
      In-composites_from k (least s) c (least s c) h
      (least-below s c h _ (least_twice_covers c (object k laws (least-into s laws c h i))) i)

  -- the intersection of all covers is the least cover
  pub is_least : IsLeast s (least s)
  is_least = record {
    sieve = λ c low. of_sieve k c (least s c) (least-sieve s laws c);
    within = λ c f S cover i. least-below s c f S cover i;
    above = λ c S low sieve below. covers_above c S low (sieve_of k c S sieve) below;
    sink = λ c f g i j. sink c f g i j;
    split = λ c h i. let (f, g, a, b, e) = split c i in (f, g, a, b, e);
  }

  pub covers_contain : (c : ℕ) → c < k.objects → covers s c ≡ filter (contains (least s c)) (sieves k c)
  unfolding covers
  covers_contain c low =
      filter_same (is_cover s c) (contains (least s c)) (sieves k c) (λ S i.
      same_tests _ _
      (λ e. each-contains (least s c) S (λ f j. least-below s c f S (cover_if s c S (sieve_of k c S i) e) j))
      (λ e. cover_test s c S (covers_above c S low (sieve_of k c S i) (contains-each (least s c) S e))))
