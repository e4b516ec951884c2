-- The closure of a sieve, by covers and by least covers.
use Rattle.std.proofs.Common.{◌≡◌, ℕ, ◌<◌, Bool, true, false, not, ◌||◌, inl, inr, List, filter, refl, sym, ◌∙◌, ap, subst}
use Rattle.std.specs.List.{list_any, list_all}
use Rattle.std.proofs.lemmas.Bool.{or_cases, or_left, or_right}
use Rattle.finite_lists.specs.Members.{In}
use Rattle.finite_lists.proofs.Lists.{In-filter, In-filter_from, all_each, each_all}
use Rattle.topos_model.specs.categories.Category.{Category, has, into, dom, compose, sieves, pull}
use Rattle.topos_model.specs.topologies.Cover.{Site, covers}
use Rattle.topos_model.specs.types.Types.{is_closed_sieve}
use Rattle.topos_model.specs.types.Values.{same_numbers}
use Rattle.topos_model.specs.Laws.{IsCategory, IsInto, IsTopology}
use Rattle.topos_model.specs.topologies.LeastCovers.{is_among_covers, least, closure}
use Rattle.topos_model.specs.topologies.TopologyFaults.{intersection}
use Rattle.topos_model.proofs.ArrowsInto.{In-into, In-into_from}
use Rattle.fin_category.proofs.ArrowLists.{has-In, In-has, Rises, Rises-filter, Rises-into, Rises-intersection, same_members, In-intersection, In-intersection_from}
use Rattle.sieve_table.proofs.SieveMembers.{IsSieve, sieve_of, of_sieve, In-pull_from, In-pull, pull-sieve, pull-pull, Rises-pull, intersection-sieve, goes, comes, regroup, domain}
use Rattle.topologies.specs.Closures.{closure_by}
use Rattle.topologies.proofs.LeastCovers.{Covers, among_covers, covers_among, least-into, least-below, covers_above, sink, split}

module _ (s : Site) where
  pub In-closure : (c f : ℕ) (S : List ℕ) → IsInto s.category c f → Covers s (dom s.category f) (pull s.category f S) → In (closure s c S) f
  unfolding closure
  In-closure c f S i cover =
      In-filter (λ f. is_among_covers s (dom s.category f) (pull s.category f S)) (into s.category c) f (In-into s.category c f i) (covers_among s _ _ cover)

  pub In-closure_from : (c f : ℕ) (S : List ℕ) → In (closure s c S) f → IsInto s.category c f × Covers s (dom s.category f) (pull s.category f S)
  unfolding closure
  In-closure_from c f S i =
      let r = In-filter_from (λ f. is_among_covers s (dom s.category f) (pull s.category f S)) (into s.category c) f i in
      (In-into_from s.category c f r.0, among_covers s _ _ r.1)

  pub Rises-closure : (c : ℕ) (S : List ℕ) → Rises (closure s c S)
  unfolding closure
  Rises-closure c S = Rises-filter (λ f. is_among_covers s (dom s.category f) (pull s.category f S)) (into s.category c) (Rises-into s.category c)

module _ (k : Category) (M : ℕ → List ℕ) where
  pub In-closure_by : (c f : ℕ) (S : List ℕ) → IsInto k c f → ((g : ℕ) → In (M (dom k f)) g → In S (compose k f g)) → In (closure_by k M c S) f
  unfolding closure_by
  In-closure_by c f S i all =
      In-filter (λ f. list_all (λ g. has (compose k f g) S) (M (dom k f))) (into k c) f (In-into k c f i) (each_all _ (M (dom k f)) (λ g j. has-In S _ (all g j)))

  pub In-closure_by_from : (c f : ℕ) (S : List ℕ) → In (closure_by k M c S) f → IsInto k c f × ((g : ℕ) → In (M (dom k f)) g → In S (compose k f g))
  unfolding closure_by
  In-closure_by_from c f S i =
      let r = In-filter_from (λ f. list_all (λ g. has (compose k f g) S) (M (dom k f))) (into k c) f i in
      (In-into_from k c f r.0, λ g j. In-has S _ (all_each (λ g. has (compose k f g) S) (M (dom k f)) g r.1 j))

  pub Rises-closure_by : (c : ℕ) (S : List ℕ) → Rises (closure_by k M c S)
  unfolding closure_by
  Rises-closure_by c S = Rises-filter (λ f. list_all (λ g. has (compose k f g) S) (M (dom k f))) (into k c) (Rises-into k c)

module _ (s : Site) (laws : IsCategory s.category) (top : IsTopology s) where
  abbrev k : Category
  k = s.category

  -- an arrow is in the closure exactly if it goes into the sieve along the least cover of its domain
  pub In-closure_least : (c f : ℕ) (S : List ℕ) → IsSieve k c S → IsInto k c f → ((g : ℕ) → In (least s (dom k f)) g → In S (compose k f g)) → In (closure s c S) f
  In-closure_least c f S sieve i all =
      In-closure s c f S i
      (covers_above s laws top (dom k f) (pull k f S) (domain k laws i) (pull-sieve k laws c f S sieve i) (λ g j. In-pull k f g S (least-into s laws _ g j) (all g j)))

  pub closure_least_In : (c f : ℕ) (S : List ℕ) → In (closure s c S) f → (g : ℕ) → In (least s (dom k f)) g → In S (compose k f g)
  closure_least_In c f S i g j = let r = In-closure_from s c f S i in (In-pull_from k f g S (least-below s (dom k f) g _ r.1 j)).1

  pub closure-by_least : (c : ℕ) (S : List ℕ) → IsSieve k c S → closure_by k (least s) c S ≡ closure s c S
  closure-by_least c S sieve =
      same_members (closure_by k (least s) c S) (closure s c S) (Rises-closure_by k (least s) c S) (Rises-closure s c S)
      (λ f i. let r = In-closure_by_from k (least s) c f S i in In-closure_least c f S sieve r.0 r.1)
      (λ f i. In-closure_by k (least s) c f S (In-closure_from s c f S i).0 (closure_least_In c f S i))

  pub closure-sieve : (c : ℕ) (S : List ℕ) → IsSieve k c S → IsSieve k c (closure s c S)
  closure-sieve c S sieve = record {
    within = λ f i. (In-closure_from s c f S i).0;
    closed = λ f g i j.
        let a = (In-closure_from s c f S i).0 in
        In-closure_least c (compose k f g) S sieve (goes k laws a j) (λ h l.
        let l' : In (least s (dom k g)) h = subst (λ d. In (least s d) h) (comes k laws a j) l in
        subst (λ x. In S x) (regroup k laws a j (least-into s laws _ h l')) (closure_least_In c f S i (compose k g h) (sink s laws top (dom k f) g h j l')));
    rises = Rises-closure s c S;
  }

  pub closure-extensive : (c f : ℕ) (S : List ℕ) → IsSieve k c S → In S f → In (closure s c S) f
  closure-extensive c f S sieve i = In-closure_least c f S sieve (sieve.within f i) (λ g j. sieve.closed f g i (least-into s laws _ g j))

  pub closure-monotone : (c f : ℕ) (S T : List ℕ) → IsSieve k c T → ((g : ℕ) → In S g → In T g) → In (closure s c S) f → In (closure s c T) f
  closure-monotone c f S T sieve below i = In-closure_least c f T sieve (In-closure_from s c f S i).0 (λ g j. below _ (closure_least_In c f S i g j))

  -- an arrow is in S that is in its closure twice
  closure-twice : (c f : ℕ) (S : List ℕ) → IsSieve k c S → In (closure s c (closure s c S)) f → In (closure s c S) f
  closure-twice c f S sieve i =
      let a = (In-closure_from s c f _ i).0 in
      In-closure_least c f S sieve a (λ h j.
      let (g, l, ing, inl', e) = split s laws top (dom k f) j in
      let b : IsInto k (dom k f) g = least-into s laws _ g ing in
      let m : In (least s (dom k (compose k f g))) l = subst (λ d. In (least s d) l) (sym (comes k laws a b)) inl' in
      let p : In S (compose k (compose k f g) l) = closure_least_In c (compose k f g) S (closure_least_In c f _ i g ing) l m in
      subst (λ x. In S x) (sym (regroup k laws a b (least-into s laws _ l inl')) ∙ ap (compose k f) e) p)

  pub closure-idempotent : (c : ℕ) (S : List ℕ) → IsSieve k c S → closure s c (closure s c S) ≡ closure s c S
  closure-idempotent c S sieve =
      same_members _ _ (Rises-closure s c _) (Rises-closure s c S) (λ f i. closure-twice c f S sieve i)
      (λ f i. closure-extensive c f _ (closure-sieve c S sieve) i)

  pub closure-pull : (c f : ℕ) (S : List ℕ) → IsInto k c f → pull k f (closure s c S) ≡ closure s (dom k f) (pull k f S)
  closure-pull c f S i =
      same_members _ _ (Rises-pull k f _) (Rises-closure s (dom k f) _)
      (λ g j.
      let r = In-pull_from k f g _ j in
      let q = In-closure_from s c _ S r.1 in
      In-closure s (dom k f) g _ r.0 (subst (λ T. Covers s (dom k g) T) (sym (pull-pull k laws c f g S i r.0)) (subst (λ d. Covers s d (pull k (compose k f g) S)) (comes k laws i r.0) q.1)))
      (λ g j.
      let r = In-closure_from s (dom k f) g _ j in
      In-pull k f g _ r.0 (In-closure s c _ S (goes k laws i r.0)
      (subst (λ d. Covers s d (pull k (compose k f g) S)) (sym (comes k laws i r.0)) (subst (λ T. Covers s (dom k g) T) (pull-pull k laws c f g S i r.0) r.1))))

  pub closure-intersection : (c : ℕ) (S T : List ℕ) → IsSieve k c S → IsSieve k c T → closure s c (intersection S T) ≡ intersection (closure s c S) (closure s c T)
  closure-intersection c S T h h' =
      let both = intersection-sieve k c S T h h' in
      same_members _ _ (Rises-closure s c _) (Rises-intersection _ _ (Rises-closure s c S))
      (λ f i. In-intersection _ _ f (closure-monotone c f _ S h (λ g j. (In-intersection_from S T g j).0) i) (closure-monotone c f _ T h' (λ g j. (In-intersection_from S T g j).1) i))
      (λ f i.
      let r = In-intersection_from (closure s c S) (closure s c T) f i in
      In-closure_least c f _ both (In-closure_from s c f S r.0).0 (λ g j. In-intersection S T _ (closure_least_In c f S r.0 g j) (closure_least_In c f T r.1 g j)))

  -- a sieve covers exactly if its closure has the identity
  pub covers-identity : (c : ℕ) (S : List ℕ) → c < k.objects → IsSieve k c S → Covers s c S → In (closure s c S) c
  covers-identity c S low sieve cover =
      let i = laws.identity c low in
      In-closure_least c c S sieve i.0 (λ g j.
      let j' : In (least s c) g = subst (λ d. In (least s d) g) i.1 j in
      subst (λ x. In S x) (sym (laws.left_neutral c g (least-into s laws c g j'))) (least-below s c g S cover j'))

  pub identity-covers : (c : ℕ) (S : List ℕ) → c < k.objects → IsSieve k c S → In (closure s c S) c → Covers s c S
  identity-covers c S low sieve i =
      let e = laws.identity c low in
      covers_above s laws top c S low sieve (λ g j.
      subst (λ x. In S x) (laws.left_neutral c g (least-into s laws c g j)) (closure_least_In c c S i g (subst (λ d. In (least s d) g) (sym e.1) j)))

  -- closed sieves are those that are their closure
  abbrev Closed : ℕ → List ℕ → Type 0
  Closed c S = In (filter (is_closed_sieve s c) (sieves k c)) S

  closed_test : (c : ℕ) (S : List ℕ) → is_closed_sieve s c S ≡ true → (f : ℕ) → In (closure s c S) f → In S f
  unfolding is_closed_sieve closure is_among_covers
  closed_test c S h f i =
      let r = In-filter_from (λ f. list_any (same_numbers (pull k f S)) (covers s (dom k f))) (into k c) f i in
      let e = all_each (λ f. has f S || not (list_any (same_numbers (pull k f S)) (covers s (dom k f)))) (into k c) f h r.0 in
      elim (or_cases (has f S) _ e) [ inl a ↦ In-has S f a | inr b ↦ absurd (refused (list_any (same_numbers (pull k f S)) (covers s (dom k f))) r.1 b) ]
    where
      refused : (b : Bool) → b ≡ true → not b ≡ true → ⊥
      refused true e n = cc
      refused false e n = cc

  test_closed : (c : ℕ) (S : List ℕ) → ((f : ℕ) → In (closure s c S) f → In S f) → is_closed_sieve s c S ≡ true
  unfolding is_closed_sieve closure is_among_covers
  test_closed c S h =
      each_all (λ f. has f S || not (list_any (same_numbers (pull k f S)) (covers s (dom k f)))) (into k c)
      (λ f i. at f i (list_any (same_numbers (pull k f S)) (covers s (dom k f))) refl)
    where
      at : (f : ℕ) → In (into k c) f → (b : Bool) → list_any (same_numbers (pull k f S)) (covers s (dom k f)) ≡ b → (has f S || not b) ≡ true
      at f i true e = or_left _ _ (has-In S f (h f (In-filter (λ f. list_any (same_numbers (pull k f S)) (covers s (dom k f))) (into k c) f i e)))
      at f i false e = or_right (has f S) _ refl

  pub closure_closed : (c : ℕ) (S : List ℕ) → IsSieve k c S → Closed c (closure s c S)
  closure_closed c S sieve =
      In-filter (is_closed_sieve s c) (sieves k c) (closure s c S) (of_sieve k c _ (closure-sieve c S sieve)) (test_closed c _ (λ f i. closure-twice c f S sieve i))

  pub closure_below : (c : ℕ) (S T : List ℕ) (f : ℕ) → Closed c T → ((g : ℕ) → In S g → In T g) → In (closure s c S) f → In T f
  closure_below c S T f closed below i =
      let r = In-filter_from (is_closed_sieve s c) (sieves k c) T closed in
      closed_test c T r.1 f (closure-monotone c f S T (sieve_of k c T r.0) below i)
