-- Sieves on an object: their members, pulling back, and intersection.
use Rattle.std.proofs.Common.{◌≡◌, ℕ, ◌<◌, Bool, true, inl, inr, List, [], length, filter, sym, subst}
use Rattle.std.specs.List.{list_all, range_with_len}
use Rattle.finite_lists.specs.Members.{In, Distinct}
use Rattle.finite_lists.specs.Sublists.{sublists}
use Rattle.finite_lists.proofs.Lists.{In-filter, In-filter_from, all_each, each_all, filter_sublist, sublist_within, sublist_kept}
use Rattle.finite_lists.proofs.DistinctLists.{Distinct-filter, Distinct-range}
use Rattle.topos_model.specs.categories.Category.{Category, has, into, dom, compose, is_sieve, sieves, pull}
use Rattle.topos_model.specs.Laws.{IsCategory, IsInto}
use Rattle.topos_model.specs.topologies.TopologyFaults.{intersection}
use Rattle.topos_model.proofs.ArrowsInto.{In-into, In-into_from}
use Rattle.fin_category.specs.Masks.{union}
use Rattle.fin_category.proofs.ArrowLists.{has-In, In-has, Rises, Rises-filter, Rises-into, Rises-intersection, Rises-union, same_members, In-intersection, In-intersection_from, In-union_left, In-union_right, In-union_from}

pub record IsSieve (k : Category) (c : ℕ) (S : List ℕ) : Type 0 where
  pub within : (f : ℕ) → In S f → IsInto k c f
  pub closed : (f g : ℕ) → In S f → IsInto k (dom k f) g → In S (compose k f g)
  -- in the order of the arrows
  pub rises : Rises S

pub Distinct-into : (k : Category) (c : ℕ) → Distinct (into k c)
unfolding into
Distinct-into k c = Distinct-filter _ (range_with_len 0 (length k.ends)) (Distinct-range 0 (length k.ends))

module _ (k : Category) where
  pub sieve_of : (c : ℕ) (S : List ℕ) → In (sieves k c) S → IsSieve k c S
  unfolding sieves is_sieve
  sieve_of c S i =
      let r = In-filter_from test (sublists (into k c)) S i in
      let kept : filter (λ f. has f S) (into k c) ≡ S = sublist_kept (λ f. has f S) (into k c) S (Distinct-into k c) r.0 (λ f j e. In-has S f e) (λ f j. has-In S f j) in
      record {
        within = λ f j. In-into_from k c f (sublist_within (into k c) S f r.0 j);
        closed = λ f g j l. In-has S (compose k f g) (all_each _ (into k (dom k f)) g (all_each _ S f r.1 j) (In-into k (dom k f) g l));
        rises = subst Rises kept (Rises-filter (λ f. has f S) (into k c) (Rises-into k c));
      }
    where
      test : List ℕ → Bool
      test s = list_all (λ f. list_all (λ g. has (compose k f g) s) (into k (dom k f))) s

  pub of_sieve : (c : ℕ) (S : List ℕ) → IsSieve k c S → In (sieves k c) S
  unfolding sieves is_sieve
  of_sieve c S h =
      let kept : filter (λ f. has f S) (into k c) ≡ S = same_members (filter (λ f. has f S) (into k c)) S (Rises-filter (λ f. has f S) (into k c) (Rises-into k c)) h.rises
      (λ f i. In-has S f (In-filter_from (λ f. has f S) (into k c) f i).1)
      (λ f i. In-filter (λ f. has f S) (into k c) f (In-into k c f (h.within f i)) (has-In S f i)) in
      In-filter (λ s. list_all (λ f. list_all (λ g. has (compose k f g) s) (into k (dom k f))) s) (sublists (into k c)) S
      (subst (λ T. In (sublists (into k c)) T) kept (filter_sublist (λ f. has f S) (into k c)))
      (each_all _ S (λ f i. each_all _ (into k (dom k f)) (λ g j. has-In S (compose k f g) (h.closed f g i (In-into_from k (dom k f) g j)))))

  -- sieves with the same members are equal
  pub same_sieve : (c : ℕ) (S T : List ℕ) → IsSieve k c S → IsSieve k c T → ((f : ℕ) → In S f → In T f) → ((f : ℕ) → In T f → In S f) → S ≡ T
  same_sieve c S T h h' to from = same_members S T h.rises h'.rises to from

  pub In-pull_from : (f g : ℕ) (S : List ℕ) → In (pull k f S) g → IsInto k (dom k f) g × In S (compose k f g)
  unfolding pull
  In-pull_from f g S i = let r = In-filter_from (λ g. has (compose k f g) S) (into k (dom k f)) g i in (In-into_from k _ g r.0, In-has S _ r.1)

  pub In-pull : (f g : ℕ) (S : List ℕ) → IsInto k (dom k f) g → In S (compose k f g) → In (pull k f S) g
  unfolding pull
  In-pull f g S i j = In-filter (λ g. has (compose k f g) S) (into k (dom k f)) g (In-into k _ g i) (has-In S _ j)

  pub Rises-pull : (f : ℕ) (S : List ℕ) → Rises (pull k f S)
  unfolding pull
  Rises-pull f S = Rises-filter (λ g. has (compose k f g) S) (into k (dom k f)) (Rises-into k (dom k f))

  -- the pullback along a member of a sieve has all arrows
  pub pull-member : (c f : ℕ) (S : List ℕ) → IsSieve k c S → In S f → pull k f S ≡ into k (dom k f)
  pull-member c f S h i =
      same_members (pull k f S) (into k (dom k f)) (Rises-pull f S) (Rises-into k (dom k f))
      (λ g j. In-into k (dom k f) g (In-pull_from f g S j).0)
      (λ g j. let j' = In-into_from k (dom k f) g j in In-pull f g S j' (h.closed f g i j'))

  pub intersection-sieve : (c : ℕ) (S T : List ℕ) → IsSieve k c S → IsSieve k c T → IsSieve k c (intersection S T)
  intersection-sieve c S T h h' = record {
    within = λ f i. h.within f (In-intersection_from S T f i).0;
    closed = λ f g i j. let r = In-intersection_from S T f i in In-intersection S T _ (h.closed f g r.0 j) (h'.closed f g r.1 j);
    rises = Rises-intersection S T h.rises;
  }

  pub empty-sieve : (c : ℕ) → IsSieve k c []
  empty-sieve c = record { within = λ f i. absurd i; closed = λ f g i j. i; rises = tt }

  pub union-sieve : (c : ℕ) (S T : List ℕ) → ((f : ℕ) → In S f → f < 512) → ((f : ℕ) → In T f → f < 512) → IsSieve k c S → IsSieve k c T → IsSieve k c (union S T)
  union-sieve c S T low low' h h' = record {
    within = λ f i. elim (In-union_from S T f i) [ inl a ↦ h.within f a | inr b ↦ h'.within f b ];
    closed = λ f g i j.
        elim (In-union_from S T f i) [
          | inl a ↦ let m = h.closed f g a j in In-union_left S T _ (low _ m) m
          | inr b ↦ let m = h'.closed f g b j in In-union_right S T _ (low' _ m) m
        ];
    rises = Rises-union S T;
  }

module _ (k : Category) (laws : IsCategory k) where
  pub goes : {c f g : ℕ} → IsInto k c f → IsInto k (dom k f) g → IsInto k c (compose k f g)
  goes i j = (laws.composite _ _ _ i j).0

  pub comes : {c f g : ℕ} → IsInto k c f → IsInto k (dom k f) g → dom k (compose k f g) ≡ dom k g
  comes i j = (laws.composite _ _ _ i j).1

  -- an arrow into the source of a composite
  pub source : {c f g h : ℕ} → IsInto k c f → IsInto k (dom k f) g → IsInto k (dom k (compose k f g)) h → IsInto k (dom k g) h
  source {h = h} i j l = subst (λ d. IsInto k d h) (comes i j) l

  -- f.(g.h) is (f.g).h
  pub regroup : {c f g h : ℕ} → IsInto k c f → IsInto k (dom k f) g → IsInto k (dom k g) h → compose k f (compose k g h) ≡ compose k (compose k f g) h
  regroup i j l = laws.associative _ _ _ _ i j l

  pub object : {c f : ℕ} → IsInto k c f → c < k.objects
  object {c = c} i = subst (λ d. d < k.objects) i.1 (laws.ends _ i.0).1

  pub domain : {c f : ℕ} → IsInto k c f → dom k f < k.objects
  domain i = (laws.ends _ i.0).0

  -- the arrows into c that pass a test that is kept by composition
  pub filter-sieve : (c : ℕ) (p : ℕ → Bool) → ((f g : ℕ) → IsInto k c f → p f ≡ true → IsInto k (dom k f) g → p (compose k f g) ≡ true) → IsSieve k c (filter p (into k c))
  filter-sieve c p closed = record {
    within = λ f i. In-into_from k c f (In-filter_from p (into k c) f i).0;
    closed = λ f g i j.
        let r = In-filter_from p (into k c) f i in
        let h = In-into_from k c f r.0 in
        In-filter p (into k c) _ (In-into k c _ (goes h j)) (closed f g h r.1 j);
    rises = Rises-filter p (into k c) (Rises-into k c);
  }

  pub maximal-sieve : (c : ℕ) → IsSieve k c (into k c)
  maximal-sieve c = record {
    within = λ f i. In-into_from k c f i;
    closed = λ f g i j. In-into k c _ (goes (In-into_from k c f i) j);
    rises = Rises-into k c;
  }

  pub pull-sieve : (c f : ℕ) (S : List ℕ) → IsSieve k c S → IsInto k c f → IsSieve k (dom k f) (pull k f S)
  pull-sieve c f S sieve i = record {
    within = λ g j. (In-pull_from k f g S j).0;
    closed = λ g h j l.
        let r = In-pull_from k f g S j in
        In-pull k f _ S (goes r.0 l) (subst (λ x. In S x) (sym (regroup i r.0 l)) (sieve.closed _ h r.1 (subst (λ d. IsInto k d h) (sym (comes i r.0)) l)));
    rises = Rises-pull k f S;
  }

  -- pulling back twice
  pub pull-pull : (c f g : ℕ) (S : List ℕ) → IsInto k c f → IsInto k (dom k f) g → pull k g (pull k f S) ≡ pull k (compose k f g) S
  pull-pull c f g S i j =
      same_members (pull k g (pull k f S)) (pull k (compose k f g) S) (Rises-pull k g _) (Rises-pull k _ S)
      (λ h l.
      let r = In-pull_from k g h (pull k f S) l in
      let q = In-pull_from k f _ S r.1 in
      In-pull k _ h S (subst (λ d. IsInto k d h) (sym (comes i j)) r.0) (subst (λ x. In S x) (regroup i j r.0) q.1))
      (λ h l.
      let r = In-pull_from k _ h S l in
      let m = source i j r.0 in
      In-pull k g h _ m (In-pull k f _ S (goes j m) (subst (λ x. In S x) (sym (regroup i j m)) r.1)))

  -- the pullback along f has all arrows only where f is a member
  pub pull-all : (c f : ℕ) (S : List ℕ) → IsInto k c f → pull k f S ≡ into k (dom k f) → In S f
  pull-all c f S i e =
      let d = laws.identity (dom k f) (domain i) in
      subst (λ x. In S x) (laws.right_neutral c f i) (In-pull_from k f (dom k f) S (subst (λ T. In T (dom k f)) (sym e) (In-into k _ _ d.0))).1
