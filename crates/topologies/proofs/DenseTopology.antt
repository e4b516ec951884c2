-- The dense topology is a topology, and its least cover of an object.
use Rattle.std.proofs.Common.{◌≡◌, ℕ, zero, suc, ◌<◌, ◌≤◌, Bool, true, false, List, [], ◌∷◌, inl, inr, cond, length, filter, refl, sym, ◌∙◌, ap, subst, eqb, arith}
use Rattle.std.specs.List.{list_any, list_all}
use Rattle.std.proofs.lemmas.Bool.{eqb-true, eq-eqb, cases_Bool, eqb-false, false_from_ne_true, and_cases, or_parts}
use Rattle.finite_lists.specs.Members.{In}
use Rattle.finite_lists.proofs.Lists.{In-filter, In-filter_from, In_Contains, Contains_In, some_any, any_some, all_each, each_all}
use Rattle.topos_model.specs.categories.Category.{Category, has, into, dom, compose, sieves, pull}
use Rattle.topos_model.specs.topologies.Cover.{Site, covers, is_dense, is_cover}
use Rattle.topos_model.specs.Laws.{IsCategory, IsInto, IsTopology}
use Rattle.topos_model.specs.topologies.LeastCovers.{least}
use Rattle.topos_model.proofs.ArrowsInto.{In-into, In-into_from}
use Rattle.fin_category.proofs.ArrowLists.{has-In, In-has, Rises-filter, Rises-into, same_members}
use Rattle.sieve_table.proofs.SieveMembers.{IsSieve, sieve_of, In-pull_from, In-pull, maximal-sieve, pull-sieve, goes, comes, source, regroup, domain}
use Rattle.topologies.specs.DenseCovers.{dense_least}
use Rattle.topologies.proofs.LeastCovers.{Covers, cover_sieve, cover_if, cover_test, least-sieve, least-below, least_covers}

-- what fails, and shorter filters
not_all : {A : Type 0} (p : A → Bool) (xs : List A) → list_all p xs ≡ false → (x : A) × In xs x × (p x ≡ false)
not_all p [] h = absurd (cc)
not_all p (x ∷ xs) h = elim (and_cases (p x) (list_all p xs) h) [ inl e ↦ (x, inl refl, e) | inr e ↦ let r = not_all p xs e in (r.0, inr r.1, r.2) ]

none_in : {A : Type 0} (p : A → Bool) (xs : List A) (x : A) → list_any p xs ≡ false → In xs x → p x ≡ false
none_in p [] x h i = absurd i
none_in p (y ∷ xs) x h (inl e) = ap p (sym e) ∙ (or_parts (p y) (list_any p xs) h).0
none_in p (y ∷ xs) x h (inr i) = none_in p xs x (or_parts (p y) (list_any p xs) h).1 i

no_longer : {A : Type 0} (p q : A → Bool) (xs : List A) → ((x : A) → In xs x → p x ≡ true → q x ≡ true) → length (filter p xs) ≤ length (filter q xs)
no_longer p q [] h = omega arith
no_longer {A} p q (x ∷ xs) h = at (p x) (q x) (h x (inl refl)) (no_longer p q xs (λ y i. h y (inr i)))
  where
    at : (a b : Bool) → (a ≡ true → b ≡ true) → length (filter p xs) ≤ length (filter q xs) →
        length (cond a (x ∷ filter p xs) (filter p xs)) ≤ length (cond b (x ∷ filter q xs) (filter q xs))
    at true true h l = omega arith
    at true false h l = absurd (cc (h refl))
    at false true h l = omega arith
    at false false h l = l

shorter : {A : Type 0} (p q : A → Bool) (xs : List A) (x : A) → ((y : A) → In xs y → p y ≡ true → q y ≡ true) → In xs x → p x ≡ false → q x ≡ true →
    length (filter p xs) < length (filter q xs)
shorter p q [] x h i e e' = absurd i
shorter p q (y ∷ xs) x h (inl s) e e' =
    let l = no_longer p q xs (λ y i. h y (inr i)) in
    let a : p y ≡ false = ap p s ∙ e in
    let b : q y ≡ true = ap q s ∙ e' in
    rw (a, b) (omega arith)
shorter {A} p q (y ∷ xs) x h (inr i) e e' = at (p y) (q y) (h y (inl refl)) (shorter p q xs x (λ y i. h y (inr i)) i e e')
  where
    at : (a b : Bool) → (a ≡ true → b ≡ true) → length (filter p xs) < length (filter q xs) →
        length (cond a (y ∷ filter p xs) (filter p xs)) < length (cond b (y ∷ filter q xs) (filter q xs))
    at true true h l = omega arith
    at true false h l = absurd (cc (h refl))
    at false true h l = omega arith
    at false false h l = l

-- the least cover, of any category
module _ (k : Category) (laws : IsCategory k) where
  -- each arrow into dom f goes back to f
  abbrev pub Divides : ℕ → Type 0
  Divides f = (g : ℕ) → IsInto k (dom k f) g → (h : ℕ) × IsInto k (dom k g) h × (compose k (compose k f g) h ≡ f)

  back : ℕ → Bool
  back f = list_all (λ g. list_any (λ h. eqb (compose k (compose k f g) h) f) (into k (dom k g))) (into k (dom k f))

  back_divides : (f : ℕ) → back f ≡ true → Divides f
  unfolding back
  back_divides f e g j =
      let r = any_some (λ h. eqb (compose k (compose k f g) h) f) (into k (dom k g))
      (all_each (λ g. list_any (λ h. eqb (compose k (compose k f g) h) f) (into k (dom k g))) (into k (dom k f)) g e (In-into k (dom k f) g j)) in
      (r.0, In-into_from k _ r.0 r.1, eqb-true _ _ r.2)

  divides_back : (f : ℕ) → Divides f → back f ≡ true
  unfolding back
  divides_back f d =
      each_all _ (into k (dom k f)) (λ g i. let r = d g (In-into_from k _ g i) in some_any _ (into k (dom k g)) r.0 (In-into k _ r.0 r.1) (eq-eqb _ _ r.2))

  pub In-dense_least_from : (c f : ℕ) → In (dense_least k c) f → IsInto k c f × Divides f
  unfolding dense_least back
  In-dense_least_from c f i = let r = In-filter_from back (into k c) f i in (In-into_from k c f r.0, back_divides f r.1)

  pub In-dense_least : (c f : ℕ) → IsInto k c f → Divides f → In (dense_least k c) f
  unfolding dense_least back
  In-dense_least c f i d = In-filter back (into k c) f (In-into k c f i) (divides_back f d)

  divides_along : (c f l : ℕ) → IsInto k c f → Divides f → IsInto k (dom k f) l → Divides (compose k f l)
  divides_along c f l i d j' g m =
      let m' : IsInto k (dom k l) g = source k laws i j' m in
      let n : IsInto k (dom k f) (compose k l g) = goes k laws j' m' in
      let (h, p, e) = d (compose k l g) n in
      let p' : IsInto k (dom k g) h = source k laws j' m' p in
      -- h comes from dom f
      let a : IsInto k (dom k (compose k f (compose k l g))) h = subst (λ d. IsInto k d h) (sym (comes k laws i n)) p in
      let from : dom k h ≡ dom k f = sym (comes k laws (goes k laws i n) a) ∙ ap (dom k) e in
      let j : IsInto k (dom k h) l = subst (λ d. IsInto k d l) (sym from) j' in
      let q : IsInto k (dom k g) (compose k h l) = goes k laws p' j in (
        compose k h l,
        q,
        ap (λ x. compose k x (compose k h l)) (sym (regroup k laws i j' m'))
            ∙ regroup k laws (goes k laws i n) a j
            ∙ ap (λ x. compose k x l) e,
      )

  pub dense_least_sieve : (c : ℕ) → IsSieve k c (dense_least k c)
  unfolding dense_least
  dense_least_sieve c = record {
    within = λ f i. (In-dense_least_from c f i).0;
    closed = λ f l i j. let r = In-dense_least_from c f i in In-dense_least c _ (goes k laws r.0 j) (divides_along c f l r.0 r.1 j);
    rises = Rises-filter _ (into k c) (Rises-into k c);
  }

  identity_into : {c f : ℕ} → IsInto k c f → IsInto k (dom k f) (dom k f) × (compose k f (dom k f) ≡ f)
  identity_into {c = c} {f = f} i = ((laws.identity (dom k f) (domain k laws i)).0, laws.right_neutral c f i)

  -- the multiples of an arrow get fewer until the arrow divides
  abbrev multiples : ℕ → ℕ → List ℕ
  multiples c u = filter (λ x. list_any (λ h. eqb (compose k u h) x) (into k (dom k u))) (into k c)

  stuck : (u : ℕ) → back u ≡ false → (l : ℕ) × IsInto k (dom k u) l × ((h : ℕ) → IsInto k (dom k l) h → compose k (compose k u l) h ≡ u → ⊥)
  unfolding back
  stuck u e =
      let r = not_all (λ g. list_any (λ h. eqb (compose k (compose k u g) h) u) (into k (dom k g))) (into k (dom k u)) e in
      (r.0, In-into_from k _ r.0 r.1, λ h i same. eqb-false _ _ (none_in (λ h. eqb (compose k (compose k u r.0) h) u) (into k (dom k r.0)) h r.2 (In-into k _ h i)) same)

  fewer : (c u l : ℕ) → IsInto k c u → IsInto k (dom k u) l → ((h : ℕ) → IsInto k (dom k l) h → compose k (compose k u l) h ≡ u → ⊥) →
      length (multiples c (compose k u l)) < length (multiples c u)
  fewer c u l i j no_way =
      shorter (λ x. list_any (λ h. eqb (compose k (compose k u l) h) x) (into k (dom k (compose k u l)))) (λ x. list_any (λ h. eqb (compose k u h) x) (into k (dom k u))) (into k c) u
      (λ x m e.
      let r = any_some (λ h. eqb (compose k (compose k u l) h) x) (into k (dom k (compose k u l))) e in
      let p : IsInto k (dom k l) r.0 = source k laws i j (In-into_from k _ r.0 r.1) in
      some_any (λ h. eqb (compose k u h) x) (into k (dom k u)) (compose k l r.0) (In-into k _ _ (goes k laws j p)) (eq-eqb _ _ (regroup k laws i j p ∙ eqb-true _ _ r.2)))
      (In-into k c u i)
      (false_from_ne_true _ (λ e.
      let r = any_some (λ h. eqb (compose k (compose k u l) h) u) (into k (dom k (compose k u l))) e in
      no_way r.0 (source k laws i j (In-into_from k _ r.0 r.1)) (eqb-true _ _ r.2)))
      (let e = identity_into i in some_any (λ h. eqb (compose k u h) u) (into k (dom k u)) (dom k u) (In-into k _ _ e.0) (eq-eqb _ _ e.1))

  -- some u.g divides, by descent on the number of multiples
  pub descend : (n c u : ℕ) → IsInto k c u → length (multiples c u) < n → (g : ℕ) × IsInto k (dom k u) g × Divides (compose k u g)
  descend zero c u i bound = absurd (omega arith)
  descend (suc n) c u i bound =
      elim (cases_Bool (back u)) [
        | inl e ↦ let r = identity_into i in (dom k u, r.0, subst Divides (sym r.1) (back_divides u e))
        | inr e ↦
            let (l, j, no_way) = stuck u e in
            let less : length (multiples c (compose k u l)) < length (multiples c u) = fewer c u l i j no_way in
            let (g, m, d) = descend n c (compose k u l) (goes k laws i j) (omega arith) in
            let m' : IsInto k (dom k l) g = source k laws i j m in
            (compose k l g, goes k laws j m', subst Divides (sym (regroup k laws i j m')) d)
      ]

  pub dividing : (c f : ℕ) → IsInto k c f → (g : ℕ) × IsInto k (dom k f) g × Divides (compose k f g)
  dividing c f i = descend (suc (length (multiples c f))) c f i (omega arith)

module _ (s : Site) (laws : IsCategory s.category) (dense : s.dense ≡ true) where
  abbrev k : Category
  k = s.category

  -- each arrow has a composite in a cover
  pub dense_from : (c f : ℕ) (S : List ℕ) → Covers s c S → IsInto k c f → (g : ℕ) × IsInto k (dom k f) g × In S (compose k f g)
  unfolding is_cover is_dense
  dense_from c f S cover i =
      let e : list_all (λ f. list_any (λ g. has (compose k f g) S) (into k (dom k f))) (into k c) ≡ true = rw dense at (cover_test s c S cover) in
      let r = any_some (λ g. has (compose k f g) S) (into k (dom k f)) (all_each (λ f. list_any (λ g. has (compose k f g) S) (into k (dom k f))) (into k c) f e (In-into k c f i)) in
      (r.0, In-into_from k _ r.0 r.1, In-has S _ r.2)

  pub dense_if : (c : ℕ) (S : List ℕ) → IsSieve k c S → ((f : ℕ) → IsInto k c f → (g : ℕ) × IsInto k (dom k f) g × In S (compose k f g)) → Covers s c S
  unfolding is_cover is_dense
  dense_if c S sieve all = cover_if s c S sieve test
    where
      test : is_cover s c S ≡ true
      test = rw dense (each_all _ (into k c) (λ f i. let r = all f (In-into_from k c f i) in some_any _ (into k (dom k f)) r.0 (In-into k (dom k f) r.0 r.1) (has-In S _ r.2)))

  pub dense_topology : IsTopology s
  dense_topology = record {
    maximal = λ c low. In_Contains (covers s c) _ (dense_if c (into k c) (maximal-sieve k laws c) (λ f i. let e = identity_into k laws i in (dom k f, e.0, In-into k c _ (goes k laws i e.0))));
    stable = λ c f S cover i.
        let cover' = Contains_In (covers s c) S cover in
        In_Contains (covers s (dom k f)) _ (dense_if (dom k f) (pull k f S) (pull-sieve k laws c f S (cover_sieve s c S cover') i) (λ h j.
        let (g, l, m) = dense_from c (compose k f h) S cover' (goes k laws i j) in
        let l' : IsInto k (dom k h) g = source k laws i j l in
        (g, l', In-pull k f (compose k h g) S (goes k laws j l') (subst (λ x. In S x) (sym (regroup k laws i j l')) m))));
    transitive = λ c S R cover sieve along.
        let cover' = Contains_In (covers s c) S cover in
        In_Contains (covers s c) R (dense_if c R (sieve_of k c R (Contains_In (sieves k c) R sieve)) (λ f i.
        let (g, j, m) = dense_from c f S cover' i in
        let fg : ℕ = compose k f g in
        let n : IsInto k c fg = goes k laws i j in
        let e = identity_into k laws n in
        let (h, l, p) = dense_from (dom k fg) (dom k fg) (pull k fg R) (Contains_In (covers s (dom k fg)) (pull k fg R) (along fg (In_Contains S fg m))) e.0 in
        let q : IsInto k (dom k fg) (compose k (dom k fg) h) = goes k laws e.0 l in
        let q' : IsInto k (dom k g) (compose k (dom k fg) h) = source k laws i j q in
        (compose k g (compose k (dom k fg) h), goes k laws j q', subst (λ x. In R x) (sym (regroup k laws i j q')) (In-pull_from k fg _ R p).1)));
  }

  dense_least_below : (c f : ℕ) (S : List ℕ) → Covers s c S → In (dense_least k c) f → In S f
  dense_least_below c f S cover i =
      let r = In-dense_least_from k laws c f i in
      let (g, j, m) = dense_from c f S cover r.0 in
      let (h, p, e) = r.1 g j in
      subst (λ x. In S x) e ((cover_sieve s c S cover).closed (compose k f g) h m (subst (λ d. IsInto k d h) (sym (comes k laws r.0 j)) p))

  dense_least_covers : (c : ℕ) → Covers s c (dense_least k c)
  dense_least_covers c =
      dense_if c _ (dense_least_sieve k laws c) (λ f i.
      let (g, j, d) = dividing k laws c f i in
      (g, j, In-dense_least k laws c _ (goes k laws i j) d))

  pub least-dense : (c : ℕ) → c < k.objects → least s c ≡ dense_least k c
  least-dense c low =
      same_members (least s c) (dense_least k c) (least-sieve s laws c).rises (dense_least_sieve k laws c).rises
      (λ f i. least-below s c f _ (dense_least_covers c) i)
      (λ f i. dense_least_below c f _ (least_covers s laws dense_topology c low) i)
