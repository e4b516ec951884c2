-- Each functor that a term needs is in range, where those of the term, its context and the ends of the maps are.
use Rattle.std.proofs.Common.{◌≡◌, ◌<◌, ℕ, zero, suc, Bool, true, false, cond, ltb, List, [], ◌∷◌, ◌++◌, length, get_or, sym, subst, ◌∙◌, inl, inr}
use Rattle.std.specs.Prelude.{Ok, Err}
use Rattle.std.specs.List.{list_all, flat_map}
use Rattle.std.proofs.lemmas.Bool.{and_parts, and_from, ltb-true}
use Rattle.finite_lists.specs.Members.{In}
use Rattle.finite_lists.proofs.Lists.{In-append_cases, In-flat_map, In-flat_map_from, In_at, all_each}
use Rattle.topos_model.specs.declared.ty.Ty.{Ty, out-Ty, roll-out-Ty, Base, One, Omega, Two, Pow, Fun}
use Rattle.topos_model.specs.declared.ty.Ty.TheOpen.{Ty-F, Two as IsTwo, Pow as IsPow, Fun as IsFun}
use Rattle.topos_model.specs.declared.ty.Ty.TheViews.{roll-Ty}
use Rattle.topos_model.specs.declared.ty.Ty.TheVariants.{rolls-Two, rolls-Fun}
use Rattle.topos_model.specs.declared.context.MapTy.{MapTy}
use Rattle.topos_model.specs.declared.fault.Fault.{Fault}
use Rattle.topos_model.specs.declared.fault.Fault.TheVariants.{NotAFunction, NotAPower, NotAPair}
use Rattle.topos_model.specs.declared.term.Term.{Term, Var, Star, Pair', Fst', Snd', App', Eval', Lam', Compr', Eq', Member', Truth, Falsity, And', Or', Implies', Not', Forall', Exists', Unique', more_of-Term as only, end_of-Term as end}
use Rattle.topos_model.specs.types.SameType.{same_type}
use Rattle.topos_model.specs.formulas.Typing.{Typing, then, expect, formula, function, power, pair, ends_of, typed}
use Rattle.topos_model.specs.statements.Needs.{parts, product, inner, found, term_needs}
use Rattle.term_ranges.specs.Ranges.{is_part_in_range, is_type_in_range, is_term_in_range}
use Rattle.term_ranges.specs.RangeLaws.{are_ends_in_range}
use Rattle.term_ranges.proofs.RangeEquations.{part_name, is_type_in_range-Two, is_type_in_range-Pow, is_type_in_range-Fun, is_type_in_range-One, is_type_in_range-Omega}

module _ (n : ℕ) where
  abbrev InRange : Ty → Type 0
  InRange T = is_type_in_range n T ≡ true

  abbrev AllInRange : List Ty → Type 0
  AllInRange Γ = list_all (is_type_in_range n) Γ ≡ true

  -- types from their parts
  one_in_range : InRange One
  one_in_range = is_type_in_range-One n

  omega_in_range : InRange Omega
  omega_in_range = is_type_in_range-Omega n

  two_in_range : (S T : Ty) → InRange S → InRange T → InRange (Two S T)
  two_in_range S T s t = is_type_in_range-Two n S T ∙ and_from (is_type_in_range n S) (is_type_in_range n T) s t

  fun_in_range : (S T : Ty) → InRange S → InRange T → InRange (Fun S T)
  fun_in_range S T s t = is_type_in_range-Fun n S T ∙ and_from (is_type_in_range n S) (is_type_in_range n T) s t

  pow_in_range : (T : Ty) → InRange T → InRange (Pow T)
  pow_in_range T t = is_type_in_range-Pow n T ∙ t

  -- contexts
  variable_in_range : (Γ : List Ty) (k : ℕ) → AllInRange Γ → InRange (get_or Γ k One)
  variable_in_range [] k c = one_in_range
  variable_in_range (T ∷ Γ) zero c = (and_parts _ _ c).0
  variable_in_range (T ∷ Γ) (suc k) c = variable_in_range Γ k (and_parts _ _ c).1

  bound : (Γ : List Ty) (T : Ty) → AllInRange Γ → InRange T → AllInRange (T ∷ Γ)
  bound Γ T c t = and_from (is_type_in_range n T) (list_all (is_type_in_range n) Γ) t c

  product_in_range : (Γ : List Ty) → AllInRange Γ → InRange (product Γ)
  product_in_range [] c = one_in_range
  product_in_range (T ∷ []) c = (and_parts _ _ c).0
  product_in_range (T ∷ U ∷ Γ) c = let p = and_parts _ _ c in two_in_range (product (U ∷ Γ)) T (product_in_range (U ∷ Γ) p.1) p.0

  -- the type that is found, where there is one
  abbrev Sound : Typing → Type 0
  Sound (Ok T) = InRange T
  Sound (Err fault) = Unit {0}

  then_sound : (typing : Typing) (next : Ty → Typing) → Sound typing → ((T : Ty) → InRange T → Sound (next T)) → Sound (then typing next)
  then_sound (Ok T) next h k = k T h
  then_sound (Err fault) next h k = tt

  met_sound : (b : Bool) (next : Typing) (fault : Fault) → Sound next → Sound (cond b next (Err fault))
  met_sound true next fault h = h
  met_sound false next fault h = tt

  expect_sound : (S T : Ty) (next : Typing) → Sound next → Sound (expect S T next)
  expect_sound S T next h = met_sound (same_type S T) next _ h

  formula_sound : (typing next : Typing) → Sound next → Sound (formula typing next)
  formula_sound (Ok T) next h = expect_sound Omega T next h
  formula_sound (Err fault) next h = tt

  pair_sound : (T : Ty) (next : Ty → Ty → Typing) → InRange T → ((S U : Ty) → InRange S → InRange U → Sound (next S U)) → Sound (pair T next)
  unfolding out-Ty
  pair_sound T next g k = at (out-Ty T) (roll-out-Ty T)
    where
      at : (d : Ty-F Ty) → roll-Ty d ≡ T → Sound (elim d [ IsTwo S U ↦ next S U | _ ↦ Err (NotAPair T) ])
      at (IsTwo S U) e = let p = and_parts _ _ (sym (is_type_in_range-Two n S U) ∙ subst InRange (sym (sym (rolls-Two S U) ∙ e)) g) in k S U p.0 p.1
      at _ e = tt

  function_sound : (T : Ty) (next : Ty → Ty → Typing) → InRange T → ((S U : Ty) → InRange U → Sound (next S U)) → Sound (function T next)
  unfolding out-Ty
  function_sound T next g k = at (out-Ty T) (roll-out-Ty T)
    where
      at : (d : Ty-F Ty) → roll-Ty d ≡ T → Sound (elim d [ IsFun S U ↦ next S U | _ ↦ Err (NotAFunction T) ])
      at (IsFun S U) e = k S U (and_parts _ _ (sym (is_type_in_range-Fun n S U) ∙ subst InRange (sym (sym (rolls-Fun S U) ∙ e)) g)).1
      at _ e = tt

  power_sound : (T : Ty) (next : Ty → Typing) → ((S : Ty) → Sound (next S)) → Sound (power T next)
  unfolding out-Ty
  power_sound T next k = at (out-Ty T)
    where
      at : (d : Ty-F Ty) → Sound (elim d [ IsPow S ↦ next S | _ ↦ Err (NotAPower T) ])
      at (IsPow S) = k S
      at _ = tt

module _ (n : ℕ) (maps : List MapTy) (ends : list_all (are_ends_in_range n) maps ≡ true) where
  codomain_in_range : (m : ℕ) → ltb m (length maps) ≡ true → InRange n (ends_of maps m).cod
  codomain_in_range m low =
      (and_parts _ _ (all_each (are_ends_in_range n) maps (ends_of maps m) ends (In_at maps m (record { dom = One; cod = One }) (ltb-true m (length maps) low)))).1

  typed_sound : (Γ : List Ty) (t : Term) → is_term_in_range n (length maps) t ≡ true → AllInRange n Γ → Sound n (typed maps Γ t)
  unfolding typed is_term_in_range
  typed_sound Γ (Var k) h c = variable_in_range n Γ k c
  typed_sound Γ Star h c = one_in_range n
  typed_sound Γ (Pair' i (only t end) j (only u end)) h c =
      let p = and_parts _ _ h in
      then_sound n (typed maps Γ t) (λ T. then (typed maps Γ u) (λ U. Ok (Two T U))) (typed_sound Γ t p.0 c) (λ T g. then_sound n (typed maps Γ u) (λ U. Ok (Two T U)) (typed_sound Γ u p.1 c) (λ U k. two_in_range n T U g k))
  typed_sound Γ (Fst' i (only t end)) h c = then_sound n (typed maps Γ t) (λ T. pair T (λ S U. Ok S)) (typed_sound Γ t h c) (λ T g. pair_sound n T (λ S U. Ok S) g (λ S U s u. s))
  typed_sound Γ (Snd' i (only t end)) h c = then_sound n (typed maps Γ t) (λ T. pair T (λ S U. Ok U)) (typed_sound Γ t h c) (λ T g. pair_sound n T (λ S U. Ok U) g (λ S U s u. u))
  typed_sound Γ (App' m i (only t end)) h c =
      let p = and_parts _ _ h in
      then_sound n (typed maps Γ t) (λ T. expect (ends_of maps m).dom T (Ok (ends_of maps m).cod)) (typed_sound Γ t p.1 c)
      (λ T g. expect_sound n (ends_of maps m).dom T (Ok (ends_of maps m).cod) (codomain_in_range m p.0))
  typed_sound Γ (Eval' i (only t end) j (only u end)) h c =
      let p = and_parts _ _ h in
      then_sound n (typed maps Γ t) (λ T. then (typed maps Γ u) (λ U. function T (λ S V. expect S U (Ok V)))) (typed_sound Γ t p.0 c) (λ T g. then_sound n (typed maps Γ u) (λ U. function T (λ S V. expect S U (Ok V))) (typed_sound Γ u p.1 c) (λ U k. function_sound n T (λ S V. expect S U (Ok V)) g (λ S V v. expect_sound n S U (Ok V) v)))
  typed_sound Γ (Lam' S i (only t end)) h c =
      let p = and_parts _ _ h in
      then_sound n (typed maps (S ∷ Γ) t) (λ U. Ok (Fun S U)) (typed_sound (S ∷ Γ) t p.1 (bound n Γ S c p.0)) (λ U g. fun_in_range n S U p.0 g)
  typed_sound Γ (Compr' S i (only t end)) h c = formula_sound n (typed maps (S ∷ Γ) t) (Ok (Pow S)) (pow_in_range n S (and_parts _ _ h).0)
  typed_sound Γ (Eq' i (only t end) j (only u end)) h c =
      let p = and_parts _ _ h in
      then_sound n (typed maps Γ t) (λ T. then (typed maps Γ u) (λ U. expect T U (Ok Omega))) (typed_sound Γ t p.0 c) (λ T g. then_sound n (typed maps Γ u) (λ U. expect T U (Ok Omega)) (typed_sound Γ u p.1 c) (λ U k. expect_sound n T U (Ok Omega) (omega_in_range n)))
  typed_sound Γ (Member' i (only t end) j (only u end)) h c =
      let p = and_parts _ _ h in
      then_sound n (typed maps Γ t) (λ T. then (typed maps Γ u) (λ U. power U (λ S. expect S T (Ok Omega)))) (typed_sound Γ t p.0 c) (λ T g. then_sound n (typed maps Γ u) (λ U. power U (λ S. expect S T (Ok Omega))) (typed_sound Γ u p.1 c) (λ U k. power_sound n U (λ S. expect S T (Ok Omega)) (λ S. expect_sound n S T (Ok Omega) (omega_in_range n))))
  typed_sound Γ Truth h c = (omega_in_range n)
  typed_sound Γ Falsity h c = (omega_in_range n)
  typed_sound Γ (And' i (only t end) j (only u end)) h c = formula_sound n (typed maps Γ t) (formula (typed maps Γ u) (Ok Omega)) (formula_sound n (typed maps Γ u) (Ok Omega) (omega_in_range n))
  typed_sound Γ (Or' i (only t end) j (only u end)) h c = formula_sound n (typed maps Γ t) (formula (typed maps Γ u) (Ok Omega)) (formula_sound n (typed maps Γ u) (Ok Omega) (omega_in_range n))
  typed_sound Γ (Implies' i (only t end) j (only u end)) h c = formula_sound n (typed maps Γ t) (formula (typed maps Γ u) (Ok Omega)) (formula_sound n (typed maps Γ u) (Ok Omega) (omega_in_range n))
  typed_sound Γ (Not' i (only t end)) h c = formula_sound n (typed maps Γ t) (Ok Omega) (omega_in_range n)
  typed_sound Γ (Forall' S i (only t end)) h c = formula_sound n (typed maps (S ∷ Γ) t) (Ok Omega) (omega_in_range n)
  typed_sound Γ (Exists' S i (only t end)) h c = formula_sound n (typed maps (S ∷ Γ) t) (Ok Omega) (omega_in_range n)
  typed_sound Γ (Unique' S i (only t end)) h c = formula_sound n (typed maps (S ∷ Γ) t) (Ok Omega) (omega_in_range n)

  pub found_in_range : (Γ : List Ty) (t : Term) (T : Ty) → is_term_in_range n (length maps) t ≡ true → AllInRange n Γ → typed maps Γ t ≡ Ok T → InRange n T
  found_in_range Γ t T h c e = subst (Sound n) e (typed_sound Γ t h c)

  -- what a subterm needs
  abbrev own : List Ty × Term → List Ty
  own s = found (typed maps s.0 s.1) ++ product s.0 ∷ s.0

  abbrev Each : List (List Ty × Term) → Type 0
  Each l = (U : Ty) → In (flat_map own l) U → InRange n U

  found_sound : (typing : Typing) → Sound n typing → (U : Ty) → In (found typing) U → InRange n U
  found_sound (Ok T) h U i = elim i [ inl e ↦ subst (InRange n) e h | inr none ↦ absurd none ]
  found_sound (Err fault) h U i = absurd i

  each_own : (Γ : List Ty) (t : Term) → is_term_in_range n (length maps) t ≡ true → AllInRange n Γ → (U : Ty) → In (own (Γ, t)) U → InRange n U
  each_own Γ t h c U i = elim (In-append_cases (found (typed maps Γ t)) (product Γ ∷ Γ) U i) [
    | inl a ↦ found_sound (typed maps Γ t) (typed_sound Γ t h c) U a
    | inr b ↦ elim b [ inl e ↦ subst (InRange n) e (product_in_range n Γ c) | inr k ↦ all_each (is_type_in_range n) Γ U c k ]
  ]

  each_whole : (Γ : List Ty) (t : Term) → is_term_in_range n (length maps) t ≡ true → AllInRange n Γ → Each (inner Γ t) → Each ((Γ, t) ∷ inner Γ t)
  each_whole Γ t h c k U i = elim (In-append_cases (own (Γ, t)) (flat_map own (inner Γ t)) U i) [ inl a ↦ each_own Γ t h c U a | inr b ↦ k U b ]

  each_both : (xs ys : List (List Ty × Term)) → Each xs → Each ys → Each (xs ++ ys)
  each_both xs ys h k U i =
      let (s, j, p) = In-flat_map_from own (xs ++ ys) U i in
      elim (In-append_cases xs ys s j) [ inl a ↦ h U (In-flat_map own xs s U a p) | inr b ↦ k U (In-flat_map own ys s U b p) ]

  each_inner : (Γ : List Ty) (t : Term) → is_term_in_range n (length maps) t ≡ true → AllInRange n Γ → Each (inner Γ t)
  unfolding inner is_term_in_range
  each_inner Γ (Var k) h c = λ U none. absurd none
  each_inner Γ Star h c = λ U none. absurd none
  each_inner Γ (Pair' i (only t end) j (only u end)) h c = let p = and_parts _ _ h in each_both ((Γ, t) ∷ inner Γ t) ((Γ, u) ∷ inner Γ u) (each_whole Γ t p.0 c (each_inner Γ t p.0 c)) (each_whole Γ u p.1 c (each_inner Γ u p.1 c))
  each_inner Γ (Fst' i (only t end)) h c = each_whole Γ t h c (each_inner Γ t h c)
  each_inner Γ (Snd' i (only t end)) h c = each_whole Γ t h c (each_inner Γ t h c)
  each_inner Γ (App' m i (only t end)) h c = let k = (and_parts _ _ h).1 in each_whole Γ t k c (each_inner Γ t k c)
  each_inner Γ (Eval' i (only t end) j (only u end)) h c = let p = and_parts _ _ h in each_both ((Γ, t) ∷ inner Γ t) ((Γ, u) ∷ inner Γ u) (each_whole Γ t p.0 c (each_inner Γ t p.0 c)) (each_whole Γ u p.1 c (each_inner Γ u p.1 c))
  each_inner Γ (Lam' S i (only t end)) h c = let p = and_parts _ _ h in let k = bound n Γ S c p.0 in each_whole (S ∷ Γ) t p.1 k (each_inner (S ∷ Γ) t p.1 k)
  each_inner Γ (Compr' S i (only t end)) h c = let p = and_parts _ _ h in let k = bound n Γ S c p.0 in each_whole (S ∷ Γ) t p.1 k (each_inner (S ∷ Γ) t p.1 k)
  each_inner Γ (Eq' i (only t end) j (only u end)) h c = let p = and_parts _ _ h in each_both ((Γ, t) ∷ inner Γ t) ((Γ, u) ∷ inner Γ u) (each_whole Γ t p.0 c (each_inner Γ t p.0 c)) (each_whole Γ u p.1 c (each_inner Γ u p.1 c))
  each_inner Γ (Member' i (only t end) j (only u end)) h c = let p = and_parts _ _ h in each_both ((Γ, t) ∷ inner Γ t) ((Γ, u) ∷ inner Γ u) (each_whole Γ t p.0 c (each_inner Γ t p.0 c)) (each_whole Γ u p.1 c (each_inner Γ u p.1 c))
  each_inner Γ Truth h c = λ U none. absurd none
  each_inner Γ Falsity h c = λ U none. absurd none
  each_inner Γ (And' i (only t end) j (only u end)) h c = let p = and_parts _ _ h in each_both ((Γ, t) ∷ inner Γ t) ((Γ, u) ∷ inner Γ u) (each_whole Γ t p.0 c (each_inner Γ t p.0 c)) (each_whole Γ u p.1 c (each_inner Γ u p.1 c))
  each_inner Γ (Or' i (only t end) j (only u end)) h c = let p = and_parts _ _ h in each_both ((Γ, t) ∷ inner Γ t) ((Γ, u) ∷ inner Γ u) (each_whole Γ t p.0 c (each_inner Γ t p.0 c)) (each_whole Γ u p.1 c (each_inner Γ u p.1 c))
  each_inner Γ (Implies' i (only t end) j (only u end)) h c = let p = and_parts _ _ h in each_both ((Γ, t) ∷ inner Γ t) ((Γ, u) ∷ inner Γ u) (each_whole Γ t p.0 c (each_inner Γ t p.0 c)) (each_whole Γ u p.1 c (each_inner Γ u p.1 c))
  each_inner Γ (Not' i (only t end)) h c = each_whole Γ t h c (each_inner Γ t h c)
  each_inner Γ (Forall' S i (only t end)) h c = let p = and_parts _ _ h in let k = bound n Γ S c p.0 in each_whole (S ∷ Γ) t p.1 k (each_inner (S ∷ Γ) t p.1 k)
  each_inner Γ (Exists' S i (only t end)) h c = let p = and_parts _ _ h in let k = bound n Γ S c p.0 in each_whole (S ∷ Γ) t p.1 k (each_inner (S ∷ Γ) t p.1 k)
  each_inner Γ (Unique' S i (only t end)) h c = let p = and_parts _ _ h in let k = bound n Γ S c p.0 in each_whole (S ∷ Γ) t p.1 k (each_inner (S ∷ Γ) t p.1 k)

  pub names_in_range : (Γ : List Ty) (t : Term) → is_term_in_range n (length maps) t ≡ true → AllInRange n Γ → (m : ℕ) → In (term_needs maps Γ t) (Base m) → m < n
  unfolding term_needs is_type_in_range
  names_in_range Γ t h c m i =
      let (U, j, k) = In-flat_map_from parts (flat_map own ((Γ, t) ∷ inner Γ t)) (Base m) i in
      name_in_range m (all_each (is_part_in_range n) (parts U) (Base m) (each_whole Γ t h c (each_inner Γ t h c) U j) k)
    where
      name_in_range : (m : ℕ) → is_part_in_range n (Base m) ≡ true → m < n
      name_in_range m e = ltb-true m n (sym (part_name n m) ∙ e)
