-- A term whose maps are declared has the same type, and needs the same types, with more maps.
use Rattle.std.proofs.Common.{◌≡◌, ℕ, true, ltb, List, ◌∷◌, ◌++◌, length, refl, sym, ap, ◌∙◌}
use Rattle.std.specs.Prelude.{Ok}
use Rattle.std.specs.List.{flat_map}
use Rattle.std.proofs.lemmas.Bool.{and_parts, ltb-true}
use Rattle.std.proofs.lemmas.List.{get_or_append_left}
use Rattle.std.proofs.lemmas.Grind.{flat_map-append}
use Rattle.topos_model.specs.declared.ty.Ty.{Ty, One, Omega, Two, Pow, Fun}
use Rattle.topos_model.specs.declared.context.MapTy.{MapTy}
use Rattle.topos_model.specs.declared.term.Term.{Term, Var, Star, Pair', Fst', Snd', App', Eval', Lam', Compr', Eq', Member', Truth, Falsity, And', Or', Implies', Not', Forall', Exists', Unique', more_of-Term as only, end_of-Term as end}
use Rattle.topos_model.specs.formulas.Typing.{Typing, then, expect, formula, function, power, pair, ends_of, typed}
use Rattle.topos_model.specs.statements.Needs.{parts, product, inner, found, term_needs}
use Rattle.term_ranges.specs.Ranges.{is_term_in_range}

both : {a b c d : Typing} (F : Typing → Typing → Typing) → a ≡ b → c ≡ d → F a c ≡ F b d
both {a} {b} {c} {d} F e f = ap (λ x. F x c) e ∙ ap (F b) f

-- the type of a map's value, from that of its argument and the map's ends
image : Typing → MapTy → Typing
image typing ends = then typing (λ T. expect ends.dom T (Ok ends.cod))

module _ (n : ℕ) (maps more : List MapTy) where
  same_ends : (m : ℕ) → ltb m (length maps) ≡ true → ends_of (maps ++ more) m ≡ ends_of maps m
  same_ends m h = get_or_append_left maps more (record { dom = One; cod = One }) m (ltb-true m (length maps) h)

  applied : {a b : Typing} (m : ℕ) → a ≡ b → ends_of (maps ++ more) m ≡ ends_of maps m → then a (λ T. expect (ends_of (maps ++ more) m).dom T (Ok (ends_of (maps ++ more) m).cod)) ≡ then b (λ T. expect (ends_of maps m).dom T (Ok (ends_of maps m).cod))
  unfolding image
  applied {a} {b} m e f = ap (λ x. image x (ends_of (maps ++ more) m)) e ∙ ap (image b) f

  pub typed_stable : (Γ : List Ty) (t : Term) → is_term_in_range n (length maps) t ≡ true → typed (maps ++ more) Γ t ≡ typed maps Γ t
  unfolding typed is_term_in_range
  typed_stable Γ (Var k) h = refl
  typed_stable Γ Star h = refl
  typed_stable Γ (Pair' i (only t end) j (only u end)) h = let p = and_parts _ _ h in both (λ a b. then a (λ T. then b (λ U. Ok (Two T U)))) (typed_stable Γ t p.0) (typed_stable Γ u p.1)
  typed_stable Γ (Fst' i (only t end)) h = ap (λ a. then a (λ T. pair T (λ S U. Ok S))) (typed_stable Γ t h)
  typed_stable Γ (Snd' i (only t end)) h = ap (λ a. then a (λ T. pair T (λ S U. Ok U))) (typed_stable Γ t h)
  typed_stable Γ (App' m i (only t end)) h = let p = and_parts _ _ h in applied m (typed_stable Γ t p.1) (same_ends m p.0)
  typed_stable Γ (Eval' i (only t end) j (only u end)) h = let p = and_parts _ _ h in both (λ a b. then a (λ T. then b (λ U. function T (λ S V. expect S U (Ok V))))) (typed_stable Γ t p.0) (typed_stable Γ u p.1)
  typed_stable Γ (Lam' S i (only t end)) h = ap (λ a. then a (λ U. Ok (Fun S U))) (typed_stable (S ∷ Γ) t (and_parts _ _ h).1)
  typed_stable Γ (Compr' S i (only t end)) h = ap (λ a. formula a (Ok (Pow S))) (typed_stable (S ∷ Γ) t (and_parts _ _ h).1)
  typed_stable Γ (Eq' i (only t end) j (only u end)) h = let p = and_parts _ _ h in both (λ a b. then a (λ T. then b (λ U. expect T U (Ok Omega)))) (typed_stable Γ t p.0) (typed_stable Γ u p.1)
  typed_stable Γ (Member' i (only t end) j (only u end)) h = let p = and_parts _ _ h in both (λ a b. then a (λ T. then b (λ U. power U (λ S. expect S T (Ok Omega))))) (typed_stable Γ t p.0) (typed_stable Γ u p.1)
  typed_stable Γ Truth h = refl
  typed_stable Γ Falsity h = refl
  typed_stable Γ (And' i (only t end) j (only u end)) h = let p = and_parts _ _ h in both (λ a b. formula a (formula b (Ok Omega))) (typed_stable Γ t p.0) (typed_stable Γ u p.1)
  typed_stable Γ (Or' i (only t end) j (only u end)) h = let p = and_parts _ _ h in both (λ a b. formula a (formula b (Ok Omega))) (typed_stable Γ t p.0) (typed_stable Γ u p.1)
  typed_stable Γ (Implies' i (only t end) j (only u end)) h = let p = and_parts _ _ h in both (λ a b. formula a (formula b (Ok Omega))) (typed_stable Γ t p.0) (typed_stable Γ u p.1)
  typed_stable Γ (Not' i (only t end)) h = ap (λ a. formula a (Ok Omega)) (typed_stable Γ t h)
  typed_stable Γ (Forall' S i (only t end)) h = ap (λ a. formula a (Ok Omega)) (typed_stable (S ∷ Γ) t (and_parts _ _ h).1)
  typed_stable Γ (Exists' S i (only t end)) h = ap (λ a. formula a (Ok Omega)) (typed_stable (S ∷ Γ) t (and_parts _ _ h).1)
  typed_stable Γ (Unique' S i (only t end)) h = ap (λ a. formula a (Ok Omega)) (typed_stable (S ∷ Γ) t (and_parts _ _ h).1)

  -- what a subterm needs
  abbrev own : List MapTy → List Ty × Term → List Ty
  own maps s = found (typed maps s.0 s.1) ++ product s.0 ∷ s.0

  abbrev Same : List (List Ty × Term) → Type 0
  Same l = flat_map (own (maps ++ more)) l ≡ flat_map (own maps) l

  same_own : (Γ : List Ty) (t : Term) → is_term_in_range n (length maps) t ≡ true → own (maps ++ more) (Γ, t) ≡ own maps (Γ, t)
  same_own Γ t h = ap (λ x. found x ++ product Γ ∷ Γ) (typed_stable Γ t h)

  same_whole : (Γ : List Ty) (t : Term) → is_term_in_range n (length maps) t ≡ true → Same (inner Γ t) → Same ((Γ, t) ∷ inner Γ t)
  same_whole Γ t h k = ap (λ l. l ++ flat_map (own (maps ++ more)) (inner Γ t)) (same_own Γ t h) ∙ ap (λ l. own maps (Γ, t) ++ l) k

  same_both : (xs ys : List (List Ty × Term)) → Same xs → Same ys → Same (xs ++ ys)
  same_both xs ys h k =
      flat_map-append (own (maps ++ more)) xs ys
      ∙ ap (λ l. l ++ flat_map (own (maps ++ more)) ys) h
      ∙ ap (λ l. flat_map (own maps) xs ++ l) k
      ∙ sym (flat_map-append (own maps) xs ys)

  needs_inner : (Γ : List Ty) (t : Term) → is_term_in_range n (length maps) t ≡ true → Same (inner Γ t)
  unfolding inner is_term_in_range
  needs_inner Γ (Var k) h = refl
  needs_inner Γ Star h = refl
  needs_inner Γ (Pair' i (only t end) j (only u end)) h = let p = and_parts _ _ h in same_both ((Γ, t) ∷ inner Γ t) ((Γ, u) ∷ inner Γ u) (same_whole Γ t p.0 (needs_inner Γ t p.0)) (same_whole Γ u p.1 (needs_inner Γ u p.1))
  needs_inner Γ (Fst' i (only t end)) h = same_whole Γ t h (needs_inner Γ t h)
  needs_inner Γ (Snd' i (only t end)) h = same_whole Γ t h (needs_inner Γ t h)
  needs_inner Γ (App' m i (only t end)) h = let k = (and_parts _ _ h).1 in same_whole Γ t k (needs_inner Γ t k)
  needs_inner Γ (Eval' i (only t end) j (only u end)) h = let p = and_parts _ _ h in same_both ((Γ, t) ∷ inner Γ t) ((Γ, u) ∷ inner Γ u) (same_whole Γ t p.0 (needs_inner Γ t p.0)) (same_whole Γ u p.1 (needs_inner Γ u p.1))
  needs_inner Γ (Lam' S i (only t end)) h = let k = (and_parts _ _ h).1 in same_whole (S ∷ Γ) t k (needs_inner (S ∷ Γ) t k)
  needs_inner Γ (Compr' S i (only t end)) h = let k = (and_parts _ _ h).1 in same_whole (S ∷ Γ) t k (needs_inner (S ∷ Γ) t k)
  needs_inner Γ (Eq' i (only t end) j (only u end)) h = let p = and_parts _ _ h in same_both ((Γ, t) ∷ inner Γ t) ((Γ, u) ∷ inner Γ u) (same_whole Γ t p.0 (needs_inner Γ t p.0)) (same_whole Γ u p.1 (needs_inner Γ u p.1))
  needs_inner Γ (Member' i (only t end) j (only u end)) h = let p = and_parts _ _ h in same_both ((Γ, t) ∷ inner Γ t) ((Γ, u) ∷ inner Γ u) (same_whole Γ t p.0 (needs_inner Γ t p.0)) (same_whole Γ u p.1 (needs_inner Γ u p.1))
  needs_inner Γ Truth h = refl
  needs_inner Γ Falsity h = refl
  needs_inner Γ (And' i (only t end) j (only u end)) h = let p = and_parts _ _ h in same_both ((Γ, t) ∷ inner Γ t) ((Γ, u) ∷ inner Γ u) (same_whole Γ t p.0 (needs_inner Γ t p.0)) (same_whole Γ u p.1 (needs_inner Γ u p.1))
  needs_inner Γ (Or' i (only t end) j (only u end)) h = let p = and_parts _ _ h in same_both ((Γ, t) ∷ inner Γ t) ((Γ, u) ∷ inner Γ u) (same_whole Γ t p.0 (needs_inner Γ t p.0)) (same_whole Γ u p.1 (needs_inner Γ u p.1))
  needs_inner Γ (Implies' i (only t end) j (only u end)) h = let p = and_parts _ _ h in same_both ((Γ, t) ∷ inner Γ t) ((Γ, u) ∷ inner Γ u) (same_whole Γ t p.0 (needs_inner Γ t p.0)) (same_whole Γ u p.1 (needs_inner Γ u p.1))
  needs_inner Γ (Not' i (only t end)) h = same_whole Γ t h (needs_inner Γ t h)
  needs_inner Γ (Forall' S i (only t end)) h = let k = (and_parts _ _ h).1 in same_whole (S ∷ Γ) t k (needs_inner (S ∷ Γ) t k)
  needs_inner Γ (Exists' S i (only t end)) h = let k = (and_parts _ _ h).1 in same_whole (S ∷ Γ) t k (needs_inner (S ∷ Γ) t k)
  needs_inner Γ (Unique' S i (only t end)) h = let k = (and_parts _ _ h).1 in same_whole (S ∷ Γ) t k (needs_inner (S ∷ Γ) t k)

  pub needs_stable : (Γ : List Ty) (t : Term) → is_term_in_range n (length maps) t ≡ true → term_needs (maps ++ more) Γ t ≡ term_needs maps Γ t
  unfolding term_needs
  needs_stable Γ t h = ap (flat_map parts) (same_whole Γ t h (needs_inner Γ t h))
