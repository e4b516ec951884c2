-- Rows of numbers against places, entry by entry.
use Rattle.std.proofs.Common.{◌≡◌, ℕ, suc, ◌<◌, inl, inr, List, [], ◌∷◌, ◌++◌, length, get_or, map, flat_map, refl, sym, ap, subst, ◌∙◌, arith}
use Rattle.finite_lists.specs.Members.{In}
use Rattle.finite_lists.specs.Rising.{Rising}

-- as many entries as places, each with its relation to its place
abbrev pub Matches : {A B : Type 0} → (A → B → Type 0) → List A → List B → Type 0
Matches P [] [] = Unit {0}
Matches P [] (y ∷ ys) = ⊥
Matches P (x ∷ xs) [] = ⊥
Matches P (x ∷ xs) (y ∷ ys) = P x y × Matches P xs ys

module _ {A B : Type 0} (P : A → B → Type 0) where
  pub matches_append : (xs xs' : List A) (ys ys' : List B) → Matches P xs ys → Matches P xs' ys' → Matches P (xs ++ xs') (ys ++ ys')
  matches_append [] xs' [] ys' h k = k
  matches_append [] xs' (y ∷ ys) ys' h k = absurd h
  matches_append (x ∷ xs) xs' [] ys' h k = absurd h
  matches_append (x ∷ xs) xs' (y ∷ ys) ys' h k = (h.0, matches_append xs xs' ys ys' h.1 k)

  pub matches_joined : {C : Type 0} (g : C → List A) (h : C → List B) (js : List C) → ((j : C) → In js j → Matches P (g j) (h j)) → Matches P (flat_map g js) (flat_map h js)
  matches_joined g h [] m = tt
  matches_joined g h (j ∷ js) m = matches_append (g j) (flat_map g js) (h j) (flat_map h js) (m j (inl refl)) (matches_joined g h js (λ k i. m k (inr i)))

  pub matches_from : (xs : List A) (ys : List B) (d : A) (e : B) → length xs ≡ length ys → ((i : ℕ) → i < length xs → P (get_or xs i d) (get_or ys i e)) → Matches P xs ys
  matches_from [] [] d e l h = tt
  matches_from [] (y ∷ ys) d e l h = absurd (omega (arith, l))
  matches_from (x ∷ xs) [] d e l h = absurd (omega (arith, l))
  matches_from (x ∷ xs) (y ∷ ys) d e l h = (h 0 (omega arith), matches_from xs ys d e (omega (arith, l)) (λ i low. h (suc i) (omega (arith, low))))

  pub matches_long : (xs : List A) (ys : List B) → Matches P xs ys → length xs ≡ length ys
  matches_long [] [] h = refl
  matches_long [] (y ∷ ys) h = absurd h
  matches_long (x ∷ xs) [] h = absurd h
  matches_long (x ∷ xs) (y ∷ ys) h = ap suc (matches_long xs ys h.1)

  -- a place has one entry at most, and so places have one row
  pub matches_same : ((x : A) (y z : B) → P x y → P x z → y ≡ z) → (xs : List A) (ys zs : List B) → Matches P xs ys → Matches P xs zs → ys ≡ zs
  matches_same one [] [] [] h k = refl
  matches_same one [] (y ∷ ys) zs h k = absurd h
  matches_same one [] [] (z ∷ zs) h k = absurd k
  matches_same one (x ∷ xs) [] zs h k = absurd h
  matches_same one (x ∷ xs) (y ∷ ys) [] h k = absurd k
  matches_same one (x ∷ xs) (y ∷ ys) (z ∷ zs) h k = ap (λ e. e ∷ ys) (one x y z h.0 k.0) ∙ ap (λ l. z ∷ l) (matches_same one xs ys zs h.1 k.1)

-- entries that are made of their places
pub matches_mapped : {A B : Type 0} (f : A → B) (xs : List A) (ys : List B) → ys ≡ map f xs → Matches (λ x y. y ≡ f x) xs ys
matches_mapped f xs ys e = subst (Matches (λ x y. y ≡ f x) xs) (sym e) (self xs)
  where
    self : (xs : List _) → Matches (λ x y. y ≡ f x) xs (map f xs)
    self [] = tt
    self (x ∷ xs) = (refl, self xs)

-- a list rises where each member is below each later one
pub rising_from : {A : Type 0} (below : A → A → Type 0) (d : A) (xs : List A) → ((i j : ℕ) → i < j → j < length xs → below (get_or xs i d) (get_or xs j d)) → Rising below xs
rising_from below d [] h = tt
rising_from below d (x ∷ xs) h = (λ y i. later xs (λ j low. h 0 (suc j) (omega arith) (omega (arith, low))) y i, rising_from below d xs (λ i j l low. h (suc i) (suc j) (omega (arith, l)) (omega (arith, low))))
  where
    later : (ys : List _) → ((j : ℕ) → j < length ys → below x (get_or ys j d)) → (y : _) → In ys y → below x y
    later [] h y i = absurd i
    later (z ∷ ys) h y (inl e) = subst (below x) e (h 0 (omega arith))
    later (z ∷ ys) h y (inr i) = later ys (λ j low. h (suc j) (omega (arith, low))) y i
