-- Lists that rise in an order.
use Rattle.std.specs.Prelude.{◌≡◌, ℕ, ◌<◌, ◌⊎◌, List, [], ◌∷◌, ⊤}
use Rattle.finite_lists.specs.Members.{In}

-- each member is below each later one
abbrev pub Rising : {A : Type 0} → (A → A → Type 0) → List A → Type 0
Rising below [] = ⊤
Rising below (x ∷ xs) = ((y : _) → In xs y → below x y) × Rising below xs

-- at the first member of l that one of s and t has and the other has not, s is the one without it
abbrev pub SublistBelow : {A : Type 0} → List A → List A → List A → Type 0
SublistBelow [] s t = ⊥
SublistBelow (x ∷ l) s t = ((In s x → ⊥) × In t x) ⊎ ((In s x → In t x) × (In t x → In s x) × SublistBelow l s t)

-- at the first place where they differ, s has the lower member
abbrev pub LexicographicBelow : {A : Type 0} → (A → A → Type 0) → List A → List A → Type 0
LexicographicBelow below [] t = ⊥
LexicographicBelow below (x ∷ s) [] = ⊥
LexicographicBelow below (x ∷ s) (y ∷ t) = below x y ⊎ ((x ≡ y) × LexicographicBelow below s t)

abbrev pub NumbersBelow : List ℕ → List ℕ → Type 0
NumbersBelow s t = LexicographicBelow (λ m n. m < n) s t
