-- Components and lists of few entries, by their entries.
use Rattle.std.proofs.Common.{◌≡◌, ℕ, List, [], ◌∷◌, length, get_or, refl, ap, arith}
use Rattle.topos_model.specs.presheaves.Maps.{Components, component}

pub one_component : (m : Components) → length m ≡ 1 → m ≡ component m 0 ∷ []
one_component [] e = absurd (omega arith)
one_component (r ∷ []) e = refl
one_component (r ∷ s ∷ m) e = absurd (omega arith)

pub two_components : (l : Components) → length l ≡ 2 → l ≡ component l 0 ∷ component l 1 ∷ []
two_components [] e = absurd (omega arith)
two_components (r ∷ []) e = absurd (omega arith)
two_components (r ∷ s ∷ []) e = refl
two_components (r ∷ s ∷ t ∷ l) e = absurd (omega arith)

pub one_entry : (r : List ℕ) → length r ≡ 1 → r ≡ get_or r 0 0 ∷ []
one_entry [] e = absurd (omega arith)
one_entry (a ∷ []) e = refl
one_entry (a ∷ b ∷ r) e = absurd (omega arith)

pub two_entries : (r : List ℕ) → length r ≡ 2 → r ≡ get_or r 0 0 ∷ get_or r 1 0 ∷ []
two_entries [] e = absurd (omega arith)
two_entries (a ∷ r) e = ap (λ (s : List ℕ). a ∷ s) (one_entry r (omega arith))

pub four_entries : (r : List ℕ) → length r ≡ 4 → r ≡ get_or r 0 0 ∷ get_or r 1 0 ∷ get_or r 2 0 ∷ get_or r 3 0 ∷ []
four_entries [] e = absurd (omega arith)
four_entries (a ∷ []) e = absurd (omega arith)
four_entries (a ∷ b ∷ r) e = ap (λ (s : List ℕ). a ∷ b ∷ s) (two_entries r (omega arith))

pub no_entries : (r : List ℕ) → length r ≡ 0 → r ≡ []
no_entries [] e = refl
no_entries (x ∷ r) e = absurd (omega arith)
