-- What one more place brings to a closed set.
use Rattle.std.specs.Prelude.{◌≡◌, ℕ, ◌<◌, Bool, true, false, List, get_or}

-- c has no place before j that a has not
abbrev pub KeepsBefore : ℕ → List Bool → List Bool → Type 0
KeepsBefore j a c = (k : ℕ) → k < j → get_or c k false ≡ true → get_or a k false ≡ true

-- k is before j, and c has it and a has not
abbrev pub IsNewBefore : ℕ → List Bool → List Bool → ℕ → Type 0
IsNewBefore j a c k = (k < j) × (get_or a k false ≡ false) × (get_or c k false ≡ true)
