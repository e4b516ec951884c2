-- Marks on numbers.
use Rattle.std.specs.Prelude.{◌≡◌, ◌≢◌, ℕ, Bool, true, false, List, get_or}

-- a number is marked, and of the others the same as before
pub record IsMarkedBesides (n : ℕ) (old new : List Bool) : Type 0 where
  pub marked : get_or new n false ≡ true
  pub others : (m : ℕ) → m ≢ n → get_or new m false ≡ get_or old m false
