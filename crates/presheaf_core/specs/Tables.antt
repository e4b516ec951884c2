-- Tables of the answers of a test.
use Rattle.std.specs.Prelude.{◌≡◌, ℕ, ◌<◌, Bool, false, List, length, get_or}

-- one answer for each number below n
pub record IsTable (test : ℕ → Bool) (n : ℕ) (bits : List Bool) : Type 0 where
  pub places : length bits ≡ n
  pub answers : (x : ℕ) → x < n → get_or bits x false ≡ test x
