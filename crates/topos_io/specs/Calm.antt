-- A sink that never fails.
use Rattle.std.specs.Prelude.{ℕ, Bool}

-- how many bytes were taken, up to the greatest u64, and whether the last answer was `Done`
pub record Tally : Type 0 where
  pub taken : ℕ
  pub settled : Bool
