-- A source over a reader and a sink over a writer.
use Rattle.std.specs.Prelude.{ℕ, Bool, List}
use Rattle.std.specs.declared.option.Option.{Option}

-- what the reader has left, where it tells that, and the count of errors
pub record Input : Type 0 where
  pub left : Option (List ℕ)
  pub faults : ℕ

-- what the writer holds, where it tells that, the count of errors, and whether the last answer was `Done`
pub record Output : Type 0 where
  pub held : Option (List ℕ)
  pub faults : ℕ
  pub settled : Bool
