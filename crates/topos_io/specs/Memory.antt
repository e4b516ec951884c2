-- A source and a sink in memory, whose faults are planned.
use Rattle.std.specs.Prelude.{◌≡◌, ℕ, ◌-◌, Bool, List, length, None, Some, if◌then◌else◌, ◌==◌, min}
use Rattle.std.specs.declared.option.Option.{Option}

-- what is left, the most that a read gives, the numbers of the reads that fail, the number of the
-- next read, and the count of faults
pub record PlannedSource : Type 0 where
  pub left : List ℕ
  pub chunk : ℕ
  pub fail : List ℕ
  pub call : ℕ
  pub faults : ℕ

-- how many bytes a read into a buffer of this length gives, where some are left
abbrev pub read_size : PlannedSource → ℕ → ℕ
read_size s room = min s.chunk (min room (length s.left))

-- what is held, the most that is held, the most that a write takes, the numbers of the calls that
-- fail, the number of the next call, the count of faults, and whether the last answer was `Done`
pub record PlannedSink : Type 0 where
  pub held : List ℕ
  pub capacity : ℕ
  pub chunk : ℕ
  pub fail : List ℕ
  pub call : ℕ
  pub faults : ℕ
  pub settled : Bool

-- the free capacity
abbrev pub free_of : PlannedSink → ℕ
free_of s = s.capacity - length s.held

-- how many bytes a write of a piece of this length takes, where some capacity is free
abbrev pub write_size : PlannedSink → ℕ → ℕ
write_size s size = min s.chunk (min size (free_of s))

-- the room that the sink is sure of: the free capacity, where no call is to fail
abbrev pub sure_of : PlannedSink → Option ℕ
sure_of s = if length s.fail == 0 then Some (free_of s) else None

-- the capacity, the chunk and the calls that fail stay
abbrev pub SamePlan : PlannedSink → PlannedSink → Type 0
SamePlan old new = (new.capacity ≡ old.capacity) × (new.chunk ≡ old.chunk) × (new.fail ≡ old.fail)
