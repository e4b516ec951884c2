-- What a read does to the bytes that a source has left, and to its count of faults.
use Rattle.std.specs.Prelude.{ℕ, ◌<◌, ◌≤◌, List, length, take}
use Rattle.std.specs.Io.KnownBytes.{Consumes, Keeps, IsAtEnd}
use Rattle.std.specs.declared.option.Option.{Option}
use Rattle.topos_io.specs.Fault.{one_more}
use Rattle.topos_io.specs.declared.source.Took.{Took}
use Rattle.topos_io.specs.declared.source.Took.TheVariants.{Got, End, Failed}

-- a read into a buffer took the bytes that it gave, or ended where nothing is left, or took nothing
abbrev pub Reads : Option (List ℕ) → Option (List ℕ) → Took → List ℕ → Type 0
Reads old new (Got n) into = (0 < n) × (n ≤ length into) × Consumes old new (take n into)
Reads old new End into = Keeps old new × IsAtEnd new
Reads old new Failed into = Keeps old new

-- the count after a read: one more where it failed
abbrev pub faults_after_read : ℕ → Took → ℕ
faults_after_read faults (Got n) = faults
faults_after_read faults End = faults
faults_after_read faults Failed = one_more faults
