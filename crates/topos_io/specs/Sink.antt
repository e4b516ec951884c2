-- What a write and a finish do to what a sink holds, to the room that it is sure of, and to its count of faults.
use Rattle.std.specs.Prelude.{◌≡◌, ℕ, ◌+◌, ◌<◌, ◌≤◌, List, length, take, None, Some, ⊤}
use Rattle.std.specs.Io.KnownBytes.{Appends, Keeps}
use Rattle.std.specs.declared.option.Option.{Option}
use Rattle.topos_io.specs.Fault.{one_more}
use Rattle.topos_io.specs.declared.sink.Put.{Put}
use Rattle.topos_io.specs.declared.sink.Put.TheVariants.{Took, Failed}
use Rattle.topos_io.specs.declared.sink.Fin.{Fin}
use Rattle.topos_io.specs.declared.sink.Fin.TheVariants as fin

-- a write of a piece appended the bytes that it took, or nothing
abbrev pub Writes : Option (List ℕ) → Option (List ℕ) → List ℕ → Put → Type 0
Writes old new piece (Took n) = (0 < n) × (n ≤ length piece) × Appends old new (take n piece)
Writes old new piece Failed = Keeps old new

-- a write took n bytes, and the sink is still sure of the room less n
abbrev pub TakesFromRoom : ℕ → Option ℕ → Put → Type 0
TakesFromRoom room (Some rest) (Took n) = room ≡ n + rest
TakesFromRoom room None (Took n) = ⊥
TakesFromRoom room new Failed = ⊥

-- where the sink was sure of room for the piece, the write took from that room
abbrev pub WritesSurely : Option ℕ → Option ℕ → List ℕ → Put → Type 0
WritesSurely (Some room) new piece answer = length piece ≤ room → TakesFromRoom room new answer
WritesSurely None new piece answer = ⊤

-- where the sink was sure of some room, the finish is done, and the sink is still sure of it
abbrev pub FinishesSurely : Option ℕ → Option ℕ → Fin → Type 0
FinishesSurely (Some room) new answer = (answer ≡ fin.Done) × (new ≡ Some room)
FinishesSurely None new answer = ⊤

-- the count after a write: one more where it failed
abbrev pub faults_after_write : ℕ → Put → ℕ
faults_after_write faults (Took n) = faults
faults_after_write faults Failed = one_more faults

-- the count after a finish: one more where it failed
abbrev pub faults_after_finish : ℕ → Fin → ℕ
faults_after_finish faults fin.Done = faults
faults_after_finish faults fin.Failed = one_more faults
