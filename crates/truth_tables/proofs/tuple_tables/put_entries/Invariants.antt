use Rattle.std.proofs.Common.{◌≡◌, ◌<◌, ◌+◌, ◌++◌, ℕ, length}
use Rattle.truth_tables.specs.Tables.{row}
use Rattle.truth_tables.proofs.tuple_tables.put_entries.Given as goal

-- the entries so far
abbrev pub invariant-loop-i : goal.invariant-loop-i
invariant-loop-i g l =
    (length l.cells.items ≡ length l.initial.cells.items + l.i) ×
    ((f : ℕ → _) → ((i : ℕ) (x : _) → i < l.size → goal.F-post g l.entry l.c i x → x ≡ f i) → l.cells.items ≡ l.initial.cells.items ++ row l.i f)
