use Rattle.std.proofs.Common.{◌≡◌, ◌<◌, ℕ, length, get_or}
use Rattle.truth_tables.specs.Tables.{row}
use Rattle.truth_tables.proofs.tables.table.Given as goal

-- the rows so far
abbrev pub invariant-loop-c : goal.invariant-loop-c
invariant-loop-c g l =
    (f : ℕ → ℕ → _) → ((c i : ℕ) (x : _) → c < length l.sizes → i < get_or l.sizes c 0 → goal.F-post g l.entry c i x → x ≡ f c i) →
    l.rows ≡ row l.c (λ c. row (get_or l.sizes c 0) (f c))
