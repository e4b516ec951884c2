use Rattle.std.proofs.Common.{◌≡◌, ◌<◌, ℕ, length, get_or}
use Rattle.functor_store.specs.Store.{functor_at, restrictions_at}
use Rattle.truth_tables.specs.Abstraction.{row_of, IsNumbered}
use Rattle.truth_tables.proofs.abstraction.numbers_at.Given as goal

-- the numbers so far
abbrev pub invariant-loop-i : goal.invariant-loop-i
invariant-loop-i l =
    (length l.numbers ≡ l.i) ×
    ((i : ℕ) → i < l.i → IsNumbered (functor_at l.store.sealed l.id) l.c (row_of l.sources (restrictions_at (functor_at l.store.sealed l.context) l.c i) l.widths l.body) (get_or l.numbers i 0))
