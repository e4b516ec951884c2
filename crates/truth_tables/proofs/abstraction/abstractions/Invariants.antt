use Rattle.std.proofs.Common.{◌≡◌, ◌<◌, ℕ, length, get_or, []}
use Rattle.functor_store.specs.Store.{functor_at, restrictions_at}
use Rattle.truth_tables.specs.Abstraction.{row_of, IsNumbered}
use Rattle.truth_tables.proofs.abstraction.abstractions.Given as goal

-- the rows so far
abbrev pub invariant-loop-c : goal.invariant-loop-c
invariant-loop-c l =
    (length l.numbers ≡ l.c) ×
    ((c : ℕ) → c < l.c → (length (get_or l.numbers c []) ≡ get_or l.sizes c 0) ×
    ((i : ℕ) → i < get_or l.sizes c 0 → IsNumbered (functor_at l.store.sealed l.id) c (row_of (get_or l.sources c []) (restrictions_at (functor_at l.store.sealed l.context) c i) l.widths l.body) (get_or (get_or l.numbers c []) i 0)))
