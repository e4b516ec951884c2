use Rattle.std.proofs.Common.{◌≡◌}
use Rattle.functor_store.specs.Store.{functor_at, restriction_along}
use Rattle.truth_tables.specs.Tables.{row}
use Rattle.term_objects.proofs.presheaves.sealed_row.Given as goal

abbrev pub invariant-loop-k : goal.invariant-loop-k
invariant-loop-k l = l.numbers ≡ row l.k (restriction_along l.store.ends (functor_at l.store.sealed l.id) l.f)
