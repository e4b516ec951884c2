use Rattle.std.proofs.Common.{◌≡◌}
use Rattle.functor_store.specs.Store.{functor_at, size_at}
use Rattle.truth_tables.specs.Tables.{row}
use Rattle.term_objects.proofs.presheaves.sealed_sizes.Given as goal

abbrev pub invariant-loop-c : goal.invariant-loop-c
invariant-loop-c l = l.sizes ≡ row l.c (size_at (functor_at l.store.sealed l.id))
