use Rattle.functor_store.proofs.ArrowTables.{Counted}
use Rattle.functor_store.proofs.tables.arrow_tables.Given as goal

abbrev pub invariant-loop-c : goal.invariant-loop-c
invariant-loop-c l = Counted l.objects l.fn.ends l.c-index l.into.items l.places
