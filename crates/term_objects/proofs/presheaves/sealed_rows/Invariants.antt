use Rattle.std.proofs.Common.{◌≡◌}
use Rattle.topos_model.specs.categories.Category.{cod}
use Rattle.functor_store.specs.Store.{functor_at, size_at, restriction_along}
use Rattle.truth_tables.specs.Tables.{row}
use Rattle.term_objects.proofs.presheaves.sealed_rows.Given as goal

abbrev pub invariant-loop-f : goal.invariant-loop-f
invariant-loop-f l = l.rows ≡ row l.f (λ f. row (size_at (functor_at l.store.sealed l.id) (cod l.cat f)) (restriction_along l.store.ends (functor_at l.store.sealed l.id) f))
