use Rattle.functor_store.specs.Store.{functor_at, restriction_along}
use Rattle.truth_tables.proofs.Rows.{row-more}
use Rattle.term_objects.proofs.presheaves.sealed_row.Goals as goal

pub loop-k-preserved : goal.loop-k-preserved
loop-k-preserved c =
    row-more (restriction_along c.args.store.now.ends (functor_at c.args.store.now.sealed c.args.id) c.args.f) c.loop-k.k c.loop-k.numbers _ c.restrict.result c.loop-k.invariant c.in_ok-push.ensures.ok c.restrict.ensures.number
