use Rattle.functor_store.specs.Store.{functor_at, size_at}
use Rattle.truth_tables.proofs.Rows.{row-more}
use Rattle.term_objects.proofs.presheaves.sealed_sizes.Goals as goal

pub loop-c-preserved : goal.loop-c-preserved
loop-c-preserved c =
    row-more (size_at (functor_at c.args.store.now.sealed c.args.id)) c.loop-c.c c.loop-c.sizes _ c.count.result c.loop-c.invariant c.in_ok-push.ensures.ok c.count.ensures.elements
