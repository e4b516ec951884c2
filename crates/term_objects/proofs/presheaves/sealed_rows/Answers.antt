use Rattle.std.proofs.Common.{ap, ◌∙◌}
use Rattle.functor_store.specs.Store.{functor_at, size_at, restriction_along}
use Rattle.truth_tables.specs.Tables.{row}
use Rattle.truth_tables.proofs.Rows.{row-more}
use Rattle.term_objects.proofs.presheaves.sealed_rows.Goals as goal

pub loop-f-preserved : goal.loop-f-preserved
loop-f-preserved c =
    let F = functor_at c.args.store.now.sealed c.args.id in
    row-more _ c.loop-f.f c.loop-f.rows _ c.in_ok-sealed_row.field-0 c.loop-f.invariant c.in_ok-push.ensures.ok
    (c.in_ok-sealed_row.ensures ∙ ap (λ n. row n (restriction_along c.args.store.now.ends F c.loop-f.f)) (c.count-size.ensures.elements ∙ ap (size_at F) c.cod.ensures.value))
