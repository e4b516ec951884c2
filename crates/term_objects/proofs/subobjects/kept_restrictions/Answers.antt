use Rattle.std.proofs.Common.{[], get_or, map, ap, ap₂, ◌∙◌}
use Rattle.truth_tables.proofs.Rows.{row-more}
use Rattle.term_objects.specs.KeptElements.{kept_along, moved}
use Rattle.term_objects.proofs.subobjects.kept_restrictions.Goals as goal

pub loop-f-preserved : goal.loop-f-preserved
unfolding kept_along
loop-f-preserved c =
    let numbers = c.args.numbers.now in
    let places = c.args.places.now in
    let f = c.loop-f.f in
    row-more (kept_along c.args.cat.now c.args.store.now c.args.id numbers places) f c.loop-f.rows _ c.in_ok-restricted.field-0 c.loop-f.invariant c.in_ok-push.ensures.ok
    (c.in_ok-restricted.ensures
    ∙ ap₂ (λ n q. map (λ x. get_or q (moved c.args.store.now c.args.id f x) 0) n)
    (c.row_at-numbers.ensures ∙ ap (λ d. get_or numbers d []) c.cod.ensures.value) (c.row_at-places.ensures ∙ ap (λ d. get_or places d []) c.dom.ensures.value))
