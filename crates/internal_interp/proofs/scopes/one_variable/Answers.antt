use Rattle.std.proofs.Common.{[], ◌∷◌, ◌++◌, sym, ap, ◌∙◌}
use Rattle.truth_tables.specs.Tables.{row}
use Rattle.internal_interp.proofs.SealedContexts.{scope_one}
use Rattle.internal_interp.proofs.scopes.one_variable.Goals as goal

pub returns : goal.returns
returns c = λ w maps knows.
    scope_one w maps c.args.interpreter.now knows _ c.args.ty.now c.in_ok-widths.field-0 c.in_ok-widths-2.field-0 c.in_ok-single_tuples.field-0
    (c.in_ok-single.ensures ∙ ap (λ T. T ∷ []) c.in_ok-copy.ensures) c.in_ok-copy-2.ensures c.place_of-place.ensures.place (c.in_ok-widths.ensures w maps knows) (c.in_ok-widths-2.ensures w maps knows)
    (c.in_ok-single_tuples.ensures ∙ ap (λ n. row n (λ c. 1)) (c.objects.ensures.count ∙ ap (λ k. k.objects) c.cat.ensures ∙ ap (λ s. s.category.objects) (sym knows.site)))
    (c.sizes-2.view_is ∙ c.in_ok-push.ensures.ok ∙ ap (λ l. l ++ c.in_ok-single_tuples.field-0 ∷ []) c.in_ok-sizes.ensures) c.in_ok-single-2.ensures
