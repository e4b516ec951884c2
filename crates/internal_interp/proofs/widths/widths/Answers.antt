use Rattle.std.proofs.Common.{sym, ap, ◌∙◌}
use Rattle.std.proofs.lemmas.Result.{IfOk-weaker}
use Rattle.functor_store.specs.Store.{functor_at, size_at}
use Rattle.truth_tables.specs.Tables.{row}
use Rattle.internal_interp.proofs.TermFacts.{widths_are}
use Rattle.internal_interp.proofs.widths.widths.Goals as goal

pub sizes_at-requires-clause-site : goal.sizes_at-requires-clause-site
sizes_at-requires-clause-site c =
    let (w, maps, knows) = c.requires.known in
    c.objects-objects.ensures.count ∙ ap (λ k. k.objects) c.cat.ensures ∙ ap (λ s. s.category.objects) (sym knows.site) ∙ sym knows.faithful.objects

pub returns : goal.returns
returns c =
    IfOk-weaker c.sizes_at.result _ _
    (λ sizes is w maps knows.
    widths_are w maps _ knows _ _ c.place_of-id.ensures.place sizes
    (is ∙ ap (λ n. row n (size_at (functor_at c.args.interpreter.now.store.now.sealed c.place_of-id.result))) (c.objects-objects.ensures.count ∙ ap (λ k. k.objects) c.cat.ensures ∙ ap (λ s. s.category.objects) (sym knows.site))))
    c.sizes_at.ensures
