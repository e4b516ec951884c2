use Rattle.std.proofs.Common.{ap, ◌∙◌, reverse, [], ◌∷◌, ◌++◌}
use Rattle.term_typing.proofs.Listing.{counts_exactly}
use Rattle.term_typing.proofs.typing.counted.Goals as goal

pub returns-clause-types : goal.returns-clause-types
returns-clause-types c =
    let Γ = reverse c.args.ctx.now.types in
    counts_exactly c.args.maps.now Γ _ _ c.in_ok-context_product.field-0 c.args.term.now
    (c.in_ok-push.ensures.ok ∙ ap (λ l. l ++ c.in_ok-context_product.field-0 ∷ []) c.new-listed.ensures)
    (rw c.as_slice.ensures at c.in_ok-context_product.ensures)
    (rw c.in_ok-types.ensures at c.in_ok-found.ensures.noted)
