use Rattle.std.proofs.Common.{◌∷◌, ap, ◌∙◌}
use Rattle.internal_interp.proofs.Bindings.{scope_bound}
use Rattle.internal_interp.proofs.binding.bind.Goals as goal

pub returns : goal.returns
returns c = λ w maps Γ h.
    scope_bound w maps c.args.interpreter.now Γ c.args.context.now c.args.ty.now h _ (c.in_ok-with_first.ensures ∙ ap (λ T. T ∷ c.args.context.now.types) c.in_ok-copy.ensures) c.in_ok-product.ensures c.place_of-place.ensures.place
    c.in_ok-tuples.tuples c.in_ok-values.values (c.in_ok-tuples.ensures w maps h.knows) (c.in_ok-values.ensures w maps h.knows) c.in_ok-with_first-2.ensures c.in_ok-with_first-3.ensures
