use Rattle.std.proofs.Common.{ap, ◌∙◌}
use Rattle.topos_model.specs.declared.ty.Ty.{Fun}
use Rattle.internal_interp.proofs.AbstractionFacts.{held_function, function_body}
use Rattle.internal_interp.proofs.abstractions.function.Goals as goal

pub place_of-id-requires : goal.place_of-id-requires
place_of-id-requires c =
    let (w, maps, Γ, T, t, h) = c.requires.known in
    record { held = held_function w maps c.args.interpreter.now Γ c.args.context.now c.args.ty.now T t c.args.body h _ (ap (λ V. Fun V c.in_ok-new-2.field-0) (c.in_ok-new.ensures ∙ c.in_ok-domain.ensures) ∙ ap (Fun c.args.ty.now) (c.in_ok-new-2.ensures ∙ h.stands.type_is)) }

pub function_table-requires-clause-part : goal.function_table-requires-clause-part
function_table-requires-clause-part c =
    let (w, maps, Γ, T, t, h) = c.requires.known in
    (w, Γ, c.args.ty.now, T, t, function_body w maps c.args.interpreter.now Γ c.args.context.now _ c.tuples.ensures _ c.args.ty.now T t c.args.body h _ (ap (λ V. Fun V c.in_ok-new-2.field-0) (c.in_ok-new.ensures ∙ c.in_ok-domain.ensures) ∙ ap (Fun c.args.ty.now) (c.in_ok-new-2.ensures ∙ h.stands.type_is)) _ c.place_of-id.ensures.place (c.as_slice.ensures ∙ c.in_ok-widths.ensures w maps h.known.knows))

pub returns : goal.returns
returns c = λ w maps Γ T t h. record {
  type_is = ap (λ V. Fun V c.in_ok-new-2.field-0) (c.in_ok-new.ensures ∙ c.in_ok-domain.ensures) ∙ ap (Fun c.args.ty.now) (c.in_ok-new-2.ensures ∙ h.stands.type_is);
  stands = c.in_ok-numbers.ensures.stands w Γ c.args.ty.now T t
      (function_body w maps c.args.interpreter.now Γ c.args.context.now _ c.tuples.ensures _ c.args.ty.now T t c.args.body h _ (ap (λ V. Fun V c.in_ok-new-2.field-0) (c.in_ok-new.ensures ∙ c.in_ok-domain.ensures) ∙ ap (Fun c.args.ty.now) (c.in_ok-new-2.ensures ∙ h.stands.type_is)) _ c.place_of-id.ensures.place (c.as_slice.ensures ∙ c.in_ok-widths.ensures w maps h.known.knows));
}
