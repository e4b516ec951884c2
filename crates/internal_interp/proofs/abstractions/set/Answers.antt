use Rattle.std.proofs.Common.{ap, ◌∙◌}
use Rattle.topos_model.specs.declared.ty.Ty.{Pow}
use Rattle.internal_interp.proofs.AbstractionFacts.{held_set, set_body}
use Rattle.internal_interp.proofs.abstractions.set.Goals as goal

pub place_of-id-requires : goal.place_of-id-requires
place_of-id-requires c =
    let (w, maps, Γ, t, h) = c.requires.known in
    record { held = held_set w maps c.args.interpreter.now Γ c.args.context.now c.args.ty.now c.args.inner.now t c.args.body h _ (ap Pow (c.in_ok-new.ensures ∙ c.in_ok-of.ensures)) }

pub comprehension_table-requires-clause-part : goal.comprehension_table-requires-clause-part
comprehension_table-requires-clause-part c =
    let (w, maps, Γ, t, h) = c.requires.known in
    (w, Γ, c.args.ty.now, t, set_body w maps c.args.interpreter.now Γ c.args.context.now _ c.tuples.ensures _ c.args.ty.now c.args.inner.now t c.args.body h _ (ap Pow (c.in_ok-new.ensures ∙ c.in_ok-of.ensures)) _ c.place_of-id.ensures.place (c.as_slice.ensures ∙ c.in_ok-widths.ensures w maps h.known.knows) _ c.tuples-2.ensures)

pub returns : goal.returns
returns c = λ w maps Γ t h. record {
  type_is = ap Pow (c.in_ok-new.ensures ∙ c.in_ok-of.ensures);
  stands = c.in_ok-numbers.ensures.stands w Γ c.args.ty.now t
      (set_body w maps c.args.interpreter.now Γ c.args.context.now _ c.tuples.ensures _ c.args.ty.now c.args.inner.now t c.args.body h _ (ap Pow (c.in_ok-new.ensures ∙ c.in_ok-of.ensures)) _ c.place_of-id.ensures.place (c.as_slice.ensures ∙ c.in_ok-widths.ensures w maps h.known.knows) _ c.tuples-2.ensures);
}
