use Rattle.std.proofs.Common.{ap, ◌∙◌}
use Rattle.topos_model.specs.declared.ty.Ty.{Two}
use Rattle.internal_interp.proofs.TermFacts.{held_type, pair_parts}
use Rattle.internal_interp.proofs.products.pair.Goals as goal

pub widths-requires-clause-held : goal.widths-requires-clause-held
widths-requires-clause-held c = let (w, maps, Γ, S, T, t, u, h) = c.requires.known in held_type w maps c.args.interpreter.now Γ c.args.context.now T u c.args.right h.second_known h.second

pub pair_table-requires-clause-parts : goal.pair_table-requires-clause-parts
pair_table-requires-clause-parts c =
    let (w, maps, Γ, S, T, t, u, h) = c.requires.known in
    (w, Γ, S, T, t, u, pair_parts w maps _ Γ _ S T t u _ _ h _ _ c.tuples.ensures (c.as_slice.ensures ∙ c.in_ok-widths.ensures w maps h.first_known.knows))

pub returns : goal.returns
returns c = λ w maps Γ S T t u h. record {
  type_is = ap (λ V. Two V c.in_ok-new-2.field-0) (c.in_ok-new.ensures ∙ h.first.type_is) ∙ ap (Two S) (c.in_ok-new-2.ensures ∙ h.second.type_is);
  stands = c.in_ok-numbers.ensures.stands w Γ S T t u (pair_parts w maps _ Γ _ S T t u _ _ h _ _ c.tuples.ensures (c.as_slice.ensures ∙ c.in_ok-widths.ensures w maps h.first_known.knows));
}
