use Rattle.std.proofs.Common.{sym, ◌∙◌}
use Rattle.internal_interp.proofs.TermFacts.{held_type}
use Rattle.internal_interp.proofs.ReadingFacts.{same_codomain, function_parts}
use Rattle.internal_interp.proofs.readings.applied.Goals as goal

pub place_of-id-requires : goal.place_of-id-requires
place_of-id-requires c = let (w, maps, Γ, S, T, t, u, h) = c.requires.known in record { held = held_type w maps c.args.interpreter.now Γ c.args.context.now _ t c.args.function h.known h.function_stands }

pub evaluation_table-requires-clause-parts : goal.evaluation_table-requires-clause-parts
evaluation_table-requires-clause-parts c =
    let (w, maps, Γ, S, T, t, u, h) = c.requires.known in
    (w, Γ, S, T, t, u, function_parts w maps c.args.interpreter.now Γ c.args.context.now _ c.tuples.ensures S T t u c.args.function c.args.argument h _ c.place_of-id.ensures.place)

pub returns : goal.returns
returns c = λ w maps Γ S T t u h. record {
  type_is = c.in_ok-copy-in-Fun.ensures ∙ c.get.ensures ∙ same_codomain c.in-Fun.field-0 c.in-Fun.to S T (sym c.in-Fun.is ∙ h.function_stands.type_is);
  stands = c.in_ok-numbers-in-Fun.ensures.stands w Γ S T t u
      (function_parts w maps c.args.interpreter.now Γ c.args.context.now _ c.tuples.ensures S T t u c.args.function c.args.argument h _ c.place_of-id.ensures.place);
}
