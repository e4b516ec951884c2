use Rattle.std.proofs.lemmas.Result.{IfOk-weaker}
use Rattle.topos_model.specs.declared.term.Term.{Eval}
use Rattle.topos_model.specs.formulas.Forcing.{value}
use Rattle.truth_tables.proofs.Standing.{number_table}
use Rattle.term_tables.proofs.Contexts.{over_sizes}
use Rattle.term_tables.proofs.ReadingParts.{evaluated_entries, function_site, evaluated_values}
use Rattle.term_tables.proofs.readings.evaluation_table.Goals as goal

pub values-requires : goal.values-requires
values-requires c =
    let (w, Γ, S, T, t, u, h) = c.requires.parts in
    record {
      objects = c.requires.objects;
      sealed = h.type.low;
      site = function_site w Γ S T t u c.args.store.now c.args.id c.args.sizes.now c.args.functions.now c.args.arguments.now h;
      functions = over_sizes w Γ c.args.sizes.now h.context.counted c.args.functions.now h.functions_stand.over;
      arguments = over_sizes w Γ c.args.sizes.now h.context.counted c.args.arguments.now h.arguments_stand.over;
      entries = evaluated_entries w Γ S T t u c.args.store.now c.args.id c.args.sizes.now c.args.functions.now c.args.arguments.now h;
    }

pub returns : goal.returns
returns c = record {
  stands = IfOk-weaker c.values.result _ _ (λ rows made w Γ S T t u h.
      number_table w Γ c.args.sizes.now h.context.counted T (value w (Eval t u)) _ rows made
      (evaluated_values w Γ S T t u c.args.store.now c.args.id c.args.sizes.now c.args.functions.now c.args.arguments.now h)) c.values.ensures;
}
