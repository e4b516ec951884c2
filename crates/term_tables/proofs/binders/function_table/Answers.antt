use Rattle.std.proofs.Common.{sym, subst}
use Rattle.std.proofs.lemmas.Result.{IfOk-weaker}
use Rattle.functor_store.specs.Store.{functor_at}
use Rattle.truth_tables.specs.Abstraction.{AreThere, AreNumbered}
use Rattle.formula_tables.proofs.AlongArrows.{site_is, restricted_slice}
use Rattle.term_tables.proofs.FunctionParts.{function_rows_rise, functions_there, function_numbers}
use Rattle.term_tables.proofs.binders.function_table.Goals as goal

pub abstractions-requires : goal.abstractions-requires
abstractions-requires c =
    let (w, Γ, S, T, t, h) = c.requires.part in
    let e = c.as_slice.ensures in
    let context = functor_at c.args.store.now.sealed c.args.context in
    let F = functor_at c.args.store.now.sealed c.args.id in
    let r = restricted_slice w Γ c.args.stages.now c.args.store.now c.args.context c.args.sizes.now h.known c.as_slice.result.now e in
    record {
      objects = c.requires.objects;
      sealed = (h.known.sealed, h.type.low);
      site = site_is w Γ c.args.stages.now c.args.store.now c.args.context c.args.sizes.now h.known;
      sources = r.objects;
      tuples = λ o low. sym (r.counts o low);
      arrows = r.arrows;
      rise = function_rows_rise w Γ S T t c.args.stages.now c.args.store.now c.args.context c.args.id c.args.sizes.now c.args.widths.now c.args.body.now h;
      there = subst (λ s. AreThere context F c.args.sizes.now s c.args.widths.now c.args.body.now) (sym e)
          (functions_there w Γ S T t c.args.stages.now c.args.store.now c.args.context c.args.id c.args.sizes.now c.args.widths.now c.args.body.now h);
    }

pub returns : goal.returns
returns c = record {
  stands = IfOk-weaker c.abstractions.result _ _ (λ rows made w Γ S T t h.
      let context = functor_at c.args.store.now.sealed c.args.context in
      let F = functor_at c.args.store.now.sealed c.args.id in
      function_numbers w Γ S T t c.args.stages.now c.args.store.now c.args.context c.args.id c.args.sizes.now c.args.widths.now c.args.body.now h rows
      (subst (λ s. AreNumbered context F c.args.sizes.now s c.args.widths.now c.args.body.now rows) c.as_slice.ensures made)) c.abstractions.ensures;
}
