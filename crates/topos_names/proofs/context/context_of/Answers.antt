use Rattle.std.proofs.Common.{◌∙◌, sym, ap, ◌∷◌}
use Rattle.std.proofs.lemmas.Result.{err_from_is_err_and}
use Rattle.topos_text.specs.Views.{binding_of}
use Rattle.topos_names.proofs.Gathering.{typed-begins, typed-goes_on, typed-stops, typed-twice, typed-ends, variables_more}
use Rattle.topos_names.proofs.context.context_of.Goals as goal

pub loop-binding-init : goal.loop-binding-init
loop-binding-init c = record {
  types = rw (c.new-types.ensures, c.new-variables.ensures) (typed-begins c.args.scope.now binding_of c.args.bindings.now);
  variables = c.new-variables.ensures;
}

pub loop-binding-preserved : goal.loop-binding-preserved
loop-binding-preserved c = record {
  types = rw (c.in_ok-push.ensures.ok, c.in_ok-push-2.ensures) (c.loop-binding.invariant.types ∙ typed-goes_on c.args.scope.now binding_of c.loop-binding.types c.loop-binding.variables c.args.bindings.now c.loop-binding.binding-index c.binding-item.result c.loop-binding-test.true c.binding-item.is c.in_ok-type_of.field-0 c.in_ok-is_new.ensures.ok c.in_ok-type_of.ensures.ok);
  variables = c.in_ok-push-2.ensures ∙ ap (λ names. c.binding-item.result.variable.text.now ∷ names) c.loop-binding.invariant.variables ∙ sym (variables_more binding_of c.args.bindings.now c.loop-binding.binding-index c.binding-item.result c.loop-binding-test.true c.binding-item.is);
}

pub returns-in_err-is_new-clause-fault : goal.returns-in_err-is_new-clause-fault
returns-in_err-is_new-clause-fault c =
    let p = err_from_is_err_and c.from_residual.result c.from_residual.ensures.1 in
    rw (p.1, p.2) (λ fault e. c.loop-binding.invariant.types ∙ typed-twice c.args.scope.now binding_of c.loop-binding.types c.loop-binding.variables c.args.bindings.now c.loop-binding.binding-index c.binding-item.result c.loop-binding-test.true c.binding-item.is fault (c.in_err-is_new.ensures.fault fault e))

pub returns-in_err-type_of-clause-fault : goal.returns-in_err-type_of-clause-fault
returns-in_err-type_of-clause-fault c =
    let p = err_from_is_err_and c.from_residual-in_err-type_of.result c.from_residual-in_err-type_of.ensures.1 in
    rw (p.1, p.2) (λ fault e. c.loop-binding.invariant.types ∙ typed-stops c.args.scope.now binding_of c.loop-binding.types c.loop-binding.variables c.args.bindings.now c.loop-binding.binding-index c.binding-item.result c.loop-binding-test.true c.binding-item.is fault c.in_ok-is_new.ensures.ok (c.in_err-type_of.ensures.fault fault e))

pub returns-clause-ok : goal.returns-clause-ok
returns-clause-ok c = c.loop-binding.invariant.types ∙ typed-ends c.args.scope.now binding_of c.loop-binding.types c.loop-binding.variables c.args.bindings.now c.loop-binding.binding-index c.loop-binding-test.false
