use Rattle.std.proofs.Common.{◌∙◌, ap, sym}
use Rattle.std.proofs.lemmas.Result.{err_from_is_err_and}
use Rattle.topos_text.specs.StatementNames as spec
use Rattle.topos_text.specs.Views as view
use Rattle.topos_names.proofs.Gathering.{gathered, gathered-begins, gathered-goes_on, gathered-stops, gathered-ends}
use Rattle.topos_names.proofs.derivation.steps_of.Goals as goal

pub loop-tree-init : goal.loop-tree-init
loop-tree-init c = gathered-begins (spec.step_of c.args.scope.now) view.step_of c.args.trees.now ∙ ap (λ found. gathered (spec.step_of c.args.scope.now) view.step_of found c.args.trees.now 0) (sym c.new-steps.ensures)

pub loop-tree-preserved : goal.loop-tree-preserved
loop-tree-preserved c = rw c.in_ok-push.ensures.ok (c.loop-tree.invariant ∙ gathered-goes_on (spec.step_of c.args.scope.now) view.step_of c.loop-tree.steps c.args.trees.now c.loop-tree.tree-index c.tree-item.result c.loop-tree-test.true c.in_ok-step_of.field-0 (rw (← c.tree-item.is) c.in_ok-step_of.ensures.ok))

pub returns-in_err-step_of-clause-fault : goal.returns-in_err-step_of-clause-fault
returns-in_err-step_of-clause-fault c =
    let p = err_from_is_err_and c.from_residual.result c.from_residual.ensures.1 in
    rw (p.1, p.2) (λ fault e. c.loop-tree.invariant ∙ gathered-stops (spec.step_of c.args.scope.now) view.step_of c.loop-tree.steps c.args.trees.now c.loop-tree.tree-index c.tree-item.result c.loop-tree-test.true fault (rw (← c.tree-item.is) (c.in_err-step_of.ensures.fault fault e)))

pub returns-clause-ok : goal.returns-clause-ok
returns-clause-ok c = c.loop-tree.invariant ∙ gathered-ends (spec.step_of c.args.scope.now) view.step_of c.loop-tree.steps c.args.trees.now c.loop-tree.tree-index c.loop-tree-test.false
