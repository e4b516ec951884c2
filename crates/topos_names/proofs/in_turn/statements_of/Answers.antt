use Rattle.std.proofs.Common.{◌∙◌, ◌++◌, ◌∷◌, [], ap, sym, arith}
use Rattle.std.proofs.lemmas.Result.{err_from_is_err_and}
use Rattle.topos_text.specs.Resolving as spec
use Rattle.topos_text.specs.Views as view
use Rattle.topos_names.specs.Spaces.{limits}
use Rattle.topos_names.proofs.Turns.{turned, turned-begins, turned-goes_on, turned-stops, turned-over, turned-ends, statement_stops, statement_taken, few_statements}
use Rattle.topos_names.proofs.in_turn.statements_of.Goals as goal

pub loop-tree-init : goal.loop-tree-init
loop-tree-init c = record {
  left = turned-begins (spec.with_statement limits) view.statement_of c.args.before (c.args.scope.now, []) c.args.trees.now ∙ ap (λ stmts. turned (spec.with_statement limits) view.statement_of c.args.before (c.args.scope.now, stmts) c.args.trees.now 0) (sym c.new-stmts.ensures);
  count = omega arith;
}

pub loop-tree-preserved : goal.loop-tree-preserved
loop-tree-preserved c =
    let few = few_statements c.loop-tree.count c.in_ok-one_more.ensures.ok in
    record {
      left = rw c.in_ok-push.ensures.ok (c.loop-tree.invariant.left ∙ turned-goes_on (spec.with_statement limits) view.statement_of c.args.before (c.loop-tree.scope, c.loop-tree.stmts) c.args.trees.now c.loop-tree.tree-index c.tree-item.result c.loop-tree-test.true c.tree-item.is (c.statement_of.new.scope, c.loop-tree.stmts ++ c.in_ok-statement_of.field-0 ∷ []) (rw c.loop-tree.invariant.count at c.in_ok-one_more.ensures.ok) (statement_taken c.loop-tree.scope c.loop-tree.stmts (view.statement_of c.tree-item.result) c.statement_of.new.scope c.in_ok-statement_of.field-0 c.in_ok-statement_of.ensures.ok));
      count = omega arith;
    }

pub returns-in_err-one_more-clause-fault : goal.returns-in_err-one_more-clause-fault
returns-in_err-one_more-clause-fault c =
    let p = err_from_is_err_and c.from_residual.result c.from_residual.ensures.1 in
    rw (p.1, p.2) (λ fault e. c.loop-tree.invariant.left ∙ turned-over (spec.with_statement limits) view.statement_of c.args.before (c.loop-tree.scope, c.loop-tree.stmts) c.args.trees.now c.loop-tree.tree-index c.tree-item.result c.loop-tree-test.true c.tree-item.is fault (rw c.loop-tree.invariant.count at (c.in_err-one_more.ensures.fault fault e)))

pub returns-in_err-statement_of-clause-fault : goal.returns-in_err-statement_of-clause-fault
returns-in_err-statement_of-clause-fault c =
    let p = err_from_is_err_and c.from_residual-in_err-statement_of.result c.from_residual-in_err-statement_of.ensures.1 in
    rw (p.1, p.2) (λ fault e. c.loop-tree.invariant.left ∙ turned-stops (spec.with_statement limits) view.statement_of c.args.before (c.loop-tree.scope, c.loop-tree.stmts) c.args.trees.now c.loop-tree.tree-index c.tree-item.result c.loop-tree-test.true c.tree-item.is fault (rw c.loop-tree.invariant.count at c.in_ok-one_more.ensures.ok) (statement_stops c.loop-tree.scope c.loop-tree.stmts (view.statement_of c.tree-item.result) fault (c.in_err-statement_of.ensures.fault fault e)))

pub returns-clause-ok : goal.returns-clause-ok
returns-clause-ok c = c.loop-tree.invariant.left ∙ turned-ends (spec.with_statement limits) view.statement_of c.args.before (c.loop-tree.scope, c.loop-tree.stmts) c.args.trees.now c.loop-tree.tree-index c.loop-tree-test.false
