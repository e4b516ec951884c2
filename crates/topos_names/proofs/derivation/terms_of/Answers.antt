use Rattle.std.proofs.Common.{◌∙◌}
use Rattle.std.proofs.lemmas.Result.{err_from_is_err_and}
use Rattle.topos_text.specs.TermNames as names
use Rattle.topos_text.specs.Views as view
use Rattle.topos_names.proofs.Gathering.{gathered-goes_on, gathered-stops, gathered-ends}
use Rattle.topos_names.proofs.derivation.terms_of.Goals as goal

pub loop-tree-preserved : goal.loop-tree-preserved
loop-tree-preserved c = record {
  terms = rw (c.in_ok-push.ensures.ok, c.into_inner.ensures) (c.loop-tree.invariant.terms ∙ gathered-goes_on (names.term_of c.args.scope.now c.args.variables.now) (λ t. view.term_of t.value) c.loop-tree.terms c.args.trees.now c.loop-tree.tree-index c.tree-item.result c.loop-tree-test.true c.in_ok-term.term (rw (← c.tree-item.is) (rw (c.deref.ensures, c.loop-tree.invariant.same) at c.in_ok-term.ensures.ok)));
  same = c.in_ok-term.ensures.same ∙ c.loop-tree.invariant.same;
}

pub returns-in_err-term-clause-fault : goal.returns-in_err-term-clause-fault
returns-in_err-term-clause-fault c =
    let p = err_from_is_err_and c.from_residual.result c.from_residual.ensures.1 in
    rw (p.1, p.2) (λ fault e. c.loop-tree.invariant.terms ∙ gathered-stops (names.term_of c.args.scope.now c.args.variables.now) (λ t. view.term_of t.value) c.loop-tree.terms c.args.trees.now c.loop-tree.tree-index c.tree-item.result c.loop-tree-test.true fault (rw (← c.tree-item.is) ((rw (c.deref.ensures, c.loop-tree.invariant.same) at c.in_err-term.ensures.fault) fault e)))

pub returns-clause-ok : goal.returns-clause-ok
returns-clause-ok c = c.loop-tree.invariant.terms ∙ gathered-ends (names.term_of c.args.scope.now c.args.variables.now) (λ t. view.term_of t.value) c.loop-tree.terms c.args.trees.now c.loop-tree.tree-index c.loop-tree-test.false
