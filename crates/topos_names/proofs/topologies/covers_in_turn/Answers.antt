use Rattle.std.proofs.Common.{◌∙◌, ◌++◌, ◌∷◌, [], ap, sym, arith}
use Rattle.std.proofs.lemmas.Result.{err_from_is_err_and}
use Rattle.topos_text.specs.Resolving as spec
use Rattle.topos_text.specs.Views as view
use Rattle.topos_names.specs.Spaces.{space_of, limits}
use Rattle.topos_names.proofs.Turns.{turned, turned-begins, turned-goes_on, turned-stops, turned-over, turned-ends, few_statements}
use Rattle.topos_names.proofs.TopologyTurns.{cover_stops, cover_taken}
use Rattle.topos_names.proofs.topologies.covers_in_turn.Goals as goal

pub loop-tree-init : goal.loop-tree-init
loop-tree-init c = record {
  left = turned-begins (spec.with_cover limits (space_of c.args.space.now)) view.cover_of c.args.before [] c.args.trees.now ∙ ap (λ covers. turned (spec.with_cover limits (space_of c.args.space.now)) view.cover_of c.args.before covers c.args.trees.now 0) (sym c.new-covers.ensures);
  count = omega arith;
}

pub loop-tree-preserved : goal.loop-tree-preserved
loop-tree-preserved c =
    let few = few_statements c.loop-tree.count c.in_ok-one_more.ensures.ok in
    record {
      left = rw c.in_ok-push.ensures.ok (c.loop-tree.invariant.left ∙ turned-goes_on (spec.with_cover limits (space_of c.args.space.now)) view.cover_of c.args.before c.loop-tree.covers c.args.trees.now c.loop-tree.tree-index c.tree-item.result c.loop-tree-test.true c.tree-item.is (c.loop-tree.covers ++ c.in_ok-cover_of.field-0 ∷ []) (rw c.loop-tree.invariant.count at c.in_ok-one_more.ensures.ok) (cover_taken (space_of c.args.space.now) c.loop-tree.covers (view.cover_of c.tree-item.result) c.in_ok-cover_of.field-0 c.in_ok-cover_of.ensures.ok));
      count = omega arith;
    }

pub returns-in_err-one_more-clause-fault : goal.returns-in_err-one_more-clause-fault
returns-in_err-one_more-clause-fault c =
    let p = err_from_is_err_and c.from_residual.result c.from_residual.ensures.1 in
    rw (p.1, p.2) (λ fault e. c.loop-tree.invariant.left ∙ turned-over (spec.with_cover limits (space_of c.args.space.now)) view.cover_of c.args.before c.loop-tree.covers c.args.trees.now c.loop-tree.tree-index c.tree-item.result c.loop-tree-test.true c.tree-item.is fault (rw c.loop-tree.invariant.count at (c.in_err-one_more.ensures.fault fault e)))

pub returns-in_err-cover_of-clause-fault : goal.returns-in_err-cover_of-clause-fault
returns-in_err-cover_of-clause-fault c =
    let p = err_from_is_err_and c.from_residual-in_err-cover_of.result c.from_residual-in_err-cover_of.ensures.1 in
    rw (p.1, p.2) (λ fault e. c.loop-tree.invariant.left ∙ turned-stops (spec.with_cover limits (space_of c.args.space.now)) view.cover_of c.args.before c.loop-tree.covers c.args.trees.now c.loop-tree.tree-index c.tree-item.result c.loop-tree-test.true c.tree-item.is fault (rw c.loop-tree.invariant.count at c.in_ok-one_more.ensures.ok) (cover_stops (space_of c.args.space.now) c.loop-tree.covers (view.cover_of c.tree-item.result) fault (c.in_err-cover_of.ensures.fault fault e)))

pub returns-clause-ok : goal.returns-clause-ok
returns-clause-ok c = c.loop-tree.invariant.left ∙ turned-ends (spec.with_cover limits (space_of c.args.space.now)) view.cover_of c.args.before c.loop-tree.covers c.args.trees.now c.loop-tree.tree-index c.loop-tree-test.false
