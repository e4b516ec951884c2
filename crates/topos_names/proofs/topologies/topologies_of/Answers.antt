use Rattle.std.proofs.Common.{◌∙◌, ◌++◌, ◌∷◌, [], arith}
use Rattle.std.proofs.lemmas.Result.{err_from_is_err_and}
use Rattle.topos_text.specs.Resolving as spec
use Rattle.topos_text.specs.Views as view
use Rattle.topos_names.specs.Spaces.{space_of, limits}
use Rattle.topos_names.proofs.Turns.{turned-goes_on, turned-stops, turned-over, turned-ends, few_statements}
use Rattle.topos_names.proofs.topologies.topologies_of.Goals as goal

pub loop-tree-preserved : goal.loop-tree-preserved
loop-tree-preserved c =
    let few = few_statements c.loop-tree.count c.in_ok-one_more.ensures.ok in
    record {
      left = rw c.in_ok-push-2.ensures.ok (c.loop-tree.invariant.left ∙ turned-goes_on (spec.with_topology limits (space_of c.args.space.now)) view.topology_of c.args.before (c.loop-tree.names, c.loop-tree.tops) c.args.trees.now c.loop-tree.tree-index c.tree-item.result c.loop-tree-test.true c.tree-item.is (c.one_more_topology.new.names, c.loop-tree.tops ++ c.in_ok-one_more_topology.field-0 ∷ []) (rw c.loop-tree.invariant.count at c.in_ok-one_more.ensures.ok) (c.in_ok-one_more_topology.ensures.ok c.loop-tree.tops));
      count = omega arith;
    }

pub returns-in_err-one_more-clause-fault : goal.returns-in_err-one_more-clause-fault
returns-in_err-one_more-clause-fault c =
    let p = err_from_is_err_and c.from_residual-in_err-one_more.result c.from_residual-in_err-one_more.ensures.1 in
    rw (p.1, p.2) (λ fault e. c.loop-tree.invariant.left ∙ turned-over (spec.with_topology limits (space_of c.args.space.now)) view.topology_of c.args.before (c.loop-tree.names, c.loop-tree.tops) c.args.trees.now c.loop-tree.tree-index c.tree-item.result c.loop-tree-test.true c.tree-item.is fault (rw c.loop-tree.invariant.count at (c.in_err-one_more.ensures.fault fault e)))

pub returns-in_err-one_more_topology-clause-fault : goal.returns-in_err-one_more_topology-clause-fault
returns-in_err-one_more_topology-clause-fault c =
    let p = err_from_is_err_and c.from_residual-in_err-one_more_topology.result c.from_residual-in_err-one_more_topology.ensures.1 in
    rw (p.1, p.2) (λ fault e. c.loop-tree.invariant.left ∙ turned-stops (spec.with_topology limits (space_of c.args.space.now)) view.topology_of c.args.before (c.loop-tree.names, c.loop-tree.tops) c.args.trees.now c.loop-tree.tree-index c.tree-item.result c.loop-tree-test.true c.tree-item.is fault (rw c.loop-tree.invariant.count at c.in_ok-one_more.ensures.ok) (c.in_err-one_more_topology.ensures.fault c.loop-tree.tops fault e))

pub returns-clause-ok : goal.returns-clause-ok
returns-clause-ok c = c.loop-tree.invariant.left ∙ turned-ends (spec.with_topology limits (space_of c.args.space.now)) view.topology_of c.args.before (c.loop-tree.names, c.loop-tree.tops) c.args.trees.now c.loop-tree.tree-index c.loop-tree-test.false
