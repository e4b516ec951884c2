use Rattle.std.proofs.Common.{◌≡◌, ◌+◌, [], map}
use Rattle.topos_text.specs.Resolving as spec
use Rattle.topos_text.specs.Views as view
use Rattle.topos_names.specs.Spaces.{limits}
use Rattle.topos_names.proofs.Turns.{turned}
use Rattle.topos_names.proofs.in_turn.statements_of.Given as goal

abbrev pub invariant-loop-tree : goal.invariant-loop-tree
invariant-loop-tree l = record {
  left : spec.in_turn limits (spec.with_statement limits) l.before (l.initial.scope, []) (map view.statement_of l.trees) ≡ turned (spec.with_statement limits) view.statement_of l.before (l.scope, l.stmts) l.trees l.tree-index;
  count : l.count ≡ l.before + l.tree-index;
}
