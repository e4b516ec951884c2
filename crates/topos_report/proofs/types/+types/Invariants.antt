use Rattle.std.proofs.Common.{◌+◌, ◌*◌}
use Rattle.topos_model.specs.types.Nodes.{nodes}
use Rattle.topos_report.proofs.types.+types.Given as goal

abbrev pub decreases-push_type : goal.decreases-push_type
decreases-push_type l = 2 * nodes l.ty.now

abbrev pub decreases-push_operation : goal.decreases-push_operation
decreases-push_operation l = 2 * (nodes l.left.now + nodes l.right.now) + 1

abbrev pub decreases-push_power : goal.decreases-push_power
decreases-push_power l = 2 * nodes l.of.now + 1
