use Rattle.std.proofs.Common.{◌≡◌, ◌+◌, ◌*◌, ◌++◌, codes, take}
use Rattle.topos_model.specs.types.Nodes.{nodes}
use Rattle.topos_report.specs.Lists.{comma_separated}
use Rattle.topos_report.specs.Values.{entry_text, assign_text, value_text}
use Rattle.topos_report.proofs.values.+values.Given as goal

abbrev pub decreases-push_value : goal.decreases-push_value
decreases-push_value l = 3 * nodes l.ty.now

abbrev pub decreases-push_pair : goal.decreases-push_pair
decreases-push_pair l = 3 * (nodes l.left.now + nodes l.right.now) + 2

abbrev pub decreases-push_subset : goal.decreases-push_subset
decreases-push_subset l = 3 * nodes l.of.now + 2

abbrev pub decreases-push_entry : goal.decreases-push_entry
decreases-push_entry l = 3 * nodes l.of.now + 1

abbrev pub decreases-push_function : goal.decreases-push_function
decreases-push_function l = 3 * (nodes l.from.now + nodes l.to.now) + 2

abbrev pub decreases-push_assign : goal.decreases-push_assign
decreases-push_assign l = 3 * (nodes l.from.now + nodes l.to.now) + 1

abbrev pub invariant-push_subset-loop-i : goal.invariant-push_subset-loop-i
invariant-push_subset-loop-i l = l.out.items ≡ l.fn.out.items ++ (codes "{" ++ comma_separated (entry_text l.doc (value_text l.doc l.of)) (take l.i l.entries))

abbrev pub invariant-push_function-loop-i : goal.invariant-push_function-loop-i
invariant-push_function-loop-i l = l.out.items ≡ l.fn.out.items ++ (codes "{" ++ comma_separated (assign_text l.doc (value_text l.doc l.from) (value_text l.doc l.to)) (take l.i l.assigns))
