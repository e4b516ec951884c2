use Rattle.std.proofs.Common.{◌∙◌, arith}
use Rattle.presheaf_core.proofs.ListedEntries.{missing_by_marks, found_within}
use Rattle.presheaf_core.proofs.entries.first_missing.Goals as goal

pub overflow_cast-result : goal.overflow_cast-result
overflow_cast-result c = omega (arith, found_within c.args.entries.now c.args.size c.in_ok-seen.seen c.in-Some.x c.in_ok-seen.ensures c.in-Some.ensures)

pub returns-in-Some : goal.returns-in-Some
returns-in-Some c = c.in-Some.ensures ∙ missing_by_marks c.args.entries.now c.args.size c.in_ok-seen.seen c.in_ok-seen.ensures

pub returns : goal.returns
returns c = c.in-None.ensures ∙ missing_by_marks c.args.entries.now c.args.size c.in_ok-seen.seen c.in_ok-seen.ensures
