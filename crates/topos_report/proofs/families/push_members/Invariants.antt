use Rattle.std.proofs.Common.{◌≡◌, ◌++◌, take}
use Rattle.std.specs.List.{zip}
use Rattle.topos_report.specs.Lists.{comma_separated}
use Rattle.topos_report.specs.AnswerLines.{member_text}
use Rattle.topos_report.proofs.families.push_members.Given as goal

abbrev pub invariant-loop-i : goal.invariant-loop-i
invariant-loop-i l = l.out.items ≡ l.fn.out.items ++ comma_separated (member_text l.doc l.functor) (take l.i (zip l.cover l.family))
