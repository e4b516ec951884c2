use Rattle.std.proofs.Common.{◌≡◌, map}
use Rattle.std.specs.List.{range_with_len}
use Rattle.topos_text.specs.StatementNames.{elements_at}
use Rattle.topos_names.proofs.stages.Stages.rows.Given as goal

abbrev pub invariant-loop-object : goal.invariant-loop-object
invariant-loop-object l = l.rows ≡ map (elements_at l.self-inside.listed) (range_with_len 0 l.object)
