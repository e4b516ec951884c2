use Rattle.std.proofs.Common.{◌≡◌, ◌++◌, flat_map}
use Rattle.std.specs.List.{range_with_len}
use Rattle.truth_tables.specs.Abstraction.{behind}
use Rattle.truth_tables.proofs.abstraction.push_behind.Given as goal

abbrev pub invariant-loop-j : goal.invariant-loop-j
invariant-loop-j l = l.out ≡ l.initial.out ++ flat_map (behind l.sources l.restrictions l.widths l.body) (range_with_len 0 l.j)
