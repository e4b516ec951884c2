use Rattle.std.proofs.Common.{◌≡◌, ◌≤◌, take}
use Rattle.std.specs.List.{count_by}
use Rattle.truth_tables.proofs.quantifiers.count.Given as goal

abbrev pub invariant-loop-truth : goal.invariant-loop-truth
invariant-loop-truth l = record { counted : l.count ≡ count_by (λ truth. truth) (take l.truth-index l.truths); few : l.count ≤ l.truth-index }
