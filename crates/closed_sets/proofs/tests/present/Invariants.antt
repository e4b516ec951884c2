use Rattle.std.proofs.Common.{◌≡◌, ℕ, ◌<◌, false, length, get_or, take}
use Rattle.closed_sets.specs.Parts.{is_part_of_some, pair_parts}
use Rattle.closed_sets.proofs.tests.present.Given as goal

abbrev pub invariant-loop-k : goal.invariant-loop-k
invariant-loop-k l = record {
  places : length l.present ≡ 14;
  read : (u : ℕ) → u < 14 → get_or l.present u false ≡ is_part_of_some pair_parts u (take l.k l.set);
}
