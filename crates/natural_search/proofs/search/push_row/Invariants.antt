use Rattle.std.proofs.Common.{◌≡◌, ◌++◌, take}
use Rattle.natural_search.proofs.search.push_row.Given as goal

abbrev pub invariant-loop-number : goal.invariant-loop-number
invariant-loop-number l = l.numbers ≡ l.fn.numbers ++ take l.number-index l.row
