use Rattle.std.proofs.Common.{◌≡◌, drop}
use Rattle.finite_lists.specs.First.{first}
use Rattle.fin_category.specs.Associativity.{triple_from_pair, triple_from}
use Rattle.fin_category.proofs.associativity.triple_from.Given as goal

abbrev pub invariant-loop-g : goal.invariant-loop-g
invariant-loop-g l = triple_from l.tables l.h ≡ first (triple_from_pair l.tables l.h) (drop l.g-index l.g-items)
