use Rattle.std.proofs.Common.{◌≡◌, drop}
use Rattle.finite_lists.specs.First.{first}
use Rattle.fin_category.specs.Associativity.{triple_at, triple_from_pair}
use Rattle.fin_category.proofs.associativity.triple_from_pair.Given as goal

abbrev pub invariant-loop-f : goal.invariant-loop-f
invariant-loop-f l = triple_from_pair l.tables l.h l.g ≡ first (triple_at l.tables l.h l.g) (drop l.f-index l.f-items)
