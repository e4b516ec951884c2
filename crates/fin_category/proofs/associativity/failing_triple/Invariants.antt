use Rattle.std.proofs.Common.{◌≡◌, drop}
use Rattle.finite_lists.specs.First.{first}
use Rattle.topos_model.specs.categories.Category.{arrows}
use Rattle.fin_category.specs.Associativity.{triple_from, failing_triple}
use Rattle.fin_category.proofs.associativity.failing_triple.Given as goal

abbrev pub invariant-loop-h : goal.invariant-loop-h
invariant-loop-h l = failing_triple l.tables ≡ first (triple_from l.tables) (drop l.h (arrows l.tables))
