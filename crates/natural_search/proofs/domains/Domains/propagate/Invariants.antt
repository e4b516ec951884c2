use Rattle.std.proofs.Common.{true}
use Rattle.natural_search.specs.Domains.{AllFit, Narrows}
use Rattle.natural_search.proofs.domains.Domains.propagate.Given as goal

abbrev pub invariant-changes : goal.invariant-changes
invariant-changes l = Narrows (AllFit l.along l.squares) l.fn.self l.self true
