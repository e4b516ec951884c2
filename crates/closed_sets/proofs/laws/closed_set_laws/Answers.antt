use Rattle.closed_sets.proofs.Chosen.{chosen-bits, chosen-closed}
use Rattle.closed_sets.proofs.laws.closed_set_laws.Goals as goal

pub returns-clause-sublists : goal.returns-clause-sublists
returns-clause-sublists c = λ xs. chosen-bits xs

pub returns-clause-closed : goal.returns-clause-closed
returns-clause-closed c = λ xs closure passes h. chosen-closed xs closure passes h
