use Rattle.type_laws.proofs.TypeFunctors.{types_are_functors, types_are_sheaves, elements_rise}
use Rattle.type_laws.proofs.laws.type_laws.Goals as goal

pub returns-clause-functors : goal.returns-clause-functors
returns-clause-functors c = types_are_functors

pub returns-clause-sheaves : goal.returns-clause-sheaves
returns-clause-sheaves c = types_are_sheaves

pub returns-clause-order : goal.returns-clause-order
returns-clause-order c = elements_rise
