use Rattle.sealed_types.proofs.SealedTypes.{sealed_restricted, sealed_asked}
use Rattle.sealed_types.proofs.laws.sealed_type_laws.Goals as goal

pub returns-clause-restrict : goal.returns-clause-restrict
returns-clause-restrict c = sealed_restricted

pub returns-clause-asked : goal.returns-clause-asked
returns-clause-asked c = sealed_asked
