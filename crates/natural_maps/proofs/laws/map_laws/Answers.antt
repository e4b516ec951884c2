use Rattle.topos_model.proofs.MapEquations.{composites_natural, maps_same}
use Rattle.natural_maps.proofs.MapLaws.{identities_natural, maps_compose}
use Rattle.natural_maps.proofs.AllMaps.{maps_are_natural, maps_rise}
use Rattle.natural_maps.proofs.FaultlessMaps.{one_map}
use Rattle.natural_maps.proofs.laws.map_laws.Goals as goal

pub returns-clause-composites : goal.returns-clause-composites
returns-clause-composites c = composites_natural

pub returns-clause-identities : goal.returns-clause-identities
returns-clause-identities c = identities_natural

pub returns-clause-category : goal.returns-clause-category
returns-clause-category c = maps_compose

pub returns-clause-values : goal.returns-clause-values
returns-clause-values c = maps_same

pub returns-clause-all : goal.returns-clause-all
returns-clause-all c = maps_are_natural

pub returns-clause-order : goal.returns-clause-order
returns-clause-order c = maps_rise

pub returns-clause-one : goal.returns-clause-one
returns-clause-one c = one_map
