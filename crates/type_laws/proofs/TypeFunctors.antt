-- The laws of types, put together.
use Rattle.topos_model.specs.topologies.LeastCovers.{least}
use Rattle.topos_model.specs.types.Types.{elements, restr}
use Rattle.type_laws.specs.TypeLaws.{TypesAreFunctors, TypesAreSheaves, ElementsRise}
use Rattle.type_laws.proofs.Presheaves.{Distinct-elements, types_presheaf}
use Rattle.type_laws.proofs.Sheaves.{types_sheaf}
use Rattle.type_laws.proofs.Numbering.{numbered_functor, numbered_sheaf}
use Rattle.type_laws.proofs.RisingTypes.{Rising-elements}
use Rattle.type_laws.proofs.TopologyRules.{least_is_least}

pub types_are_functors : TypesAreFunctors
types_are_functors s functors laws lawful T =
    numbered_functor s.category (elements s functors T) (restr s functors T) laws (types_presheaf s functors laws lawful T) (Distinct-elements s functors T)

pub types_are_sheaves : TypesAreSheaves
types_are_sheaves s functors laws topology lawful T sheaves =
    numbered_sheaf s laws (least s) (least_is_least s laws topology) (elements s functors T) (restr s functors T)
    (types_presheaf s functors laws lawful T) (Distinct-elements s functors T)
    (types_sheaf s laws (least s) (least_is_least s laws topology) functors lawful T sheaves)

pub elements_rise : ElementsRise
elements_rise s functors T c = Rising-elements s functors T c
