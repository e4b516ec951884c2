-- What a fault of one restriction says.
use Rattle.std.specs.Prelude.{◌≡◌, ℕ, Option, Some, None}
use Rattle.topos_model.specs.categories.Category.{Category}
use Rattle.topos_model.specs.categories.Filling.{filling_pair}
use Rattle.presheaf_core.specs.declared.fault.FunctorFault.{FunctorFault}
use Rattle.presheaf_core.specs.declared.fault.FunctorFault.TheVariants.{RestrictionMissing, NotTotal, NotFunctorial, NoMemory}

-- the element that a search finds has no entry along f
abbrev pub IsMissingEntry : ℕ → Option ℕ → FunctorFault → Type 0
IsMissingEntry f found (NotTotal g x) = (g ≡ f) × (found ≡ Some x)
IsMissingEntry f found (RestrictionMissing g) = ⊥
IsMissingEntry f found (NotFunctorial h g x) = ⊥
IsMissingEntry f found NoMemory = Unit {0}

-- there are elements, and no pair fills f
abbrev pub IsMissingPair : Category → ℕ → ℕ → FunctorFault → Type 0
IsMissingPair k size f (RestrictionMissing g) = (g ≡ f) × (size ≡ 0 → ⊥) × (filling_pair k f ≡ None)
IsMissingPair k size f (NotTotal g x) = ⊥
IsMissingPair k size f (NotFunctorial h g x) = ⊥
IsMissingPair k size f NoMemory = Unit {0}
