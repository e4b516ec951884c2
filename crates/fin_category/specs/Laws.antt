-- What the check of a listed category says.
use Rattle.std.specs.Prelude.{◌≡◌, ℕ, Some, None}
use Rattle.topos_model.specs.declared.fault.Fault.TheVariants.{NotAssociative}
use Rattle.topos_model.specs.categories.Category.{Category, compose}
use Rattle.topos_model.specs.Laws.{AreComposable, IsCategory}
use Rattle.topos_model.specs.Faults.{associativity_fault}

-- a category has no triple that fails to associate
abbrev pub CategoriesAssociate : Type 0
CategoriesAssociate = (k : Category) → IsCategory k → associativity_fault k ≡ None

-- 33 is an instance: h.(g.f) and (h.g).f are defined, and differ
abbrev pub FailingTriplesFail : Type 0
FailingTriplesFail =
    (k : Category) (h g f : ℕ) → associativity_fault k ≡ Some (NotAssociative h g f) →
    AreComposable k h g × AreComposable k g f × (compose k h (compose k g f) ≡ compose k (compose k h g) f → ⊥)
