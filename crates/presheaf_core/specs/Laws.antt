-- What the check of a listed presheaf says.
use Rattle.std.specs.Prelude.{◌≡◌, ℕ, ◌<◌, Some, None}
use Rattle.topos_model.specs.declared.fault.Fault.TheVariants.{NotFunctorial}
use Rattle.topos_model.specs.categories.Category.{Category, cod, compose}
use Rattle.topos_model.specs.types.Types.{Presheaf}
use Rattle.topos_model.specs.Laws.{act, size, AreComposable, IsFunctor}
use Rattle.topos_model.specs.Faults.{functoriality_fault}

-- a functor has no instance at which restriction fails to compose
abbrev pub FunctorsCompose : Type 0
FunctorsCompose = (k : Category) (X : Presheaf) → IsFunctor k X → functoriality_fault k X ≡ None

-- 52 is an instance: x.g and g.f are defined, and (x.g).f and x.(g.f) differ
abbrev pub FailingInstancesFail : Type 0
FailingInstancesFail =
    (k : Category) (X : Presheaf) (g f x : ℕ) → functoriality_fault k X ≡ Some (NotFunctorial g f x) →
    AreComposable k g f × (x < size X (cod k g)) × (act X f (act X g x) ≡ act X (compose k g f) x → ⊥)
