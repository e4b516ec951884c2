-- Each type is a functor, and a sheaf where the functors that it names are sheaves.
use Rattle.std.specs.Prelude.{ℕ, List}
use Rattle.std.specs.List.{All}
use Rattle.topos_model.specs.declared.ty.Ty.{Ty}
use Rattle.topos_model.specs.topologies.Cover.{Site}
use Rattle.topos_model.specs.Laws.{IsCategory, IsFunctor, IsTopology}
use Rattle.topos_model.specs.topologies.Sheaves.{IsSheaf}
use Rattle.topos_model.specs.types.Types.{Presheaf, elements, restr}
use Rattle.topos_model.specs.topologies.Sheaves.{OfSheaves}
use Rattle.finite_lists.specs.Rising.{Rising}
use Rattle.topos_model.specs.types.Order.{Below}
use Rattle.type_laws.specs.Numbered.{numbered}

-- the functor whose element k at an object is the k-th element of the type there
abbrev pub TypeFunctor : Site → List Presheaf → Ty → Presheaf
TypeFunctor s functors T = numbered s.category (elements s functors T) (restr s functors T)

abbrev pub TypesAreFunctors : Type 0
TypesAreFunctors = (s : Site) (functors : List Presheaf) → IsCategory s.category → All (IsFunctor s.category) functors → (T : Ty) → IsFunctor s.category (TypeFunctor s functors T)

abbrev pub TypesAreSheaves : Type 0
TypesAreSheaves = (s : Site) (functors : List Presheaf) → IsCategory s.category → IsTopology s → All (IsFunctor s.category) functors → (T : Ty) → OfSheaves s functors T → IsSheaf s (TypeFunctor s functors T)

abbrev pub ElementsRise : Type 0
ElementsRise = (s : Site) (functors : List Presheaf) (T : Ty) (c : ℕ) → Rising (Below s functors T c) (elements s functors T c)
