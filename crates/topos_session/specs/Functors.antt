-- Declared functors by their numbers.
use Rattle.std.specs.Prelude.{ℕ, ◌<◌, List, [], length, get_or}
use Rattle.topos_model.specs.categories.Category.{Category}
use Rattle.topos_model.specs.types.Types.{Presheaf}
use Rattle.topos_model.specs.Laws.{IsFunctor}

-- what stands for a functor that is not declared
abbrev pub none : Presheaf
none = record { sizes = []; along = [] }

abbrev pub functor_at : List Presheaf → ℕ → Presheaf
functor_at functors n = get_or functors n none

abbrev pub AreFunctors : Category → List Presheaf → Type 0
AreFunctors k functors = (n : ℕ) → n < length functors → IsFunctor k (functor_at functors n)
