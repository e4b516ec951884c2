-- Stores over two objects, their identities, and two arrows from the first to the second, as tests build them.
use Rattle.std.specs.Prelude.{ℕ, List, [], ◌∷◌, Option}
use Rattle.topos_model.specs.declared.ty.Ty.{Omega}
use Rattle.functor_store.specs.Store.{Functor, Store}

-- a store for 9 cells
abbrev pub two_objects : List Functor → Option Functor → Store
two_objects sealed building = record { objects = 2; ends = (0, 0) ∷ (1, 1) ∷ (0, 1) ∷ (0, 1) ∷ []; budget = 9; charges = 0; sealed = sealed; building = building }

-- one element over each object, the first with these entries
abbrev pub two_elements : List ℕ → Functor
two_elements entries = record { key = Omega; rows = (entries ∷ []) ∷ ([] ∷ []) ∷ []; restrictions = [] ∷ [] ∷ [] }

-- the same with restrictions
abbrev pub two_restricted : List ℕ → Functor
two_restricted entries = record { key = Omega; rows = (entries ∷ []) ∷ ([] ∷ []) ∷ []; restrictions = ((0 ∷ []) ∷ []) ∷ ((0 ∷ 5 ∷ 6 ∷ []) ∷ []) ∷ [] }
