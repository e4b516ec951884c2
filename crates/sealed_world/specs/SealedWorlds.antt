-- A site with presheaves and types that are sealed in a store.
use Rattle.std.specs.Prelude.{◌≡◌, ℕ, ◌+◌, ◌<◌, Bool, true, false, not, List, [], ◌∷◌, ◌++◌, length, get_or, map, filter, sum, Option, None, Some}
use Rattle.topos_model.specs.declared.ty.Ty.{Ty, Base, Omega}
use Rattle.finite_lists.specs.Members.{In, Distinct}
use Rattle.topos_model.specs.topologies.Cover.{Site}
use Rattle.topos_model.specs.topologies.Sheaves.{sheaf_fault}
use Rattle.topos_model.specs.types.Types.{Presheaf, functor}
use Rattle.topos_model.specs.statements.Cells.{is_named, presheaf_cells, types_cells}
use Rattle.functor_store.specs.Store.{Store}
use Rattle.functor_store.specs.Faithful.{Holds, IsFaithful}
use Rattle.omega_object.specs.declared.omega.Omega.{Omega as TruthValues}
use Rattle.omega_object.specs.Tables.{IsOmegaOn}
use Rattle.exponentials.specs.Needed.{keys}

-- what a caller sees of it: the presheaves by their numbers, the other types that are sealed, the cells that are charged besides, and how many cells there may be
pub record CountedWorld : Type 0 where
  pub site : Site
  pub functors : List Presheaf
  pub types : List Ty
  pub charges : ℕ
  pub budget : ℕ

-- a site without presheaves
abbrev pub bare_world : Site → ℕ → CountedWorld
bare_world s budget = record { site = s; functors = []; types = []; charges = 0; budget = budget }

-- the cells of presheaves, of the distinct types of a list other than presheaves, and of charges
unfoldable pub counted_cells : Site → List Presheaf → List Ty → ℕ → ℕ
counted_cells s functors types charges = sum (map (presheaf_cells s.category) functors) + types_cells s functors types + charges

-- the cells of a world, and those with the types of a list besides
abbrev pub world_cells : CountedWorld → ℕ
world_cells w = counted_cells w.site w.functors w.types w.charges

abbrev pub cells_with : CountedWorld → List Ty → ℕ
cells_with w types = counted_cells w.site w.functors (w.types ++ types) w.charges

-- the same with one presheaf more, and with more cells charged
abbrev pub with_presheaf : CountedWorld → Presheaf → CountedWorld
with_presheaf w X = record w { functors = w.functors ++ X ∷ [] }

abbrev pub with_charges : CountedWorld → ℕ → CountedWorld
with_charges w more = record w { charges = w.charges + more }

-- the same with some of the types of a list
pub record IsGrown (types : List Ty) (old new : CountedWorld) : Type 0 where
  pub added : List Ty
  pub is : new ≡ record old { types = old.types ++ added }
  pub only : (T : Ty) → In added T → In types T × (is_named T ≡ false)

-- all types of a list other than presheaves are there
abbrev pub HasTypes : List Ty → CountedWorld → Type 0
HasTypes types w = (T : Ty) → In types T → is_named T ≡ false → In w.types T

-- the same with all of them
pub record IsGrownBy (types : List Ty) (old new : CountedWorld) : Type 0 where
  pub grown : IsGrown types old new
  pub all : HasTypes types new

-- the world as it lies in a store: each presheaf is sealed under its number, and each sealed type once and with its elements
pub record InStore : Type 0 where
  pub site : Site
  pub functors : List Presheaf
  pub store : Store

pub record IsInStore (w : InStore) : Type 0 where
  pub idle : w.store.building ≡ None
  pub faithful : IsFaithful w.site w.functors w.store
  pub distinct : Distinct (keys w.store.sealed)
  pub named : (n : ℕ) → n < length w.functors → Holds w.store (Base n)

-- the truth values, there where they are sealed
pub record HasTruthValues (s : Site) (types : List Ty) (values : Option TruthValues) : Type 0 where
  pub lawful : (Ω : TruthValues) → values ≡ Some Ω → IsOmegaOn s Ω
  pub there : In types Omega → (Ω : TruthValues) × (values ≡ Some Ω)

-- each presheaf that is marked is a sheaf
pub record AreSheaves (s : Site) (functors : List Presheaf) (marks : List Bool) : Type 0 where
  pub number : (n : ℕ) → get_or marks n false ≡ true → n < length functors
  pub sheaf : (n : ℕ) → get_or marks n false ≡ true → sheaf_fault s (functor s functors n) ≡ None

-- the sealed types other than presheaves
unfoldable pub types_in : Store → List Ty
types_in store = filter (λ T. not (is_named T)) (keys store.sealed)

abbrev pub seen : InStore → CountedWorld
seen w = record { site = w.site; functors = w.functors; types = types_in w.store; charges = w.store.charges; budget = w.store.budget }

-- a store in which this world lies
pub record IsStoreOf (w : CountedWorld) (store : Store) : Type 0 where
  pub idle : store.building ≡ None
  pub faithful : IsFaithful w.site w.functors store
  pub presheaves : (n : ℕ) → n < length w.functors → Holds store (Base n)
  pub types : (T : Ty) → In w.types T → Holds store T
