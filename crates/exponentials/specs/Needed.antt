-- What a type needs in a store.
use Rattle.std.specs.Prelude.{◌≡◌, ℕ, ◌+◌, ◌<◌, Bool, not, List, ◌++◌, length, map, filter, sum, None, Result, Ok, Err, IfOk, OnOk, ⊤}
use Rattle.std.specs.List.{list_any}
use Rattle.topos_model.specs.declared.ty.Ty.{Ty, Omega}
use Rattle.finite_lists.specs.Members.{In, Distinct}
use Rattle.topos_model.specs.topologies.Cover.{Site}
use Rattle.topos_model.specs.types.Types.{Presheaf}
use Rattle.topos_model.specs.types.SameType.{same_type}
use Rattle.topos_model.specs.statements.Cells.{cells_of, without_repeats}
use Rattle.topos_model.specs.statements.Needs.{parts}
use Rattle.functor_store.specs.declared.fault.StoreFault.{StoreFault}
use Rattle.functor_store.specs.declared.fault.StoreFault.TheVariants.{Over, NoMemory}
use Rattle.functor_store.specs.Store.{Functor, Store, cells, functor_at, IsFreeKey}
use Rattle.functor_store.specs.Faithful.{Holds, IsFaithful}
use Rattle.type_rows.specs.TypeRows.{HoldsNamed}

-- the functor at a place is sealed under the type
abbrev pub IsPlaceOf : Store → ℕ → Ty → Type 0
IsPlaceOf store id T = (id < length store.sealed) × ((functor_at store.sealed id).key ≡ T)

-- all types of a list are sealed
abbrev pub HoldsAll : Store → List Ty → Type 0
HoldsAll store types = (T : Ty) → In types T → Holds store T

-- Omega is sealed where the type has it as a part
abbrev pub HoldsOmega : Store → Ty → Type 0
HoldsOmega store T = In (parts T) Omega → Holds store Omega

unfoldable pub keys : List Functor → List Ty
keys Fs = map (λ F. F.key) Fs

-- functors are sealed behind those that were there, under distinct types of a list that had none; nothing else changes
pub record IsExtended (types : List Ty) (old new : Store) : Type 0 where
  pub added : List Functor
  pub store_is : new ≡ record old { sealed = old.sealed ++ added }
  pub distinct : Distinct (keys added)
  pub fresh : (T : Ty) → In (keys added) T → In types T × IsFreeKey old.sealed T

-- whether a functor is sealed under the type
unfoldable pub is_held : Store → Ty → Bool
is_held store T = list_any (λ F. same_type T F.key) store.sealed

-- the cells of the types of a list that are not sealed, each once
unfoldable pub new_cells : Site → List Presheaf → Store → List Ty → ℕ
new_cells s functors store types = sum (map (cells_of s functors) (filter (λ T. not (is_held store T)) (without_repeats types)))

-- a type of a list that is not sealed, and does not fit
pub record IsStuck (s : Site) (functors : List Presheaf) (types : List Ty) (store : Store) : Type 0 where
  pub next : Ty
  pub part : In types next
  pub free : IsFreeKey store.sealed next
  pub over : store.budget < cells store + cells_of s functors next

-- P holds where the fault is `Over`
abbrev pub WhereOver : {A : Type 0} → Result A StoreFault → Type 0 → Type 0
WhereOver (Ok _) P = ⊤
WhereOver (Err Over) P = P
WhereOver (Err NoMemory) P = ⊤

-- what is asked before a type and its parts are sealed
pub record IsReady (s : Site) (T : Ty) (store : Store) : Type 0 where
  pub idle : store.building ≡ None
  pub faithful : (functors : List Presheaf) × IsFaithful s functors store
  pub named : HoldsNamed store T
  pub omega : HoldsOmega store T

-- what holds after the types of a list were sealed, a type last, or did not fit
pub record IsOutcome (s : Site) (types : List Ty) (T : Ty) (old new : Store) (r : Result ℕ StoreFault) : Type 0 where
  pub extended : IsExtended types old new
  pub faithful : (functors : List Presheaf) → IsFaithful s functors old → IsFaithful s functors new
  pub place : IfOk r (λ id. IsPlaceOf new id T)
  pub held : OnOk r (HoldsAll new types)
  pub stuck : WhereOver r ((functors : List Presheaf) → IsFaithful s functors old → IsStuck s functors types new)
