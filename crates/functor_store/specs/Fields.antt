-- How the fields of a store hold its functors.
use Rattle.std.specs.Prelude.{◌≡◌, ℕ, suc, ◌+◌, ◌-◌, ◌*◌, ◌<◌, ◌≤◌, List, [], ◌∷◌, length, get_or, take, Option, Some, None}
use Rattle.std.specs.List.{sum_by}
use Rattle.indexmap.specs.IndexMap.{spare}
use Rattle.topos_model.specs.declared.ty.Ty.{Ty}
use Rattle.functor_store.specs.Groups.{groups, IsCutTo, last, raised}
use Rattle.functor_store.specs.Store.{Store, Functor, into, place, cost_sealed, cost_built, functor_at, IsDistinct, IsFreeKey, IsWhole}
use Rattle.functor_store.specs.declared.store.Part.{Part}
use Rattle.functor_store.specs.declared.store.FunctorStore.TheInside.{Inside}

unfoldable pub functor_of : Ty → ℕ → List ℕ → List (List ℕ) → List (List ℕ) → Functor
functor_of key base ends rows restrictions = record { key = key; rows = groups base ends rows; restrictions = groups base ends restrictions }

unfoldable pub sealed_of : List (List ℕ) → List (List ℕ) → List (Ty × Part) → List Functor
sealed_of rows restrictions [] = []
sealed_of rows restrictions (p ∷ ps) = functor_of p.0 p.1.base p.1.ends.items rows restrictions ∷ sealed_of rows restrictions ps

unfoldable pub building_of : Option Ty → ℕ → List ℕ → List (List ℕ) → List (List ℕ) → Option Functor
building_of None base ends rows restrictions = None
building_of (Some key) base ends rows restrictions = Some (functor_of key base ends rows restrictions)

-- where the elements of each object end in the functor that is being built: those of its last object are the last of all
abbrev pub ends_built : Inside → List ℕ
ends_built a = raised a.open a.open_ends.items (length a.rows.rows)

abbrev pub sealed_in : Inside → List Functor
sealed_in a = sealed_of a.rows.rows a.restrictions.rows a.parts.entries

abbrev pub built_in : Inside → Option Functor
built_in a = building_of a.key a.base (ends_built a) a.rows.rows a.restrictions.rows

abbrev pub view : Inside → Store
view a = record {
  objects = a.objects;
  ends = a.ends;
  budget = a.budget;
  charges = a.charges;
  sealed = sealed_in a;
  building = built_in a;
}

-- the ends of each part rise to at most n
unfoldable pub AreParts : ℕ → ℕ → List (Ty × Part) → Type 0
AreParts objects n [] = Unit {0}
AreParts objects n (p ∷ ps) = (length p.1.ends.items ≡ objects) × (IsCutTo p.1.base p.1.ends.items n) × AreParts objects n ps

-- what the functor in building keeps
pub record IsBuilt (objects base : ℕ) (ends : List ℕ) (rows restrictions : ℕ) : Type 0 where
  pub length_is : length ends ≡ objects
  pub cut : IsCutTo base ends rows
  pub last_is : last base ends ≡ rows
  pub restricted : base ≤ restrictions
  pub within : restrictions ≤ rows

unfoldable pub IsOpen : Option Ty → ℕ → ℕ → List ℕ → ℕ → ℕ → Type 0
IsOpen None objects base ends rows restrictions = (rows ≡ base) × (restrictions ≡ base)
IsOpen (Some key) objects base ends rows restrictions = IsBuilt objects base ends rows restrictions

-- there is room for the part of the functor in building
unfoldable pub HasRoom : Option Ty → ℕ → Type 0
HasRoom None room = Unit {0}
HasRoom (Some key) room = 0 < room

unfoldable pub IsFree : Option Ty → List Functor → Type 0
IsFree None Fs = Unit {0}
IsFree (Some key) Fs = IsFreeKey Fs key

-- each element has one number for each arrow into its object
abbrev pub HasWidths : List (ℕ × ℕ) → Functor → Type 0
HasWidths ends F = (c k : ℕ) → k < length (get_or F.restrictions c []) → length (get_or (get_or F.restrictions c []) k []) ≡ into ends c

unfoldable pub HasWidthsBuilt : List (ℕ × ℕ) → Option Functor → Type 0
HasWidthsBuilt ends None = Unit {0}
HasWidthsBuilt ends (Some F) = HasWidths ends F

-- what a sealed functor keeps
pub record IsSealed (ends : List (ℕ × ℕ)) (F : Functor) : Type 0 where
  pub whole : IsWhole F
  pub widths : HasWidths ends F

abbrev pub AreSealed : List (ℕ × ℕ) → List Functor → Type 0
AreSealed ends Fs = (i : ℕ) → i < length Fs → IsSealed ends (functor_at Fs i)

-- the numbers that are still to come in the restrictions of the objects from c on
unfoldable pub due_from : List (ℕ × ℕ) → ℕ → List (List (List ℕ)) → List (List (List ℕ)) → ℕ
due_from ends c [] hs = 0
due_from ends c (g ∷ gs) [] = 0
due_from ends c (g ∷ gs) (h ∷ hs) = into ends c * (length g - length h) + due_from ends (suc c) gs hs

unfoldable pub due : List (ℕ × ℕ) → Option Functor → ℕ
due ends None = 0
due ends (Some F) = due_from ends 0 F.rows F.restrictions

-- the tables over the arrows
pub record IsTables (objects : ℕ) (ends : List (ℕ × ℕ)) (into_table places : List ℕ) : Type 0 where
  pub objects_in : length into_table ≡ objects
  pub arrows_in : length places ≡ length ends
  pub ends_in : (f : ℕ) → f < length ends → (get_or ends f (0, 0)).1 < objects
  pub into_is : (c : ℕ) → c < objects → get_or into_table c 0 ≡ into ends c
  pub places_are : (f : ℕ) → f < length ends → get_or places f 0 ≡ place ends f

pub record IsStore (a : Inside) : Type 0 where
  pub tables : IsTables a.objects a.ends a.tables.into.items a.tables.places
  pub parts : AreParts a.objects a.base a.parts.entries
  pub opened : IsOpen a.key a.objects a.base (ends_built a) (length a.rows.rows) (length a.restrictions.rows)
  pub room : HasRoom a.key (spare a.parts)
  pub distinct : IsDistinct (sealed_in a)
  pub free : IsFree a.key (sealed_in a)
  pub laid : AreSealed a.ends (sealed_in a)
  pub widths : HasWidthsBuilt a.ends (built_in a)
  pub sealed_cells : a.sealed_cells ≡ a.charges + cost_sealed a.ends (sealed_in a)
  pub cells : a.cells ≡ a.sealed_cells + cost_built a.ends (built_in a)
  -- the cells cover all that the arenas hold, and all that is still to come
  pub held : sum_by length (take a.base a.rows.rows) + a.base + sum_by length (take a.base a.restrictions.rows) ≤ a.sealed_cells
  pub held_built : sum_by length a.rows.rows + length a.rows.rows + sum_by length a.restrictions.rows + due a.ends (built_in a) ≤ a.cells
  pub within : a.cells ≤ a.budget
  pub bounded : a.budget ≤ 64_000_000
