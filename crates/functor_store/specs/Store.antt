-- What a caller sees of a store.
use Rattle.std.specs.Prelude.{◌≡◌, ℕ, suc, ◌+◌, ◌<◌, eqb, List, [], ◌∷◌, ◌++◌, length, get_or, set, take, replicate, Option, Some, None, Result, Ok, Err}
use Rattle.std.specs.List.{sum_by, count_by}
use Rattle.topos_model.specs.declared.ty.Ty.{Ty, One}
use Rattle.functor_store.specs.declared.fault.StoreFault.{StoreFault}
use Rattle.functor_store.specs.declared.fault.StoreFault.TheVariants.{Over, NoMemory}

-- a functor: for each object the row of each element, and for each object and element one number for each arrow into the object
pub record Functor : Type 0 where
  pub key : Ty
  pub rows : List (List (List ℕ))
  pub restrictions : List (List (List ℕ))

pub record Store : Type 0 where
  pub objects : ℕ
  -- the domain and the codomain of each arrow
  pub ends : List (ℕ × ℕ)
  pub budget : ℕ
  pub charges : ℕ
  pub sealed : List Functor
  pub building : Option Functor

-- the number of arrows into c
unfoldable pub into : List (ℕ × ℕ) → ℕ → ℕ
into ends c = count_by (λ e. eqb (e.1) c) ends

-- the place of the arrow f among the arrows into its codomain
unfoldable pub place : List (ℕ × ℕ) → ℕ → ℕ
place ends f = into (take f ends) ((get_or ends f (0, 0)).1)

-- the number of elements at c
abbrev pub size_at : Functor → ℕ → ℕ
size_at F c = length (get_or F.rows c [])

-- the row of the element k at c
abbrev pub element_at : Functor → ℕ → ℕ → List ℕ
element_at F c k = get_or (get_or F.rows c []) k []

-- the restrictions of the element k at c, along the arrows into c
abbrev pub restrictions_at : Functor → ℕ → ℕ → List ℕ
restrictions_at F c k = get_or (get_or F.restrictions c []) k []

-- the restriction along f of the element k at the codomain of f
abbrev pub restriction_along : List (ℕ × ℕ) → Functor → ℕ → ℕ → ℕ
restriction_along ends F f k = get_or (restrictions_at F ((get_or ends f (0, 0)).1) k) (place ends f) 0

-- the cells of the rows of the objects from c on
unfoldable pub cost_from : List (ℕ × ℕ) → ℕ → List (List (List ℕ)) → ℕ
cost_from ends c [] = 0
cost_from ends c (g ∷ gs) = sum_by (λ row. 1 + into ends c + length row) g + cost_from ends (suc c) gs

-- an element at c costs one cell, one for each arrow into c, and one for each entry of its row
unfoldable pub cost : List (ℕ × ℕ) → Functor → ℕ
cost ends F = cost_from ends 0 F.rows

unfoldable pub cost_built : List (ℕ × ℕ) → Option Functor → ℕ
cost_built ends None = 0
cost_built ends (Some F) = cost ends F

unfoldable pub cost_sealed : List (ℕ × ℕ) → List Functor → ℕ
cost_sealed ends [] = 0
cost_sealed ends (F ∷ Fs) = cost ends F + cost_sealed ends Fs

-- the cells of all elements held, and of all charges
unfoldable pub cells : Store → ℕ
cells s = s.charges + cost_sealed s.ends s.sealed + cost_built s.ends s.building

-- one more at the end of the group c
unfoldable pub push_at : {X : Type 0} → List (List X) → ℕ → X → List (List X)
push_at gs c x = set gs c (get_or gs c [] ++ x ∷ [])

-- the functor sealed at a place
unfoldable pub functor_at : List Functor → ℕ → Functor
functor_at Fs id = get_or Fs id (record { key = One; rows = []; restrictions = [] })

-- no functor is sealed under the type
abbrev pub IsFreeKey : List Functor → Ty → Type 0
IsFreeKey Fs key = (i : ℕ) → i < length Fs → (functor_at Fs i).key ≡ key → ⊥

-- no two functors are sealed under one type
abbrev pub IsDistinct : List Functor → Type 0
IsDistinct Fs = (i j : ℕ) → i < j → j < length Fs → (functor_at Fs i).key ≡ (functor_at Fs j).key → ⊥

-- nothing stands after the object c, and nothing has restrictions
pub record IsNext (F : Functor) (c : ℕ) : Type 0 where
  pub nothing_after : (o : ℕ) → c < o → get_or F.rows o [] ≡ []
  pub unrestricted : (o : ℕ) → get_or F.restrictions o [] ≡ []

-- the element k at c is the first that has no restrictions
pub record IsFirstOpen (F : Functor) (c k : ℕ) : Type 0 where
  pub before : (o : ℕ) → o < c → length (get_or F.restrictions o []) ≡ size_at F o
  pub here : length (get_or F.restrictions c []) ≡ k
  pub open_here : k < size_at F c

-- every element has its restrictions
abbrev pub IsWhole : Functor → Type 0
IsWhole F = (o : ℕ) → length (get_or F.restrictions o []) ≡ size_at F o

-- a functor is being built, and P holds of it
abbrev pub IfBuilding : Option Functor → (Functor → Type 0) → Type 0
IfBuilding None P = ⊥
IfBuilding (Some F) P = P F

unfoldable pub with_row : Option Functor → ℕ → List ℕ → Option Functor
with_row None c row = None
with_row (Some F) c row = Some (record F { rows = push_at F.rows c row })

unfoldable pub with_restrictions : Option Functor → ℕ → List ℕ → Option Functor
with_restrictions None c row = None
with_restrictions (Some F) c row = Some (record F { restrictions = push_at F.restrictions c row })

-- a functor with no elements
unfoldable pub bare : Ty → ℕ → Functor
bare key objects = record { key = key; rows = replicate objects []; restrictions = replicate objects [] }

unfoldable pub sealed_with : List Functor → Option Functor → List Functor
sealed_with Fs None = Fs
sealed_with Fs (Some F) = Fs ++ F ∷ []

-- the fault is `Over` exactly where P holds, unless memory is short
abbrev pub IsOverWhere : Result (Unit {0}) StoreFault → Type 0 → Type 0
IsOverWhere (Ok _) P = P → ⊥
IsOverWhere (Err Over) P = P
IsOverWhere (Err NoMemory) P = P → ⊥
