-- Functors from the rows of their elements, which stand behind one another at each object.
use Rattle.std.specs.Prelude.{◌≡◌, ℕ, ◌+◌, ◌*◌, ◌<◌, cond, List, [], length, get_or, map, take, eqb, ltb, replicate, Option, Some, None, Result, Ok, Err, ⊤}
use Rattle.std.specs.List.{slice_range, range_with_len}
use Rattle.topos_model.specs.declared.ty.Ty.{Ty}
use Rattle.functor_store.specs.declared.fault.StoreFault.{StoreFault}
use Rattle.functor_store.specs.declared.fault.StoreFault.TheVariants.{Over, NoMemory}
use Rattle.functor_store.specs.Store.{Functor, into}
use Rattle.sealed_functors.specs.declared.rows.ElementRows.{ElementRows}

-- the part number k of a list of parts of one length
abbrev pub part : ℕ → List ℕ → ℕ → List ℕ
part width xs k = slice_range xs (k * width) (k * width + width)

-- so many parts
unfoldable pub parts : ℕ → ℕ → List ℕ → List (List ℕ)
parts width count xs = map (part width xs) (range_with_len 0 count)

abbrev pub element_rows : ElementRows → List (List ℕ)
element_rows r = parts r.width r.count r.rows

abbrev pub restriction_rows : ElementRows → List (List ℕ)
restriction_rows r = parts r.arrows r.count r.restrictions

unfoldable pub functor_from : Ty → List ElementRows → Functor
functor_from key at = record { key = key; rows = map element_rows at; restrictions = map restriction_rows at }

abbrev pub rows_at : List ElementRows → ℕ → ElementRows
rows_at at c = get_or at c (record { count = 0; width = 0; arrows = 0; rows = []; restrictions = [] })

-- each element at c has a row of the width, and one number for each arrow into c
pub record AreShaped (ends : List (ℕ × ℕ)) (at : List ElementRows) : Type 0 where
  pub arrows : (c : ℕ) → c < length at → (rows_at at c).arrows ≡ into ends c
  pub rows : (c : ℕ) → c < length at → length (rows_at at c).rows ≡ (rows_at at c).count * (rows_at at c).width
  pub restrictions : (c : ℕ) → c < length at → length (rows_at at c).restrictions ≡ (rows_at at c).count * (rows_at at c).arrows

-- all groups before c, and the first k members of the group c
abbrev pub group_up_to : List (List (List ℕ)) → ℕ → ℕ → ℕ → List (List ℕ)
group_up_to gs c k o = cond (ltb o c) (get_or gs o []) (cond (eqb o c) (take k (get_or gs o [])) [])

unfoldable pub up_to : List (List (List ℕ)) → ℕ → ℕ → List (List (List ℕ))
up_to gs c k = map (group_up_to gs c k) (range_with_len 0 (length gs))

-- a functor with these rows, or with these restrictions
unfoldable pub with_all_rows : Option Functor → List (List (List ℕ)) → Option Functor
with_all_rows None gs = None
with_all_rows (Some F) gs = Some (record F { rows = gs })

unfoldable pub with_all_restrictions : Option Functor → List (List (List ℕ)) → Option Functor
with_all_restrictions None gs = None
with_all_restrictions (Some F) gs = Some (record F { restrictions = gs })

-- a functor without elements
pub record IsBare (objects : ℕ) (F : Functor) : Type 0 where
  pub rows : F.rows ≡ replicate objects []
  pub restrictions : F.restrictions ≡ replicate objects []

-- the fault is `Over` exactly where P holds; want of memory may come before
abbrev pub IsOverExactly : {A : Type 0} → Result A StoreFault → Type 0 → Type 0
IsOverExactly (Ok _) P = P → ⊥
IsOverExactly (Err Over) P = P
IsOverExactly (Err NoMemory) P = ⊤
