-- The cells of a presheaf by its sizes, object by object.
use Rattle.std.proofs.Common.{◌≡◌, ℕ, zero, suc, ◌+◌, ◌*◌, ◌/◌, div-lt_iff_lt-mul, ◌<◌, ◌≤◌, List, [], length, get_or, Option, Some, None, subst, refl, ap, ◌∙◌, arith, inl, inr}
use Rattle.std.proofs.lemmas.Bool.{cases_lt}
use Rattle.topos_model.specs.categories.Category.{Category, into}
use Rattle.topos_model.specs.types.Types.{Presheaf}
use Rattle.topos_model.specs.Laws.{size}
use Rattle.topos_model.specs.statements.Cells.{presheaf_cells}
use Rattle.presheaf_core.proofs.CellSums.{cells_below, cells_more, cells_all}
use Rattle.natural_maps.specs.Room.{sized_cells, AreSizesWithin}

abbrev pub presheaf : List ℕ → List (List ℕ) → Presheaf
presheaf sizes along = record { sizes = sizes; along = along }

module _ (k : Category) (sizes : List ℕ) where
  -- more objects have more cells
  cells_rise : (d n m : ℕ) → n + d ≡ m → cells_below k sizes n ≤ cells_below k sizes m
  cells_rise zero n m e = let w : n ≡ m = omega arith in rw w (omega arith)
  cells_rise (suc d) n m e =
      let b : cells_below k sizes (n + 1) ≤ cells_below k sizes m = cells_rise d (n + 1) m (omega arith) in
      let s : cells_below k sizes (n + 1) ≡ cells_below k sizes n + get_or sizes n 0 * (1 + length (into k n)) = cells_more k sizes n in
      omega arith

  pub cells_within : (n m : ℕ) → n ≤ m → cells_below k sizes n ≤ cells_below k sizes m
  cells_within n m h = let w : (d : ℕ) × (n + d ≡ m) = difference n m h in cells_rise w.0 n m w.1
    where
      difference : (n m : ℕ) → n ≤ m → (d : ℕ) × (n + d ≡ m)
      difference zero m h = (m, omega arith)
      difference (suc n) zero h = absurd (omega arith)
      difference (suc n) (suc m) h = let w : (d : ℕ) × (n + d ≡ m) = difference n m (omega arith) in (w.0, let e : n + w.0 ≡ m = w.1 in omega arith)

  -- an object has no more elements than all have cells
  pub size_within : (c : ℕ) → c < k.objects → get_or sizes c 0 ≤ sized_cells k sizes
  size_within c h =
      let a : cells_below k sizes (c + 1) ≤ cells_below k sizes k.objects = cells_within (c + 1) k.objects (omega arith) in
      let s : cells_below k sizes (c + 1) ≡ cells_below k sizes c + get_or sizes c 0 * (1 + length (into k c)) = cells_more k sizes c in
      let m : get_or sizes c 0 ≤ get_or sizes c 0 * (1 + length (into k c)) = at_least (get_or sizes c 0) (length (into k c)) in
      let e : cells_below k sizes k.objects ≡ sized_cells k sizes = cells_all k sizes [] in
      omega arith
    where
      at_least : (a b : ℕ) → a ≤ a * (1 + b)
      at_least a b = omega arith

-- presheaves with the same sizes have the same cells
pub cells_by_sizes : (k : Category) (Z : Presheaf) → presheaf_cells k Z ≡ sized_cells k Z.sizes
unfolding presheaf_cells
cells_by_sizes k Z = refl

-- more than a share of what is left is more than is left
pub more_than_share : (left size n : ℕ) → left / (1 + n) < size → left < size * (1 + n)
more_than_share left size n h = (div-lt_iff_lt-mul (let p : 0 < 1 + n = omega arith in p)).0 h

pub within_share : (left size n : ℕ) → size ≤ left / (1 + n) → size * (1 + n) ≤ left
within_share left size n h = elim (cases_lt left (size * (1 + n))) [
  | inl b ↦ absurd (let w : left / (1 + n) < size = (div-lt_iff_lt-mul (let p : 0 < 1 + n = omega arith in p)).1 b in omega arith)
  | inr b ↦ b
]

-- what counts that are within the room, or over it, say
pub sizes_are : (k : Category) (counts : List ℕ) (room : ℕ) (found : Option (List ℕ)) (sizes : List ℕ) → found ≡ Some sizes → AreSizesWithin k counts room found → (sizes ≡ counts) × (sized_cells k counts ≤ room)
sizes_are k counts room found sizes e a = subst (AreSizesWithin k counts room) e a

pub sizes_over : (k : Category) (counts : List ℕ) (room : ℕ) (found : Option (List ℕ)) → found ≡ None → AreSizesWithin k counts room found → room < sized_cells k counts
sizes_over k counts room found e a = subst (AreSizesWithin k counts room) e a

pub presheaf_is : (sizes others : List ℕ) (along rows : List (List ℕ)) → sizes ≡ others → along ≡ rows → presheaf sizes along ≡ presheaf others rows
presheaf_is sizes others along rows e d = ap (λ (s : List ℕ). presheaf s along) e ∙ ap (λ (r : List (List ℕ)). presheaf others r) d
