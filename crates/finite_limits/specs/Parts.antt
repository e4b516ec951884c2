-- The presheaf of elements of X that are kept: i lists them at each object, in order, and r has the place of each of them.
use Rattle.std.specs.Prelude.{◌≡◌, ℕ, ◌<◌, ◌≤◌, List, map, length, Option, Some, None}
use Rattle.std.specs.List.{range_with_len}
use Rattle.topos_model.specs.categories.Category.{Category, dom, cod}
use Rattle.topos_model.specs.types.Types.{Presheaf}
use Rattle.topos_model.specs.Laws.{IsInto, act, size}
use Rattle.topos_model.specs.presheaves.Maps.{Components, component, apply}
use Rattle.topos_model.specs.statements.Cells.{presheaf_cells}
use Rattle.finite_limits.specs.Kept.{IsPlace}

-- what is kept is restricted to what is kept
pub record IsPart (k : Category) (X : Presheaf) (i r : Components) : Type 0 where
  pub elements : length i ≡ k.objects
  pub ranks : length r ≡ k.objects
  pub table : (c : ℕ) → c < k.objects → length (component r c) ≡ size X c
  pub within : (c t : ℕ) → c < k.objects → t < length (component i c) → apply i c t < size X c
  pub rise : (c s t : ℕ) → c < k.objects → s < t → t < length (component i c) → apply i c s < apply i c t
  pub closed : (c f t : ℕ) → IsInto k c f → t < length (component i c) →
      IsPlace (component i (dom k f)) (apply r (dom k f) (act X f (apply i c t))) (act X f (apply i c t))

-- the restrictions along f
abbrev pub part_row : Category → Presheaf → Components → Components → ℕ → List ℕ
part_row k X i r f = map (λ x. apply r (dom k f) (act X f x)) (component i (cod k f))

abbrev pub part_presheaf : Category → Presheaf → Components → Components → Presheaf
part_presheaf k X i r = record { sizes = map length i; along = map (part_row k X i r) (range_with_len 0 (length k.ends)) }

-- the presheaf of what is kept, where it has no more cells than there is room for
abbrev pub IsPartWithin : Category → Presheaf → Components → Components → ℕ → Option Presheaf → Type 0
IsPartWithin k X i r room (Some Z) = (Z ≡ part_presheaf k X i r) × (presheaf_cells k Z ≤ room)
IsPartWithin k X i r room None = room < presheaf_cells k (part_presheaf k X i r)
