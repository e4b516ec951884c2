-- Categories from their tables.
use Rattle.std.specs.Prelude.{◌≡◌, ℕ, ◌+◌, ◌*◌, ◌<◌, ◌≤◌, List, length, get_or, map, eqb, filter}
use Rattle.std.specs.List.{range_with_len}
use Rattle.topos_model.specs.categories.Category.{Category, dom, cod, compose}
use Rattle.topos_model.specs.Laws.{IsInto, AreComposable}
use Rattle.topos_model.specs.categories.Listed.{composable}
use Rattle.topos_model.specs.statements.Form.{max_objects, max_arrows}

-- the category with these ends and with the composites that a function gives
unfoldable pub tabulated : ℕ → List (ℕ × ℕ) → (ℕ → ℕ → ℕ) → Category
tabulated objects ends value = record {
  objects = objects;
  ends = ends;
  table = map (λ p. (p.0, p.1, value p.0 p.1)) (composable ends);
}

-- the entry in row g and column f of a square table
abbrev pub entry : List ℕ → ℕ → ℕ → ℕ → ℕ
entry square n g f = get_or square (g * n + f) 0

-- the category with these ends and with the composites of a square table
unfoldable pub category_of : ℕ → List (ℕ × ℕ) → List ℕ → Category
category_of objects ends square = tabulated objects ends (entry square (length ends))

-- the arrows that end at c, in order
unfoldable pub ending_at : List (ℕ × ℕ) → ℕ → List ℕ
ending_at ends c = filter (λ f. eqb (get_or ends f (0, 0)).1 c) (range_with_len 0 (length ends))

-- those at each object
unfoldable pub ending_at_each : List (ℕ × ℕ) → ℕ → List (List ℕ)
ending_at_each ends objects = map (ending_at ends) (range_with_len 0 objects)

-- ends are objects, and composites are arrows with the right ends
pub record IsClosed (k : Category) : Type 0 where
  pub ends : (f : ℕ) → f < length k.ends → (dom k f < k.objects) × (cod k f < k.objects)
  pub composite : (g f : ℕ) → AreComposable k g f → IsInto k (cod k g) (compose k g f) × (dom k (compose k g f) ≡ dom k f)

-- tables of one category, within the limits
pub record AreTables (objects : ℕ) (ends : List (ℕ × ℕ)) (square : List ℕ) (rows : List (List ℕ)) : Type 0 where
  pub few_objects : objects ≤ max_objects
  pub few_arrows : length ends ≤ max_arrows
  pub places : length square ≡ length ends * length ends
  pub closed : IsClosed (category_of objects ends square)
  pub rows_into : rows ≡ ending_at_each ends objects
