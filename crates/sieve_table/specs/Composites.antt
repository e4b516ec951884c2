-- Composites of arrows of one set with arrows of others, as sets of arrows.
use Rattle.std.specs.Prelude.{ℕ, List, [], ◌∷◌, map, filter, eqb}
use Rattle.std.specs.List.{list_any}
use Rattle.topos_model.specs.categories.Category.{Category, into, dom, compose}
use Rattle.fin_category.specs.Masks.{all_added}

-- the arrows f.g into c, with f in a set and g in that of dom f
abbrev pub composites : Category → (ℕ → List ℕ) → ℕ → List ℕ → List ℕ
composites k second c first =
    filter (λ h. list_any (λ f. list_any (λ g. eqb (compose k f g) h) (second (dom k f))) first) (into k c)

-- the same, put into a set one after another
unfoldable pub all_composites : Category → (ℕ → List ℕ) → List ℕ → List ℕ → List ℕ
all_composites k second S [] = S
all_composites k second S (f ∷ fs) = all_composites k second (all_added S (map (compose k f) (second (dom k f)))) fs
