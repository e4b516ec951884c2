-- Matching families as rows of numbers, one at each arrow of a sieve, that fit along the restrictions.
use Rattle.std.specs.Prelude.{◌≡◌, ℕ, suc, ◌<◌, cond, eqb, List, [], ◌∷◌, map, length, get_or, flat_map}
use Rattle.std.specs.List.{range_with_len}
use Rattle.topos_model.specs.categories.Category.{Category, into, dom, compose}
use Rattle.topos_model.specs.types.Types.{Presheaf}
use Rattle.topos_model.specs.Laws.{size}
use Rattle.natural_search.specs.declared.squares.Square.{Square}

-- the place of an arrow in a sieve
abbrev pub place : List ℕ → ℕ → ℕ
place [] f = 0
place (g ∷ S) f = cond (eqb g f) 0 (suc (place S f))

-- for each arrow of the category a number, which is its place where the sieve has it
pub record IsPlaceTable (arrows : ℕ) (S table : List ℕ) : Type 0 where
  pub long : length table ≡ arrows
  pub places : (i : ℕ) → i < length S → get_or table (get_or S i 0) 0 ≡ i

-- how many elements there are at the domain of each arrow
abbrev pub bounds_of : Category → Presheaf → List ℕ → List ℕ
bounds_of k X S = map (λ f. size X (dom k f)) S

-- the square of the arrow f at a place, and an arrow g into its domain: the element at f.g is the restriction along g of that at f
abbrev pub square_of : Category → List ℕ → ℕ → ℕ → Square
square_of k S i g = record { arrow = g; element = i; restricted = place S (compose k (get_or S i 0) g) }

abbrev pub squares_at : Category → List ℕ → ℕ → List Square
squares_at k S i = map (square_of k S i) (into k (dom k (get_or S i 0)))

unfoldable pub squares_of : Category → List ℕ → List Square
squares_of k S = flat_map (squares_at k S) (range_with_len 0 (length S))
