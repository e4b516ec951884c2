-- The natural assignments of one type to another at an object, by their numbers: a number for each pair of an arrow f into the object and an element over its domain.
use Rattle.std.specs.Prelude.{◌≡◌, ℕ, ◌+◌, ◌*◌, ◌<◌, Bool, not, nat_lt, List, [], map, filter, length, get_or, flat_map, replicate, sum}
use Rattle.std.specs.List.{range_with_len}
use Rattle.topos_model.specs.categories.Category.{Category, into, dom, cod, compose}
use Rattle.finite_lists.specs.Members.{In}
use Rattle.topos_model.specs.Laws.{IsInto}
use Rattle.place_closures.specs.Pairs.{start}
use Rattle.sealed_functors.specs.declared.rows.ElementRows.{ElementRows}
use Rattle.sealed_functors.specs.Rows.{rows_at}
use Rattle.natural_search.specs.Rows.{joined}
use Rattle.natural_search.specs.declared.squares.Square.{Square}
use Rattle.natural_search.specs.Search.{fitting}

-- elements by their numbers: how many there are at each object, and their restrictions
module _ (k : Category) (size : ℕ → ℕ) (move : ℕ → ℕ → ℕ) where
  -- for each arrow f into c something for each element over its domain
  abbrev pub over_pairs : {A : Type 0} → (ℕ → ℕ → A) → ℕ → List A
  over_pairs entry c = flat_map (λ f. map (entry f) (range_with_len 0 (size (dom k f)))) (into k c)

  -- the square of the pair (f, w) and an arrow g: the value at (f.g, w.g) is that at (f, w), restricted along g
  abbrev pub square_at : ℕ → ℕ → ℕ → ℕ → Square
  square_at c f w g = record { arrow = g; element = start k size move c f + w; restricted = start k size move c (compose k f g) + move g w }

  -- whether an arrow is no identity
  abbrev pub is_declared : ℕ → Bool
  is_declared g = not (nat_lt g k.objects)

  -- the squares of a pair
  unfoldable pub pair_squares : ℕ → ℕ → ℕ → List Square
  pair_squares c f w = map (square_at c f w) (filter is_declared (into k (dom k f)))

  unfoldable pub arrow_squares : ℕ → ℕ → List Square
  arrow_squares c f = flat_map (pair_squares c f) (range_with_len 0 (size (dom k f)))

  unfoldable pub function_squares : ℕ → List Square
  function_squares c = flat_map (arrow_squares c) (into k c)

  -- the numbers at (h.f, w), for each (f, w) at the domain of h
  unfoldable pub under_row : ℕ → ℕ → List ℕ → List ℕ
  under_row c h row = over_pairs (λ f w. get_or row (start k size move c (compose k h f) + w) 0) (dom k h)

  -- for each pair how many values there are
  unfoldable pub function_bounds : (ℕ → ℕ) → ℕ → List ℕ
  function_bounds size' c = flat_map (λ f. replicate (size (dom k f)) (size' (dom k f))) (into k c)

-- the restrictions along each arrow
unfoldable pub restriction_table : Category → (ℕ → ℕ) → (ℕ → ℕ → ℕ) → List (List ℕ)
restriction_table k size move = map (λ f. map (move f) (range_with_len 0 (size (cod k f)))) (range_with_len 0 (length k.ends))

-- all natural assignments at c, lexicographic: first the elements of the domain, then those of the codomain
unfoldable pub function_rows : Category → (ℕ → ℕ) → (ℕ → ℕ → ℕ) → (ℕ → ℕ) → (ℕ → ℕ → ℕ) → ℕ → List (List ℕ)
function_rows k size move size' move' c = fitting (restriction_table k size' move') (function_squares k size move c) (function_bounds k size move size' c)

-- the number stands for the row among the rows at c
pub record IsRowNumber (k : Category) (size : ℕ → ℕ) (move : ℕ → ℕ → ℕ) (size' : ℕ → ℕ) (move' : ℕ → ℕ → ℕ) (c n : ℕ) (row : List ℕ) : Type 0 where
  pub within : n < length (function_rows k size move size' move' c)
  pub is : get_or (function_rows k size move size' move' c) n [] ≡ row

-- a row under each arrow into its object is a row
abbrev pub AreClosed : Category → (ℕ → ℕ) → (ℕ → ℕ → ℕ) → (ℕ → ℕ) → (ℕ → ℕ → ℕ) → Type 0
AreClosed k size move size' move' =
    (c h : ℕ) (row : List ℕ) → IsInto k c h → In (function_rows k size move size' move' c) row → In (function_rows k size move size' move' (dom k h)) (under_row k size move c h row)

-- the numbers of the rows under all arrows into c are put behind a list
pub record ArePushed (k : Category) (size : ℕ → ℕ) (move : ℕ → ℕ → ℕ) (size' : ℕ → ℕ) (move' : ℕ → ℕ → ℕ) (c : ℕ) (row old new : List ℕ) : Type 0 where
  pub length_is : length new ≡ length old + length (into k c)
  pub kept : (i : ℕ) → i < length old → get_or new i 0 ≡ get_or old i 0
  pub numbers : (i : ℕ) → i < length (into k c) →
      IsRowNumber k size move size' move' (dom k (get_or (into k c) i 0)) (get_or new (length old + i) 0) (under_row k size move c (get_or (into k c) i 0) row)

-- the cells of all functions
unfoldable pub function_cells : Category → (ℕ → ℕ) → (ℕ → ℕ → ℕ) → (ℕ → ℕ) → (ℕ → ℕ → ℕ) → ℕ
function_cells k size move size' move' =
    sum (map (λ c. length (function_rows k size move size' move' c) * (1 + length (into k c) + length (function_bounds k size move size' c))) (range_with_len 0 k.objects))

-- the elements at c with all restrictions: the rows behind one another, and for each row and each arrow h into c the number of the row under h
pub record AreFunctionRows (k : Category) (size : ℕ → ℕ) (move : ℕ → ℕ → ℕ) (size' : ℕ → ℕ) (move' : ℕ → ℕ → ℕ) (c : ℕ) (r : ElementRows) : Type 0 where
  pub count : r.count ≡ length (function_rows k size move size' move' c)
  pub width : 0 < r.count → r.width ≡ length (function_bounds k size move size' c)
  pub arrows : r.arrows ≡ length (into k c)
  pub rows : r.rows ≡ joined (function_rows k size move size' move' c)
  pub length_is : length r.restrictions ≡ r.count * length (into k c)
  pub numbers : (n i : ℕ) → n < r.count → i < length (into k c) →
      IsRowNumber k size move size' move' (dom k (get_or (into k c) i 0)) (get_or r.restrictions (n * length (into k c) + i) 0) (under_row k size move c (get_or (into k c) i 0) (get_or (function_rows k size move size' move' c) n []))

-- the same at each object
pub record AreAllRows (k : Category) (size : ℕ → ℕ) (move : ℕ → ℕ → ℕ) (size' : ℕ → ℕ) (move' : ℕ → ℕ → ℕ) (all : List ElementRows) : Type 0 where
  pub objects : length all ≡ k.objects
  pub each : (c : ℕ) → c < k.objects → AreFunctionRows k size move size' move' c (rows_at all c)
