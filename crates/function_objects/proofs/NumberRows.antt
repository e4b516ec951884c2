-- A row under an arrow is found among the rows at its domain.
use Rattle.std.proofs.Common.{◌≡◌, ℕ, ◌+◌, ◌*◌, ◌^◌, ◌<◌, ◌≤◌, List, [], length, get_or, take, drop, sym, ap, subst, ◌∙◌, arith, refl}
use Rattle.finite_lists.specs.Members.{In}
use Rattle.finite_lists.specs.Rising.{Rising, NumbersBelow}
use Rattle.finite_lists.proofs.Lists.{In_at}
use Rattle.topos_model.specs.categories.Category.{Category, into, dom}
use Rattle.topos_model.specs.Laws.{IsCategory, IsInto}
use Rattle.natural_search.specs.declared.rows.FoundRows.{FoundRows}
use Rattle.natural_search.specs.Rows.{AreRows, AreLong, joined}
use Rattle.natural_search.proofs.AssignedRows.{fitting_long}
use Rattle.natural_search.proofs.JoinedRows.{row_at, row_within, joined_length}
use Rattle.natural_search.proofs.RisingRows.{fitting_rise}
use Rattle.place_closures.specs.Pairs.{AreRestricted, pairs}
use Rattle.sieve_table.proofs.SieveMembers.{domain}
use Rattle.type_rows.proofs.CellSums.{cells_below, cells_more, cells_within, member_within}
use Rattle.std.proofs.Math.Nat.{le-mul_of_pos_right}
use Rattle.function_objects.specs.declared.listing.Listed.{Listed}
use Rattle.function_objects.specs.Functions.{function_rows, function_bounds, function_squares, restriction_table, function_cells, under_row, AreClosed, IsRowNumber}
use Rattle.function_objects.specs.Listed.{IsListed, AreListed, listed_at}
use Rattle.function_objects.proofs.FunctionSquares.{long_bounds}

module _ (k : Category) (laws : IsCategory k) (size : ℕ → ℕ) (move : ℕ → ℕ → ℕ) (size' : ℕ → ℕ) (move' : ℕ → ℕ → ℕ) (moves : AreRestricted k size move) where
  abbrev rows : ℕ → List (List ℕ)
  rows c = function_rows k size move size' move' c

  abbrev wide : ℕ → ℕ
  wide c = length (function_bounds k size move size' c)

  pub rows_long : (c : ℕ) → AreLong (wide c) (rows c)
  unfolding function_rows
  rows_long c = fitting_long (restriction_table k size' move') (function_squares k size move c) (function_bounds k size move size' c)

  pub rows_rise : (c : ℕ) → Rising NumbersBelow (rows c)
  unfolding function_rows
  rows_rise c = fitting_rise (restriction_table k size' move') (function_squares k size move c) (function_bounds k size move size' c)

  -- there are no more rows than cells
  pub few_rows : (c : ℕ) → c < k.objects → length (rows c) ≤ function_cells k size move size' move'
  unfolding function_cells cells_below
  few_rows c low = member_within (λ c. length (rows c)) (λ c. 1 + length (into k c) + wide c) c k.objects low (omega arith)

  -- and where there is one, no more places
  pub few_places : (c : ℕ) → c < k.objects → 0 < length (rows c) → wide c ≤ function_cells k size move size' move'
  unfolding function_cells cells_below
  few_places c low some =
      let m : length (rows c) * (1 + length (into k c) + wide c) ≤ cells_below (λ c. length (rows c)) (λ c. 1 + length (into k c) + wide c) k.objects =
      omega (arith, cells_more (λ c. length (rows c)) (λ c. 1 + length (into k c) + wide c) c, cells_within (λ c. length (rows c)) (λ c. 1 + length (into k c) + wide c) (c + 1) k.objects (omega (arith, low))) in
      let n : 1 + length (into k c) + wide c ≤ (1 + length (into k c) + wide c) * length (rows c) = le-mul_of_pos_right (1 + length (into k c) + wide c) some in
      let e : (1 + length (into k c) + wide c) * length (rows c) ≡ length (rows c) * (1 + length (into k c) + wide c) = omega arith in
      omega (arith, m, n, e)

  -- the row that is read
  module _ (c n : ℕ) (listed : Listed) (is : IsListed k size move size' move' c listed) (low : n < length (rows c)) where
    pub read_within : n * listed.places + listed.places ≤ length listed.rows.numbers
    read_within =
        let r = row_within (rows c) (wide c) n (rows_long c) low in
        let m : n * listed.places ≡ n * wide c = ap (λ w. n * w) is.places in
        omega (arith, r, m, is.places, ap length is.rows.numbers)

    pub read_is : (row : List ℕ) → row ≡ take listed.places (drop (n * listed.places) listed.rows.numbers) → row ≡ get_or (rows c) n []
    read_is row e =
        e ∙ ap (λ w. take w (drop (n * w) listed.rows.numbers)) is.places ∙ ap (λ (l : List ℕ). take (wide c) (drop (n * wide c) l)) is.rows.numbers ∙ row_at (rows c) (wide c) n (rows_long c) low

    pub row_pairs : length (get_or (rows c) n []) ≡ length (pairs k size move c)
    row_pairs = rows_long c (get_or (rows c) n []) (In_at (rows c) n [] low) ∙ long_bounds k laws size move size' move' moves c

  -- a member is found
  module _ (room d : ℕ) (all : List Listed) (are : AreListed k size move size' move' room all) (low : d < k.objects) (there : Listed) (e : there ≡ listed_at all d) (row : List ℕ) (i : In (rows d) row) where
    found_rows : AreRows (rows d) there.rows
    found_rows = subst (λ (l : Listed). AreRows (rows d) l.rows) (sym e) (are.each d low).rows

    pub found_long : AreLong (length row) (rows d)
    found_long r j = rows_long d r j ∙ sym (rows_long d row i)

    pub found_within : there.rows.count * length row ≤ length there.rows.numbers
    found_within =
        let n = joined_length (rows d) (length row) found_long in
        let m : there.rows.count * length row ≡ length (rows d) * length row = ap (λ c. c * length row) found_rows.count in
        omega (arith, n, m, ap length found_rows.numbers)

    pub found_number : (n : ℕ) → ((all : List (List ℕ)) → AreRows all there.rows → AreLong (length row) all → Rising NumbersBelow all → In all row → (n < length all) × (get_or all n [] ≡ row)) → IsRowNumber k size move size' move' d n row
    found_number n found = let f = found (rows d) found_rows found_long (rows_rise d) i in record { within = f.0; is = f.1 }

    pub found_few : (n : ℕ) → IsRowNumber k size move size' move' d n row → n < room + 1
    found_few n is = let w = is.within in omega (arith, w, few_rows d low, are.within)
