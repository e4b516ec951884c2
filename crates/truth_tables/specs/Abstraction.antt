-- The rows of functions and subsets that a term with one more variable defines.
use Rattle.std.specs.Prelude.{◌≡◌, ℕ, ◌+◌, ◌*◌, ◌<◌, ◌≤◌, ◌^◌, List, [], length, get_or, flat_map}
use Rattle.std.specs.List.{range_with_len}
use Rattle.finite_lists.specs.Members.{In}
use Rattle.functor_store.specs.Store.{Store, Functor, functor_at, size_at, element_at, restrictions_at}
use Rattle.truth_tables.specs.Tables.{number, IsOver, block}

module _ (sources restrictions widths : List ℕ) (body : List (List ℕ)) where
  -- the entries behind the restriction along the arrow at place j
  abbrev pub behind : ℕ → List ℕ
  behind j = block (get_or widths (get_or sources j 0) 0) (get_or restrictions j 0) (get_or body (get_or sources j 0) [])

  -- those along all arrows, one after another
  abbrev pub row_of : List ℕ
  row_of = flat_map behind (range_with_len 0 (length sources))

  -- there are such entries
  pub record HasBlocks : Type 0 where
    pub objects : (j : ℕ) → j < length sources → (get_or sources j 0 < length widths) × (get_or sources j 0 < length body)
    pub entries : (j : ℕ) → j < length sources →
        get_or restrictions j 0 * get_or widths (get_or sources j 0) 0 + get_or widths (get_or sources j 0) 0 ≤ length (get_or body (get_or sources j 0) [])

-- there is an element k at c, with a row as long as this one
pub record IsElement (store : Store) (id c k : ℕ) (row : List ℕ) : Type 0 where
  pub sealed : id < length store.sealed
  pub object : c < store.objects
  pub element : (k < size_at (functor_at store.sealed id) c) × (k < 2 ^ 32)
  pub long : length (element_at (functor_at store.sealed id) c k) ≡ length row

-- k is the number of the element of F at c with this row
pub record IsNumbered (F : Functor) (c : ℕ) (row : List ℕ) (k : ℕ) : Type 0 where
  pub element : k < size_at F c
  pub has_row : element_at F c k ≡ row

-- the row that the entries make is that of an element of F at c, and all rows there are as long
pub record IsThere (F : Functor) (c : ℕ) (sources restrictions widths : List ℕ) (body : List (List ℕ)) : Type 0 where
  pub blocks : HasBlocks sources restrictions widths body
  pub element : In (get_or F.rows c []) (row_of sources restrictions widths body)
  pub long : (k : ℕ) → k < size_at F c → length (element_at F c k) ≡ length (row_of sources restrictions widths body)

module _ (context F : Functor) (sizes : List ℕ) (sources : List (List ℕ)) (widths : List ℕ) (body : List (List ℕ)) where
  pub record AreThere : Type 0 where
    pub at : (c i : ℕ) → c < length sizes → i < get_or sizes c 0 → IsThere F c (get_or sources c []) (restrictions_at context c i) widths body

  -- at each tuple the number of the element with this row
  pub record AreNumbered (numbers : List (List ℕ)) : Type 0 where
    pub over : IsOver sizes numbers
    pub at : (c i : ℕ) → c < length sizes → i < get_or sizes c 0 → IsNumbered F c (row_of (get_or sources c []) (restrictions_at context c i) widths body) (number numbers c i)
