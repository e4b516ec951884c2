-- The cells of a presheaf by its sizes, object by object.
use Rattle.std.proofs.Common.{◌≡◌, ℕ, ◌+◌, ◌*◌, List, [], ◌∷◌, map, length, get_or, sum, refl, ap, ◌∙◌, arith}
use Rattle.std.specs.List.{range_with_len}
use Rattle.std.proofs.lemmas.List.Sums.{sum_by-append}
use Rattle.std.proofs.lemmas.List.FromFn.{map-range_with_len_more}
use Rattle.topos_model.specs.categories.Category.{Category, into}
use Rattle.topos_model.specs.statements.Cells.{presheaf_cells}

-- the cells of the elements at the first n objects
unfoldable pub cells_below : Category → List ℕ → ℕ → ℕ
cells_below k sizes n = sum (map (λ c. get_or sizes c 0 * (1 + length (into k c))) (range_with_len 0 n))

module _ (k : Category) (sizes : List ℕ) where
  abbrev cells : ℕ → ℕ
  cells c = get_or sizes c 0 * (1 + length (into k c))

  pub cells_none : cells_below k sizes 0 ≡ 0
  unfolding cells_below
  cells_none = refl

  pub cells_more : (n : ℕ) → cells_below k sizes (n + 1) ≡ cells_below k sizes n + get_or sizes n 0 * (1 + length (into k n))
  unfolding cells_below
  cells_more n =
      ap sum (map-range_with_len_more cells 0 n n (omega arith))
      ∙ sum_by-append (λ x. x) (map cells (range_with_len 0 n)) (cells n ∷ [])
      ∙ omega arith

  pub cells_all : (along : List (List ℕ)) → cells_below k sizes k.objects ≡ presheaf_cells k (record { sizes = sizes; along = along })
  unfolding cells_below presheaf_cells
  cells_all along = refl
