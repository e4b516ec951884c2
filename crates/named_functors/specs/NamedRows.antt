-- The elements of a presheaf as a store takes them (Mac Lane and Moerdijk, chapter I).
use Rattle.std.specs.Prelude.{ℕ, List, [], length, map}
use Rattle.std.specs.List.{flat_map, range_with_len}
use Rattle.topos_model.specs.categories.Category.{Category, into}
use Rattle.topos_model.specs.Laws.{size, act}
use Rattle.topos_model.specs.types.Types.{Presheaf}
use Rattle.sealed_functors.specs.declared.rows.ElementRows.{ElementRows}

-- the restrictions of the element x at c along the arrows into c
unfoldable pub restriction_row : Category → Presheaf → ℕ → ℕ → List ℕ
restriction_row k X c x = map (λ f. act X f x) (into k c)

-- the elements at c with their restrictions; none has a row of its own
unfoldable pub named_rows : Category → Presheaf → ℕ → ElementRows
named_rows k X c = record {
  count = size X c;
  width = 0;
  arrows = length (into k c);
  rows = [];
  restrictions = flat_map (restriction_row k X c) (range_with_len 0 (size X c));
}
