-- Sets of pairs that are closed under restriction and under covers, by their numbers.
use Rattle.std.specs.Prelude.{◌≡◌, ℕ, ◌+◌, ◌*◌, Bool, cond, List, length, map, sum}
use Rattle.std.specs.List.{flat_map, range_with_len}
use Rattle.topos_model.specs.categories.Category.{Category, into, dom, compose}
use Rattle.topos_model.specs.topologies.Cover.{Site}
use Rattle.topos_model.specs.topologies.LeastCovers.{least}
use Rattle.closed_sets.specs.Closed.{closed_lists}
use Rattle.place_closures.specs.Passes.{two_passes}
use Rattle.place_closures.specs.Pairs.{pairs, start, table}
use Rattle.sealed_functors.specs.declared.rows.ElementRows.{ElementRows}
use Rattle.power_objects.specs.BitOrder.{place_in, read_along}

abbrev pub digit : Bool → ℕ
digit b = cond b 1 0

module _ (k : Category) (size : ℕ → ℕ) (move : ℕ → ℕ → ℕ) where
  -- for each pair (h, w) at dom f the number of the pair (f.h, w) at c
  unfoldable pub under : ℕ → ℕ → List ℕ
  under c f = flat_map (λ h. map (λ w. start k size move c (compose k f h) + w) (range_with_len 0 (size (dom k h)))) (into k (dom k f))

  -- what a set of pairs at c costs
  abbrev pub set_cost : ℕ → ℕ
  set_cost c = 1 + length (into k c) + length (pairs k size move c)

module _ (s : Site) (size : ℕ → ℕ) (move : ℕ → ℕ → ℕ) where
  -- the closed sets of pairs at c, in order
  unfoldable pub closed_sets : ℕ → List (List Bool)
  closed_sets c = closed_lists (length (pairs s.category size move c)) (two_passes (table s.category size move (into s.category) c) (table s.category size move (least s) c))

  -- the numbers of the restrictions of a set at c along the arrows into c
  unfoldable pub subset_row : ℕ → List Bool → List ℕ
  subset_row c a = map (λ f. place_in (closed_sets (dom s.category f)) (read_along (under s.category size move c f) a)) (into s.category c)

  -- the closed sets at c, in order: of each 1 or 0 for each pair, and its restrictions
  pub record AreSubsetRows (c : ℕ) (r : ElementRows) : Type 0 where
    pub count : r.count ≡ length (closed_sets c)
    pub width : r.width ≡ length (pairs s.category size move c)
    pub arrows : r.arrows ≡ length (into s.category c)
    pub rows : r.rows ≡ flat_map (map digit) (closed_sets c)
    pub restrictions : r.restrictions ≡ flat_map (subset_row c) (closed_sets c)

  -- the cells of all closed sets
  unfoldable pub subset_cells : ℕ
  subset_cells = sum (map (λ c. length (closed_sets c) * set_cost s.category size move c) (range_with_len 0 s.category.objects))
