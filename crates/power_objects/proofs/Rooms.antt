-- What the cells of all closed sets bound, and the sets that are listed.
use Rattle.std.proofs.Common.{◌≡◌, ℕ, ◌+◌, ◌-◌, ◌*◌, ◌<◌, ◌≤◌, Bool, List, length, get_or, map, refl, ap, ◌∙◌, arith}
use Rattle.std.specs.List.{range_with_len}
use Rattle.std.proofs.lemmas.List.{get_or-map}
use Rattle.std.proofs.lemmas.List.FromFn.{get_or-map-range_with_len}
use Rattle.std.proofs.Math.Nat.{mul-le-mul_right}
use Rattle.topos_model.specs.categories.Category.{Category, into}
use Rattle.topos_model.specs.topologies.Cover.{Site}
use Rattle.topos_model.specs.topologies.LeastCovers.{least}
use Rattle.topos_model.specs.Laws.{IsCategory, IsTopology}
use Rattle.closed_sets.specs.Closed.{closed_lists}
use Rattle.place_closures.specs.Passes.{two_passes}
use Rattle.place_closures.specs.Pairs.{AreRestricted, pairs, table}
use Rattle.place_closures.proofs.PairTables.{length-table}
use Rattle.type_rows.proofs.CellSums.{cells_below, cells_none, cells_more, cells_within, over_all, member_within}
use Rattle.power_objects.specs.SubsetRows.{under, closed_sets, set_cost, subset_cells}
use Rattle.power_objects.proofs.Pulled.{some_set}

module _ (s : Site) (size : ℕ → ℕ) (move : ℕ → ℕ → ℕ) where
  abbrev pub count : ℕ → ℕ
  count c = length (closed_sets s size move c)

  abbrev pub cost : ℕ → ℕ
  cost c = set_cost s.category size move c

  pub cells_are : cells_below (λ c. length (closed_sets s size move c)) (λ c. set_cost s.category size move c) s.category.objects ≡ subset_cells s size move
  unfolding cells_below subset_cells
  cells_are = refl

  pub nothing_spent : (room : ℕ) → room + cells_below (λ c. length (closed_sets s size move c)) (λ c. set_cost s.category size move c) 0 ≡ room
  nothing_spent room = omega (arith, cells_none count cost)

  -- what is spent at one object more
  pub more_spent : (room left used c : ℕ) → left + cells_below (λ c. length (closed_sets s size move c)) (λ c. set_cost s.category size move c) c ≡ room → used ≡ length (closed_sets s size move c) * set_cost s.category size move c → used ≤ left →
      left - used + cells_below (λ c. length (closed_sets s size move c)) (λ c. set_cost s.category size move c) (c + 1) ≡ room
  more_spent room left used c spent is fits = omega (arith, spent, is, fits, cells_more count cost c)

  pub all_spent : (room left c : ℕ) → left + cells_below (λ c. length (closed_sets s size move c)) (λ c. set_cost s.category size move c) c ≡ room → c ≡ s.category.objects → subset_cells s size move ≤ room
  all_spent room left c spent end = let e = ap (cells_below count cost) end in omega (arith, spent, e, cells_are)

  pub over_spent : (room left c : ℕ) → left + cells_below (λ c. length (closed_sets s size move c)) (λ c. set_cost s.category size move c) c ≡ room → c < s.category.objects → left < length (closed_sets s size move c) * set_cost s.category size move c →
      room < subset_cells s size move
  over_spent room left c spent low over = let o = over_all count cost room left c s.category.objects spent low over in omega (arith, o, cells_are)

  pub few_sets : (c : ℕ) → c < s.category.objects → length (closed_sets s size move c) ≤ subset_cells s size move
  few_sets c low = let m = member_within count cost c s.category.objects low (omega arith) in omega (arith, m, cells_are)

  pub listed_are : (c : ℕ) (B C : List (List ℕ)) → B ≡ table s.category size move (into s.category) c → C ≡ table s.category size move (least s) c → closed_lists (length B) (two_passes B C) ≡ closed_sets s size move c
  unfolding closed_sets
  listed_are c B C e f =
      ap (λ m. closed_lists m (two_passes B C)) (ap length e ∙ length-table s.category size move (into s.category) c)
      ∙ ap (λ (t : List (List ℕ)). closed_lists (length (pairs s.category size move c)) (two_passes t C)) e
      ∙ ap (λ (t : List (List ℕ)). closed_lists (length (pairs s.category size move c)) (two_passes (table s.category size move (into s.category) c) t)) f

  module _ (laws : IsCategory s.category) (top : IsTopology s) (restricts : AreRestricted s.category size move) where
    -- one set at least
    pub one_cost : (c : ℕ) → set_cost s.category size move c ≤ length (closed_sets s size move c) * set_cost s.category size move c
    one_cost c =
        let some = some_set s laws top size move restricts c in
        let m : 1 * cost c ≤ count c * cost c = mul-le-mul_right (cost c) (omega (arith, some)) in
        omega (arith, m)

    pub few_pairs : (c : ℕ) → c < s.category.objects → length (pairs s.category size move c) ≤ subset_cells s size move
    few_pairs c low = omega (arith, one_cost c, cells_more count cost c, cells_within count cost (c + 1) s.category.objects (omega (arith, low)), cells_are)

-- the sets and the numbers that stand at a place
pub sets_at : (s : Site) (size : ℕ → ℕ) (move : ℕ → ℕ → ℕ) (all : List (List (List Bool))) (d : ℕ) (z got sets : List (List Bool)) → all ≡ map (closed_sets s size move) (range_with_len 0 s.category.objects) → d < s.category.objects → got ≡ get_or all d z → sets ≡ got →
    sets ≡ closed_sets s size move d
sets_at s size move all d z got sets e low is same = same ∙ is ∙ ap (λ l. get_or l d z) e ∙ get_or-map-range_with_len (closed_sets s size move) 0 s.category.objects d d z low (omega arith)

pub under_at_place : (k : Category) (size : ℕ → ℕ) (move : ℕ → ℕ → ℕ) (along : List (List ℕ)) (c i : ℕ) (z got row : List ℕ) → along ≡ map (under k size move c) (into k c) → i < length (into k c) → got ≡ get_or along i z → row ≡ got →
    row ≡ under k size move c (get_or (into k c) i 0)
under_at_place k size move along c i z got row e low is same = same ∙ is ∙ ap (λ l. get_or l i z) e ∙ get_or-map (under k size move c) (into k c) i 0 z low
