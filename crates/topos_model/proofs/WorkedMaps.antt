-- Worked examples: maps of graphs, and the first faults of maps as they are listed, by computation.
use Rattle.std.proofs.Common.{◌≡◌, ℕ, ◌<◌, inr, inl, List, [], ◌∷◌, refl, arith, Some, None}
use Rattle.topos_model.specs.declared.raw.RawEntry.{RawEntry}
use Rattle.topos_model.specs.declared.raw.RawMap.{RawMap}
use Rattle.topos_model.specs.declared.fault.Fault.TheVariants.{NoElement, MapNotTotal, NotNatural}
use Rattle.topos_model.specs.categories.Category.{Category}
use Rattle.topos_model.specs.types.Types.{Presheaf}
use Rattle.topos_model.specs.categories.Listed.{all_ends, composable, listed_row}
use Rattle.topos_model.specs.categories.Filling.{candidates, has_composite, filled_composite, filled_category, has_restriction, fills, filling_pair, composite_row, filled_row, filled_rows, filled_presheaf}
use Rattle.topos_model.specs.presheaves.Maps.{Components, after}
use Rattle.topos_model.specs.presheaves.NaturalMaps.{identity_map, choices, rows, all_components, commutes_at, is_natural_map, maps}
use Rattle.topos_model.specs.presheaves.MapFaults.{HasEntries, has_image, listed_map, entry_fault, map_total_fault, naturality_fault, map_fault}

-- what the examples compute with
opened : Unit {0}
unfolding all_ends composable listed_row candidates filled_composite filled_category filling_pair composite_row filled_row filled_rows filled_presheaf identity_map after choices rows all_components is_natural_map maps listed_map entry_fault map_total_fault naturality_fault map_fault has_composite has_restriction fills has_image commutes_at
opened = tt

-- graphs: vertices, edges, and arrows s, t from the first to the second
abbrev graph : Category
graph = filled_category (record { objects = 2; ends = (0, 1) ∷ (0, 1) ∷ []; listed = [] })

-- one edge k from a to b
abbrev K : Presheaf
K = filled_presheaf graph (record {
  sizes = 2 ∷ 1 ∷ [];
  along = record { arrow = 2; entries = (0, 0) ∷ [] } ∷ record { arrow = 3; entries = (0, 1) ∷ [] } ∷ [];
})

-- edges e and f from p to q, and l from q to p
abbrev G : Presheaf
G = filled_presheaf graph (record {
  sizes = 2 ∷ 3 ∷ [];
  along = record { arrow = 2; entries = (0, 0) ∷ (1, 0) ∷ (2, 1) ∷ [] } ∷ record { arrow = 3; entries = (0, 1) ∷ (1, 1) ∷ (2, 0) ∷ [] } ∷ [];
})

-- a map takes k to any edge, and a and b to its ends
edges : maps graph K G ≡ ((0 ∷ 1 ∷ []) ∷ (0 ∷ []) ∷ []) ∷ ((0 ∷ 1 ∷ []) ∷ (1 ∷ []) ∷ []) ∷ ((1 ∷ 0 ∷ []) ∷ (2 ∷ []) ∷ []) ∷ []
unfolding opened
edges = refl

-- no map takes edges both ways to one edge
no_map : maps graph G K ≡ []
unfolding opened
no_map = refl

identity_of_edge : identity_map K ≡ (0 ∷ 1 ∷ []) ∷ (0 ∷ []) ∷ []
unfolding opened
identity_of_edge = refl

only_identity : maps graph K K ≡ identity_map K ∷ []
unfolding opened
only_identity = refl

-- k to f, then e and f to each other
swapped_after : after ((0 ∷ 1 ∷ []) ∷ (1 ∷ 0 ∷ 2 ∷ []) ∷ []) ((0 ∷ 1 ∷ []) ∷ (1 ∷ []) ∷ []) ≡ (0 ∷ 1 ∷ []) ∷ (0 ∷ []) ∷ []
unfolding opened
swapped_after = refl

-- listed entries of a map from K to G
abbrev vertex : ℕ → ℕ → RawEntry
vertex x y = record { at = 0; from = x; to = y }

abbrev edge : ℕ → ℕ → RawEntry
edge x y = record { at = 1; from = x; to = y }

abbrev listed : List RawEntry → RawMap
listed entries = record { entries = entries }

-- entries in any order
to_f : map_fault graph K G (listed (edge 0 1 ∷ vertex 1 1 ∷ vertex 0 0 ∷ [])) ≡ None
unfolding opened
to_f = refl

to_f_map : listed_map graph K (listed (edge 0 1 ∷ vertex 1 1 ∷ vertex 0 0 ∷ [])) ≡ (0 ∷ 1 ∷ []) ∷ (1 ∷ []) ∷ []
unfolding opened
to_f_map = refl

-- a and b to p, k to e: the source fits, the target does not
not_natural : map_fault graph K G (listed (vertex 0 0 ∷ vertex 1 0 ∷ edge 0 0 ∷ [])) ≡ Some (NotNatural 3 0)
unfolding opened
not_natural = refl

not_total : map_fault graph K G (listed (vertex 0 0 ∷ edge 0 0 ∷ [])) ≡ Some (MapNotTotal 0 1)
unfolding opened
not_total = refl

-- an edge number 1 of K, an edge number 3 of G, and both: the left side comes first
past_domain : map_fault graph K G (listed (vertex 0 0 ∷ edge 1 0 ∷ [])) ≡ Some (NoElement 1 1)
unfolding opened
past_domain = refl

past_codomain : map_fault graph K G (listed (vertex 0 0 ∷ edge 0 3 ∷ [])) ≡ Some (NoElement 1 3)
unfolding opened
past_codomain = refl

past_both : map_fault graph K G (listed (edge 4 3 ∷ vertex 2 0 ∷ [])) ≡ Some (NoElement 1 4)
unfolding opened
past_both = refl

-- no map has an entry for an edge number 1
no_such_map : (m : Components) → HasEntries graph K (listed (vertex 0 0 ∷ edge 1 0 ∷ [])) m → ⊥
unfolding opened
no_such_map m has = let bad : 1 < 1 = (has.listed (edge 1 0) (inr (inl refl))).0 in omega (arith, bad)
