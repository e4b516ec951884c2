-- Worked examples, by computation: where one plus is enough, and where two are needed.
use Rattle.std.proofs.Common.{◌≡◌, false, [], ◌∷◌, refl}
use Rattle.std.specs.Prelude.{Some, None}
use Rattle.finite_lists.specs.Sublists.{sublists}
use Rattle.topos_model.specs.categories.Category.{into, is_sieve, sieves, generated, pull}
use Rattle.topos_model.specs.topologies.Cover.{Site, is_cover, is_dense, is_listed, covers}
use Rattle.topos_model.specs.types.Types.{Presheaf}
use Rattle.topos_model.specs.categories.Listed.{all_ends, composable, listed_composite, listed_category}
use Rattle.topos_model.specs.presheaves.NaturalMaps.{choices}
use Rattle.topos_model.specs.topologies.LeastCovers.{is_among_covers, least, closure}
use Rattle.topos_model.specs.topologies.TopologyFaults.{intersection, listed_sieves, least_twice, stability_fault, intersection_fault, least_twice_fault, topology_fault, first_topology_fault}
use Rattle.topos_model.specs.topologies.Sheaves.{agrees, matching_families, amalgamations, sheaf_fault}
use Rattle.topos_model.specs.topologies.PlusConstruction.{families, restricted, restrictions, plus, unit}
use Rattle.topos_model.proofs.WorkedTopologies.{dense}

-- what the examples compute with
opened : Unit {0}
unfolding sublists into is_sieve sieves generated pull is_cover is_dense is_listed covers all_ends composable listed_composite listed_category is_among_covers least closure intersection listed_sieves least_twice stability_fault intersection_fault least_twice_fault topology_fault first_topology_fault choices agrees matching_families amalgamations sheaf_fault families restricted restrictions plus unit
opened = tt

-- vertices p, q, two edges from p to q and one back
G : Presheaf
G = record { sizes = 2 ∷ 3 ∷ []; along = (0 ∷ 1 ∷ []) ∷ (0 ∷ 1 ∷ 2 ∷ []) ∷ (0 ∷ 0 ∷ 1 ∷ []) ∷ (1 ∷ 1 ∷ 0 ∷ []) ∷ [] }

-- the dense plus of G has an edge for each two vertices
G_plus : plus dense G ≡ record { sizes = 2 ∷ 4 ∷ []; along = (0 ∷ 1 ∷ []) ∷ (0 ∷ 1 ∷ 2 ∷ 3 ∷ []) ∷ (0 ∷ 0 ∷ 1 ∷ 1 ∷ []) ∷ (0 ∷ 1 ∷ 0 ∷ 1 ∷ []) ∷ [] }
unfolding opened G
G_plus = refl

G_unit : unit dense G ≡ (0 ∷ 1 ∷ []) ∷ (1 ∷ 1 ∷ 2 ∷ []) ∷ []
unfolding opened G
G_unit = refl

G_plus_sheaf : sheaf_fault dense (plus dense G) ≡ None
unfolding opened G
G_plus_sheaf = refl

-- U covered by A and B, which meet in W, and W covered by Z (arrow 10)
abbrev covered_meet : Site
covered_meet = record {
  category = listed_category (record {
    objects = 5;
    ends = (1, 0) ∷ (2, 0) ∷ (3, 1) ∷ (3, 2) ∷ (3, 0) ∷ (4, 3) ∷ (4, 1) ∷ (4, 2) ∷ (4, 0) ∷ [];
    listed = (5, 7, 9) ∷ (6, 8, 9) ∷ (7, 10, 11) ∷ (8, 10, 12) ∷ (9, 10, 13) ∷ (5, 11, 13) ∷ (6, 12, 13) ∷ [];
  });
  dense = false;
  families = record { at = 0; arrows = 5 ∷ 6 ∷ [] } ∷ record { at = 3; arrows = 10 ∷ [] } ∷ [];
}

-- the elements over A and B restrict to two elements over W, which agree over Z
agree_locally : Presheaf
agree_locally = record {
  sizes = 0 ∷ 1 ∷ 1 ∷ 2 ∷ 1 ∷ [];
  along = [] ∷ (0 ∷ []) ∷ (0 ∷ []) ∷ (0 ∷ 1 ∷ []) ∷ (0 ∷ []) ∷ [] ∷ [] ∷ (0 ∷ []) ∷ (1 ∷ []) ∷ [] ∷ (0 ∷ 0 ∷ []) ∷ (0 ∷ []) ∷ (0 ∷ []) ∷ [] ∷ [];
}

covered_meet_has_no_fault : topology_fault covered_meet 0 ≡ None
unfolding opened
covered_meet_has_no_fault = refl

agree_locally_plus : (plus covered_meet agree_locally).sizes ≡ 0 ∷ 1 ∷ 1 ∷ 1 ∷ 1 ∷ []
unfolding opened agree_locally
agree_locally_plus = refl

-- no element over U after one plus, though a family waits there; one after two
agree_locally_plus_no_sheaf : sheaf_fault covered_meet (plus covered_meet agree_locally) ≡ Some (record { at = 0; cover = 5 ∷ 6 ∷ 9 ∷ 13 ∷ []; family = 0 ∷ 0 ∷ 0 ∷ 0 ∷ []; found = None })
unfolding opened agree_locally
agree_locally_plus_no_sheaf = refl

agree_locally_plus_plus : (plus covered_meet (plus covered_meet agree_locally)).sizes ≡ 1 ∷ 1 ∷ 1 ∷ 1 ∷ 1 ∷ []
unfolding opened agree_locally
agree_locally_plus_plus = refl

agree_locally_plus_plus_sheaf : sheaf_fault covered_meet (plus covered_meet (plus covered_meet agree_locally)) ≡ None
unfolding opened agree_locally
agree_locally_plus_plus_sheaf = refl
