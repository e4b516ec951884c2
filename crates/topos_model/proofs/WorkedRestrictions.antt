-- Worked examples, by computation: which restrictions are filled, and the first faults of presheaves as they are listed.
use Rattle.std.specs.Prelude.{◌≡◌, ℕ, List, [], ◌∷◌, refl, Some, None}
use Rattle.topos_model.specs.declared.raw.RawAlong.{RawAlong}
use Rattle.topos_model.specs.declared.raw.RawFunctor.{RawFunctor}
use Rattle.topos_model.specs.declared.fault.Fault.TheVariants.{RestrictionMissing, NotTotal, NotFunctorial}
use Rattle.topos_model.specs.categories.Category.{Category, into}
use Rattle.topos_model.specs.categories.Listed.{all_ends, composable, listed_row}
use Rattle.topos_model.specs.Faults.{functoriality_fault}
use Rattle.topos_model.specs.categories.Filling.{candidates, has_composite, filled_composite, filled_category, has_restriction, fills, filling_pair, composite_row, filled_row, filled_rows, filled_presheaf}
use Rattle.topos_model.specs.presheaves.PresheafFaults.{declared, has_entry, total_fault, missing_restriction_fault, restriction_fault, presheaf_fault}

-- what the examples compute with
opened : Unit {0}
unfolding into all_ends composable listed_row functoriality_fault candidates filled_composite filled_category filling_pair composite_row filled_row filled_rows filled_presheaf total_fault missing_restriction_fault restriction_fault presheaf_fault has_composite has_restriction fills has_entry declared
opened = tt

-- an idempotent r, and presheaves with two elements a, b
abbrev idempotent : Category
idempotent = filled_category (record { objects = 1; ends = (0, 0) ∷ []; listed = (1, 1, 1) ∷ [] })

abbrev acting : ℕ → List RawAlong → RawFunctor
acting n along = record { sizes = n ∷ []; along = along }

not_listed : presheaf_fault idempotent (acting 2 []) ≡ Some (RestrictionMissing 1)
unfolding opened
not_listed = refl

nothing_to_restrict : presheaf_fault idempotent (acting 0 []) ≡ None
unfolding opened
nothing_to_restrict = refl

not_total : presheaf_fault idempotent (acting 2 (record { arrow = 1; entries = (0, 1) ∷ [] } ∷ [])) ≡ Some (NotTotal 1 1)
unfolding opened
not_total = refl

swapped : presheaf_fault idempotent (acting 2 (record { arrow = 1; entries = (0, 1) ∷ (1, 0) ∷ [] } ∷ [])) ≡ Some (NotFunctorial 1 1 0)
unfolding opened
swapped = refl

-- entries in any order
projected : presheaf_fault idempotent (acting 2 (record { arrow = 1; entries = (1, 0) ∷ (0, 0) ∷ [] } ∷ [])) ≡ None
unfolding opened
projected = refl

projected_rows : (filled_presheaf idempotent (acting 2 (record { arrow = 1; entries = (1, 0) ∷ (0, 0) ∷ [] } ∷ []))).along ≡ (0 ∷ 1 ∷ []) ∷ (0 ∷ 0 ∷ []) ∷ []
unfolding opened
projected_rows = refl

-- a restriction along a composite, from those along its parts
abbrev triangle : Category
triangle = filled_category (record { objects = 3; ends = (0, 1) ∷ (1, 2) ∷ (0, 2) ∷ []; listed = [] })

abbrev over_triangle : RawFunctor
over_triangle = record {
  sizes = 2 ∷ 2 ∷ 3 ∷ [];
  along = record { arrow = 3; entries = (0, 1) ∷ (1, 0) ∷ [] } ∷ record { arrow = 4; entries = (0, 0) ∷ (1, 1) ∷ (2, 1) ∷ [] } ∷ [];
}

triangle_pair : filling_pair triangle 5 ≡ Some (4, 3)
unfolding opened
triangle_pair = refl

triangle_filled : presheaf_fault triangle over_triangle ≡ None
unfolding opened
triangle_filled = refl

triangle_rows : (filled_presheaf triangle over_triangle).along ≡
    (0 ∷ 1 ∷ []) ∷ (0 ∷ 1 ∷ []) ∷ (0 ∷ 1 ∷ 2 ∷ []) ∷ (1 ∷ 0 ∷ []) ∷ (0 ∷ 1 ∷ 1 ∷ []) ∷ (1 ∷ 0 ∷ 0 ∷ []) ∷ []
unfolding opened
triangle_rows = refl

-- a composite that is declared before its parts is not filled
composite_first : presheaf_fault (filled_category (record { objects = 3; ends = (0, 2) ∷ (0, 1) ∷ (1, 2) ∷ []; listed = [] })) (record {
  sizes = 1 ∷ 1 ∷ 1 ∷ [];
  along = record { arrow = 4; entries = (0, 0) ∷ [] } ∷ record { arrow = 5; entries = (0, 0) ∷ [] } ∷ [];
}) ≡ Some (RestrictionMissing 3)
unfolding opened
composite_first = refl

-- of two ways A -> B -> C the first one fills
two_ways : filling_pair (filled_category (record { objects = 4; ends = (0, 1) ∷ (1, 3) ∷ (0, 2) ∷ (2, 3) ∷ (0, 3) ∷ []; listed = [] })) 8 ≡ Some (5, 4)
unfolding opened
two_ways = refl

-- elements at B and none at A, for an arrow A -> B
nothing_below : presheaf_fault (filled_category (record { objects = 2; ends = (0, 1) ∷ []; listed = [] })) (record { sizes = 0 ∷ 1 ∷ []; along = [] }) ≡ Some (RestrictionMissing 2)
unfolding opened
nothing_below = refl

nothing_below_listed : presheaf_fault (filled_category (record { objects = 2; ends = (0, 1) ∷ []; listed = [] })) (record { sizes = 0 ∷ 1 ∷ []; along = record { arrow = 2; entries = [] } ∷ [] }) ≡ Some (NotTotal 2 0)
unfolding opened
nothing_below_listed = refl
