-- Worked examples, by computation: which composites are filled, and the first faults of categories as they are listed.
use Rattle.std.specs.Prelude.{◌≡◌, ℕ, List, [], ◌∷◌, refl, Some, None}
use Rattle.topos_model.specs.declared.raw.RawCat.{RawCat}
use Rattle.topos_model.specs.declared.fault.Fault.TheVariants.{CompositeMissing, CompositeTwice, CompositeEnds, NotAssociative}
use Rattle.topos_model.specs.categories.Category.{into}
use Rattle.topos_model.specs.categories.Listed.{all_ends, composable}
use Rattle.topos_model.specs.Faults.{associativity_fault}
use Rattle.topos_model.specs.categories.Filling.{candidates, has_composite, filled_composite, filled_category}
use Rattle.topos_model.specs.categories.CategoryFaults.{has_ends, listed_composite_fault, listing_fault, is_determined, missing_composite_fault, category_fault}

-- what the examples compute with
opened : Unit {0}
unfolding into all_ends composable associativity_fault candidates filled_composite filled_category has_ends listed_composite_fault listing_fault is_determined missing_composite_fault category_fault has_composite
opened = tt

-- arrows A -> B -> C, and arrows A -> C
abbrev chain : List (ℕ × ℕ) → List (ℕ × ℕ × ℕ) → RawCat
chain parallel listed = record { objects = 3; ends = (0, 1) ∷ (1, 2) ∷ parallel; listed = listed }

two_candidates : category_fault (chain ((0, 2) ∷ (0, 2) ∷ []) []) ≡ Some (CompositeMissing 4 3)
unfolding opened
two_candidates = refl

no_candidate : category_fault (chain [] []) ≡ Some (CompositeMissing 4 3)
unfolding opened
no_candidate = refl

one_candidate : category_fault (chain ((0, 2) ∷ []) []) ≡ None
unfolding opened
one_candidate = refl

one_candidate_filled : filled_composite (chain ((0, 2) ∷ []) []) 4 3 ≡ 5
unfolding opened
one_candidate_filled = refl

-- one of two is listed
listed_candidate : category_fault (chain ((0, 2) ∷ (0, 2) ∷ []) ((4, 3, 6) ∷ [])) ≡ None
unfolding opened
listed_candidate = refl

listed_candidate_filled : filled_composite (chain ((0, 2) ∷ (0, 2) ∷ []) ((4, 3, 6) ∷ [])) 4 3 ≡ 6
unfolding opened
listed_candidate_filled = refl

other_ends : category_fault (chain ((0, 2) ∷ []) ((4, 3, 4) ∷ [])) ≡ Some (CompositeEnds 4 3 4)
unfolding opened
other_ends = refl

-- identities are candidates: two arrows that are inverse
inverse : category_fault (record { objects = 2; ends = (0, 1) ∷ (1, 0) ∷ []; listed = [] }) ≡ None
unfolding opened
inverse = refl

inverse_filled : (filled_category (record { objects = 2; ends = (0, 1) ∷ (1, 0) ∷ []; listed = [] })).table ≡
    (0, 0, 0) ∷ (0, 3, 3) ∷ (1, 1, 1) ∷ (1, 2, 2) ∷ (2, 0, 2) ∷ (2, 3, 1) ∷ (3, 1, 3) ∷ (3, 2, 0) ∷ []
unfolding opened
inverse_filled = refl

-- f . f = f for an arrow f : A -> B; that it is listed twice comes later
not_composable : category_fault (record { objects = 2; ends = (0, 1) ∷ []; listed = (2, 2, 2) ∷ (2, 2, 2) ∷ [] }) ≡ Some (CompositeEnds 2 2 2)
unfolding opened
not_composable = refl

-- r . r = r, twice; and with another value
twice : category_fault (record { objects = 1; ends = (0, 0) ∷ []; listed = (1, 1, 1) ∷ (1, 1, 1) ∷ [] }) ≡ Some (CompositeTwice 1 1)
unfolding opened
twice = refl

twice_otherwise : category_fault (record { objects = 1; ends = (0, 0) ∷ []; listed = (1, 1, 1) ∷ (1, 1, 0) ∷ [] }) ≡ Some (CompositeTwice 1 1)
unfolding opened
twice_otherwise = refl

-- all listed composites are tested before any that is missing
ends_before_missing : category_fault (record { objects = 2; ends = (0, 0) ∷ (0, 1) ∷ []; listed = (3, 3, 3) ∷ [] }) ≡ Some (CompositeEnds 3 3 3)
unfolding opened
ends_before_missing = refl

-- two elements that multiply as no monoid does
not_associative : category_fault (record { objects = 1; ends = (0, 0) ∷ (0, 0) ∷ []; listed = (1, 1, 2) ∷ (1, 2, 1) ∷ (2, 1, 2) ∷ (2, 2, 2) ∷ [] }) ≡ Some (NotAssociative 1 1 1)
unfolding opened
not_associative = refl

-- an idempotent r
idempotent_lawful : category_fault (record { objects = 1; ends = (0, 0) ∷ []; listed = (1, 1, 1) ∷ [] }) ≡ None
unfolding opened
idempotent_lawful = refl
