-- A table of composites that lists each composite once and does not associate, by computation.
use Rattle.std.specs.Prelude.{◌≡◌, [], ◌∷◌, Some, None, refl}
use Rattle.topos_model.specs.declared.raw.RawCat.{RawCat}
use Rattle.topos_model.specs.declared.fault.Fault.TheVariants.{NotAssociative}
use Rattle.topos_model.specs.categories.Category.{into}
use Rattle.topos_model.specs.categories.Listed.{all_ends, composable}
use Rattle.topos_model.specs.categories.Filling.{candidates, has_composite, filled_composite, filled_category}
use Rattle.topos_model.specs.categories.CategoryFaults.{has_ends, listed_composite_fault, listing_fault, is_determined, missing_composite_fault, category_fault}
use Rattle.topos_model.specs.Faults.{associativity_fault}

-- object U; arrow a, b : U -> U; compose a . a = b; compose a . b = a; compose b . a = b; compose b . b = b;
abbrev pub raw : RawCat
raw = record {
  objects = 1;
  ends = (0, 0) ∷ (0, 0) ∷ [];
  listed = (1, 1, 2) ∷ (1, 2, 1) ∷ (2, 1, 2) ∷ (2, 2, 2) ∷ [];
}

-- what the examples compute with
opened : Unit {0}
unfolding into all_ends composable candidates has_composite filled_composite filled_category has_ends listed_composite_fault listing_fault is_determined missing_composite_fault category_fault associativity_fault
opened = tt

pub listed : listing_fault raw ≡ None
unfolding opened
listed = refl

-- a.(a.a) is a.b, which is a, and (a.a).a is b.a, which is b
pub fault : category_fault raw ≡ Some (NotAssociative 1 1 1)
unfolding opened
fault = refl
