use Rattle.std.proofs.Common.{◌≡◌, take, drop, length}
use Rattle.std.specs.List.{range_with_len}
use Rattle.finite_lists.specs.First.{first}
use Rattle.topos_model.specs.categories.CategoryFaults.{listed_composite_fault, listing_fault}
use Rattle.fin_category.specs.Listings.{HoldsComposites}
use Rattle.fin_category.proofs.listing.listed_composites.Given as goal

abbrev pub invariant-loop-listed : goal.invariant-loop-listed
invariant-loop-listed l = record {
  held : HoldsComposites l.composites (take l.listed-index l.raw.listed);
  search : listing_fault l.raw ≡ first (listed_composite_fault l.raw) (drop l.listed-index (range_with_len 0 (length l.raw.listed)));
}
