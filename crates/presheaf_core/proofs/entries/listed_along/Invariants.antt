use Rattle.std.proofs.Common.{◌≡◌, drop}
use Rattle.topos_model.specs.categories.Listed.{entries_along}
use Rattle.topos_model.specs.categories.Filling.{has_restriction}
use Rattle.presheaf_core.proofs.entries.listed_along.Given as goal

abbrev pub invariant-loop-listed : goal.invariant-loop-listed
invariant-loop-listed l = record {
  entries : entries_along l.along l.f ≡ entries_along (drop l.listed-index l.along) l.f;
  has : has_restriction l.along l.f ≡ has_restriction (drop l.listed-index l.along) l.f;
}
