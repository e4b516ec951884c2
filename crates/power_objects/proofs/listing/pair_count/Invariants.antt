use Rattle.std.proofs.Common.{◌≡◌, ◌*◌, ◌^◌, ◌≤◌, take}
use Rattle.topos_model.specs.categories.Category.{dom}
use Rattle.place_closures.proofs.PairNumbers.{total}
use Rattle.power_objects.proofs.listing.pair_count.Given as goal

abbrev pub invariant-loop-f : goal.invariant-loop-f
invariant-loop-f g l = record {
  before : l.count ≡ total (λ f. g.X.Elements.size l.x (dom l.cat f)) (take l.f-index l.f-items);
  few : l.count ≤ l.f-index * 2 ^ 32;
}
