use Rattle.std.proofs.Common.{◌≡◌, ◌<◌, ◌≤◌, ◌*◌, ◌/◌, length, ap, subst, ◌∙◌, arith}
use Rattle.topos_model.specs.categories.Category.{Category}
use Rattle.topos_model.specs.topologies.Cover.{Site}
use Rattle.topos_model.specs.Laws.{IsCategory, IsTopology}
use Rattle.closed_sets.specs.Closed.{closed_lists}
use Rattle.closed_sets.specs.Listing.{IsListing}
use Rattle.place_closures.specs.Passes.{two_passes}
use Rattle.type_rows.proofs.CellSums.{over_room, within_room}
use Rattle.power_objects.specs.SubsetRows.{closed_sets, set_cost}
use Rattle.power_objects.proofs.Rooms.{one_cost, listed_are}
use Rattle.power_objects.proofs.listing.sets_at.Goals as goal

pub returns-then-room-cost : goal.returns-then-room-cost
returns-then-room-cost g c =
    let s = c.args.site.now in
    let size = g.X.Elements.size c.args.x.now in
    let move = g.X.Elements.restriction c.args.x.now in
    let laws = subst (λ (k : Category). IsCategory k) c.cat-cat.ensures c.laws.ensures.lawful in
    let top = subst (λ (t : Site). IsTopology t) c.top-topology.ensures.site c.top-topology.ensures.topology.topology in
    let e : c.cost_of_set-cost.result ≡ set_cost s.category size move c.args.c = c.cost_of_set-cost.ensures.cost ∙ ap (λ (k : Category). set_cost k size move c.args.c) c.cat-cat.ensures in
    record { listed = omega (arith, c.if-room-cost.true, e, one_cost s size move laws top c.requires.restricts c.args.c) }

pub returns-in-Over : goal.returns-in-Over
returns-in-Over g c =
    let s = c.args.site.now in
    let size = g.X.Elements.size c.args.x.now in
    let move = g.X.Elements.restriction c.args.x.now in
    let B = c.in_ok-passes.passes.below in
    let C = c.in_ok-passes.passes.covers in
    let lists = closed_lists (length B) (two_passes B C) in
    let cost = c.cost_of_set-cost.result in
    let e : cost ≡ set_cost s.category size move c.args.c = c.cost_of_set-cost.ensures.cost ∙ ap (λ (k : Category). set_cost k size move c.args.c) c.cat-cat.ensures in
    let over : c.args.room / cost < length lists = subst (IsListing lists (c.args.room / cost)) c.in-Over.is c.in_ok-list_closed.ensures.listing in
    let n : length lists ≡ length (closed_sets s size move c.args.c) = ap length (listed_are s size move c.args.c B C c.in_ok-passes.ensures.below c.in_ok-passes.ensures.covers) in
    let more = over_room (length (closed_sets s size move c.args.c)) c.args.room cost (omega (arith, e)) (omega (arith, over, n)) in
    record { listed = subst (λ m. c.args.room < length (closed_sets s size move c.args.c) * m) e more }

pub returns : goal.returns
returns g c =
    let s = c.args.site.now in
    let size = g.X.Elements.size c.args.x.now in
    let move = g.X.Elements.restriction c.args.x.now in
    let B = c.in_ok-passes.passes.below in
    let C = c.in_ok-passes.passes.covers in
    let lists = closed_lists (length B) (two_passes B C) in
    let cost = c.cost_of_set-cost.result in
    let e : cost ≡ set_cost s.category size move c.args.c = c.cost_of_set-cost.ensures.cost ∙ ap (λ (k : Category). set_cost k size move c.args.c) c.cat-cat.ensures in
    let listing = subst (IsListing lists (c.args.room / cost)) c.in-All.is c.in_ok-list_closed.ensures.listing in
    let few = listing.1 in
    let within = within_room (length c.in-All.sets) c.args.room cost (omega (arith, few, ap length listing.0)) in
    record { listed = (listing.0 ∙ listed_are s size move c.args.c B C c.in_ok-passes.ensures.below c.in_ok-passes.ensures.covers, subst (λ m. length c.in-All.sets * m ≤ c.args.room) e within) }
