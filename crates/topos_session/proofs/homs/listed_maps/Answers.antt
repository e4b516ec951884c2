use Rattle.std.proofs.Common.{◌≡◌, length, sum, ap, ◌∙◌, arith}
use Rattle.topos_model.specs.presheaves.NaturalMaps.{maps}
use Rattle.topos_session.proofs.ShownFunctors.{too_many, not_too_many, hom_cost, maps_shown}
use Rattle.topos_session.proofs.homs.listed_maps.Goals as goal

pub elements-cost-requires : goal.elements-cost-requires
elements-cost-requires c = omega (arith, ap length c.sizes.ensures, c.requires.domain.objects, c.objects-objects.ensures.count, c.objects-objects.ensures.few)

pub returns-in-Over-clause-stop : goal.returns-in-Over-clause-stop
returns-in-Over-clause-stop c =
    let k = c.args.cat.now in
    let X = c.args.from.now in
    let over = rw c.in-Over.is at c.in_ok-list_maps.ensures.over in
    too_many X (length (maps k X c.args.to.now)) c.args.budget (rw (c.elements-cost.ensures.elements, c.sizes.ensures) at over)

pub returns-in_ok-shapes-in-All-clause-hom : goal.returns-in_ok-shapes-in-All-clause-hom
returns-in_ok-shapes-in-All-clause-hom c =
    let k = c.args.cat.now in
    let X = c.args.from.now in
    let all = rw c.in-All.is at c.in_ok-list_maps.ensures.all in
    let within = rw c.in-All.is at c.in_ok-list_maps.ensures.within in
    let few = rw (c.elements-cost.ensures.elements, c.sizes.ensures) at within in
    let count : c.len.result ≡ length (maps k X c.args.to.now) = c.len.ensures ∙ ap length all in
    let cost : c.elements-cost.result ≡ sum X.sizes = c.elements-cost.ensures.elements ∙ ap sum c.sizes.ensures in
    record {
      shapes = rw (c.as_slice.ensures, all) at c.in_ok-shapes-in-All.ensures ∙ maps_shown c.args.ends.0 c.args.ends.1 (maps k X c.args.to.now);
      cells = rw (count, cost) (hom_cost X (length (maps k X c.args.to.now)));
      within = rw (count, cost) (not_too_many X (length (maps k X c.args.to.now)) c.args.budget (rw all at few));
    }
