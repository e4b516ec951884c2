use Rattle.std.proofs.Common.{◌≡◌, ℕ, [], false, true, length, get_or, sym, ap, subst, ◌∙◌, arith}
use Rattle.std.proofs.lemmas.Bool.{or_left}
use Rattle.std.proofs.lemmas.Option.{get_or_from_slice_get}
use Rattle.topos_model.specs.categories.Category.{has}
use Rattle.place_closures.specs.PassLaws.{restricted_extends}
use Rattle.place_closures.proofs.PassSteps.{restrict_within, restrict_done, restrict_skipped, restrict_end}
use Rattle.place_closures.proofs.passes.TwoPasses.restrict.Goals as goal
use Rattle.place_closures.proofs.passes.TwoPasses.restrict.Goals.{then-get, else-get}

pub places-init : goal.places-init
places-init c = record {
  places = c.requires;
  above = λ k h. h;
  within = restricted_extends c.args.self.now.below c.args.self.now.covers c.args.self.now.lawful c.args.set.now;
  done = λ i j low. absurd (omega (arith, low));
}

pub mark-requires : goal.mark-requires
mark-requires c = λ j h.
    let s = c.args.self.now in
    let at = c.as_slice.ensures ∙ sym (get_or_from_slice_get s.below c.places.i _ [] c.get-then-get.ensures) in
    let w = s.lawful.within c.places.i j (subst (λ r. has j r ≡ true) at h) in
    omega (arith, w, c.places.invariant.places)

pub places-preserved : goal.places-preserved
places-preserved c =
    let s = c.args.self.now in
    let i = c.places.invariant in
    elim c.if-get.branch [
      | then-get w ↦
          let at = w.as_slice.ensures ∙ sym (get_or_from_slice_get s.below c.places.i _ [] w.get-then-get.ensures) in
          let reads = λ (j : ℕ). ap (λ t. get_or t j false) w.set-is ∙ w.mark.ensures.marked j in
          record {
            places = ap length w.set-is ∙ w.mark.ensures.places ∙ i.places;
            above = λ k h. reads k ∙ or_left (get_or c.places.set k false) _ (i.above k h);
            within = restrict_within s.below s.covers s.lawful c.args.set.now c.places.set _ c.places.i _ c.requires at i.within (sym c.get.ensures ∙ w.if-get.true) reads;
            done = restrict_done s.below s.covers s.lawful c.args.set.now c.places.set _ c.places.i _ at i.done reads;
          }
      | else-get w ↦ record {
        places = ap length w.set-is ∙ i.places;
        above = λ k h. ap (λ t. get_or t k false) w.set-is ∙ i.above k h;
        within = λ k h. i.within k (ap (λ t. get_or t k false) (sym w.set-is) ∙ h);
        done = λ l j lower on m.
            ap (λ t. get_or t j false) w.set-is ∙ restrict_skipped s.below s.covers s.lawful c.args.set.now c.places.set c.places.i i.above (sym c.get.ensures ∙ w.if-get.false) i.done l j lower on m;
      }
    ]

pub returns : goal.returns
returns c =
    let s = c.args.self.now in
    let i = c.places.invariant in
    restrict_end s.below s.covers s.lawful c.args.set.now c.places.set c.places.i c.requires i.places (omega (arith, c.places-test.false, c.len-i-end.ensures)) i.above i.within i.done
