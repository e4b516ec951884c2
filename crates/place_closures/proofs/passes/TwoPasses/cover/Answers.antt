use Rattle.std.proofs.Common.{◌≡◌, ◌<◌, [], false, true, length, get_or, sym, ap, subst, ◌∙◌, arith}
use Rattle.std.proofs.lemmas.List.{length-set}
use Rattle.std.proofs.lemmas.Option.{get_or_from_slice_get}
use Rattle.topos_model.specs.categories.Category.{has}
use Rattle.place_closures.specs.PassLaws.{covered_extends}
use Rattle.place_closures.proofs.PassSteps.{cover_within, cover_above, cover_done, cover_skipped, cover_end}
use Rattle.place_closures.proofs.passes.TwoPasses.cover.Goals as goal
use Rattle.place_closures.proofs.passes.TwoPasses.cover.Goals.{then-has_all, else-has_all}

pub places-init : goal.places-init
places-init c = record {
  places = c.requires.places;
  above = λ k h. h;
  within = covered_extends c.args.self.now.below c.args.self.now.covers c.args.self.now.lawful c.args.set.now c.requires.moved;
  done = λ i low. absurd (omega (arith, low));
}

pub has_all-requires : goal.has_all-requires
has_all-requires c = λ j h.
    let s = c.args.self.now in
    let at = c.as_slice.ensures ∙ sym (get_or_from_slice_get s.covers c.places.i _ [] c.get.ensures) in
    let w = s.lawful.within c.places.i j (s.lawful.covers_below c.places.i j (subst (λ r. has j r ≡ true) at h)) in
    omega (arith, w, c.places.invariant.places)

pub places-preserved : goal.places-preserved
places-preserved c =
    let s = c.args.self.now in
    let i = c.places.invariant in
    let at = c.as_slice.ensures ∙ sym (get_or_from_slice_get s.covers c.places.i _ [] c.get.ensures) in
    let low : c.places.i < length s.below = omega (arith, c.places-test.true, c.len-i-end.ensures) in
    elim c.if-has_all.branch [
      | then-has_all w ↦ record {
        places = ap length (w.set-is ∙ w.set.ensures) ∙ length-set c.places.set c.places.i true ∙ i.places;
        above = cover_above s.below s.covers s.lawful c.args.set.now c.places.set _ c.places.i i.places low i.above (w.set-is ∙ w.set.ensures);
        within = cover_within s.below s.covers s.lawful c.args.set.now c.places.set _ c.places.i _ c.requires.places i.places low at i.within (sym c.has_all.ensures ∙ w.if-has_all.true) (w.set-is ∙ w.set.ensures);
        done = cover_done s.below s.covers s.lawful c.args.set.now c.places.set _ c.places.i i.places low (w.set-is ∙ w.set.ensures) i.done;
      }
      | else-has_all w ↦ record {
        places = ap length w.set-is ∙ i.places;
        above = λ k h. ap (λ t. get_or t k false) w.set-is ∙ i.above k h;
        within = λ k h. i.within k (ap (λ t. get_or t k false) (sym w.set-is) ∙ h);
        done = λ l lower h. ap (λ t. get_or t l false) w.set-is ∙ cover_skipped s.below s.covers s.lawful c.args.set.now c.places.set c.places.i _ at i.above (sym c.has_all.ensures ∙ w.if-has_all.false) i.done l lower h;
      }
    ]

pub returns : goal.returns
returns c =
    let s = c.args.self.now in
    let i = c.places.invariant in
    cover_end s.below s.covers s.lawful c.args.set.now c.places.set c.places.i c.requires.places i.places (omega (arith, c.places-test.false, c.len-i-end.ensures)) i.within i.done
