use Rattle.std.proofs.Common.{◌≡◌, ◌||◌, ℕ, [], true, false, length, get_or, set, sym, ap, ◌∙◌, arith}
use Rattle.std.proofs.lemmas.List.{length-set}
use Rattle.std.proofs.lemmas.Option.{get_or_from_slice_get}
use Rattle.topos_model.specs.categories.Category.{has}
use Rattle.place_closures.proofs.Adding.{row_has, moves_early, covers_early, all_covered, keeps_before}
use Rattle.place_closures.proofs.passes.TwoPassesClosing.add.Goals as goal

pub returns-in-Some : goal.returns-in-Some
returns-in-Some c =
    let s = c.args.self.now in
    let at = c.as_slice-row.ensures ∙ sym (get_or_from_slice_get s.below c.args.place _ [] c.get.ensures) in
    let (h, early, off) = c.in-Some.ensures in
    record { added = (c.requires.same, moves_early s.below s.covers s.lawful c.args.last.now c.args.place c.requires.places c.requires.closed c.requires.within c.requires.new c.in-Some.j (row_has s.below c.args.place c.in-Some.j _ at h) early off) }

pub mark-requires : goal.mark-requires
mark-requires c = λ j h.
    let s = c.args.self.now in
    let at = c.as_slice-row.ensures ∙ sym (get_or_from_slice_get s.below c.args.place _ [] c.get.ensures) in
    let w = s.lawful.within c.args.place j (row_has s.below c.args.place j _ at h) in
    let e : length c.set.new.self ≡ length c.args.last.now = ap length c.set.ensures ∙ length-set c.args.set.now c.args.place true ∙ ap length c.requires.same in
    omega (arith, w, e, c.requires.places)

pub returns-in-Some-brought_before : goal.returns-in-Some-brought_before
returns-in-Some-brought_before c =
    let s = c.args.self.now in
    let at = c.as_slice-row.ensures ∙ sym (get_or_from_slice_get s.below c.args.place _ [] c.get.ensures) in
    let first : c.set.new.self ≡ set c.args.last.now c.args.place true = c.set.ensures ∙ ap (λ t. set t c.args.place true) c.requires.same in
    let bn : length c.mark.new.set ≡ length s.below = c.mark.ensures.places ∙ ap length first ∙ length-set c.args.last.now c.args.place true ∙ c.requires.places in
    record {
      added = (
        c.put_back.ensures,
        covers_early s.below s.covers s.lawful c.args.last.now c.args.place c.requires.places c.requires.closed c.requires.within c.requires.new c.mark.new.set c.as_slice-row.result.now at bn
            (λ j. c.mark.ensures.marked j ∙ ap (λ t. get_or t j false || has j c.as_slice-row.result.now) first) c.in-Some-brought_before.k c.in-Some-brought_before.ensures,
      );
    }

pub returns : goal.returns
returns c =
    let s = c.args.self.now in
    let at = c.as_slice-row.ensures ∙ sym (get_or_from_slice_get s.below c.args.place _ [] c.get.ensures) in
    let first : c.set.new.self ≡ set c.args.last.now c.args.place true = c.set.ensures ∙ ap (λ t. set t c.args.place true) c.requires.same in
    let bn : length c.mark.new.set ≡ length s.below = c.mark.ensures.places ∙ ap length first ∙ length-set c.args.last.now c.args.place true ∙ c.requires.places in
    let p = c.cover_new.ensures in
    let reads = λ (j : ℕ). c.mark.ensures.marked j ∙ ap (λ t. get_or t j false || has j c.as_slice-row.result.now) first in
    let is =
    all_covered s.below s.covers s.lawful c.args.last.now c.args.place c.requires.places c.requires.closed c.requires.within c.requires.new c.mark.new.set c.as_slice-row.result.now at bn reads
    c.cover_new.new.set (p.places ∙ bn) p.above p.least p.all in
    record {
      added = (
        is,
        keeps_before s.below s.covers s.lawful c.args.last.now c.args.place c.requires.places c.requires.closed c.requires.within c.requires.new c.mark.new.set c.as_slice-row.result.now at bn reads
            c.in_default.ensures c.in_default-brought_before.ensures c.cover_new.new.set is,
      );
    }
