use Rattle.std.proofs.Common.{◌≡◌, ◌<◌, ℕ, [], true, false, get_or, sym, ◌∙◌, arith}
use Rattle.std.proofs.lemmas.Bool.{false≢true}
use Rattle.std.proofs.lemmas.Option.{get_or_from_slice_get}
use Rattle.place_closures.specs.Passes.{Has, HasCover}
use Rattle.place_closures.proofs.Adding.{row_has, has_row, one_left, left_more, left_none}
use Rattle.place_closures.proofs.passes.TwoPasses.brought_before.Goals as goal
use Rattle.place_closures.proofs.passes.TwoPasses.brought_before.Goals.{then-not-get+in_default, else-not-get}

pub get-requires-in-loop-m : goal.get-requires-in-loop-m
get-requires-in-loop-m c =
    let s = c.args.self.now in
    let at = c.as_slice-m-items.ensures ∙ sym (get_or_from_slice_get s.below c.args.place _ [] c.get.ensures) in
    let w = s.lawful.within c.args.place _ (row_has s.below c.args.place _ _ at (one_left c.as_slice-m-items.result.now c.loop-m.m-index c.loop-m-test.true)) in
    omega (arith, w, c.requires.last)

pub missing_before-requires-clause-within : goal.missing_before-requires-clause-within
missing_before-requires-clause-within c =
    let s = c.args.self.now in
    let at = c.as_slice-m-items.ensures ∙ sym (get_or_from_slice_get s.below c.args.place _ [] c.get.ensures) in
    s.lawful.within c.args.place _ (row_has s.below c.args.place _ _ at (one_left c.as_slice-m-items.result.now c.loop-m.m-index c.loop-m-test.true))

pub loop-m-preserved : goal.loop-m-preserved
loop-m-preserved c =
    let s = c.args.self.now in
    let Q = λ (m : ℕ). get_or c.args.last.now m false ≡ false → (k : ℕ) → Has s.covers k m → k < c.args.place → HasCover s.covers c.args.set.now k → get_or c.args.set.now k false ≡ true in
    left_more c.as_slice-m-items.result.now c.loop-m.m-index Q Q c.loop-m-test.true (λ j q. q)
    (elim c.if-not-get.branch [
      | then-not-get+in_default w ↦ λ out k h low each. w.in_default.ensures k h low each
      | else-not-get w ↦ λ out k h low each. absurd (false≢true (sym out ∙ sym w.if-not-get.ensures))
    ])
    c.loop-m.invariant

pub returns : goal.returns
returns c = λ m h.
    let s = c.args.self.now in
    let at = c.as_slice-m-items.ensures ∙ sym (get_or_from_slice_get s.below c.args.place _ [] c.get.ensures) in
    let Q = λ (m : ℕ). get_or c.args.last.now m false ≡ false → (k : ℕ) → Has s.covers k m → k < c.args.place → HasCover s.covers c.args.set.now k → get_or c.args.set.now k false ≡ true in
    left_none c.as_slice-m-items.result.now c.loop-m.m-index Q (omega (arith, c.loop-m-test.false)) c.loop-m.invariant m (has_row s.below c.args.place m _ at h)
