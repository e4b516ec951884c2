use Rattle.std.proofs.Common.{◌≡◌, ℕ, [], true, false, length, get_or, sym, ap, ◌∙◌, arith}
use Rattle.std.proofs.lemmas.Bool.{false≢true}
use Rattle.std.proofs.lemmas.Option.{get_or_from_slice_get}
use Rattle.place_closures.specs.Passes.{Has, HasCover}
use Rattle.place_closures.proofs.Adding.{row_has, has_row, one_left, left_more, left_none}
use Rattle.place_closures.proofs.passes.TwoPasses.cover_new.Goals as goal
use Rattle.place_closures.proofs.passes.TwoPasses.cover_new.Goals.{then-not-get, else-not-get}

pub get-requires-in-loop-m : goal.get-requires-in-loop-m
get-requires-in-loop-m c =
    let s = c.args.self.now in
    let at = c.as_slice-m-items.ensures ∙ sym (get_or_from_slice_get s.below c.args.place _ [] c.get.ensures) in
    let w = s.lawful.within c.args.place _ (row_has s.below c.args.place _ _ at (one_left c.as_slice-m-items.result.now c.loop-m.m-index c.loop-m-test.true)) in
    omega (arith, w, c.requires.last)

pub cover_from-requires-clause-within : goal.cover_from-requires-clause-within
cover_from-requires-clause-within c =
    let s = c.args.self.now in
    let at = c.as_slice-m-items.ensures ∙ sym (get_or_from_slice_get s.below c.args.place _ [] c.get.ensures) in
    s.lawful.within c.args.place _ (row_has s.below c.args.place _ _ at (one_left c.as_slice-m-items.result.now c.loop-m.m-index c.loop-m-test.true))

pub loop-m-preserved : goal.loop-m-preserved
loop-m-preserved c =
    let s = c.args.self.now in
    let i = c.loop-m.invariant in
    let Q = λ (m : ℕ). get_or c.args.last.now m false ≡ false → (k : ℕ) → Has s.covers k m → HasCover s.covers c.args.set.now k → get_or c.loop-m.set k false ≡ true in
    let R = λ (m : ℕ). get_or c.args.last.now m false ≡ false → (k : ℕ) → Has s.covers k m → HasCover s.covers c.args.set.now k → get_or c.if-not-get.set k false ≡ true in
    elim c.if-not-get.branch [
      | then-not-get w ↦
          let p = w.cover_from.ensures in
          let same : (k : ℕ) → get_or w.cover_from.new.set k false ≡ true → get_or c.if-not-get.set k false ≡ true = λ k h. ap (λ t. get_or t k false) w.set-is ∙ h in
          record {
            places = ap length w.set-is ∙ p.places ∙ i.places;
            above = λ k h. same k (p.above k (i.above k h));
            least = λ t e cl le k h. p.least t e cl (i.least t e cl le) k (ap (λ u. get_or u k false) (sym w.set-is) ∙ h);
            left = left_more c.as_slice-m-items.result.now c.loop-m.m-index Q R c.loop-m-test.true (λ j q out k h each. same k (p.above k (q out k h each)))
                (λ out k h each. same k (p.all k h (λ l m. i.above l (each l m)))) i.left;
          }
      | else-not-get w ↦
          let same : (k : ℕ) → get_or c.loop-m.set k false ≡ true → get_or c.if-not-get.set k false ≡ true = λ k h. ap (λ t. get_or t k false) w.set-is ∙ h in
          record {
            places = ap length w.set-is ∙ i.places;
            above = λ k h. same k (i.above k h);
            least = λ t e cl le k h. i.least t e cl le k (ap (λ u. get_or u k false) (sym w.set-is) ∙ h);
            left = left_more c.as_slice-m-items.result.now c.loop-m.m-index Q R c.loop-m-test.true (λ j q out k h each. same k (q out k h each))
                (λ out k h each. absurd (false≢true (sym out ∙ sym w.if-not-get.ensures))) i.left;
          }
    ]

pub returns-clause-all : goal.returns-clause-all
returns-clause-all c = λ m h.
    let s = c.args.self.now in
    let at = c.as_slice-m-items.ensures ∙ sym (get_or_from_slice_get s.below c.args.place _ [] c.get.ensures) in
    let Q = λ (m : ℕ). get_or c.args.last.now m false ≡ false → (k : ℕ) → Has s.covers k m → HasCover s.covers c.args.set.now k → get_or c.loop-m.set k false ≡ true in
    left_none c.as_slice-m-items.result.now c.loop-m.m-index Q (omega (arith, c.loop-m-test.false)) c.loop-m.invariant.left m (has_row s.below c.args.place m _ at h)
