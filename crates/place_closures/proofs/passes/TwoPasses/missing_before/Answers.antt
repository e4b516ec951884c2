use Rattle.std.proofs.Common.{◌≡◌, ◌<◌, ℕ, [], true, false, get_or, ◌∙◌, arith}
use Rattle.std.proofs.lemmas.List.{get_or_read}
use Rattle.place_closures.specs.Passes.{HasCover}
use Rattle.place_closures.proofs.Adding.{row_has, has_row, one_left, left_more, left_none}
use Rattle.place_closures.proofs.passes.TwoPasses.missing_before.Goals as goal
use Rattle.place_closures.proofs.passes.TwoPasses.missing_before.Goals.{else-k-end-via-then-k-end+else-is_missing, else-k-end-via-else-k-end}

pub is_missing-requires-clause-within : goal.is_missing-requires-clause-within
is_missing-requires-clause-within c =
    let s = c.args.self.now in
    let at = c.as_slice-k-items.ensures ∙ get_or_read s.covering.items c.args.m _ (omega (arith, c.requires.within, s.turned.count, s.lawful.rows)) c.index.ensures [] in
    let w = (s.turned.within c.args.m _ (row_has s.covering.items c.args.m _ _ at (one_left c.as_slice-k-items.result.now c.loop-k.k-index c.loop-k-test.true))) in
    omega (arith, w, s.lawful.rows)

pub loop-k-preserved : goal.loop-k-preserved
loop-k-preserved c =
    let s = c.args.self.now in
    let Q = λ (k : ℕ). k < c.args.end → HasCover s.covers c.args.set.now k → get_or c.args.set.now k false ≡ true in
    left_more c.as_slice-k-items.result.now c.loop-k.k-index Q Q c.loop-k-test.true (λ j q. q)
    (elim c.else-k-end.branch [
      | else-k-end-via-then-k-end+else-is_missing w ↦ λ low each. w.is_missing.ensures.there w.if-is_missing.false each
      | else-k-end-via-else-k-end w ↦ λ low each. absurd (omega (arith, low, w.if-k-end.false))
    ])
    c.loop-k.invariant

pub returns : goal.returns
returns c = λ k h.
    let s = c.args.self.now in
    let at = c.as_slice-k-items.ensures ∙ get_or_read s.covering.items c.args.m _ (omega (arith, c.requires.within, s.turned.count, s.lawful.rows)) c.index.ensures [] in
    let Q = λ (k : ℕ). k < c.args.end → HasCover s.covers c.args.set.now k → get_or c.args.set.now k false ≡ true in
    left_none c.as_slice-k-items.result.now c.loop-k.k-index Q (omega (arith, c.loop-k-test.false)) c.loop-k.invariant k (has_row s.covering.items c.args.m k _ at (s.turned.whole k c.args.m h))
