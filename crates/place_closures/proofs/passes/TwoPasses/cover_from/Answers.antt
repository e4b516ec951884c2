use Rattle.std.proofs.Common.{◌≡◌, ◌<◌, ℕ, [], true, false, length, get_or, set, refl, sym, ap, ◌∙◌, arith}
use Rattle.std.proofs.lemmas.List.{length-set, get_or-set_same}
use Rattle.std.proofs.lemmas.List.{get_or_read}
use Rattle.place_closures.specs.Passes.{HasCover}
use Rattle.place_closures.proofs.Adding.{row_has, has_row, one_left, left_more, left_none, set_keeps, add_least}
use Rattle.place_closures.proofs.passes.TwoPasses.cover_from.Goals as goal
use Rattle.place_closures.proofs.passes.TwoPasses.cover_from.Goals.{then-is_missing, else-is_missing}

pub is_missing-requires-clause-within : goal.is_missing-requires-clause-within
is_missing-requires-clause-within c =
    let s = c.args.self.now in
    let at = c.as_slice-k-items.ensures ∙ get_or_read s.covering.items c.args.m _ (omega (arith, c.requires.within, s.turned.count, s.lawful.rows)) c.index.ensures [] in
    let w = (s.turned.within c.args.m _ (row_has s.covering.items c.args.m _ _ at (one_left c.as_slice-k-items.result.now c.loop-k.k-index c.loop-k-test.true))) in
    omega (arith, w, s.lawful.rows)

pub set-requires : goal.set-requires
set-requires c =
    let s = c.args.self.now in
    let at = c.as_slice-k-items.ensures ∙ get_or_read s.covering.items c.args.m _ (omega (arith, c.requires.within, s.turned.count, s.lawful.rows)) c.index.ensures [] in
    let w = (s.turned.within c.args.m _ (row_has s.covering.items c.args.m _ _ at (one_left c.as_slice-k-items.result.now c.loop-k.k-index c.loop-k-test.true))) in
    omega (arith, w, s.lawful.rows, c.loop-k.invariant.places, c.requires.places)

pub loop-k-preserved : goal.loop-k-preserved
loop-k-preserved c =
    let s = c.args.self.now in
    let i = c.loop-k.invariant in
    let x = get_or c.as_slice-k-items.result.now c.loop-k.k-index 0 in
    let Q = λ (k : ℕ). HasCover s.covers c.args.set.now k → get_or c.loop-k.set k false ≡ true in
    let R = λ (k : ℕ). HasCover s.covers c.args.set.now k → get_or c.if-is_missing.set k false ≡ true in
    elim c.if-is_missing.branch [
      | then-is_missing w ↦
          let is : c.if-is_missing.set ≡ set c.loop-k.set (get_or c.as_slice-k-items.result.now c.loop-k.k-index 0) true = w.set-is ∙ w.set.ensures in
          let within : get_or c.as_slice-k-items.result.now c.loop-k.k-index 0 < length c.loop-k.set =
          (let at = c.as_slice-k-items.ensures ∙ get_or_read s.covering.items c.args.m _ (omega (arith, c.requires.within, s.turned.count, s.lawful.rows)) c.index.ensures [] in
          let w = (s.turned.within c.args.m _ (row_has s.covering.items c.args.m _ _ at (one_left c.as_slice-k-items.result.now c.loop-k.k-index c.loop-k-test.true))) in
          omega (arith, w, s.lawful.rows, i.places, c.requires.places)) in
          let up : (k : ℕ) → get_or c.loop-k.set k false ≡ true → get_or c.if-is_missing.set k false ≡ true = λ k h. ap (λ t. get_or t k false) is ∙ set_keeps c.loop-k.set x k within h in
          record {
            places = ap length is ∙ length-set c.loop-k.set x true ∙ i.places;
            above = λ k h. up k (i.above k h);
            least = λ t e cl le k h. add_least s.covers c.loop-k.set t x ((w.if-is_missing.ensures.missing refl).1) (omega (arith, within, e, i.places, c.requires.places)) cl (i.least t e cl le) k (ap (λ u. get_or u k false) (sym is) ∙ h);
            left = left_more c.as_slice-k-items.result.now c.loop-k.k-index Q R c.loop-k-test.true (λ j q each. up j (q each)) (λ each. ap (λ t. get_or t x false) is ∙ get_or-set_same c.loop-k.set x true false within) i.left;
          }
      | else-is_missing w ↦
          let up : (k : ℕ) → get_or c.loop-k.set k false ≡ true → get_or c.if-is_missing.set k false ≡ true = λ k h. ap (λ t. get_or t k false) w.set-is ∙ h in
          record {
            places = ap length w.set-is ∙ i.places;
            above = λ k h. up k (i.above k h);
            least = λ t e cl le k h. i.least t e cl le k (ap (λ u. get_or u k false) (sym w.set-is) ∙ h);
            left = left_more c.as_slice-k-items.result.now c.loop-k.k-index Q R c.loop-k-test.true (λ j q each. up j (q each)) (λ each. up x (c.is_missing.ensures.there w.if-is_missing.false (λ l m. i.above l (each l m)))) i.left;
          }
    ]

pub returns-clause-all : goal.returns-clause-all
returns-clause-all c = λ k h.
    let s = c.args.self.now in
    let at = c.as_slice-k-items.ensures ∙ get_or_read s.covering.items c.args.m _ (omega (arith, c.requires.within, s.turned.count, s.lawful.rows)) c.index.ensures [] in
    let Q = λ (k : ℕ). HasCover s.covers c.args.set.now k → get_or c.loop-k.set k false ≡ true in
    left_none c.as_slice-k-items.result.now c.loop-k.k-index Q (omega (arith, c.loop-k-test.false)) c.loop-k.invariant.left k (has_row s.covering.items c.args.m k _ at (s.turned.whole k c.args.m h))
