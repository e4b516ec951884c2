use Rattle.std.proofs.Common.{◌≡◌, ◌<◌, ◌++◌, ◌∷◌, ℕ, [], length, get_or, set, sym, ap, subst, ◌∙◌, arith, inl, inr}
use Rattle.std.proofs.lemmas.List.{length-set, get_or_read}
use Rattle.place_closures.specs.Passes.{Has}
use Rattle.place_closures.proofs.Adding.{row_has, one_left, left_more, pushed_new, pushed_old, of_pushed}
use Rattle.place_closures.proofs.turned.turned.Goals as goal

pub index_mut-requires : goal.index_mut-requires
index_mut-requires c =
    let at = c.as_slice-j-items.ensures ∙ get_or_read c.args.rows.now c.rows.i _ c.rows-test.true c.index-rows-i.is [] in
    let w = c.requires.within c.rows.i _ (row_has c.args.rows.now c.rows.i _ _ at (one_left c.as_slice-j-items.result.now c.loop-j.j-index c.loop-j-test.true)) in
    omega (arith, w, c.loop-j.invariant.count)

pub loop-j-preserved : goal.loop-j-preserved
loop-j-preserved c =
    let at = c.as_slice-j-items.ensures ∙ get_or_read c.args.rows.now c.rows.i _ c.rows-test.true c.index-rows-i.is [] in
    let w = c.requires.within c.rows.i _ (row_has c.args.rows.now c.rows.i _ _ at (one_left c.as_slice-j-items.result.now c.loop-j.j-index c.loop-j-test.true)) in
    let i = c.loop-j.invariant in
    let x = get_or c.as_slice-j-items.result.now c.loop-j.j-index 0 in
    let table = c.loop-j.turned.items in
    let low : get_or c.as_slice-j-items.result.now c.loop-j.j-index 0 < length c.loop-j.turned.items = omega (arith, w, i.count) in
    let is : c.push.new.self ≡ get_or c.loop-j.turned.items (get_or c.as_slice-j-items.result.now c.loop-j.j-index 0) [] ++ c.rows.i ∷ [] =
    c.in_ok-push.ensures.ok ∙ ap (λ r. r ++ c.rows.i ∷ []) (get_or_read c.loop-j.turned.items x _ low c.index_mut.ensures.value []) in
    let old = pushed_old table x c.rows.i c.push.new.self low is in
    let Q = λ (j : ℕ). Has c.loop-j.turned.items j c.rows.i in
    let R = λ (j : ℕ). Has (set c.loop-j.turned.items (get_or c.as_slice-j-items.result.now c.loop-j.j-index 0) c.push.new.self) j c.rows.i in
    record {
      count = length-set table x c.push.new.self ∙ i.count;
      within = λ j k h. elim (of_pushed table x c.rows.i c.push.new.self low is j k h) [ inl m ↦ i.within j k m | inr e ↦ (let t : c.rows.i < length c.args.rows.now = c.rows-test.true in subst (λ n. n < length c.args.rows.now) (sym e) t) ];
      whole = λ k j l h. old j k (i.whole k j l h);
      left = left_more c.as_slice-j-items.result.now c.loop-j.j-index Q R c.loop-j-test.true (λ j q. old j c.rows.i q) (pushed_new table x c.rows.i c.push.new.self low is) i.left;
    }
