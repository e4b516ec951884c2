use Rattle.std.proofs.Common.{◌≡◌, ℕ, ◌<◌, List, [], map, length, get_or, inr, sym, ap, subst, ◌∙◌, arith}
use Rattle.std.specs.List.{range_with_len}
use Rattle.std.proofs.lemmas.List.{get_or_read, ext_get_or, get_or-map, length-map}
use Rattle.std.proofs.lemmas.List.FromFn.{get_or-map-range_with_len, length-map-range_with_len}
use Rattle.topos_model.specs.presheaves.Maps.{after_component}
use Rattle.presheaf_core.proofs.rows.composed_row.Goals as goal

after_by_places : (s r : List ℕ) → after_component s r ≡ map (λ x. get_or s (get_or r x 0) 0) (range_with_len 0 (length r))
after_by_places s r =
    ext_get_or 0 (after_component s r) (map value (range_with_len 0 (length r))) (length-map r (λ x. get_or s x 0) ∙ sym (length-map-range_with_len value 0 (length r))) (λ i low.
    let at : i < length r = subst (λ n. i < n) (length-map r (λ x. get_or s x 0)) low in
    get_or-map (λ x. get_or s x 0) r i 0 0 at ∙ sym (get_or-map-range_with_len value 0 (length r) i i 0 at (omega arith)))
  where
    value : ℕ → ℕ
    value x = get_or s (get_or r x 0) 0

pub bounds-rows-g : goal.bounds-rows-g
bounds-rows-g c =
    let w = c.requires.first (c.in-Some.g, c.in-Some.h) (sym c.in-Some.ensures) in
    omega (arith, w.0, c.requires.count)

pub bounds-rows-h : goal.bounds-rows-h
bounds-rows-h c =
    let w = c.requires.first (c.in-Some.g, c.in-Some.h) (sym c.in-Some.ensures) in
    omega (arith, w.1, c.requires.count)

pub after_row-requires : goal.after_row-requires
after_row-requires c = λ x xs.
    let w = c.requires.first (c.in-Some.g, c.in-Some.h) (sym c.in-Some.ensures) in
    let first : c.as_slice-first.result.now ≡ get_or c.args.rows.now c.in-Some.g [] =
    c.as_slice-first.ensures ∙ get_or_read c.args.rows.now c.in-Some.g c.index-rows-g.result (omega (arith, w.0, c.requires.count)) c.index-rows-g.is [] in
    let second : c.as_slice-second.result.now ≡ get_or c.args.rows.now c.in-Some.h [] =
    c.as_slice-second.ensures ∙ get_or_read c.args.rows.now c.in-Some.h c.index-rows-h.result (omega (arith, w.1, c.requires.count)) c.index-rows-h.is [] in
    rw (first, second) (w.3 x (omega (arith, xs, ap length first, w.2)))

pub returns-in_ok-after_row-in-Some-clause-row : goal.returns-in_ok-after_row-in-Some-clause-row
returns-in_ok-after_row-in-Some-clause-row c =
    let w = c.requires.first (c.in-Some.g, c.in-Some.h) (sym c.in-Some.ensures) in
    let first : c.as_slice-first.result.now ≡ get_or c.args.rows.now c.in-Some.g [] =
    c.as_slice-first.ensures ∙ get_or_read c.args.rows.now c.in-Some.g c.index-rows-g.result (omega (arith, w.0, c.requires.count)) c.index-rows-g.is [] in
    let second : c.as_slice-second.result.now ≡ get_or c.args.rows.now c.in-Some.h [] =
    c.as_slice-second.ensures ∙ get_or_read c.args.rows.now c.in-Some.h c.index-rows-h.result (omega (arith, w.1, c.requires.count)) c.index-rows-h.is [] in
    inr (
      (c.in-Some.g, c.in-Some.h),
      sym c.in-Some.ensures,
      (rw (first, second) at c.in_ok-after_row-in-Some.ensures)
          ∙ after_by_places (get_or c.args.rows.now c.in-Some.h []) (get_or c.args.rows.now c.in-Some.g [])
          ∙ ap (λ n. map (λ (x : ℕ). get_or (get_or c.args.rows.now c.in-Some.h []) (get_or (get_or c.args.rows.now c.in-Some.g []) x 0) 0) (range_with_len 0 n)) w.2,
    )
