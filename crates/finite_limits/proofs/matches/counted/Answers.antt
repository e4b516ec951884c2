use Rattle.std.proofs.Common.{◌≡◌, ◌≤◌, ◌<◌, ◌+◌, ◌++◌, ◌∷◌, [], ℕ, List, map, length, get_or, set, eqb, sym, ap, ◌∙◌, subst, arith}
use Rattle.std.specs.List.{range_with_len}
use Rattle.std.proofs.lemmas.Grind.{get_or_default_zero}
use Rattle.std.proofs.lemmas.List.FromFn.{map-range_with_len_more}
use Rattle.finite_limits.specs.Kept.{passing}
use Rattle.finite_limits.proofs.Threads.{AreCounted, one_more_counted, all_counted, count_few}
use Rattle.finite_limits.proofs.matches.counted.Goals as goal

pub overflow_add-index_mut : goal.overflow_add-index_mut
overflow_add-index_mut c =
    let n = c.args.n.now in
    let within : get_or n c.loop-y.y 0 < c.args.values = c.requires.within c.loop-y.y (omega (arith, c.requires.long, c.loop-y-test.true)) in
    let few : get_or c.loop-y.counts.items (get_or n c.loop-y.y 0) 0 ≤ c.loop-y.y = count_few n c.args.values c.loop-y.y (get_or n c.loop-y.y 0) c.loop-y.counts.items within c.loop-y.invariant.counts in
    let here : get_or n c.loop-y.y 0 < length c.loop-y.counts.items = omega (arith, within, c.loop-y.invariant.counts.long) in
    let is : c.index_mut.result.now ≡ get_or c.loop-y.counts.items (get_or n c.loop-y.y 0) 0 = c.index_mut.ensures.value ∙ get_or_default_zero c.loop-y.counts.items (get_or n c.loop-y.y 0) c.index_mut.result.now here in
    omega (arith, few, is, c.loop-y-test.true, c.ranges.size.fits)

pub loop-y-preserved : goal.loop-y-preserved
loop-y-preserved c =
    let n = c.args.n.now in
    let y : ℕ = c.loop-y.y in
    let value : ℕ → ℕ = λ z. length (passing (λ w. eqb (get_or n w 0) (get_or n z 0)) z) in
    let within : get_or n c.loop-y.y 0 < c.args.values = c.requires.within c.loop-y.y (omega (arith, c.requires.long, c.loop-y-test.true)) in
    let here : get_or n c.loop-y.y 0 < length c.loop-y.counts.items = omega (arith, within, c.loop-y.invariant.counts.long) in
    let is : c.index_mut.result.now ≡ get_or c.loop-y.counts.items (get_or n y 0) 0 = c.index_mut.ensures.value ∙ get_or_default_zero c.loop-y.counts.items (get_or n y 0) c.index_mut.result.now here in
    let place : c.index.result.now ≡ value y =
    c.index.ensures ∙ get_or_default_zero c.loop-y.counts.items (get_or n y 0) c.index.result.now here ∙ c.loop-y.invariant.counts.each (get_or n y 0) within in
    record {
      places =
          c.in_ok-push.ensures.ok ∙ ap (λ (row : List ℕ). row ++ c.index.result.now ∷ []) c.loop-y.invariant.places
          ∙ ap (λ (k : ℕ). map value (range_with_len 0 y) ++ k ∷ []) place ∙ sym (map-range_with_len_more value 0 y y (omega arith));
      counts =
          subst (λ (m : ℕ). AreCounted n c.args.values (y + 1) (set c.loop-y.counts.items (get_or n y 0) (m + 1))) (sym is)
          (one_more_counted n c.args.values y c.loop-y.counts.items within c.loop-y.invariant.counts);
    }

pub returns-clause-counts : goal.returns-clause-counts
returns-clause-counts c =
    let all : c.loop-y.y ≡ length c.args.n.now = omega (arith, c.loop-y-test.false, c.loop-y.auto.y-end, c.requires.long) in
    all_counted c.args.n.now c.args.values c.loop-y.counts.items (subst (λ (y : ℕ). AreCounted c.args.n.now c.args.values y c.loop-y.counts.items) all c.loop-y.invariant.counts)
