use Rattle.std.proofs.Common.{◌≡◌, ◌<◌, ◌^◌, ◌++◌, ◌∷◌, [], ℕ, List, map, length, sym, ap, ◌∙◌, subst, arith}
use Rattle.std.specs.List.{range_with_len}
use Rattle.std.proofs.lemmas.List.FromFn.{map-range_with_len_more}
use Rattle.topos_model.specs.Laws.{size}
use Rattle.topos_model.specs.presheaves.Maps.{component}
use Rattle.finite_limits.specs.Pairs.{firsts, seconds, starts}
use Rattle.finite_limits.specs.Matches.{matching, match_fibres}
use Rattle.finite_limits.proofs.PullbackPairs.{values_within, threads_moved, matching_moved}
use Rattle.finite_limits.proofs.matches.matches.Goals as goal

pub threads-requires-clause-within : goal.threads-requires-clause-within
threads-requires-clause-within c =
    let object : c.loop-c.c < c.args.cat.now.objects = omega (arith, c.loop-c-test.true, c.objects-c-end.ensures.count) in
    values_within c.args.cat.now c.args.y.now c.args.z.now c.args.n.now c.requires.second c.loop-c.c object c.row-to.result.now c.size-in-loop-c.result c.row-to.ensures c.size-in-loop-c.ensures

pub matched-requires-clause-within : goal.matched-requires-clause-within
matched-requires-clause-within c =
    let object : c.loop-c.c < c.args.cat.now.objects = omega (arith, c.loop-c-test.true, c.objects-c-end.ensures.count) in
    let many : length c.deref.result.now ≡ size c.args.z.now c.loop-c.c = ap length c.deref.ensures.value ∙ c.in_ok-heads.ensures.heads_long ∙ c.size-in-loop-c.ensures in
    values_within c.args.cat.now c.args.x.now c.args.z.now c.args.m.now c.requires.first c.loop-c.c object c.row.result.now (length c.deref.result.now) c.row.ensures many

pub matched-requires-clause-threads : goal.matched-requires-clause-threads
matched-requires-clause-threads c =
    threads_moved c.row-to.result.now c.size-in-loop-c.result c.in_ok-heads.heads.items c.in_ok-heads.next.items c.deref.result.now c.deref-in-loop-c.result.now c.deref.ensures.value c.deref-in-loop-c.ensures.value c.in_ok-heads.ensures

pub matched-requires-clause-few : goal.matched-requires-clause-few
matched-requires-clause-few c =
    let object : c.loop-c.c < c.args.cat.now.objects = omega (arith, c.loop-c-test.true, c.objects-c-end.ensures.count) in
    subst (λ (k : ℕ). k < 2 ^ 32)
    (sym (matching_moved (λ fibre a. length (seconds fibre a)) c.row.result.now c.row-to.result.now c.size-in-loop-c-2.result (component c.args.m.now c.loop-c.c) (component c.args.n.now c.loop-c.c) (size c.args.x.now c.loop-c.c)
    c.row.ensures c.row-to.ensures c.size-in-loop-c-2.ensures)) (c.requires.few c.loop-c.c object)

pub loop-c-preserved : goal.loop-c-preserved
loop-c-preserved c =
    let d : ℕ = c.loop-c.c in
    let m = c.args.m.now in
    let n = c.args.n.now in
    let first : ℕ → List ℕ = λ e. firsts (match_fibres m n e) (size c.args.x.now e) in
    let second : ℕ → List ℕ = λ e. seconds (match_fibres m n e) (size c.args.x.now e) in
    let start : ℕ → List ℕ = λ e. starts (match_fibres m n e) (size c.args.x.now e) in
    let moved : (parts : (ℕ → List ℕ) → ℕ → List ℕ) → parts (matching c.row.result.now c.row-to.result.now) c.size-in-loop-c-2.result ≡ parts (match_fibres m n d) (size c.args.x.now d) =
    λ parts. matching_moved parts c.row.result.now c.row-to.result.now c.size-in-loop-c-2.result (component m d) (component n d) (size c.args.x.now d) c.row.ensures c.row-to.ensures c.size-in-loop-c-2.ensures in
    record {
      first =
          c.in_ok-push.ensures.ok ∙ ap (λ (rows : List (List ℕ)). rows ++ c.in_ok-left.left ∷ []) c.loop-c.invariant.first
          ∙ ap (λ (row : List ℕ). map first (range_with_len 0 d) ++ row ∷ []) (c.in_ok-left.ensures.first ∙ moved firsts)
          ∙ sym (map-range_with_len_more first 0 d d (omega arith));
      second =
          c.in_ok-push-2.ensures.ok ∙ ap (λ (rows : List (List ℕ)). rows ++ c.in_ok-left.right ∷ []) c.loop-c.invariant.second
          ∙ ap (λ (row : List ℕ). map second (range_with_len 0 d) ++ row ∷ []) (c.in_ok-left.ensures.second ∙ moved seconds)
          ∙ sym (map-range_with_len_more second 0 d d (omega arith));
      starts =
          c.in_ok-push-3.ensures.ok ∙ ap (λ (rows : List (List ℕ)). rows ++ c.in_ok-left.start ∷ []) c.loop-c.invariant.starts
          ∙ ap (λ (row : List ℕ). map start (range_with_len 0 d) ++ row ∷ []) (c.in_ok-left.ensures.starts ∙ moved starts)
          ∙ sym (map-range_with_len_more start 0 d d (omega arith));
    }
