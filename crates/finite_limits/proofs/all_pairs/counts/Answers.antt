use Rattle.std.proofs.Common.{◌≡◌, ◌*◌, ◌++◌, ◌∷◌, [], ℕ, map, sym, ap, ◌∙◌, arith}
use Rattle.std.specs.List.{range_with_len}
use Rattle.std.proofs.lemmas.List.FromFn.{map-range_with_len_more}
use Rattle.topos_model.specs.Laws.{size}
use Rattle.finite_limits.proofs.all_pairs.counts.Goals as goal

pub loop-c-preserved : goal.loop-c-preserved
loop-c-preserved c =
    let value : ℕ → ℕ = λ d. size c.args.x.now d * size c.args.y.now d in
    let is : c.size.result * c.size-in-loop-c.result ≡ value c.loop-c.c = ap (λ n. n * c.size-in-loop-c.result) c.size.ensures ∙ ap (λ n. size c.args.x.now c.loop-c.c * n) c.size-in-loop-c.ensures in
    c.in_ok-push.ensures.ok ∙ ap (λ row. row ++ (c.size.result * c.size-in-loop-c.result) ∷ []) c.loop-c.invariant
    ∙ ap (λ n. map value (range_with_len 0 c.loop-c.c) ++ n ∷ []) is ∙ sym (map-range_with_len_more value 0 c.loop-c.c c.loop-c.c (omega arith))
