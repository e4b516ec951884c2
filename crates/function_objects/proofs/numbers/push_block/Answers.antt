use Rattle.std.proofs.Common.{◌≡◌, ◌+◌, ◌++◌, ◌∷◌, [], ℕ, List, map, get_or, sym, ap, ◌∙◌, arith}
use Rattle.std.specs.List.{range_with_len}
use Rattle.std.proofs.lemmas.List.{append_assoc, get_or_default}
use Rattle.std.proofs.lemmas.List.FromFn.{map-range_with_len_more}
use Rattle.function_objects.proofs.numbers.push_block.Goals as goal

pub loop-w-preserved : goal.loop-w-preserved
loop-w-preserved c =
    let read : ℕ → ℕ = λ w. get_or c.args.row.now (c.args.start + w) 0 in
    c.in_ok-push.ensures.ok ∙ ap (λ (l : List ℕ). l ++ read c.loop-w.w ∷ []) c.loop-w.invariant ∙ append_assoc c.args.out.now (map read (range_with_len 0 c.loop-w.w)) (read c.loop-w.w ∷ [])
    ∙ ap (λ (l : List ℕ). c.args.out.now ++ l) (sym (map-range_with_len_more read 0 c.loop-w.w c.loop-w.w (omega arith)))
