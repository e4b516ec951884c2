use Rattle.std.proofs.Common.{ℕ, ◌++◌, [], ◌∷◌, List, get_or, ap, sym, ◌∙◌, arith}
use Rattle.std.proofs.lemmas.List.FromFn.{map-range_with_len_more}
use Rattle.exponentials.proofs.tests.entries.Goals as goal

pub loop-x-preserved : goal.loop-x-preserved
loop-x-preserved c =
    let f : ℕ → ℕ × ℕ = λ x. (x, get_or c.args.row.now x 0) in
    c.in_ok-push.ensures.ok ∙ ap (λ (l : List (ℕ × ℕ)). l ++ f c.loop-x.x ∷ []) c.loop-x.invariant ∙ sym (map-range_with_len_more f 0 c.loop-x.x c.loop-x.x (omega arith))
