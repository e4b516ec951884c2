use Rattle.std.proofs.Common.{◌*◌, ◌++◌, ◌∷◌, [], ℕ, List, sym, ap, ◌∙◌}
use Rattle.std.specs.List.{range_with_len}
use Rattle.finite_limits.specs.Pairs.{starts}
use Rattle.finite_limits.proofs.PairNumbers.{starts_more}
use Rattle.finite_limits.proofs.ProductPairs.{whole_long}
use Rattle.finite_limits.proofs.all_pairs.multiples.Goals as goal

pub loop-x-preserved : goal.loop-x-preserved
loop-x-preserved c =
    let fibre : ℕ → List ℕ = λ _. range_with_len 0 c.args.b in
    c.in_ok-push.ensures.ok ∙ ap (λ (row : List ℕ). row ++ (c.loop-x.x * c.args.b) ∷ []) c.loop-x.invariant
    ∙ ap (λ (n : ℕ). starts fibre c.loop-x.x ++ n ∷ []) (sym (whole_long c.args.b c.loop-x.x)) ∙ sym (starts_more fibre c.loop-x.x)
