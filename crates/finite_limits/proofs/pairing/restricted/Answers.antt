use Rattle.std.proofs.Common.{◌++◌, ◌∷◌, [], ℕ, List, sym, ap, ◌∙◌, arith}
use Rattle.std.proofs.lemmas.List.FromFn.{map-range_with_len_more}
use Rattle.finite_limits.specs.Pairs.{restricted_pair}
use Rattle.finite_limits.proofs.pairing.restricted.Goals as goal

pub loop-t-preserved : goal.loop-t-preserved
loop-t-preserved c =
    let value : ℕ → ℕ = restricted_pair c.args.first.now c.args.second.now c.args.along_x.now c.args.along_y.now c.args.starts.now c.args.places.now in
    c.in_ok-push.ensures.ok ∙ ap (λ (row : List ℕ). row ++ value c.loop-t.t ∷ []) c.loop-t.invariant ∙ sym (map-range_with_len_more value 0 c.loop-t.t c.loop-t.t (omega arith))
