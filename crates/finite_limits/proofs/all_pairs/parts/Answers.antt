use Rattle.std.proofs.Common.{◌≡◌, ◌++◌, ◌∷◌, [], ℕ, List, replicate, append_assoc, sym, ap, ◌∙◌, arith}
use Rattle.std.specs.List.{range_with_len}
use Rattle.std.proofs.lemmas.List.{replicate-append-replicate}
use Rattle.std.proofs.lemmas.List.FromFn.{length-range_with_len}
use Rattle.presheaf_core.proofs.Tables.{numbers_more}
use Rattle.finite_limits.specs.Pairs.{firsts, seconds}
use Rattle.finite_limits.proofs.PairNumbers.{firsts_more, seconds_more}
use Rattle.finite_limits.proofs.all_pairs.parts.Goals as goal

pub loop-y-preserved : goal.loop-y-preserved
loop-y-preserved c =
    let fibre : ℕ → List ℕ = λ _. range_with_len 0 c.args.b in
    let x : ℕ = c.loop-x.x in
    let y : ℕ = c.loop-y.y in
    record {
      first =
          c.in_ok-push.ensures.ok ∙ ap (λ (row : List ℕ). row ++ x ∷ []) c.loop-y.invariant.first ∙ append_assoc (firsts fibre x) (replicate y x) (x ∷ [])
          ∙ ap (λ (row : List ℕ). firsts fibre x ++ row) (replicate-append-replicate y 1 x);
      second =
          c.in_ok-push-2.ensures.ok ∙ ap (λ (row : List ℕ). row ++ y ∷ []) c.loop-y.invariant.second ∙ append_assoc (seconds fibre x) (range_with_len 0 y) (y ∷ [])
          ∙ ap (λ (row : List ℕ). seconds fibre x ++ row) (sym (numbers_more y));
    }

pub loop-x-preserved : goal.loop-x-preserved
loop-x-preserved c =
    let fibre : ℕ → List ℕ = λ _. range_with_len 0 c.args.b in
    let x : ℕ = c.loop-x.x in
    let all : c.loop-y.y ≡ c.args.b = omega (arith, c.loop-y-test.false, c.loop-y.auto.y-end) in
    record {
      first =
          c.loop-y.invariant.first ∙ ap (λ (n : ℕ). firsts fibre x ++ replicate n x) (all ∙ sym (length-range_with_len 0 c.args.b)) ∙ sym (firsts_more fibre x);
      second = c.loop-y.invariant.second ∙ ap (λ (n : ℕ). seconds fibre x ++ range_with_len 0 n) all ∙ sym (seconds_more fibre x);
    }
