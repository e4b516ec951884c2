use Rattle.std.proofs.Common.{◌≡◌, ◌≤◌, ℕ, Bool, true, false, ◌++◌, ◌∷◌, [], length, get_or, sym, ap, ◌∙◌, ◌+◌, arith}
use Rattle.finite_limits.specs.Kept.{passing, passing_before}
use Rattle.finite_limits.proofs.KeptNumbers.{passing_few, passing_kept, one_more_passes, one_more_fails, before_more, kept_moved}
use Rattle.finite_limits.proofs.kept.kept.Goals as goal
use Rattle.finite_limits.proofs.kept.kept.Goals.{then-get+in_ok-push-2, else-get}

pub overflow_cast-len : goal.overflow_cast-len
overflow_cast-len c =
    let test : ℕ → Bool = λ x. get_or c.args.marks.now x false in
    let few : length (passing test c.loop-x.x) ≤ c.loop-x.x = passing_few test c.loop-x.x in
    let long : length c.loop-x.elements ≡ length (passing test c.loop-x.x) = ap length c.loop-x.invariant.elements in
    omega (arith, c.len.ensures)

pub loop-x-preserved : goal.loop-x-preserved
loop-x-preserved c =
    let test : ℕ → Bool = λ x. get_or c.args.marks.now x false in
    let ranks : c.push.new.self ≡ passing_before test (c.loop-x.x + 1) =
    c.in_ok-push.ensures.ok ∙ ap (λ row. row ++ c.len.result ∷ []) c.loop-x.invariant.ranks
    ∙ ap (λ n. passing_before test c.loop-x.x ++ n ∷ []) (c.len.ensures ∙ ap length c.loop-x.invariant.elements)
    ∙ sym (before_more test c.loop-x.x) in
    elim c.if-get.branch [
      | then-get+in_ok-push-2 w ↦ record {
        elements =
            w.elements-is ∙ w.in_ok-push-2.ensures.ok ∙ ap (λ row. row ++ c.loop-x.x ∷ []) c.loop-x.invariant.elements
            ∙ sym (one_more_passes test c.loop-x.x (sym c.get.ensures ∙ w.if-get.true));
        ranks = ranks;
      }
      | else-get w ↦ record {
        elements = w.elements-is ∙ c.loop-x.invariant.elements ∙ sym (one_more_fails test c.loop-x.x (sym c.get.ensures ∙ w.if-get.false));
        ranks = ranks;
      }
    ]

pub returns : goal.returns
returns c =
    let test : ℕ → Bool = λ x. get_or c.args.marks.now x false in
    let all : c.loop-x.x ≡ c.args.size = omega (arith, c.loop-x-test.false, c.loop-x.auto.x-end) in
    kept_moved (λ x. test x ≡ true) c.loop-x.x c.args.size _ _ c.loop-x.elements c.loop-x.ranks all (sym c.loop-x.invariant.elements) (sym c.loop-x.invariant.ranks)
    (passing_kept test c.loop-x.x (λ x. test x ≡ true) (λ _ _ e. e) (λ _ _ e. e))
