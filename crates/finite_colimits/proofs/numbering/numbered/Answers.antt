use Rattle.std.proofs.Common.{◌≡◌, ◌<◌, ℕ, List, ◌++◌, ◌∷◌, [], length, get_or, sym, ap, ◌∙◌, ◌+◌, arith}
use Rattle.std.proofs.lemmas.Option.{get_or_from_slice_get}
use Rattle.finite_colimits.proofs.LabelSteps.{new_class, old_class, renamed}
use Rattle.finite_colimits.proofs.numbering.numbered.Goals as goal
use Rattle.finite_colimits.proofs.numbering.numbered.Goals.{then-label-y+in_ok-push+in_ok-push-2, else-label-y+in_ok-push-3}

pub loop-y-preserved : goal.loop-y-preserved
loop-y-preserved c =
    let l : List ℕ = c.args.labels.now in
    let q : List ℕ = c.loop-y.numbers in
    let r : List ℕ = c.loop-y.least in
    let below : c.loop-y.y < length c.args.labels.now = omega (arith, c.loop-y-test.true) in
    elim c.if-label-y.branch [
      | then-label-y+in_ok-push+in_ok-push-2 w ↦
          let own : get_or c.args.labels.now c.loop-y.y 0 ≡ c.loop-y.y = w.if-label-y.true in
          renamed l (c.loop-y.y + 1) (q ++ length r ∷ []) (r ++ c.loop-y.y ∷ []) c.if-label-y.numbers c.if-label-y.least
          (sym (w.numbers-is ∙ w.in_ok-push.ensures.ok ∙ ap (λ n. q ++ n ∷ []) w.len.ensures))
          (sym (w.least-is ∙ w.in_ok-push-2.ensures.ok ∙ ap (λ n. r ++ n ∷ []) own))
          (new_class l q r c.loop-y.y c.loop-y.invariant c.requires.low below own)
      | else-label-y+in_ok-push-3 w ↦
          let value : w.get-number.result.now ≡ get_or q (get_or l c.loop-y.y 0) 0 = sym (get_or_from_slice_get q (get_or l c.loop-y.y 0) w.get-number.result.now 0 w.get-number.ensures) in
          renamed l (c.loop-y.y + 1) (q ++ get_or q (get_or l c.loop-y.y 0) 0 ∷ []) r c.if-label-y.numbers c.if-label-y.least
          (sym (w.numbers-is ∙ w.in_ok-push-3.ensures.ok ∙ ap (λ n. q ++ n ∷ []) value))
          (sym w.least-is)
          (old_class l q r c.loop-y.y c.loop-y.invariant c.requires.low below w.if-label-y.false)
    ]
