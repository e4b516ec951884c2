use Rattle.std.proofs.Common.{◌≡◌, ◌+◌, ℕ, List, get_or, sym, ap, ◌∙◌, subst}
use Rattle.topos_model.specs.presheaves.Maps.{component, apply}
use Rattle.finite_limits.specs.Kept.{AreKept}
use Rattle.finite_limits.proofs.KeptNumbers.{kept_alike}
use Rattle.finite_limits.proofs.PartPresheaf.{one_more_kept_row, kept_rows_moved}
use Rattle.finite_limits.proofs.agreement.agreeing_rows.Goals as goal

pub loop-c-preserved : goal.loop-c-preserved
loop-c-preserved c =
    let agree : ℕ → ℕ → Type 0 = λ d x. apply c.args.m.now d x ≡ apply c.args.n.now d x in
    let first : c.row.result.now ≡ component c.args.m.now c.loop-c.c = c.row.ensures in
    let second : c.row-in-loop-c.result.now ≡ component c.args.n.now c.loop-c.c = c.row-in-loop-c.ensures in
    let here : AreKept (agree c.loop-c.c) (get_or c.args.x.now.sizes c.loop-c.c 0) c.in_ok-element.element c.in_ok-element.rank =
    subst (λ (s : ℕ). AreKept (agree c.loop-c.c) s c.in_ok-element.element c.in_ok-element.rank) c.size.ensures
    (kept_alike (λ x. get_or c.row.result.now x 0 ≡ get_or c.row-in-loop-c.result.now x 0) (agree c.loop-c.c) c.size.result c.in_ok-element.element c.in_ok-element.rank
    (λ x _ e. sym (ap (λ (s : List ℕ). get_or s x 0) first) ∙ e ∙ ap (λ (s : List ℕ). get_or s x 0) second)
    (λ x _ e. ap (λ (s : List ℕ). get_or s x 0) first ∙ e ∙ sym (ap (λ (s : List ℕ). get_or s x 0) second)) c.in_ok-element.ensures) in
    kept_rows_moved agree (c.loop-c.c + 1) c.args.x.now.sizes _ _ c.push.new.self c.push-in-loop-c.new.self (sym c.in_ok-push.ensures.ok) (sym c.in_ok-push-2.ensures.ok)
    (one_more_kept_row agree c.loop-c.c c.args.x.now.sizes c.loop-c.elements c.loop-c.ranks c.in_ok-element.element c.in_ok-element.rank c.loop-c.invariant here)
