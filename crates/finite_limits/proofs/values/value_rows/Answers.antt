use Rattle.std.proofs.Common.{◌<◌, ◌+◌, ℕ, List, length, get_or, sym, ap, ◌∙◌, subst, arith}
use Rattle.topos_model.specs.Laws.{size}
use Rattle.topos_model.specs.presheaves.Maps.{component, apply}
use Rattle.finite_limits.specs.Kept.{AreKept, IsValue}
use Rattle.finite_limits.proofs.PartPresheaf.{one_more_kept_row, kept_rows_moved}
use Rattle.finite_limits.proofs.values.value_rows.Goals as goal

pub values-requires : goal.values-requires
values-requires c = λ x h.
    let object : c.loop-c.c < c.args.cat.now.objects = omega (arith, c.loop-c-test.true, c.objects-c-end.ensures.count) in
    let low : x < size c.args.x.now c.loop-c.c = subst (λ (s : ℕ). x < s) (ap length c.row.ensures ∙ c.requires.natural.total c.loop-c.c object) h in
    subst (λ (s : List ℕ). get_or s x 0 < c.size.result) (sym c.row.ensures)
    (subst (λ (s : ℕ). apply c.args.m.now c.loop-c.c x < s) (sym c.size.ensures) (c.requires.natural.within c.loop-c.c x object low))

pub loop-c-preserved : goal.loop-c-preserved
loop-c-preserved c =
    let value : ℕ → ℕ → Type 0 = λ d y. IsValue (component c.args.m.now d) y in
    let here : AreKept (value c.loop-c.c) (get_or c.args.y.now.sizes c.loop-c.c 0) c.in_ok-element.element c.in_ok-element.rank =
    subst (λ (s : ℕ). AreKept (value c.loop-c.c) s c.in_ok-element.element c.in_ok-element.rank) c.size.ensures
    (subst (λ (s : List ℕ). AreKept (IsValue s) c.size.result c.in_ok-element.element c.in_ok-element.rank) c.row.ensures c.in_ok-element.ensures) in
    kept_rows_moved value (c.loop-c.c + 1) c.args.y.now.sizes _ _ c.push.new.self c.push-in-loop-c.new.self (sym c.in_ok-push.ensures.ok) (sym c.in_ok-push-2.ensures.ok)
    (one_more_kept_row value c.loop-c.c c.args.y.now.sizes c.loop-c.elements c.loop-c.ranks c.in_ok-element.element c.in_ok-element.rank c.loop-c.invariant here)
