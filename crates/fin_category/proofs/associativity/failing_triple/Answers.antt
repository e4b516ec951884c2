use Rattle.std.proofs.Common.{◌≡◌, ◌<◌, ◌≤◌, length, get_or, refl, sym, ap, ◌∙◌, zero-add, arith}
use Rattle.std.proofs.lemmas.List.FromFn.{length-range_with_len, get_or-range_with_len}
use Rattle.topos_model.specs.categories.Category.{arrows}
use Rattle.fin_category.specs.Associativity.{triple_from, failing_triple}
use Rattle.finite_lists.proofs.FirstAnswers.{first_left-none, first_left-some, first_left-end}
use Rattle.fin_category.proofs.associativity.failing_triple.Goals as goal

pub loop-h-init : goal.loop-h-init
unfolding failing_triple
loop-h-init c = refl

pub returns-in-Some : goal.returns-in-Some
returns-in-Some c =
    let k = c.args.tables.now in
    let low : c.loop-h.h < length k.ends = omega (arith, c.arrows-h-end.ensures.count) in
    let at : get_or (arrows k) c.loop-h.h 0 ≡ c.loop-h.h = get_or-range_with_len 0 (length k.ends) c.loop-h.h 0 low ∙ zero-add c.loop-h.h in
    sym (c.loop-h.invariant ∙ first_left-some (triple_from k) (arrows k) c.loop-h.h 0 c.in-Some.triple (rw length-range_with_len low) (ap (triple_from k) at ∙ sym c.in-Some.ensures))

pub loop-h-preserved : goal.loop-h-preserved
loop-h-preserved c =
    let k = c.args.tables.now in
    let low : c.loop-h.h < length k.ends = omega (arith, c.arrows-h-end.ensures.count) in
    let at : get_or (arrows k) c.loop-h.h 0 ≡ c.loop-h.h = get_or-range_with_len 0 (length k.ends) c.loop-h.h 0 low ∙ zero-add c.loop-h.h in
    c.loop-h.invariant ∙ first_left-none (triple_from k) (arrows k) c.loop-h.h 0 (rw length-range_with_len low) (ap (triple_from k) at ∙ sym c.in_default.ensures)

pub returns : goal.returns
returns c =
    let k = c.args.tables.now in
    let high : length k.ends ≤ c.loop-h.h = omega (arith, c.arrows-h-end.ensures.count) in
    sym (c.loop-h.invariant ∙ first_left-end (triple_from k) (arrows k) c.loop-h.h (rw length-range_with_len high))
