use Rattle.std.proofs.Common.{◌<◌, sym, ap, ◌∙◌, w64, get_or, arith, length}
use Rattle.std.proofs.lemmas.Nat.Bits.{bit_at-trailing_zeros}
use Rattle.fin_category.specs.Masks.{members}
use Rattle.fin_category.proofs.MaskWords.{members-first, no-members}
use Rattle.fin_category.proofs.arrow_iter.ArrowIterIterator.next.Goals as goal

pub returns-then-word-ne0-clause-steps : goal.returns-then-word-ne0-clause-steps
returns-then-word-ne0-clause-steps c =
    let e = ap length c.loop-i.invariant.same in
    let some : 0 < get_or c.loop-i.self.words c.loop-i.i 0 = omega (arith, c.if-word-ne0.true) in
    let t = bit_at-trailing_zeros w64 (get_or c.loop-i.self.words c.loop-i.i 0) some (omega arith) in
    sym (ap members c.loop-i.invariant.same) ∙ members-first c.loop-i.self.words c.loop-i.i _ c.loop-i-test.true t.0 (omega (arith, e)) c.loop-i.invariant.none t.1 t.2

pub returns-then-word-ne0-clause-goes : goal.returns-then-word-ne0-clause-goes
returns-then-word-ne0-clause-goes c =
    let e = ap length (returns-then-word-ne0-clause-steps c) in
    record { on = λ _. (tt, tt, omega (arith, e)); keeps = tt; rests = λ _. tt }

pub returns-clause-steps : goal.returns-clause-steps
returns-clause-steps c =
    let e = no-members c.loop-i.self.words (λ j low. c.loop-i.invariant.none j (omega arith)) in
    (sym (ap members c.loop-i.invariant.same) ∙ e, e)
