use Rattle.std.proofs.Common.{ℕ, not, Option, sym, ap, ◌∙◌, arith}
use Rattle.finite_lists.specs.First.{some_if}
use Rattle.sieve_table.specs.Sieves.{sieve_arrows}
use Rattle.topologies.specs.Candidates.{covered, taken_twice}
use Rattle.topologies.proofs.TwiceRows.{range-none, range-some, range-end}
use Rattle.topologies.proofs.candidates.thin.Goals as goal

pub returns-then-not-is_covered : goal.returns-then-not-is_covered
returns-then-not-is_covered c =
    let k = c.args.cat.now in
    let ls = c.args.sieves.now in
    let t : ℕ → Option ℕ = λ d. some_if (not (covered k ls d (taken_twice k c.args.least.now d))) d in
    let e = sym (ap (λ d. covered k ls d (sieve_arrows c.new.result)) c.new.ensures.at ∙ ap (covered k ls c.loop-c.c) (c.new.ensures.arrows ∙ c.taken_twice.ensures)) ∙ sym c.is_covered.ensures ∙ c.if-not-is_covered.true in
    sym (range-some t c.args.cat.now.objects c.loop-c.c c.loop-c.c (omega (arith, c.objects-c-end.ensures.count, c.loop-c-test.true)) (ap (λ b. some_if (not b) c.loop-c.c) e)) ∙ c.loop-c.invariant

pub loop-c-preserved : goal.loop-c-preserved
loop-c-preserved c =
    let k = c.args.cat.now in
    let ls = c.args.sieves.now in
    let t : ℕ → Option ℕ = λ d. some_if (not (covered k ls d (taken_twice k c.args.least.now d))) d in
    let e = sym (ap (λ d. covered k ls d (sieve_arrows c.new.result)) c.new.ensures.at ∙ ap (covered k ls c.loop-c.c) (c.new.ensures.arrows ∙ c.taken_twice.ensures)) ∙ sym c.is_covered.ensures ∙ c.if-not-is_covered.false in
    range-none t c.args.cat.now.objects c.loop-c.c (omega (arith, c.objects-c-end.ensures.count, c.loop-c-test.true)) (ap (λ b. some_if (not b) c.loop-c.c) e) ∙ c.loop-c.invariant

pub returns : goal.returns
returns c =
    let k = c.args.cat.now in
    let t : ℕ → Option ℕ = λ d. some_if (not (covered k c.args.sieves.now d (taken_twice k c.args.least.now d))) d in
    sym (range-end t c.args.cat.now.objects c.loop-c.c (omega (arith, c.objects-c-end.ensures.count, c.loop-c-test.false))) ∙ c.loop-c.invariant
