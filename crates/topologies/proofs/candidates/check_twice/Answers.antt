use Rattle.std.proofs.Common.{not, sym, ◌∙◌, arith}
use Rattle.topologies.specs.Candidates.{covered, taken_twice}
use Rattle.topologies.proofs.TwiceRows.{mask-at, found-below}
use Rattle.topologies.proofs.candidates.check_twice.Goals as goal

pub taken_twice-requires-clause-object : goal.taken_twice-requires-clause-object
taken_twice-requires-clause-object c =
    found-below (λ d. not (covered c.args.cat.now c.args.sieves.now d (taken_twice c.args.cat.now c.args.least.now d))) c.args.cat.now.objects c.in-Some.c (sym c.in-Some.ensures)

pub bounds-least-c : goal.bounds-least-c
bounds-least-c c =
    let low = found-below (λ d. not (covered c.args.cat.now c.args.sieves.now d (taken_twice c.args.cat.now c.args.least.now d))) c.args.cat.now.objects c.in-Some.c (sym c.in-Some.ensures) in
    omega (arith, c.requires.0, low)

pub returns-in_ok-row_of-in-Some-2-clause-fault : goal.returns-in_ok-row_of-in-Some-2-clause-fault
returns-in_ok-row_of-in-Some-2-clause-fault c =
    let low = found-below (λ d. not (covered c.args.cat.now c.args.sieves.now d (taken_twice c.args.cat.now c.args.least.now d))) c.args.cat.now.objects c.in-Some.c (sym c.in-Some.ensures) in
    (sym c.in-Some.ensures, c.in_ok-row_of-in-Some.ensures ∙ mask-at c.args.least.now c.in-Some.c _ (omega (arith, c.requires.0, low)), c.in_ok-row_of-in-Some-2.ensures ∙ c.taken_twice.ensures)
