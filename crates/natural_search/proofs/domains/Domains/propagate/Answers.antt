use Rattle.std.proofs.Common.{◌≡◌, ℕ, ◌%◌, true, false, List, get_or, refl, sym, subst, arith}
use Rattle.natural_search.specs.Domains.{AllFit, Narrows}
use Rattle.natural_search.proofs.Narrowing.{narrows_refl, narrows_then, residue_of}
use Rattle.natural_search.proofs.ResidueBits.{sole_residue}
use Rattle.natural_search.proofs.domains.Domains.propagate.Goals as goal
use Rattle.natural_search.proofs.domains.Domains.propagate.Goals.{in-Some+in_ok-narrow_below+else-not-branch+in_ok-narrow_above+else-not-branch-2, in_default}

pub changes-init : goal.changes-init
changes-init c = narrows_refl (AllFit c.args.along.now c.args.squares.now) c.args.self.now c.requires.whole

pub returns-then-not-branch : goal.returns-then-not-branch
returns-then-not-branch c =
    let fit = AllFit c.args.along.now c.args.squares.now in
    narrows_then fit fit c.args.self.now c.changes.self c.narrow_below.new.self c.in_ok-narrow_below.field-0 false c.changes.invariant c.in_ok-narrow_below.ensures (λ values good all. good) c.if-not-branch.true

pub returns-then-not-branch-2 : goal.returns-then-not-branch-2
returns-then-not-branch-2 c =
    let fit = AllFit c.args.along.now c.args.squares.now in
    let place = c.index.result.now.place in
    let both : List ℕ → Type 0 = λ values. fit values × (get_or values place 0 % 64 ≡ c.in-Some.residue) in
    narrows_then fit both c.args.self.now c.changes.self c.narrow_above.new.self false false c.changes.invariant
    (narrows_then both both c.changes.self c.narrow_below.new.self c.narrow_above.new.self c.in_ok-narrow_above.field-0 false
    (narrows_then both fit c.changes.self c.changes.self c.narrow_below.new.self c.in_ok-narrow_below.field-0 true (narrows_refl both c.changes.self c.changes.invariant.extends.whole) c.in_ok-narrow_below.ensures (λ values good all. good.0) c.if-not-branch.false)
    c.in_ok-narrow_above.ensures (λ values good all. good) c.if-not-branch-2.true)
    (λ values good all. (good, residue_of c.changes.self place c.index.result.now c.changes.index c.in-Some.residue c.index-in-changes.result.now c.changes.invariant.extends.whole (omega (arith, c.if-len-index.false, c.len.ensures)) c.index.ensures refl c.index-in-changes.ensures (λ v. sole_residue c.index-in-changes.result.now c.in-Some.residue v c.in-Some.ensures.some.1) values all))
    refl

pub changes-preserved : goal.changes-preserved
changes-preserved c =
    let fit = AllFit c.args.along.now c.args.squares.now in
    let place = c.index.result.now.place in
    elim c.match-sole.branch [
      | in-Some+in_ok-narrow_below+else-not-branch+in_ok-narrow_above+else-not-branch-2 w ↦
          (let both : List ℕ → Type 0 = λ values. fit values × (get_or values place 0 % 64 ≡ w.in-Some.residue) in
          subst (λ d. Narrows fit c.args.self.now d true) (sym w.self-is)
          (narrows_then fit both c.args.self.now c.changes.self w.narrow_above.new.self true true c.changes.invariant
          (narrows_then both both c.changes.self w.narrow_below.new.self w.narrow_above.new.self w.in_ok-narrow_above.field-0 true
          (narrows_then both fit c.changes.self c.changes.self w.narrow_below.new.self w.in_ok-narrow_below.field-0 true (narrows_refl both c.changes.self c.changes.invariant.extends.whole) w.in_ok-narrow_below.ensures (λ values good all. good.0) w.if-not-branch.false)
          w.in_ok-narrow_above.ensures (λ values good all. good) w.if-not-branch-2.false)
          (λ values good all. (good, residue_of c.changes.self place c.index.result.now c.changes.index w.in-Some.residue c.index-in-changes.result.now c.changes.invariant.extends.whole (omega (arith, c.if-len-index.false, c.len.ensures)) c.index.ensures refl c.index-in-changes.ensures (λ v. sole_residue c.index-in-changes.result.now w.in-Some.residue v w.in-Some.ensures.some.1) values all))
          refl))
      | in_default w ↦ subst (λ d. Narrows fit c.args.self.now d true) (sym w.self-is) c.changes.invariant
    ]
