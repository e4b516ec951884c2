use Rattle.std.proofs.Common.{false, get_or, sym, ◌∙◌, arith, refl}
use Rattle.place_closures.proofs.PassSteps.{drop_has, all-step, all-end}
use Rattle.place_closures.proofs.passes.has_all.Goals as goal

pub loop-j-init : goal.loop-j-init
loop-j-init c = refl

pub get-requires : goal.get-requires
get-requires c = c.requires _ (drop_has c.args.row.now c.loop-j.j-index (omega (arith, c.loop-j-test.true)))

pub loop-j-preserved : goal.loop-j-preserved
loop-j-preserved c = all-step (λ j. get_or c.args.set.now j false) c.args.row.now c.loop-j.j-index c.loop-j-test.true (sym c.if-not-get.ensures) ∙ c.loop-j.invariant

pub returns : goal.returns
returns c = sym (all-end (λ j. get_or c.args.set.now j false) c.args.row.now c.loop-j.j-index (omega (arith, c.loop-j-test.false))) ∙ c.loop-j.invariant
