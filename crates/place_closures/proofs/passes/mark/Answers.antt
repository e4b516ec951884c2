use Rattle.std.proofs.Common.{true, length, sym, ap, ◌∙◌, arith, refl}
use Rattle.std.proofs.lemmas.List.{length-set}
use Rattle.place_closures.proofs.PassSteps.{drop_has, mark-step, mark-end}
use Rattle.place_closures.proofs.passes.mark.Goals as goal

pub loop-j-init : goal.loop-j-init
loop-j-init c = record { places = refl; left = λ j. refl }

pub set-requires : goal.set-requires
set-requires c =
    let h = c.requires _ (drop_has c.args.row.now c.loop-j.j-index (omega (arith, c.loop-j-test.true))) in
    omega (arith, h, c.loop-j.invariant.places)

pub loop-j-preserved : goal.loop-j-preserved
loop-j-preserved c =
    let h = c.requires _ (drop_has c.args.row.now c.loop-j.j-index (omega (arith, c.loop-j-test.true))) in
    record {
      places = ap length c.set.ensures ∙ length-set c.loop-j.set _ true ∙ c.loop-j.invariant.places;
      left = λ j. mark-step c.loop-j.set c.set.new.self c.args.row.now c.loop-j.j-index j c.loop-j-test.true (omega (arith, h, c.loop-j.invariant.places)) c.set.ensures ∙ c.loop-j.invariant.left j;
    }

pub returns-clause-places : goal.returns-clause-places
returns-clause-places c = c.loop-j.invariant.places

pub returns-clause-marked : goal.returns-clause-marked
returns-clause-marked c = λ j. sym (mark-end c.loop-j.set c.args.row.now c.loop-j.j-index j (omega (arith, c.loop-j-test.false))) ∙ c.loop-j.invariant.left j
