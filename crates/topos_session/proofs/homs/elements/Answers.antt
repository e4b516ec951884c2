use Rattle.std.proofs.Common.{◌+◌, get_or, sum, ap, ◌∙◌, arith}
use Rattle.std.proofs.lemmas.List.{take_all}
use Rattle.topos_session.proofs.ShownFunctors.{sum_more}
use Rattle.topos_session.proofs.homs.elements.Goals as goal

pub loop-size-preserved : goal.loop-size-preserved
loop-size-preserved c =
    let i = c.loop-size.size-index in
    record {
      sum = ap (λ n. n + get_or c.args.sizes.now i 0) c.loop-size.invariant.sum ∙ sum_more c.args.sizes.now i c.loop-size-test.true;
      few = omega (arith, c.loop-size.invariant.few, c.type_inv.sizes);
    }

pub returns-clause-elements : goal.returns-clause-elements
returns-clause-elements c = c.loop-size.invariant.sum ∙ ap sum (take_all c.loop-size.size-index c.args.sizes.now c.loop-size-test.false)

pub returns-clause-few : goal.returns-clause-few
returns-clause-few c = omega (arith, c.loop-size.invariant.few)
