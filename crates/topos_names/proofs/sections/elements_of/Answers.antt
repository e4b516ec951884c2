use Rattle.std.proofs.Common.{◌∙◌, ap, sym}
use Rattle.std.proofs.lemmas.Result.{err_from_is_err_and}
use Rattle.topos_text.specs.StatementNames as names
use Rattle.topos_text.specs.Tokens.{written}
use Rattle.topos_names.specs.Spaces.{limits}
use Rattle.topos_names.proofs.Changes.{left, left-goes_on, left-stops, left-ends}
use Rattle.topos_names.proofs.sections.elements_of.Goals as goal

pub loop-x-init : goal.loop-x-init
loop-x-init c = λ s. ap (λ n. left (names.with_element limits s) written n c.args.xs.now 0) (sym c.new-names.ensures)

pub loop-x-preserved : goal.loop-x-preserved
loop-x-preserved c = λ s. c.loop-x.invariant s ∙ left-goes_on (names.with_element limits s) written c.loop-x.names c.args.xs.now c.loop-x.x-index _ c.loop-x-test.true c.add_element.new.names (c.in_ok-add_element.ensures.ok s)

pub returns-in_err-add_element-clause-fault : goal.returns-in_err-add_element-clause-fault
returns-in_err-add_element-clause-fault c =
    let p = err_from_is_err_and c.from_residual.result c.from_residual.ensures.1 in
    λ s. rw (p.1, p.2) (λ fault e. c.loop-x.invariant s ∙ left-stops (names.with_element limits s) written c.loop-x.names c.args.xs.now c.loop-x.x-index _ c.loop-x-test.true fault (c.in_err-add_element.ensures.fault s fault e))

pub returns-clause-ok : goal.returns-clause-ok
returns-clause-ok c = λ s. c.loop-x.invariant s ∙ left-ends (names.with_element limits s) written c.loop-x.names c.args.xs.now c.loop-x.x-index c.loop-x-test.false
