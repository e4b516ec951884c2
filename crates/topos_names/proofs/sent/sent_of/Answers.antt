use Rattle.std.proofs.Common.{◌∙◌}
use Rattle.std.proofs.lemmas.Result.{err_from_is_err_and}
use Rattle.topos_text.specs.StatementNames as spec
use Rattle.topos_text.specs.Views as view
use Rattle.topos_names.specs.Parts.{sent}
use Rattle.topos_names.specs.Spaces.{space_of}
use Rattle.topos_names.proofs.Changes.{left-goes_on, left-stops, left-ends}
use Rattle.topos_names.proofs.sent.sent_of.Goals as goal

pub loop-part-preserved : goal.loop-part-preserved
loop-part-preserved c = record {
  left = c.loop-part.invariant.left ∙ left-goes_on (spec.with_sent c.args.scope.now (space_of c.args.space.now)) view.sent_of (sent c.loop-part.so_far) c.args.parts.now c.loop-part.part-index _ c.loop-part-test.true (sent c.send.new.so_far) c.in_ok-send.ensures.ok;
  objects = c.in_ok-send.ensures.objects;
  arrows = c.in_ok-send.ensures.arrows;
}

pub returns-in_err-send-clause-fault : goal.returns-in_err-send-clause-fault
returns-in_err-send-clause-fault c =
    let p = err_from_is_err_and c.from_residual.result c.from_residual.ensures.1 in
    rw (p.1, p.2) (λ fault e. c.loop-part.invariant.left ∙ left-stops (spec.with_sent c.args.scope.now (space_of c.args.space.now)) view.sent_of (sent c.loop-part.so_far) c.args.parts.now c.loop-part.part-index _ c.loop-part-test.true fault (c.in_err-send.ensures.fault fault e))

pub returns-clause-ok : goal.returns-clause-ok
returns-clause-ok c = c.loop-part.invariant.left ∙ left-ends (spec.with_sent c.args.scope.now (space_of c.args.space.now)) view.sent_of (sent c.loop-part.so_far) c.args.parts.now c.loop-part.part-index c.loop-part-test.false
