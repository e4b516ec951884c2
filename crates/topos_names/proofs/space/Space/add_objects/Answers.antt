use Rattle.std.proofs.Common.{◌∙◌, []}
use Rattle.std.proofs.lemmas.Result.{err_from_is_err_and}
use Rattle.topos_text.specs.SiteNames as names
use Rattle.topos_text.specs.Tokens.{written}
use Rattle.topos_names.specs.Spaces.{space_of, limits}
use Rattle.topos_names.proofs.Changes.{left-goes_on, left-stops, left-ends}
use Rattle.topos_names.proofs.space.Space.add_objects.Goals as goal

pub loop-x-preserved : goal.loop-x-preserved
loop-x-preserved c = c.loop-x.invariant ∙ left-goes_on (names.with_object limits) written (space_of c.loop-x.self) c.args.xs.now c.loop-x.x-index (record { text = record { ref_ptr = (0, 0); now = [] }; token = 0 }) c.loop-x-test.true (space_of c.add_object.new.self) c.in_ok-add_object.ensures.ok

pub returns-in_err-add_object-clause-fault : goal.returns-in_err-add_object-clause-fault
returns-in_err-add_object-clause-fault c =
    let p = err_from_is_err_and c.from_residual.result c.from_residual.ensures.1 in
    rw (p.1, p.2) (λ fault e. c.loop-x.invariant ∙ left-stops (names.with_object limits) written (space_of c.loop-x.self) c.args.xs.now c.loop-x.x-index (record { text = record { ref_ptr = (0, 0); now = [] }; token = 0 }) c.loop-x-test.true fault (c.in_err-add_object.ensures.fault fault e))

pub returns-clause-ok : goal.returns-clause-ok
returns-clause-ok c = c.loop-x.invariant ∙ left-ends (names.with_object limits) written (space_of c.loop-x.self) c.args.xs.now c.loop-x.x-index c.loop-x-test.false
