use Rattle.std.proofs.Common.{◌∙◌, ap, sym}
use Rattle.std.proofs.lemmas.Result.{err_from_is_err_and}
use Rattle.topos_text.specs.SiteNames as spec
use Rattle.topos_text.specs.Views as view
use Rattle.topos_names.specs.Spaces.{space_of}
use Rattle.topos_names.proofs.Gathering.{gathered, gathered-begins, gathered-goes_on, gathered-stops, gathered-ends}
use Rattle.topos_names.proofs.cover.arrows_into.Goals as goal

pub loop-f-init : goal.loop-f-init
loop-f-init c = gathered-begins (spec.arrow_into (space_of c.args.space.now) c.args.object) view.arrow_of c.args.fs.now ∙ ap (λ found. gathered (spec.arrow_into (space_of c.args.space.now) c.args.object) view.arrow_of found c.args.fs.now 0) (sym c.new-arrows.ensures)

pub loop-f-preserved : goal.loop-f-preserved
loop-f-preserved c = rw c.in_ok-push.ensures.ok (c.loop-f.invariant ∙ gathered-goes_on (spec.arrow_into (space_of c.args.space.now) c.args.object) view.arrow_of c.loop-f.arrows c.args.fs.now c.loop-f.f-index _ c.loop-f-test.true c.in_ok-arrow_into.field-0 c.in_ok-arrow_into.ensures.ok)

pub returns-in_err-arrow_into-clause-fault : goal.returns-in_err-arrow_into-clause-fault
returns-in_err-arrow_into-clause-fault c =
    let p = err_from_is_err_and c.from_residual.result c.from_residual.ensures.1 in
    rw (p.1, p.2) (λ fault e. c.loop-f.invariant ∙ gathered-stops (spec.arrow_into (space_of c.args.space.now) c.args.object) view.arrow_of c.loop-f.arrows c.args.fs.now c.loop-f.f-index _ c.loop-f-test.true fault (c.in_err-arrow_into.ensures.fault fault e))

pub returns-clause-ok : goal.returns-clause-ok
returns-clause-ok c = c.loop-f.invariant ∙ gathered-ends (spec.arrow_into (space_of c.args.space.now) c.args.object) view.arrow_of c.loop-f.arrows c.args.fs.now c.loop-f.f-index c.loop-f-test.false
