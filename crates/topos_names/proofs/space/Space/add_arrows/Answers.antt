use Rattle.std.proofs.Common.{◌∙◌, []}
use Rattle.std.proofs.lemmas.Result.{err_from_is_err_and}
use Rattle.topos_text.specs.SiteNames as names
use Rattle.topos_text.specs.Tokens.{written}
use Rattle.topos_names.specs.Spaces.{space_of, limits}
use Rattle.topos_names.proofs.Changes.{left-goes_on, left-stops, left-ends}
use Rattle.topos_names.proofs.space.Space.add_arrows.Goals as goal

pub loop-f-preserved : goal.loop-f-preserved
loop-f-preserved c = record {
  left = c.loop-f.invariant.left ∙ left-goes_on (names.with_arrow limits) written (space_of c.loop-f.self) c.args.fs.now c.loop-f.f-index (record { text = record { ref_ptr = (0, 0); now = [] }; token = 0 }) c.loop-f-test.true (space_of c.add_arrow.new.self) c.in_ok-add_arrow.ensures.ok;
  objects = c.in_ok-add_arrow.ensures.objects ∙ c.loop-f.invariant.objects;
}

pub returns-in_err-add_arrow-clause-fault : goal.returns-in_err-add_arrow-clause-fault
returns-in_err-add_arrow-clause-fault c =
    let p = err_from_is_err_and c.from_residual.result c.from_residual.ensures.1 in
    rw (p.1, p.2) (λ fault e. c.loop-f.invariant.left ∙ left-stops (names.with_arrow limits) written (space_of c.loop-f.self) c.args.fs.now c.loop-f.f-index (record { text = record { ref_ptr = (0, 0); now = [] }; token = 0 }) c.loop-f-test.true fault (c.in_err-add_arrow.ensures.fault fault e))

pub returns-clause-ok : goal.returns-clause-ok
returns-clause-ok c = c.loop-f.invariant.left ∙ left-ends (names.with_arrow limits) written (space_of c.loop-f.self) c.args.fs.now c.loop-f.f-index c.loop-f-test.false
