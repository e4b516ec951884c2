use Rattle.std.proofs.Common.{◌∙◌}
use Rattle.std.proofs.lemmas.Result.{err_from_is_err_and}
use Rattle.topos_text.specs.StatementNames as spec
use Rattle.topos_text.specs.Views.{section_of}
use Rattle.topos_names.specs.Parts.{sections}
use Rattle.topos_names.specs.Spaces.{space_of, limits}
use Rattle.topos_names.proofs.Changes.{left-goes_on, left-stops, left-ends}
use Rattle.topos_names.proofs.sections.sections_of.Goals as goal

pub loop-part-preserved : goal.loop-part-preserved
loop-part-preserved c = record {
  left = c.loop-part.invariant.left ∙ left-goes_on (spec.with_section limits (space_of c.args.space.now)) section_of (sections c.loop-part.found) c.args.parts.now c.loop-part.part-index c.part-item.result c.loop-part-test.true (sections c.add_section.new.so_far) (rw (← c.part-item.is) c.in_ok-add_section.ensures.ok);
  arrows = c.in_ok-add_section.ensures.arrows;
}

pub returns-in_err-add_section-clause-fault : goal.returns-in_err-add_section-clause-fault
returns-in_err-add_section-clause-fault c =
    let p = err_from_is_err_and c.from_residual.result c.from_residual.ensures.1 in
    rw (p.1, p.2) (λ fault e. c.loop-part.invariant.left ∙ left-stops (spec.with_section limits (space_of c.args.space.now)) section_of (sections c.loop-part.found) c.args.parts.now c.loop-part.part-index c.part-item.result c.loop-part-test.true fault (rw (← c.part-item.is) (c.in_err-add_section.ensures.fault fault e)))

pub returns-clause-ok : goal.returns-clause-ok
returns-clause-ok c = c.loop-part.invariant.left ∙ left-ends (spec.with_section limits (space_of c.args.space.now)) section_of (sections c.loop-part.found) c.args.parts.now c.loop-part.part-index c.loop-part-test.false
