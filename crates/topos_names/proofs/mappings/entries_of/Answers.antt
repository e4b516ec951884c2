use Rattle.std.proofs.Common.{◌∙◌}
use Rattle.std.proofs.lemmas.Result.{err_from_is_err_and}
use Rattle.topos_text.specs.StatementNames as spec
use Rattle.topos_text.specs.Views.{map_at_of}
use Rattle.topos_names.proofs.Changes.{left-goes_on, left-stops, left-ends}
use Rattle.topos_names.proofs.mappings.entries_of.Goals as goal

pub loop-part-preserved : goal.loop-part-preserved
loop-part-preserved c = c.loop-part.invariant ∙ left-goes_on (spec.with_map_at c.args.scope.now c.args.dom c.args.cod) map_at_of (c.loop-part.objects, c.loop-part.entries) c.args.parts.now c.loop-part.part-index c.part-item.result c.loop-part-test.true (c.add_map_at.new.objects, c.add_map_at.new.entries) (rw (← c.part-item.is) c.in_ok-add_map_at.ensures.ok)

pub returns-in_err-add_map_at-clause-fault : goal.returns-in_err-add_map_at-clause-fault
returns-in_err-add_map_at-clause-fault c =
    let p = err_from_is_err_and c.from_residual.result c.from_residual.ensures.1 in
    rw (p.1, p.2) (λ fault e. c.loop-part.invariant ∙ left-stops (spec.with_map_at c.args.scope.now c.args.dom c.args.cod) map_at_of (c.loop-part.objects, c.loop-part.entries) c.args.parts.now c.loop-part.part-index c.part-item.result c.loop-part-test.true fault (rw (← c.part-item.is) (c.in_err-add_map_at.ensures.fault fault e)))

pub returns-clause-ok : goal.returns-clause-ok
returns-clause-ok c = c.loop-part.invariant ∙ left-ends (spec.with_map_at c.args.scope.now c.args.dom c.args.cod) map_at_of (c.loop-part.objects, c.loop-part.entries) c.args.parts.now c.loop-part.part-index c.loop-part-test.false
