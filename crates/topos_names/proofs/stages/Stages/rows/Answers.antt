use Rattle.std.proofs.Common.{◌∙◌, sym}
use Rattle.topos_text.specs.StatementNames.{elements_at}
use Rattle.topos_names.proofs.StageLemmas.{range_more}
use Rattle.topos_names.proofs.stages.Stages.rows.Goals as goal

pub loop-object-preserved : goal.loop-object-preserved
loop-object-preserved c = range_more (elements_at c.self.inside.listed) c.loop-object.object c.loop-object.rows c.push.new.self c.in_ok-names.field-0 c.loop-object.invariant c.in_ok-push.ensures.ok (c.in_ok-names.ensures ∙ sym c.elements.ensures)
