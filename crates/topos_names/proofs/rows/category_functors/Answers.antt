use Rattle.std.proofs.Common.{◌∙◌}
use Rattle.topos_names.proofs.RowLemmas.{map_next}
use Rattle.topos_names.proofs.rows.category_functors.Goals as goal

pub loop-number-preserved : goal.loop-number-preserved
loop-number-preserved c = map_next (λ f. f.0) c.args.table.now c.loop-number.number (c.entry.result.0.now, c.entry.result.1.now) c.loop-number.rows c.push.new.self c.loop-number.invariant c.entry.ensures (c.in_ok-push.ensures.ok ∙ rw (c.in_ok-name_of.ensures))
