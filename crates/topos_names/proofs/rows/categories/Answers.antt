use Rattle.std.proofs.Common.{◌∙◌}
use Rattle.topos_names.specs.Scopes.{category_name}
use Rattle.topos_names.proofs.RowLemmas.{map_next}
use Rattle.topos_names.proofs.rows.categories.Goals as goal

pub loop-number-preserved : goal.loop-number-preserved
loop-number-preserved c = map_next category_name c.args.table.now c.loop-number.number (c.entry.result.0.now, c.entry.result.1.now) c.loop-number.rows c.push.new.self c.loop-number.invariant c.entry.ensures (c.in_ok-push.ensures.ok ∙ rw (c.in_ok-name.ensures, c.in_ok-objects.ensures, c.in_ok-arrows.ensures, c.in_ok-cat.ensures))
