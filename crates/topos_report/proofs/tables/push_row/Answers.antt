use Rattle.std.proofs.Common.{◌++◌, get_or, refl, ap, ◌∙◌, arith}
use Rattle.std.proofs.lemmas.Grind.{common_steps}
use Rattle.topos_report.specs.Tables.{listed, arrow_text}
use Rattle.topos_report.proofs.Entries.{places-more, all_places}
use Rattle.topos_report.proofs.tables.push_row.Goals as goal

pub loop-x-preserved : goal.loop-x-preserved
loop-x-preserved c = rw (places-more arrow_text c.args.row.now c.loop-x.x (get_or c.args.row.now c.loop-x.x 0) (omega arith) refl) (grind (arith, common_steps))

pub returns : goal.returns
returns c = c.loop-x.invariant ∙ ap (λ l. c.args.out.now.items ++ listed arrow_text l) (all_places c.args.row.now c.loop-x.x (omega arith))
