use Rattle.std.proofs.Common.{ℕ, ◌++◌, codes, arith}
use Rattle.std.proofs.lemmas.Grind.{common_steps}
use Rattle.topos_report.specs.Names.{place_text}
use Rattle.topos_report.proofs.ObjectLines.{flat_map-range-more}
use Rattle.topos_report.proofs.tables.push_numbers.Goals as goal

pub loop-x-preserved : goal.loop-x-preserved
loop-x-preserved c = rw (flat_map-range-more (λ (x : ℕ). codes " " ++ place_text x) c.loop-x.x) (grind (arith, common_steps))
