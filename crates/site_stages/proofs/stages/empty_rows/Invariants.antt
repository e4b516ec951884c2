use Rattle.std.proofs.Common.{◌≡◌, eqb, length, map, take}
use Rattle.site_stages.proofs.stages.empty_rows.Given as goal

abbrev pub invariant-loop-row : goal.invariant-loop-row
invariant-loop-row l = l.empty ≡ map (λ row. eqb (length row) 0) (take l.row-index l.rows)
