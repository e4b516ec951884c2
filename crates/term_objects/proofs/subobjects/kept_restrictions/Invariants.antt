use Rattle.std.proofs.Common.{◌≡◌}
use Rattle.truth_tables.specs.Tables.{row}
use Rattle.term_objects.specs.KeptElements.{kept_along}
use Rattle.term_objects.proofs.subobjects.kept_restrictions.Given as goal

-- those along the arrows so far
abbrev pub invariant-loop-f : goal.invariant-loop-f
invariant-loop-f l = l.rows ≡ row l.f (kept_along l.cat l.store l.id l.numbers l.places)
