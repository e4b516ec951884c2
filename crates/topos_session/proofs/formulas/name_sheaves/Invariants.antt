use Rattle.std.proofs.Common.{◌≡◌}
use Rattle.std.specs.List.{flat_map}
use Rattle.topos_model.specs.statements.Needs.{parts}
use Rattle.topos_session.specs.Statements.{no_sheaf_among}
use Rattle.topos_session.proofs.FormulaAnswers.{found_from}
use Rattle.topos_session.proofs.formulas.name_sheaves.Given as goal

-- nothing has changed, and the first presheaf that is no sheaf is among those that are left
abbrev pub invariant-loop-n : goal.invariant-loop-n
invariant-loop-n l = (l.so ≡ l.fn.so) × (found_from l.fn.so.world (flat_map parts l.types) l.n ≡ no_sheaf_among l.fn.so.world (flat_map parts l.types))
