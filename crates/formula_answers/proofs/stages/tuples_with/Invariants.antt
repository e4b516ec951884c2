use Rattle.std.proofs.Common.{◌≡◌, map, reverse}
use Rattle.topos_model.specs.formulas.Forcing.{World, Property, tuples}
use Rattle.topos_model.specs.statements.Answers.{tuple_of}
use Rattle.truth_tables.specs.Tables.{row}
use Rattle.formula_answers.specs.Stages.{kept, AreTruths}
use Rattle.formula_answers.proofs.stages.tuples_with.Given as goal

-- those at the objects so far
abbrev pub invariant-loop-c : goal.invariant-loop-c
invariant-loop-c l =
    (w : World) (φ : Property) → AreTruths l.elements w (reverse l.types) l.sizes φ l.truths → l.stages ≡ row l.c (λ c. map tuple_of (kept l.wanted (φ c) (tuples w (reverse l.types) c)))
