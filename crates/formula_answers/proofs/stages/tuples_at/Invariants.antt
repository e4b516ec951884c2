use Rattle.std.proofs.Common.{◌≡◌, map, reverse, take}
use Rattle.topos_model.specs.formulas.Forcing.{World, Property, tuples}
use Rattle.topos_model.specs.statements.Answers.{tuple_of}
use Rattle.formula_answers.specs.Stages.{kept, AreTruths}
use Rattle.formula_answers.proofs.stages.tuples_at.Given as goal

-- those of the first so many tuples
abbrev pub invariant-loop-k : goal.invariant-loop-k
invariant-loop-k l =
    (w : World) (φ : Property) → AreTruths l.elements w (reverse l.types) l.sizes φ l.truths → l.found ≡ map tuple_of (kept l.wanted (φ l.c) (take l.k (tuples w (reverse l.types) l.c)))
