use Rattle.std.proofs.Common.{◌≡◌, ℕ, reverse}
use Rattle.topos_model.specs.declared.value.Val.{Val}
use Rattle.topos_model.specs.formulas.Forcing.{World, Assigned, tuples}
use Rattle.truth_tables.specs.Tables.{row}
use Rattle.formula_answers.specs.Stages.{with_arrows, AreSieves}
use Rattle.formula_answers.proofs.stages.tuples_with_sieves.Given as goal

-- those at the objects so far
abbrev pub invariant-loop-c : goal.invariant-loop-c
invariant-loop-c l =
    (w : World) (v : ℕ → Assigned → Val) → AreSieves l.elements w (reverse l.types) l.sizes v l.numbers → l.stages ≡ row l.c (λ c. with_arrows (v c) (tuples w (reverse l.types) c))
