use Rattle.std.proofs.Common.{◌≡◌, ℕ, reverse, take}
use Rattle.topos_model.specs.declared.value.Val.{Val}
use Rattle.topos_model.specs.formulas.Forcing.{World, Assigned, tuples}
use Rattle.formula_answers.specs.Stages.{with_arrows, AreSieves}
use Rattle.formula_answers.proofs.stages.sieves_at.Given as goal

-- those of the first so many tuples
abbrev pub invariant-loop-k : goal.invariant-loop-k
invariant-loop-k l =
    (w : World) (v : ℕ → Assigned → Val) → AreSieves l.elements w (reverse l.types) l.sizes v l.numbers → l.found ≡ with_arrows (v l.c) (take l.k (tuples w (reverse l.types) l.c))
