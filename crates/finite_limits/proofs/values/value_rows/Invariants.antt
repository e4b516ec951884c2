use Rattle.topos_model.specs.presheaves.Maps.{component}
use Rattle.finite_limits.specs.Kept.{AreKeptRows, IsValue}
use Rattle.finite_limits.proofs.values.value_rows.Given as goal

abbrev pub invariant-loop-c : goal.invariant-loop-c
invariant-loop-c l = AreKeptRows (λ c y. IsValue (component l.m c) y) l.c l.y.sizes l.elements l.ranks
