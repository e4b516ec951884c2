use Rattle.std.proofs.Common.{◌≡◌}
use Rattle.topos_model.specs.presheaves.Maps.{apply}
use Rattle.finite_limits.specs.Kept.{AreKeptRows}
use Rattle.finite_limits.proofs.agreement.agreeing_rows.Given as goal

abbrev pub invariant-loop-c : goal.invariant-loop-c
invariant-loop-c l = AreKeptRows (λ c x. apply l.m c x ≡ apply l.n c x) l.c l.x.sizes l.elements l.ranks
