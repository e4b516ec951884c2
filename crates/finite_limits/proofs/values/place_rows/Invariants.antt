use Rattle.std.proofs.Common.{◌≡◌, map}
use Rattle.std.specs.List.{range_with_len}
use Rattle.topos_model.specs.presheaves.Maps.{component, after_component}
use Rattle.finite_limits.proofs.values.place_rows.Given as goal

abbrev pub invariant-loop-c : goal.invariant-loop-c
invariant-loop-c l = l.rows ≡ map (λ c. after_component (component l.ranks c) (component l.m c)) (range_with_len 0 l.c)
