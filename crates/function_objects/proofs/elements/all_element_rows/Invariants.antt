use Rattle.std.proofs.Common.{◌≡◌, ◌<◌, ℕ, length}
use Rattle.sealed_functors.specs.Rows.{rows_at}
use Rattle.sealed_types.specs.Sealed.{sizes_in, restrictions_in}
use Rattle.function_objects.specs.Functions.{AreFunctionRows}
use Rattle.function_objects.proofs.elements.all_element_rows.Given as goal

abbrev pub invariant-loop-c : goal.invariant-loop-c
invariant-loop-c l = record {
  objects : length l.all ≡ l.c;
  each : (c : ℕ) → c < l.c → AreFunctionRows l.cat (sizes_in l.store l.s) (restrictions_in l.store l.s) (sizes_in l.store l.t) (restrictions_in l.store l.t) c (rows_at l.all c);
}
