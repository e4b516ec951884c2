use Rattle.topos_names.proofs.VariableLemmas.{NotBefore}
use Rattle.topos_names.proofs.variables.Variables.find.Given as goal

abbrev pub invariant-loop-i : goal.invariant-loop-i
invariant-loop-i l = NotBefore l.self l.text l.i
