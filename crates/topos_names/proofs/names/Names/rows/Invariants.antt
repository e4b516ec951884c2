use Rattle.std.proofs.Common.{◌≡◌, map, take}
use Rattle.topos_names.proofs.names.Names.rows.Given as goal

abbrev pub invariant-loop-text : goal.invariant-loop-text
invariant-loop-text l = l.rows ≡ map (λ k. k.now) (take l.text-index l.text-items)
