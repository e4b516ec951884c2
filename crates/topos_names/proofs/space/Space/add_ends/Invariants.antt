use Rattle.std.proofs.Common.{◌≡◌, ◌++◌, replicate}
use Rattle.topos_names.specs.Spaces.{space_of}
use Rattle.topos_names.proofs.space.Space.add_ends.Given as goal

abbrev pub invariant-loop : goal.invariant-loop
invariant-loop l = space_of l.self ≡ record (space_of l.initial.self) { ends = l.initial.self.ends ++ replicate l.counter (l.dom, l.cod) }
