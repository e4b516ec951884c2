use Rattle.std.proofs.Common.{◌+◌, ◌-◌, ◌≤◌, vec_len}
use Rattle.std.specs.Io.KnownBytes.{Consumes}
use Rattle.topos_io.proofs.source.read_all.Given as goal

abbrev pub invariant-turns : goal.invariant-turns
invariant-turns g l =
    Consumes (g.S.Source.left l.initial.src) (g.S.Source.left l.src) l.bytes.items
    × (vec_len l.bytes ≤ l.limit)
    × (g.S.Source.faults l.initial.src ≤ g.S.Source.faults l.src)

abbrev pub decreases-turns : goal.decreases-turns
decreases-turns g l = l.limit + 1 - vec_len l.bytes
