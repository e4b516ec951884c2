use Rattle.std.proofs.Common.{◌≡◌, ◌+◌, ◌-◌, ◌<◌, ◌≤◌, length, take, false, IfSome, IsSomeAnd}
use Rattle.std.specs.Io.KnownBytes.{Appends}
use Rattle.topos_io.proofs.sink.write_all.Given as goal

abbrev pub invariant-turns : goal.invariant-turns
invariant-turns g l =
    (l.done ≤ length l.bytes)
    × Appends (g.K.Sink.held l.initial.out) (g.K.Sink.held l.out) (take l.done l.bytes)
    × IfSome (g.K.Sink.sure l.initial.out) (λ room. length l.bytes ≤ room → IsSomeAnd (g.K.Sink.sure l.out) (λ rest. room ≡ l.done + rest))
    × (0 < l.done → g.K.Sink.settled l.out ≡ false)
    × (g.K.Sink.faults l.initial.out ≤ g.K.Sink.faults l.out)

abbrev pub decreases-turns : goal.decreases-turns
decreases-turns g l = length l.bytes - l.done
