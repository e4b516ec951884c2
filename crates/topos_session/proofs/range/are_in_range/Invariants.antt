use Rattle.std.proofs.Common.{◌≡◌, ◌*◌, ◌≤◌, drop}
use Rattle.topos_session.specs.Ranges.{are_in_range}
use Rattle.topos_session.proofs.range.are_in_range.Given as goal

abbrev pub invariant-loop-stmt : goal.invariant-loop-stmt
invariant-loop-stmt l = record {
  functors : l.counts.functors ≤ l.stmt-index;
  maps : l.counts.maps ≤ 2 * l.stmt-index;
  rest : are_in_range l.objects l.ends l.counts.functors l.counts.maps (drop l.stmt-index l.stmts) ≡ are_in_range l.objects l.ends 0 0 l.stmts;
}
