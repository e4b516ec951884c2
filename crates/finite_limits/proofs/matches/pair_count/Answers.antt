use Rattle.std.proofs.Common.{◌+◌, ℕ, get_or, sym, ap, ◌∙◌, arith}
use Rattle.finite_limits.proofs.Threads.{sum_more}
use Rattle.finite_limits.proofs.matches.pair_count.Goals as goal

pub loop-x-preserved : goal.loop-x-preserved
loop-x-preserved c =
    let count : ℕ → ℕ = λ x. get_or c.args.counts.now (get_or c.args.m.now x 0) 0 in
    record {
      count = ap (λ (s : ℕ). s + count c.loop-x.x) c.loop-x.invariant.count ∙ sym (sum_more count c.loop-x.x);
      few = omega (arith, c.loop-x.invariant.few, c.type_inv.counts (get_or c.args.m.now c.loop-x.x 0));
    }
