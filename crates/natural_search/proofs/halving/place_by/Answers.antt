use Rattle.std.proofs.Common.{◌<◌, ◌+◌, ◌-◌, ◌/◌, Less, Greater, arith}
use Rattle.natural_search.proofs.halving.place_by.Goals as goal

pub halves-preserved-in-Less : goal.halves-preserved-in-Less
halves-preserved-in-Less g c =
    let m = c.halves.low + (c.halves.high - c.halves.low) / 2 in
    let inside : m < c.args.count = omega (arith, c.halves-test.true, c.halves.invariant.within) in
    record {
      within = c.halves.invariant.within;
      between = λ n low h.
          let below : m < n = h m Less inside c.in-Less.ensures in
          let old = c.halves.invariant.between n low h in
          (omega (arith, below), old.1);
    }

pub halves-preserved : goal.halves-preserved
halves-preserved g c =
    let m = c.halves.low + (c.halves.high - c.halves.low) / 2 in
    let inside : m < c.args.count = omega (arith, c.halves-test.true, c.halves.invariant.within) in
    record {
      within = omega (arith, inside);
      between = λ n low h.
          let above : n < m = h m Greater inside c.in-Greater.ensures in
          let old = c.halves.invariant.between n low h in
          (old.0, above);
    }
