use Rattle.std.proofs.Common.{◌≡◌, ◌<◌, ◌≤◌, length, get_or, arith}
use Rattle.finite_colimits.specs.Labels.{AreShorter}
use Rattle.finite_colimits.proofs.LabelSteps.{halved, shorter_after, reached_on}
use Rattle.finite_colimits.proofs.labels.root.Goals as goal

pub way-preserved : goal.way-preserved
way-preserved c =
    let i = c.way.invariant in
    let places : length c.way.labels ≡ length c.args.labels.now = i.shorter.places in
    let at : c.way.at < length c.way.labels = omega (arith, i.below, c.requires.number) in
    let one : get_or c.way.labels c.way.at 0 ≤ c.way.at = i.shorter.low c.way.at at in
    let two : get_or c.way.labels (get_or c.way.labels c.way.at 0) 0 ≤ get_or c.way.labels c.way.at 0 = i.shorter.low (get_or c.way.labels c.way.at 0) (omega arith) in
    let step : AreShorter c.way.labels _ = halved c.way.labels c.way.at i.shorter.low at c.way-test.true in
    record {
      shorter = shorter_after c.args.labels.now c.way.labels _ i.shorter step;
      below = omega (arith, i.below);
      reached = reached_on c.way.labels _ c.args.y c.way.at i.shorter.low step at i.reached;
    }
