use Rattle.std.proofs.Common.{◌≡◌, ◌≤◌, length, arith}
use Rattle.finite_colimits.proofs.LabelSteps.{shorter_after, root_kept, joined_roots, joined_swapped, joined_after}
use Rattle.finite_colimits.proofs.labels.join.Goals as goal

pub returns-then-first-second : goal.returns-then-first-second
returns-then-first-second c =
    let one = c.root-first.ensures in
    let two = c.root-second.ensures in
    let low : c.root-first.result ≤ c.args.a = one.root.low in
    let below : c.root-second.result ≤ c.args.b = two.root.low in
    let places : length c.root-first.new.labels ≡ length c.args.labels.now = one.shorter.places in
    let same : length c.root-second.new.labels ≡ length c.root-first.new.labels = two.shorter.places in
    joined_after c.args.labels.now c.root-second.new.labels _ c.args.a c.args.b (shorter_after c.args.labels.now c.root-first.new.labels c.root-second.new.labels one.shorter two.shorter)
    (joined_roots c.root-second.new.labels c.args.a c.args.b c.root-first.result c.root-second.result two.shorter.low (omega (arith, c.requires.second))
    (root_kept c.root-first.new.labels c.root-second.new.labels c.args.a c.root-first.result (omega (arith, c.requires.first)) two.shorter one.root) two.root (omega (arith, c.if-first-second.true)))

pub returns-else-first-second : goal.returns-else-first-second
returns-else-first-second c =
    let one = c.root-first.ensures in
    let two = c.root-second.ensures in
    let low : c.root-first.result ≤ c.args.a = one.root.low in
    let places : length c.root-first.new.labels ≡ length c.args.labels.now = one.shorter.places in
    let same : length c.root-second.new.labels ≡ length c.root-first.new.labels = two.shorter.places in
    joined_after c.args.labels.now c.root-second.new.labels _ c.args.a c.args.b (shorter_after c.args.labels.now c.root-first.new.labels c.root-second.new.labels one.shorter two.shorter)
    (joined_swapped c.root-second.new.labels _ c.args.b c.args.a
    (joined_roots c.root-second.new.labels c.args.b c.args.a c.root-second.result c.root-first.result two.shorter.low (omega (arith, c.requires.first)) two.root
    (root_kept c.root-first.new.labels c.root-second.new.labels c.args.a c.root-first.result (omega (arith, c.requires.first)) two.shorter one.root) (omega (arith, c.if-first-second.false))))
