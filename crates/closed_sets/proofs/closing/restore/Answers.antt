use Rattle.std.proofs.Common.{◌<◌, false, length, ◌∙◌, arith}
use Rattle.std.proofs.lemmas.List.{same_lists, get_or_default}
use Rattle.closed_sets.proofs.closing.restore.Goals as goal

pub returns : goal.returns
returns c =
    same_lists c.places.set c.args.last.now c.places.invariant.places (λ k d low.
    let l : k < length c.args.last.now = omega (arith, low, c.places.invariant.places) in
    get_or_default c.places.set k d false low ∙ c.places.invariant.restored k (omega (arith, l, c.places-test.false, c.len-k-end.ensures)) ∙ get_or_default c.args.last.now k false d l)
