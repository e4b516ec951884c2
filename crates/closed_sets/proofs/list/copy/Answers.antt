use Rattle.std.proofs.Common.{◌<◌, false, length, ◌∙◌, arith}
use Rattle.std.proofs.lemmas.List.{same_lists, get_or_default}
use Rattle.closed_sets.proofs.list.copy.Goals as goal

pub returns : goal.returns
returns c =
    same_lists c.places.copied c.args.set.now c.places.invariant.places (λ k d low.
    let l : k < length c.args.set.now = omega (arith, low, c.places.invariant.places) in
    get_or_default c.places.copied k d false low ∙ c.places.invariant.done k (omega (arith, l, c.places-test.false, c.len-k-end.ensures)) ∙ get_or_default c.args.set.now k false d l)
