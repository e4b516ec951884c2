use Rattle.std.proofs.Common.{◌<◌, false, length, sym, ◌∙◌, arith}
use Rattle.std.proofs.lemmas.List.{same_lists, get_or_default}
use Rattle.closed_sets.proofs.tests.values.Goals as goal

pub returns : goal.returns
returns c =
    same_lists c.loop-k.values c.args.set.now (c.loop-k.invariant.places ∙ sym c.requires) (λ k d low.
    let l : k < length c.args.set.now = omega (arith, c.loop-k.invariant.places, c.requires, low) in
    get_or_default c.loop-k.values k d false low ∙ c.loop-k.invariant.read k (omega (arith, c.loop-k.invariant.places, low)) ∙ get_or_default c.args.set.now k false d l)
