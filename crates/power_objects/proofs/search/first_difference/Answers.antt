use Rattle.std.proofs.Common.{◌≡◌, false, length, sym, ◌∙◌, arith}
use Rattle.std.proofs.lemmas.List.{length-map, same_lists, get_or_default}
use Rattle.power_objects.specs.BitOrder.{read_along}
use Rattle.power_objects.proofs.search.first_difference.Goals as goal

pub returns : goal.returns
returns c =
    let set = c.args.set.now in
    let other = read_along c.args.along.now c.args.other.now in
    let n : length other ≡ length c.args.along.now = length-map c.args.along.now _ in
    record {
      ordered = same_lists set other (c.requires.places ∙ sym n) (λ i d low.
          get_or_default set i d false low ∙ c.loop-i.invariant i (let l = c.requires.places in omega (arith, low, l, c.loop-i-test.false)) ∙ get_or_default other i false d (let l = c.requires.places in omega (arith, low, l, n)));
    }
