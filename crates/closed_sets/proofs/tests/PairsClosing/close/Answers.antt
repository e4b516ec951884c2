use Rattle.std.proofs.Common.{◌&&◌, false, get_or, sym, ap, ◌∙◌, arith}
use Rattle.closed_sets.specs.Parts.{pair_parts, is_part_of_some}
use Rattle.closed_sets.specs.PartLaws.{completed-from_reads}
use Rattle.closed_sets.proofs.PartRows.{parts_low}
use Rattle.closed_sets.proofs.tests.PairsClosing.close.Goals as goal

pub returns : goal.returns
returns c =
    completed-from_reads pair_parts c.args.set.now c.loop-k.set (c.loop-k.invariant.places ∙ sym c.requires) (λ k low.
    let (left, right) = parts_low k (omega (arith, c.requires, low)) in
    c.loop-k.invariant.read k (omega (arith, c.requires, low))
    ∙ ap (λ b. b && get_or c.present-present.result (pair_parts k).1 false) (c.present-present.ensures (pair_parts k).0 left)
    ∙ ap (λ b. is_part_of_some pair_parts (pair_parts k).0 c.args.set.now && b) (c.present-present.ensures (pair_parts k).1 right))
