use Rattle.std.proofs.Common.{◌≡◌, ◌+◌, length, ap, ◌∙◌, arith}
use Rattle.fin_category.proofs.AllEnds.{length-all_ends}
use Rattle.fin_category.proofs.listing.tested_listing.Goals as goal

pub rows_into-requires : goal.rows_into-requires
rows_into-requires c =
    let few = c.requires.few in
    let n : length c.as_slice.result.now ≡ c.args.raw.now.objects + length c.args.raw.now.ends = ap length (c.as_slice.ensures ∙ c.in_ok-ends.ensures) ∙ length-all_ends c.args.raw.now in
    omega arith
