use Rattle.std.proofs.Common.{◌^◌, sym, ap, ◌∙◌, arith, w64}
use Rattle.std.specs.Int.{trailing_zeros}
use Rattle.natural_search.proofs.ResidueBits.{shifted_one, lowest_of_one}
use Rattle.natural_search.proofs.residues.sole.Goals as goal
use Rattle.natural_search.proofs.residues.sole.Goals.{else-residue-lt64-via-then-residue-lt64+else-mask-residue, else-residue-lt64-via-else-residue-lt64}

pub returns-then-mask-residue-clause-some : goal.returns-then-mask-residue-clause-some
returns-then-mask-residue-clause-some c = (c.if-residue-lt64.true, c.if-mask-residue.true ∙ shifted_one (trailing_zeros w64 c.args.mask) c.if-residue-lt64.true)

pub returns-else-residue-lt64-clause-none : goal.returns-else-residue-lt64-clause-none
returns-else-residue-lt64-clause-none c _ residue low is =
    let lowest = lowest_of_one c.args.mask residue low is in
    elim c.else-residue-lt64.branch [
      | else-residue-lt64-via-then-residue-lt64+else-mask-residue w ↦
          w.if-mask-residue.false (is ∙ ap (λ n. 2 ^ n) (sym lowest) ∙ sym (shifted_one (trailing_zeros w64 c.args.mask) w.if-residue-lt64.true))
      | else-residue-lt64-via-else-residue-lt64 w ↦ absurd (omega (arith, w.if-residue-lt64.false, lowest, low))
    ]
