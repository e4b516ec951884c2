use Rattle.std.proofs.Common.{◌≡◌, ◌%◌, inl, inr, true, false, get_or, w64, sym, ap, ◌∙◌, arith}
use Rattle.std.specs.Int.{trailing_zeros}
use Rattle.std.proofs.lemmas.Bool.{cases_eq}
use Rattle.std.proofs.lemmas.Nat.Bits.{bit_at-trailing_zeros}
use Rattle.natural_search.specs.Domains.{allows}
use Rattle.natural_search.proofs.ResidueBits.{allows_all, allows_or_not, allows_nothing, cleared_less, cleared_other}
use Rattle.natural_search.proofs.residues.image.Goals as goal

pub returns-then-row-gt-LONGEST_ROW : goal.returns-then-row-gt-LONGEST_ROW
returns-then-row-gt-LONGEST_ROW c w low _ = allows_all (get_or c.args.row.now w 0)

pub residues-smaller : goal.residues-smaller
residues-smaller c =
    let lowest = bit_at-trailing_zeros w64 c.residues.rest (omega (arith, c.residues-test.true)) (omega (arith, c.residues.auto.rest-fits)) in
    cleared_less c.residues.rest (trailing_zeros w64 c.residues.rest) lowest.0 lowest.1

pub residues-preserved : goal.residues-preserved
residues-preserved c w low within gone =
    let residue = trailing_zeros w64 c.residues.rest in
    let lowest = bit_at-trailing_zeros w64 c.residues.rest (omega (arith, c.residues-test.true)) (omega (arith, c.residues.auto.rest-fits)) in
    elim (allows_or_not c.residues.rest w) [
      | inl there ↦ elim (cases_eq (w % 64) residue) [
        | inl same ↦ c.with_images-image.ensures.new w low same
        | inr other ↦ (let clash : true ≡ false = sym (cleared_other c.residues.rest residue w lowest.0 other there) ∙ gone in absurd cc)
      ]
      | inr done ↦ c.with_images-image.ensures.old (get_or c.args.row.now w 0) (c.residues.invariant w low within done)
    ]

pub returns : goal.returns
returns c w low within = c.residues.invariant w low within (ap (λ m. allows m w) c.residues-test.false ∙ allows_nothing w)
