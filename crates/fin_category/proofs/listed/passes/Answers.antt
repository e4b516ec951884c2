use Rattle.std.proofs.Common.{sym, ◌∙◌}
use Rattle.fin_category.proofs.ListedNumbers.{many_fail, ends_fail, composites_decide}
use Rattle.fin_category.proofs.listed.passes.Goals as goal
use Rattle.fin_category.proofs.listed.passes.Goals.{then-not-are_few-via-then-not-are_few, then-not-are_few-via-else-not-are_few+then-not-are_objects}

pub returns-then-not-are_few : goal.returns-then-not-are_few
returns-then-not-are_few c =
    elim c.then-not-are_few.branch [
      | then-not-are_few-via-then-not-are_few w ↦ many_fail c.args.raw.now (sym c.are_few.ensures ∙ w.if-not-are_few.true)
      | then-not-are_few-via-else-not-are_few+then-not-are_objects w ↦ ends_fail c.args.raw.now (rw w.as_slice.ensures at (sym w.are_objects.ensures ∙ w.if-not-are_objects.true))
    ]

pub returns : goal.returns
returns c =
    let composites = rw (c.len.ensures, c.as_slice-2.ensures) at c.are_composites.ensures in
    composites
    ∙ composites_decide c.args.raw.now (sym c.are_few.ensures ∙ c.if-not-are_few.false) (rw c.as_slice.ensures at (sym c.are_objects.ensures ∙ c.if-not-are_objects.false))
