use Rattle.std.proofs.Common.{◌≡◌, sym, ◌∙◌}
use Rattle.topos_session.specs.Ranges.{are_in_range, has_range}
use Rattle.topos_session.proofs.DocumentRanges.{many_fail, category_fails, topologies_fail, statements_decide}
use Rattle.topos_session.proofs.range.has_range.Goals as goal
use Rattle.topos_session.proofs.range.has_range.Goals.{then-not-are_few-via-then-not-are_few, then-not-are_few-via-else-not-are_few+then-not-is_listing}

pub returns-then-not-are_few : goal.returns-then-not-are_few
returns-then-not-are_few c =
    elim c.then-not-are_few.branch [
      | then-not-are_few-via-then-not-are_few w ↦ sym (many_fail c.args.doc.now (rw c.len.ensures at (sym c.are_few.ensures ∙ w.if-not-are_few.true)))
      | then-not-are_few-via-else-not-are_few+then-not-is_listing w ↦ sym (category_fails c.args.doc.now (sym w.is_listing.ensures.value ∙ w.if-not-is_listing.true))
    ]

pub returns-then-not-are_topologies_in_range : goal.returns-then-not-are_topologies_in_range
returns-then-not-are_topologies_in_range c =
    sym (topologies_fail c.args.doc.now (rw (c.as_slice.ensures, c.in_ok-ends.ensures, c.as_slice-2.ensures) at (sym c.are_topologies_in_range.ensures ∙ c.if-not-are_topologies_in_range.true)))

pub returns : goal.returns
returns c =
    let doc = c.args.doc.now in
    let decide : are_in_range doc.cat.objects c.as_slice-3.result.now 0 0 c.as_slice-4.result.now ≡ has_range doc =
    rw (c.as_slice-3.ensures, c.in_ok-ends.ensures, c.as_slice-4.ensures) (statements_decide doc
    (rw c.len.ensures at (sym c.are_few.ensures ∙ c.if-not-are_few.false))
    (sym c.is_listing.ensures.value ∙ c.if-not-is_listing.false)
    (rw (c.as_slice.ensures, c.in_ok-ends.ensures, c.as_slice-2.ensures) at (sym c.are_topologies_in_range.ensures ∙ c.if-not-are_topologies_in_range.false))) in
    rw (← decide) c.are_in_range.ensures
