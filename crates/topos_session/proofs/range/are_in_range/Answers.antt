use Rattle.std.proofs.Common.{◌≡◌, Some, sym, ◌∙◌, arith}
use Rattle.std.proofs.lemmas.List.{drop_all}
use Rattle.topos_session.specs.Ranges.{declares}
use Rattle.topos_session.proofs.DocumentRanges.{are_in_range-empty, statement_fails, statement_passes, statement_ends, declares_few}
use Rattle.topos_session.proofs.range.are_in_range.Goals as goal

pub returns-in-None : goal.returns-in-None
returns-in-None c =
    let l = c.loop-stmt in
    sym (statement_ends c.args.objects c.args.ends.now l.counts.functors l.counts.maps c.args.stmts.now l.stmt-index c.stmt-item.result c.loop-stmt-test.true (sym c.stmt-item.is) (sym c.in-None.ensures))
    ∙ l.invariant.rest

pub returns-then-not-branch : goal.returns-then-not-branch
returns-then-not-branch c =
    let l = c.loop-stmt in
    let made : declares c.stmt-item.result ≡ Some (c.in-Some.functors, c.in-Some.maps) = sym c.in-Some.ensures in
    sym (statement_fails c.args.objects c.args.ends.now l.counts.functors l.counts.maps c.args.stmts.now l.stmt-index c.stmt-item.result c.loop-stmt-test.true (sym c.stmt-item.is)
    (c.in-Some.functors, c.in-Some.maps) made (sym c.in_ok-is_in_range-in-Some.ensures ∙ c.if-not-branch.true)) ∙ l.invariant.rest

pub overflow_add-counts : goal.overflow_add-counts
overflow_add-counts c =
    let few = (declares_few c.stmt-item.result (c.in-Some.functors, c.in-Some.maps) (sym c.in-Some.ensures)).0 in
    omega (arith, few, c.loop-stmt.invariant.functors, c.requires)

pub overflow_add-counts-in-Some : goal.overflow_add-counts-in-Some
overflow_add-counts-in-Some c =
    let few = (declares_few c.stmt-item.result (c.in-Some.functors, c.in-Some.maps) (sym c.in-Some.ensures)).1 in
    omega (arith, few, c.loop-stmt.invariant.maps, c.requires)

pub loop-stmt-preserved : goal.loop-stmt-preserved
loop-stmt-preserved c =
    let l = c.loop-stmt in
    let made : declares c.stmt-item.result ≡ Some (c.in-Some.functors, c.in-Some.maps) = sym c.in-Some.ensures in
    let few = declares_few c.stmt-item.result (c.in-Some.functors, c.in-Some.maps) made in
    record {
      functors = omega (arith, few.0, l.invariant.functors);
      maps = omega (arith, few.1, l.invariant.maps);
      rest =
          statement_passes c.args.objects c.args.ends.now l.counts.functors l.counts.maps c.args.stmts.now l.stmt-index c.stmt-item.result c.loop-stmt-test.true (sym c.stmt-item.is)
          (c.in-Some.functors, c.in-Some.maps) made (sym c.in_ok-is_in_range-in-Some.ensures ∙ c.if-not-branch.false) ∙ l.invariant.rest;
    }

pub returns : goal.returns
returns c =
    let l = c.loop-stmt in
    sym (are_in_range-empty c.args.objects c.args.ends.now l.counts.functors l.counts.maps)
    ∙ rw (← drop_all l.stmt-index c.args.stmts.now c.loop-stmt-test.false) l.invariant.rest
