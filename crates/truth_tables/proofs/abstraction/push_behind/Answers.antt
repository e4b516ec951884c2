use Rattle.std.proofs.Common.{◌++◌, List, ℕ, ap, ◌∙◌, get_or}
use Rattle.truth_tables.specs.Abstraction.{behind}
use Rattle.truth_tables.specs.Tables.{block}
use Rattle.truth_tables.proofs.Rows.{joined-more}
use Rattle.truth_tables.proofs.abstraction.push_behind.Goals as goal

pub loop-j-preserved : goal.loop-j-preserved
loop-j-preserved c =
    let sources = c.args.sources.now in
    let widths = c.args.widths.now in
    let j = c.loop-j.j in
    joined-more (behind sources c.args.restrictions.now widths c.args.body.now) j c.args.out.now c.loop-j.out c.push_row.new.numbers c.loop-j.invariant
    (c.in_ok-push_row.ensures ∙ ap (λ (l : List ℕ). c.loop-j.out ++ l)
    (c.block.ensures ∙ ap (block (get_or widths (get_or sources j 0) 0) (get_or c.args.restrictions.now j 0)) c.row.ensures))
