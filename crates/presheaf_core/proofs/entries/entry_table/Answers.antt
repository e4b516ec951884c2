use Rattle.std.proofs.Common.{◌≡◌, subst, arith}
use Rattle.presheaf_core.proofs.EntryRows.{HasEntriesFrom, all_written}
use Rattle.presheaf_core.proofs.entries.entry_table.Goals as goal

pub returns : goal.returns
returns c =
    let start : c.loop-i.i ≡ 0 = omega arith in
    all_written c.args.entries.now c.args.size c.loop-i.table.items (subst (λ i. HasEntriesFrom c.args.entries.now c.args.size i c.loop-i.table.items) start c.loop-i.invariant)
