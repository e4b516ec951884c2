use Rattle.std.proofs.Common.{[], get_or, arith}
use Rattle.finite_lists.proofs.Lists.{In_at}
use Rattle.topos_model.specs.presheaves.PresheafFaults.{has_entry}
use Rattle.presheaf_core.proofs.Tables.{none_yet}
use Rattle.presheaf_core.proofs.ListedEntries.{has_entry-none, entered_more}
use Rattle.presheaf_core.proofs.entries.entered.Goals as goal

pub loop-entry-init : goal.loop-entry-init
loop-entry-init c = rw c.in_ok-seen.ensures (none_yet (has_entry []) c.args.size has_entry-none)

pub set-requires : goal.set-requires
set-requires c =
    let low = c.requires (get_or c.args.entries.now c.loop-entry.entry-index (0, 0)) (In_at c.args.entries.now c.loop-entry.entry-index (0, 0) c.loop-entry-test.true) in
    omega (arith, c.loop-entry.invariant.places, low)

pub loop-entry-preserved : goal.loop-entry-preserved
loop-entry-preserved c =
    let low = c.requires (get_or c.args.entries.now c.loop-entry.entry-index (0, 0)) (In_at c.args.entries.now c.loop-entry.entry-index (0, 0) c.loop-entry-test.true) in
    rw c.set.ensures (entered_more c.args.entries.now c.args.size c.loop-entry.entry-index c.loop-entry.seen c.loop-entry-test.true low c.loop-entry.invariant)
