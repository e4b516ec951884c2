use Rattle.std.proofs.Common.{◌≡◌, ◌-◌, true, false, ltb, get_or, sym, arith}
use Rattle.std.proofs.lemmas.Bool.{lt-ltb, le-ltb}
use Rattle.topos_session.proofs.SeenEntries.{no_entry, seen_at_end, beyond, again, seen_before, new_if}
use Rattle.topos_session.proofs.listing.is_map_listing.Goals as goal

pub loop-i-init : goal.loop-i-init
loop-i-init c = seen_at_end c.args.objects c.args.entries.now c.new-seen.result c.new-seen.ensures.empty

pub returns-then-entry-objects : goal.returns-then-entry-objects
returns-then-entry-objects c =
    let out : ltb (get_or c.args.entries.now (c.loop-i.i - 1) no_entry).at c.args.objects ≡ false = le-ltb _ _ (omega (arith, c.if-entry-objects.true)) in
    sym (beyond c.args.objects c.args.entries.now c.loop-i.i (omega arith) (omega arith) out)

pub loop-i-preserved : goal.loop-i-preserved
loop-i-preserved c =
    seen_before c.args.objects c.args.entries.now c.loop-i.i (omega arith) (omega arith) c.loop-i.seen c.insert.new.self c.loop-i.invariant (lt-ltb _ _ (omega (arith, c.if-entry-objects.false)))
    (new_if c.in-Ok-true.field-0 _ true c.in-Ok-true.ensures.added c.in-Ok-true.field-0-test) c.in-Ok-true.ensures.updates

pub returns-in-Ok-false : goal.returns-in-Ok-false
returns-in-Ok-false c =
    sym (again c.args.objects c.args.entries.now c.loop-i.i (omega arith) (omega arith) c.loop-i.seen c.loop-i.invariant (new_if c.in-Ok-false.field-0 _ false c.in-Ok-false.ensures.added c.in-Ok-false.field-0-test))
