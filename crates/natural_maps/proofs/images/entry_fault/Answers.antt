use Rattle.std.proofs.Common.{get_or, ◌∙◌, arith}
use Rattle.finite_lists.proofs.Lists.{In_at}
use Rattle.finite_lists.proofs.FirstAnswers.{first_left-none, first_left-some}
use Rattle.topos_model.specs.declared.raw.RawEntry.{RawEntry}
use Rattle.topos_model.specs.presheaves.MapFaults.{entry_fault}
use Rattle.natural_maps.proofs.ListedImages.{left_unknown, right_unknown, both_known}
use Rattle.natural_maps.proofs.images.entry_fault.Goals as goal

pub size-requires : goal.size-requires
size-requires c = c.requires.domain (get_or c.args.entries.now c.loop-entry.entry-index (record { at = 0; from = 0; to = 0 })) (In_at c.args.entries.now c.loop-entry.entry-index (record { at = 0; from = 0; to = 0 }) c.loop-entry-test.true)

pub size-requires-in-loop-entry : goal.size-requires-in-loop-entry
size-requires-in-loop-entry c =
    c.requires.codomain (get_or c.args.entries.now c.loop-entry.entry-index (record { at = 0; from = 0; to = 0 })) (In_at c.args.entries.now c.loop-entry.entry-index (record { at = 0; from = 0; to = 0 }) c.loop-entry-test.true)

pub returns-then-entry-size-clause-fault : goal.returns-then-entry-size-clause-fault
returns-then-entry-size-clause-fault c =
    let e : RawEntry = get_or c.args.entries.now c.loop-entry.entry-index (record { at = 0; from = 0; to = 0 }) in
    c.loop-entry.invariant
    ∙ first_left-some (entry_fault c.args.p.now c.args.q.now) c.args.entries.now c.loop-entry.entry-index (record { at = 0; from = 0; to = 0 }) _ c.loop-entry-test.true
    (left_unknown c.args.p.now c.args.q.now e (omega (arith, c.size.ensures, c.if-entry-size.true)))

pub returns-then-entry-size-2-clause-fault : goal.returns-then-entry-size-2-clause-fault
returns-then-entry-size-2-clause-fault c =
    let e : RawEntry = get_or c.args.entries.now c.loop-entry.entry-index (record { at = 0; from = 0; to = 0 }) in
    c.loop-entry.invariant
    ∙ first_left-some (entry_fault c.args.p.now c.args.q.now) c.args.entries.now c.loop-entry.entry-index (record { at = 0; from = 0; to = 0 }) _ c.loop-entry-test.true
    (right_unknown c.args.p.now c.args.q.now e (omega (arith, c.size.ensures, c.if-entry-size.false)) (omega (arith, c.size-in-loop-entry.ensures, c.if-entry-size-2.true)))

pub loop-entry-preserved : goal.loop-entry-preserved
loop-entry-preserved c =
    let e : RawEntry = get_or c.args.entries.now c.loop-entry.entry-index (record { at = 0; from = 0; to = 0 }) in
    c.loop-entry.invariant
    ∙ first_left-none (entry_fault c.args.p.now c.args.q.now) c.args.entries.now c.loop-entry.entry-index (record { at = 0; from = 0; to = 0 }) c.loop-entry-test.true
    (both_known c.args.p.now c.args.q.now e (omega (arith, c.size.ensures, c.if-entry-size.false)) (omega (arith, c.size-in-loop-entry.ensures, c.if-entry-size-2.false)))
