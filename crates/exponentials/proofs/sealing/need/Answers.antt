use Rattle.std.proofs.Common.{ap, arith}
use Rattle.functor_store.specs.Store.{Store}
use Rattle.topos_model.specs.statements.Needs.{parts}
use Rattle.exponentials.specs.Needed.{IsStuck}
use Rattle.exponentials.proofs.NewCells.{over_exactly, cells_exactly, stuck_for}
use Rattle.exponentials.proofs.sealing.need.Goals as goal

pub seal_parts-needed-requires : goal.seal_parts-needed-requires
seal_parts-needed-requires c = record { ready = record { idle = c.requires.idle; faithful = c.requires.faithful; named = c.requires.named; omega = c.requires.omega } }

pub returns-clause-over : goal.returns-clause-over
returns-clause-over c = λ functors h.
    let o = c.seal_parts-needed.ensures.outcome in
    let s = c.args.site.now in
    let old = c.args.store.now in
    let new = c.seal_parts-needed.new.store in
    let b = ap (λ (x : Store). x.budget) o.extended.store_is in
    let r = c.room.ensures.room in
    over_exactly s functors (parts c.args.ty.now) old new c.seal_parts-needed.result o.extended (o.faithful functors h) o.held (stuck_for _ (IsStuck s functors (parts c.args.ty.now) new) c.seal_parts-needed.result (λ stuck. stuck functors h) o.stuck) (omega (arith, b, r))

pub returns-clause-cells : goal.returns-clause-cells
returns-clause-cells c = λ functors h.
    let o = c.seal_parts-needed.ensures.outcome in
    cells_exactly c.args.site.now functors (parts c.args.ty.now) c.args.store.now c.seal_parts-needed.new.store c.seal_parts-needed.result o.extended (o.faithful functors h) o.held
