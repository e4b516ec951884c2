use Rattle.std.proofs.Common.{◌<◌, length, Err, sym, ap, subst, arith}
use Rattle.std.specs.List.{flat_map}
use Rattle.topos_model.specs.statements.Needs.{parts}
use Rattle.sealed_functors.specs.Rows.{IsOverExactly}
use Rattle.sealed_world.specs.SealedWorlds.{cells_with, IsGrownBy}
use Rattle.std.proofs.lemmas.Result.{err_from_is_err_and}
use Rattle.topos_session.specs.declared.declarations.Declarations.{Declarations}
use Rattle.topos_session.proofs.LawfulDeclarations.{unchanged_kept}
use Rattle.topos_session.proofs.FormulaAnswers.{sheaf_stop, store_stops, types_sealed}
use Rattle.topos_session.proofs.formulas.seal_types.Goals as goal

pub returns-in_err-name_sheaves-clause-stop : goal.returns-in_err-name_sheaves-clause-stop
returns-in_err-name_sheaves-clause-stop c =
    let p = err_from_is_err_and c.from_residual.result c.from_residual.ensures.1 in
    rw (p.1, p.2) (sheaf_stop c.args.so.now c.args.types.now c.in_err-name_sheaves.field-0.0 c.in_err-name_sheaves.ensures.stop)

pub returns-in_err-name_sheaves-clause-unchanged : goal.returns-in_err-name_sheaves-clause-unchanged
returns-in_err-name_sheaves-clause-unchanged c =
    let p = err_from_is_err_and c.from_residual.result c.from_residual.ensures.1 in
    rw p.1 (unchanged_kept c.args.so.now c.name_sheaves.new.so c.name_sheaves.ensures.unchanged)

pub need-requires : goal.need-requires
need-requires c = record { named = λ n i. subst (λ (x : Declarations). n < length x.world.functors) (sym c.name_sheaves.ensures.unchanged) (c.requires.named n i) }

pub returns-in_err-need-clause-stop : goal.returns-in_err-need-clause-stop
returns-in_err-need-clause-stop c =
    let so = c.args.so.now in
    let p = err_from_is_err_and c.from_residual-in_err-need.result c.from_residual-in_err-need.ensures.1 in
    rw (p.1, p.2) (store_stops so c.args.types.now c.in_ok-name_sheaves.ensures.sheaves c.in_err-need.field-0.0
    (subst (λ (x : Declarations). IsOverExactly {A = Unit {0}} (Err c.in_err-need.field-0.0) (x.world.budget < cells_with x.world (flat_map parts c.args.types.now))) c.name_sheaves.ensures.unchanged c.in_err-need.ensures.over))

pub returns-clause-sealed : goal.returns-clause-sealed
returns-clause-sealed c =
    let so = c.args.so.now in
    let same = c.name_sheaves.ensures.unchanged in
    types_sealed so c.args.types.now (record { world = c.need.new.self; maps = c.name_sheaves.new.so.maps }) c.in_ok-name_sheaves.ensures.sheaves (ap (λ (x : Declarations). x.maps) same)
    (subst (λ (x : Declarations). IsGrownBy (flat_map parts c.args.types.now) x.world c.need.new.self) same c.in_ok-need.ensures.ok)
    (subst (λ (x : Declarations). x.world.budget < cells_with x.world (flat_map parts c.args.types.now) → ⊥) same c.in_ok-need.ensures.over) (let r = c.room-room.ensures.room in omega (arith, r))
