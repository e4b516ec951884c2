use Rattle.std.proofs.Common.{◌≡◌, ◌+◌, ◌≤◌, ℕ, subst, arith}
use Rattle.std.proofs.lemmas.Result.{err_from_is_err_and}
use Rattle.sealed_world.specs.SealedWorlds.{world_cells}
use Rattle.topos_session.specs.declared.declarations.Declarations.{Declarations}
use Rattle.topos_session.specs.Declarations.{with_functor}
use Rattle.topos_session.proofs.MadeFunctors.{functor_made, construction_answered, construction_stopped, construction_unstored}
use Rattle.topos_session.proofs.answer.build.Goals as goal

pub returns-in-Err-clause-stop : goal.returns-in-Err-clause-stop
returns-in-Err-clause-stop c =
    let so = c.args.so.now in
    construction_stopped so.world.site.category so c.requires.lawful c.room-room.result c.args.stmt.now c.requires.construction c.requires.range c.requires.fits c.in-Err.stop (rw c.cat.ensures at c.in-Err.ensures.stop) c.room-room.ensures.room c.room-room.ensures.next

pub built-requires : goal.built-requires
built-requires c =
    let so = c.args.so.now in
    let made = c.in-Ok.made in
    record { functor = rw c.cat-2.ensures (functor_made so.world.site.category so c.requires.lawful c.args.stmt.now made.functor made.maps c.requires.construction c.requires.range c.in-Ok.ensures.made.parallel (rw c.cat.ensures at c.in-Ok.ensures.made.property)) }

fits : (old new : Declarations) (room : ℕ) → new ≡ old → room + world_cells new.world ≡ new.world.budget → world_cells old.world ≤ old.world.budget
fits old new room e r = subst (λ (d : Declarations). world_cells d.world ≤ d.world.budget) e (omega (arith, r))

pub returns-clause-answer : goal.returns-clause-answer
returns-clause-answer c =
    let so = c.args.so.now in
    let made = c.in-Ok.made in
    let within = fits (with_functor so made.functor made.maps) c.declare.new.self c.room-room-2.result c.in_ok-declare.ensures.ok c.room-room-2.ensures.room in
    rw c.in_ok-declare.ensures.ok (construction_answered so.world.site.category so c.requires.lawful c.room-room.result c.args.stmt.now c.requires.construction c.requires.range c.requires.fits made
    c.in_ok-answer.answer (rw c.cat.ensures at c.in-Ok.ensures.made) (rw c.cat-2.ensures at c.in_ok-answer.ensures) within)

pub returns-in_err-declare-clause-stop : goal.returns-in_err-declare-clause-stop
returns-in_err-declare-clause-stop c =
    let so = c.args.so.now in
    let p = err_from_is_err_and c.from_residual-in_err-declare.result c.from_residual-in_err-declare.ensures.1 in
    rw (p.1, p.2) (construction_unstored so.world.site.category so c.requires.lawful c.room-room.result c.args.stmt.now c.requires.construction c.requires.range c.requires.fits c.in-Ok.made c.in_err-declare.field-0.0
    (rw c.cat.ensures at c.in-Ok.ensures.made) c.in_err-declare.ensures.over)
