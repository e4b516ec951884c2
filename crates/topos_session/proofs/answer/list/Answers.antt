use Rattle.std.proofs.Common.{◌≡◌, ◌+◌, ◌≤◌, ℕ, subst, arith}
use Rattle.std.proofs.lemmas.Result.{err_from_is_err_and}
use Rattle.sealed_world.specs.SealedWorlds.{CountedWorld, world_cells}
use Rattle.sealed_world.specs.SealedWorlds as world
use Rattle.topos_session.proofs.StatementAnswers.{maps_listed, maps_unlisted}
use Rattle.topos_session.proofs.answer.list.Goals as goal

fits : (old new : CountedWorld) (room : ℕ) → new ≡ old → room + world_cells new ≡ new.budget → world_cells old ≤ old.budget
fits old new room e r = subst (λ (w : CountedWorld). world_cells w ≤ w.budget) e (omega (arith, r))

pub returns-in_err-listed-clause-stop : goal.returns-in_err-listed-clause-stop
returns-in_err-listed-clause-stop c =
    let so = c.args.so.now in
    let p = err_from_is_err_and c.from_residual.result c.from_residual.ensures.1 in
    rw (p.1, p.2) (maps_unlisted so.world.site.category so c.requires.fits c.args.ends.0 c.args.ends.1 c.room-room.result c.in_err-listed.field-0.0 c.room-room.ensures.room
    (rw (c.cat.ensures, c.functor.ensures, c.functor-2.ensures) at c.in_err-listed.ensures.stop))

pub returns-clause-answer : goal.returns-clause-answer
returns-clause-answer c =
    let so = c.args.so.now in
    let listed = c.in_ok-listed.listed in
    let within = fits (world.with_charges so.world listed.cells) c.charge.new.self c.room-room-2.result c.in_default.ensures.ok.0 c.room-room-2.ensures.room in
    rw c.in_default.ensures.ok.0 (maps_listed so.world.site.category so c.requires.fits c.args.ends.0 c.args.ends.1 c.room-room.result listed (rw (c.cat.ensures, c.functor.ensures, c.functor-2.ensures) at c.in_ok-listed.ensures.hom) c.requires.lawful within)
