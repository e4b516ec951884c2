use Rattle.std.proofs.Common.{◌≡◌, ◌+◌, ◌≤◌, ℕ, subst, arith}
use Rattle.std.proofs.lemmas.Result.{err_from_is_err_and}
use Rattle.sealed_world.specs.SealedWorlds.{CountedWorld, world_cells}
use Rattle.sealed_world.specs.SealedWorlds as world
use Rattle.topos_session.proofs.StatementAnswers.{presheaf_declared, presheaf_unstored}
use Rattle.topos_session.proofs.answer.declare_presheaf.Goals as goal

fits : (old new : CountedWorld) (room : ℕ) → new ≡ old → room + world_cells new ≡ new.budget → world_cells old ≤ old.budget
fits old new room e r = subst (λ (w : CountedWorld). world_cells w ≤ w.budget) e (omega (arith, r))

pub returns-clause-answer : goal.returns-clause-answer
returns-clause-answer c =
    let so = c.args.so.now in
    let X = c.in_ok-listed.listed in
    let within = fits (world.with_presheaf so.world X) c.declare.new.self c.room-room.result c.in_ok-declare.ensures.ok c.room-room.ensures.room in
    rw c.in_ok-declare.ensures.ok (presheaf_declared so.world.site.category so c.requires.fits c.args.functor c.args.raw.now X (rw c.cat.ensures at c.in_ok-listed.ensures.presheaf) (rw c.cat.ensures at c.in_ok-listed.ensures.faultless)
    c.requires.lawful (rw c.cat.ensures at c.in_ok-listed.ensures.lawful) within)

pub returns-in_err-declare-clause-stop : goal.returns-in_err-declare-clause-stop
returns-in_err-declare-clause-stop c =
    let so = c.args.so.now in
    let p = err_from_is_err_and c.from_residual-in_err-declare.result c.from_residual-in_err-declare.ensures.1 in
    rw (p.1, p.2) (presheaf_unstored so.world.site.category so c.requires.fits c.args.functor c.args.raw.now c.in_ok-listed.listed (rw c.cat.ensures at c.in_ok-listed.ensures.presheaf) (rw c.cat.ensures at c.in_ok-listed.ensures.faultless)
    c.in_err-declare.field-0.0 c.in_err-declare.ensures.over)
