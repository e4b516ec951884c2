use Rattle.topos_session.proofs.StatementAnswers.{map_declared}
use Rattle.topos_session.proofs.answer.declare_map.Goals as goal

pub returns-clause-answer : goal.returns-clause-answer
returns-clause-answer c =
    let so = c.args.so.now in
    let m = c.in_ok-map in
    rw (c.in_ok-append.ensures.ok, c.in_ok-push.ensures.ok, c.between.ensures, c.new-tables.ensures) (map_declared so.world.site.category so c.requires.fits c.args.number c.args.ends.0 c.args.ends.1 c.args.raw.now m.map
    (rw (c.cat.ensures, c.functor.ensures) at m.ensures.map) (rw (c.cat.ensures, c.functor.ensures, c.functor-2.ensures) at m.ensures.faultless) c.requires.lawful c.requires.domain c.requires.codomain
    (rw (c.cat.ensures, c.functor.ensures, c.functor-2.ensures) at m.ensures.natural))
