use Rattle.std.proofs.Common.{refl, sym, subst, ◌∙◌}
use Rattle.formula_answers.specs.MapTables.{table_at}
use Rattle.topos_session.specs.Constructions.{IsFunctorMap}
use Rattle.topos_session.proofs.LargeConstructions.{some_map, no_map}
use Rattle.topos_session.proofs.MadeFunctors.{functor_map_lawful}
use Rattle.topos_session.proofs.constructions.one_map.Goals as goal

pub returns-in-Some-clause-is : goal.returns-in-Some-clause-is
returns-in-Some-clause-is c = (some_map (table_at c.args.so.now.maps c.args.m) c.in-Some.map (sym c.in-Some.is ∙ c.in_ok-map.ensures)).1

pub returns-in-Some-clause-between : goal.returns-in-Some-clause-between
returns-in-Some-clause-between c = (some_map (table_at c.args.so.now.maps c.args.m) c.in-Some.map (sym c.in-Some.is ∙ c.in_ok-map.ensures)).0

pub returns-in-Some-clause-lawful : goal.returns-in-Some-clause-lawful
returns-in-Some-clause-lawful c =
    let so = c.args.so.now in
    let found = some_map (table_at so.maps c.args.m) c.in-Some.map (sym c.in-Some.is ∙ c.in_ok-map.ensures) in
    subst (IsFunctorMap c.args.cat.now so.world.functors) (sym found.1) (functor_map_lawful c.args.cat.now so c.requires.lawful c.args.m c.requires.number found.0)

pub returns-in-None-clause-stop : goal.returns-in-None-clause-stop
returns-in-None-clause-stop c = (refl, no_map (table_at c.args.so.now.maps c.args.m) (sym c.in-None.is ∙ c.in_ok-map.ensures))
