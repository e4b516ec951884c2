use Rattle.topos_model.specs.categories.Category.{into}
use Rattle.fin_category.specs.ArrowSets.{arrows_in}
use Rattle.omega_object.proofs.Precedence.{mapped_pushed}
use Rattle.omega_object.proofs.tables.into_each.Goals as goal

pub loop-c-preserved : goal.loop-c-preserved
loop-c-preserved c = mapped_pushed arrows_in (into c.args.cat.now) c.loop-c.row c.push.new.self c.into.result c.loop-c.c c.in_ok-push.ensures.ok c.loop-c.invariant c.into.ensures
