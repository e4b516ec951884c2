use Rattle.std.proofs.Common.{length, sym, ◌∙◌, arith}
use Rattle.presheaf_core.specs.Functoriality.{instance_from, failing_instance}
use Rattle.presheaf_core.proofs.SearchFrom.{first_from-start, first_from-none}
use Rattle.presheaf_core.proofs.functoriality.failing_instance.Goals as goal

pub loop-g-init : goal.loop-g-init
unfolding failing_instance
loop-g-init c = first_from-start (instance_from c.args.cat.now c.args.functor.now) (length c.args.cat.now.ends)

pub loop-g-preserved : goal.loop-g-preserved
loop-g-preserved c =
    c.loop-g.invariant
    ∙ first_from-none (instance_from c.args.cat.now c.args.functor.now) c.loop-g.g (length c.args.cat.now.ends) (omega (arith, c.arrows-g-end.ensures.count)) (sym c.in_default.ensures)
