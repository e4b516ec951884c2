use Rattle.std.proofs.Common.{length, sym, ap, ◌∙◌, arith}
use Rattle.std.specs.Option.{option_map}
use Rattle.natural_maps.specs.Components.{pair_from, failing_square}
use Rattle.presheaf_core.proofs.SearchFrom.{first_from-start, first_from-none}
use Rattle.natural_maps.proofs.naturality.failing_square.Goals as goal

pub loop-f-init : goal.loop-f-init
unfolding failing_square
loop-f-init c = first_from-start (pair_from c.args.cat.now c.args.p.now c.args.q.now c.args.rows.now) (length c.args.cat.now.ends)

pub loop-f-preserved : goal.loop-f-preserved
loop-f-preserved c =
    c.loop-f.invariant
    ∙ first_from-none (pair_from c.args.cat.now c.args.p.now c.args.q.now c.args.rows.now) c.loop-f.f (length c.args.cat.now.ends) (omega (arith, c.arrows-f-end.ensures.count)) (ap (option_map (λ x. (c.loop-f.f, x))) (sym c.in_default.ensures))
