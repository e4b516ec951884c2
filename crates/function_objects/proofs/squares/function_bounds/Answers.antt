use Rattle.std.proofs.Common.{flat_map, replicate, ap, ◌∙◌, arith}
use Rattle.std.proofs.lemmas.List.{take_all}
use Rattle.topos_model.specs.categories.Category.{dom}
use Rattle.sealed_types.specs.Sealed.{sizes_in}
use Rattle.function_objects.specs.Functions.{function_bounds}
use Rattle.function_objects.proofs.squares.function_bounds.Goals as goal

pub returns : goal.returns
unfolding function_bounds
returns c =
    c.loop-f.invariant
    ∙ ap (flat_map (λ f. replicate (sizes_in c.args.store.now c.args.s (dom c.args.cat.now f)) (sizes_in c.args.store.now c.args.t (dom c.args.cat.now f))))
    (take_all c.loop-f.f-index c.arrows_into-f-items.result.now (omega (arith, c.loop-f-test.false)) ∙ c.arrows_into-f-items.ensures.value)
