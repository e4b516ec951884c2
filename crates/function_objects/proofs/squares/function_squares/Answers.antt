use Rattle.std.proofs.Common.{flat_map, ap, ◌∙◌, arith}
use Rattle.std.proofs.lemmas.List.{take_all}
use Rattle.sealed_types.specs.Sealed.{sizes_in, restrictions_in}
use Rattle.function_objects.specs.Functions.{arrow_squares, function_squares}
use Rattle.function_objects.proofs.squares.function_squares.Goals as goal

pub returns : goal.returns
unfolding function_squares
returns c =
    c.loop-f.invariant
    ∙ ap (flat_map (arrow_squares c.args.cat.now (sizes_in c.args.store.now c.args.s) (restrictions_in c.args.store.now c.args.s) c.args.c))
    (take_all c.loop-f.f-index c.arrows_into-f-items.result.now (omega (arith, c.loop-f-test.false)) ∙ c.arrows_into-f-items.ensures.value)
