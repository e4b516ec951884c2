use Rattle.std.proofs.Common.{◌≡◌, ◌+◌, ◌++◌, flat_map, sym, ap, ◌∙◌, arith}
use Rattle.std.specs.List.{range_with_len}
use Rattle.std.proofs.lemmas.List.{append_assoc}
use Rattle.topos_model.specs.categories.Category.{dom}
use Rattle.type_rows.proofs.FlatRows.{rows_more}
use Rattle.sealed_types.specs.Sealed.{sizes_in, restrictions_in}
use Rattle.function_objects.specs.Functions.{pair_squares, arrow_squares}
use Rattle.function_objects.proofs.squares.push_arrow_squares.Goals as goal

pub loop-w-preserved : goal.loop-w-preserved
loop-w-preserved c =
    let row = pair_squares c.args.cat.now (sizes_in c.args.store.now c.args.s) (restrictions_in c.args.store.now c.args.s) c.args.c c.args.f in
    c.in_ok-push_pair_squares.ensures ∙ ap (λ l. l ++ row c.loop-w.w) c.loop-w.invariant ∙ append_assoc c.args.squares.now (flat_map row (range_with_len 0 c.loop-w.w)) (row c.loop-w.w)
    ∙ ap (λ l. c.args.squares.now ++ l) (sym (rows_more row c.loop-w.w))

pub returns : goal.returns
unfolding arrow_squares
returns c =
    let size = sizes_in c.args.store.now c.args.s in
    let row = pair_squares c.args.cat.now size (restrictions_in c.args.store.now c.args.s) c.args.c c.args.f in
    c.loop-w.invariant
    ∙ ap (λ n. c.args.squares.now ++ flat_map row (range_with_len 0 n))
    ((let e : c.loop-w.w ≡ c.count-w-end.result = omega (arith, c.loop-w-test.false, c.loop-w.auto) in e) ∙ c.count-w-end.ensures.elements ∙ ap size c.dom.ensures.value)
