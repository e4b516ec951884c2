use Rattle.std.proofs.Common.{◌≡◌, ◌++◌, ◌∷◌, [], List, ℕ, length, map, sym, ap, ◌∙◌, arith}
use Rattle.std.specs.List.{range_with_len}
use Rattle.std.proofs.lemmas.List.FromFn.{map-range_with_len_more}
use Rattle.topos_model.specs.categories.Category.{cod}
use Rattle.sealed_types.specs.Sealed.{sizes_in, restrictions_in}
use Rattle.function_objects.specs.Functions.{restriction_table}
use Rattle.function_objects.proofs.squares.restriction_table.Goals as goal

pub loop-f-preserved : goal.loop-f-preserved
loop-f-preserved c =
    let row : ℕ → List ℕ = λ f. map (restrictions_in c.args.store.now c.args.t f) (range_with_len 0 (sizes_in c.args.store.now c.args.t (cod c.args.cat.now f))) in
    c.in_ok-push.ensures.ok ∙ ap (λ (r : List ℕ). c.loop-f.table ++ r ∷ []) c.in_ok-restrictions_along.ensures ∙ ap (λ (l : List (List ℕ)). l ++ row c.loop-f.f ∷ []) c.loop-f.invariant
    ∙ sym (map-range_with_len_more row 0 c.loop-f.f c.loop-f.f (omega arith))

pub returns : goal.returns
unfolding restriction_table
returns c =
    let row : ℕ → List ℕ = λ f. map (restrictions_in c.args.store.now c.args.t f) (range_with_len 0 (sizes_in c.args.store.now c.args.t (cod c.args.cat.now f))) in
    c.loop-f.invariant ∙ ap (λ n. map row (range_with_len 0 n)) (let e : c.loop-f.f ≡ length c.args.cat.now.ends = omega (arith, c.loop-f-test.false, c.loop-f.auto, c.arrows-f-end.ensures.count) in e)
