use Rattle.std.proofs.Common.{◌++◌, ◌∷◌, [], List, ℕ, sym, ap, ◌∙◌, arith}
use Rattle.std.proofs.lemmas.List.FromFn.{map-range_with_len_more}
use Rattle.sealed_types.specs.Sealed.{restrictions_in}
use Rattle.function_objects.proofs.squares.restrictions_along.Goals as goal

pub loop-y-preserved : goal.loop-y-preserved
loop-y-preserved c =
    let move = restrictions_in c.args.store.now c.args.t c.args.f in
    c.in_ok-push.ensures.ok ∙ ap (λ (n : ℕ). c.loop-y.row ++ n ∷ []) c.restrict.ensures.number ∙ ap (λ (l : List ℕ). l ++ move c.loop-y.y ∷ []) c.loop-y.invariant
    ∙ sym (map-range_with_len_more move 0 c.loop-y.y c.loop-y.y (omega arith))
