use Rattle.std.proofs.Common.{ℕ, ◌+◌, ◌++◌, [], ◌∷◌, List, map, get_or, ap, sym, ◌∙◌, arith, append_assoc}
use Rattle.std.specs.List.{range_with_len}
use Rattle.std.proofs.lemmas.List.FromFn.{map-range_with_len_more}
use Rattle.natural_search.specs.declared.squares.Square.{Square}
use Rattle.natural_maps.proofs.squares.push_squares.Goals as goal

pub loop-x-preserved : goal.loop-x-preserved
loop-x-preserved c =
    let f : ℕ → Square = λ x. record { arrow = c.args.arrow; element = c.args.elements + x; restricted = c.args.restrictions + get_or c.args.along.now x 0 } in
    c.in_ok-push.ensures.ok ∙ ap (λ (l : List Square). l ++ f c.loop-x.x ∷ []) c.loop-x.invariant
    ∙ append_assoc c.args.squares.now (map f (range_with_len 0 c.loop-x.x)) (f c.loop-x.x ∷ [])
    ∙ ap (λ (l : List Square). c.args.squares.now ++ l) (sym (map-range_with_len_more f 0 c.loop-x.x c.loop-x.x (omega arith)))
