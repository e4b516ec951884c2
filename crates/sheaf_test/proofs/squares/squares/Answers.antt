use Rattle.std.proofs.Common.{◌≡◌, List, ◌++◌, length, flat_map, ap, ◌∙◌, arith}
use Rattle.std.specs.List.{range_with_len}
use Rattle.natural_search.specs.declared.squares.Square.{Square}
use Rattle.sheaf_test.specs.Families.{squares_at, squares_of}
use Rattle.sheaf_test.proofs.FamilyPlaces.{joined_more}
use Rattle.sheaf_test.proofs.squares.squares.Goals as goal

pub loop-i-preserved : goal.loop-i-preserved
loop-i-preserved c =
    let at = squares_at c.args.cat.now c.args.arrows.now in
    c.in_ok-push_squares.ensures ∙ ap (λ (l : List Square). l ++ at c.loop-i.i) c.loop-i.invariant ∙ joined_more at c.loop-i.i

pub returns : goal.returns
unfolding squares_of
returns c =
    let all : c.loop-i.i ≡ length c.args.arrows.now = omega (arith, c.loop-i.auto.i-end, c.loop-i-test.false) in
    c.loop-i.invariant ∙ ap (λ n. flat_map (squares_at c.args.cat.now c.args.arrows.now) (range_with_len 0 n)) all
