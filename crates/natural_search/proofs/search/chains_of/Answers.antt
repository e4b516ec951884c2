use Rattle.std.proofs.Common.{◌≡◌, ℕ, ◌<◌, List, length, get_or, map, ap, ◌∙◌, arith}
use Rattle.std.proofs.lemmas.List.{get_or-map, length-map}
use Rattle.natural_search.specs.declared.squares.Square.{Square}
use Rattle.natural_search.specs.Squares.{later_place}
use Rattle.natural_search.proofs.search.chains_of.Goals as goal

pub of-requires : goal.of-requires
of-requires c i within =
    let squares : List Square = c.args.squares.now in
    let d : Square = record { arrow = 0; element = 0; restricted = 0 } in
    let places : c.as_slice.result.now ≡ map later_place squares = c.as_slice.ensures ∙ c.in_ok-later.ensures in
    let low : i < length squares = omega (arith, within, ap length places, length-map squares later_place) in
    let at : get_or c.as_slice.result.now i 0 ≡ later_place (get_or squares i d) = ap (λ (l : List ℕ). get_or l i 0) places ∙ get_or-map later_place squares i d 0 low in
    omega (arith, at, c.requires.element i d low, c.requires.restricted i d low)
