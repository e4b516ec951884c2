use Rattle.std.proofs.Common.{◌≡◌, ◌<◌, ℕ, List, length, get_or, map, ap, ◌∙◌, arith}
use Rattle.std.proofs.lemmas.List.{get_or-map, length-map}
use Rattle.natural_search.specs.declared.squares.Square.{Square}
use Rattle.natural_search.specs.Squares.{element_of, restricted_of}
use Rattle.natural_search.proofs.links.Links.of.Goals as goal

none : Square
none = record { arrow = 0; element = 0; restricted = 0 }

pub of-requires : goal.of-requires
of-requires c i within =
    let squares : List Square = c.args.squares.now in
    let places : c.as_slice.result.now ≡ map element_of squares = c.as_slice.ensures ∙ c.in_ok-elements.ensures in
    let low : i < length squares = omega (arith, within, ap length places, length-map squares element_of) in
    let at : get_or c.as_slice.result.now i 0 ≡ element_of (get_or squares i none) = ap (λ (l : List ℕ). get_or l i 0) places ∙ get_or-map element_of squares i none 0 low in
    omega (arith, at, c.requires.element i none low)

pub of-requires-2 : goal.of-requires-2
of-requires-2 c i within =
    let squares : List Square = c.args.squares.now in
    let places : c.as_slice-2.result.now ≡ map restricted_of squares = c.as_slice-2.ensures ∙ c.in_ok-restrictions.ensures in
    let low : i < length squares = omega (arith, within, ap length places, length-map squares restricted_of) in
    let at : get_or c.as_slice-2.result.now i 0 ≡ restricted_of (get_or squares i none) = ap (λ (l : List ℕ). get_or l i 0) places ∙ get_or-map restricted_of squares i none 0 low in
    omega (arith, at, c.requires.restricted i none low)
