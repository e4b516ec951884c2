-- The squares of a map in one line of numbers.
use Rattle.std.specs.Prelude.{ℕ, ◌+◌, ◌-◌, List, map, length, flat_map}
use Rattle.std.specs.List.{range_with_len}
use Rattle.topos_model.specs.categories.Category.{Category, dom, cod}
use Rattle.topos_model.specs.types.Types.{Presheaf}
use Rattle.topos_model.specs.Laws.{act, size}
use Rattle.natural_search.specs.declared.squares.Square.{Square}
use Rattle.natural_maps.specs.Places.{offset}

-- the square of the element x at the codomain of f
abbrev pub square_of : Category → Presheaf → ℕ → ℕ → Square
square_of k P f x = record { arrow = f; element = offset P.sizes (cod k f) + x; restricted = offset P.sizes (dom k f) + act P f x }

-- the squares at f
abbrev pub squares_along : Category → Presheaf → ℕ → List Square
squares_along k P f = map (square_of k P f) (range_with_len 0 (size P (cod k f)))

-- the squares at all arrows but the identities
abbrev pub squares_of : Category → Presheaf → List Square
squares_of k P = flat_map (squares_along k P) (range_with_len k.objects (length k.ends - k.objects))
