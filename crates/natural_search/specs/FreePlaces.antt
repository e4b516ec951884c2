-- Places that no square has: any number below the bound may stand there.
use Rattle.std.specs.Prelude.{ℕ, zero, suc, ◌+◌, ◌*◌, Bool, not, cond, eqb, ◌||◌, List, get_or}
use Rattle.std.specs.List.{list_all}
use Rattle.natural_search.specs.declared.squares.Square.{Square}

-- whether it is one of the two places of a square
abbrev pub has_place : ℕ → Square → Bool
has_place p s = eqb s.element p || eqb s.restricted p

unfoldable pub is_free : List Square → ℕ → Bool
is_free squares p = list_all (λ s. not (has_place p s)) squares

-- the product of the bounds at the free ones among n places, the first of which is p
unfoldable pub free_choices : List Square → List ℕ → ℕ → ℕ → ℕ
free_choices squares bounds p zero = 1
free_choices squares bounds p (suc n) = cond (is_free squares p) (get_or bounds p 0) 1 * free_choices squares bounds (p + 1) n
