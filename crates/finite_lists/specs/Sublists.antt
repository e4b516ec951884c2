-- The sublists of a list, in order.
use Rattle.std.specs.Prelude.{List, [], ◌∷◌, ◌++◌, map}

-- those without the first member stand before those with it
unfoldable pub sublists : {A : Type 0} → List A → List (List A)
sublists [] = [] ∷ []
sublists (a ∷ rest) = sublists rest ++ map (λ s. a ∷ s) (sublists rest)
