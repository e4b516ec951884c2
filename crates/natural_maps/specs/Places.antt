-- The elements at all objects in one line: objects in order, and the elements of each in order.
use Rattle.std.specs.Prelude.{ℕ, zero, suc, ◌+◌, List, [], ◌∷◌, take, drop}

-- how many elements stand before those at c
abbrev pub offset : List ℕ → ℕ → ℕ
offset [] c = 0
offset (n ∷ sizes) zero = 0
offset (n ∷ sizes) (suc c) = n + offset sizes c

-- a list cut into pieces of these lengths
abbrev pub cut : {A : Type 0} → List ℕ → List A → List (List A)
cut [] xs = []
cut (n ∷ sizes) xs = take n xs ∷ cut sizes (drop n xs)
