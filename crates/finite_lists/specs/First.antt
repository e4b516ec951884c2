-- The first answer that a test gives along a list.
use Rattle.std.specs.Prelude.{Bool, cond, List, [], ◌∷◌, Option, Some, None}

-- an answer, or else the later one
abbrev pub or_else : {A : Type 0} → Option A → Option A → Option A
or_else (Some a) later = Some a
or_else None later = later

abbrev pub first : {A B : Type 0} → (A → Option B) → List A → Option B
first test [] = None
first test (a ∷ rest) = or_else (test a) (first test rest)

abbrev pub some_if : {A : Type 0} → Bool → A → Option A
some_if test a = cond test (Some a) None
