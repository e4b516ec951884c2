-- Lists of spellings, with commas between them.
use Rattle.std.specs.Prelude.{ℕ, zero, suc, List, [], codes}
use Rattle.std.specs.List.{join_by}

abbrev pub comma_separated : {X : Type 0} → (X → List ℕ) → List X → List ℕ
comma_separated spelling items = join_by spelling (codes ", ") items

-- what stands before the item number i of such a list
abbrev pub separator : ℕ → List ℕ
separator zero = []
separator (suc i) = codes ", "
