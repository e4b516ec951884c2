-- What stands before the entries behind a colon.
use Rattle.std.specs.Prelude.{ℕ, zero, suc, List, codes}

-- a space before the first one, and a comma and a space before each other
abbrev pub lead : ℕ → List ℕ
lead zero = codes " "
lead (suc i) = codes ", "
