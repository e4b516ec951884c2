-- Objects that stand once, each with what it has.
use Rattle.std.specs.Prelude.{◌≡◌, ℕ, false, eqb, List, [], ◌∷◌, map}
use Rattle.std.specs.List.{list_any}
use Rattle.topos_text.specs.Names.{Name}

-- no object stands twice
abbrev pub Apart : List (ℕ × List Name) → Type 0
Apart [] = Unit {0}
Apart (e ∷ es) = (list_any (λ n. eqb n e.0) (map (λ stage. stage.0) es) ≡ false) × Apart es

pub record IsApart (es : List (ℕ × List Name)) : Type 0 where
  pub apart : Apart es
