-- Categories and covers from their trees.
use Rattle.std.specs.Prelude.{ℕ, ◌+◌, cond, List, [], ◌∷◌, ◌++◌, map, length, get_or, eqb, Ok}
use Rattle.topos_model.specs.declared.raw.RawCat.{RawCat}
use Rattle.topos_model.specs.declared.raw.Family.{Family}
use Rattle.topos_model.specs.declared.fault.Kind.TheVariants as kind
use Rattle.topos_text.specs.Tokens.{Written}
use Rattle.topos_text.specs.Trees.{ArrowTree, Declared, Identity, SiteTree, Objects, Arrows, Composite, CoverTree}
use Rattle.topos_text.specs.Names.{Checked, ◌>>=◌, ◌>>◌, for_each, change_by, Limits, limit_fault, twice_fault, look_up, unknown, Space, names_of}

-- how many objects the statements declare
unfoldable pub objects_in : List SiteTree → ℕ
objects_in [] = 0
objects_in (Objects xs ∷ rest) = length xs + objects_in rest
objects_in (Arrows fs dom cod ∷ rest) = objects_in rest
objects_in (Composite g f h ∷ rest) = objects_in rest

-- before the statements
abbrev pub empty_space : List SiteTree → Space
empty_space statements = record { total = objects_in statements; objects = []; arrows = []; ends = []; listed = [] }

unfoldable pub object_of : Space → Written → Checked ℕ
object_of s x = look_up s.objects x

-- a declared arrow
unfoldable pub arrow_of : Space → Written → Checked ℕ
arrow_of s f = do
  k ← look_up s.arrows f
  Ok (s.total + k)

-- a declared arrow, or an identity
abbrev pub arrow_or_identity : Space → ArrowTree → Checked ℕ
arrow_or_identity s (Declared f) = arrow_of s f
arrow_or_identity s (Identity x) = object_of s x

abbrev pub end_of : Space → ℕ → ℕ × ℕ
end_of s k = get_or s.ends k (0, 0)

-- one among the arrows into U
unfoldable pub arrow_into : Space → ℕ → ArrowTree → Checked ℕ
arrow_into s U (Declared f) = do
  k ← look_up s.arrows f
  cond (eqb (end_of s k).1 U) (Ok (s.total + k)) (unknown f)
arrow_into s U (Identity x) = do
  V ← object_of s x
  cond (eqb V U) (Ok V) (unknown x)

module _ (limits : Limits) where
  -- an object counts as an arrow too
  unfoldable pub with_object : Space → Written → Checked Space
  with_object s x = do
    limit_fault kind.Objects (limits kind.Objects) (length s.objects)
    limit_fault kind.Arrows (limits kind.Arrows) (length s.objects + length s.arrows)
    twice_fault (names_of s) x
    Ok (record s { objects = s.objects ++ x.text ∷ [] })

  unfoldable pub with_arrow : Space → Written → Checked Space
  with_arrow s f = do
    limit_fault kind.Arrows (limits kind.Arrows) (length s.objects + length s.arrows)
    twice_fault (names_of s) f
    Ok (record s { arrows = s.arrows ++ f.text ∷ [] })

  -- the names after a statement of a category
  unfoldable pub site_statement : Space → SiteTree → Checked Space
  site_statement s (Objects xs) = change_by with_object s xs
  site_statement s (Arrows fs dom cod) = do
    t ← change_by with_arrow s fs
    A ← object_of s dom
    B ← object_of s cod
    Ok (record t { ends = t.ends ++ map (λ f. (A, B)) fs })
  site_statement s (Composite g f h) = do
    m ← arrow_of s g
    n ← arrow_of s f
    k ← arrow_or_identity s h
    Ok (record s { listed = s.listed ++ (m, n, k) ∷ [] })

-- the category by numbers
abbrev pub raw_category : Space → RawCat
raw_category s = record { objects = s.total; ends = s.ends; listed = s.listed }

unfoldable pub cover_of : Space → CoverTree → Checked Family
cover_of s c = do
  U ← object_of s c.object
  fs ← for_each (arrow_into s U) c.arrows
  Ok (record { at = U; arrows = fs })
