-- The numbers that may still stand at each place, as sets of residues, and how changes of them are taken back.
use Rattle.std.specs.Prelude.{◌≡◌, ℕ, ◌+◌, ◌*◌, ◌%◌, ◌<◌, Bool, true, eqb, List, [], ◌∷◌, ◌++◌, map, length, get_or, drop, slice_set, All}
use Rattle.std.specs.Int.{bit_at}
use Rattle.natural_search.specs.declared.squares.Square.{Square}
use Rattle.natural_search.specs.declared.domains.Change.{Change}
use Rattle.natural_search.specs.declared.domains.Domains.{Domains}
use Rattle.natural_search.specs.declared.links.Links.{Links}
use Rattle.natural_search.specs.Squares.{act, Fits, element_of, restricted_of, AreChains}

-- whether the bits of a word have the residue of a number modulo 64
unfoldable pub allows : ℕ → ℕ → Bool
allows mask v = eqb (bit_at mask (v % 64)) 1

-- at each place the number is allowed
abbrev pub AllAllowed : List ℕ → List ℕ → Type 0
AllAllowed masks values = (p : ℕ) → p < length masks → allows (get_or masks p 0) (get_or values p 0) ≡ true

-- the masks before these changes, the earliest of which comes first
unfoldable pub undone : List ℕ → List Change → List ℕ
undone masks [] = masks
undone masks (c ∷ changes) = slice_set (undone masks changes) c.place c.before

-- the masks before the changes from an index on
abbrev pub at_level : Domains → ℕ → List ℕ
at_level d level = undone d.masks.items (drop level d.trail.items)

-- each change is at one of the places
abbrev pub IsWhole : Domains → Type 0
IsWhole d = All (λ c. c.place < length d.masks.items) d.trail.items

-- some changes more, after those that were there
pub record Extends (d e : Domains) : Type 0 where
  pub whole : IsWhole e
  pub places : length e.masks.items ≡ length d.masks.items
  pub changes : List Change
  pub trail : e.trail.items ≡ d.trail.items ++ changes
  pub before : undone e.masks.items changes ≡ d.masks.items

-- The sets after some changes still allow each list of numbers with this property that they allowed before. Where the answer is false there is none.
pub record Narrows (G : List ℕ → Type 0) (d e : Domains) (some : Bool) : Type 0 where
  pub extends : Extends d e
  pub allowed : (values : List ℕ) → G values → AllAllowed d.masks.items values → (some ≡ true) × AllAllowed e.masks.items values

-- the numbers are elements, and all squares fit
pub record AllFit (along : List (List ℕ)) (squares : List Square) (values : List ℕ) : Type 0 where
  pub within : (s : ℕ) (d : Square) → s < length squares → get_or values (get_or squares s d).element 0 < length (get_or along (get_or squares s d).arrow [])
  pub fit : (s : ℕ) (d : Square) → s < length squares → Fits along values (get_or squares s d)

-- the squares by each of their two places
pub record AreLinks (places : ℕ) (squares : List Square) (links : Links) : Type 0 where
  pub below : AreChains places (map element_of squares) links.below.heads.items links.below.links
  pub above : AreChains places (map restricted_of squares) links.above.heads.items links.above.links

-- for each arrow and each residue a set that has the numbers which the restriction takes to numbers with the residue
pub record ArePreimages (along : List (List ℕ)) (masks : List ℕ) : Type 0 where
  pub places : length masks ≡ length along * 64
  pub each : (f w : ℕ) → f < length along → w < length (get_or along f []) → allows (get_or masks (f * 64 + act along f w % 64) 0) w ≡ true
