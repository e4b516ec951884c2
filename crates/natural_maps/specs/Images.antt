-- The images that a listed map gives, element by element.
use Rattle.std.specs.Prelude.{◌≡◌, ℕ, ◌+◌, ◌<◌, ◌&&◌, eqb, List, length, get_or, Option, None}
use Rattle.finite_lists.specs.First.{first, some_if}
use Rattle.topos_model.specs.declared.raw.RawEntry.{RawEntry}
use Rattle.natural_maps.specs.Places.{offset}

-- the number that is listed for x at c
abbrev pub image_at : List RawEntry → ℕ → ℕ → Option ℕ
image_at entries c x = first (λ e. some_if (eqb e.at c && eqb e.from x) e.to) entries

-- one image for each element, all in one line
pub record AreImages (sizes : List ℕ) (entries : List RawEntry) (images : List (Option ℕ)) : Type 0 where
  pub places : length images ≡ offset sizes (length sizes)
  pub each : (c x : ℕ) → c < length sizes → x < get_or sizes c 0 → get_or images (offset sizes c + x) None ≡ image_at entries c x

-- an entry goes from an element at an object
abbrev pub AreWithin : List ℕ → List RawEntry → Type 0
AreWithin sizes entries = (i : ℕ) (d : RawEntry) → i < length entries → ((get_or entries i d).at < length sizes) × ((get_or entries i d).from < get_or sizes (get_or entries i d).at 0)
