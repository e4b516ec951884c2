-- The components that listed images give, and the first instance at which they do not commute with a restriction.
use Rattle.std.specs.Prelude.{◌≡◌, ℕ, ◌+◌, ◌<◌, Bool, true, false, not, List, map, length, get_or, Option, Some, None}
use Rattle.std.specs.List.{range_with_len}
use Rattle.std.specs.Option.{option_map}
use Rattle.finite_lists.specs.First.{first, some_if}
use Rattle.topos_model.specs.declared.raw.RawEntry.{RawEntry}
use Rattle.topos_model.specs.declared.fault.Fault.{Fault}
use Rattle.topos_model.specs.declared.fault.Fault.TheVariants.{MapNotTotal}
use Rattle.topos_model.specs.categories.Category.{Category, cod, arrows}
use Rattle.topos_model.specs.types.Types.{Presheaf}
use Rattle.topos_model.specs.Laws.{size}
use Rattle.topos_model.specs.presheaves.Maps.{Components, component, apply}
use Rattle.topos_model.specs.presheaves.MapFaults.{has_image, listed_image}
use Rattle.topos_model.specs.presheaves.NaturalMaps.{commutes_at}

-- an image, and 0 where there is none
abbrev pub number : Option ℕ → ℕ
number (Some y) = y
number None = 0

abbrev pub is_missing : Option ℕ → Bool
is_missing (Some y) = false
is_missing None = true

-- the image at a place after the start
abbrev pub number_from : List (Option ℕ) → ℕ → ℕ → ℕ
number_from images start x = number (get_or images (start + x) None)

-- x at c, if its image, after the start, is missing
abbrev pub missing_at : List (Option ℕ) → ℕ → ℕ → ℕ → Option Fault
missing_at images start c x = some_if (is_missing (get_or images (start + x) None)) (MapNotTotal c x)

-- the listed images of so many elements at each object
abbrev pub listed_component : List ℕ → List RawEntry → ℕ → List ℕ
listed_component sizes entries c = map (listed_image entries c) (range_with_len 0 (get_or sizes c 0))

-- the first element at c without a listed image
abbrev pub unlisted_at : List ℕ → List RawEntry → ℕ → Option Fault
unlisted_at sizes entries c = first (λ x. some_if (not (has_image entries c x)) (MapNotTotal c x)) (range_with_len 0 (get_or sizes c 0))

-- one component for each object, each with one element of Q for each element of P
pub record AreComponents (k : Category) (P Q : Presheaf) (m : Components) : Type 0 where
  pub objects : length m ≡ k.objects
  pub total : (c : ℕ) → c < k.objects → length (component m c) ≡ size P c
  pub within : (c x : ℕ) → c < k.objects → x < size P c → apply m c x < size Q c

-- x, if m(x.f) is other than m(x).f
abbrev pub square_at : Category → Presheaf → Presheaf → Components → ℕ → ℕ → Option ℕ
square_at k P Q m f x = some_if (not (commutes_at k P Q m f x)) x

-- the first such x
unfoldable pub square_from : Category → Presheaf → Presheaf → Components → ℕ → Option ℕ
square_from k P Q m f = first (square_at k P Q m f) (range_with_len 0 (size P (cod k f)))

-- f with it
abbrev pub pair_from : Category → Presheaf → Presheaf → Components → ℕ → Option (ℕ × ℕ)
pair_from k P Q m f = option_map (λ x. (f, x)) (square_from k P Q m f)

-- the first (f, x) of all
unfoldable pub failing_square : Category → Presheaf → Presheaf → Components → Option (ℕ × ℕ)
failing_square k P Q m = first (pair_from k P Q m) (arrows k)
