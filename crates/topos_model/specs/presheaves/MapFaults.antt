-- A map as it is listed, and its first fault.
use Rattle.std.specs.Prelude.{◌≡◌, ℕ, ◌<◌, Bool, cond, not, ◌&&◌, List, [], ◌∷◌, map, eqb, ltb, Option, None}
use Rattle.std.specs.List.{list_any, range_with_len}
use Rattle.finite_lists.specs.Members.{In, Distinct}
use Rattle.finite_lists.specs.First.{first, or_else, some_if}
use Rattle.topos_model.specs.declared.raw.RawEntry.{RawEntry}
use Rattle.topos_model.specs.declared.raw.RawMap.{RawMap}
use Rattle.topos_model.specs.declared.fault.Fault.{Fault}
use Rattle.topos_model.specs.declared.fault.Fault.TheVariants.{NoElement, MapNotTotal, NotNatural}
use Rattle.topos_model.specs.categories.Category.{Category, cod, arrows}
use Rattle.topos_model.specs.types.Types.{Presheaf}
use Rattle.topos_model.specs.Laws.{IsCategory, IsFunctor, size}
use Rattle.topos_model.specs.presheaves.Maps.{Components, apply, IsNatural}
use Rattle.topos_model.specs.presheaves.NaturalMaps.{commutes_at}

-- whether an entry is listed for x at c
unfoldable pub has_image : List RawEntry → ℕ → ℕ → Bool
has_image entries c x = list_any (λ e. eqb e.at c && eqb e.from x) entries

-- the number that is listed for x at c
abbrev pub listed_image : List RawEntry → ℕ → ℕ → ℕ
listed_image [] c x = 0
listed_image (e ∷ rest) c x = cond (eqb e.at c && eqb e.from x) e.to (listed_image rest c x)

-- the map with the listed entries
unfoldable pub listed_map : Category → Presheaf → RawMap → Components
listed_map k P raw = map (λ c. map (listed_image raw.entries c) (range_with_len 0 (size P c))) (range_with_len 0 k.objects)

-- the first number of an entry, left side first, that is no element's
unfoldable pub entry_fault : Presheaf → Presheaf → RawEntry → Option Fault
entry_fault P Q e =
    or_else (some_if (not (ltb e.from (size P e.at))) (NoElement e.at e.from))
    (some_if (not (ltb e.to (size Q e.at))) (NoElement e.at e.to))

-- the first x at c without an entry
unfoldable pub map_total_fault : Category → Presheaf → RawMap → Option Fault
map_total_fault k P raw =
    first (λ c. first (λ x. some_if (not (has_image raw.entries c x)) (MapNotTotal c x)) (range_with_len 0 (size P c))) (range_with_len 0 k.objects)

-- the first (f, x) with m(x.f) other than m(x).f
unfoldable pub naturality_fault : Category → Presheaf → Presheaf → Components → Option Fault
naturality_fault k P Q m =
    first (λ f. first (λ x. some_if (not (commutes_at k P Q m f x)) (NotNatural f x)) (range_with_len 0 (size P (cod k f)))) (arrows k)

unfoldable pub map_fault : Category → Presheaf → Presheaf → RawMap → Option Fault
map_fault k P Q raw =
    or_else (first (entry_fault P Q) raw.entries) (or_else (map_total_fault k P raw) (naturality_fault k P Q (listed_map k P raw)))

-- entries stand at objects, for each element at most one
pub record IsMapListing (k : Category) (raw : RawMap) : Type 0 where
  pub objects : (e : RawEntry) → In raw.entries e → e.at < k.objects
  pub once : Distinct {A = ℕ × ℕ} (map (λ e. (e.at, e.from)) raw.entries)

-- m has exactly the listed entries
pub record HasEntries (k : Category) (P : Presheaf) (raw : RawMap) (m : Components) : Type 0 where
  pub listed : (e : RawEntry) → In raw.entries e → (e.from < size P e.at) × (apply m e.at e.from ≡ e.to)
  pub total : (c x : ℕ) → c < k.objects → x < size P c → In raw.entries (record { at = c; from = x; to = apply m c x })

-- no fault is found exactly if some natural map has exactly the listed entries, and then there is exactly one
abbrev pub FaultlessListingsAreOneMap : Type 0
FaultlessListingsAreOneMap =
    (k : Category) (P Q : Presheaf) (raw : RawMap) → IsCategory k → IsFunctor k P → IsFunctor k Q → IsMapListing k raw →
    (map_fault k P Q raw ≡ None → HasEntries k P raw (listed_map k P raw) × IsNatural k P Q (listed_map k P raw)) ×
    ((m : Components) → HasEntries k P raw m → IsNatural k P Q m → (map_fault k P Q raw ≡ None) × (m ≡ listed_map k P raw))
