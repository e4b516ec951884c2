-- The amalgamations of a family from an element on, and the first family that has not exactly one.
use Rattle.std.specs.Prelude.{ℕ, ◌-◌, ◌<◌, Bool, List, [], length, get_or, eqb, filter, Option}
use Rattle.std.specs.List.{list_all, range_with_len}
use Rattle.finite_lists.specs.Members.{In}
use Rattle.finite_lists.specs.First.{first}
use Rattle.topos_model.specs.categories.Category.{Category}
use Rattle.topos_model.specs.types.Types.{Presheaf}
use Rattle.topos_model.specs.Laws.{act, size}
use Rattle.topos_model.specs.topologies.Sheaves.{SheafFault, element_at, matching_families, amalgamations, not_one}

-- the element x has a restriction along each arrow of the list
abbrev pub AreRestrictedAlong : Presheaf → List ℕ → ℕ → Type 0
AreRestrictedAlong X S x = (f : ℕ) → In S f → (f < length X.along) × (x < length (get_or X.along f []))

abbrev pub restricts_to : Presheaf → List ℕ → List ℕ → ℕ → Bool
restricts_to X S family x = list_all (λ f. eqb (act X f x) (element_at S family f)) S

unfoldable pub amalgamations_from : Presheaf → ℕ → List ℕ → List ℕ → ℕ → List ℕ
amalgamations_from X c S family x = filter (restricts_to X S family) (range_with_len x (size X c - x))

abbrev pub fault_with : ℕ → List ℕ → List ℕ → Option (ℕ × ℕ) → SheafFault
fault_with c S family found = record { at = c; cover = S; family = family; found = found }

-- the fault of a family
abbrev pub fault_of : Presheaf → ℕ → List ℕ → List ℕ → Option SheafFault
fault_of X c S family = not_one c S family (amalgamations X c S family)

-- that of the first matching family on a sieve that has one
unfoldable pub fault_on : Category → Presheaf → ℕ → List ℕ → Option SheafFault
fault_on k X c S = first (fault_of X c S) (matching_families k X S)
