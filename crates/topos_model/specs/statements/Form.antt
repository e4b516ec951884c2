-- Raw data whose numbers are in range.
use Rattle.std.specs.Prelude.{ℕ, ◌+◌, Bool, true, false, ◌&&◌, not, List, [], ◌∷◌, length, get_or, eqb, ltb, leb, map}
use Rattle.std.specs.List.{list_all}
use Rattle.topos_model.specs.declared.raw.RawCat.{RawCat}
use Rattle.topos_model.specs.declared.raw.RawAlong.{RawAlong}
use Rattle.topos_model.specs.declared.raw.RawFunctor.{RawFunctor}
use Rattle.topos_model.specs.declared.raw.RawEntry.{RawEntry}
use Rattle.topos_model.specs.categories.Category.{has}
use Rattle.topos_model.specs.categories.Listed.{all_ends}
use Rattle.topos_model.specs.presheaves.MapFaults.{has_image}

-- how many objects and arrows a category may have, the identities among the arrows
abbrev pub max_objects : ℕ
max_objects = 128

abbrev pub max_arrows : ℕ
max_arrows = 512

-- whether no number stands twice
unfoldable pub are_distinct : List ℕ → Bool
are_distinct [] = true
are_distinct (n ∷ rest) = not (has n rest) && are_distinct rest

-- how many elements a declared presheaf may have at an object
abbrev pub max_elements : ℕ
max_elements = 256

-- a declared arrow, each element at its codomain with at most one entry, and elements at its domain
abbrev pub along_fits : ℕ → List (ℕ × ℕ) → List ℕ → RawAlong → Bool
along_fits objects ends sizes a =
    leb objects a.arrow && ltb a.arrow (length ends)
    && list_all (λ e. ltb e.0 (get_or sizes (get_or ends a.arrow (0, 0)).1 0) && ltb e.1 (get_or sizes (get_or ends a.arrow (0, 0)).0 0)) a.entries
    && are_distinct (map (λ e. e.0) a.entries)

-- a listed composite of declared arrows, and an arrow for it
abbrev pub is_listed_composite : ℕ → ℕ → ℕ × ℕ × ℕ → Bool
is_listed_composite objects arrows e = leb objects e.0 && ltb e.0 arrows && leb objects e.1 && ltb e.1 arrows && ltb e.2 arrows

-- not too many objects and arrows, the ends are objects, and composites of declared arrows are listed
unfoldable pub is_category_listing : RawCat → Bool
is_category_listing raw =
    leb raw.objects max_objects && leb (raw.objects + length raw.ends) max_arrows
    && list_all (λ e. ltb e.0 raw.objects && ltb e.1 raw.objects) raw.ends
    && list_all (is_listed_composite raw.objects (length (all_ends raw))) raw.listed

-- on a category with these ends: a size for each object, and along declared arrows, each at most once, at most one entry for each element
unfoldable pub is_presheaf_listing : ℕ → List (ℕ × ℕ) → RawFunctor → Bool
is_presheaf_listing objects ends raw =
    eqb (length raw.sizes) objects && list_all (λ n. leb n max_elements) raw.sizes
    && list_all (along_fits objects ends raw.sizes) raw.along && are_distinct (map (λ a. a.arrow) raw.along)

-- entries of a map stand at objects, for each element at most one
unfoldable pub is_map_listing : ℕ → List RawEntry → Bool
is_map_listing objects [] = true
is_map_listing objects (e ∷ rest) = ltb e.at objects && not (has_image rest e.at e.from) && is_map_listing objects rest
