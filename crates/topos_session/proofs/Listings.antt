-- The tests of a listed presheaf, one after another.
use Rattle.std.proofs.Common.{◌≡◌, ℕ, ◌<◌, ◌≤◌, Bool, true, false, ◌&&◌, List, [], ◌∷◌, length, get_or, map, eqb, ltb, leb, refl, sym, ◌∙◌}
use Rattle.std.specs.List.{list_all}
use Rattle.std.proofs.lemmas.Bool.{and_parts, and_left, and_right, le-leb, lt-ltb}
use Rattle.std.proofs.lemmas.List.Folds.{list_all-map}
use Rattle.topos_model.specs.declared.raw.RawAlong.{RawAlong}
use Rattle.topos_model.specs.declared.raw.RawFunctor.{RawFunctor}
use Rattle.topos_model.specs.statements.Form.{are_distinct, along_fits, is_presheaf_listing, max_elements}

-- a test that follows from another, for all members
all_weaker : {A : Type 0} (p q : A → Bool) (xs : List A) → ((x : A) → p x ≡ true → q x ≡ true) → list_all p xs ≡ true → list_all q xs ≡ true
all_weaker p q [] imply e = refl
all_weaker p q (x ∷ xs) imply e =
    let (here, later) = and_parts (p x) (list_all p xs) e in
    rw (imply x here, all_weaker p q xs imply later) refl

pub from_range : (entries : List (ℕ × ℕ)) (m n : ℕ) → list_all (λ e. ltb e.0 m && ltb e.1 n) entries ≡ true → list_all (λ e. ltb e.0 m) entries ≡ true
from_range entries m n = all_weaker _ _ entries (λ e t. (and_parts (ltb e.0 m) (ltb e.1 n) t).0)

pub entered_below : (entries : List (ℕ × ℕ)) (size : ℕ) → list_all (λ e. ltb e.0 size) entries ≡ true → list_all (λ n. ltb n size) (map (λ e. e.0) entries) ≡ true
entered_below entries size each = list_all-map (λ n. ltb n size) (λ e. e.0) entries ∙ each

pub listed_below : (along : List RawAlong) (number : ℕ) → list_all (λ a. ltb a.arrow number) along ≡ true → list_all (λ n. ltb n number) (map (λ a. a.arrow) along) ≡ true
listed_below along number each = list_all-map (λ n. ltb n number) (λ a. a.arrow) along ∙ each

pub fitting_arrows : (objects : ℕ) (ends : List (ℕ × ℕ)) (sizes : List ℕ) (along : List RawAlong) → list_all (along_fits objects ends sizes) along ≡ true → list_all (λ a. ltb a.arrow (length ends)) along ≡ true
fitting_arrows objects ends sizes along =
    all_weaker _ _ along (λ a fits. let (most, once) = and_parts _ _ fits in let (range, entries) = and_parts _ _ most in (and_parts _ _ range).1)

-- the parts of the test of a listed presheaf, each after those before it
module _ (objects : ℕ) (ends : List (ℕ × ℕ)) (raw : RawFunctor) where
  abbrev sized : Bool
  sized = eqb (length raw.sizes) objects && list_all (λ n. leb n max_elements) raw.sizes

  abbrev fitting : Bool
  fitting = list_all (along_fits objects ends raw.sizes) raw.along

  abbrev distinct : Bool
  distinct = are_distinct (map (λ a. a.arrow) raw.along)

  pub not_sized : sized ≡ false → false ≡ is_presheaf_listing objects ends raw
  unfolding is_presheaf_listing
  not_sized e = sym (and_left _ distinct (and_left sized fitting e))

  pub not_fitting : fitting ≡ false → false ≡ is_presheaf_listing objects ends raw
  unfolding is_presheaf_listing
  not_fitting e = sym (and_left _ distinct (and_right sized fitting e))

  pub listing_if_distinct : sized ≡ true → fitting ≡ true → distinct ≡ is_presheaf_listing objects ends raw
  unfolding is_presheaf_listing
  listing_if_distinct s f = rw (s, f) refl

-- the parts of the test of one listed restriction
module _ (objects : ℕ) (ends : List (ℕ × ℕ)) (sizes : List ℕ) (a : RawAlong) where
  abbrev from : ℕ
  from = get_or sizes (get_or ends a.arrow (0, 0)).1 0

  abbrev to : ℕ
  to = get_or sizes (get_or ends a.arrow (0, 0)).0 0

  pub fits_if_distinct : objects ≤ a.arrow → a.arrow < length ends → list_all (λ e. ltb e.0 from && ltb e.1 to) a.entries ≡ true →
      are_distinct (map (λ e. e.0) a.entries) ≡ along_fits objects ends sizes a
  fits_if_distinct declared low fit = rw (le-leb objects a.arrow declared, lt-ltb a.arrow (length ends) low, fit) refl
