-- Identities, composites and lists of natural maps (Categorical Preliminaries, I).
use Rattle.std.specs.Prelude.{◌≡◌, ℕ, Bool, List, [], ◌∷◌, map, eqb, filter, flat_map}
use Rattle.std.specs.List.{list_all, range_with_len}
use Rattle.finite_lists.specs.Members.{In}
use Rattle.finite_lists.specs.Rising.{Rising, LexicographicBelow, NumbersBelow}
use Rattle.topos_model.specs.categories.Category.{Category, dom, cod, arrows}
use Rattle.topos_model.specs.types.Types.{Presheaf}
use Rattle.topos_model.specs.Laws.{IsCategory, IsFunctor, act, size}
use Rattle.topos_model.specs.presheaves.Maps.{Components, apply, IsNatural, after}

unfoldable pub identity_map : Presheaf → Components
identity_map P = map (range_with_len 0) P.sizes

-- one member of each list, lexicographic
unfoldable pub choices : {A : Type 0} → List (List A) → List (List A)
choices [] = [] ∷ []
choices (xs ∷ rest) = flat_map (λ x. map (λ ys. x ∷ ys) (choices rest)) xs

-- all rows of m numbers below n
unfoldable pub rows : ℕ → ℕ → List (List ℕ)
rows m n = choices (map (λ x. range_with_len 0 n) (range_with_len 0 m))

module _ (k : Category) (P Q : Presheaf) where
  -- all assignments of elements of Q to those of P: objects in order, elements in order
  unfoldable pub all_components : List Components
  all_components = choices (map (λ c. rows (size P c) (size Q c)) (range_with_len 0 k.objects))

  -- m(x.f) = m(x).f
  unfoldable pub commutes_at : Components → ℕ → ℕ → Bool
  commutes_at m f x = eqb (apply m (dom k f) (act P f x)) (act Q f (apply m (cod k f) x))

  unfoldable pub is_natural_map : Components → Bool
  is_natural_map m = list_all (λ f. list_all (commutes_at m f) (range_with_len 0 (size P (cod k f)))) (arrows k)

  -- all natural maps from P to Q
  unfoldable pub maps : List Components
  maps = filter is_natural_map all_components

-- at the first object with two rows, the first map has the lower one
abbrev pub ComponentsBelow : Components → Components → Type 0
ComponentsBelow m n = LexicographicBelow NumbersBelow m n

abbrev pub MapsAreTheNaturalOnes : Type 0
MapsAreTheNaturalOnes =
    (k : Category) (P Q : Presheaf) → IsCategory k → IsFunctor k P → IsFunctor k Q →
    ((m : Components) → In (maps k P Q) m → IsNatural k P Q m) × ((m : Components) → IsNatural k P Q m → In (maps k P Q) m)

abbrev pub MapsRise : Type 0
MapsRise = (k : Category) (P Q : Presheaf) → Rising ComponentsBelow (maps k P Q)

abbrev pub IdentitiesAreNatural : Type 0
IdentitiesAreNatural = (k : Category) (P : Presheaf) → IsCategory k → IsFunctor k P → IsNatural k P P (identity_map P)

-- presheaves and natural maps form a category
abbrev pub MapsCompose : Type 0
MapsCompose =
    (k : Category) (P Q R S : Presheaf) (l m n : Components) → IsFunctor k P → IsFunctor k Q → IsNatural k P Q l → IsNatural k Q R m → IsNatural k R S n →
    (after l (identity_map P) ≡ l) × (after (identity_map Q) l ≡ l) × (after n (after m l) ≡ after (after n m) l)
