-- Matching families, sheaves and the first matching family that does not glue to one element (II, III).
use Rattle.std.specs.Prelude.{◌≡◌, ◌↔◌, ◌<◌, ℕ, Bool, cond, List, [], ◌∷◌, length, map, eqb, filter, Option, Some, None, ⊤}
use Rattle.std.specs.List.{list_all, range_with_len}
use Rattle.finite_lists.specs.Members.{In}
use Rattle.finite_lists.specs.First.{first}
use Rattle.topos_model.specs.declared.ty.Ty.{Ty, Base, One, Omega, Two', Pow', Fun', more_of-Ty as only, end_of-Ty as end}
use Rattle.topos_model.specs.categories.Category.{Category, into, dom, compose, sieves}
use Rattle.topos_model.specs.topologies.Cover.{Site, covers}
use Rattle.topos_model.specs.types.Types.{Presheaf, functor}
use Rattle.topos_model.specs.Laws.{IsCategory, IsFunctor, IsInto, IsTopology, act, size}
use Rattle.topos_model.specs.presheaves.Maps.{ExactlyOne}
use Rattle.topos_model.specs.presheaves.NaturalMaps.{choices}
use Rattle.topos_model.specs.topologies.LeastCovers.{least}

-- a family on a sieve is a list along the sieve's arrows; this is its element at f
abbrev pub element_at : List ℕ → List ℕ → ℕ → ℕ
element_at (g ∷ S) (x ∷ family) f = cond (eqb g f) x (element_at S family f)
element_at _ _ f = 0

-- an element x_f at the domain of each f of the sieve, with x_f.g = x_{f.g}
pub record IsMatching (k : Category) (X : Presheaf) (S family : List ℕ) : Type 0 where
  pub count : length family ≡ length S
  pub within : (f : ℕ) → In S f → element_at S family f < size X (dom k f)
  pub agree : (f g : ℕ) → In S f → IsInto k (dom k f) g → act X g (element_at S family f) ≡ element_at S family (compose k f g)

-- an element at c that restricts to the family
pub record IsAmalgamation (X : Presheaf) (c : ℕ) (S family : List ℕ) (x : ℕ) : Type 0 where
  pub within : x < size X c
  pub restricts : (f : ℕ) → In S f → act X f x ≡ element_at S family f

-- each matching family on a cover of an object has at most one amalgamation
abbrev pub IsSeparated : Site → Presheaf → Type 0
IsSeparated s X =
    (c : ℕ) (S family : List ℕ) (x y : ℕ) → c < s.category.objects → In (covers s c) S → IsMatching s.category X S family
    → IsAmalgamation X c S family x → IsAmalgamation X c S family y → x ≡ y

-- each has exactly one
abbrev pub IsSheaf : Site → Presheaf → Type 0
IsSheaf s X =
    (c : ℕ) (S family : List ℕ) → c < s.category.objects → In (covers s c) S → IsMatching s.category X S family → ExactlyOne (IsAmalgamation X c S family)

module _ (k : Category) (X : Presheaf) where
  -- x_f.g = x_{f.g} for each f of the sieve and each g into its domain
  unfoldable pub agrees : List ℕ → List ℕ → Bool
  agrees S family =
      list_all (λ f. list_all (λ g. eqb (act X g (element_at S family f)) (element_at S family (compose k f g))) (into k (dom k f))) S

  -- all matching families on the sieve, lexicographic
  unfoldable pub matching_families : List ℕ → List (List ℕ)
  matching_families S = filter (agrees S) (choices (map (λ f. range_with_len 0 (size X (dom k f))) S))

-- all amalgamations at c, in order
unfoldable pub amalgamations : Presheaf → ℕ → List ℕ → List ℕ → List ℕ
amalgamations X c S family = filter (λ x. list_all (λ f. eqb (act X f x) (element_at S family f)) S) (range_with_len 0 (size X c))

-- a matching family on the cover of an object, with no amalgamation or with the first two
pub record SheafFault : Type 0 where
  pub at : ℕ
  pub cover : List ℕ
  pub family : List ℕ
  pub found : Option (ℕ × ℕ)

-- the fault where a list does not have exactly one member
abbrev pub not_one : ℕ → List ℕ → List ℕ → List ℕ → Option SheafFault
not_one c S family [] = Some (record { at = c; cover = S; family = family; found = None })
not_one c S family (x ∷ []) = None
not_one c S family (x ∷ y ∷ _) = Some (record { at = c; cover = S; family = family; found = Some (x, y) })

-- over objects, and matching families on their least covers
unfoldable pub sheaf_fault : Site → Presheaf → Option SheafFault
sheaf_fault s X =
    first (λ c. first (λ family. not_one c (least s c) family (amalgamations X c (least s c) family)) (matching_families s.category X (least s c)))
    (range_with_len 0 s.category.objects)

-- each functor that the type names is a sheaf
abbrev pub OfSheaves : Site → List Presheaf → Ty → Type 0
OfSheaves s functors (Base n) = IsSheaf s (functor s functors n)
OfSheaves s functors One = ⊤
OfSheaves s functors Omega = ⊤
OfSheaves s functors (Two' _ (only S end) _ (only T end)) = OfSheaves s functors S × OfSheaves s functors T
OfSheaves s functors (Pow' _ (only T end)) = OfSheaves s functors T
OfSheaves s functors (Fun' _ (only S end) _ (only T end)) = OfSheaves s functors S × OfSheaves s functors T

-- the listed families and amalgamations are all of them
abbrev pub ListsMatchingFamilies : Type 0
ListsMatchingFamilies = (k : Category) (X : Presheaf) (c : ℕ) (S family : List ℕ) → IsCategory k → In (sieves k c) S → In (matching_families k X S) family ↔ IsMatching k X S family

abbrev pub ListsAmalgamations : Type 0
ListsAmalgamations = (X : Presheaf) (c : ℕ) (S family : List ℕ) (x : ℕ) → In (amalgamations X c S family) x ↔ IsAmalgamation X c S family x

-- it is enough to test the least covers
abbrev pub NoFaultIsSheaf : Type 0
NoFaultIsSheaf = (s : Site) (X : Presheaf) → IsCategory s.category → IsTopology s → IsFunctor s.category X → (sheaf_fault s X ≡ None) ↔ IsSheaf s X
