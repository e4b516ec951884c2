-- The plus construction and the associated sheaf (III).
use Rattle.std.specs.Prelude.{◌≡◌, ◌<◌, ℕ, suc, cond, List, [], ◌∷◌, length, map, get_or, eqb, filter, flat_map}
use Rattle.std.specs.List.{range_with_len}
use Rattle.finite_lists.specs.Rising.{Rising, SublistBelow}
use Rattle.topos_model.specs.categories.Category.{Category, into, dom, cod, compose, arrows}
use Rattle.topos_model.specs.topologies.Cover.{Site}
use Rattle.topos_model.specs.types.Types.{Presheaf}
use Rattle.topos_model.specs.types.Values.{same_numbers}
use Rattle.topos_model.specs.Laws.{IsCategory, IsFunctor, IsInto, IsTopology, act, size}
use Rattle.topos_model.specs.presheaves.Maps.{Components, ExactlyOne, IsNatural, after, apply}
use Rattle.topos_model.specs.topologies.LeastCovers.{least}
use Rattle.topos_model.specs.topologies.Sheaves.{IsSeparated, IsSheaf, element_at, matching_families}

-- each natural map from P to a finite sheaf factors through e exactly once
abbrev pub FactorsOnce : Site → Presheaf → Presheaf → Components → Type 0
FactorsOnce s P A e =
    (F : Presheaf) (m : Components) → IsFunctor s.category F → IsSheaf s F → IsNatural s.category P F m
    → ExactlyOne (λ n. IsNatural s.category A F n × (after n e ≡ m))

-- the place of a family in a list
abbrev pub place_of : List ℕ → List (List ℕ) → ℕ
place_of family [] = 0
place_of family (other ∷ rest) = cond (same_numbers other family) 0 (suc (place_of family rest))

module _ (s : Site) (P : Presheaf) where
  -- the matching families on the least cover of c
  unfoldable pub families : ℕ → List (List ℕ)
  families c = matching_families s.category P (least s c)

  -- the family at g of the restriction along f is that at f.g
  unfoldable pub restricted : ℕ → List ℕ → List ℕ
  restricted f family = map (λ g. element_at (least s (cod s.category f)) family (compose s.category f g)) (least s (dom s.category f))

  -- the family of the x.f
  unfoldable pub restrictions : ℕ → ℕ → List ℕ
  restrictions c x = map (λ f. act P f x) (least s c)

  -- P with its matching families for elements, in order
  unfoldable pub plus : Presheaf
  plus = record {
    sizes = map (λ c. length (families c)) (range_with_len 0 s.category.objects);
    along = map (λ f. map (λ family. place_of (restricted f family) (families (dom s.category f))) (families (cod s.category f))) (arrows s.category);
  }

  unfoldable pub unit : Components
  unit = map (λ c. map (λ x. place_of (restrictions c x) (families c)) (range_with_len 0 (size P c))) (range_with_len 0 s.category.objects)

-- Q has the matching families on least covers for elements, and e sends x to the family of the x.f
pub record IsPlus (s : Site) (P Q : Presheaf) (e : Components) : Type 0 where
  pub functor : IsFunctor s.category Q
  pub natural : IsNatural s.category P Q e
  pub sizes : (c : ℕ) → c < s.category.objects → size Q c ≡ length (families s P c)
  pub restricts : (c f n : ℕ) → IsInto s.category c f → n < size Q c →
      get_or (families s P (dom s.category f)) (act Q f n) [] ≡ restricted s P f (get_or (families s P c) n [])
  pub unit : (c x : ℕ) → c < s.category.objects → x < size P c → get_or (families s P c) (apply e c x) [] ≡ restrictions s P c x

-- all (f, x) with f into c and x an element at dom f
unfoldable pub pairs : Category → Presheaf → ℕ → List (ℕ × ℕ)
pairs k P c = flat_map (λ f. map (λ x. (f, x)) (range_with_len 0 (size P (dom k f)))) (into k c)

-- the (f, x) with e(x) = a.f
unfoldable pub trace : Category → Presheaf → Presheaf → Components → ℕ → ℕ → List (ℕ × ℕ)
trace k P A e c a = filter (λ p. eqb (apply e (dom k p.0) p.1) (act A p.0 a)) (pairs k P c)

-- those of all elements at c
unfoldable pub traces : Category → Presheaf → Presheaf → Components → ℕ → List (List (ℕ × ℕ))
traces k P A e c = map (trace k P A e c) (range_with_len 0 (size A c))

-- the sheaf that is universal from P, its elements in the order of their traces
pub record IsAssociated (s : Site) (P A : Presheaf) (e : Components) : Type 0 where
  pub functor : IsFunctor s.category A
  pub sheaf : IsSheaf s A
  pub natural : IsNatural s.category P A e
  pub factors : FactorsOnce s P A e
  pub order : (c : ℕ) → c < s.category.objects → Rising (SublistBelow (pairs s.category P c)) (traces s.category P A e c)

-- a claim on every plus of a presheaf under a topology
abbrev pub AboutPlus : (Site → Presheaf → Presheaf → Components → Type 0) → Type 0
AboutPlus claim =
    (s : Site) (P Q : Presheaf) (e : Components) → IsCategory s.category → IsTopology s → IsFunctor s.category P → IsPlus s P Q e → claim s P Q e

-- what is computed is a plus, and the only one
abbrev pub ComputesPlus : Type 0
ComputesPlus = (s : Site) (P : Presheaf) → IsCategory s.category → IsTopology s → IsFunctor s.category P → IsPlus s P (plus s P) (unit s P)

abbrev pub PlusIsUnique : Type 0
PlusIsUnique = AboutPlus (λ s P Q e. (Q ≡ plus s P) × (e ≡ unit s P))

-- plus is separated, a sheaf if P is separated, and universal among sheaves
abbrev pub PlusIsSeparated : Type 0
PlusIsSeparated = AboutPlus (λ s P Q e. IsSeparated s Q)

abbrev pub PlusOfSeparatedIsSheaf : Type 0
PlusOfSeparatedIsSheaf = AboutPlus (λ s P Q e. IsSeparated s P → IsSheaf s Q)

abbrev pub MapsFactorThroughPlus : Type 0
MapsFactorThroughPlus = AboutPlus (λ s P Q e. FactorsOnce s P Q e)
