-- Kan extensions of presheaves along a functor of finite categories, by their universal properties (VII).
use Rattle.std.specs.Prelude.{◌≡◌, ℕ, ◌<◌, List, map, eqb, filter, flat_map}
use Rattle.std.specs.List.{range_with_len}
use Rattle.finite_lists.specs.Rising.{NumbersBelow}
use Rattle.topos_model.specs.categories.Category.{Category, into, dom}
use Rattle.topos_model.specs.types.Types.{Presheaf}
use Rattle.topos_model.specs.Laws.{act, size, IsFunctor}
use Rattle.topos_model.specs.presheaves.Maps.{Components, apply, IsNatural, after, ExactlyOne}
use Rattle.topos_model.specs.presheaves.Colimits.{LeastPlacesRise}
use Rattle.topos_model.specs.categories.CategoryFunctors.{CatFunctor, object_to, restricted, restricted_map}

-- the arrows from a to b, in order
unfoldable pub arrows_between : Category → ℕ → ℕ → List ℕ
arrows_between k a b = filter (λ f. eqb (dom k f) a) (into k b)

module _ (D C : Category) (F : CatFunctor) where
  -- e_d(x).f for all (d, f, x) with f from c to F d and x in P(d), in lexicographic order
  unfoldable pub generated_elements : Presheaf → Presheaf → Components → ℕ → List ℕ
  generated_elements P L e c =
      flat_map (λ d. flat_map (λ f. map (λ x. act L f (apply e d x)) (range_with_len 0 (size P d))) (arrows_between C c (object_to F d))) (range_with_len 0 D.objects)

  -- e_d(y.f) for all (d, f) with f from F d to c, in lexicographic order
  unfoldable pub family_of : Presheaf → Components → ℕ → ℕ → List ℕ
  family_of R e c y =
      flat_map (λ d. map (λ f. apply e d (act R f y)) (arrows_between C (object_to F d) c)) (range_with_len 0 D.objects)

-- L, with e from P to its restriction, is the left Kan extension of P along F from D to C
pub record IsLan (D C : Category) (F : CatFunctor) (P L : Presheaf) (e : Components) : Type 0 where
  pub functor : IsFunctor C L
  pub unit : IsNatural D P (restricted D F L) e
  pub factors : (Z : Presheaf) (m : Components) → IsFunctor C Z → IsNatural D P (restricted D F Z) m →
      ExactlyOne (λ (n : Components). IsNatural C L Z n × (after (restricted_map D F n) e ≡ m))
  -- each element is some e_d(x).f, and the least (d, f, x) of the elements rise strictly
  pub order : (c : ℕ) → c < C.objects → LeastPlacesRise (size L c) (generated_elements D C F P L e c)

-- R, with e from its restriction to P, is the right Kan extension of P along F from D to C
pub record IsRan (D C : Category) (F : CatFunctor) (P R : Presheaf) (e : Components) : Type 0 where
  pub functor : IsFunctor C R
  pub counit : IsNatural D (restricted D F R) P e
  pub factors : (Z : Presheaf) (m : Components) → IsFunctor C Z → IsNatural D (restricted D F Z) P m →
      ExactlyOne (λ (n : Components). IsNatural C Z R n × (after e (restricted_map D F n) ≡ m))
  -- the families of the elements rise strictly, lexicographically
  pub order : (c y z : ℕ) → c < C.objects → y < z → z < size R c → NumbersBelow (family_of D C F R e c y) (family_of D C F R e c z)
