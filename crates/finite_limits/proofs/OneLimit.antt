-- The orders leave one product, one pullback, one equalizer and one image.
use Rattle.std.proofs.Common.{◌≡◌, ℕ, ◌<◌, sym, ap, subst, ◌∙◌, arith, ◌⊎◌, inl, inr}
use Rattle.std.proofs.lemmas.Bool.{cases_order}
use Rattle.topos_model.specs.categories.Category.{Category}
use Rattle.topos_model.specs.types.Types.{Presheaf}
use Rattle.topos_model.specs.Laws.{IsCategory, size, IsFunctor}
use Rattle.topos_model.specs.presheaves.Maps.{Components, apply, IsNatural, after}
use Rattle.topos_model.specs.presheaves.Limits.{ElementsRise, PairsRise, IsProduct, IsPullback, IsEqualizer, IsImage}
use Rattle.topos_model.proofs.MapEquations.{maps_same}
use Rattle.natural_maps.proofs.Triangles.{values_agree}
use Rattle.natural_maps.proofs.RigidNumbers.{IsRisingMap, IsSameNumbering, rising_both, presheaves_same}

abbrev pub PairBelow : ℕ → ℕ → ℕ → ℕ → Type 0
PairBelow a b x y = (a < x) ⊎ ((a ≡ x) × (b < y))

not_both : (a b x y : ℕ) → PairBelow a b x y → PairBelow x y a b → ⊥
not_both a b x y (inl h) (inl l) = omega arith
not_both a b x y (inl h) (inr l) = let e : x ≡ a = l.0 in omega arith
not_both a b x y (inr h) (inl l) = let e : a ≡ x = h.0 in omega arith
not_both a b x y (inr h) (inr l) = let d : b < y = h.1 in let e : y < b = l.1 in omega arith

not_same : (a b x y : ℕ) → PairBelow a b x y → x ≡ a → y ≡ b → ⊥
not_same a b x y (inl h) e d = omega arith
not_same a b x y (inr h) e d = let w : b < y = h.1 in omega arith

-- Z and W over X and Y, and a map between them over both
pub record IsOver (k : Category) (Z W : Presheaf) (p q r s u : Components) : Type 0 where
  pub natural : IsNatural k Z W u
  pub first : (c t : ℕ) → c < k.objects → t < size Z c → apply r c (apply u c t) ≡ apply p c t
  pub second : (c t : ℕ) → c < k.objects → t < size Z c → apply s c (apply u c t) ≡ apply q c t

-- a map over both rises with the pairs
over_rises : (k : Category) (Z W : Presheaf) (p q r s u : Components) → IsOver k Z W p q r s u → PairsRise k Z p q → PairsRise k W r s → (c : ℕ) → c < k.objects →
    IsRisingMap (size Z c) (size W c) (λ t. apply u c t)
over_rises k Z W p q r s u over rz rw_ c h = record {
  within = λ t l. over.natural.within c t h l;
  rise = λ a b l m.
      let la : a < size Z c = omega arith in
      let ea : apply r c (apply u c a) ≡ apply p c a = over.first c a h la in
      let eb : apply r c (apply u c b) ≡ apply p c b = over.first c b h m in
      let fa : apply s c (apply u c a) ≡ apply q c a = over.second c a h la in
      let fb : apply s c (apply u c b) ≡ apply q c b = over.second c b h m in
      let up : PairBelow (apply p c a) (apply q c a) (apply p c b) (apply q c b) = rz c a b h l m in
      elim (cases_order (apply u c a) (apply u c b)) [
        | inl e ↦ absurd (not_same (apply p c a) (apply q c a) (apply p c b) (apply q c b) up
            (sym eb ∙ ap (λ (t : ℕ). apply r c t) (sym e) ∙ ea) (sym fb ∙ ap (λ (t : ℕ). apply s c t) (sym e) ∙ fa))
        | inr e ↦ elim e [
          | inl e ↦ e
          | inr e ↦
              let down : PairBelow (apply r c (apply u c b)) (apply s c (apply u c b)) (apply r c (apply u c a)) (apply s c (apply u c a)) = rw_ c (apply u c b) (apply u c a) h e (over.natural.within c a h la) in
              absurd (not_both (apply p c a) (apply q c a) (apply p c b) (apply q c b) up (moved (apply r c (apply u c b)) (apply p c b) (apply s c (apply u c b)) (apply q c b) (apply r c (apply u c a)) (apply p c a) (apply s c (apply u c a)) (apply q c a) eb fb ea fa down))
        ]
      ];
}
  where
    moved : (a b c d e f g h : ℕ) → a ≡ b → c ≡ d → e ≡ f → g ≡ h → PairBelow a c e g → PairBelow b d f h
    moved a b c d e f g h i j k l w = rw (← i, ← j, ← k, ← l) w

-- the same presheaf and the same two maps
abbrev pub AreSame : Presheaf → Presheaf → Components → Components → Components → Components → Type 0
AreSame Z W p q r s = (Z ≡ W) × (p ≡ r) × (q ≡ s)

pub over_same : (k : Category) (X Y Z W : Presheaf) (p q r s u v : Components) → IsCategory k → IsFunctor k Z → IsFunctor k W →
    IsNatural k Z X p → IsNatural k Z Y q → IsNatural k W X r → IsNatural k W Y s → PairsRise k Z p q → PairsRise k W r s →
    IsOver k Z W p q r s u → IsOver k W Z r s p q v → AreSame Z W p q r s
over_same k X Y Z W p q r s u v lk lz lw np nq nr ns rz rw_ ou ov =
    let same : (c : ℕ) → c < k.objects → IsSameNumbering (size Z c) (size W c) (λ t. apply u c t) = λ c h.
    rising_both (size Z c) (size W c) (λ t. apply u c t) (λ t. apply v c t) (over_rises k Z W p q r s u ou rz rw_ c h) (over_rises k W Z r s p q v ov rw_ rz c h) in
    let e : Z ≡ W = presheaves_same k Z W u lk lz lw ou.natural same in (
      e,
      maps_same k Z X p r np (subst (λ (V : Presheaf). IsNatural k V X r) (sym e) nr) (λ c t h l. sym (ou.first c t h l) ∙ ap (λ (x : ℕ). apply r c x) ((same c h).same t l)),
      maps_same k Z Y q s nq (subst (λ (V : Presheaf). IsNatural k V Y s) (sym e) ns) (λ c t h l. sym (ou.second c t h l) ∙ ap (λ (x : ℕ). apply s c x) ((same c h).same t l)),
    )

-- a pair of triangles gives a map over both
over_by : (k : Category) (X Y Z W : Presheaf) (p q r s u : Components) → IsNatural k W X r → IsNatural k W Y s → IsNatural k Z W u → after r u ≡ p → after s u ≡ q → IsOver k Z W p q r s u
over_by k X Y Z W p q r s u nr ns nu e d = record {
  natural = nu;
  first = λ c t h l. values_agree k Z W X r u nr nu p e c t h l;
  second = λ c t h l. values_agree k Z W Y s u ns nu q d c t h l;
}

pub one_product : (k : Category) (X Y Z W : Presheaf) (p q r s : Components) → IsCategory k → IsProduct k X Y Z p q → IsProduct k X Y W r s → AreSame Z W p q r s
one_product k X Y Z W p q r s lk a b =
    let u = b.factors Z p q a.functor a.first a.second in
    let v = a.factors W r s b.functor b.first b.second in
    over_same k X Y Z W p q r s u.0 v.0 lk a.functor b.functor a.first a.second b.first b.second a.order b.order
    (over_by k X Y Z W p q r s u.0 b.first b.second u.1.0 u.1.1 u.1.2) (over_by k X Y W Z r s p q v.0 a.first a.second v.1.0 v.1.1 v.1.2)

pub one_pullback : (k : Category) (X Y B : Presheaf) (m n : Components) (Z W : Presheaf) (p q r s : Components) → IsCategory k → IsPullback k X Y B m n Z p q → IsPullback k X Y B m n W r s → AreSame Z W p q r s
one_pullback k X Y B m n Z W p q r s lk a b =
    let u = b.factors Z p q a.functor a.first a.second a.equal in
    let v = a.factors W r s b.functor b.first b.second b.equal in
    over_same k X Y Z W p q r s u.0 v.0 lk a.functor b.functor a.first a.second b.first b.second a.order b.order
    (over_by k X Y Z W p q r s u.0 b.first b.second u.1.0 u.1.1 u.1.2) (over_by k X Y W Z r s p q v.0 a.first a.second v.1.0 v.1.1 v.1.2)

pairs_rise : (k : Category) (Z : Presheaf) (i : Components) → ElementsRise k Z i → PairsRise k Z i i
pairs_rise k Z i order c a b h l m = inl (order c a b h l m)

pub one_equalizer : (k : Category) (X Y : Presheaf) (m n : Components) (Z W : Presheaf) (i j : Components) → IsCategory k → IsEqualizer k X Y m n Z i → IsEqualizer k X Y m n W j → (Z ≡ W) × (i ≡ j)
one_equalizer k X Y m n Z W i j lk a b =
    let u = b.factors Z i a.functor a.inclusion a.equal in
    let v = a.factors W j b.functor b.inclusion b.equal in
    let w = over_same k X X Z W i i j j u.0 v.0 lk a.functor b.functor a.inclusion a.inclusion b.inclusion b.inclusion (pairs_rise k Z i a.order) (pairs_rise k W j b.order)
    (over_by k X X Z W i i j j u.0 b.inclusion b.inclusion u.1.0 u.1.1 u.1.1) (over_by k X X W Z j j i i v.0 a.inclusion a.inclusion v.1.0 v.1.1 v.1.1) in
    (w.0, w.1)

pub one_image : (k : Category) (X Y : Presheaf) (m : Components) (Z W : Presheaf) (e d i j : Components) → IsCategory k → IsFunctor k X → IsImage k X Y m Z e i → IsImage k X Y m W d j → (Z ≡ W) × (e ≡ d) × (i ≡ j)
one_image k X Y m Z W e d i j lk lx a b =
    let u = a.factors W d j b.functor b.onto b.inclusion b.injective b.equal in
    let v = b.factors Z e i a.functor a.onto a.inclusion a.injective a.equal in
    let w = over_same k Y Y Z W i i j j u.0 v.0 lk a.functor b.functor a.inclusion a.inclusion b.inclusion b.inclusion (pairs_rise k Z i a.order) (pairs_rise k W j b.order)
    (over_by k Y Y Z W i i j j u.0 b.inclusion b.inclusion u.1.0 u.1.1 u.1.1) (over_by k Y Y W Z j j i i v.0 a.inclusion a.inclusion v.1.0 v.1.1 v.1.1) in
    let nd : IsNatural k X Z d = subst (λ (V : Presheaf). IsNatural k X V d) (sym w.0) b.onto in (
      w.0,
      maps_same k X Z e d a.onto nd (λ c x h l.
          a.injective c (apply e c x) (apply d c x) h (a.onto.within c x h l) (nd.within c x h l)
          (values_agree k X Z Y i e a.inclusion a.onto m a.equal c x h l ∙ sym (values_agree k X W Y j d b.inclusion b.onto m b.equal c x h l) ∙ ap (λ (r : Components). apply r c (apply d c x)) (sym w.1))),
      w.1,
    )
