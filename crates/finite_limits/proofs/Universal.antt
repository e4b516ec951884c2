-- Presheaves numbered by all pairs, by the pairs that two maps take to one element, by the elements at which two maps agree and by the values of a map
-- are the product, the pullback, the equalizer and the image.
use Rattle.std.proofs.Common.{◌≡◌, ℕ, ◌<◌, sym, ap, ◌∙◌, inl, inr}
use Rattle.topos_model.specs.categories.Category.{Category}
use Rattle.topos_model.specs.types.Types.{Presheaf}
use Rattle.topos_model.specs.Laws.{IsCategory, size, IsFunctor}
use Rattle.topos_model.specs.presheaves.Maps.{Components, apply, IsNatural, after, ExactlyOne}
use Rattle.topos_model.specs.presheaves.Limits.{ElementsRise, PairsRise, IsProduct, IsPullback, IsEqualizer, IsImage}
use Rattle.topos_model.proofs.MapEquations.{composites_natural}
use Rattle.natural_maps.proofs.Triangles.{value_after, values_agree, after_is}
use Rattle.natural_maps.proofs.Lifts.{HasValues, lift}
use Rattle.finite_limits.specs.Carried.{IsCarried}
use Rattle.finite_limits.proofs.Carried.{carried_apart, carried_functor, first_natural, second_natural}

-- maps that agree on the values of i and j
equal_by_values : (k : Category) (F X Y B : Presheaf) (m n i j : Components) → IsCategory k → IsFunctor k F → IsNatural k X B m → IsNatural k Y B n → IsNatural k F X i → IsNatural k F Y j →
    ((c s : ℕ) → c < k.objects → s < size F c → apply m c (apply i c s) ≡ apply n c (apply j c s)) → after m i ≡ after n j
equal_by_values k F X Y B m n i j lk lf nm nn ni nj e =
    after_is k F X B m i nm ni lk lf (after n j) (composites_natural k F Y B n j lk lf nn nj) (λ c s h l. e c s h l ∙ sym (value_after k F Y B n j nn nj c s h l))

values_equal : (k : Category) (F X Y B : Presheaf) (m n i j : Components) → IsNatural k X B m → IsNatural k Y B n → IsNatural k F X i → IsNatural k F Y j →
    after m i ≡ after n j → (c s : ℕ) → c < k.objects → s < size F c → apply m c (apply i c s) ≡ apply n c (apply j c s)
values_equal k F X Y B m n i j nm nn ni nj e c s h l =
    sym (value_after k F X B m i nm ni c s h l) ∙ ap (λ (r : Components). apply r c s) e ∙ value_after k F Y B n j nn nj c s h l

-- one of two equal conditions
once : {A : Type 0} (P Q : A → Type 0) → ExactlyOne (λ a. P a × Q a × Q a) → ExactlyOne (λ a. P a × Q a)
once P Q one = (one.0, (one.1.0, one.1.1), λ b h. one.2 b (h.0, h.1, h.1))

module _ (k : Category) (lk : IsCategory k) (X Y Z : Presheaf) (lx : IsFunctor k X) (ly : IsFunctor k Y) (p q : Components) (carried : IsCarried k X Y Z p q) where
  pub product : ((c x y : ℕ) → c < k.objects → x < size X c → y < size Y c → (t : ℕ) × HasValues Z p q c x y t) → IsProduct k X Y Z p q
  product all = record {
    functor = carried_functor k lk X Y Z lx ly p q carried;
    first = first_natural k lk X Y Z lx ly p q carried;
    second = second_natural k lk X Y Z lx ly p q carried;
    factors = λ F m n lf nm nn.
        lift k lk X Y Z F (carried_functor k lk X Y Z lx ly p q carried) lf p q m n (first_natural k lk X Y Z lx ly p q carried) (second_natural k lk X Y Z lx ly p q carried) nm nn
        (carried_apart k lk X Y Z lx ly p q carried) (λ c s h l. all c (apply m c s) (apply n c s) h (nm.within c s h l) (nn.within c s h l));
    order = carried.order;
  }

  pub pullback : (B : Presheaf) (m n : Components) → IsNatural k X B m → IsNatural k Y B n →
      ((c t : ℕ) → c < k.objects → t < size Z c → apply m c (apply p c t) ≡ apply n c (apply q c t)) →
      ((c x y : ℕ) → c < k.objects → x < size X c → y < size Y c → apply m c x ≡ apply n c y → (t : ℕ) × HasValues Z p q c x y t) → IsPullback k X Y B m n Z p q
  pullback B m n nm nn passes all = record {
    functor = carried_functor k lk X Y Z lx ly p q carried;
    first = first_natural k lk X Y Z lx ly p q carried;
    second = second_natural k lk X Y Z lx ly p q carried;
    equal = equal_by_values k Z X Y B m n p q lk (carried_functor k lk X Y Z lx ly p q carried) nm nn (first_natural k lk X Y Z lx ly p q carried) (second_natural k lk X Y Z lx ly p q carried) passes;
    factors = λ F l r lf nl nr e.
        lift k lk X Y Z F (carried_functor k lk X Y Z lx ly p q carried) lf p q l r (first_natural k lk X Y Z lx ly p q carried) (second_natural k lk X Y Z lx ly p q carried) nl nr
        (carried_apart k lk X Y Z lx ly p q carried)
        (λ c s h b. all c (apply l c s) (apply r c s) h (nl.within c s h b) (nr.within c s h b) (values_equal k F X Y B m n l r nm nn nl nr e c s h b));
    order = carried.order;
  }

-- pairs of an element and itself rise with it
elements_rise : (k : Category) (Z : Presheaf) (i : Components) → PairsRise k Z i i → ElementsRise k Z i
elements_rise k Z i order c a b h l m = elim (order c a b h l m) [
  | inl w ↦ w
  | inr w ↦ w.1
]

module _ (k : Category) (lk : IsCategory k) (X Z : Presheaf) (lx : IsFunctor k X) (i : Components) (carried : IsCarried k X X Z i i) where
  pub equalizer : (Y : Presheaf) (m n : Components) → IsNatural k X Y m → IsNatural k X Y n →
      ((c t : ℕ) → c < k.objects → t < size Z c → apply m c (apply i c t) ≡ apply n c (apply i c t)) →
      ((c x : ℕ) → c < k.objects → x < size X c → apply m c x ≡ apply n c x → (t : ℕ) × HasValues Z i i c x x t) → IsEqualizer k X Y m n Z i
  equalizer Y m n nm nn passes all = record {
    functor = carried_functor k lk X X Z lx lx i i carried;
    inclusion = first_natural k lk X X Z lx lx i i carried;
    equal = equal_by_values k Z X X Y m n i i lk (carried_functor k lk X X Z lx lx i i carried) nm nn (first_natural k lk X X Z lx lx i i carried) (first_natural k lk X X Z lx lx i i carried) passes;
    factors = λ F l lf nl e.
        once (λ (u : Components). IsNatural k F Z u) (λ (u : Components). after i u ≡ l)
        (lift k lk X X Z F (carried_functor k lk X X Z lx lx i i carried) lf i i l l (first_natural k lk X X Z lx lx i i carried) (first_natural k lk X X Z lx lx i i carried) nl nl
        (carried_apart k lk X X Z lx lx i i carried)
        (λ c s h b. all c (apply l c s) h (nl.within c s h b) (values_equal k F X X Y m n l l nm nn nl nl e c s h b)));
    order = elements_rise k Z i carried.order;
  }

  -- of m from W, the elements of X that are values of m
  pub image : (W : Presheaf) (m e : Components) → IsFunctor k W → IsNatural k W X m → IsNatural k W Z e →
      ((c w : ℕ) → c < k.objects → w < size W c → apply i c (apply e c w) ≡ apply m c w) →
      ((c t : ℕ) → c < k.objects → t < size Z c → (w : ℕ) × (w < size W c) × (apply m c w ≡ apply i c t)) → IsImage k W X m Z e i
  image W m e lw nm ne over value = record {
    functor = carried_functor k lk X X Z lx lx i i carried;
    onto = ne;
    inclusion = first_natural k lk X X Z lx lx i i carried;
    equal = after_is k W Z X i e (first_natural k lk X X Z lx lx i i carried) ne lk lw m nm over;
    injective = λ c s t h ls lt d. carried_apart k lk X X Z lx lx i i carried c s t h ls lt d d;
    factors = λ F d j lf nd nj injective d_is.
        once (λ (u : Components). IsNatural k Z F u) (λ (u : Components). after j u ≡ i)
        (lift k lk X X F Z lf (carried_functor k lk X X Z lx lx i i carried) j j i i nj nj (first_natural k lk X X Z lx lx i i carried) (first_natural k lk X X Z lx lx i i carried)
        (λ c s t h ls lt a _. injective c s t h ls lt a)
        (λ c t h l.
        let v : (w : ℕ) × (w < size W c) × (apply m c w ≡ apply i c t) = value c t h l in
        let a : apply j c (apply d c v.0) ≡ apply i c t = values_agree k W F X j d nj nd m d_is c v.0 h v.1 ∙ v.2 in
        (apply d c v.0, record { within = nd.within c v.0 h v.1; first = a; second = a })));
    order = elements_rise k Z i carried.order;
  }
