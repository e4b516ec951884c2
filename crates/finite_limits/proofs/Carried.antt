-- A presheaf that is numbered by pairs is one, and the two parts are natural.
use Rattle.std.proofs.Common.{◌≡◌, ℕ, ◌<◌, sym, ap, subst, ◌∙◌, arith, ◌⊎◌, inl, inr}
use Rattle.std.proofs.lemmas.Bool.{cases_order}
use Rattle.topos_model.specs.categories.Category.{Category, dom, compose}
use Rattle.topos_model.specs.types.Types.{Presheaf}
use Rattle.topos_model.specs.Laws.{IsCategory, act, size, IsFunctor}
use Rattle.topos_model.specs.presheaves.Maps.{Components, apply, IsNatural}
use Rattle.topos_model.specs.presheaves.Limits.{PairsRise}
use Rattle.natural_maps.proofs.Triangles.{codomain_object}
use Rattle.natural_maps.proofs.Lifts.{AreApart}
use Rattle.finite_limits.specs.Carried.{IsCarried}

-- a pair does not rise over itself
not_above : (a b x y : ℕ) → a ≡ x → b ≡ y → (a < x) ⊎ ((a ≡ x) × (b < y)) → ⊥
not_above a b x y e d (inl h) = omega arith
not_above a b x y e d (inr h) = let w : b < y = h.1 in omega arith

pub rising_apart : (k : Category) (Z : Presheaf) (p q : Components) → PairsRise k Z p q → AreApart k Z p q
rising_apart k Z p q order c s t h ls lt e d =
    elim (cases_order s t) [
      | inl b ↦ b
      | inr b ↦ elim b [
        | inl l ↦ absurd (not_above (apply p c s) (apply q c s) (apply p c t) (apply q c t) e d (order c s t h l lt))
        | inr l ↦ absurd (not_above (apply p c t) (apply q c t) (apply p c s) (apply q c s) (sym e) (sym d) (order c t s h l ls))
      ]
    ]

module _ (k : Category) (lk : IsCategory k) (X Y Z : Presheaf) (lx : IsFunctor k X) (ly : IsFunctor k Y) (p q : Components) (carried : IsCarried k X Y Z p q) where
  pub carried_apart : AreApart k Z p q
  carried_apart = rising_apart k Z p q carried.order

  pub carried_functor : IsFunctor k Z
  carried_functor = record {
    objects = carried.objects;
    arrows = carried.arrows;
    total = carried.total;
    within = carried.within;
    identity = λ c t h l.
        let i = lk.identity c h in
        let w : act Z c t < size Z c = subst (λ (d : ℕ). act Z c t < size Z d) i.1 (carried.within c c t i.0 l) in
        carried_apart c (act Z c t) t h w l
        (subst (λ (d : ℕ). apply p d (act Z c t) ≡ act X c (apply p c t)) i.1 (carried.first c c t i.0 l) ∙ lx.identity c (apply p c t) h (carried.first_within c t h l))
        (subst (λ (d : ℕ). apply q d (act Z c t) ≡ act Y c (apply q c t)) i.1 (carried.second c c t i.0 l) ∙ ly.identity c (apply q c t) h (carried.second_within c t h l));
    composite = λ c f g t i j l.
        let h : c < k.objects = codomain_object k lk c f i in
        let m = lk.composite c f g i j in
        let d : dom k g < k.objects = (lk.ends g j.0).0 in
        let s : act Z f t < size Z (dom k f) = carried.within c f t i l in
        let w : act Z (compose k f g) t < size Z (dom k g) = subst (λ (d : ℕ). act Z (compose k f g) t < size Z d) m.1 (carried.within c (compose k f g) t m.0 l) in
        carried_apart (dom k g) (act Z g (act Z f t)) (act Z (compose k f g) t) d (carried.within (dom k f) g (act Z f t) j s) w
        (carried.first (dom k f) g (act Z f t) j s
        ∙ ap (λ (x : ℕ). act X g x) (carried.first c f t i l)
        ∙ lx.composite c f g (apply p c t) i j (carried.first_within c t h l)
        ∙ sym (subst (λ (d : ℕ). apply p d (act Z (compose k f g) t) ≡ act X (compose k f g) (apply p c t)) m.1 (carried.first c (compose k f g) t m.0 l)))
        (carried.second (dom k f) g (act Z f t) j s
        ∙ ap (λ (x : ℕ). act Y g x) (carried.second c f t i l)
        ∙ ly.composite c f g (apply q c t) i j (carried.second_within c t h l)
        ∙ sym (subst (λ (d : ℕ). apply q d (act Z (compose k f g) t) ≡ act Y (compose k f g) (apply q c t)) m.1 (carried.second c (compose k f g) t m.0 l)));
  }

  pub first_natural : IsNatural k Z X p
  first_natural = record { objects = carried.first_objects; total = carried.first_total; within = carried.first_within; commutes = carried.first }

  pub second_natural : IsNatural k Z Y q
  second_natural = record { objects = carried.second_objects; total = carried.second_total; within = carried.second_within; commutes = carried.second }
