-- Natural maps into a presheaf whose elements are told apart by two maps: a pair of maps whose values are all hit factors exactly once.
use Rattle.std.proofs.Common.{◌≡◌, ℕ, ◌<◌, sym, ap, ◌∙◌}
use Rattle.topos_model.specs.categories.Category.{Category, dom}
use Rattle.topos_model.specs.types.Types.{Presheaf}
use Rattle.topos_model.specs.Laws.{IsCategory, act, size, IsFunctor}
use Rattle.topos_model.specs.presheaves.Maps.{Components, apply, IsNatural, after, ExactlyOne}
use Rattle.topos_model.proofs.MapEquations.{maps_same}
use Rattle.natural_maps.proofs.Choices.{AreChosen, choose}
use Rattle.natural_maps.proofs.Triangles.{codomain_object, values_agree, after_is}

-- elements of Z with the same two values are the same
abbrev pub AreApart : Category → Presheaf → Components → Components → Type 0
AreApart k Z p q = (c s t : ℕ) → c < k.objects → s < size Z c → t < size Z c → apply p c s ≡ apply p c t → apply q c s ≡ apply q c t → s ≡ t

-- t has the values a and b
pub record HasValues (Z : Presheaf) (p q : Components) (c a b t : ℕ) : Type 0 where
  pub within : t < size Z c
  pub first : apply p c t ≡ a
  pub second : apply q c t ≡ b

module _ (k : Category) (lk : IsCategory k) (X Y Z F : Presheaf) (lz : IsFunctor k Z) (lf : IsFunctor k F) (p q m n : Components)
    (np : IsNatural k Z X p) (nq : IsNatural k Z Y q) (nm : IsNatural k F X m) (nn : IsNatural k F Y n) (apart : AreApart k Z p q)
    (hit : (c s : ℕ) → c < k.objects → s < size F c → (t : ℕ) × HasValues Z p q c (apply m c s) (apply n c s) t) where
  lifted : AreChosen k.objects (size F) (λ c s t. HasValues Z p q c (apply m c s) (apply n c s) t)
  lifted = choose k.objects (size F) (λ c s t. HasValues Z p q c (apply m c s) (apply n c s) t) hit

  lifted_natural : IsNatural k F Z lifted.components
  lifted_natural = record {
    objects = lifted.objects;
    total = lifted.total;
    within = λ c s h l. (lifted.each c s h l).within;
    commutes = λ c f s i l.
        let h : c < k.objects = codomain_object k lk c f i in
        let d : dom k f < k.objects = (lk.ends f i.0).0 in
        let r : act F f s < size F (dom k f) = lf.within c f s i l in
        let a = lifted.each c s h l in
        let b = lifted.each (dom k f) (act F f s) d r in
        apart (dom k f) (apply lifted.components (dom k f) (act F f s)) (act Z f (apply lifted.components c s)) d b.within (lz.within c f (apply lifted.components c s) i a.within)
        (b.first ∙ nm.commutes c f s i l ∙ ap (λ (y : ℕ). act X f y) (sym a.first) ∙ sym (np.commutes c f (apply lifted.components c s) i a.within))
        (b.second ∙ nn.commutes c f s i l ∙ ap (λ (y : ℕ). act Y f y) (sym a.second) ∙ sym (nq.commutes c f (apply lifted.components c s) i a.within));
  }

  pub lift : ExactlyOne (λ (u : Components). IsNatural k F Z u × (after p u ≡ m) × (after q u ≡ n))
  lift = (
    lifted.components,
    (
      lifted_natural,
      after_is k F Z X p lifted.components np lifted_natural lk lf m nm (λ c s h l. (lifted.each c s h l).first),
      after_is k F Z Y q lifted.components nq lifted_natural lk lf n nn (λ c s h l. (lifted.each c s h l).second),
    ),
    λ v e. maps_same k F Z v lifted.components e.0 lifted_natural (λ c s h l.
        let a = lifted.each c s h l in
        apart c (apply v c s) (apply lifted.components c s) h (e.0.within c s h l) a.within
        (values_agree k F Z X p v np e.0 m e.1 c s h l ∙ sym a.first)
        (values_agree k F Z Y q v nq e.0 n e.2 c s h l ∙ sym a.second)),
  )
