-- Natural maps from a presheaf each of whose elements is a value of one of two maps: a pair of maps with one value for each such element factors exactly once.
use Rattle.std.proofs.Common.{◌≡◌, ℕ, ◌<◌, refl, sym, ap, ◌∙◌, ◌⊎◌, inl, inr}
use Rattle.topos_model.specs.categories.Category.{Category, dom}
use Rattle.topos_model.specs.types.Types.{Presheaf}
use Rattle.topos_model.specs.Laws.{IsCategory, act, size, IsFunctor}
use Rattle.topos_model.specs.presheaves.Maps.{Components, apply, IsNatural, after, ExactlyOne}
use Rattle.topos_model.proofs.MapEquations.{maps_same}
use Rattle.natural_maps.proofs.Choices.{AreChosen, choose}
use Rattle.natural_maps.proofs.Triangles.{codomain_object, values_agree, after_is}

-- an element of X that i takes to t
pub record IsFrom (X : Presheaf) (i : Components) (c t : ℕ) : Type 0 where
  pub element : ℕ
  pub within : element < size X c
  pub is : apply i c element ≡ t

-- v is the value of each element that goes to t
pub record IsValueOn (X Y F : Presheaf) (i j l r : Components) (c t v : ℕ) : Type 0 where
  pub within : v < size F c
  pub first : (x : ℕ) → x < size X c → apply i c x ≡ t → apply l c x ≡ v
  pub second : (y : ℕ) → y < size Y c → apply j c y ≡ t → apply r c y ≡ v

module _ (k : Category) (lk : IsCategory k) (X Y Z F : Presheaf) (lx : IsFunctor k X) (ly : IsFunctor k Y) (lz : IsFunctor k Z) (i j l r : Components)
    (ni : IsNatural k X Z i) (nj : IsNatural k Y Z j) (nl : IsNatural k X F l) (nr : IsNatural k Y F r)
    (onto : (c t : ℕ) → c < k.objects → t < size Z c → IsFrom X i c t ⊎ IsFrom Y j c t)
    (value : (c t : ℕ) → c < k.objects → t < size Z c → (v : ℕ) × IsValueOn X Y F i j l r c t v) where
  lowered : AreChosen k.objects (size Z) (λ c t v. IsValueOn X Y F i j l r c t v)
  lowered = choose k.objects (size Z) (λ c t v. IsValueOn X Y F i j l r c t v) value

  over_first : (c x : ℕ) → c < k.objects → x < size X c → apply lowered.components c (apply i c x) ≡ apply l c x
  over_first c x h b = sym ((lowered.each c (apply i c x) h (ni.within c x h b)).first x b refl)

  over_second : (c y : ℕ) → c < k.objects → y < size Y c → apply lowered.components c (apply j c y) ≡ apply r c y
  over_second c y h b = sym ((lowered.each c (apply j c y) h (nj.within c y h b)).second y b refl)

  lowered_natural : IsNatural k Z F lowered.components
  lowered_natural = record {
    objects = lowered.objects;
    total = lowered.total;
    within = λ c t h b. (lowered.each c t h b).within;
    commutes = λ c f t e b.
        let h : c < k.objects = codomain_object k lk c f e in
        let d : dom k f < k.objects = (lk.ends f e.0).0 in
        elim (onto c t h b) [
          | inl w ↦
              ap (λ (s : ℕ). apply lowered.components (dom k f) (act Z f s)) (sym w.is)
              ∙ ap (λ (s : ℕ). apply lowered.components (dom k f) s) (sym (ni.commutes c f w.element e w.within))
              ∙ over_first (dom k f) (act X f w.element) d (lx.within c f w.element e w.within)
              ∙ nl.commutes c f w.element e w.within
              ∙ ap (λ (s : ℕ). act F f s) (sym (over_first c w.element h w.within) ∙ ap (λ (s : ℕ). apply lowered.components c s) w.is)
          | inr w ↦
              ap (λ (s : ℕ). apply lowered.components (dom k f) (act Z f s)) (sym w.is)
              ∙ ap (λ (s : ℕ). apply lowered.components (dom k f) s) (sym (nj.commutes c f w.element e w.within))
              ∙ over_second (dom k f) (act Y f w.element) d (ly.within c f w.element e w.within)
              ∙ nr.commutes c f w.element e w.within
              ∙ ap (λ (s : ℕ). act F f s) (sym (over_second c w.element h w.within) ∙ ap (λ (s : ℕ). apply lowered.components c s) w.is)
        ];
  }

  pub descend : ExactlyOne (λ (u : Components). IsNatural k Z F u × (after u i ≡ l) × (after u j ≡ r))
  descend = (
    lowered.components,
    (
      lowered_natural,
      after_is k X Z F lowered.components i lowered_natural ni lk lx l nl over_first,
      after_is k Y Z F lowered.components j lowered_natural nj lk ly r nr over_second,
    ),
    λ v e. maps_same k Z F v lowered.components e.0 lowered_natural (λ c t h b. elim (onto c t h b) [
      | inl w ↦ ap (λ (s : ℕ). apply v c s) (sym w.is) ∙ values_agree k X Z F v i e.0 ni l e.1 c w.element h w.within ∙ sym (over_first c w.element h w.within) ∙ ap (λ (s : ℕ). apply lowered.components c s) w.is
      | inr w ↦ ap (λ (s : ℕ). apply v c s) (sym w.is) ∙ values_agree k Y Z F v j e.0 nj r e.2 c w.element h w.within ∙ sym (over_second c w.element h w.within) ∙ ap (λ (s : ℕ). apply lowered.components c s) w.is
    ]),
  )
