-- The presheaf of the classes under the pairs (m(x), n(x)) is the coequalizer of m and n.
use Rattle.std.proofs.Common.{◌≡◌, ℕ, ◌<◌, ◌≤◌, length, sym, ap, subst, ◌∙◌, arith, inl, inr}
use Rattle.std.proofs.lemmas.Bool.{cases_order}
use Rattle.topos_model.specs.categories.Category.{Category, dom, compose}
use Rattle.topos_model.specs.types.Types.{Presheaf}
use Rattle.topos_model.specs.Laws.{IsInto, IsCategory, act, size, IsFunctor}
use Rattle.topos_model.specs.presheaves.Maps.{Components, component, apply, IsNatural, after, ExactlyOne}
use Rattle.topos_model.specs.presheaves.Colimits.{IsLeastPlace, LeastPlacesRise, IsCoequalizer}
use Rattle.topos_model.proofs.MapEquations.{composites_natural}
use Rattle.natural_maps.proofs.Triangles.{codomain_object, value_after, after_is}
use Rattle.natural_maps.proofs.Descents.{descend}
use Rattle.finite_colimits.specs.Classes.{Joins, IsClasses, IsOfClasses}

module _ (k : Category) (lk : IsCategory k) (X Y : Presheaf) (m n q r : Components) (lx : IsFunctor k X) (ly : IsFunctor k Y) (nm : IsNatural k X Y m) (nn : IsNatural k X Y n)
    (objects : length q ≡ k.objects) (each : (c : ℕ) → c < k.objects → IsClasses (component m c) (component n c) (size Y c) (component q c) (component r c))
    (Z : Presheaf) (is : IsOfClasses k Y q r Z) where
  -- the class of a restriction is that of the restriction of the least member
  class_of_restriction : (c f y : ℕ) → IsInto k c f → y < size Y c → apply q (dom k f) (act Y f y) ≡ apply q (dom k f) (act Y f (apply r c (apply q c y)))
  class_of_restriction c f y i l =
      let h : c < k.objects = codomain_object k lk c f i in
      let d : dom k f < k.objects = (lk.ends f i.0).0 in
      (each c h).sound (λ v. apply q (dom k f) (act Y f v))
      (λ x b.
      let bx : x < size X c = subst (λ (t : ℕ). x < t) (nm.total c h) b in
      ap (λ (v : ℕ). apply q (dom k f) v) (sym (nm.commutes c f x i bx))
      ∙ (each (dom k f) d).joined (act X f x) (subst (λ (t : ℕ). act X f x < t) (sym (nm.total (dom k f) d)) (lx.within c f x i bx))
      ∙ ap (λ (v : ℕ). apply q (dom k f) v) (nn.commutes c f x i bx))
      y l

  restricted_within : (c f t : ℕ) → IsInto k c f → t < length (component r c) → act Y f (apply r c t) < size Y (dom k f)
  restricted_within c f t i l = ly.within c f (apply r c t) i ((each c (codomain_object k lk c f i)).member t l)

  act_within : (c f t : ℕ) → IsInto k c f → t < length (component r c) → act Z f t < length (component r (dom k f))
  act_within c f t i l =
      let d : dom k f < k.objects = (lk.ends f i.0).0 in
      subst (λ (v : ℕ). v < length (component r (dom k f))) (sym (is.is c f t i l)) ((each (dom k f) d).within (act Y f (apply r c t)) (restricted_within c f t i l))

  sized : (c t : ℕ) → c < k.objects → t < size Z c → t < length (component r c)
  sized c t h l = subst (λ (s : ℕ). t < s) (is.sizes c h) l

  classes_functor : IsFunctor k Z
  classes_functor = record {
    objects = is.objects;
    arrows = is.arrows;
    total = λ c f i. is.total c f i ∙ sym (is.sizes c (codomain_object k lk c f i));
    within = λ c f t i l.
        subst (λ (s : ℕ). act Z f t < s) (sym (is.sizes (dom k f) (lk.ends f i.0).0)) (act_within c f t i (sized c t (codomain_object k lk c f i) l));
    identity = λ c t h l.
        let i = lk.identity c h in
        let b : t < length (component r c) = sized c t h l in
        subst (λ (d : ℕ). act Z c t ≡ apply q d (act Y c (apply r c t))) i.1 (is.is c c t i.0 b)
        ∙ ap (λ (v : ℕ). apply q c v) (ly.identity c (apply r c t) h ((each c h).member t b))
        ∙ (each c h).least_of t b;
    composite = λ c f g t i j l.
        let h : c < k.objects = codomain_object k lk c f i in
        let b : t < length (component r c) = sized c t h l in
        let p = lk.composite c f g i j in
        let w : act Z f t < length (component r (dom k f)) = act_within c f t i b in
        let y : act Y f (apply r c t) < size Y (dom k f) = restricted_within c f t i b in
        is.is (dom k f) g (act Z f t) j w
        ∙ ap (λ (v : ℕ). apply q (dom k g) (act Y g (apply r (dom k f) v))) (is.is c f t i b)
        ∙ sym (class_of_restriction (dom k f) g (act Y f (apply r c t)) j y)
        ∙ ap (λ (v : ℕ). apply q (dom k g) v) (ly.composite c f g (apply r c t) i j ((each c h).member t b))
        ∙ sym (subst (λ (d : ℕ). act Z (compose k f g) t ≡ apply q d (act Y (compose k f g) (apply r c t))) p.1 (is.is c (compose k f g) t p.0 b));
  }

  classes_natural : IsNatural k Y Z q
  classes_natural = record {
    objects = objects;
    total = λ c h. (each c h).numbers;
    within = λ c y h l. subst (λ (s : ℕ). apply q c y < s) (sym (is.sizes c h)) ((each c h).within y l);
    commutes = λ c f y i l.
        let h : c < k.objects = codomain_object k lk c f i in
        class_of_restriction c f y i l ∙ sym (is.is c f (apply q c y) i ((each c h).within y l));
  }

  least_places : (c : ℕ) → c < k.objects → LeastPlacesRise (size Z c) (component q c)
  least_places c h = record {
    found = λ t l.
        let b : t < length (component r c) = sized c t h l in (
          apply r c t,
          record {
            within = subst (λ (s : ℕ). apply r c t < s) (sym ((each c h).numbers)) ((each c h).member t b);
            is = (each c h).least_of t b;
            least = λ y m e.
                let w : apply r c t < size Y c = (each c h).member t b in
                let low : apply r c t ≤ y = (each c h).least t y b (omega arith) e in
                omega arith;
          },
        );
    rise = λ s t y z l m ly lz.
        let bt : t < length (component r c) = sized c t h m in
        let bs : s < length (component r c) = omega arith in
        let up : apply r c s < apply r c t = (each c h).rise s t l bt in
        let es : y ≡ apply r c s = placed c h s y bs ly in
        let et : z ≡ apply r c t = placed c h t z bt lz in
        omega arith;
  }
    where
      placed : (c : ℕ) → c < k.objects → (t y : ℕ) → t < length (component r c) → IsLeastPlace (component q c) t y → y ≡ apply r c t
      placed c h t y l p =
          let b : y < size Y c = subst (λ (s : ℕ). y < s) ((each c h).numbers) p.within in
          let low : apply r c t ≤ y = (each c h).least t y l b p.is in
          elim (cases_order y (apply r c t)) [
            | inl e ↦ e
            | inr e ↦ elim e [
              | inl e ↦ absurd (omega arith)
              | inr e ↦ absurd (p.least (apply r c t) e ((each c h).least_of t l))
            ]
          ]

  pub coequalizer_by_classes : IsCoequalizer k X Y m n Z q
  coequalizer_by_classes = record {
    functor = classes_functor;
    quotient = classes_natural;
    equal =
        after_is k X Y Z q m classes_natural nm lk lx (after q n) (composites_natural k X Y Z q n lk lx classes_natural nn)
        (λ c x h l.
        (each c h).joined x (subst (λ (t : ℕ). x < t) (sym (nm.total c h)) l) ∙ sym (value_after k X Y Z q n classes_natural nn c x h l));
    factors = λ F l lf nl e.
        let one : ExactlyOne (λ (u : Components). IsNatural k Z F u × (after u q ≡ l) × (after u q ≡ l)) =
        descend k lk Y Y Z F ly ly classes_functor q q l l classes_natural classes_natural nl nl
        (λ c t h b.
        let w : t < length (component r c) = sized c t h b in
        inl (record { element = apply r c t; within = (each c h).member t w; is = (each c h).least_of t w }))
        (λ c t h b.
        let w : t < length (component r c) = sized c t h b in
        let j : Joins (component m c) (component n c) (λ y. apply l c y) = λ x d.
        let dx : x < size X c = subst (λ (s : ℕ). x < s) (nm.total c h) d in
        sym (value_after k X Y F l m nl nm c x h dx) ∙ ap (λ (s : Components). apply s c x) e ∙ value_after k X Y F l n nl nn c x h dx in
        let v : (y : ℕ) → y < size Y c → apply q c y ≡ t → apply l c y ≡ apply l c (apply r c t) = λ y d s.
        (each c h).sound (λ u. apply l c u) j y d ∙ ap (λ (u : ℕ). apply l c (apply r c u)) s in
        (apply l c (apply r c t), record { within = nl.within c (apply r c t) h ((each c h).member t w); first = v; second = v })) in
        (one.0, (one.1.0, one.1.1), λ b h. one.2 b (h.0, h.1, h.1));
    order = least_places;
  }
