-- Composites of natural maps by their values.
use Rattle.std.proofs.Common.{◌≡◌, ℕ, ◌<◌, refl, sym, ap, subst, ◌∙◌}
use Rattle.topos_model.specs.categories.Category.{Category, dom}
use Rattle.topos_model.specs.types.Types.{Presheaf}
use Rattle.topos_model.specs.Laws.{IsInto, IsCategory, act, size, IsFunctor}
use Rattle.topos_model.specs.presheaves.Maps.{Components, apply, IsNatural, after}
use Rattle.topos_model.proofs.MapEquations.{apply-after, maps_same, composites_natural}
use Rattle.natural_maps.proofs.Choices.{AreChosen, choose}

-- the ends of an arrow into c are objects
pub codomain_object : (k : Category) → IsCategory k → (c f : ℕ) → IsInto k c f → c < k.objects
codomain_object k lk c f i = subst (λ (t : ℕ). t < k.objects) i.1 (lk.ends f i.0).1

module _ (k : Category) (F Z X : Presheaf) (p u : Components) (np : IsNatural k Z X p) (nu : IsNatural k F Z u) where
  pub value_after : (c s : ℕ) → c < k.objects → s < size F c → apply (after p u) c s ≡ apply p c (apply u c s)
  value_after c s h l =
      apply-after p u c s (subst (λ (t : ℕ). c < t) (sym np.objects) h) (subst (λ (t : ℕ). c < t) (sym nu.objects) h) (subst (λ (t : ℕ). s < t) (sym (nu.total c h)) l)

  -- where p.u is m, it has the values of m
  pub values_agree : (m : Components) → after p u ≡ m → (c s : ℕ) → c < k.objects → s < size F c → apply p c (apply u c s) ≡ apply m c s
  values_agree m e c s h l = sym (value_after c s h l) ∙ ap (λ (r : Components). apply r c s) e

  -- and where it has the values of m, it is m
  pub after_is : IsCategory k → IsFunctor k F → (m : Components) → IsNatural k F X m → ((c s : ℕ) → c < k.objects → s < size F c → apply p c (apply u c s) ≡ apply m c s) → after p u ≡ m
  after_is lk lf m nm e =
      maps_same k F X (after p u) m (composites_natural k F Z X p u lk lf np nu) nm (λ c s h l. value_after c s h l ∙ e c s h l)

-- n.(m.l) is (n.m).l
pub after_associates : (k : Category) (P Q R S : Presheaf) (n m l : Components) → IsCategory k → IsFunctor k P → IsFunctor k Q →
    IsNatural k R S n → IsNatural k Q R m → IsNatural k P Q l → after n (after m l) ≡ after (after n m) l
after_associates k P Q R S n m l lk lp lq nn nm nl =
    let ml : IsNatural k P R (after m l) = composites_natural k P Q R m l lk lp nm nl in
    let nnm : IsNatural k Q S (after n m) = composites_natural k Q R S n m lk lq nn nm in
    after_is k P R S n (after m l) nn ml lk lp (after (after n m) l) (composites_natural k P Q S (after n m) l lk lp nnm nl)
    (λ c s h b.
    let w : apply l c s < size Q c = nl.within c s h b in
    ap (λ (y : ℕ). apply n c y) (value_after k P Q R m l nm nl c s h b)
    ∙ sym (value_after k Q R S n m nn nm c (apply l c s) h w)
    ∙ sym (value_after k P Q S (after n m) l nnm nl c s h b))

-- the map that takes each element to itself
pub record IsIdentity (k : Category) (X : Presheaf) (u : Components) : Type 0 where
  pub natural : IsNatural k X X u
  pub same : (c x : ℕ) → c < k.objects → x < size X c → apply u c x ≡ x

pub identity : (k : Category) (X : Presheaf) → IsCategory k → IsFunctor k X → (u : Components) × IsIdentity k X u
identity k X lk lx =
    let u : AreChosen k.objects (size X) (λ c x v. v ≡ x) = choose k.objects (size X) (λ c x v. v ≡ x) (λ c x _ _. (x, refl)) in (
      u.components,
      record {
        natural = record {
          objects = u.objects;
          total = u.total;
          within = λ c x h l. subst (λ (y : ℕ). y < size X c) (sym (u.each c x h l)) l;
          commutes = λ c f x i l.
              let h = codomain_object k lk c f i in
              u.each (dom k f) (act X f x) (lk.ends f i.0).0 (lx.within c f x i l) ∙ ap (λ (y : ℕ). act X f y) (sym (u.each c x h l));
        };
        same = u.each;
      },
    )
