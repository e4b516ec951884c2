-- Composites of natural maps, component by component, and natural maps by their values.
use Rattle.std.proofs.Common.{◌≡◌, ℕ, zero, suc, ◌<◌, List, [], ◌∷◌, length, get_or, refl, sym, ap, subst, ◌∙◌, arith}
use Rattle.std.proofs.lemmas.List.{ext_get_or, length-map, get_or-map}
use Rattle.topos_model.specs.categories.Category.{Category, dom}
use Rattle.topos_model.specs.types.Types.{Presheaf}
use Rattle.topos_model.specs.Laws.{IsCategory, act, size, IsFunctor}
use Rattle.topos_model.specs.presheaves.Maps.{Components, component, apply, IsNatural, after_component, after, CompositesAreNatural, MapsAreValues}

pub after-objects : (n m : Components) (l : ℕ) → length n ≡ l → length m ≡ l → length (after n m) ≡ l
unfolding after
after-objects [] [] l p q = p
after-objects [] (r ∷ m) l p q = p
after-objects (s ∷ n) [] l p q = q
after-objects (s ∷ n) (r ∷ m) zero p q = absurd (omega arith)
after-objects (s ∷ n) (r ∷ m) (suc l) p q = ap suc (after-objects n m l (omega arith) (omega arith))

pub component-after : (n m : Components) (c : ℕ) → c < length n → c < length m → component (after n m) c ≡ after_component (component n c) (component m c)
unfolding after
component-after [] m c p q = absurd (omega arith)
component-after (s ∷ n) [] c p q = absurd (omega arith)
component-after (s ∷ n) (r ∷ m) zero p q = refl
component-after (s ∷ n) (r ∷ m) (suc c) p q = component-after n m c (omega arith) (omega arith)

pub total-after : (n m : Components) (c : ℕ) → c < length n → c < length m → length (component (after n m) c) ≡ length (component m c)
total-after n m c p q = ap length (component-after n m c p q) ∙ length-map (component m c) (λ x. get_or (component n c) x 0)

pub apply-after : (n m : Components) (c x : ℕ) → c < length n → c < length m → x < length (component m c) → apply (after n m) c x ≡ apply n c (apply m c x)
apply-after n m c x p q h =
    ap (λ (r : List ℕ). get_or r x 0) (component-after n m c p q) ∙ get_or-map (λ y. get_or (component n c) y 0) (component m c) x 0 0 h

pub maps_same : MapsAreValues
maps_same k P Q m n mn nn same =
    ext_get_or [] m n (mn.objects ∙ sym nn.objects) (λ c h.
    let b : c < k.objects = subst (λ (l : ℕ). c < l) mn.objects h in
    ext_get_or 0 (component m c) (component n c) (mn.total c b ∙ sym (nn.total c b)) (λ x l. same c x b (subst (λ (t : ℕ). x < t) (mn.total c b) l)))

module _ (k : Category) (P Q R : Presheaf) (n m : Components) (nn : IsNatural k Q R n) (mn : IsNatural k P Q m) where
  values : (c x : ℕ) → c < k.objects → x < size P c → apply (after n m) c x ≡ apply n c (apply m c x)
  values c x h l = apply-after n m c x (subst (λ (t : ℕ). c < t) (sym nn.objects) h) (subst (λ (t : ℕ). c < t) (sym mn.objects) h) (subst (λ (t : ℕ). x < t) (sym (mn.total c h)) l)

  pub after_natural : IsCategory k → IsFunctor k P → IsNatural k P R (after n m)
  after_natural lk lp = record {
    objects = after-objects n m k.objects nn.objects mn.objects;
    total = λ c h. total-after n m c (subst (λ (t : ℕ). c < t) (sym nn.objects) h) (subst (λ (t : ℕ). c < t) (sym mn.objects) h) ∙ mn.total c h;
    within = λ c x h l. subst (λ (y : ℕ). y < size R c) (sym (values c x h l)) (nn.within c (apply m c x) h (mn.within c x h l));
    commutes = λ c f x i l.
        let e = lk.ends f i.0 in
        let h : c < k.objects = subst (λ (t : ℕ). t < k.objects) i.1 e.1 in
        values (dom k f) (act P f x) e.0 (lp.within c f x i l)
        ∙ ap (λ (y : ℕ). apply n (dom k f) y) (mn.commutes c f x i l)
        ∙ nn.commutes c f (apply m c x) i (mn.within c x h l)
        ∙ ap (λ (y : ℕ). act R f y) (sym (values c x h l));
  }

pub composites_natural : CompositesAreNatural
composites_natural k P Q R n m lk lp nn mn = after_natural k P Q R n m nn mn lk lp
