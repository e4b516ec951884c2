-- Identities of natural maps, and composites of composites.
use Rattle.std.proofs.Common.{◌≡◌, ℕ, zero, suc, ◌<◌, List, [], ◌∷◌, length, get_or, refl, sym, ap, subst, ◌∙◌, arith}
use Rattle.std.specs.List.{range_with_len}
use Rattle.std.proofs.lemmas.List.{ext_get_or, get_or-map, length-map}
use Rattle.std.proofs.lemmas.List.FromFn.{length-range_with_len, get_or-range_with_len}
use Rattle.topos_model.specs.categories.Category.{Category, dom}
use Rattle.topos_model.specs.types.Types.{Presheaf}
use Rattle.topos_model.specs.Laws.{act, size, IsFunctor}
use Rattle.topos_model.specs.presheaves.Maps.{Components, component, apply, IsNatural, after_component, after}
use Rattle.topos_model.specs.presheaves.NaturalMaps.{identity_map, IdentitiesAreNatural, MapsCompose}

-- the component of a composite
pub component-after : (n m : Components) (c : ℕ) → c < length m → length m ≡ length n → component (after n m) c ≡ after_component (component n c) (component m c)
unfolding after
component-after [] m c low same = absurd (omega arith)
component-after (s ∷ n) [] c low same = absurd (omega arith)
component-after (s ∷ n) (r ∷ m) zero low same = refl
component-after (s ∷ n) (r ∷ m) (suc c) low same = component-after n m c (omega arith) (omega arith)

pub length-after : (n m : Components) → length m ≡ length n → length (after n m) ≡ length m
unfolding after
length-after [] [] same = refl
length-after [] (r ∷ m) same = absurd (omega arith)
length-after (s ∷ n) [] same = refl
length-after (s ∷ n) (r ∷ m) same = ap suc (length-after n m (omega arith))

pub apply-after : (n m : Components) (c x : ℕ) → c < length m → length m ≡ length n → x < length (component m c) → apply (after n m) c x ≡ apply n c (apply m c x)
apply-after n m c x low same within =
    ap (λ (l : List ℕ). get_or l x 0) (component-after n m c low same) ∙ get_or-map (λ y. get_or (component n c) y 0) (component m c) x 0 0 within

module _ (P : Presheaf) where
  pub length-identity_map : length (identity_map P) ≡ length P.sizes
  unfolding identity_map
  length-identity_map = length-map P.sizes (range_with_len 0)

  pub component-identity_map : (c : ℕ) → c < length P.sizes → component (identity_map P) c ≡ range_with_len 0 (size P c)
  unfolding identity_map
  component-identity_map c low = get_or-map (range_with_len 0) P.sizes c 0 [] low

  pub apply-identity_map : (c x : ℕ) → c < length P.sizes → x < size P c → apply (identity_map P) c x ≡ x
  apply-identity_map c x low within = ap (λ (l : List ℕ). get_or l x 0) (component-identity_map c low) ∙ get_or-range_with_len 0 (size P c) x 0 within ∙ omega arith

pub identities_natural : IdentitiesAreNatural
identities_natural k P law functor = record {
  objects = length-identity_map P ∙ functor.objects;
  total = λ c low. ap length (component-identity_map P c (omega (arith, low, functor.objects))) ∙ length-range_with_len 0 (size P c);
  within = λ c x low within. rw (apply-identity_map P c x (omega (arith, low, functor.objects)) within) within;
  commutes = λ c f x i within.
      let low_c : c < k.objects = subst (λ d. d < k.objects) i.1 (law.ends f i.0).1 in
      apply-identity_map P (dom k f) (act P f x) (omega (arith, (law.ends f i.0).0, functor.objects)) (functor.within c f x i within)
      ∙ ap (act P f) (sym (apply-identity_map P c x (omega (arith, low_c, functor.objects)) within));
}

-- maps with equal values are equal
same_maps : (m n : Components) → length m ≡ length n → ((c : ℕ) → c < length m → length (component m c) ≡ length (component n c)) →
    ((c x : ℕ) → c < length m → x < length (component m c) → apply m c x ≡ apply n c x) → m ≡ n
same_maps m n objects total same =
    ext_get_or [] m n objects (λ c low. ext_get_or 0 (component m c) (component n c) (total c low) (λ x within. same c x low within))

length-component-after : (n m : Components) (c : ℕ) → c < length m → length m ≡ length n → length (component (after n m) c) ≡ length (component m c)
length-component-after n m c low same = ap length (component-after n m c low same) ∙ length-map (component m c) (λ y. get_or (component n c) y 0)

length-component-identity : (P : Presheaf) (c : ℕ) → c < length P.sizes → length (component (identity_map P) c) ≡ size P c
length-component-identity P c low = ap length (component-identity_map P c low) ∙ length-range_with_len 0 (size P c)

after_identity : (k : Category) (P Q : Presheaf) (l : Components) → IsFunctor k P → IsNatural k P Q l → after l (identity_map P) ≡ l
after_identity k P Q l functor natural =
    same_maps (after l (identity_map P)) l (count ∙ sym natural.objects)
    (λ c low. let o : c < k.objects = omega (arith, low, count) in sides c o ∙ sym (natural.total c o))
    (λ c x low within.
    let o : c < k.objects = omega (arith, low, count) in
    let at : x < size P c = omega (arith, within, sides c o) in
    let h : c < length P.sizes = omega (arith, o, functor.objects) in
    apply-after l (identity_map P) c x (omega (arith, o, same)) meet (omega (arith, at, length-component-identity P c h)) ∙ ap (apply l c) (apply-identity_map P c x h at))
  where
    same : length (identity_map P) ≡ k.objects
    same = length-identity_map P ∙ functor.objects

    meet : length (identity_map P) ≡ length l
    meet = same ∙ sym natural.objects

    count : length (after l (identity_map P)) ≡ k.objects
    count = length-after l (identity_map P) meet ∙ same

    sides : (c : ℕ) → c < k.objects → length (component (after l (identity_map P)) c) ≡ size P c
    sides c o = length-component-after l (identity_map P) c (omega (arith, o, same)) meet ∙ length-component-identity P c (omega (arith, o, functor.objects))

identity_after : (k : Category) (P Q : Presheaf) (l : Components) → IsFunctor k Q → IsNatural k P Q l → after (identity_map Q) l ≡ l
identity_after k P Q l functor natural =
    same_maps (after (identity_map Q) l) l count
    (λ c low. length-component-after (identity_map Q) l c (omega (arith, low, count)) meet)
    (λ c x low within.
    let here : c < length l = omega (arith, low, count) in
    let o : c < k.objects = omega (arith, here, natural.objects) in
    let at : x < length (component l c) = omega (arith, within, length-component-after (identity_map Q) l c here meet) in
    apply-after (identity_map Q) l c x here meet at
    ∙ apply-identity_map Q c (apply l c x) (omega (arith, o, functor.objects)) (natural.within c x o (omega (arith, at, natural.total c o))))
  where
    meet : length l ≡ length (identity_map Q)
    meet = natural.objects ∙ sym functor.objects ∙ sym (length-identity_map Q)

    count : length (after (identity_map Q) l) ≡ length l
    count = length-after (identity_map Q) l meet

after_after : (k : Category) (P Q R S : Presheaf) (l m n : Components) → IsNatural k P Q l → IsNatural k Q R m → IsNatural k R S n → after n (after m l) ≡ after (after n m) l
after_after k P Q R S l m n first second third =
    same_maps (after n (after m l)) (after (after n m) l) (left ∙ sym right)
    (λ c low.
    let o : c < length l = omega (arith, low, left) in
    length-component-after n (after m l) c (omega (arith, o, ml)) n_ml ∙ length-component-after m l c o meet ∙ sym (length-component-after (after n m) l c o nm_l))
    (λ c x low within.
    let o : c < length l = omega (arith, low, left) in
    let at : x < length (component l c) = omega (arith, within, length-component-after n (after m l) c (omega (arith, o, ml)) n_ml, length-component-after m l c o meet) in
    let k_low : c < k.objects = omega (arith, o, first.objects) in
    let y : apply l c x < length (component m c) = omega (arith, second.total c k_low, first.within c x k_low (omega (arith, at, first.total c k_low))) in
    apply-after n (after m l) c x (omega (arith, o, ml)) n_ml (omega (arith, at, length-component-after m l c o meet)) ∙ ap (apply n c) (apply-after m l c x o meet at)
    ∙ sym (apply-after n m c (apply l c x) (omega (arith, o, meet)) n_m y) ∙ sym (apply-after (after n m) l c x o nm_l at))
  where
    meet : length l ≡ length m
    meet = first.objects ∙ sym second.objects

    n_m : length m ≡ length n
    n_m = second.objects ∙ sym third.objects

    ml : length (after m l) ≡ length l
    ml = length-after m l meet

    n_ml : length (after m l) ≡ length n
    n_ml = ml ∙ meet ∙ n_m

    nm_l : length l ≡ length (after n m)
    nm_l = meet ∙ sym (length-after n m n_m)

    left : length (after n (after m l)) ≡ length l
    left = length-after n (after m l) n_ml ∙ ml

    right : length (after (after n m) l) ≡ length l
    right = length-after (after n m) l nm_l

pub maps_compose : MapsCompose
maps_compose k P Q R S l m n domain codomain first second third =
    (after_identity k P Q l domain first, identity_after k P Q l codomain first, after_after k P Q R S l m n first second third)
