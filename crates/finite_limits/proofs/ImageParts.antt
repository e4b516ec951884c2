-- The values of a map are its image.
use Rattle.std.proofs.Common.{◌≡◌, ℕ, ◌+◌, ◌<◌, Bool, true, false, List, [], length, get_or, replicate, set, refl, sym, ap, subst, ◌∙◌, arith, inl, inr, get_or-set_same, get_or-set_other}
use Rattle.std.proofs.lemmas.Bool.{cases_lt, cases_eq}
use Rattle.std.proofs.lemmas.List.{length-map, get_or-map, get_or-replicate, length-replicate, length-set, get_or_past}
use Rattle.std.proofs.lemmas.List.FromFn.{length-map-range_with_len, get_or-map-range_with_len}
use Rattle.topos_model.specs.categories.Category.{Category, dom}
use Rattle.topos_model.specs.types.Types.{Presheaf}
use Rattle.topos_model.specs.Laws.{IsCategory, act, size, IsFunctor}
use Rattle.topos_model.specs.presheaves.Maps.{Components, component, apply, after_component, IsNatural}
use Rattle.topos_model.specs.presheaves.Limits.{IsImage}
use Rattle.topos_model.specs.statements.Cells.{presheaf_cells}
use Rattle.natural_maps.specs.Room.{IsOverRoom}
use Rattle.natural_maps.proofs.Triangles.{codomain_object}
use Rattle.finite_limits.specs.Carried.{IsCarried}
use Rattle.finite_limits.specs.Kept.{IsPlace, AreKept, AreKeptRows, AreValuesMarked, IsValue, value_places}
use Rattle.finite_limits.specs.Parts.{IsPart, part_presheaf}
use Rattle.finite_limits.proofs.Carried.{carried_apart}
use Rattle.finite_limits.proofs.Universal as universal
use Rattle.finite_limits.proofs.OneLimit.{one_image}
use Rattle.finite_limits.proofs.KeptNumbers.{kept_alike}
use Rattle.finite_limits.proofs.PartPresheaf.{part_of_kept, part_size, part_carried}

-- no value yet, and one more
pub no_values : (m : List ℕ) (n : ℕ) → AreValuesMarked 0 m n (replicate n false)
no_values m n = record {
  places = length-replicate n false;
  marked = λ x l. absurd (omega arith);
  value = λ y e. absurd (elim (cases_lt y n) [
    | inl b ↦ let never : get_or (replicate n false) y false ≡ false = get_or-replicate n y false false b in let wrong : true ≡ false = sym e ∙ never in cc
    | inr b ↦
        let past : get_or (replicate n false) y false ≡ false = get_or_past (replicate n false) y false (let w : length (replicate n false) ≡ n = length-replicate n false in omega arith) in
        let wrong : true ≡ false = sym e ∙ past in
        cc
  ]);
}

pub one_more_value : (count : ℕ) (m : List ℕ) (n : ℕ) (marks : List Bool) → AreValuesMarked count m n marks → get_or m count 0 < n → AreValuesMarked (count + 1) m n (set marks (get_or m count 0) true)
one_more_value count m n marks a low = record {
  places = length-set marks (get_or m count 0) true ∙ a.places;
  marked = λ x l. elim (cases_eq (get_or m x 0) (get_or m count 0)) [
    | inl e ↦ subst (λ (y : ℕ). get_or (set marks (get_or m count 0) true) y false ≡ true) (sym e) here
    | inr e ↦ get_or-set_other marks (get_or m count 0) (get_or m x 0) true false e ∙ a.marked x (let other : (x ≡ count) → ⊥ = λ s. e (ap (λ (z : ℕ). get_or m z 0) s) in omega arith)
  ];
  value = λ y e. elim (cases_eq y (get_or m count 0)) [
    | inl s ↦ (count, omega arith, sym s)
    | inr s ↦
        let w : (x : ℕ) × (x < count) × (get_or m x 0 ≡ y) = a.value y (sym (get_or-set_other marks (get_or m count 0) y true false s) ∙ e) in
        let b : w.0 < count = w.1 in
        (w.0, omega arith, w.2)
  ];
}
  where
    here : get_or (set marks (get_or m count 0) true) (get_or m count 0) false ≡ true
    here = get_or-set_same marks (get_or m count 0) true false (let w : length marks ≡ n = a.places in omega arith)

pub kept_values : (m : List ℕ) (size : ℕ) (marks : List Bool) (i r : List ℕ) → AreValuesMarked (length m) m size marks → AreKept (λ y. get_or marks y false ≡ true) size i r → AreKept (IsValue m) size i r
kept_values m size marks i r a =
    kept_alike (λ y. get_or marks y false ≡ true) (IsValue m) size i r
    (λ y _ e. a.value y e)
    (λ y _ v. let w : (x : ℕ) × (x < length m) × (get_or m x 0 ≡ y) = v in subst (λ (z : ℕ). get_or marks z false ≡ true) w.2 (a.marked w.0 w.1))

module _ (k : Category) (lk : IsCategory k) (X Y : Presheaf) (lx : IsFunctor k X) (ly : IsFunctor k Y) (m : Components) (nm : IsNatural k X Y m) (i r : Components)
    (rows : AreKeptRows (λ c y. IsValue (component m c) y) k.objects Y.sizes i r) where
  pub image_part : IsPart k Y i r
  image_part =
      part_of_kept k lk Y ly (λ c y. IsValue (component m c) y) i r rows
      (λ c f y a l v.
      let w : (x : ℕ) × (x < length (component m c)) × (apply m c x ≡ y) = v in
      let b : w.0 < size X c = subst (λ (s : ℕ). w.0 < s) (nm.total c (codomain_object k lk c f a)) w.1 in
      let d : dom k f < k.objects = (lk.ends f a.0).0 in (
        act X f w.0,
        subst (λ (s : ℕ). act X f w.0 < s) (sym (nm.total (dom k f) d)) (lx.within c f w.0 a b),
        nm.commutes c f w.0 a b ∙ ap (λ (z : ℕ). act Y f z) w.2,
      ))

  image_carried : IsCarried k Y Y (part_presheaf k Y i r) i i
  image_carried = part_carried k lk Y i r image_part

  place_at : (c : ℕ) → c < k.objects → component (value_places k r m) c ≡ after_component (component r c) (component m c)
  place_at c h = get_or-map-range_with_len (λ d. after_component (component r d) (component m d)) 0 k.objects c c [] h (omega arith)

  place_of : (c x : ℕ) → c < k.objects → x < size X c → apply (value_places k r m) c x ≡ apply r c (apply m c x)
  place_of c x h l =
      ap (λ (s : List ℕ). get_or s x 0) (place_at c h) ∙ get_or-map (λ y. get_or (component r c) y 0) (component m c) x 0 0 (subst (λ (s : ℕ). x < s) (sym (nm.total c h)) l)

  -- m(x) stands at its place
  placed : (c x : ℕ) → c < k.objects → x < size X c → IsPlace (component i c) (apply (value_places k r m) c x) (apply m c x)
  placed c x h l =
      subst (λ (t : ℕ). IsPlace (component i c) t (apply m c x)) (sym (place_of c x h l))
      ((rows.each c h).rank (apply m c x) (nm.within c x h l) (x, subst (λ (s : ℕ). x < s) (sym (nm.total c h)) l, refl))

  place_within : (c x : ℕ) → c < k.objects → x < size X c → apply (value_places k r m) c x < size (part_presheaf k Y i r) c
  place_within c x h l = subst (λ (s : ℕ). apply (value_places k r m) c x < s) (sym (part_size k lk Y i r image_part c h)) (placed c x h l).within

  places_natural : IsNatural k X (part_presheaf k Y i r) (value_places k r m)
  places_natural = record {
    objects = length-map-range_with_len (λ d. after_component (component r d) (component m d)) 0 k.objects;
    total = λ c h. ap length (place_at c h) ∙ length-map (component m c) (λ y. get_or (component r c) y 0) ∙ nm.total c h;
    within = place_within;
    commutes = λ c f x a l.
        let h : c < k.objects = codomain_object k lk c f a in
        let d : dom k f < k.objects = (lk.ends f a.0).0 in
        let b : act X f x < size X (dom k f) = lx.within c f x a l in
        let w : apply (value_places k r m) c x < size (part_presheaf k Y i r) c = place_within c x h l in
        let same : apply i (dom k f) (apply (value_places k r m) (dom k f) (act X f x)) ≡ apply i (dom k f) (act (part_presheaf k Y i r) f (apply (value_places k r m) c x)) =
        (placed (dom k f) (act X f x) d b).is ∙ nm.commutes c f x a l ∙ ap (λ (y : ℕ). act Y f y) (sym (placed c x h l).is)
        ∙ sym (image_carried.first c f (apply (value_places k r m) c x) a w) in
        carried_apart k lk Y Y (part_presheaf k Y i r) ly ly i i image_carried (dom k f) (apply (value_places k r m) (dom k f) (act X f x)) (act (part_presheaf k Y i r) f (apply (value_places k r m) c x)) d
        (place_within (dom k f) (act X f x) d b) (image_carried.within c f (apply (value_places k r m) c x) a w) same same;
  }

  pub part_image : IsImage k X Y m (part_presheaf k Y i r) (value_places k r m) i
  part_image =
      universal.image k lk Y (part_presheaf k Y i r) ly i image_carried X m (value_places k r m) lx nm places_natural
      (λ c x h l. (placed c x h l).is)
      (λ c t h l.
      let w : (x : ℕ) × (x < length (component m c)) × (apply m c x ≡ apply i c t) = (rows.each c h).kept t (subst (λ (s : ℕ). t < s) (part_size k lk Y i r image_part c h) l) in
      (w.0, subst (λ (s : ℕ). w.0 < s) (nm.total c h) w.1, w.2))

  -- each image has as many cells
  pub image_over : (room : ℕ) → room < presheaf_cells k (part_presheaf k Y i r) → (Z : Presheaf) (e j : Components) → IsImage k X Y m Z e j → IsOverRoom k room Z
  image_over room h Z e j im =
      subst (λ (W : Presheaf). room < presheaf_cells k W) (one_image k X Y m (part_presheaf k Y i r) Z (value_places k r m) e i j lk lx part_image im).0 h
