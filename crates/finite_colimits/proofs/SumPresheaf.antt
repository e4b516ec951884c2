-- The elements of X and then those of Y are their coproduct, and no elements are the initial presheaf.
use Rattle.std.proofs.Common.{◌≡◌, ℕ, zero, suc, ◌+◌, ◌<◌, ◌≤◌, List, [], ◌∷◌, ◌++◌, length, get_or, refl, sym, ap, subst, ◌∙◌, arith, ◌⊎◌, inl, inr}
use Rattle.std.proofs.lemmas.Bool.{cases_lt}
use Rattle.topos_model.specs.categories.Category.{Category, dom, cod, compose}
use Rattle.topos_model.specs.types.Types.{Presheaf}
use Rattle.topos_model.specs.Laws.{IsInto, IsCategory, act, size, IsFunctor}
use Rattle.topos_model.specs.presheaves.Maps.{Components, apply, IsNatural}
use Rattle.topos_model.specs.presheaves.Colimits.{IsInitial, IsCoproduct}
use Rattle.topos_model.proofs.MapEquations.{maps_same}
use Rattle.natural_maps.proofs.Choices.{AreChosen, choose, list_of}
use Rattle.natural_maps.proofs.Triangles.{codomain_object}
use Rattle.natural_maps.proofs.Descents.{descend}
use Rattle.finite_colimits.specs.Sums.{IsSum, IsGivenBy, IsEmpty}

-- t is one of the first a numbers, or a and one of the next b
pub record IsAfter (a b t : ℕ) : Type 0 where
  pub element : ℕ
  pub within : element < b
  pub is : t ≡ a + element

pub parted : (a b t : ℕ) → t < a + b → (t < a) ⊎ IsAfter a b t
parted a b t h = elim (cases_lt t a) [
  | inl l ↦ inl l
  | inr l ↦ let w : (y : ℕ) × (t ≡ a + y) = difference a t l in
      inr (record { element = w.0; within = (let e : t ≡ a + w.0 = w.1 in omega arith); is = w.1 })
]
  where
    difference : (a t : ℕ) → a ≤ t → (y : ℕ) × (t ≡ a + y)
    difference zero t h = (t, omega arith)
    difference (suc a) zero h = absurd (omega arith)
    difference (suc a) (suc t) h = let w : (y : ℕ) × (t ≡ a + y) = difference a t (omega arith) in (w.0, let e : t ≡ a + w.0 = w.1 in omega arith)

-- an entry of the second of two lists
pub later_entry : (xs ys : List ℕ) (y j : ℕ) → y ≡ length xs + j → get_or (xs ++ ys) y 0 ≡ get_or ys j 0
later_entry [] ys y j e = ap (λ (i : ℕ). get_or ys i 0) (let d : y ≡ j = omega arith in d)
later_entry (x ∷ xs) ys zero j e = absurd (omega arith)
later_entry (x ∷ xs) ys (suc y) j e = later_entry xs ys y j (omega arith)

module _ (k : Category) (lk : IsCategory k) (X Y Z : Presheaf) (lx : IsFunctor k X) (ly : IsFunctor k Y) (sum : IsSum k X Y Z) where
  sum_within : (c f t : ℕ) → IsInto k c f → t < size Z c → act Z f t < size Z (dom k f)
  sum_within c f t i l =
      let h : c < k.objects = codomain_object k lk c f i in
      let s : size Z (dom k f) ≡ size X (dom k f) + size Y (dom k f) = sum.sizes (dom k f) (lk.ends f i.0).0 in
      elim (parted (size X c) (size Y c) t (subst (λ (n : ℕ). t < n) (sum.sizes c h) l)) [
        | inl b ↦
            let e : act Z f t ≡ act X f t = sum.first c f t i b in
            let w : act X f t < size X (dom k f) = lx.within c f t i b in
            omega arith
        | inr b ↦
            let e : act Z f t ≡ size X (dom k f) + act Y f b.element = ap (λ (n : ℕ). act Z f n) b.is ∙ sum.second c f b.element i b.within in
            let w : act Y f b.element < size Y (dom k f) = ly.within c f b.element i b.within in
            omega arith
      ]

  pub sum_functor : IsFunctor k Z
  sum_functor = record {
    objects = sum.objects;
    arrows = sum.arrows;
    total = λ c f i. sum.total c f i ∙ sym (sum.sizes c (codomain_object k lk c f i));
    within = sum_within;
    identity = λ c t h l.
        let i = lk.identity c h in
        elim (parted (size X c) (size Y c) t (subst (λ (n : ℕ). t < n) (sum.sizes c h) l)) [
          | inl b ↦ sum.first c c t i.0 b ∙ lx.identity c t h b
          | inr b ↦
              ap (λ (n : ℕ). act Z c n) b.is
              ∙ subst (λ (d : ℕ). act Z c (size X c + b.element) ≡ size X d + act Y c b.element) i.1 (sum.second c c b.element i.0 b.within)
              ∙ ap (λ (n : ℕ). size X c + n) (ly.identity c b.element h b.within)
              ∙ sym b.is
        ];
    composite = λ c f g t i j l.
        let h : c < k.objects = codomain_object k lk c f i in
        let p = lk.composite c f g i j in
        elim (parted (size X c) (size Y c) t (subst (λ (n : ℕ). t < n) (sum.sizes c h) l)) [
          | inl b ↦
              ap (λ (n : ℕ). act Z g n) (sum.first c f t i b)
              ∙ sum.first (dom k f) g (act X f t) j (lx.within c f t i b)
              ∙ lx.composite c f g t i j b
              ∙ sym (sum.first c (compose k f g) t p.0 b)
          | inr b ↦
              ap (λ (n : ℕ). act Z g (act Z f n)) b.is
              ∙ ap (λ (n : ℕ). act Z g n) (sum.second c f b.element i b.within)
              ∙ sum.second (dom k f) g (act Y f b.element) j (ly.within c f b.element i b.within)
              ∙ ap (λ (n : ℕ). size X (dom k g) + n) (ly.composite c f g b.element i j b.within)
              ∙ sym (subst (λ (d : ℕ). act Z (compose k f g) (size X c + b.element) ≡ size X d + act Y (compose k f g) b.element) p.1 (sum.second c (compose k f g) b.element p.0 b.within))
              ∙ ap (λ (n : ℕ). act Z (compose k f g) n) (sym b.is)
        ];
  }

module _ (k : Category) (lk : IsCategory k) (X Y Z : Presheaf) (lx : IsFunctor k X) (ly : IsFunctor k Y) (sum : IsSum k X Y Z) (i j : Components)
    (si : IsGivenBy k X (λ _ x. x) i) (sj : IsGivenBy k Y (λ c y. size X c + y) j) where
  first_inclusion : IsNatural k X Z i
  first_inclusion = record {
    objects = si.objects;
    total = si.total;
    within = λ c x h l. let e : apply i c x ≡ x = si.is c x h l in let s : size Z c ≡ size X c + size Y c = sum.sizes c h in omega arith;
    commutes = λ c f x a l.
        si.is (dom k f) (act X f x) (lk.ends f a.0).0 (lx.within c f x a l)
        ∙ sym (sum.first c f x a l)
        ∙ ap (λ (n : ℕ). act Z f n) (sym (si.is c x (codomain_object k lk c f a) l));
  }

  second_inclusion : IsNatural k Y Z j
  second_inclusion = record {
    objects = sj.objects;
    total = sj.total;
    within = λ c y h l. let e : apply j c y ≡ size X c + y = sj.is c y h l in let s : size Z c ≡ size X c + size Y c = sum.sizes c h in omega arith;
    commutes = λ c f y a l.
        sj.is (dom k f) (act Y f y) (lk.ends f a.0).0 (ly.within c f y a l)
        ∙ sym (sum.second c f y a l)
        ∙ ap (λ (n : ℕ). act Z f n) (sym (sj.is c y (codomain_object k lk c f a) l));
  }

  pub coproduct_by_sum : IsCoproduct k X Y Z i j
  coproduct_by_sum = record {
    functor = sum_functor k lk X Y Z lx ly sum;
    first = first_inclusion;
    second = second_inclusion;
    factors = λ F m n lf nm nn.
        descend k lk X Y Z F lx ly (sum_functor k lk X Y Z lx ly sum) i j m n first_inclusion second_inclusion nm nn
        (λ c t h l. elim (parted (size X c) (size Y c) t (subst (λ (s : ℕ). t < s) (sum.sizes c h) l)) [
          | inl b ↦ inl (record { element = t; within = b; is = si.is c t h b })
          | inr b ↦ inr (record { element = b.element; within = b.within; is = sj.is c b.element h b.within ∙ sym b.is })
        ])
        (λ c t h l. elim (parted (size X c) (size Y c) t (subst (λ (s : ℕ). t < s) (sum.sizes c h) l)) [
          | inl b ↦ (
            apply m c t,
            record {
              within = nm.within c t h b;
              first = λ x d e. ap (λ (s : ℕ). apply m c s) (sym (si.is c x h d) ∙ e);
              second = λ y d e. absurd (let w : apply j c y ≡ size X c + y = sj.is c y h d in omega arith);
            },
          )
          | inr b ↦ (
            apply n c b.element,
            record {
              within = nn.within c b.element h b.within;
              first = λ x d e. absurd (let w : apply i c x ≡ x = si.is c x h d in let v : t ≡ size X c + b.element = b.is in omega arith);
              second = λ y d e.
                  let w : apply j c y ≡ size X c + y = sj.is c y h d in
                  let v : t ≡ size X c + b.element = b.is in
                  let s : y ≡ b.element = omega arith in
                  ap (λ (s : ℕ). apply n c s) s;
            },
          )
        ]);
    first_order = si.is;
    second_order = sj.is;
  }

pub empty_functor : (k : Category) (Z : Presheaf) → IsCategory k → IsEmpty k Z → IsFunctor k Z
empty_functor k Z lk e = record {
  objects = e.objects;
  arrows = e.arrows;
  total = λ c f i. e.total f i.0 ∙ sym (e.sizes c (codomain_object k lk c f i));
  within = λ c f t i l. absurd (let s : size Z c ≡ 0 = e.sizes c (codomain_object k lk c f i) in omega arith);
  identity = λ c t h l. absurd (let s : size Z c ≡ 0 = e.sizes c h in omega arith);
  composite = λ c f g t i j l. absurd (let s : size Z c ≡ 0 = e.sizes c (codomain_object k lk c f i) in omega arith);
}

pub initial_by_empty : (k : Category) (Z : Presheaf) → IsCategory k → IsEmpty k Z → IsInitial k Z
initial_by_empty k Z lk e = record {
  functor = empty_functor k Z lk e;
  factors = λ F lf.
      let u : AreChosen k.objects (size Z) (λ c t v. ⊥) = choose k.objects (size Z) (λ c t v. ⊥) (λ c t h l. absurd (let s : size Z c ≡ 0 = e.sizes c h in omega arith)) in
      let nu : IsNatural k Z F u.components = record {
        objects = u.objects;
        total = u.total;
        within = λ c t h l. absurd (u.each c t h l);
        commutes = λ c f t i l. absurd (u.each c t (codomain_object k lk c f i) l);
      } in
      (u.components, nu, λ v nv. maps_same k Z F v u.components nv nu (λ c t h l. absurd (u.each c t h l)));
}

-- there is a sum of any two presheaves, with its inclusions
pub record IsStandardSum (k : Category) (X Y Z : Presheaf) (i j : Components) : Type 0 where
  pub sum : IsSum k X Y Z
  pub first : IsGivenBy k X (λ _ x. x) i
  pub second : IsGivenBy k Y (λ c y. size X c + y) j

pub sum_exists : (k : Category) (X Y : Presheaf) → IsCategory k → (Z : Presheaf) × (i : Components) × (j : Components) × IsStandardSum k X Y Z i j
sum_exists k X Y lk =
    let sizes = list_of k.objects (λ c. size X c + size Y c) in
    let P : ℕ → ℕ → ℕ → Type 0 = λ f t v. (t < size X (cod k f) → v ≡ act X f t) × ((y : ℕ) → t ≡ size X (cod k f) + y → v ≡ size X (dom k f) + act Y f y) in
    let along = choose (length k.ends) (λ f. size X (cod k f) + size Y (cod k f)) P (λ f t h l.
    elim (parted (size X (cod k f)) (size Y (cod k f)) t l) [
      | inl b ↦ (act X f t, ((λ _. refl), λ y e. absurd (omega arith)))
      | inr b ↦ (
        size X (dom k f) + act Y f b.element,
        (
          (λ d. absurd (let v : t ≡ size X (cod k f) + b.element = b.is in omega arith)),
          λ y e. let v : t ≡ size X (cod k f) + b.element = b.is in let s : b.element ≡ y = omega arith in ap (λ (n : ℕ). size X (dom k f) + act Y f n) s,
        ),
      )
    ]) in
    let i = choose k.objects (size X) (λ c x v. v ≡ x) (λ c x _ _. (x, refl)) in
    let j = choose k.objects (size Y) (λ c y v. v ≡ size X c + y) (λ c y _ _. (size X c + y, refl)) in (
      record { sizes = sizes.list; along = along.components },
      i.components,
      j.components,
      record {
        sum = record {
          objects = sizes.count;
          arrows = along.objects;
          sizes = λ c h. sizes.each c h;
          total = λ c f a. along.total f a.0 ∙ ap (λ (d : ℕ). size X d + size Y d) a.1;
          first = λ c f x a l.
              let w : x < size X (cod k f) = subst (λ (d : ℕ). x < size X d) (sym a.1) l in
              (along.each f x a.0 (omega arith)).0 w;
          second = λ c f y a l.
              let w : y < size Y (cod k f) = subst (λ (d : ℕ). y < size Y d) (sym a.1) l in
              let e : size X c ≡ size X (cod k f) = ap (λ (d : ℕ). size X d) (sym a.1) in
              (along.each f (size X c + y) a.0 (omega arith)).1 y (omega arith);
        };
        first = record { objects = i.objects; total = i.total; is = i.each };
        second = record { objects = j.objects; total = j.total; is = j.each };
      },
    )

pub empty_exists : (k : Category) → (Z : Presheaf) × IsEmpty k Z
empty_exists k =
    let sizes = list_of k.objects (λ _. 0) in
    let along = choose (length k.ends) (λ _. 0) (λ _ _ _. ⊥) (λ f t h l. absurd (omega arith)) in (
      record { sizes = sizes.list; along = along.components },
      record {
        objects = sizes.count;
        arrows = along.objects;
        sizes = sizes.each;
        total = along.total;
      },
    )
