-- The orders leave one coequalizer, one pushout, one coproduct and one initial presheaf.
use Rattle.std.proofs.Common.{◌≡◌, ℕ, ◌+◌, ◌<◌, ◌≤◌, List, ◌++◌, length, get_or, sym, ap, subst, ◌∙◌, arith, inl, inr}
use Rattle.std.proofs.lemmas.Bool.{cases_lt, cases_order}
use Rattle.std.proofs.lemmas.List.{length-append, get_or_append_left}
use Rattle.topos_model.specs.categories.Category.{Category}
use Rattle.topos_model.specs.types.Types.{Presheaf}
use Rattle.topos_model.specs.Laws.{IsCategory, size, IsFunctor}
use Rattle.topos_model.specs.presheaves.Maps.{Components, component, apply, IsNatural, after}
use Rattle.topos_model.specs.presheaves.Colimits.{IsLeastPlace, LeastPlacesRise, IsInitial, IsCoproduct, IsCoequalizer, IsPushout}
use Rattle.topos_model.proofs.MapEquations.{maps_same, composites_natural}
use Rattle.natural_maps.proofs.Triangles.{values_agree, after_associates, after_is, identity}
use Rattle.natural_maps.proofs.RigidNumbers.{IsRisingMap, IsSameNumbering, rising_both, presheaves_same}
use Rattle.finite_colimits.proofs.SumPresheaf.{parted, later_entry, coproduct_by_sum, IsStandardSum, sum_exists, empty_functor, empty_exists}

-- a map of numberings that takes the numbers of one list to those of another, and one back, rise with the least places
pub record IsCarriedOver (n : ℕ) (s t : List ℕ) (u : ℕ → ℕ) : Type 0 where
  pub places : length s ≡ length t
  pub is : (y : ℕ) → y < length s → u (get_or s y 0) ≡ get_or t y 0

carried_place : (s t : List ℕ) (u v : ℕ → ℕ) (n m : ℕ) → IsCarriedOver n s t u → IsCarriedOver m t s v → (a y : ℕ) → IsLeastPlace s a y → IsLeastPlace t (u a) y
carried_place s t u v n m cu cv a y p =
    let e : length s ≡ length t = cu.places in
    let w : y < length s = p.within in
    record {
      within = omega arith;
      is = sym (cu.is y w) ∙ ap u p.is;
      least = λ z l d.
          let zl : z < length t = omega arith in
          p.least z l (sym (cv.is z zl) ∙ ap v d ∙ ap v (ap u (sym p.is) ∙ cu.is y w) ∙ cv.is y (omega arith) ∙ p.is);
    }

least_places_rise : (n m : ℕ) (s t : List ℕ) (u v : ℕ → ℕ) → IsCarriedOver n s t u → IsCarriedOver m t s v → LeastPlacesRise n s → LeastPlacesRise m t →
    ((a : ℕ) → a < n → u a < m) → IsRisingMap n m u
least_places_rise n m s t u v cu cv rs rt within = record {
  within = within;
  rise = λ a b l h.
      let ya = rs.found a (omega arith) in
      let yb = rs.found b h in
      let up : ya.0 < yb.0 = rs.rise a b ya.0 yb.0 l h ya.1 yb.1 in
      let ta : IsLeastPlace t (u a) ya.0 = carried_place s t u v n m cu cv a ya.0 ya.1 in
      let tb : IsLeastPlace t (u b) yb.0 = carried_place s t u v n m cu cv b yb.0 yb.1 in
      elim (cases_order (u a) (u b)) [
        | inl e ↦ absurd (tb.least ya.0 up (ta.is ∙ e))
        | inr e ↦ elim e [
          | inl e ↦ e
          | inr e ↦ absurd (let down : yb.0 < ya.0 = rt.rise (u b) (u a) yb.0 ya.0 e (within a (omega arith)) tb ta in omega arith)
        ]
      ];
}

pub one_coequalizer : (k : Category) (X Y : Presheaf) (m n : Components) (Z W : Presheaf) (q r : Components) → IsCategory k → IsFunctor k Y → IsCoequalizer k X Y m n Z q → IsCoequalizer k X Y m n W r → (Z ≡ W) × (q ≡ r)
one_coequalizer k X Y m n Z W q r lk ly a b =
    let u = a.factors W r b.functor b.quotient b.equal in
    let v = b.factors Z q a.functor a.quotient a.equal in
    let over : (Z W : Presheaf) (q r u : Components) → IsNatural k Y Z q → IsNatural k Y W r → IsNatural k Z W u → after u q ≡ r → (c : ℕ) → c < k.objects →
    IsCarriedOver (size Z c) (component q c) (component r c) (λ t. apply u c t) = λ Z W q r u nq nr nu e c h.
    record { places = nq.total c h ∙ sym (nr.total c h); is = λ y l. values_agree k Y Z W u q nu nq r e c y h (subst (λ (t : ℕ). y < t) (nq.total c h) l) } in
    let same : (c : ℕ) → c < k.objects → IsSameNumbering (size Z c) (size W c) (λ t. apply u.0 c t) = λ c h.
    let ou = over Z W q r u.0 a.quotient b.quotient u.1.0 u.1.1 c h in
    let ov = over W Z r q v.0 b.quotient a.quotient v.1.0 v.1.1 c h in
    rising_both (size Z c) (size W c) (λ t. apply u.0 c t) (λ t. apply v.0 c t)
    (least_places_rise (size Z c) (size W c) (component q c) (component r c) (λ t. apply u.0 c t) (λ t. apply v.0 c t) ou ov (a.order c h) (b.order c h) (λ t l. u.1.0.within c t h l))
    (least_places_rise (size W c) (size Z c) (component r c) (component q c) (λ t. apply v.0 c t) (λ t. apply u.0 c t) ov ou (b.order c h) (a.order c h) (λ t l. v.1.0.within c t h l)) in
    let e : Z ≡ W = presheaves_same k Z W u.0 lk a.functor b.functor u.1.0 same in (
      e,
      maps_same k Y Z q r a.quotient (subst (λ (V : Presheaf). IsNatural k Y V r) (sym e) b.quotient) (λ c y h l.
          sym ((same c h).same (apply q c y) (a.quotient.within c y h l)) ∙ values_agree k Y Z W u.0 q u.1.0 a.quotient r u.1.1 c y h l),
    )

module _ (k : Category) (lk : IsCategory k) (X Y Z W : Presheaf) (i j l r u : Components) (ni : IsNatural k X Z i) (nj : IsNatural k Y Z j) (nl : IsNatural k X W l) (nr : IsNatural k Y W r)
    (nu : IsNatural k Z W u) (ei : after u i ≡ l) (ej : after u j ≡ r) where
  pub both_carried : (c : ℕ) → c < k.objects → IsCarriedOver (size Z c) (component i c ++ component j c) (component l c ++ component r c) (λ t. apply u c t)
  both_carried c h =
      let a : length (component i c) ≡ size X c = ni.total c h in
      let b : length (component j c) ≡ size Y c = nj.total c h in
      let d : length (component l c) ≡ size X c = nl.total c h in
      let e : length (component r c) ≡ size Y c = nr.total c h in
      let f : length (component i c ++ component j c) ≡ length (component i c) + length (component j c) = length-append (component i c) (component j c) in
      let g : length (component l c ++ component r c) ≡ length (component l c) + length (component r c) = length-append (component l c) (component r c) in
      record {
        places = omega arith;
        is = λ y b. elim (parted (size X c) (size Y c) y (omega arith)) [
          | inl w ↦
              ap (λ (t : ℕ). apply u c t) (get_or_append_left (component i c) (component j c) 0 y (omega arith))
              ∙ values_agree k X Z W u i nu ni l ei c y h w
              ∙ sym (get_or_append_left (component l c) (component r c) 0 y (omega arith))
          | inr w ↦
              let v : y ≡ size X c + w.element = w.is in
              ap (λ (t : ℕ). apply u c t) (later_entry (component i c) (component j c) y w.element (omega arith))
              ∙ values_agree k Y Z W u j nu nj r ej c w.element h w.within
              ∙ sym (later_entry (component l c) (component r c) y w.element (omega arith))
        ];
      }

-- the same presheaf and the same two maps
abbrev pub AreSame : Presheaf → Presheaf → Components → Components → Components → Components → Type 0
AreSame Z W i j l r = (Z ≡ W) × (i ≡ l) × (j ≡ r)

pub one_pushout : (k : Category) (A X Y : Presheaf) (m n : Components) (Z W : Presheaf) (i j l r : Components) → IsCategory k → IsPushout k A X Y m n Z i j → IsPushout k A X Y m n W l r → AreSame Z W i j l r
one_pushout k A X Y m n Z W i j l r lk a b =
    let u = a.factors W l r b.functor b.first b.second b.equal in
    let v = b.factors Z i j a.functor a.first a.second a.equal in
    let same : (c : ℕ) → c < k.objects → IsSameNumbering (size Z c) (size W c) (λ t. apply u.0 c t) = λ c h.
    let ou = both_carried k lk X Y Z W i j l r u.0 a.first a.second b.first b.second u.1.0 u.1.1 u.1.2 c h in
    let ov = both_carried k lk X Y W Z l r i j v.0 b.first b.second a.first a.second v.1.0 v.1.1 v.1.2 c h in
    rising_both (size Z c) (size W c) (λ t. apply u.0 c t) (λ t. apply v.0 c t)
    (least_places_rise (size Z c) (size W c) (component i c ++ component j c) (component l c ++ component r c) (λ t. apply u.0 c t) (λ t. apply v.0 c t) ou ov (a.order c h) (b.order c h) (λ t l. u.1.0.within c t h l))
    (least_places_rise (size W c) (size Z c) (component l c ++ component r c) (component i c ++ component j c) (λ t. apply v.0 c t) (λ t. apply u.0 c t) ov ou (b.order c h) (a.order c h) (λ t l. v.1.0.within c t h l)) in
    let e : Z ≡ W = presheaves_same k Z W u.0 lk a.functor b.functor u.1.0 same in (
      e,
      maps_same k X Z i l a.first (subst (λ (V : Presheaf). IsNatural k X V l) (sym e) b.first) (λ c x h d.
          sym ((same c h).same (apply i c x) (a.first.within c x h d)) ∙ values_agree k X Z W u.0 i u.1.0 a.first l u.1.1 c x h d),
      maps_same k Y Z j r a.second (subst (λ (V : Presheaf). IsNatural k Y V r) (sym e) b.second) (λ c y h d.
          sym ((same c h).same (apply j c y) (a.second.within c y h d)) ∙ values_agree k Y Z W u.0 j u.1.0 a.second r u.1.2 c y h d),
    )

all_below : (n m : ℕ) → ((t : ℕ) → t < n → t < m) → n ≤ m
all_below n m f = elim (cases_lt m n) [
  | inl h ↦ absurd (let w : m < m = f m h in omega arith)
  | inr h ↦ h
]

-- each coproduct is the sum
pub coproduct_is_sum : (k : Category) (X Y S Z : Presheaf) (i j l r : Components) → IsCategory k → IsFunctor k X → IsFunctor k Y → IsStandardSum k X Y S i j → IsCoproduct k X Y Z l r → AreSame S Z i j l r
coproduct_is_sum k X Y S Z i j l r lk lx ly st b =
    let a : IsCoproduct k X Y S i j = coproduct_by_sum k lk X Y S lx ly st.sum i j st.first st.second in
    let u = a.factors Z l r b.functor b.first b.second in
    let v = b.factors S i j a.functor a.first a.second in
    let nu : IsNatural k S Z u.0 = u.1.0 in
    let nv : IsNatural k Z S v.0 = v.1.0 in
    let d = identity k Z lk b.functor in
    let one = b.factors Z l r b.functor b.first b.second in
    let by_one : d.0 ≡ one.0 = one.2 d.0 (
      d.1.natural,
      after_is k X Z Z d.0 l d.1.natural b.first lk lx l b.first (λ c x h w. d.1.same c (apply l c x) h (b.first.within c x h w)),
      after_is k Y Z Z d.0 r d.1.natural b.second lk ly r b.second (λ c y h w. d.1.same c (apply r c y) h (b.second.within c y h w)),
    ) in
    let by_two : after u.0 v.0 ≡ one.0 = one.2 (after u.0 v.0) (
      composites_natural k Z S Z u.0 v.0 lk b.functor nu nv,
      sym (after_associates k X Z S Z u.0 v.0 l lk lx b.functor nu nv b.first) ∙ ap (λ (w : Components). after u.0 w) v.1.1 ∙ u.1.1,
      sym (after_associates k Y Z S Z u.0 v.0 r lk ly b.functor nu nv b.second) ∙ ap (λ (w : Components). after u.0 w) v.1.2 ∙ u.1.2,
    ) in
    let own : (c t : ℕ) → c < k.objects → t < size S c → apply u.0 c t ≡ t = λ c t h w.
    elim (parted (size X c) (size Y c) t (subst (λ (n : ℕ). t < n) (st.sum.sizes c h) w)) [
      | inl e ↦ ap (λ (n : ℕ). apply u.0 c n) (sym (a.first_order c t h e)) ∙ values_agree k X S Z u.0 i nu a.first l u.1.1 c t h e ∙ b.first_order c t h e
      | inr e ↦ ap (λ (n : ℕ). apply u.0 c n) (e.is ∙ sym (a.second_order c e.element h e.within)) ∙ values_agree k Y S Z u.0 j nu a.second r u.1.2 c e.element h e.within ∙ b.second_order c e.element h e.within ∙ sym e.is
    ] in
    let back : (c t : ℕ) → c < k.objects → t < size Z c → t < size S c = λ c t h w.
    let vt : apply v.0 c t < size S c = nv.within c t h w in
    let e : apply u.0 c (apply v.0 c t) ≡ t = values_agree k Z S Z u.0 v.0 nu nv d.0 (by_two ∙ sym by_one) c t h w ∙ d.1.same c t h w in
    let f : apply u.0 c (apply v.0 c t) ≡ apply v.0 c t = own c (apply v.0 c t) h vt in
    omega arith in
    let same : (c : ℕ) → c < k.objects → IsSameNumbering (size S c) (size Z c) (λ t. apply u.0 c t) = λ c h.
    let p : size S c ≤ size Z c = all_below (size S c) (size Z c) (λ t w. let o : apply u.0 c t ≡ t = own c t h w in let b : apply u.0 c t < size Z c = nu.within c t h w in omega arith) in
    let q : size Z c ≤ size S c = all_below (size Z c) (size S c) (λ t w. back c t h w) in
    record { count = omega arith; same = λ t w. own c t h w } in
    let e : S ≡ Z = presheaves_same k S Z u.0 lk a.functor b.functor nu same in (
      e,
      maps_same k X S i l a.first (subst (λ (V : Presheaf). IsNatural k X V l) (sym e) b.first) (λ c x h w. a.first_order c x h w ∙ sym (b.first_order c x h w)),
      maps_same k Y S j r a.second (subst (λ (V : Presheaf). IsNatural k Y V r) (sym e) b.second) (λ c y h w. a.second_order c y h w ∙ sym (b.second_order c y h w)),
    )

pub one_coproduct : (k : Category) (X Y Z W : Presheaf) (i j l r : Components) → IsCategory k → IsFunctor k X → IsFunctor k Y → IsCoproduct k X Y Z i j → IsCoproduct k X Y W l r → AreSame Z W i j l r
one_coproduct k X Y Z W i j l r lk lx ly a b =
    let s = sum_exists k X Y lk in
    let p = coproduct_is_sum k X Y s.0 Z s.1 s.2 i j lk lx ly s.3 a in
    let q = coproduct_is_sum k X Y s.0 W s.1 s.2 l r lk lx ly s.3 b in
    (sym p.0 ∙ q.0, sym p.1 ∙ q.1, sym p.2 ∙ q.2)

pub one_initial : (k : Category) (Z W : Presheaf) → IsCategory k → IsInitial k Z → IsInitial k W → Z ≡ W
one_initial k Z W lk a b =
    let e = empty_exists k in
    let none : (Z : Presheaf) → IsInitial k Z → (c : ℕ) → c < k.objects → size Z c ≡ 0 = λ Z i c h.
    let u = i.factors e.0 (empty_functor k e.0 lk e.1) in
    let nu : IsNatural k Z e.0 u.0 = u.1 in
    elim (cases_lt 0 (size Z c)) [
      | inl l ↦ absurd (let w : apply u.0 c 0 < size e.0 c = nu.within c 0 h l in let s : size e.0 c ≡ 0 = e.1.sizes c h in omega arith)
      | inr l ↦ omega arith
    ] in
    let u = a.factors W b.functor in
    presheaves_same k Z W u.0 lk a.functor b.functor u.1 (λ c h.
    let z : size Z c ≡ 0 = none Z a c h in
    let w : size W c ≡ 0 = none W b c h in
    record { count = omega arith; same = λ t l. absurd (omega arith) })
