-- Numberings that rise both ways are one, and so are presheaves with a natural map that takes each number to itself.
use Rattle.std.proofs.Common.{◌≡◌, ℕ, zero, suc, ◌+◌, ◌<◌, ◌≤◌, [], length, get_or, refl, sym, ap, subst, ◌∙◌, arith}
use Rattle.std.proofs.lemmas.List.{ext_get_or}
use Rattle.topos_model.specs.categories.Category.{Category, dom, cod}
use Rattle.topos_model.specs.types.Types.{Presheaf}
use Rattle.topos_model.specs.Laws.{IsInto, IsCategory, act, size, IsFunctor}
use Rattle.topos_model.specs.presheaves.Maps.{Components, apply, IsNatural}

-- u takes the numbers below n to numbers below m, and rises
pub record IsRisingMap (n m : ℕ) (u : ℕ → ℕ) : Type 0 where
  pub within : (t : ℕ) → t < n → u t < m
  pub rise : (s t : ℕ) → s < t → t < n → u s < u t

at_least : (n m : ℕ) (u : ℕ → ℕ) → IsRisingMap n m u → (t : ℕ) → t < n → t ≤ u t
at_least n m u r zero h = omega arith
at_least n m u r (suc t) h =
    let b : t ≤ u t = at_least n m u r t (omega arith) in
    let s : u t < u (suc t) = r.rise t (suc t) (omega arith) h in
    omega arith

-- counted from the end: d more numbers follow t
at_most : (n m : ℕ) (u : ℕ → ℕ) → IsRisingMap n m u → (d t : ℕ) → d + suc t ≡ n → d + suc (u t) ≤ m
at_most n m u r zero t e = let w : u t < m = r.within t (omega arith) in omega arith
at_most n m u r (suc d) t e =
    let s : u t < u (suc t) = r.rise t (suc t) (omega arith) (omega arith) in
    let b : d + suc (u (suc t)) ≤ m = at_most n m u r d (suc t) (omega arith) in
    omega arith

rising_few : (n m : ℕ) (u : ℕ → ℕ) → IsRisingMap n m u → n ≤ m
rising_few zero m u r = omega arith
rising_few (suc n) m u r = let b : n + suc (u 0) ≤ m = at_most (suc n) m u r n 0 (omega arith) in omega arith

distance : (t n : ℕ) → t < n → (d : ℕ) × (d + suc t ≡ n)
distance zero zero h = absurd (omega arith)
distance zero (suc n) h = (n, omega arith)
distance (suc t) zero h = absurd (omega arith)
distance (suc t) (suc n) h = let w : (d : ℕ) × (d + suc t ≡ n) = distance t n (omega arith) in (w.0, let e : w.0 + suc t ≡ n = w.1 in omega arith)

pub record IsSameNumbering (n m : ℕ) (u : ℕ → ℕ) : Type 0 where
  pub count : n ≡ m
  pub same : (t : ℕ) → t < n → u t ≡ t

pub rising_both : (n m : ℕ) (u v : ℕ → ℕ) → IsRisingMap n m u → IsRisingMap m n v → IsSameNumbering n m u
rising_both n m u v ru rv =
    let a : n ≤ m = rising_few n m u ru in
    let b : m ≤ n = rising_few m n v rv in
    let e : n ≡ m = omega arith in
    record {
      count = e;
      same = λ t h.
          let low : t ≤ u t = at_least n m u ru t h in
          let d : (d : ℕ) × (d + suc t ≡ n) = distance t n h in
          let de : d.0 + suc t ≡ n = d.1 in
          let high : d.0 + suc (u t) ≤ m = at_most n m u ru d.0 t de in
          omega arith;
    }

-- presheaves with as many elements at each object, and a natural map between them that takes each number to itself, are one
pub presheaves_same : (k : Category) (Z W : Presheaf) (u : Components) → IsCategory k → IsFunctor k Z → IsFunctor k W → IsNatural k Z W u →
    ((c : ℕ) → c < k.objects → IsSameNumbering (size Z c) (size W c) (λ t. apply u c t)) → Z ≡ W
presheaves_same k Z W u lk lz lw nu same =
    let sizes : Z.sizes ≡ W.sizes = ext_get_or 0 Z.sizes W.sizes (lz.objects ∙ sym lw.objects) (λ c h. (same c (subst (λ (t : ℕ). c < t) lz.objects h)).count) in
    let along : Z.along ≡ W.along = ext_get_or [] Z.along W.along (lz.arrows ∙ sym lw.arrows) (λ f h.
    let b : f < length k.ends = subst (λ (t : ℕ). f < t) lz.arrows h in
    let i : IsInto k (cod k f) f = (b, refl) in
    let c : cod k f < k.objects = (lk.ends f b).1 in
    let d : dom k f < k.objects = (lk.ends f b).0 in
    let total : length (get_or Z.along f []) ≡ size Z (cod k f) = lz.total (cod k f) f i in
    ext_get_or 0 (get_or Z.along f []) (get_or W.along f []) (total ∙ (same (cod k f) c).count ∙ sym (lw.total (cod k f) f i)) (λ x l.
    let xl : x < size Z (cod k f) = subst (λ (t : ℕ). x < t) total l in
    sym ((same (dom k f) d).same (act Z f x) (lz.within (cod k f) f x i xl))
    ∙ nu.commutes (cod k f) f x i xl
    ∙ ap (λ (y : ℕ). act W f y) ((same (cod k f) c).same x xl))) in
    presheaf_same Z W sizes along
  where
    presheaf_same : (Z W : Presheaf) → Z.sizes ≡ W.sizes → Z.along ≡ W.along → Z ≡ W
    presheaf_same Z W s a = rw (s, a) refl
