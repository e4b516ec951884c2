-- Labels that are halved, joined and numbered.
use Rattle.std.proofs.Common.{◌≡◌, ℕ, zero, suc, ◌+◌, ◌<◌, ◌≤◌, List, [], ◌∷◌, ◌++◌, take, drop, length, get_or, set, refl, sym, ap, subst, ◌∙◌, arith, ◌⊎◌, inl, inr, below_more}
use Rattle.std.specs.List.{range_with_len}
use Rattle.std.proofs.lemmas.Bool.{cases_eq, cases_lt}
use Rattle.std.proofs.lemmas.List.{get_or-set_same, get_or-set_other, length-set, length_push, get_or_append_left, get_or_push}
use Rattle.std.proofs.lemmas.List.FromFn.{get_or-range_with_len}
use Rattle.finite_colimits.specs.Classes.{IsClasses}
use Rattle.finite_colimits.specs.Labels.{Follows, AreLow, AreShorter, IsRoot, AreJoined, HaveClasses, AreNumbered}

module _ (l : List ℕ) (y w : ℕ) (h : y < length l) where
  set_forth : (v : ℕ → ℕ) → Follows l v → v y ≡ v w → Follows (set l y w) v
  set_forth v f e z b = elim (cases_eq z y) [
    | inl s ↦ subst (λ (t : ℕ). v t ≡ v (get_or (set l y w) t 0)) (sym s) (e ∙ ap v (sym (get_or-set_same l y w 0 h)))
    | inr n ↦ f z (subst (λ (t : ℕ). z < t) (length-set l y w) b) ∙ ap v (sym (get_or-set_other l y z w 0 n))
  ]

  set_back : (v : ℕ → ℕ) → Follows (set l y w) v → v y ≡ v (get_or l y 0) → Follows l v
  set_back v f e z b = elim (cases_eq z y) [
    | inl s ↦ subst (λ (t : ℕ). v t ≡ v (get_or l t 0)) (sym s) e
    | inr n ↦ f z (subst (λ (t : ℕ). z < t) (sym (length-set l y w)) b) ∙ ap v (get_or-set_other l y z w 0 n)
  ]

  set_at : (v : ℕ → ℕ) → Follows (set l y w) v → v y ≡ v w
  set_at v f = f y (subst (λ (t : ℕ). y < t) (sym (length-set l y w)) h) ∙ ap v (get_or-set_same l y w 0 h)

  set_low : AreLow l → w ≤ y → AreLow (set l y w)
  set_low low e z b = elim (cases_eq z y) [
    | inl s ↦ subst (λ (t : ℕ). get_or (set l y w) t 0 ≤ t) (sym s) (subst (λ (t : ℕ). t ≤ y) (sym (get_or-set_same l y w 0 h)) e)
    | inr n ↦ subst (λ (t : ℕ). t ≤ z) (sym (get_or-set_other l y z w 0 n)) (low z (subst (λ (t : ℕ). z < t) (length-set l y w) b))
  ]

pub shorter_same : (l : List ℕ) → AreLow l → AreShorter l l
shorter_same l low = record { places = refl; low = low; own = λ y h e. e; forth = λ v f. f; back = λ v f. f }

pub shorter_after : (a b c : List ℕ) → AreShorter a b → AreShorter b c → AreShorter a c
shorter_after a b c s t = record {
  places = t.places ∙ s.places;
  low = t.low;
  own = λ y h e. t.own y (subst (λ (n : ℕ). y < n) (sym s.places) h) (s.own y h e);
  forth = λ v f. t.forth v (s.forth v f);
  back = λ v f. s.back v (t.back v f);
}

-- the way from y is halved, where y is not its own label
pub halved : (l : List ℕ) (y : ℕ) → AreLow l → y < length l → (get_or l y 0 ≡ y → ⊥) → AreShorter l (set l y (get_or l (get_or l y 0) 0))
halved l y low h ne =
    let below : get_or l y 0 ≤ y = low y h in
    let less : get_or l y 0 < y = omega arith in
    let two : get_or l (get_or l y 0) 0 ≤ get_or l y 0 = low (get_or l y 0) (omega arith) in
    record {
      places = length-set l y (get_or l (get_or l y 0) 0);
      low = set_low l y (get_or l (get_or l y 0) 0) h low (omega arith);
      own = λ z b e. get_or-set_other l y z (get_or l (get_or l y 0) 0) 0 (λ s. ne (ap (λ (t : ℕ). get_or l t 0) (sym s) ∙ e ∙ s)) ∙ e;
      forth = λ v f. set_forth l y (get_or l (get_or l y 0) 0) h v f (f y h ∙ f (get_or l y 0) (omega arith));
      back = λ v f. set_back l y (get_or l (get_or l y 0) 0) h v f
          (set_at l y (get_or l (get_or l y 0) 0) h v f
          ∙ sym (f (get_or l y 0) (subst (λ (t : ℕ). get_or l y 0 < t) (sym (length-set l y (get_or l (get_or l y 0) 0))) (omega arith))
          ∙ ap v (get_or-set_other l y (get_or l y 0) (get_or l (get_or l y 0) 0) 0 ne)));
    }

-- what y leads to, two labels on
pub reached_on : (l m : List ℕ) (y at : ℕ) → AreLow l → AreShorter l m → at < length l → ((v : ℕ → ℕ) → Follows l v → v y ≡ v at) → (v : ℕ → ℕ) → Follows m v → v y ≡ v (get_or l (get_or l at 0) 0)
reached_on l m y at low s h reached v f =
    let g : Follows l v = s.back v f in
    let b : get_or l at 0 ≤ at = low at h in
    reached v g ∙ g at h ∙ g (get_or l at 0) (omega arith)

pub root_kept : (l m : List ℕ) (y r : ℕ) → r < length l → AreShorter l m → IsRoot l y r → IsRoot m y r
root_kept l m y r h s w = record { low = w.low; own = s.own r h w.own; reached = λ v f. w.reached v (s.back v f) }

-- the greater of two roots gets the other as its label
pub joined_roots : (l : List ℕ) (a b r s : ℕ) → AreLow l → s < length l → IsRoot l a r → IsRoot l b s → r ≤ s → AreJoined l (set l s r) a b
joined_roots l a b r s low h ra rb e =
    let back : (v : ℕ → ℕ) → Follows (set l s r) v → Follows l v = λ v f. set_back l s r h v f (ap v (sym rb.own)) in
    record {
      places = length-set l s r;
      low = set_low l s r h low e;
      forth = λ v f d. set_forth l s r h v f (sym (rb.reached v f) ∙ sym d ∙ ra.reached v f);
      back = back;
      same = λ v f. ra.reached v (back v f) ∙ sym (set_at l s r h v f) ∙ sym (rb.reached v (back v f));
    }

pub joined_swapped : (l m : List ℕ) (a b : ℕ) → AreJoined l m a b → AreJoined l m b a
joined_swapped l m a b j = record { places = j.places; low = j.low; forth = λ v f e. j.forth v f (sym e); back = j.back; same = λ v f. sym (j.same v f) }

pub joined_after : (l m n : List ℕ) (a b : ℕ) → AreShorter l m → AreJoined m n a b → AreJoined l n a b
joined_after l m n a b s j = record {
  places = j.places ∙ s.places;
  low = j.low;
  forth = λ v f e. j.forth v (s.forth v f) e;
  back = λ v f. s.back v (j.back v f);
  same = j.same;
}

pub own_classes : (m n l : List ℕ) → l ≡ range_with_len 0 (length l) → HaveClasses 0 m n (length l) l
own_classes m n l e =
    let at : (y : ℕ) → y < length l → get_or l y 0 ≡ y = λ y h. ap (λ (t : List ℕ). get_or t y 0) e ∙ get_or-range_with_len 0 (length l) y 0 h ∙ omega arith in
    record {
      places = refl;
      low = λ y h. let w : get_or l y 0 ≡ y = at y h in omega arith;
      sound = λ v j y h. ap v (sym (at y h));
      joined = λ v f x h. absurd (omega arith);
    }

pub one_more_pair : (x : ℕ) (m n : List ℕ) (count : ℕ) (l t : List ℕ) → HaveClasses x m n count l → AreJoined l t (get_or m x 0) (get_or n x 0) → HaveClasses (x + 1) m n count t
one_more_pair x m n count l t c j = record {
  places = j.places ∙ c.places;
  low = j.low;
  sound = λ v f. j.forth v (c.sound v (λ z h. f z (omega arith))) (f x (omega arith));
  joined = λ v f. below_more (λ z. v (get_or m z 0) ≡ v (get_or n z 0)) x (c.joined v (j.back v f)) (j.same v f);
}

-- numbers
pub none_numbered : (l : List ℕ) → AreNumbered l 0 [] []
none_numbered l = record {
  numbers = refl;
  few = omega arith;
  within = λ y h. absurd (omega arith);
  member = λ t h. absurd (omega arith);
  least_of = λ t h. absurd (omega arith);
  least = λ t y h. absurd (omega arith);
  rise = λ s t h b. absurd (omega arith);
  follows = λ y h. absurd (omega arith);
  sound = λ v f y h. absurd (omega arith);
}

-- one of the earlier entries of a list with one more, or the last
pub pushed_cases : (n y : ℕ) → y < n + 1 → (y < n) ⊎ (y ≡ n)
pushed_cases n y h = elim (cases_lt y n) [
  | inl b ↦ inl b
  | inr b ↦ inr (omega arith)
]

module _ (l q r : List ℕ) (y : ℕ) (a : AreNumbered l y q r) where
  early : (s z : ℕ) → z < y → get_or (q ++ s ∷ []) z 0 ≡ get_or q z 0
  early s z h = get_or_append_left q (s ∷ []) 0 z (let e : length q ≡ y = a.numbers in omega arith)

  late : (s : ℕ) → get_or (q ++ s ∷ []) y 0 ≡ s
  late s = get_or_push q s 0 y a.numbers

  early_least : (s t : ℕ) → t < length r → get_or (r ++ s ∷ []) t 0 ≡ get_or r t 0
  early_least s t h = get_or_append_left r (s ∷ []) 0 t h

  late_least : (s : ℕ) → get_or (r ++ s ∷ []) (length r) 0 ≡ s
  late_least s = get_or_push r s 0 (length r) refl

  follows_early : AreLow l → y ≤ length l → (s z : ℕ) → z < y → get_or (q ++ s ∷ []) z 0 ≡ get_or (q ++ s ∷ []) (get_or l z 0) 0
  follows_early low below s z h =
      let w : get_or l z 0 ≤ z = low z (omega arith) in
      early s z h ∙ a.follows z h ∙ sym (early s (get_or l z 0) (omega arith))

  pushed : (s t : ℕ) → t < length (r ++ s ∷ []) → (t < length r) ⊎ (t ≡ length r)
  pushed s t h = pushed_cases (length r) t (subst (λ (n : ℕ). t < n) (length_push r s) h)

  pub new_class : AreLow l → y < length l → get_or l y 0 ≡ y → AreNumbered l (y + 1) (q ++ length r ∷ []) (r ++ y ∷ [])
  new_class low below own =
      let n : length q ≡ y = a.numbers in
      let few : length r ≤ y = a.few in
      let count : length (r ++ y ∷ []) ≡ length r + 1 = length_push r y in
      let at : (t : ℕ) → t < length r → get_or q (get_or r t 0) 0 ≡ t = a.least_of in
      record {
        numbers = length_push q (length r) ∙ (omega arith);
        few = omega arith;
        within = λ z h. elim (pushed_cases y z h) [
          | inl b ↦ let w : get_or q z 0 < length r = a.within z b in let e : get_or (q ++ length r ∷ []) z 0 ≡ get_or q z 0 = early (length r) z b in omega arith
          | inr b ↦ let e : get_or (q ++ length r ∷ []) z 0 ≡ length r = ap (λ (t : ℕ). get_or (q ++ length r ∷ []) t 0) b ∙ late (length r) in omega arith
        ];
        member = λ t h. elim (pushed y t h) [
          | inl b ↦ let e : get_or (r ++ y ∷ []) t 0 ≡ get_or r t 0 = early_least y t b in let w : get_or r t 0 < y = a.member t b in omega arith
          | inr b ↦ let e : get_or (r ++ y ∷ []) t 0 ≡ y = ap (λ (s : ℕ). get_or (r ++ y ∷ []) s 0) b ∙ late_least y in omega arith
        ];
        least_of = λ t h. elim (pushed y t h) [
          | inl b ↦ ap (λ (s : ℕ). get_or (q ++ length r ∷ []) s 0) (early_least y t b) ∙ early (length r) (get_or r t 0) (a.member t b) ∙ a.least_of t b
          | inr b ↦ ap (λ (s : ℕ). get_or (q ++ length r ∷ []) s 0) (ap (λ (s : ℕ). get_or (r ++ y ∷ []) s 0) b ∙ late_least y) ∙ late (length r) ∙ sym b
        ];
        least = λ t z h b e. elim (pushed y t h) [
          | inl c ↦
              let w : get_or (r ++ y ∷ []) t 0 ≡ get_or r t 0 = early_least y t c in
              elim (pushed_cases y z b) [
                | inl d ↦ let v : get_or r t 0 ≤ z = a.least t z c d (sym (early (length r) z d) ∙ e) in omega arith
                | inr d ↦ let v : get_or r t 0 < y = a.member t c in omega arith
              ]
          | inr c ↦ elim (pushed_cases y z b) [
            | inl d ↦ absurd (let v : get_or q z 0 < length r = a.within z d in let w : get_or (q ++ length r ∷ []) z 0 ≡ get_or q z 0 = early (length r) z d in omega arith)
            | inr d ↦ let w : get_or (r ++ y ∷ []) t 0 ≡ y = ap (λ (s : ℕ). get_or (r ++ y ∷ []) s 0) c ∙ late_least y in omega arith
          ]
        ];
        rise = λ s t h b. elim (pushed y t b) [
          | inl c ↦
              let es : get_or (r ++ y ∷ []) s 0 ≡ get_or r s 0 = early_least y s (omega arith) in
              let et : get_or (r ++ y ∷ []) t 0 ≡ get_or r t 0 = early_least y t c in
              let w : get_or r s 0 < get_or r t 0 = a.rise s t h c in
              omega arith
          | inr c ↦
              let sl : s < length r = omega arith in
              let es : get_or (r ++ y ∷ []) s 0 ≡ get_or r s 0 = early_least y s sl in
              let et : get_or (r ++ y ∷ []) t 0 ≡ y = ap (λ (s : ℕ). get_or (r ++ y ∷ []) s 0) c ∙ late_least y in
              let w : get_or r s 0 < y = a.member s sl in
              omega arith
        ];
        follows = λ z h. elim (pushed_cases y z h) [
          | inl b ↦ follows_early low (let w : y < length l = below in omega arith) (length r) z b
          | inr b ↦ ap (λ (s : ℕ). get_or (q ++ length r ∷ []) s 0) (b ∙ sym own ∙ ap (λ (s : ℕ). get_or l s 0) (sym b))
        ];
        sound = λ v f z h. elim (pushed_cases y z h) [
          | inl b ↦
              a.sound v f z b
              ∙ ap v (sym (ap (λ (s : ℕ). get_or (r ++ y ∷ []) s 0) (early (length r) z b) ∙ early_least y (get_or q z 0) (a.within z b)))
          | inr b ↦ ap v (b ∙ sym (ap (λ (s : ℕ). get_or (r ++ y ∷ []) s 0) (ap (λ (t : ℕ). get_or (q ++ length r ∷ []) t 0) b ∙ late (length r)) ∙ late_least y))
        ];
      }

  pub old_class : AreLow l → y < length l → (get_or l y 0 ≡ y → ⊥) → AreNumbered l (y + 1) (q ++ get_or q (get_or l y 0) 0 ∷ []) r
  old_class low below ne =
      let p : ℕ = get_or l y 0 in
      let le : get_or l y 0 ≤ y = low y below in
      let lt : get_or l y 0 < y = omega arith in
      let s : ℕ = get_or q (get_or l y 0) 0 in
      let sw : get_or q (get_or l y 0) 0 < length r = a.within (get_or l y 0) lt in
      let n : length q ≡ y = a.numbers in
      let few : length r ≤ y = a.few in
      record {
        numbers = length_push q s ∙ (omega arith);
        few = omega arith;
        within = λ z h. elim (pushed_cases y z h) [
          | inl b ↦ subst (λ (t : ℕ). t < length r) (sym (early s z b)) (a.within z b)
          | inr b ↦ subst (λ (t : ℕ). t < length r) (sym (ap (λ (t : ℕ). get_or (q ++ s ∷ []) t 0) b ∙ late s)) sw
        ];
        member = λ t h. let w : get_or r t 0 < y = a.member t h in omega arith;
        least_of = λ t h. early s (get_or r t 0) (a.member t h) ∙ a.least_of t h;
        least = λ t z h b e. elim (pushed_cases y z b) [
          | inl d ↦ a.least t z h d (sym (early s z d) ∙ e)
          | inr d ↦
              let w : get_or r t 0 ≤ get_or l y 0 = a.least t (get_or l y 0) h lt (sym (ap (λ (t : ℕ). get_or (q ++ s ∷ []) t 0) d ∙ late s) ∙ e) in
              omega arith
        ];
        rise = a.rise;
        follows = λ z h. elim (pushed_cases y z h) [
          | inl b ↦ follows_early low (let w : y < length l = below in omega arith) s z b
          | inr b ↦
              ap (λ (t : ℕ). get_or (q ++ s ∷ []) t 0) b ∙ late s ∙ sym (early s (get_or l y 0) lt)
              ∙ ap (λ (t : ℕ). get_or (q ++ s ∷ []) (get_or l t 0) 0) (sym b)
        ];
        sound = λ v f z h. elim (pushed_cases y z h) [
          | inl b ↦ a.sound v f z b ∙ ap (λ (t : ℕ). v (get_or r t 0)) (sym (early s z b))
          | inr b ↦
              ap v b ∙ f y below ∙ a.sound v f (get_or l y 0) lt
              ∙ ap (λ (t : ℕ). v (get_or r t 0)) (sym (ap (λ (t : ℕ). get_or (q ++ s ∷ []) t 0) b ∙ late s))
        ];
      }

-- numbers along labels that have the classes of the pairs
pub numbered_classes : (m n : List ℕ) (count : ℕ) (l q r : List ℕ) → HaveClasses (length m) m n count l → AreNumbered l count q r → IsClasses m n count q r
numbered_classes m n count l q r c a = record {
  numbers = a.numbers;
  within = a.within;
  member = a.member;
  least_of = a.least_of;
  least = a.least;
  rise = a.rise;
  joined = c.joined (λ y. get_or q y 0) (λ y h. a.follows y (subst (λ (t : ℕ). y < t) c.places h));
  sound = λ v j y h. a.sound v (c.sound v j) y h;
}

-- what is written over all of a list is the list
pub written_back : (n : ℕ) (xs ys : List ℕ) → length xs ≡ n → length ys ≡ n → take n (xs ++ drop (length xs) ys) ≡ xs
written_back zero [] [] e d = refl
written_back zero [] (y ∷ ys) e d = absurd (omega arith)
written_back zero (x ∷ xs) ys e d = absurd (omega arith)
written_back (suc n) [] ys e d = absurd (omega arith)
written_back (suc n) (x ∷ xs) [] e d = absurd (omega arith)
written_back (suc n) (x ∷ xs) (y ∷ ys) e d = ap (λ (t : List ℕ). x ∷ t) (written_back n xs ys (omega arith) (omega arith))

pub renamed : (l : List ℕ) (y : ℕ) (q r s t : List ℕ) → q ≡ s → r ≡ t → AreNumbered l y q r → AreNumbered l y s t
renamed l y q r s t e d a = subst (λ (v : List ℕ). AreNumbered l y s v) d (subst (λ (v : List ℕ). AreNumbered l y v r) e a)
