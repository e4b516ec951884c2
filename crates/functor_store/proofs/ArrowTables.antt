-- The tables over the arrows, as a loop fills them.
use Rattle.std.proofs.Common.{◌≡◌, ℕ, ◌+◌, ◌<◌, ◌≤◌, true, false, cond, eqb, List, [], ◌∷◌, ◌++◌, length, get_or, set, take, replicate, sym, ap, ◌∙◌, arith, inl, inr}
use Rattle.std.proofs.lemmas.Bool.{cases_eq, cases_lt, eq-eqb, ne_eqb}
use Rattle.std.proofs.lemmas.List.{take_more, take_all, get_or-set_same, get_or-set_other, length-set, length_push, get_or_append_left, get_or_push, get_or-replicate, length-replicate, get_or_read, length-take-le}
use Rattle.functor_store.specs.Store.{into, place}
use Rattle.functor_store.specs.Fields.{IsTables}

pub record Counted (objects : ℕ) (ends : List (ℕ × ℕ)) (f : ℕ) (it ps : List ℕ) : Type 0 where
  pub objects_in : length it ≡ objects
  pub arrows_in : length ps ≡ f
  pub into_is : (c : ℕ) → c < objects → get_or it c 0 ≡ into (take f ends) c
  pub places_are : (k : ℕ) → k < f → get_or ps k 0 ≡ place ends k

-- one more arrow
into_push : (es : List (ℕ × ℕ)) (d : ℕ × ℕ) (c : ℕ) → into (es ++ d ∷ []) c ≡ into es c + cond (eqb (d.1) c) 1 0
unfolding into
into_push es d c = Rattle.std.proofs.lemmas.List.Sums.sum_by_push (λ (e : ℕ × ℕ). cond (eqb (e.1) c) 1 0) es d

into_few : (es : List (ℕ × ℕ)) (c : ℕ) → into es c ≤ length es
unfolding into
into_few es c = Rattle.std.proofs.lemmas.List.Sums.count_by-le-length (λ (e : ℕ × ℕ). eqb (e.1) c) es

pub counted_none : (objects : ℕ) (ends : List (ℕ × ℕ)) (it ps : List ℕ) → it ≡ replicate objects 0 → ps ≡ [] → Counted objects ends 0 it ps
unfolding into
counted_none objects ends it ps e n = record {
  objects_in = ap length e ∙ length-replicate objects 0;
  arrows_in = ap length n;
  into_is = λ c l. ap (λ x. get_or x c 0) e ∙ get_or-replicate objects c 0 0 l;
  places_are = λ k l. absurd (omega arith);
}

pub counted_more : (objects : ℕ) (ends : List (ℕ × ℕ)) (f seen : ℕ) (d : ℕ × ℕ) (it ps it' ps' : List ℕ) → Counted objects ends f it ps → f < length ends → d ≡ get_or ends f (0, 0) → d.1 < objects → seen ≡ get_or it (d.1) 0 → ps' ≡ ps ++ seen ∷ [] → it' ≡ set it (d.1) (seen + 1) → Counted objects ends (f + 1) it' ps'
unfolding place
counted_more objects ends f seen d it ps it' ps' h l de dl s pe ie =
    let n = h.objects_in in
    let m = h.arrows_in in
    let cut : take (f + 1) ends ≡ take f ends ++ d ∷ [] = take_more ends f (0, 0) l ∙ ap (λ x. take f ends ++ x ∷ []) (sym de) in
    let step : (c : ℕ) → into (take (f + 1) ends) c ≡ into (take f ends) c + cond (eqb (d.1) c) 1 0 = λ c. ap (λ x. into x c) cut ∙ into_push (take f ends) d c in
    record {
      objects_in = ap length ie ∙ length-set it (d.1) (seen + 1) ∙ n;
      arrows_in = ap length pe ∙ length_push ps seen ∙ ap (λ x. x + 1) m;
      into_is = λ c cl.
          let t = step c in
          elim (cases_eq (d.1) c) [
            | inl e ↦
                let q : eqb (d.1) c ≡ true = eq-eqb (d.1) c e in
                let one : cond {A = ℕ} (eqb (d.1) c) 1 0 ≡ 1 = ap (λ b. cond b 1 0) q in
                let old : get_or it (d.1) 0 ≡ into (take f ends) c = h.into_is (d.1) dl ∙ ap (into (take f ends)) e in
                let new : get_or it' c 0 ≡ seen + 1 = ap (λ x. get_or x c 0) ie ∙ ap (λ x. get_or (set it (d.1) (seen + 1)) x 0) (sym e) ∙ get_or-set_same it (d.1) (seen + 1) 0 (omega arith) in
                new ∙ ap (λ x. x + 1) (s ∙ old) ∙ sym (t ∙ ap (λ x. into (take f ends) c + x) one)
            | inr ne ↦
                let q : eqb (d.1) c ≡ false = ne_eqb (d.1) c ne in
                let none : cond {A = ℕ} (eqb (d.1) c) 1 0 ≡ 0 = ap (λ b. cond b 1 0) q in
                let old : get_or it c 0 ≡ into (take f ends) c = h.into_is c cl in
                let new : get_or it' c 0 ≡ get_or it c 0 = ap (λ x. get_or x c 0) ie ∙ get_or-set_other it (d.1) c (seen + 1) 0 (λ e. ne (sym e)) in
                new ∙ old ∙ sym (t ∙ ap (λ x. into (take f ends) c + x) none ∙ (let z : into (take f ends) c + 0 ≡ into (take f ends) c = omega arith in z))
          ];
      places_are = λ k kl.
          elim (cases_lt k f) [
            | inl b ↦ ap (λ x. get_or x k 0) pe ∙ get_or_append_left ps (seen ∷ []) 0 k (omega arith) ∙ h.places_are k b
            | inr b ↦
                let e : k ≡ f = omega arith in
                let z : get_or (ps ++ seen ∷ []) k 0 ≡ seen = get_or_push ps seen 0 k (m ∙ sym e) in
                let w : seen ≡ into (take f ends) (d.1) = s ∙ h.into_is (d.1) dl in
                ap (λ x. get_or x k 0) pe ∙ z ∙ w ∙ ap (λ x. into (take f ends) (x.1)) de ∙ ap (λ x. into (take x ends) ((get_or ends x (0, 0)).1)) (sym e)
          ];
    }

pub seen_few : (objects : ℕ) (ends : List (ℕ × ℕ)) (f c seen : ℕ) (it ps : List ℕ) → Counted objects ends f it ps → f ≤ length ends → c < objects → seen ≡ get_or it c 0 → seen ≤ f
seen_few objects ends f c seen it ps h l cl e =
    let a = h.into_is c cl in
    let b = into_few (take f ends) c in
    let n : length (take f ends) ≡ f = length-take-le f ends l in
    omega arith

pub tables_are : (objects : ℕ) (ends : List (ℕ × ℕ)) (f : ℕ) (it ps : List ℕ) → Counted objects ends f it ps → f ≡ length ends → ((k : ℕ) → k < length ends → (get_or ends k (0, 0)).1 < objects) → IsTables objects ends it ps
tables_are objects ends f it ps h e i = record {
  objects_in = h.objects_in;
  arrows_in = h.arrows_in ∙ e;
  ends_in = i;
  into_is = λ c l. h.into_is c l ∙ ap (λ x. into x c) (take_all f ends (omega arith));
  places_are = λ k l. h.places_are k (omega arith);
}
