-- A closed set with one place more, where its places before that span it.
use Rattle.std.proofs.Common.{◌≡◌, ℕ, zero, suc, ◌+◌, ◌-◌, ◌<◌, ◌≤◌, Bool, true, false, List, [], ◌∷◌, ◌++◌, length, get_or, set, take, drop, replicate, refl, sym, ap, subst, ◌∙◌, arith, append_assoc, length-append, ◌⊎◌, inl, inr}
use Rattle.std.proofs.lemmas.Bool.{false≢true, cases_eq}
use Rattle.std.proofs.lemmas.List.{append-nil, take_all, same_lists, get_or_default, get_or_append_left, get_or_push, get_or-take, get_or-replicate, get_or-set_same, get_or-set_other, length_push, length-replicate, length-set, length-take-le}
use Rattle.std.proofs.Math.ListN.{drop_of_length-le}
use Rattle.closed_sets.specs.declared.list.Origin.{Origin}
use Rattle.closed_sets.specs.declared.list.Refusal.{Refusal}
use Rattle.closed_sets.specs.Closed.{IsBelow, IsClosure}
use Rattle.closed_sets.specs.Later.{blocks, later, candidate}
use Rattle.closed_sets.specs.Adding.{KeepsBefore, IsNewBefore}
use Rattle.closed_sets.specs.Origins.{set_at, origin_at, refusal_at, IsMade, AreMade, Leads, IsPath, AreRefused}
use Rattle.closed_sets.proofs.Bits.{same_value, same_places}
use Rattle.closed_sets.proofs.Next.{place_of, in_list, length-candidate, step_good, step_bad, step_there, blocks_same}

-- a place of p and m that are false is one of p
front_of : (p : List Bool) (m k : ℕ) → get_or (p ++ replicate m false) k false ≡ true → (k < length p) × (get_or p k false ≡ true)
front_of [] zero k h = absurd (false≢true h)
front_of [] (suc m) zero h = absurd (false≢true h)
front_of [] (suc m) (suc k) h = let r = front_of [] m k h in absurd (false≢true r.1)
front_of (x ∷ p) m zero h = (omega arith, h)
front_of (x ∷ p) m (suc k) h = let r = front_of p m k h in (let l = r.0 in omega (arith, l), r.1)

set_place : (a : List Bool) (j k : ℕ) → get_or (set a j true) k false ≡ true → (k ≡ j) ⊎ (get_or a k false ≡ true)
set_place a j k h = elim (cases_eq k j) [ inl e ↦ inl e | inr ne ↦ inr (sym (get_or-set_other a j k true false ne) ∙ h) ]

set_keeps : (a : List Bool) (j k : ℕ) → j < length a → get_or a k false ≡ true → get_or (set a j true) k false ≡ true
set_keeps a j k low h =
    elim (cases_eq k j) [
      | inl e ↦ ap (λ x. get_or (set a j true) x false) e ∙ get_or-set_same a j true false low
      | inr ne ↦ get_or-set_other a j k true false ne ∙ h
    ]

module _ (n : ℕ) (a : List Bool) (j : ℕ) (an : length a ≡ n) (jn : j < n) where
  front : length (take j a) ≡ j
  front = length-take-le j a (omega (arith, an, jn))

  pub candidate_place : get_or (candidate n a j) j false ≡ true
  unfolding candidate
  candidate_place =
      get_or_append_left (take j a ++ true ∷ []) (replicate (n - j - 1) false) false j (let e : length (take j a ++ true ∷ []) ≡ length (take j a) + 1 = length_push (take j a) true in omega (arith, e, front))
      ∙ get_or_push (take j a) true false j front

  pub candidate_before : (k : ℕ) → k < j → get_or (candidate n a j) k false ≡ get_or a k false
  unfolding candidate
  candidate_before k low =
      get_or_append_left (take j a ++ true ∷ []) (replicate (n - j - 1) false) false k (let e : length (take j a ++ true ∷ []) ≡ length (take j a) + 1 = length_push (take j a) true in omega (arith, e, front, low))
      ∙ get_or_append_left (take j a) (true ∷ []) false k (omega (arith, front, low)) ∙ get_or-take j a k false low

  pub of_candidate : (k : ℕ) → get_or (candidate n a j) k false ≡ true → (k ≡ j) ⊎ ((k < j) × (get_or a k false ≡ true))
  unfolding candidate
  of_candidate k h =
      elim (place_of (take j a) (n - j - 1) k (ap (λ t. get_or t k false) (sym (append_assoc (take j a) (true ∷ []) (replicate (n - j - 1) false))) ∙ h)) [
        | inl e ↦ inl (e ∙ front)
        | inr w ↦
            let low : k < j = (let l = w.0 in omega (arith, l, front)) in
            inr (low, sym (get_or-take j a k false low) ∙ w.1)
      ]

-- a set that agrees with another before j, and has j, begins as the candidate
pub begins : (n : ℕ) (a c : List Bool) (j : ℕ) → length a ≡ n → length c ≡ n → j < n → ((k : ℕ) → k < j → get_or c k false ≡ get_or a k false) → get_or c j false ≡ true →
    take (j + 1) c ++ replicate (n - (j + 1)) false ≡ candidate n a j
unfolding candidate
begins n a c j an cn jn agree there =
    let tl : length (take j a) ≡ j = length-take-le j a (omega (arith, an, jn)) in
    let pl : length (take j a ++ true ∷ []) ≡ length (take j a) + 1 = length_push (take j a) true in
    let cl : length (take (j + 1) c) ≡ j + 1 = length-take-le (j + 1) c (omega (arith, cn, jn)) in
    let e : take (j + 1) c ≡ take j a ++ true ∷ [] =
    same_lists (take (j + 1) c) (take j a ++ true ∷ []) (omega (arith, tl, pl, cl)) (λ k d low.
    let b : k < j + 1 = omega (arith, low, cl) in
    let bc : k < length c = omega (arith, b, cn, jn) in
    let bp : k < length (take j a ++ true ∷ []) = omega (arith, low, tl, pl, cl) in
    get_or-take (j + 1) c k d b ∙ get_or_default c k d false bc
    ∙ elim (cases_eq k j) [
      | inl s ↦ ap (λ x. get_or c x false) s ∙ there ∙ sym (get_or_push (take j a) true false k (tl ∙ sym s))
      | inr s ↦
          let l : k < j = omega (arith, b, s) in
          agree k l ∙ sym (get_or_append_left (take j a) (true ∷ []) false k (omega (arith, l, tl)) ∙ get_or-take j a k false l)
    ]
    ∙ get_or_default (take j a ++ true ∷ []) k false d bp) in
    let m : n - (j + 1) ≡ n - j - 1 = omega arith in
    ap (λ x. x ++ replicate (n - (j + 1)) false) e ∙ ap (λ x. (take j a ++ true ∷ []) ++ replicate x false) m

module _ (n : ℕ) (closure : List Bool → List Bool) (laws : IsClosure n closure) where
  same_closure : (a : List Bool) (limit j : ℕ) → length a ≡ n → limit ≤ j → j < n → closure (take limit a ++ replicate (n - limit) false) ≡ a → closure (candidate n a j) ≡ closure (set a j true)
  same_closure a limit j an le jn spanned =
      let sn : length (candidate n a j) ≡ n = length-candidate n a j jn an in
      let tn : length (set a j true) ≡ n = length-set a j true ∙ an in
      let cn : length (closure (candidate n a j)) ≡ n = laws.keeps (candidate n a j) sn in
      let fl : length (take limit a) ≡ limit = length-take-le limit a (omega (arith, le, jn, an)) in
      let pn : length (take limit a ++ replicate (n - limit) false) ≡ n =
      length-append (take limit a) (replicate (n - limit) false) ∙ (let r : length (replicate (n - limit) false) ≡ n - limit = length-replicate (n - limit) false in omega (arith, fl, r, le, jn)) in
      let low : j < length a = omega (arith, an, jn) in
      let up : IsBelow (closure (candidate n a j)) (closure (set a j true)) =
      laws.monotone (candidate n a j) (set a j true) sn tn (λ k h.
      elim (of_candidate n a j an jn k h) [
        | inl e ↦ ap (λ x. get_or (set a j true) x false) e ∙ get_or-set_same a j true false low
        | inr w ↦ set_keeps a j k low w.1
      ]) in
      let front_in : IsBelow (take limit a ++ replicate (n - limit) false) (candidate n a j) = λ k h.
      (let r = front_of (take limit a) (n - limit) k h in
      let l : k < limit = (let b = r.0 in omega (arith, b, fl)) in
      candidate_before n a j an jn k (omega (arith, l, le)) ∙ sym (get_or-take limit a k false l) ∙ r.1) in
      let part : IsBelow (set a j true) (closure (candidate n a j)) = λ k h.
      elim (set_place a j k h) [
        | inl e ↦ ap (λ x. get_or (closure (candidate n a j)) x false) e ∙ laws.extensive (candidate n a j) sn j (candidate_place n a j an jn)
        | inr g ↦ laws.monotone (take limit a ++ replicate (n - limit) false) (candidate n a j) pn sn front_in k (subst (λ q. get_or q k false ≡ true) (sym spanned) g)
      ] in
      let down : IsBelow (closure (set a j true)) (closure (candidate n a j)) = λ k h.
      subst (λ q. get_or q k false ≡ true) (laws.idempotent (candidate n a j) sn) (laws.monotone (set a j true) (closure (candidate n a j)) tn cn part k h) in
      same_places (closure (candidate n a j)) (closure (set a j true)) (cn ∙ sym (laws.keeps (set a j true) tn)) up down

  pub made_closed : (sets : List (List Bool)) (origins : List Origin) (a : List Bool) (o : Origin) → IsMade n closure sets origins a o → closure a ≡ a
  made_closed sets origins a o m =
      let w = m.within in
      let fl : length (take o.limit a) ≡ o.limit = length-take-le o.limit a (omega (arith, w, m.places)) in
      let pn : length (take o.limit a ++ replicate (n - o.limit) false) ≡ n =
      length-append (take o.limit a) (replicate (n - o.limit) false) ∙ (let r : length (replicate (n - o.limit) false) ≡ n - o.limit = length-replicate (n - o.limit) false in omega (arith, fl, r, w)) in
      ap closure (sym m.spanned) ∙ laws.idempotent (take o.limit a ++ replicate (n - o.limit) false) pn ∙ m.spanned

  module _ (sets : List (List Bool)) (origins : List Origin) (a : List Bool) (o : Origin) (m : IsMade n closure sets origins a o) (place : ℕ) (some : 0 < place) (within : place ≤ n) (limit : o.limit ≤ place) where
    pub limit_below : get_or a (place - 1) false ≡ false → o.limit ≤ place - 1
    limit_below out =
        elim (cases_eq o.limit place) [
          | inl e ↦ absurd (false≢true (sym out ∙ m.put (place - 1) (omega (arith, e, some))))
          | inr ne ↦ omega (arith, ne, limit, some)
        ]

    candidate_closure : get_or a (place - 1) false ≡ false → closure (candidate n a (place - 1)) ≡ closure (set a (place - 1) true)
    candidate_closure out = same_closure a o.limit (place - 1) m.places (limit_below out) (omega (arith, some, within)) m.spanned

    candidate_of : candidate n a (place - 1) ≡ candidate (length a) a (place - 1)
    candidate_of = ap (λ x. candidate x a (place - 1)) (sym m.places)

    -- a place that is not put in
    pub step_refused : (k : ℕ) → get_or a (place - 1) false ≡ false → IsNewBefore (place - 1) a (closure (set a (place - 1) true)) k → blocks n closure a place ≡ blocks n closure a (place - 1)
    step_refused k out new =
        step_bad n closure laws a (candidate n a (place - 1)) (closure (candidate n a (place - 1))) place m.places some within candidate_of refl
        (k, new.0, new.1, ap (λ t. get_or t k false) (candidate_closure out) ∙ new.2)

    -- and one that is
    pub step_added : (c : List Bool) → get_or a (place - 1) false ≡ false → c ≡ closure (set a (place - 1) true) → KeepsBefore (place - 1) a c → blocks n closure a place ≡ c ∷ later n closure c
    step_added c out is keeps =
        step_good n closure laws a (candidate n a (place - 1)) c place m.places some within out candidate_of (is ∙ sym (candidate_closure out)) keeps

    pub made_added : (c : List Bool) (i : ℕ) → get_or a (place - 1) false ≡ false → c ≡ closure (set a (place - 1) true) → KeepsBefore (place - 1) a c →
        i < length sets → a ≡ set_at sets i → o ≡ origin_at origins i → IsMade n closure sets origins c (record { limit = place - 1 + 1; before = i })
    made_added c i out is keeps known at from =
        let jn : place - 1 < n = omega (arith, some, within) in
        let an = m.places in
        let tn : length (set a (place - 1) true) ≡ n = length-set a (place - 1) true ∙ an in
        let cn : length c ≡ n = ap length is ∙ laws.keeps (set a (place - 1) true) tn in
        let up : IsBelow (set a (place - 1) true) c = λ k h. subst (λ q. get_or q k false ≡ true) (sym is) (laws.extensive (set a (place - 1) true) tn k h) in
        let low : place - 1 < length a = omega (arith, an, jn) in
        let agree : (k : ℕ) → k < place - 1 → get_or c k false ≡ get_or a k false = λ k l. same_value (get_or c k false) (get_or a k false) (keeps k l) (λ h. up k (set_keeps a (place - 1) k low h)) in
        let there : get_or c (place - 1) false ≡ true = up (place - 1) (get_or-set_same a (place - 1) true false low) in
        record {
          places = cn;
          within = omega (arith, some, within);
          spanned = ap closure (begins n a c (place - 1) an cn jn agree there) ∙ candidate_closure out ∙ sym is;
          known = λ _. known;
          lower = λ _. (let b = limit_below out in let e : (origin_at origins i).limit ≡ o.limit = ap (λ (x : Origin). x.limit) (sym from) in omega (arith, b, e));
          put = λ j e. ap (λ x. get_or c x false) (let s : j ≡ place - 1 = omega (arith, e) in s) ∙ there;
          above = λ _ k h. up k (set_keeps a (place - 1) k low (ap (λ t. get_or t k false) at ∙ h));
          alike = λ j k e l. agree k (omega (arith, e, l)) ∙ ap (λ t. get_or t k false) at;
        }

    -- from a set to the one that it was made from
    pub back_known : place - 1 < o.limit → o.before < length sets
    back_known low = m.known (omega (arith, low))

    pub back_limit : place - 1 < o.limit → (origin_at origins o.before).limit ≤ place - 1
    back_limit low = let l = m.lower (omega (arith, low)) in omega (arith, l, limit)

    pub back_alike : place - 1 < o.limit → (k : ℕ) → k < place - 1 → get_or a k false ≡ get_or (set_at sets o.before) k false
    back_alike low k l = m.alike (place - 1) k (omega (arith, low, limit, some)) l

    pub step_back : (b : List Bool) → place - 1 < o.limit → get_or a (place - 1) false ≡ true → b ≡ set_at sets o.before → length b ≡ n → blocks n closure a place ≡ blocks n closure b (place - 1)
    step_back b low on is bn =
        let agree : (k : ℕ) → k < place - 1 → get_or a k false ≡ get_or b k false = λ k l. back_alike low k l ∙ ap (λ t. get_or t k false) (sym is) in
        step_there n closure laws a place some on
        ∙ blocks_same n closure laws a b (place - 1) agree (λ k l.
        let ta : length (take k a) ≡ k = length-take-le k a (omega (arith, l, within, m.places)) in
        let tb : length (take k b) ≡ k = length-take-le k b (omega (arith, l, within, bn)) in
        same_lists (take k a) (take k b) (ta ∙ sym tb) (λ i d h.
        let h' : i < k = omega (arith, h, ta) in
        let ia : i < length a = omega (arith, h', l, within, m.places) in
        let ib : i < length b = omega (arith, h', l, within, bn) in
        get_or-take k a i d h' ∙ get_or_default a i d false ia ∙ agree i (omega (arith, h', l)) ∙ get_or_default b i false d ib ∙ sym (get_or-take k b i d h')))

  -- one set more
  made_more : (sets : List (List Bool)) (origins : List Origin) (a b : List Bool) (o p : Origin) → length origins ≡ length sets → IsMade n closure sets origins a o → IsMade n closure (sets ++ b ∷ []) (origins ++ p ∷ []) a o
  made_more sets origins a b o p e m = record {
    places = m.places;
    within = m.within;
    spanned = m.spanned;
    known = λ l. let k = m.known l in let s : length (sets ++ b ∷ []) ≡ length sets + 1 = length_push sets b in omega (arith, k, s);
    lower = λ l.
        let k = m.known l in
        let r : origin_at (origins ++ p ∷ []) o.before ≡ origin_at origins o.before = get_or_append_left origins (p ∷ []) (record { limit = 0; before = 0 }) o.before (omega (arith, k, e)) in
        subst (λ (x : Origin). x.limit < o.limit) (sym r) (m.lower l);
    put = m.put;
    above = λ l k h. let w = m.known l in m.above l k (ap (λ t. get_or t k false) (sym (get_or_append_left sets (b ∷ []) [] o.before w)) ∙ h);
    alike = λ j k q l.
        let w = m.known (omega (arith, q)) in
        m.alike j k q l ∙ ap (λ t. get_or t k false) (sym (get_or_append_left sets (b ∷ []) [] o.before w));
  }

  pub all_made : (sets : List (List Bool)) (origins : List Origin) (a : List Bool) (o : Origin) → length origins ≡ length sets → AreMade n closure sets origins → IsMade n closure sets origins a o → AreMade n closure (sets ++ a ∷ []) (origins ++ o ∷ [])
  all_made sets origins a o e all m i low =
      elim (cases_eq i (length sets)) [
        | inl s ↦
            let x : set_at (sets ++ a ∷ []) i ≡ a = get_or_push sets a [] i (sym s) in
            let y : origin_at (origins ++ o ∷ []) i ≡ o = get_or_push origins o (record { limit = 0; before = 0 }) i (e ∙ sym s) in
            subst (λ t. IsMade n closure (sets ++ a ∷ []) (origins ++ o ∷ []) t (origin_at (origins ++ o ∷ []) i)) (sym x) (subst (λ q. IsMade n closure (sets ++ a ∷ []) (origins ++ o ∷ []) a q) (sym y) (made_more sets origins a a o o e m))
        | inr s ↦
            let l : i < length sets = (let z : length (sets ++ a ∷ []) ≡ length sets + 1 = length_push sets a in omega (arith, s, low, z)) in
            let x : set_at (sets ++ a ∷ []) i ≡ set_at sets i = get_or_append_left sets (a ∷ []) [] i l in
            let y : origin_at (origins ++ o ∷ []) i ≡ origin_at origins i = get_or_append_left origins (o ∷ []) (record { limit = 0; before = 0 }) i (omega (arith, l, e)) in
            subst (λ t. IsMade n closure (sets ++ a ∷ []) (origins ++ o ∷ []) t (origin_at (origins ++ o ∷ []) i)) (sym x)
            (subst (λ q. IsMade n closure (sets ++ a ∷ []) (origins ++ o ∷ []) (set_at sets i) q) (sym y) (made_more sets origins (set_at sets i) a (origin_at origins i) o e (all i l)))
      ]

  pub first_made : IsMade n closure [] [] (closure (replicate n false)) (record { limit = 0; before = 0 })
  first_made = record {
    places = laws.keeps (replicate n false) (length-replicate n false);
    within = omega arith;
    spanned = (let z : n - 0 ≡ n = omega arith in ap (λ x. closure (replicate x false)) z);
    known = λ l. absurd (omega (arith, l));
    lower = λ l. absurd (omega (arith, l));
    put = λ j e. absurd (omega (arith, e));
    above = λ l. absurd (omega (arith, l));
    alike = λ j k e l. absurd (omega (arith, e));
  }

  pub start_made : (sets : List (List Bool)) (origins : List Origin) (a : List Bool) → sets ≡ [] → origins ≡ [] → a ≡ closure (replicate n false) → IsMade n closure sets origins a (record { limit = 0; before = 0 })
  start_made sets origins a none no_origin is =
      subst (λ s. IsMade n closure s origins a (record { limit = 0; before = 0 })) (sym none)
      (subst (λ r. IsMade n closure [] r a (record { limit = 0; before = 0 })) (sym no_origin)
      (subst (λ t. IsMade n closure [] [] t (record { limit = 0; before = 0 })) (sym is) first_made))

  pub more_made : (sets sets' : List (List Bool)) (origins origins' : List Origin) (a : List Bool) (o : Origin) → sets' ≡ sets ++ a ∷ [] → origins' ≡ origins ++ o ∷ [] → length origins ≡ length sets → AreMade n closure sets origins → IsMade n closure sets origins a o →
      AreMade n closure sets' origins'
  more_made sets sets' origins origins' a o is is' e all m =
      subst (λ s. AreMade n closure s origins') (sym is) (subst (λ r. AreMade n closure (sets ++ a ∷ []) r) (sym is') (all_made sets origins a o e all m))

  -- the sets from which a set was made are within it
  pub leads_below : (sets : List (List Bool)) (origins : List Origin) (m q i : ℕ) → AreMade n closure sets origins → i < length sets → Leads origins m q i → IsBelow (set_at sets q) (set_at sets i)
  leads_below sets origins zero q i all low e k h = ap (λ x. get_or (set_at sets x) k false) (sym e) ∙ h
  leads_below sets origins (suc m) q i all low (some, rest) k h =
      let o = all i low in
      o.above some k (leads_below sets origins m q (origin_at origins i).before all (o.known some) rest k h)

  leads_more : (sets : List (List Bool)) (origins : List Origin) (p : Origin) (m q i : ℕ) → length origins ≡ length sets → AreMade n closure sets origins → i < length sets → Leads origins m q i → Leads (origins ++ p ∷ []) m q i
  leads_more sets origins p zero q i e all low h = h
  leads_more sets origins p (suc m) q i e all low (some, rest) =
      let r : origin_at (origins ++ p ∷ []) i ≡ origin_at origins i = get_or_append_left origins (p ∷ []) (record { limit = 0; before = 0 }) i (omega (arith, low, e)) in (
        subst (λ (x : Origin). 0 < x.limit) (sym r) some,
        subst (λ (x : Origin). Leads (origins ++ p ∷ []) m q x.before) (sym r) (leads_more sets origins p m q (origin_at origins i).before e all ((all i low).known some) rest),
      )

  -- one set more, which is active
  pub path_more : (sets : List (List Bool)) (origins origins' : List Origin) (active active' : List Bool) (a : List Bool) (o : Origin) → origins' ≡ origins ++ o ∷ [] → active' ≡ active ++ true ∷ [] → length origins ≡ length sets → length active ≡ length sets →
      AreMade n closure sets origins → IsMade n closure sets origins a o → ((q : ℕ) → get_or active q false ≡ true → (0 < o.limit) × ((m : ℕ) × Leads origins m q o.before)) → IsPath origins' active' (length sets)
  path_more sets origins origins' active active' a o is is' e f all m path =
      subst (λ r. IsPath r active' (length sets)) (sym is) (subst (λ r. IsPath (origins ++ o ∷ []) r (length sets)) (sym is') (λ q h.
      elim (cases_eq q (length sets)) [
        | inl s ↦ (0, s)
        | inr s ↦
            let z : length (active ++ true ∷ []) ≡ length active + 1 = length_push active true in
            let low : q < length active = (let l = in_list (active ++ true ∷ []) q h in omega (arith, l, z, f, s)) in
            let (some, steps) = path q (sym (get_or_append_left active (true ∷ []) false q low) ∙ h) in
            let r : origin_at (origins ++ o ∷ []) (length sets) ≡ o = get_or_push origins o (record { limit = 0; before = 0 }) (length sets) e in (
              suc steps.0,
              (
                subst (λ (x : Origin). 0 < x.limit) (sym r) some,
                subst (λ (x : Origin). Leads (origins ++ o ∷ []) steps.0 q x.before) (sym r) (leads_more sets origins o steps.0 q o.before e all (m.known some) steps.1),
              ),
            )
      ]))

  -- a set that is left
  pub path_left : (origins : List Origin) (active active' : List Bool) (i : ℕ) → i < length active → active' ≡ set active i false → IsPath origins active i → IsPath origins active' (origin_at origins i).before
  path_left origins active active' i low is path q h =
      elim (cases_eq q i) [
        | inl e ↦ absurd (false≢true (sym (get_or-set_same active i false false low) ∙ ap (λ x. get_or (set active i false) x false) (sym e) ∙ ap (λ t. get_or t q false) (sym is) ∙ h))
        | inr ne ↦ one_back origins q i ne (path q (sym (get_or-set_other active i q false false ne) ∙ ap (λ t. get_or t q false) (sym is) ∙ h))
      ]
    where
      one_back : (origins : List Origin) (q i : ℕ) → (q ≡ i → ⊥) → ((m : ℕ) × Leads origins m q i) → (m : ℕ) × Leads origins m q (origin_at origins i).before
      one_back origins q i ne (zero, e) = absurd (ne e)
      one_back origins q i ne (suc m, (some, rest)) = (m, rest)

  pub refused_more : (sets sets' : List (List Bool)) (refusals : List Refusal) (a : List Bool) → sets' ≡ sets ++ a ∷ [] → AreRefused closure sets refusals → AreRefused closure sets' refusals
  refused_more sets sets' refusals a is all =
      subst (λ s. AreRefused closure s refusals) (sym is) (λ j low early.
      let (known, brought) = all j low early in
      let z : length (sets ++ a ∷ []) ≡ length sets + 1 = length_push sets a in (
        omega (arith, known, z),
        ap (λ t. get_or (closure (set t j true)) (refusal_at refusals j).new false) (get_or_append_left sets (a ∷ []) [] (refusal_at refusals j).at known) ∙ brought,
      ))

  pub refused_set : (sets : List (List Bool)) (refusals refusals' : List Refusal) (j i k : ℕ) → j < length refusals → i < length sets → refusals' ≡ set refusals j (record { at = i; new = k }) → get_or (closure (set (set_at sets i) j true)) k false ≡ true →
      AreRefused closure sets refusals → AreRefused closure sets refusals'
  refused_set sets refusals refusals' j i k low known is brought all =
      subst (λ r. AreRefused closure sets r) (sym is) (λ l low' early.
      elim (cases_eq l j) [
        | inl e ↦
            let r : refusal_at (set refusals j (record { at = i; new = k })) l ≡ record { at = i; new = k } =
            ap (λ x. refusal_at (set refusals j (record { at = i; new = k })) x) e ∙ get_or-set_same refusals j (record { at = i; new = k }) (record { at = 0; new = 0 }) low in
            subst (λ (x : Refusal). (x.at < length sets) × (get_or (closure (set (set_at sets x.at) l true)) x.new false ≡ true)) (sym r) (known, ap (λ x. get_or (closure (set (set_at sets i) x true)) k false) e ∙ brought)
        | inr ne ↦
            let r : refusal_at (set refusals j (record { at = i; new = k })) l ≡ refusal_at refusals l = get_or-set_other refusals j l (record { at = i; new = k }) (record { at = 0; new = 0 }) ne in
            subst (λ (x : Refusal). (x.at < length sets) × (get_or (closure (set (set_at sets x.at) l true)) x.new false ≡ true)) (sym r)
            (all l (let z : length (set refusals j (record { at = i; new = k })) ≡ length refusals = length-set refusals j (record { at = i; new = k }) in omega (arith, low', z)) (subst (λ (x : Refusal). x.new < l) r early))
      ])

  -- what was brought before is brought again
  pub refused_again : (sets : List (List Bool)) (origins : List Origin) (active : List Bool) (refusals : List Refusal) (i j : ℕ) (a : List Bool) → AreMade n closure sets origins → i < length sets → a ≡ set_at sets i → IsPath origins active i → AreRefused closure sets refusals → j < length refusals → j < n →
      (refusal_at refusals j).new < j → get_or active (refusal_at refusals j).at false ≡ true → get_or a (refusal_at refusals j).new false ≡ false → IsNewBefore j a (closure (set a j true)) (refusal_at refusals j).new
  refused_again sets origins active refusals i j a all low is path refused lj jn early on out =
      let (known, brought) = refused j lj early in
      let (m, leads) = path (refusal_at refusals j).at on in
      let b = set_at sets (refusal_at refusals j).at in
      let bn = (all (refusal_at refusals j).at known).places in
      let an : length a ≡ n = ap length is ∙ (all i low).places in
      let le : IsBelow (set_at sets (refusal_at refusals j).at) a = λ k h. ap (λ t. get_or t k false) is ∙ leads_below sets origins m (refusal_at refusals j).at i all low leads k h in
      let le' : IsBelow (set (set_at sets (refusal_at refusals j).at) j true) (set a j true) = λ k h.
      elim (set_place b j k h) [
        | inl e ↦ ap (λ x. get_or (set a j true) x false) e ∙ get_or-set_same a j true false (omega (arith, jn, an))
        | inr g ↦ set_keeps a j k (omega (arith, jn, an)) (le k g)
      ] in
      (early, out, laws.monotone (set b j true) (set a j true) (length-set b j true ∙ bn) (length-set a j true ∙ an) le' (refusal_at refusals j).new brought)

  pub none_refused : (sets : List (List Bool)) (refusals : List Refusal) (p : ℕ) → refusals ≡ replicate p (record { at = 0; new = p }) → AreRefused closure sets refusals
  none_refused sets refusals p is j low early =
      let e : length refusals ≡ p = ap length is ∙ length-replicate p (record { at = 0; new = p }) in
      let l : j < p = omega (arith, low, e) in
      let r : refusal_at refusals j ≡ record { at = 0; new = p } = ap (λ rs. refusal_at rs j) is ∙ get_or-replicate p j (record { at = 0; new = p }) (record { at = 0; new = 0 }) l in
      absurd (let h : p < j = subst (λ (x : Refusal). x.new < j) r early in omega (arith, h, l))

-- a row that was lent whole
pub lent_back : {A : Type 0} (xs ys : List A) (n : ℕ) → length xs ≡ n → length ys ≡ n → take n (xs ++ drop (length xs) ys) ≡ xs
lent_back xs ys n e f =
    let d : drop (length xs) ys ≡ [] = drop_of_length-le ys (omega (arith, e, f)) in
    ap (λ t. take n (xs ++ t)) d ∙ ap (take n) (append-nil xs) ∙ take_all n xs (omega (arith, e))
