-- What the words of a mask say of its members.
use Rattle.std.proofs.Common.{◌≡◌, ℕ, zero, suc, ◌+◌, ◌-◌, ◌*◌, ◌/◌, ◌%◌, ◌^◌, ◌<◌, ◌≤◌, min, max, true, false, not, ◌&&◌, ◌||◌, ◌⊎◌, inl, inr, List, [], ◌∷◌, length, get_or, set, refl, sym, ◌∙◌, ap, arith, eqb, bit_and, bit_or, w64}
use Rattle.std.specs.List.{range_with_len}
use Rattle.std.specs.Int.{bit_at}
use Rattle.std.proofs.Math.ListN.{replicate}
use Rattle.std.proofs.lemmas.List.{get_or-set_same, get_or-set_other}
use Rattle.std.proofs.lemmas.List.Filters.{length-filter_both}
use Rattle.std.proofs.lemmas.List.FromFn.{length-range_with_len}
use Rattle.std.proofs.lemmas.Bool.{eqb-true, eq-eqb, cases_eq, ne_eqb, cases_lt, false_from_ne_true, and_parts, and_from, or_left}
use Rattle.std.proofs.lemmas.Nat.Bits.{shr_and_one, bit_at_and, bit_at_or, bit_at-lt, bit_at_set_same, bit_at_set_other, bit_at_clear_same, bit_at_clear_other, same_from_bits, bit_at_above, bit_at-zero}
use Rattle.finite_lists.specs.Members.{In}
use Rattle.finite_lists.proofs.Lists.{same_tests, In-filter, In-filter_from, filter_same, each_all, all_each}
use Rattle.topos_model.specs.categories.Category.{has}
use Rattle.topos_model.specs.topologies.Cover.{contains}
use Rattle.topos_model.specs.topologies.TopologyFaults.{intersection}
use Rattle.fin_category.specs.Masks.{marked, limit, members, union, added}
use Rattle.fin_category.proofs.ArrowLists.{has-In, In-has, below_limit, limit_is, In-limit, Rises-members, Rises-intersection, same_members, In-intersection, In-intersection_from}

pub In-members : (words : List ℕ) (f : ℕ) → f < 512 → marked words f ≡ true → In (members words) f
unfolding members
In-members words f low e = In-filter (marked words) (range_with_len 0 limit) f (In-limit f low) e

pub In-members_from : (words : List ℕ) (f : ℕ) → In (members words) f → (f < 512) × (marked words f ≡ true)
unfolding members
In-members_from words f i = let r = In-filter_from (marked words) (range_with_len 0 limit) f i in (below_limit f r.0, r.1)

pub has-members : (words : List ℕ) (f : ℕ) → f < 512 → has f (members words) ≡ marked words f
has-members words f low = same_tests _ _ (λ e. (In-members_from words f (In-has (members words) f e)).1) (λ e. has-In (members words) f (In-members words f low e))

-- the test of a bit
pub contains-members : (words : List ℕ) (f : ℕ) → f < 512 → eqb (bit_and (get_or words (f / 64) 0 / 2 ^ (f % 64)) 1) 1 ≡ has f (members words)
unfolding marked
contains-members words f low = ap (λ b. eqb b 1) (shr_and_one (get_or words (f / 64) 0) (f % 64)) ∙ sym (has-members words f low)

-- no bit is set
zeros : (n j : ℕ) → get_or {A = ℕ} (replicate n 0) j 0 ≡ 0
zeros zero j = refl
zeros (suc n) zero = refl
zeros (suc n) (suc j) = zeros n j

pub no-members : (words : List ℕ) → ((j : ℕ) → j < 8 → get_or words j 0 ≡ 0) → members words ≡ []
unfolding marked
no-members words h =
    same_members (members words) [] (Rises-members words) tt
    (λ f i.
    let r = In-members_from words f i in
    let e : marked words f ≡ false = ap (λ n. eqb (bit_at n (f % 64)) 1) (h (f / 64) (omega (arith, r.0))) ∙ ap (λ b. eqb b 1) (bit_at-zero (f % 64)) in
    absurd (cc (r.1, e)))
    (λ f i. absurd i)

pub members-zeros : members (replicate 8 0) ≡ []
members-zeros = no-members (replicate 8 0) (λ j low. zeros 8 j)

-- a bit is set
marked-added : (words : List ℕ) (f g : ℕ) → length words ≡ 8 → f < 512 → g < 512 →
    marked (set words (f / 64) (bit_or (get_or words (f / 64) 0) (1 * 2 ^ (f % 64) % 18446744073709551616))) g ≡ (eqb g f || marked words g)
unfolding marked
marked-added words f g l low low' = at (cases_eq (g / 64) (f / 64)) (cases_eq (g % 64) (f % 64))
  where
    written : ℕ
    written = bit_or (get_or words (f / 64) 0) (1 * 2 ^ (f % 64) % 18446744073709551616)

    here : g / 64 ≡ f / 64 → get_or (set words (f / 64) written) (g / 64) 0 ≡ written
    here e = rw e (get_or-set_same words (f / 64) written 0 (omega arith))

    at : (g / 64 ≡ f / 64) ⊎ (g / 64 ≡ f / 64 → ⊥) → (g % 64 ≡ f % 64) ⊎ (g % 64 ≡ f % 64 → ⊥) →
        eqb (bit_at (get_or (set words (f / 64) written) (g / 64) 0) (g % 64)) 1 ≡ (eqb g f || eqb (bit_at (get_or words (g / 64) 0) (g % 64)) 1)
    at (inl d) (inl m) =
        ap (λ n. eqb (bit_at n (g % 64)) 1) (here d) ∙ ap (λ j. eqb (bit_at written j) 1) m
        ∙ ap (λ b. eqb b 1) (bit_at_set_same w64 (get_or words (f / 64) 0) (f % 64) (omega arith)) ∙ sym (or_left _ _ (eq-eqb g f (omega arith)))
    at (inl d) (inr m) =
        ap (λ n. eqb (bit_at n (g % 64)) 1) (here d)
        ∙ ap (λ b. eqb b 1) (bit_at_set_other w64 (get_or words (f / 64) 0) (f % 64) (omega arith) (g % 64) m)
        ∙ ap (λ j. eqb (bit_at (get_or words j 0) (g % 64)) 1) (sym d)
        ∙ ap (λ b. b || eqb (bit_at (get_or words (g / 64) 0) (g % 64)) 1) (sym (ne_eqb g f (λ e. m (ap (λ x. x % 64) e))))
    at (inr d) _ =
        ap (λ n. eqb (bit_at n (g % 64)) 1) (get_or-set_other words (f / 64) (g / 64) written 0 d)
        ∙ ap (λ b. b || eqb (bit_at (get_or words (g / 64) 0) (g % 64)) 1) (sym (ne_eqb g f (λ e. d (ap (λ x. x / 64) e))))

pub members-added : (words : List ℕ) (f : ℕ) → length words ≡ 8 → f < 512 →
    members (set words (f / 64) (bit_or (get_or words (f / 64) 0) (1 * 2 ^ (f % 64) % 18446744073709551616))) ≡ added f (members words)
unfolding members added
members-added words f l low =
    filter_same _ _ (range_with_len 0 limit) (λ g i.
    let low' = below_limit g i in
    marked-added words f g l low low' ∙ ap (λ b. eqb g f || b) (sym (has-members words g low')))

-- two bits
min_one : (a b : ℕ) → a < 2 → b < 2 → eqb (min a b) 1 ≡ (eqb a 1 && eqb b 1)
min_one zero zero h h' = refl
min_one zero (suc zero) h h' = refl
min_one (suc zero) zero h h' = refl
min_one (suc zero) (suc zero) h h' = refl
min_one (suc (suc a)) b h h' = absurd (omega arith)
min_one zero (suc (suc b)) h h' = absurd (omega arith)
min_one (suc zero) (suc (suc b)) h h' = absurd (omega arith)

max_one : (a b : ℕ) → a < 2 → b < 2 → eqb (max a b) 1 ≡ (eqb a 1 || eqb b 1)
max_one zero zero h h' = refl
max_one zero (suc zero) h h' = refl
max_one (suc zero) zero h h' = refl
max_one (suc zero) (suc zero) h h' = refl
max_one (suc (suc a)) b h h' = absurd (omega arith)
max_one zero (suc (suc b)) h h' = absurd (omega arith)
max_one (suc zero) (suc (suc b)) h h' = absurd (omega arith)

min_implied : (a b : ℕ) → a < 2 → b < 2 → (a ≡ 1 → b ≡ 1) → min a b ≡ a
min_implied zero zero h h' k = refl
min_implied zero (suc zero) h h' k = refl
min_implied (suc zero) zero h h' k = absurd (omega (arith, k refl))
min_implied (suc zero) (suc zero) h h' k = refl
min_implied (suc (suc a)) b h h' k = absurd (omega arith)
min_implied zero (suc (suc b)) h h' k = absurd (omega arith)
min_implied (suc zero) (suc (suc b)) h h' k = absurd (omega arith)

-- the words of an intersection and of a union
marked-and : (words a b : List ℕ) (f : ℕ) → ((j : ℕ) → j < 8 → get_or words j 0 ≡ bit_and (get_or a j 0) (get_or b j 0)) → f < 512 → marked words f ≡ (marked a f && marked b f)
unfolding marked
marked-and words a b f h low =
    ap (λ n. eqb (bit_at n (f % 64)) 1) (h (f / 64) (omega arith)) ∙ ap (λ n. eqb n 1) (bit_at_and (get_or a (f / 64) 0) (get_or b (f / 64) 0) (f % 64))
    ∙ min_one _ _ (bit_at-lt (get_or a (f / 64) 0) (f % 64)) (bit_at-lt (get_or b (f / 64) 0) (f % 64))

marked-or : (words a b : List ℕ) (f : ℕ) → ((j : ℕ) → j < 8 → get_or words j 0 ≡ bit_or (get_or a j 0) (get_or b j 0)) → f < 512 → marked words f ≡ (marked a f || marked b f)
unfolding marked
marked-or words a b f h low =
    ap (λ n. eqb (bit_at n (f % 64)) 1) (h (f / 64) (omega arith)) ∙ ap (λ n. eqb n 1) (bit_at_or (get_or a (f / 64) 0) (get_or b (f / 64) 0) (f % 64))
    ∙ max_one _ _ (bit_at-lt (get_or a (f / 64) 0) (f % 64)) (bit_at-lt (get_or b (f / 64) 0) (f % 64))

pub members-and : (words a b : List ℕ) → ((j : ℕ) → j < 8 → get_or words j 0 ≡ bit_and (get_or a j 0) (get_or b j 0)) → members words ≡ intersection (members a) (members b)
members-and words a b h =
    same_members _ _ (Rises-members words) (Rises-intersection (members a) (members b) (Rises-members a))
    (λ f i.
    let r = In-members_from words f i in
    let e = and_parts (marked a f) (marked b f) (sym (marked-and words a b f h r.0) ∙ r.1) in
    In-intersection (members a) (members b) f (In-members a f r.0 e.0) (In-members b f r.0 e.1))
    (λ f i.
    let r = In-intersection_from (members a) (members b) f i in
    let p = In-members_from a f r.0 in
    let q = In-members_from b f r.1 in
    In-members words f p.0 (marked-and words a b f h p.0 ∙ and_from (marked a f) (marked b f) p.1 q.1))

pub members-or : (words a b : List ℕ) → ((j : ℕ) → j < 8 → get_or words j 0 ≡ bit_or (get_or a j 0) (get_or b j 0)) → members words ≡ union (members a) (members b)
unfolding members union
members-or words a b h =
    filter_same _ _ (range_with_len 0 limit) (λ f i.
    let low = below_limit f i in
    marked-or words a b f h low ∙ ap (λ x. x || marked b f) (sym (has-members a f low)) ∙ ap (λ x. has f (members a) || x) (sym (has-members b f low)))

-- one set within another
pub within-true : (a b : List ℕ) → ((j : ℕ) → j < 8 → bit_and (get_or a j 0) (get_or b j 0) ≡ get_or a j 0) → contains (members a) (members b) ≡ true
within-true a b h =
    each_all (λ f. has f (members b)) (members a) (λ f i.
    let (low, e) = In-members_from a f i in
    has-members b f low ∙ (and_parts (marked a f) (marked b f) (sym (marked-and a a b f (λ j l. sym (h j l)) low) ∙ e)).1)

pub within-false : (a b : List ℕ) (i : ℕ) → i < 8 → get_or a i 0 < 2 ^ 64 → (bit_and (get_or a i 0) (get_or b i 0) ≡ get_or a i 0 → ⊥) → contains (members a) (members b) ≡ false
unfolding marked
within-false a b i low fits other = false_from_ne_true _ (λ e. other (same_from_bits _ _ (λ j. bit_at_and (get_or a i 0) (get_or b i 0) j ∙ bit e j (cases_lt j 64))))
  where
    at : (w : List ℕ) (j : ℕ) → j < 64 → marked w (64 * i + j) ≡ eqb (bit_at (get_or w i 0) j) 1
    at w j l =
        let d : (64 * i + j) / 64 ≡ i = omega arith in
        let m : (64 * i + j) % 64 ≡ j = omega arith in
        rw (d, m) refl

    implied : contains (members a) (members b) ≡ true → (j : ℕ) → j < 64 → bit_at (get_or a i 0) j ≡ 1 → bit_at (get_or b i 0) j ≡ 1
    implied e j l set =
        let f : ℕ = 64 * i + j in
        let low' : f < 512 = omega arith in
        let in_a : has f (members a) ≡ true = has-members a f low' ∙ at a j l ∙ eq-eqb _ _ set in
        let in_b : has f (members b) ≡ true = all_each (λ f. has f (members b)) (members a) f e (In-has (members a) f in_a) in
        eqb-true _ _ (sym (at b j l) ∙ sym (has-members b f low') ∙ in_b)

    bit : contains (members a) (members b) ≡ true → (j : ℕ) → (j < 64) ⊎ (64 ≤ j) → min (bit_at (get_or a i 0) j) (bit_at (get_or b i 0) j) ≡ bit_at (get_or a i 0) j
    bit e j (inl l) = min_implied _ _ (bit_at-lt (get_or a i 0) j) (bit_at-lt (get_or b i 0) j) (implied e j l)
    bit e j (inr l) = min_implied _ _ (bit_at-lt (get_or a i 0) j) (bit_at-lt (get_or b i 0) j) (λ set. absurd (omega (arith, set, bit_at_above (get_or a i 0) 64 j fits l)))

-- one more word is written
pub word-written : (op : ℕ → ℕ → ℕ) (w a b : List ℕ) (i : ℕ) → i < length w →
    ((j : ℕ) → j < i → get_or w j 0 ≡ op (get_or a j 0) (get_or b j 0)) → ((j : ℕ) → i ≤ j → get_or w j 0 ≡ get_or a j 0) →
    ((j : ℕ) → j < i + 1 → get_or (set w i (op (get_or w i 0) (get_or b i 0))) j 0 ≡ op (get_or a j 0) (get_or b j 0))
    × ((j : ℕ) → i + 1 ≤ j → get_or (set w i (op (get_or w i 0) (get_or b i 0))) j 0 ≡ get_or a j 0)
word-written op w a b i low done left = (
  λ j l. elim (cases_eq j i) [
    | inl e ↦ ap (λ j. get_or (set w i (op (get_or w i 0) (get_or b i 0))) j 0) e ∙ get_or-set_same w i _ 0 low ∙ ap (λ n. op n (get_or b i 0)) (left i (omega arith)) ∙ ap (λ j. op (get_or a j 0) (get_or b j 0)) (sym e)
    | inr n ↦ get_or-set_other w i j _ 0 n ∙ done j (omega arith)
  ],
  λ j l. get_or-set_other w i j _ 0 (omega arith) ∙ left j (omega arith),
)

-- the first member, where the words before word i have none, and bit j is the lowest of word i
module _ (words : List ℕ) (i j : ℕ) (low : i < 8) (within : j < 64) (whole : length words ≡ 8) (none : (n : ℕ) → n < i → get_or words n 0 ≡ 0)
    (there : bit_at (get_or words i 0) j ≡ 1) (lowest : (n : ℕ) → n < j → bit_at (get_or words i 0) n ≡ 0) where
  first : ℕ
  first = i * 64 + j

  cleared : List ℕ
  cleared = set words i (bit_and (get_or words i 0) (18446744073709551615 - 1 * 2 ^ j % 18446744073709551616))

  not_before : (g : ℕ) → g < 512 → marked words g ≡ true → g < first → ⊥
  unfolding marked first
  not_before g l m b =
      elim (cases_lt (g / 64) i) [
        | inl p ↦ let e : eqb (bit_at (get_or words (g / 64) 0) (g % 64)) 1 ≡ false = ap (λ n. eqb (bit_at n (g % 64)) 1) (none (g / 64) p) ∙ ap (λ b. eqb b 1) (bit_at-zero (g % 64)) in cc
        | inr p ↦
            let d : g / 64 ≡ i = omega arith in
            let q : g % 64 < j = omega arith in
            let e : eqb (bit_at (get_or words (g / 64) 0) (g % 64)) 1 ≡ false = ap (λ n. eqb (bit_at (get_or words n 0) (g % 64)) 1) d ∙ ap (λ b. eqb b 1) (lowest (g % 64) q) in
            cc
      ]

  first_marked : marked words first ≡ true
  unfolding marked first
  first_marked =
      let d : (i * 64 + j) / 64 ≡ i = omega arith in
      let m : (i * 64 + j) % 64 ≡ j = omega arith in
      rw (d, m) (eq-eqb _ _ there)

  cleared_first : marked cleared first ≡ false
  unfolding marked first cleared
  cleared_first =
      let d : (i * 64 + j) / 64 ≡ i = omega arith in
      let m : (i * 64 + j) % 64 ≡ j = omega arith in
      rw (d, m) (ap (λ n. eqb (bit_at n j) 1) (get_or-set_same words i _ 0 (omega arith)) ∙ ap (λ b. eqb b 1) (bit_at_clear_same w64 (get_or words i 0) j within))

  cleared_other : (g : ℕ) → g < 512 → (g ≡ first → ⊥) → marked cleared g ≡ marked words g
  unfolding marked first cleared
  cleared_other g l n =
      elim (cases_eq (g / 64) i) [
        | inl d ↦
            let m : g % 64 ≡ j → ⊥ = λ e. n (omega arith) in
            ap (λ x. eqb (bit_at (get_or (set words i (bit_and (get_or words i 0) (18446744073709551615 - 1 * 2 ^ j % 18446744073709551616))) x 0) (g % 64)) 1) d
            ∙ ap (λ x. eqb (bit_at x (g % 64)) 1) (get_or-set_same words i _ 0 (omega arith))
            ∙ ap (λ b. eqb b 1) (bit_at_clear_other w64 (get_or words i 0) j within (g % 64) (omega arith) m)
            ∙ ap (λ x. eqb (bit_at (get_or words x 0) (g % 64)) 1) (sym d)
        | inr d ↦ ap (λ x. eqb (bit_at x (g % 64)) 1) (get_or-set_other words i (g / 64) _ 0 d)
      ]

  pub members-first : members words ≡ (i * 64 + j) ∷ members (set words i (bit_and (get_or words i 0) (18446744073709551615 - 1 * 2 ^ j % 18446744073709551616)))
  unfolding first cleared
  members-first =
      same_members (members words) (first ∷ members cleared) (Rises-members words)
      ((λ g i. let r = In-members_from cleared g i in after g r.0 r.1), Rises-members cleared)
      (λ g i. let r = In-members_from words g i in elim (cases_eq g first) [ inl e ↦ inl (sym e) | inr n ↦ inr (In-members cleared g r.0 (cleared_other g r.0 n ∙ r.1)) ])
      (λ g i. elim i [
        | inl e ↦ In-members words g (let l : g < 512 = omega arith in l) (ap (marked words) (sym e) ∙ first_marked)
        | inr k ↦ let r = In-members_from cleared g k in In-members words g r.0 (sym (cleared_other g r.0 (other g r.1)) ∙ r.1)
      ])
    where
      other : (g : ℕ) → marked cleared g ≡ true → g ≡ first → ⊥
      other g m e = let f : marked cleared g ≡ false = ap (marked cleared) e ∙ cleared_first in cc

      after : (g : ℕ) → g < 512 → marked cleared g ≡ true → first < g
      after g l m =
          elim (cases_lt first g) [
            | inl b ↦ b
            | inr b ↦ elim (cases_eq g first) [
              | inl e ↦ absurd (other g m e)
              | inr n ↦ absurd (not_before g l (sym (cleared_other g l n) ∙ m) (omega arith))
            ]
          ]

-- a set has no more members than there are numbers
pub length-members : (words : List ℕ) → length (members words) ≤ 512
unfolding members
length-members words = let a = length-filter_both (marked words) (λ f. not (marked words f)) (λ f. refl) (range_with_len 0 limit) in let b : length (range_with_len 0 limit) ≡ limit = length-range_with_len 0 limit in omega (arith, a, b, limit_is)
