-- Completing a set by places whose parts it has is a closure.
use Rattle.std.proofs.Common.{◌≡◌, ℕ, ◌+◌, ◌<◌, Bool, true, false, inl, inr, List, length, get_or, eqb, refl, sym, ap, ◌∙◌, arith}
use Rattle.std.proofs.lemmas.Bool.{or_cases, or_left, or_right, and_parts, and_from, eqb-true, eq-eqb}
use Rattle.std.proofs.lemmas.List.{same_lists, get_or_default}
use Rattle.std.proofs.lemmas.List.FromFn.{length-map-range_with_len, get_or-map-range_with_len}
use Rattle.finite_lists.proofs.Lists.{same_tests}
use Rattle.closed_sets.specs.Closed.{IsBelow, IsClosure}
use Rattle.closed_sets.specs.IdealLaws.{some_place, place_some, in_list}
use Rattle.closed_sets.specs.Parts.{is_part, is_part_of_some, has_parts, completed}

module _ (parts : ℕ → ℕ × ℕ) where
  length-completed : (a : List Bool) → length (completed parts a) ≡ length a
  unfolding completed
  length-completed a = length-map-range_with_len (has_parts parts a) 0 (length a)

  read : (a : List Bool) (k : ℕ) → k < length a → get_or (completed parts a) k false ≡ has_parts parts a k
  unfolding completed
  read a k low = get_or-map-range_with_len (has_parts parts a) 0 (length a) k k false low (omega arith)

  -- a set with these places is the completed one
  pub completed-from_reads : (a c : List Bool) → length c ≡ length a → ((k : ℕ) → k < length a → get_or c k false ≡ has_parts parts a k) → c ≡ completed parts a
  completed-from_reads a c e h =
      same_lists c (completed parts a) (e ∙ sym (length-completed a)) (λ k d low.
      let l : k < length a = omega (arith, e, low) in
      let l' : k < length (completed parts a) = omega (arith, length-completed a, l) in
      get_or_default c k d false low ∙ h k l ∙ sym (read a k l) ∙ get_or_default (completed parts a) k false d l')

  some_place_of : (a : List Bool) (u : ℕ) → is_part_of_some parts u a ≡ true → (j : ℕ) × (j < length a) × (get_or a j false ≡ true) × (is_part parts u j ≡ true)
  some_place_of a u h =
      let r = some_place (is_part parts) u 0 a h in
      let z : r.0 ≡ 0 + r.0 = omega arith in
      (r.0, r.1, r.2, ap (is_part parts u) z ∙ r.3)

  of_place : (a : List Bool) (u j : ℕ) → get_or a j false ≡ true → is_part parts u j ≡ true → is_part_of_some parts u a ≡ true
  of_place a u j h p = place_some (is_part parts) u 0 j a h (let z : 0 + j ≡ j = omega arith in ap (is_part parts u) z ∙ p)

  placed : (a : List Bool) (k : ℕ) → get_or (completed parts a) k false ≡ true → (k < length a) × (is_part_of_some parts (parts k).0 a ≡ true) × (is_part_of_some parts (parts k).1 a ≡ true)
  placed a k h =
      let low : k < length a = omega (arith, in_list (completed parts a) k h, length-completed a) in
      let (left, right) = and_parts _ _ (sym (read a k low) ∙ h) in
      (low, left, right)

  extends : (a : List Bool) → IsBelow a (completed parts a)
  extends a k h =
      read a k (in_list a k h)
      ∙ and_from _ _ (of_place a (parts k).0 k h (or_left _ _ (eq-eqb (parts k).0 (parts k).0 refl)))
      (of_place a (parts k).1 k h (or_right (eqb (parts k).0 (parts k).1) _ (eq-eqb (parts k).1 (parts k).1 refl)))

  -- completing brings no new part
  same_parts : (a : List Bool) (u : ℕ) → is_part_of_some parts u (completed parts a) ≡ true → is_part_of_some parts u a ≡ true
  same_parts a u h =
      let (j, low, g, p) = some_place_of (completed parts a) u h in
      let (l, left, right) = placed a j g in
      elim (or_cases (eqb (parts j).0 u) (eqb (parts j).1 u) p) [
        | inl e ↦ ap (λ v. is_part_of_some parts v a) (sym (eqb-true (parts j).0 u e)) ∙ left
        | inr e ↦ ap (λ v. is_part_of_some parts v a) (sym (eqb-true (parts j).1 u e)) ∙ right
      ]

  twice : (a : List Bool) → completed parts (completed parts a) ≡ completed parts a
  twice a =
      same_lists (completed parts (completed parts a)) (completed parts a) (length-completed (completed parts a)) (λ k d low.
      let low' : k < length (completed parts a) = omega (arith, low, length-completed (completed parts a)) in
      let l : k < length a = omega (arith, low', length-completed a) in
      get_or_default (completed parts (completed parts a)) k d false low
      ∙ same_tests (get_or (completed parts (completed parts a)) k false) (get_or (completed parts a) k false)
      (λ i. let (m, left, right) = placed (completed parts a) k i in read a k l ∙ and_from _ _ (same_parts a (parts k).0 left) (same_parts a (parts k).1 right))
      (λ i. extends (completed parts a) k i)
      ∙ get_or_default (completed parts a) k false d low')

  pub completed_closure : (n : ℕ) → IsClosure n (completed parts)
  completed_closure n = record {
    keeps = λ a e. length-completed a ∙ e;
    extensive = λ a e. extends a;
    monotone = λ a b e f h k i.
        let (l, left, right) = placed a k i in
        let (m, low, g, p) = some_place_of a (parts k).0 left in
        let (m', low', g', p') = some_place_of a (parts k).1 right in
        read b k (omega (arith, e, f, l)) ∙ and_from _ _ (of_place b (parts k).0 m (h m g) p) (of_place b (parts k).1 m' (h m' g') p');
    idempotent = λ a e. twice a;
  }
