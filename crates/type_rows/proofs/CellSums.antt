-- Cells, object by object: each member at c costs so many.
use Rattle.std.proofs.Common.{◌≡◌, ℕ, zero, suc, ◌+◌, ◌-◌, inl, inr, subst, ◌*◌, ◌/◌, ◌<◌, ◌≤◌, [], ◌∷◌, map, sum, refl, sym, ap, ◌∙◌, arith}
use Rattle.std.specs.List.{range_with_len}
use Rattle.std.proofs.Math.Nat.{le-mul_of_pos_right, le-div_iff_mul-le, div-mul-le_self, mul-le-mul_right}
use Rattle.std.proofs.lemmas.Bool.{cases_lt}
use Rattle.std.proofs.lemmas.List.Sums.{sum_by-append}
use Rattle.std.proofs.lemmas.List.FromFn.{map-range_with_len_more}

module _ (count cost : ℕ → ℕ) where
  -- the cells at the first n objects
  unfoldable pub cells_below : ℕ → ℕ
  cells_below n = sum (map (λ c. count c * cost c) (range_with_len 0 n))

  pub cells_none : cells_below 0 ≡ 0
  unfolding cells_below
  cells_none = refl

  pub cells_more : (n : ℕ) → cells_below (n + 1) ≡ cells_below n + count n * cost n
  unfolding cells_below
  cells_more n =
      let cell : ℕ → ℕ = λ c. count c * cost c in
      ap sum (map-range_with_len_more cell 0 n n (omega arith)) ∙ sum_by-append (λ x. x) (map cell (range_with_len 0 n)) (cell n ∷ []) ∙ omega arith

  -- more objects cost no less
  cells_further : (m d : ℕ) → cells_below m ≤ cells_below (m + d)
  cells_further m zero = let e : m + zero ≡ m = omega arith in subst (λ n. cells_below m ≤ cells_below n) (sym e) (omega arith)
  cells_further m (suc d) =
      let e : m + suc d ≡ (m + d) + 1 = omega arith in
      subst (λ n. cells_below m ≤ cells_below n) (sym e) (omega (arith, cells_further m d, cells_more (m + d)))

  pub cells_within : (m n : ℕ) → m ≤ n → cells_below m ≤ cells_below n
  cells_within m n le = let e : m + (n - m) ≡ n = omega arith in subst (λ x. cells_below m ≤ cells_below x) e (cells_further m (n - m))

  -- what is left after the first c objects does not reach for the next, and so not for all
  pub over_all : (room left c n : ℕ) → left + cells_below c ≡ room → c < n → left < count c * cost c → room < cells_below n
  over_all room left c n spent low over = omega (arith, spent, over, cells_more c, cells_within (c + 1) n (omega (arith, low)))

  -- there are no more members than cells
  pub member_within : (c n : ℕ) → c < n → 0 < cost c → count c ≤ cells_below n
  member_within c n low positive =
      let m : count c ≤ count c * cost c = le-mul_of_pos_right (count c) positive in
      omega (arith, m, cells_more c, cells_within (c + 1) n (omega (arith, low)))

-- more members than the room allows cost more than it
pub over_room : (n room cost : ℕ) → 0 < cost → room / cost < n → room < n * cost
over_room n room cost positive over =
    elim (cases_lt room (n * cost)) [
      | inl l ↦ l
      | inr h ↦ absurd (let d : n ≤ room / cost = div_from n room cost positive h in omega (arith, d, over))
    ]
  where
    div_from : (n room cost : ℕ) → 0 < cost → n * cost ≤ room → n ≤ room / cost
    div_from n room cost p h = (le-div_iff_mul-le {k = cost} {x = n} {y = room} p).1 h

pub within_room : (n room cost : ℕ) → n ≤ room / cost → n * cost ≤ room
within_room n room cost le =
    let a : n * cost ≤ room / cost * cost = mul-le-mul_right cost le in
    let b : room / cost * cost ≤ room = div-mul-le_self room cost in
    omega (arith, a, b)
