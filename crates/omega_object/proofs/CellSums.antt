-- The cells of the closed sieves, object by object.
use Rattle.std.proofs.Common.{◌≡◌, ℕ, zero, suc, ◌+◌, ◌-◌, inl, inr, subst, ◌*◌, ◌/◌, ◌<◌, ◌≤◌, [], ◌∷◌, map, length, sum, refl, sym, ap, ◌∙◌, arith}
use Rattle.std.specs.List.{range_with_len}
use Rattle.std.proofs.Math.Nat.{le-div_iff_mul-le, div-mul-le_self, mul-le-mul_right}
use Rattle.std.proofs.lemmas.Bool.{cases_lt}
use Rattle.std.proofs.lemmas.List.Sums.{sum_by-append}
use Rattle.std.proofs.lemmas.List.FromFn.{map-range_with_len_more}
use Rattle.topos_model.specs.categories.Category.{into}
use Rattle.topos_model.specs.topologies.Cover.{Site}
use Rattle.omega_object.specs.TruthValues.{closed_sieves}
use Rattle.omega_object.specs.Tables.{sieve_cells}

-- the cells at the first n objects
unfoldable pub cells_below : Site → ℕ → ℕ
cells_below s n = sum (map (λ c. length (closed_sieves s c) * (1 + length (into s.category c))) (range_with_len 0 n))

pub cells_none : (s : Site) → cells_below s 0 ≡ 0
unfolding cells_below
cells_none s = refl

pub cells_more : (s : Site) (n : ℕ) → cells_below s (n + 1) ≡ cells_below s n + length (closed_sieves s n) * (1 + length (into s.category n))
unfolding cells_below
cells_more s n =
    let cell : ℕ → ℕ = λ c. length (closed_sieves s c) * (1 + length (into s.category c)) in
    ap sum (map-range_with_len_more cell 0 n n (omega arith)) ∙ sum_by-append (λ x. x) (map cell (range_with_len 0 n)) (cell n ∷ []) ∙ omega arith

pub cells_all : (s : Site) → cells_below s s.category.objects ≡ sieve_cells s
unfolding cells_below sieve_cells
cells_all s = refl

-- more objects cost no less
cells_further : (s : Site) (m d : ℕ) → cells_below s m ≤ cells_below s (m + d)
cells_further s m zero = let e : m + zero ≡ m = omega arith in subst (λ n. cells_below s m ≤ cells_below s n) (sym e) (omega arith)
cells_further s m (suc d) =
    let e : m + suc d ≡ (m + d) + 1 = omega arith in
    subst (λ n. cells_below s m ≤ cells_below s n) (sym e) (omega (arith, cells_further s m d, cells_more s (m + d)))

pub cells_within : (s : Site) (m n : ℕ) → m ≤ n → cells_below s m ≤ cells_below s n
cells_within s m n le = let e : m + (n - m) ≡ n = omega arith in subst (λ x. cells_below s m ≤ cells_below s x) e (cells_further s m (n - m))

-- more members than the room allows cost more than it
pub over_room : (n room cost : ℕ) → 0 < cost → room / cost < n → room < n * cost
over_room n room cost positive over =
    elim (cases_lt room (n * cost)) [
      | inl l ↦ l
      | inr h ↦ absurd (let d : n ≤ room / cost = div_from n room cost positive h in omega (arith, d, over))
    ]
  where
    div_from : (n room cost : ℕ) → 0 < cost → n * cost ≤ room → n ≤ room / cost
    div_from n room cost p h = (le-div_iff_mul-le {k = cost} {x = n} {y = room} p).1 h

pub within_room : (n room cost : ℕ) → n ≤ room / cost → n * cost ≤ room
within_room n room cost le =
    let a : n * cost ≤ room / cost * cost = mul-le-mul_right cost le in
    let b : room / cost * cost ≤ room = div-mul-le_self room cost in
    omega (arith, a, b)
