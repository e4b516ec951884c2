-- Each step of the search leaves fewer steps.
use Rattle.std.proofs.Common.{◌≡◌, ℕ, zero, suc, ◌+◌, ◌-◌, ◌*◌, ◌<◌, List, length, get_or, set, drop, refl, ap, ◌∙◌, arith, get_or-set_same, get_or-set_other}
use Rattle.std.proofs.lemmas.List.{drop_more}
use Rattle.natural_search.specs.Search.{steps, steps_left}

times_more : (n m w : ℕ) → n ≡ m + 1 → n * w ≡ m * w + w
times_more n m w e = ap (λ a. a * w) e ∙ omega arith

-- the steps at place d alone
abbrev here : List ℕ → ℕ → ℕ → ℕ
here bounds d v = (get_or bounds d 0 - v) * (steps (drop (suc d) bounds) + 1) + 1

here_pass : (bounds : List ℕ) (d v : ℕ) → v < get_or bounds d 0 → here bounds d v ≡ here bounds d (v + 1) + (steps (drop (suc d) bounds) + 1)
here_pass bounds d v low =
    let e = times_more (get_or bounds d 0 - v) (get_or bounds d 0 - (v + 1)) (steps (drop (suc d) bounds) + 1) (omega arith) in
    omega (arith, e)

pub steps_pass : (bounds values : List ℕ) (d v : ℕ) → v < get_or bounds d 0 → steps_left bounds values d v ≡ steps_left bounds values d (v + 1) + (steps (drop (suc d) bounds) + 1)
unfolding steps_left
steps_pass bounds values zero v low = here_pass bounds zero v low
steps_pass bounds values (suc d) v low = omega (arith, here_pass bounds (suc d) v low)

-- only the first d numbers count
steps_same : (bounds values other : List ℕ) (d v : ℕ) → ((e : ℕ) → e < d → get_or values e 0 ≡ get_or other e 0) → steps_left bounds values d v ≡ steps_left bounds other d v
unfolding steps_left
steps_same bounds values other zero v h = refl
steps_same bounds values other (suc d) v h =
    ap (λ n. here bounds (suc d) v + steps_left bounds values d (n + 1)) (h d (omega arith)) ∙ ap (λ n. here bounds (suc d) v + n) (steps_same bounds values other d (get_or other d 0 + 1) (λ e low. h e (omega arith)))

steps_next : (bounds : List ℕ) (d : ℕ) → d < length bounds → steps (drop d bounds) ≡ here bounds d 0
unfolding steps
steps_next bounds d low =
    let e : d + 1 ≡ suc d = omega arith in
    let n : get_or bounds d 0 ≡ get_or bounds d 0 - 0 = omega arith in
    ap steps (drop_more bounds d 0 low) ∙ ap (λ m. get_or bounds d 0 * (steps (drop m bounds) + 1) + 1) e ∙ ap (λ m. m * (steps (drop (suc d) bounds) + 1) + 1) n

pub steps_set : (bounds values : List ℕ) (d v : ℕ) → d < length values → d + 1 < length bounds → v < get_or bounds d 0 → steps_left bounds (set values d v) (suc d) 0 < steps_left bounds values d v
unfolding steps_left
steps_set bounds values d v within low below =
    let n = get_or-set_same values d v 0 within in
    let rest : steps_left bounds (set values d v) d (get_or (set values d v) d 0 + 1) ≡ steps_left bounds values d (v + 1) =
    ap (λ w. steps_left bounds (set values d v) d (w + 1)) n ∙ steps_same bounds (set values d v) values d (v + 1) (λ e less. get_or-set_other values d e v 0 (λ s. absurd (omega (arith, s)))) in
    let next : steps (drop (suc d) bounds) ≡ here bounds (suc d) 0 = steps_next bounds (suc d) (omega arith) in
    omega (arith, rest, next, steps_pass bounds values d v below)

pub steps_passed : (bounds values : List ℕ) (d v : ℕ) → v < get_or bounds d 0 → steps_left bounds (set values d v) d (v + 1) < steps_left bounds values d v
steps_passed bounds values d v below =
    let e = steps_same bounds (set values d v) values d (v + 1) (λ e less. get_or-set_other values d e v 0 (λ s. absurd (omega (arith, s)))) in
    omega (arith, e, steps_pass bounds values d v below)

pub steps_back : (bounds values : List ℕ) (d v : ℕ) → steps_left bounds values d (get_or values d 0 + 1) < steps_left bounds values (suc d) v
unfolding steps_left
steps_back bounds values d v = omega arith
