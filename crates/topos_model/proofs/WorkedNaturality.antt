-- Worked examples of natural maps, by cases: a map of graphs, and two that are none.
use Rattle.std.proofs.Common.{◌≡◌, ℕ, zero, suc, ◌<◌, [], ◌∷◌, length, get_or, refl, sym, ◌∙◌, ap, subst, arith}
use Rattle.topos_model.specs.categories.Category.{Category, dom, cod}
use Rattle.topos_model.specs.types.Types.{Presheaf}
use Rattle.topos_model.specs.Laws.{IsInto, act, size}
use Rattle.topos_model.specs.presheaves.Maps.{Components, apply, IsNatural}

-- graphs: vertices, edges, and arrows s, t from the first to the second
abbrev graph : Category
graph = record {
  objects = 2;
  ends = (0, 0) ∷ (1, 1) ∷ (0, 1) ∷ (0, 1) ∷ [];
  table = (0, 0, 0) ∷ (1, 1, 1) ∷ (1, 2, 2) ∷ (1, 3, 3) ∷ (2, 0, 2) ∷ (3, 0, 3) ∷ [];
}

-- one edge k from a to b
abbrev K : Presheaf
K = record { sizes = 2 ∷ 1 ∷ []; along = (0 ∷ 1 ∷ []) ∷ (0 ∷ []) ∷ (0 ∷ []) ∷ (1 ∷ []) ∷ [] }

-- edges e and f from p to q, and l from q to p
abbrev G : Presheaf
G = record { sizes = 2 ∷ 3 ∷ []; along = (0 ∷ 1 ∷ []) ∷ (0 ∷ 1 ∷ 2 ∷ []) ∷ (0 ∷ 0 ∷ 1 ∷ []) ∷ (1 ∷ 1 ∷ 0 ∷ []) ∷ [] }

-- k to l
abbrev m : Components
m = (1 ∷ 0 ∷ []) ∷ (2 ∷ []) ∷ []

total : (c : ℕ) → c < 2 → length (get_or m c []) ≡ size K c
total zero h = refl
total (suc zero) h = refl
total (suc (suc c)) h = absurd (omega (arith, h))

within : (c x : ℕ) → c < 2 → x < size K c → apply m c x < size G c
within zero zero h i = omega arith
within zero (suc zero) h i = omega arith
within zero (suc (suc x)) h i = absurd (omega (arith, i))
within (suc zero) zero h i = omega arith
within (suc zero) (suc x) h i = absurd (omega (arith, i))
within (suc (suc c)) x h i = absurd (omega (arith, h))

square : (f x : ℕ) → f < 4 → x < size K (cod graph f) → apply m (dom graph f) (act K f x) ≡ act G f (apply m (cod graph f) x)
square zero zero h i = refl
square zero (suc zero) h i = refl
square zero (suc (suc x)) h i = absurd (omega (arith, i))
square (suc zero) zero h i = refl
square (suc zero) (suc x) h i = absurd (omega (arith, i))
square (suc (suc zero)) zero h i = refl
square (suc (suc zero)) (suc x) h i = absurd (omega (arith, i))
square (suc (suc (suc zero))) zero h i = refl
square (suc (suc (suc zero))) (suc x) h i = absurd (omega (arith, i))
square (suc (suc (suc (suc f)))) x h i = absurd (omega (arith, h))

commutes : (c f x : ℕ) → IsInto graph c f → x < size K c → apply m (dom graph f) (act K f x) ≡ act G f (apply m c x)
commutes c f x i h =
    square f x i.0 (subst (λ (c : ℕ). x < size K c) (sym i.1) h) ∙ ap (λ (c : ℕ). act G f (apply m c x)) i.1

edge_to_edge : IsNatural graph K G m
edge_to_edge = record { objects = refl; total = total; within = within; commutes = commutes }

-- both ends to p: it does not commute with t
one_vertex : IsNatural graph K G ((0 ∷ 0 ∷ []) ∷ (0 ∷ []) ∷ []) → ⊥
one_vertex n = let bad : 0 ≡ 1 = n.commutes 1 3 0 (omega arith, refl) (omega arith) in omega (arith, bad)

-- more numbers than elements
too_long : IsNatural graph K G ((1 ∷ 0 ∷ []) ∷ (2 ∷ 2 ∷ []) ∷ []) → ⊥
too_long n = let bad : 2 ≡ 1 = n.total 1 (omega arith) in omega (arith, bad)

-- a number that is no element's
past : IsNatural graph K G ((1 ∷ 0 ∷ []) ∷ (3 ∷ []) ∷ []) → ⊥
past n = let bad : 3 < 3 = n.within 1 0 (omega arith) (omega arith) in omega (arith, bad)
