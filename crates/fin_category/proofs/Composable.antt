-- The composable pairs: their members, their order, and a composite that is looked up in a table of them.
use Rattle.std.proofs.Common.{◌≡◌, ℕ, ◌+◌, ◌<◌, Bool, true, false, cond, ◌&&◌, eqb, ◌⊎◌, inl, inr, List, [], ◌∷◌, length, map, filter, refl, sym, ap, ◌∙◌, arith}
use Rattle.std.specs.List.{range_with_len}
use Rattle.std.proofs.lemmas.Bool.{and_parts, and_from, eqb-true, eq-eqb, both_ways}
use Rattle.finite_lists.specs.Members.{In}
use Rattle.finite_lists.specs.Rising.{Rising}
use Rattle.finite_lists.proofs.Lists.{In-map, In-map_from, In-flat_map, In-flat_map_from, In-filter, In-filter_from}
use Rattle.finite_lists.proofs.DistinctLists.{In-range, In-range_from}
use Rattle.finite_lists.proofs.RisingLists.{Rising-filter, Rising-map, Rising-flat_map, Rising-range}
use Rattle.topos_model.specs.categories.Category.{composite}
use Rattle.topos_model.specs.Laws.{EntryBelow}
use Rattle.topos_model.specs.categories.Listed.{meet, composable}

pub In-composable : (ends : List (ℕ × ℕ)) (g f : ℕ) → g < length ends → f < length ends → meet ends g f ≡ true → In (composable ends) (g, f)
unfolding composable
In-composable ends g f p q m =
    In-flat_map (λ (g : ℕ). map (λ (f : ℕ). (g, f)) (filter (meet ends g) (range_with_len 0 (length ends)))) (range_with_len 0 (length ends)) g (g, f)
    (In-range 0 (length ends) g (omega arith) (omega arith))
    (In-map (λ (f : ℕ). (g, f)) (filter (meet ends g) (range_with_len 0 (length ends))) f
    (In-filter (meet ends g) (range_with_len 0 (length ends)) f (In-range 0 (length ends) f (omega arith) (omega arith)) m))

pub In-composable_from : (ends : List (ℕ × ℕ)) (g f : ℕ) → In (composable ends) (g, f) → (g < length ends) × (f < length ends) × (meet ends g f ≡ true)
unfolding composable
In-composable_from ends g f h =
    let F : ℕ → List (ℕ × ℕ) = λ g. map (λ f. (g, f)) (filter (meet ends g) (range_with_len 0 (length ends))) in
    let r : (x : ℕ) × In (range_with_len 0 (length ends)) x × In (F x) (g, f) = In-flat_map_from F (range_with_len 0 (length ends)) (g, f) h in
    let m : (y : ℕ) × In (filter (meet ends r.0) (range_with_len 0 (length ends))) y × ◌≡◌ {A = ℕ × ℕ} (r.0, y) (g, f) =
    In-map_from (λ (y : ℕ). (r.0, y)) (filter (meet ends r.0) (range_with_len 0 (length ends))) (g, f) r.2 in
    let k = In-filter_from (meet ends r.0) (range_with_len 0 (length ends)) m.0 m.1 in
    same_pair r.0 m.0 m.2 (In-range_from 0 (length ends) r.0 r.1).1 (In-range_from 0 (length ends) m.0 k.0).1 k.1
  where
    same_pair : (x y : ℕ) → ◌≡◌ {A = ℕ × ℕ} (x, y) (g, f) → x < 0 + length ends → y < 0 + length ends → meet ends x y ≡ true → (g < length ends) × (f < length ends) × (meet ends g f ≡ true)
    same_pair x y e p q t =
        let eg : x ≡ g = ap (λ (p : ℕ × ℕ). p.0) e in
        let ef : y ≡ f = ap (λ (p : ℕ × ℕ). p.1) e in
        (omega arith, omega arith, sym (ap (λ n. meet ends n y) eg ∙ ap (λ n. meet ends g n) ef) ∙ t)

-- the composite that a table of values has at a pair of its list
pub composite-map : (value : ℕ → ℕ → ℕ) (pairs : List (ℕ × ℕ)) (g f : ℕ) → In pairs (g, f) → composite (map (λ p. (p.0, p.1, value p.0 p.1)) pairs) g f ≡ value g f
composite-map value [] g f h = absurd h
composite-map value (p ∷ pairs) g f h = at (eqb p.0 g && eqb p.1 f) refl h (composite-map value pairs g f)
  where
    at : (b : Bool) → (eqb p.0 g && eqb p.1 f) ≡ b → In (p ∷ pairs) (g, f) → (In pairs (g, f) → composite (map (λ p. (p.0, p.1, value p.0 p.1)) pairs) g f ≡ value g f) →
        cond b (value p.0 p.1) (composite (map (λ p. (p.0, p.1, value p.0 p.1)) pairs) g f) ≡ value g f
    at true e h ih =
        let both = and_parts (eqb p.0 g) (eqb p.1 f) e in
        ap (λ n. value n p.1) (eqb-true p.0 g both.0) ∙ ap (λ n. value g n) (eqb-true p.1 f both.1)
    at false e (inl s) ih =
        absurd (both_ways (eqb p.0 g && eqb p.1 f) e (and_from (eqb p.0 g) (eqb p.1 f) (eq-eqb p.0 g (ap (λ (q : ℕ × ℕ). q.0) s)) (eq-eqb p.1 f (ap (λ (q : ℕ × ℕ). q.1) s))))
    at false e (inr i) ih = ih i

-- one pair stands lexicographically before another
abbrev pub PairBelow : ℕ × ℕ → ℕ × ℕ → Type 0
PairBelow p q = (p.0 < q.0) ⊎ ((p.0 ≡ q.0) × (p.1 < q.1))

-- the pairs rise
pub composable_rises : (ends : List (ℕ × ℕ)) → Rising PairBelow (composable ends)
unfolding composable
composable_rises ends =
    Rising-flat_map (λ m n. m < n) PairBelow (λ (g : ℕ). map (λ (f : ℕ). (g, f)) (filter (meet ends g) (range_with_len 0 (length ends)))) (range_with_len 0 (length ends))
    (Rising-range 0 (length ends))
    (λ g i. Rising-map (λ m n. m < n) PairBelow (λ (f : ℕ). (g, f)) (filter (meet ends g) (range_with_len 0 (length ends))) (λ m n i j h. inr (refl, h))
    (Rising-filter (λ m n. m < n) (meet ends g) (range_with_len 0 (length ends)) (Rising-range 0 (length ends))))
    (λ g h p q i j l m n.
    let a = In-map_from (λ (f : ℕ). (g, f)) (filter (meet ends g) (range_with_len 0 (length ends))) p m in
    let b = In-map_from (λ (f : ℕ). (h, f)) (filter (meet ends h) (range_with_len 0 (length ends))) q n in
    inl (rw (← ap (λ (p : ℕ × ℕ). p.0) a.2, ← ap (λ (p : ℕ × ℕ). p.0) b.2) l))

-- and with them the entries of a table
pub Rising-composable : (ends : List (ℕ × ℕ)) (value : ℕ → ℕ → ℕ) → Rising EntryBelow (map (λ p. (p.0, p.1, value p.0 p.1)) (composable ends))
Rising-composable ends value =
    Rising-map PairBelow EntryBelow (λ (p : ℕ × ℕ). (p.0, p.1, value p.0 p.1)) (composable ends) (λ p q i j h. h) (composable_rises ends)
