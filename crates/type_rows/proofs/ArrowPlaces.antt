-- An arrow stands at its place among those into its codomain, and an entry of a part stands at its place in the whole.
use Rattle.std.proofs.Common.{◌≡◌, ℕ, zero, suc, ◌+◌, ◌-◌, ◌*◌, ◌<◌, ◌≤◌, Bool, true, cond, List, [], ◌∷◌, ◌++◌, length, get_or, take, drop, filter, eqb, refl, sym, ap, subst, ◌∙◌, arith}
use Rattle.std.specs.List.{range_with_len}
use Rattle.std.proofs.lemmas.Bool.{eq-eqb}
use Rattle.std.proofs.lemmas.List.{length-append, get_or-take, get_or-drop, get_or-append-add, length-take-le}
use Rattle.std.proofs.lemmas.List.Elements.{filter-append}
use Rattle.finite_lists.specs.Members.{In, Distinct}
use Rattle.finite_lists.proofs.Lists.{filter_same, In_at}
use Rattle.finite_lists.proofs.DistinctLists.{In-range_from, Distinct-filter, Distinct-range}
use Rattle.topos_model.proofs.ArrowsInto.{In-into_from}
use Rattle.topos_model.specs.categories.Category.{Category, into, cod}
use Rattle.topos_model.specs.Laws.{IsCategory}
use Rattle.functor_store.specs.Store as store
use Rattle.functor_store.specs.Store.{place}
use Rattle.functor_store.proofs.Costs.{arrows_into}
use Rattle.sealed_functors.specs.Rows.{part}

pub range_split : (a m l : ℕ) → range_with_len a (m + l) ≡ range_with_len a m ++ range_with_len (a + m) l
range_split a zero l = let e : zero + l ≡ l = omega arith in let z : a + zero ≡ a = omega arith in ap (range_with_len a) e ∙ ap (λ n. range_with_len n l) (sym z)
range_split a (suc m) l =
    let e : suc m + l ≡ suc (m + l) = omega arith in
    let f : a + 1 + m ≡ a + suc m = omega arith in
    ap (range_with_len a) e ∙ ap (λ t. a ∷ t) (range_split (a + 1) m l ∙ ap (λ n. range_with_len (a + 1) m ++ range_with_len n l) f)

kept_first : (p : ℕ → Bool) (a : ℕ) (rest : List ℕ) → p a ≡ true → filter p (a ∷ rest) ≡ a ∷ filter p rest
kept_first p a rest e = ap (λ b. cond b (a ∷ filter p rest) (filter p rest)) e

pub place_is : (k : Category) (f : ℕ) → f < length k.ends → (place k.ends f < length (into k (cod k f))) × (get_or (into k (cod k f)) (place k.ends f) 0 ≡ f)
unfolding place into
place_is k f low =
    let c = cod k f in
    let p : ℕ → Bool = λ g. eqb (cod k g) c in
    let n = length k.ends in
    let front : Category = record { objects = k.objects; ends = take f k.ends; table = k.table } in
    let q : ℕ → Bool = λ g. eqb (cod front g) c in
    let long : length (take f k.ends) ≡ f = length-take-le f k.ends (omega (arith, low)) in
    let same : filter q (range_with_len 0 f) ≡ filter p (range_with_len 0 f) =
    filter_same q p (range_with_len 0 f) (λ g i. let r = In-range_from 0 f g i in ap (λ (e : ℕ × ℕ). eqb e.1 c) (get_or-take f k.ends g (0, 0) (omega (arith, r.1)))) in
    let count : store.into (take f k.ends) c ≡ length (filter p (range_with_len 0 f)) =
    arrows_into front c ∙ ap (λ m. length (filter q (range_with_len 0 m))) long ∙ ap length same in
    let e : n ≡ f + suc (n - f - 1) = omega (arith, low) in
    let z : 0 + f ≡ f = omega arith in
    let all : filter p (range_with_len 0 n) ≡ filter p (range_with_len 0 f) ++ (f ∷ filter p (range_with_len (f + 1) (n - f - 1))) =
    ap (λ m. filter p (range_with_len 0 m)) e ∙ ap (filter p) (range_split 0 f (suc (n - f - 1)) ∙ ap (λ m. range_with_len 0 f ++ range_with_len m (suc (n - f - 1))) z)
    ∙ filter-append p (range_with_len 0 f) (range_with_len f (suc (n - f - 1)))
    ∙ ap (λ t. filter p (range_with_len 0 f) ++ t) (kept_first p f (range_with_len (f + 1) (n - f - 1)) (eq-eqb c c refl)) in
    let first : List ℕ = filter p (range_with_len 0 f) in
    let rest : List ℕ = filter p (range_with_len (f + 1) (n - f - 1)) in
    let here : length first + 0 ≡ length first = omega arith in (
      subst (λ l. store.into (take f k.ends) c < length l) (sym all) (omega (arith, count, length-append first (f ∷ rest))),
      ap (λ l. get_or l (store.into (take f k.ends) c) 0) all ∙ ap (λ m. get_or (first ++ (f ∷ rest)) m 0) (count ∙ sym here) ∙ get_or-append-add first (f ∷ rest) 0 0,
    )

pub part_entry : (w : ℕ) (xs : List ℕ) (k i : ℕ) → i < w → get_or (part w xs k) i 0 ≡ get_or xs (k * w + i) 0
part_entry w xs k i low =
    let e : k * w + w - k * w ≡ w = omega arith in
    ap (λ n. get_or (take n (drop (k * w) xs)) i 0) e ∙ get_or-take w (drop (k * w) xs) i 0 low ∙ get_or-drop (k * w) xs i 0

-- a member of a list without repetitions stands in one place
pub one_place : {A : Type 0} (xs : List A) (d : A) (m n : ℕ) → Distinct xs → m < length xs → n < length xs → get_or xs m d ≡ get_or xs n d → m ≡ n
one_place [] d m n h low low' e = absurd (omega (arith, low))
one_place (x ∷ xs) d zero zero h low low' e = refl
one_place (x ∷ xs) d zero (suc n) h low low' e = absurd (h.0 (subst (In xs) (sym e) (In_at xs n d (omega (arith, low')))))
one_place (x ∷ xs) d (suc m) zero h low low' e = absurd (h.0 (subst (In xs) e (In_at xs m d (omega (arith, low)))))
one_place (x ∷ xs) d (suc m) (suc n) h low low' e = ap suc (one_place xs d m n h.1 (omega (arith, low)) (omega (arith, low')) e)

-- the arrow at a place among those into an object has this place
pub arrow_place : (k : Category) (c j : ℕ) → j < length (into k c) → place k.ends (get_or (into k c) j 0) ≡ j
unfolding into
arrow_place k c j low =
    let f = get_or (into k c) j 0 in
    let i = In-into_from k c f (In_at (into k c) j 0 low) in
    let p = subst (λ d. (place k.ends f < length (into k d)) × (get_or (into k d) (place k.ends f) 0 ≡ f)) i.1 (place_is k f i.0) in
    one_place (into k c) 0 (place k.ends f) j (Distinct-filter (λ g. eqb (cod k g) c) (range_with_len 0 (length k.ends)) (Distinct-range 0 (length k.ends))) p.0 low p.1

-- each object has an identity
pub few_objects : (k : Category) → IsCategory k → k.objects ≤ length k.ends
few_objects k laws = at k.objects refl
  where
    at : (n : ℕ) → k.objects ≡ n → k.objects ≤ length k.ends
    at zero e = omega (arith, e)
    at (suc n) e = let l = (laws.identity n (omega (arith, e))).0.0 in omega (arith, e, l)
