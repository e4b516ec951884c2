-- The pairs of the elements of two sealed types are the elements of their product.
use Rattle.std.proofs.Common.{◌≡◌, ℕ, zero, suc, ◌+◌, ◌*◌, ◌/◌, ◌%◌, ◌<◌, ◌≤◌, List, [], ◌∷◌, length, get_or, map, sum, inl, inr, refl, sym, ap, subst, ◌∙◌, arith}
use denote.Hole.Carrier
use Rattle.std.specs.List.{flat_map, range_with_len}
use Rattle.std.proofs.Math.Nat.{mul-le-mul_right, div-add-mod}
use Rattle.std.proofs.lemmas.Bool.{cases_lt}
use Rattle.std.proofs.lemmas.List.{length-map}
use Rattle.finite_lists.specs.Members.{In}
use Rattle.finite_lists.proofs.Lists.{map_same, In-append_cases}
use Rattle.finite_lists.proofs.DistinctLists.{In-range_from}
use Rattle.topos_model.specs.declared.ty.Ty.{Ty, Base, Two}
use Rattle.topos_model.specs.declared.ty.Ty.TheBlock.{hidden-the_row-Ty-0}
use Rattle.topos_model.specs.declared.value.Val.{Val, Star, Two as Pair}
use Rattle.topos_model.specs.categories.Category.{Category, into, dom}
use Rattle.topos_model.specs.topologies.Cover.{Site}
use Rattle.topos_model.specs.Laws.{IsCategory, IsInto}
use Rattle.topos_model.specs.types.Types.{Presheaf, elements, restr, two_elements}
use Rattle.topos_model.specs.statements.Cells.{cells_of, width}
use Rattle.topos_model.proofs.ArrowsInto.{In-into_from}
use Rattle.topos_model.specs.statements.Needs.{parts}
use Rattle.topos_model.proofs.NeedsEquations.{parts-Two}
use Rattle.topos_model.proofs.TypeEquations.{elements-Two, restr-Two}
use Rattle.functor_store.specs.Store.{Store, functor_at}
use Rattle.functor_store.specs.Faithful.{Stands, IsRow, IsFaithful}
use Rattle.sealed_functors.specs.declared.rows.ElementRows.{ElementRows}
use Rattle.sealed_functors.specs.Rows.{part}
use Rattle.finite_lists.proofs.Lists.{In_at}
use Rattle.sieve_table.proofs.SieveMembers.{domain, object}
use Rattle.type_laws.proofs.Presheaves.{two_along_Two}
use Rattle.sealed_types.specs.Sealed.{sizes_in, restrictions_in}
use Rattle.sealed_types.proofs.SealedTypes.{sealed_size, sealed_stands, sealed_restricted}
use Rattle.type_rows.specs.TypeRows.{AreRowsAt, HoldsNamed, value_at}
use Rattle.type_rows.proofs.FlatRows.{no_part, length-joined, joined_at, length-rows, rows_at}
use Rattle.product_objects.specs.PairRows.{pair_row, pair_cells, ArePairRows, AreFactors}

-- a pair of numbers is below the product
pub pair_below : (m n a b : ℕ) → a < m → b < n → a * n + b < m * n
pair_below m n a b low low' =
    let e : suc a * n ≡ a * n + n = omega arith in
    let l : suc a * n ≤ m * n = mul-le-mul_right n (omega (arith, low)) in
    omega (arith, e, l, low')

-- a number below a product is a pair of numbers
pub pair_of : (m n k : ℕ) → k < m * n → (a b : ℕ) × (a < m) × (b < n) × (a * n + b ≡ k)
pair_of m zero k low = absurd (let z : m * zero ≡ 0 = omega arith in omega (arith, low, z))
pair_of m (suc n) k low =
    let w = suc n in
    let d = div-add-mod k w in
    let r : k % w < w = omega arith in
    let c : w * (k / w) ≡ k / w * w = omega arith in
    (k / w, k % w, quotient m (k / w) (k % w) w k low (omega (arith, d, c)), r, omega (arith, d, c))
  where
    quotient : (m q r w k : ℕ) → k < m * w → q * w + r ≡ k → q < m
    quotient m q r w k low e =
        elim (cases_lt q m) [
          | inl l ↦ l
          | inr h ↦ absurd (let b : m * w ≤ q * w = mul-le-mul_right w h in omega (arith, b, e, low))
        ]

-- no product is a functor's name
no_base : (S T : Ty) (n : ℕ) → Two S T ≡ Base n → ⊥
unfolding hidden-the_row-Ty-0 Carrier.hidden
no_base S T n e = cc

module _ (s : Site) (functors : List Presheaf) (S T : Ty) where
  pub pair_elements : (c : ℕ) → elements s functors (Two S T) c ≡ flat_map (λ u. map (λ v. Pair u v) (elements s functors T c)) (elements s functors S c)
  unfolding two_elements
  pair_elements c = elements-Two s functors S T c

  pub length-pairs : (c : ℕ) → length (elements s functors (Two S T) c) ≡ length (elements s functors S c) * length (elements s functors T c)
  length-pairs c = ap length (pair_elements c) ∙ length-joined (λ u. map (λ v. Pair u v) (elements s functors T c)) (length (elements s functors T c)) (elements s functors S c) (λ u i. length-map (elements s functors T c) (λ v. Pair u v))

  mapped_at : {A B : Type 0} (h : A → B) (xs : List A) (i : ℕ) (d : A) (e : B) → i < length xs → get_or (map h xs) i e ≡ h (get_or xs i d)
  mapped_at h [] i d e low = absurd (omega (arith, low))
  mapped_at h (x ∷ xs) zero d e low = refl
  mapped_at h (x ∷ xs) (suc i) d e low = mapped_at h xs i d e (omega (arith, low))

  -- the pair (a, b) stands at its number
  pub pair_value : (c m a b : ℕ) → m ≡ length (elements s functors T c) → a < length (elements s functors S c) → b < m → value_at s functors (Two S T) c (a * m + b) ≡ Pair (value_at s functors S c a) (value_at s functors T c b)
  pair_value c m a b e low low' =
      let n = length (elements s functors T c) in
      let low'' : b < n = omega (arith, low', e) in
      ap (λ x. value_at s functors (Two S T) c (a * x + b)) e
      ∙ ap (λ l. get_or l (a * n + b) Star) (pair_elements c)
      ∙ joined_at (λ u. map (λ v. Pair u v) (elements s functors T c)) n (elements s functors S c) a b Star Star (λ u i. length-map (elements s functors T c) (λ v. Pair u v)) low low''
      ∙ mapped_at (λ v. Pair (value_at s functors S c a) v) (elements s functors T c) b Star Star low''

  pair_along : (f : ℕ) (u v : Val) → restr s functors (Two S T) f (Pair u v) ≡ Pair (restr s functors S f u) (restr s functors T f v)
  pair_along f u v = restr-Two s functors S T f (Pair u v) ∙ two_along_Two (elements s functors S) (elements s functors T) (restr s functors S) (restr s functors T) f u v

  no_row : (c : ℕ) (v : Val) (row : List ℕ) → row ≡ [] → IsRow s functors (Two S T) c v row
  unfolding hidden-the_row-Ty-0 Carrier.hidden
  no_row c v row e = e

  no_width : (c : ℕ) → width s functors (Two S T) c ≡ 0
  unfolding width hidden-the_row-Ty-0 Carrier.hidden
  no_width c = refl

module _ (s : Site) (functors : List Presheaf) (store : Store) (i j : ℕ) (laws : IsCategory s.category) (h : IsFaithful s functors store) (low : i < length store.sealed) (low' : j < length store.sealed) where
  abbrev k : Category
  k = s.category

  abbrev S : Ty
  S = (functor_at store.sealed i).key

  abbrev T : Ty
  T = (functor_at store.sealed j).key

  abbrev row : ℕ → ℕ → ℕ → List ℕ
  row = pair_row k (sizes_in store i) (sizes_in store j) (restrictions_in store i) (restrictions_in store j)

  length-row : (c x y : ℕ) → length (row c x y) ≡ length (into k c)
  unfolding pair_row
  length-row c x y = length-map (into k c) _

  row_at : (c x y a : ℕ) → a < length (into k c) → let f = get_or (into k c) a 0 in
      get_or (row c x y) a 0 ≡ restrictions_in store i f x * sizes_in store j (dom k f) + restrictions_in store j f y
  unfolding pair_row
  row_at c x y a inside = mapped_at s functors S T _ (into k c) a 0 0 inside

  pairs_count : (c : ℕ) → c < k.objects → sizes_in store i c * sizes_in store j c ≡ length (elements s functors (Two S T) c)
  pairs_count c object = ap (λ n. n * sizes_in store j c) (sealed_size s functors store i h low c object) ∙ ap (λ n. length (elements s functors S c) * n) (sealed_size s functors store j h low' c object) ∙ sym (length-pairs s functors S T c)

  -- a pair of numbers restricts as the pair of elements
  pair_stands : (c x y f : ℕ) → IsInto k c f → x < sizes_in store i c → y < sizes_in store j c →
      Stands s functors (Two S T) (dom k f) (restrictions_in store i f x * sizes_in store j (dom k f) + restrictions_in store j f y) (restr s functors (Two S T) f (value_at s functors (Two S T) c (x * sizes_in store j c + y)))
  pair_stands c x y f a inside inside' =
      let d = dom k f in
      let there = domain k laws a in
      let first = sealed_stands s functors store i h low c f x a inside in
      let second = sealed_stands s functors store j h low' c f y a inside' in
      let p = restrictions_in store i f x in
      let q = restrictions_in store j f y in
      let n = sealed_size s functors store i h low d there in
      let m = sealed_size s functors store j h low' d there in
      let first_in = first.within in
      let second_in = second.within in
      let p' : p < sizes_in store i d = omega (arith, first_in, n) in
      let q' : q < sizes_in store j d = omega (arith, second_in, m) in
      let object' = object k laws a in
      let here : value_at s functors (Two S T) c (x * sizes_in store j c + y) ≡ Pair (value_at s functors S c x) (value_at s functors T c y) =
      pair_value s functors S T c (sizes_in store j c) x y (sealed_size s functors store j h low' c object') (let z = sealed_size s functors store i h low c object' in omega (arith, inside, z)) inside' in
      let along : restr s functors (Two S T) f (value_at s functors (Two S T) c (x * sizes_in store j c + y)) ≡ Pair (restr s functors S f (value_at s functors S c x)) (restr s functors T f (value_at s functors T c y)) =
      ap (restr s functors (Two S T) f) here ∙ pair_along s functors S T f _ _ in
      let value : value_at s functors (Two S T) d (p * sizes_in store j d + q) ≡ Pair (value_at s functors S d p) (value_at s functors T d q) =
      pair_value s functors S T d (sizes_in store j d) p q m first_in q' in
      record {
        within = let b = pair_below (sizes_in store i d) (sizes_in store j d) p q p' q' in omega (arith, b, pairs_count d there);
        is = value ∙ ap (λ u. Pair u (value_at s functors T d q)) first.is ∙ ap (Pair (restr s functors S f (value_at s functors S c x))) second.is ∙ sym along;
      }

  pub product_rows : (c : ℕ) (r : ElementRows) → c < k.objects → ArePairRows k (sizes_in store i) (sizes_in store j) (restrictions_in store i) (restrictions_in store j) c r → AreRowsAt s functors (Two S T) c r
  product_rows c r object' is =
      let w = length (into k c) in
      let m = sizes_in store i c in
      let n = sizes_in store j c in
      let inner : (x : ℕ) → x < m → length (flat_map (row c x) (range_with_len 0 n)) ≡ n * w = λ x l. length-rows (row c x) w n (λ y b. length-row c x y) in
      record {
        count = is.count ∙ pairs_count c object';
        arrows = is.arrows;
        rows_long = let z : r.count * 0 ≡ 0 = omega arith in ap length is.rows ∙ sym (ap (λ v. r.count * v) is.width ∙ z);
        restrictions_long =
            let e : m * (n * w) ≡ m * n * w = omega arith in
            ap length is.restrictions ∙ length-rows (λ x. flat_map (row c x) (range_with_len 0 n)) (n * w) m inner ∙ e ∙ ap (λ v. v * w) (sym is.count) ∙ ap (λ v. r.count * v) (sym is.arrows);
        rows = λ q l. no_row s functors S T c (value_at s functors (Two S T) c q) (part r.width r.rows q) (ap (λ v. part v r.rows q) is.width ∙ no_part r.rows q is.rows);
        numbers = λ q a l inside.
            let (x, y, xl, yl, e) = pair_of m n q (let z = is.count in omega (arith, l, z)) in
            let f = get_or (into k c) a 0 in
            let arrow = In-into_from k c f (In_at (into k c) a 0 inside) in
            let place : q * w + a ≡ x * (n * w) + (y * w + a) = ap (λ z. z * w + a) (sym e) ∙ spread x y n w a in
            let number : get_or r.restrictions (q * w + a) 0 ≡ restrictions_in store i f x * sizes_in store j (dom k f) + restrictions_in store j f y =
            ap (λ l. get_or l (q * w + a) 0) is.restrictions ∙ ap (λ z. get_or (flat_map (λ x. flat_map (row c x) (range_with_len 0 n)) (range_with_len 0 m)) z 0) place
            ∙ rows_at (λ x. flat_map (row c x) (range_with_len 0 n)) (n * w) m inner x (y * w + a) 0 xl (pair_below n w y a yl inside)
            ∙ rows_at (row c x) w n (λ y b. length-row c x y) y a 0 yl inside
            ∙ row_at c x y a inside in
            subst (λ z. Stands s functors (Two S T) (dom k f) z (restr s functors (Two S T) f (value_at s functors (Two S T) c q))) (sym number)
            (subst (λ z. Stands s functors (Two S T) (dom k f) (restrictions_in store i f x * sizes_in store j (dom k f) + restrictions_in store j f y) (restr s functors (Two S T) f (value_at s functors (Two S T) c z))) e
            (pair_stands c x y f arrow xl yl));
      }
    where
      spread : (x y n w a : ℕ) → (x * n + y) * w + a ≡ x * (n * w) + (y * w + a)
      spread x y n w a = omega arith

  pub product_cells : pair_cells k (sizes_in store i) (sizes_in store j) (restrictions_in store i) (restrictions_in store j) ≡ cells_of s functors (Two S T)
  unfolding pair_cells cells_of
  product_cells =
      ap sum (map_same (λ c. sizes_in store i c * sizes_in store j c * (1 + length (into k c))) (λ c. length (elements s functors (Two S T) c) * (1 + length (into k c) + width s functors (Two S T) c)) (range_with_len 0 k.objects) (λ c m.
      let r = In-range_from 0 k.objects c m in
      let z : 1 + length (into k c) ≡ 1 + length (into k c) + width s functors (Two S T) c = omega (arith, no_width s functors S T c) in
      ap (λ n. n * (1 + length (into k c))) (pairs_count c (omega (arith, r.1))) ∙ ap (λ n. length (elements s functors (Two S T) c) * n) z))

  -- a functor that the product names is named by a factor
  pub product_named : HoldsNamed store (Two S T)
  product_named n m =
      elim (subst (λ l. In l (Base n)) (parts-Two S T) m) [
        | inl e ↦ absurd (no_base S T n e)
        | inr q ↦ elim (In-append_cases (parts S) (parts T) (Base n) q) [
          | inl a ↦ h.parts_held S n (i, low, refl) a
          | inr a ↦ h.parts_held T n (j, low', refl) a
        ]
      ]

  pub factors : AreFactors k store i j
  factors = record {
    objects = h.objects;
    ends = h.ends;
    first = low;
    second = low';
    restrict_first = sealed_restricted s functors store i laws h low;
    restrict_second = sealed_restricted s functors store j laws h low';
  }
