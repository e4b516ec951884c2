-- The restrictions of a pair from those of its parts, place by place.
use Rattle.std.proofs.Common.{◌≡◌, ℕ, ◌+◌, ◌*◌, ◌^◌, ◌<◌, List, [], ◌∷◌, ◌++◌, length, get_or, map, refl, sym, ap, ap₂, ◌∙◌, append_assoc, arith}
use Rattle.std.specs.List.{range_with_len}
use Rattle.std.proofs.lemmas.List.{length-map, get_or-map, get_or_default, ext_get_or}
use Rattle.std.proofs.lemmas.List.FromFn.{length-map-range_with_len, get_or-map-range_with_len, map-range_with_len_more}
use Rattle.finite_lists.proofs.Lists.{In_at}
use Rattle.topos_model.specs.categories.Category.{Category, into, dom}
use Rattle.topos_model.specs.Laws.{IsCategory, IsInto}
use Rattle.topos_model.proofs.ArrowsInto.{In-into_from}
use Rattle.functor_store.specs.Store.{Store, place, functor_at, restrictions_at, restriction_along}
use Rattle.functor_store.specs.Store as stored
use Rattle.functor_store.proofs.Costs.{arrows_into}
use Rattle.type_rows.proofs.ArrowPlaces.{arrow_place}
use Rattle.sealed_types.specs.Sealed.{sizes_in, restrictions_in}
use Rattle.product_objects.specs.PairRows.{pair_at, pair_number, pair_row, AreFactors, AreFewPairs}
use Rattle.product_objects.proofs.ProductElements.{pair_below}

-- how many arrows there are into an object
pub arrows_counted : (k : Category) (store : Store) → store.ends ≡ k.ends → (c : ℕ) → stored.into store.ends c ≡ length (into k c)
arrows_counted k store same c = ap (λ e. stored.into e c) same ∙ arrows_into k c

-- the first places with the next one
pub next_place : (widths first second : List ℕ) (j d d' d'' : ℕ) (before out : List ℕ) → j < length widths → length first ≡ length widths → length second ≡ length widths
    → out ≡ before ++ map (pair_at widths first second) (range_with_len 0 j) → (out ++ (get_or first j d * get_or widths j d' + get_or second j d'') ∷ []) ≡ before ++ map (pair_at widths first second) (range_with_len 0 (j + 1))
next_place widths first second j d d' d'' before out low one two so_far =
    let a = get_or_default first j d 0 (omega (arith, low, one)) in
    let b = get_or_default widths j d' 0 low in
    let e = get_or_default second j d'' 0 (omega (arith, low, two)) in
    let number : get_or first j d * get_or widths j d' + get_or second j d'' ≡ pair_at widths first second j = rw (a, b, e) refl in
    ap₂ (λ (l : List ℕ) n. l ++ n ∷ []) so_far number ∙ append_assoc before (map (pair_at widths first second) (range_with_len 0 j)) (pair_at widths first second j ∷ [])
    ∙ ap (λ l. before ++ l) (sym (map-range_with_len_more (pair_at widths first second) 0 j j (omega arith)))

module _ (k : Category) (store : Store) (i j : ℕ) (h : AreFactors k store i j) (c x y : ℕ) (widths left right : List ℕ) (widths_are : widths ≡ map (λ f. sizes_in store j (dom k f)) (into k c))
    (left_is : left ≡ restrictions_at (functor_at store.sealed i) c x) (right_is : right ≡ restrictions_at (functor_at store.sealed j) c y) where
  abbrev f_at : ℕ → ℕ
  f_at t = get_or (into k c) t 0

  into_at : (t : ℕ) → t < length (into k c) → IsInto k c (get_or (into k c) t 0)
  into_at t low = In-into_from k c (f_at t) (In_at (into k c) t 0 low)

  long : length widths ≡ length (into k c)
  long = ap length widths_are ∙ length-map (into k c) (λ f. sizes_in store j (dom k f))

  -- the restriction along the arrow at a place
  along_place : (id z t : ℕ) → t < length (into k c) → restrictions_in store id (get_or (into k c) t 0) z ≡ get_or (restrictions_at (functor_at store.sealed id) c z) t 0
  along_place id z t low =
      ap (λ e. restriction_along e (functor_at store.sealed id) (f_at t) z) h.ends ∙ ap (λ d. get_or (restrictions_at (functor_at store.sealed id) d z) (place k.ends (f_at t)) 0) (into_at t low).1
      ∙ ap (λ p. get_or (restrictions_at (functor_at store.sealed id) c z) p 0) (arrow_place k c t low)

  width_at : (t : ℕ) → t < length (into k c) → get_or widths t 0 ≡ sizes_in store j (dom k (get_or (into k c) t 0))
  width_at t low = ap (λ l. get_or l t 0) widths_are ∙ get_or-map (λ f. sizes_in store j (dom k f)) (into k c) t 0 0 low

  number_at : (t : ℕ) → t < length (into k c)
      → pair_at widths left right t ≡ restrictions_in store i (get_or (into k c) t 0) x * sizes_in store j (dom k (get_or (into k c) t 0)) + restrictions_in store j (get_or (into k c) t 0) y
  number_at t low =
      let f = f_at t in
      ap (λ w. get_or left t 0 * w + get_or right t 0) (width_at t low)
      ∙ ap (λ a. a * sizes_in store j (dom k f) + get_or right t 0) (ap (λ l. get_or l t 0) left_is ∙ sym (along_place i x t low))
      ∙ ap (λ b. restrictions_in store i f x * sizes_in store j (dom k f) + b) (ap (λ l. get_or l t 0) right_is ∙ sym (along_place j y t low))

  pub pair_row_is : map (pair_at widths left right) (range_with_len 0 (length widths)) ≡ pair_row k (sizes_in store i) (sizes_in store j) (restrictions_in store i) (restrictions_in store j) c x y
  unfolding pair_row
  pair_row_is =
      let along : ℕ → ℕ = λ f. pair_number k (sizes_in store i) (sizes_in store j) (restrictions_in store i) (restrictions_in store j) (dom k f) (restrictions_in store i f x) (restrictions_in store j f y) in
      let count = length-map-range_with_len (pair_at widths left right) 0 (length widths) in
      ext_get_or 0 (map (pair_at widths left right) (range_with_len 0 (length widths))) (map along (into k c)) (count ∙ long ∙ sym (length-map (into k c) along))
      (λ t low.
      let there : t < length (into k c) = omega (arith, low, count, long) in
      get_or-map-range_with_len (pair_at widths left right) 0 (length widths) t t 0 (omega (arith, low, count)) (omega arith) ∙ number_at t there ∙ sym (get_or-map along (into k c) t 0 0 there))

  -- these have numbers
  pub few_numbers : IsCategory k → AreFewPairs k store i j → x < sizes_in store i c → y < sizes_in store j c → (t : ℕ) → t < length widths → pair_at widths left right t < 2 ^ 32
  few_numbers laws few first second t low =
      let there : t < length (into k c) = omega (arith, low, long) in
      let f = f_at t in
      let d = dom k f in
      let a = into_at t there in
      let below = pair_below (sizes_in store i d) (sizes_in store j d) (restrictions_in store i f x) (restrictions_in store j f y) (h.restrict_first.within c f x a first) (h.restrict_second.within c f y a second) in
      let all = few d (laws.ends f a.0).0 in
      omega (arith, number_at t there, below, all)
