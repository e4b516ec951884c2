-- The cells of a functor that has the elements of a type are those of the type.
use Rattle.std.proofs.Common.{◌≡◌, ℕ, suc, ◌+◌, ◌*◌, ◌<◌, Bool, cond, eqb, List, [], ◌∷◌, ◌++◌, length, get_or, map, sum, refl, sym, ap, ◌∙◌, arith}
use Rattle.std.specs.List.{sum_by, count_by, range_with_len}
use Rattle.std.proofs.Math.Seq.{get_or-append_seam}
use Rattle.std.proofs.lemmas.List.{length-map, append_assoc, length_push}
use Rattle.std.proofs.lemmas.List.Sums.{sum_by-cons, length-filter}
use Rattle.topos_model.specs.declared.ty.Ty.{Ty, Base, One, Omega, Two', Pow', Fun', more_of-Ty as only, end_of-Ty as end}
use Rattle.topos_model.specs.declared.value.Val.{Val}
use Rattle.topos_model.specs.categories.Category.{Category, cod}
use Rattle.topos_model.specs.categories.Category as categories
use Rattle.topos_model.specs.topologies.Cover.{Site}
use Rattle.topos_model.specs.types.Types.{Presheaf, elements, places}
use Rattle.topos_model.specs.statements.Cells.{cells_of, width}
use Rattle.functor_store.specs.Store.{Functor, into, cost, cost_from, element_at}
use Rattle.functor_store.specs.Faithful.{IsRow, HasElements}

-- arrows, counted by their numbers
counted : (p : ℕ × ℕ → Bool) (front xs : List (ℕ × ℕ)) → count_by (λ f. p (get_or (front ++ xs) f (0, 0))) (range_with_len (length front) (length xs)) ≡ count_by p xs
counted p front [] = refl
counted p front (x ∷ xs) =
    let here : get_or (front ++ x ∷ xs) (length front) (0, 0) ≡ x = get_or-append_seam front x xs (0, 0) in
    let moved : (front ++ x ∷ []) ++ xs ≡ front ++ x ∷ xs = append_assoc front (x ∷ []) xs in
    let longer : length (front ++ x ∷ []) ≡ length front + 1 = length_push front x in
    let test : List (ℕ × ℕ) → ℕ → ℕ = λ ys f. cond (p (get_or ys f (0, 0))) 1 0 in
    let rest : sum_by (test (front ++ x ∷ xs)) (range_with_len (length front + 1) (length xs)) ≡ count_by p xs =
    ap (λ ys. sum_by (test ys) (range_with_len (length front + 1) (length xs))) (sym moved)
    ∙ ap (λ n. sum_by (test ((front ++ x ∷ []) ++ xs)) (range_with_len n (length xs))) (sym longer)
    ∙ counted p (front ++ x ∷ []) xs in
    sum_by-cons (test (front ++ x ∷ xs)) (length front) (range_with_len (length front + 1) (length xs))
    ∙ ap (λ y. cond (p y) 1 0 + sum_by (test (front ++ x ∷ xs)) (range_with_len (length front + 1) (length xs))) here
    ∙ ap (λ n. cond (p x) 1 0 + n) rest
    ∙ sym (sum_by-cons (λ y. cond (p y) 1 0) x xs)

pub arrows_into : (k : Category) (c : ℕ) → into k.ends c ≡ length (categories.into k c)
unfolding into categories.into
arrows_into k c =
    sym (length-filter (λ f. eqb (cod k f) c) (range_with_len 0 (length k.ends)) ∙ counted (λ e. eqb (e.1) c) [] k.ends)

-- rows of one length
rows_cost : (n w : ℕ) (g : List (List ℕ)) → ((i : ℕ) → i < length g → length (get_or g i []) ≡ w) → sum_by (λ row. 1 + n + length row) g ≡ length g * (1 + n + w)
rows_cost n w [] all = omega arith
rows_cost n w (row ∷ g) all =
    let here : length row ≡ w = all 0 (omega arith) in
    let rest = rows_cost n w g (λ i l. all (suc i) (omega (arith, l))) in
    let more : suc (length g) * (1 + n + w) ≡ length g * (1 + n + w) + (1 + n + w) = suc_times (length g) (1 + n + w) in
    sum_by-cons (λ r. 1 + n + length r) row g ∙ omega (arith, here, rest, more)
  where
    suc_times : (m t : ℕ) → suc m * t ≡ m * t + t
    suc_times m t = omega arith

module _ (s : Site) (functors : List Presheaf) where
  -- a row has an entry for each place of its type
  pub row_width : (T : Ty) (c : ℕ) (v : Val) (row : List ℕ) → IsRow s functors T c v row → length row ≡ width s functors T c
  unfolding width
  row_width (Base n) c v row h = ap length h
  row_width One c v row h = ap length h
  row_width Omega c v row h = ap length h
  row_width (Two' _ (only S end) _ (only T end)) c v row h = ap length h
  row_width (Pow' _ (only T end)) c v row h = ap length h ∙ length-map (places s (elements s functors T) c) _
  row_width (Fun' _ (only S end) _ (only T end)) c v row h = h.each_place

  from_object : (T : Ty) (i : ℕ) (gs : List (List (List ℕ))) → ((c : ℕ) → c < length gs → length (get_or gs c []) ≡ length (elements s functors T (i + c)))
      → ((c k : ℕ) → c < length gs → k < length (get_or gs c []) → length (get_or (get_or gs c []) k []) ≡ width s functors T (i + c))
      → cost_from s.category.ends i gs ≡ sum (map (λ c. length (elements s functors T c) * (1 + length (categories.into s.category c) + width s functors T c)) (range_with_len i (length gs)))
  unfolding cost_from
  from_object T i [] sizes widths = refl
  from_object T i (g ∷ gs) sizes widths =
      let z : i + 0 ≡ i = omega arith in
      let cell : ℕ → ℕ = λ c. length (elements s functors T c) * (1 + length (categories.into s.category c) + width s functors T c) in
      let size : length g ≡ length (elements s functors T i) = sizes 0 (omega arith) ∙ ap (λ c. length (elements s functors T c)) z in
      let next : (c : ℕ) → i + suc c ≡ i + 1 + c = λ c. omega arith in
      let here : sum_by (λ row. 1 + into s.category.ends i + length row) g ≡ cell i =
      rows_cost (into s.category.ends i) (width s functors T i) g (λ k l. widths 0 k (omega arith) l ∙ ap (width s functors T) z)
      ∙ ap (λ n. length g * (1 + n + width s functors T i)) (arrows_into s.category i)
      ∙ ap (λ n. n * (1 + length (categories.into s.category i) + width s functors T i)) size in
      let rest : cost_from s.category.ends (i + 1) gs ≡ sum (map cell (range_with_len (i + 1) (length gs))) =
      from_object T (i + 1) gs (λ c l. sizes (suc c) (omega (arith, l)) ∙ ap (λ x. length (elements s functors T x)) (next c)) (λ c k l m. widths (suc c) k (omega (arith, l)) m ∙ ap (width s functors T) (next c)) in
      let up : suc i ≡ i + 1 = omega arith in
      ap (λ n. n + cost_from s.category.ends (suc i) gs) here
      ∙ ap (λ n. cell i + cost_from s.category.ends n gs) up
      ∙ ap (λ n. cell i + n) rest
      ∙ sym (sum_by-cons (λ x. x) (cell i) (map cell (range_with_len (i + 1) (length gs))))

  -- what the store counts for a type that it holds is what the type costs
  pub cost_is : (T : Ty) (F : Functor) → HasElements s functors T F → cost s.category.ends F ≡ cells_of s functors T
  unfolding cost cells_of
  cost_is T F h =
      let z : (c : ℕ) → c ≡ 0 + c = λ c. omega arith in
      from_object T 0 F.rows (λ c l. h.sizes c (omega (arith, l, h.objects)) ∙ ap (λ x. length (elements s functors T x)) (z c))
      (λ c k l m. row_width T c _ (element_at F c k) (h.rows c k (omega (arith, l, h.objects)) m) ∙ ap (width s functors T) (z c))
      ∙ ap (λ n. sum (map (λ c. length (elements s functors T c) * (1 + length (categories.into s.category c) + width s functors T c)) (range_with_len 0 n))) h.objects
