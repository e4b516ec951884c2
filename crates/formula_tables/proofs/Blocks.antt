-- The truth values at the tuples with one element more stand in blocks.
use Rattle.std.proofs.Common.{◌≡◌, ℕ, zero, suc, ◌+◌, ◌*◌, ◌<◌, Bool, true, false, ◌&&◌, ◌||◌, cond, eqb, List, [], ◌∷◌, ◌++◌, length, get_or, take, drop, map, filter, flat_map, refl, sym, ap, ◌∙◌, arith}
use Rattle.std.specs.List.{list_any, list_all, count_by}
use Rattle.std.proofs.lemmas.List.{length-map, length-append, ext_get_or, get_or-map}
use Rattle.std.proofs.lemmas.List.FromFn.{length-map-range_with_len, get_or-map-range_with_len}
use Rattle.std.proofs.lemmas.List.Sums.{length-filter}
use Rattle.std.specs.List.{take-map, drop-map}
use Rattle.std.proofs.Math.Seq.{take-append_seam, drop-append-add}
use Rattle.std.proofs.lemmas.Simd.{map-map}
use Rattle.topos_model.specs.declared.ty.Ty.{Ty}
use Rattle.topos_model.specs.formulas.Forcing.{World, Assigned, Property, values, tuples}
use Rattle.truth_tables.specs.declared.quantifiers.Quantifier.{Quantifier}
use Rattle.truth_tables.specs.declared.quantifiers.Quantifier.TheVariants.{Some, Every, One}
use Rattle.truth_tables.specs.Tables.{table, block, decided}
use Rattle.truth_tables.specs.Standing.{tuple_at, IsTruthTable}
use Rattle.truth_tables.proofs.Standing.{truth_table, counts_long, counts_at}
use Rattle.formula_tables.specs.Formulas.{quantified_at, IsBody}
use Rattle.site_stages.specs.declared.stages.Stages.{Stages}
use Rattle.functor_store.specs.Store.{Store}

module _ {A B : Type 0} (f : A → List B) (w : ℕ) (each : (x : A) → length (f x) ≡ w) where
  pub length-blocks : (xs : List A) → length (flat_map f xs) ≡ length xs * w
  length-blocks [] = omega arith
  length-blocks (x ∷ xs) =
      let more : suc (length xs) * w ≡ w + length xs * w = omega arith in
      length-append (f x) (flat_map f xs) ∙ omega (arith, more, each x, length-blocks xs)

  pub block_at : (xs : List A) (i : ℕ) (d : A) → i < length xs → block w i (flat_map f xs) ≡ f (get_or xs i d)
  block_at [] i d low = absurd (omega (arith, low))
  block_at (x ∷ xs) zero d low =
      let z : zero * w ≡ 0 = omega arith in
      ap (λ n. take w (drop n (f x ++ flat_map f xs))) z ∙ ap (λ n. take n (f x ++ flat_map f xs)) (sym (each x)) ∙ take-append_seam (f x) (flat_map f xs)
  block_at (x ∷ xs) (suc i) d low =
      let s : suc i * w ≡ length (f x) + i * w = let more : suc i * w ≡ w + i * w = omega arith in omega (arith, more, each x) in
      ap (λ n. take w (drop n (f x ++ flat_map f xs))) s ∙ ap (take w) (drop-append-add (f x) (flat_map f xs) (i * w)) ∙ block_at xs i d (omega (arith, low))

any_map : {A : Type 0} (p : A → Bool) (xs : List A) → list_any (λ b. b) (map p xs) ≡ list_any p xs
any_map p [] = refl
any_map p (x ∷ xs) = ap (λ b. p x || b) (any_map p xs)

all_map : {A : Type 0} (p : A → Bool) (xs : List A) → list_all (λ b. b) (map p xs) ≡ list_all p xs
all_map p [] = refl
all_map p (x ∷ xs) = ap (λ b. p x && b) (all_map p xs)

kept_map : {A : Type 0} (p : A → Bool) (xs : List A) → length (filter (λ b. b) (map p xs)) ≡ length (filter p xs)
kept_map p [] = refl
kept_map p (x ∷ xs) = at (p x) (kept_map p xs)
  where
    at : (b : Bool) → length (filter (λ b. b) (map p xs)) ≡ length (filter p xs) →
        length (cond b (b ∷ filter (λ b. b) (map p xs)) (filter (λ b. b) (map p xs))) ≡ length (cond b (x ∷ filter p xs) (filter p xs))
    at true e = ap suc e
    at false e = e

count_map : {A : Type 0} (p : A → Bool) (xs : List A) → count_by (λ b. b) (map p xs) ≡ length (filter p xs)
count_map p xs = sym (length-filter (λ b. b) (map p xs)) ∙ kept_map p xs

module _ (w : World) where
  -- the block of a tuple is that of the values of the last variable
  decided_is : (q : Quantifier) (T : Ty) (φ : Property) (c : ℕ) (a : Assigned) → decided q (map (λ v. φ c ((T, v) ∷ a)) (values w T c)) ≡ quantified_at w q T φ c a
  unfolding decided quantified_at
  decided_is Some T φ c a = any_map (λ v. φ c ((T, v) ∷ a)) (values w T c)
  decided_is Every T φ c a = all_map (λ v. φ c ((T, v) ∷ a)) (values w T c)
  decided_is One T φ c a = ap (λ n. eqb n 1) (count_map (λ v. φ c ((T, v) ∷ a)) (values w T c))

  -- the row of an object
  pub row_is : (Γ : List Ty) (φ : Property) (truths : List (List Bool)) (c : ℕ) → IsTruthTable w Γ φ truths → c < w.site.category.objects → get_or truths c [] ≡ map (φ c) (tuples w Γ c)
  row_is Γ φ truths c stands low =
      let long : length (get_or truths c []) ≡ length (tuples w Γ c) = stands.over.tuples c (omega (arith, low, counts_long w Γ)) ∙ counts_at w Γ c low in
      ext_get_or false (get_or truths c []) (map (φ c) (tuples w Γ c)) (long ∙ sym (length-map (tuples w Γ c) (φ c)))
      (λ i inside. let there : i < length (tuples w Γ c) = omega (arith, inside, long) in
      stands.truths c i low there ∙ sym (get_or-map (φ c) (tuples w Γ c) i [] false there))

  module _ (Γ : List Ty) (T : Ty) (φ : Property) (stages : Stages) (store : Store) (id : ℕ) (sizes widths : List ℕ) (body : List (List Bool)) (h : IsBody w Γ T φ stages store id sizes widths body) where
    abbrev more : ℕ → Assigned → List Assigned
    more c a = map (λ v. (T, v) ∷ a) (values w T c)

    more_long : (c : ℕ) (a : Assigned) → length (more c a) ≡ length (values w T c)
    more_long c a = length-map (values w T c) (λ v. (T, v) ∷ a)

    width_at : (c : ℕ) → c < w.site.category.objects → get_or widths c 0 ≡ length (values w T c)
    width_at c low = ap (λ l. get_or l c 0) h.widths_are ∙ get_or-map-range_with_len (λ c. length (values w T c)) 0 w.site.category.objects c c 0 low (omega arith)

    sizes_long : length sizes ≡ w.site.category.objects
    sizes_long = ap length h.known.counted ∙ counts_long w Γ

    size_at : (c : ℕ) → c < w.site.category.objects → get_or sizes c 0 ≡ length (tuples w Γ c)
    size_at c low = ap (λ l. get_or l c 0) h.known.counted ∙ counts_at w Γ c low

    pub widths_long : length widths ≡ length sizes
    widths_long = ap length h.widths_are ∙ length-map-range_with_len (λ c. length (values w T c)) 0 w.site.category.objects ∙ sym sizes_long

    pub body_long : length body ≡ length sizes
    body_long = h.stands.over.objects ∙ counts_long w (T ∷ Γ) ∙ sym sizes_long

    pub body_rows : (c : ℕ) → c < length sizes → length (get_or body c []) ≡ get_or sizes c 0 * get_or widths c 0
    unfolding tuples
    body_rows c low =
        let l : c < w.site.category.objects = omega (arith, low, sizes_long) in
        ap length (row_is (T ∷ Γ) φ body c h.stands l) ∙ length-map (tuples w (T ∷ Γ) c) (φ c) ∙ length-blocks (more c) (length (values w T c)) (more_long c) (tuples w Γ c)
        ∙ sym (ap (λ n. n * get_or widths c 0) (size_at c l) ∙ ap (λ n. length (tuples w Γ c) * n) (width_at c l))

    block_is : (c i : ℕ) → c < w.site.category.objects → i < length (tuples w Γ c) →
        block (get_or widths c 0) i (get_or body c []) ≡ map (λ v. φ c ((T, v) ∷ tuple_at w Γ c i)) (values w T c)
    unfolding tuples
    block_is c i low inside =
        let n = length (values w T c) in
        ap (λ m. block m i (get_or body c [])) (width_at c low) ∙ ap (block n i) (row_is (T ∷ Γ) φ body c h.stands low)
        ∙ ap (take n) (drop-map (φ c) (i * n) (tuples w (T ∷ Γ) c)) ∙ take-map (φ c) n (drop (i * n) (tuples w (T ∷ Γ) c))
        ∙ ap (map (φ c)) (block_at (more c) n (more_long c) (tuples w Γ c) i [] inside)
        ∙ map-map (φ c) (λ v. (T, v) ∷ tuple_at w Γ c i) (values w T c)

    pub quantified_stands : (q : Quantifier) (out : List (List Bool)) → out ≡ table sizes (λ c i. decided q (block (get_or widths c 0) i (get_or body c []))) →
        IsTruthTable w Γ (quantified_at w q T φ) out
    quantified_stands q out is =
        truth_table w Γ sizes h.known.counted (quantified_at w q T φ) _ out is
        (λ c i low inside. ap (decided q) (block_is c i low inside) ∙ decided_is q T φ c (tuple_at w Γ c i))
