-- The values of a tuple's variables, by its number.
use Rattle.std.proofs.Common.{◌≡◌, ℕ, zero, suc, ◌+◌, ◌*◌, ◌/◌, ◌%◌, ◌<◌, List, [], ◌∷◌, length, get_or, map, flat_map, add-one, sym, ap, subst, ◌∙◌, arith}
use Rattle.std.proofs.Math.Nat.{div-lt_iff_lt-mul, mul_comm}
use Rattle.std.proofs.lemmas.List.{length-map, get_or-map}
use Rattle.std.proofs.lemmas.List.FromFn.{length-map-range_with_len, get_or-map-range_with_len}
use Rattle.finite_lists.specs.Members.{In}
use Rattle.topos_model.specs.declared.ty.Ty.{Ty, One}
use Rattle.topos_model.specs.declared.value.Val.{Val, Star}
use Rattle.topos_model.specs.formulas.Forcing.{World, Assigned, values, tuples}
use Rattle.functor_store.specs.Faithful.{Stands}
use Rattle.type_rows.proofs.FlatRows.{length-joined, joined_at}
use Rattle.truth_tables.specs.Tables.{table, number, HasWidths}
use Rattle.truth_tables.specs.Standing.{counts, tuple_at, IsNumberTable}
use Rattle.truth_tables.proofs.Standing.{number_table, counts_long, counts_at}
use Rattle.internal_interp.specs.Contexts.{widths_of}

module _ (w : World) where
  -- the value of a variable
  unfoldable pub variable_at : ℕ → ℕ → Assigned → Val
  variable_at k c a = (get_or a k (One, Star)).1

  module _ (Γ : List Ty) (T : Ty) where
    abbrev more : ℕ → Assigned → List Assigned
    more c a = map (λ v. (T, v) ∷ a) (values w T c)

    more_long : (c : ℕ) (a : Assigned) → In (tuples w Γ c) a → length (map (λ v. (T, v) ∷ a) (values w T c)) ≡ length (values w T c)
    more_long c a i = length-map (values w T c) (λ v. (T, v) ∷ a)

    pub tuple_count : (c : ℕ) → length (tuples w (T ∷ Γ) c) ≡ length (tuples w Γ c) * length (values w T c)
    unfolding tuples
    tuple_count c = length-joined (more c) (length (values w T c)) (tuples w Γ c) (more_long c)

    -- the number of a tuple is that of its outer part times the width, and that of its last value
    pub record IsSplit (c i : ℕ) : Type 0 where
      pub some : 0 < length (values w T c)
      pub last : i % length (values w T c) < length (values w T c)
      pub outer : i / length (values w T c) < length (tuples w Γ c)
      pub is : tuple_at w (T ∷ Γ) c i ≡ (T, get_or (values w T c) (i % length (values w T c)) Star) ∷ tuple_at w Γ c (i / length (values w T c))

    positive : (l n i : ℕ) → i < l * n → 0 < n
    positive l zero i low = let z : l * 0 ≡ 0 = omega arith in absurd (omega (arith, low, z))
    positive l (suc n) i low = omega arith

    pub tuple_is : (c i : ℕ) → i < length (tuples w (T ∷ Γ) c) → IsSplit c i
    unfolding tuples
    tuple_is c i low =
        let n = length (values w T c) in
        let l = length (tuples w Γ c) in
        let within : i < l * n = omega (arith, low, tuple_count c) in
        let some : 0 < n = positive l n i within in
        let last : i % n < n = omega (arith, some) in
        let outer : i / n < l = (div-lt_iff_lt-mul some).1 within in
        let split : i ≡ i / n * n + i % n = let e : n * (i / n) + i % n ≡ i = omega (arith, some) in let t : n * (i / n) ≡ i / n * n = mul_comm n (i / n) in omega (arith, e, t) in
        record {
          some = some;
          last = last;
          outer = outer;
          is = ap (λ j. get_or (flat_map (more c) (tuples w Γ c)) j []) split ∙ joined_at (more c) n (tuples w Γ c) (i / n) (i % n) [] [] (more_long c) outer last
              ∙ get_or-map (λ v. (T, v) ∷ tuple_at w Γ c (i / n)) (values w T c) (i % n) Star [] last;
        }

    module _ (sizes widths : List ℕ) (counted : sizes ≡ counts w (T ∷ Γ)) (are : widths ≡ widths_of w T) where
      sizes_long : length sizes ≡ w.site.category.objects
      sizes_long = ap length counted ∙ counts_long w (T ∷ Γ)

      size_at : (c : ℕ) → c < w.site.category.objects → get_or sizes c 0 ≡ length (tuples w Γ c) * length (values w T c)
      size_at c low = ap (λ l. get_or l c 0) counted ∙ counts_at w (T ∷ Γ) c low ∙ tuple_count c

      width_at : (c : ℕ) → c < w.site.category.objects → get_or widths c 0 ≡ length (values w T c)
      unfolding widths_of
      width_at c low = ap (λ l. get_or l c 0) are ∙ get_or-map-range_with_len (λ c. length (values w T c)) 0 w.site.category.objects c c 0 low (omega arith)

      widths_long : length widths ≡ w.site.category.objects
      unfolding widths_of
      widths_long = ap length are ∙ length-map-range_with_len (λ c. length (values w T c)) 0 w.site.category.objects

      pub has_widths : HasWidths sizes widths
      has_widths = record {
        objects = widths_long ∙ sym sizes_long;
        some = λ c low inside.
            let l : c < w.site.category.objects = omega (arith, low, sizes_long) in
            let p : 0 < length (values w T c) = positive (length (tuples w Γ c)) (length (values w T c)) 0 (omega (arith, inside, size_at c l)) in
            omega (arith, p, width_at c l);
      }

      pub last_stands : (out : List (List ℕ)) → out ≡ table sizes (λ c i. i % get_or widths c 0) → IsNumberTable w (T ∷ Γ) T (variable_at 0) out
      unfolding variable_at
      last_stands out e =
          number_table w (T ∷ Γ) sizes counted T (variable_at 0) _ out e
          (λ c i low inside.
          let t = tuple_is c i inside in
          subst (λ n. Stands w.site w.functors T c (i % n) (variable_at 0 c (tuple_at w (T ∷ Γ) c i))) (sym (width_at c low))
          (record { within = t.last; is = sym (ap (variable_at 0 c) t.is) }))

      module _ (U : Ty) (k : ℕ) (numbers : List (List ℕ)) (stands : IsNumberTable w Γ U (variable_at k) numbers) where
        pub outer_long : length numbers ≡ length sizes
        outer_long = stands.over.objects ∙ counts_long w Γ ∙ sym sizes_long

        pub outer_rows : (c : ℕ) → c < length sizes → get_or sizes c 0 ≡ length (get_or numbers c []) * get_or widths c 0
        outer_rows c low =
            let l : c < w.site.category.objects = omega (arith, low, sizes_long) in
            let row : length (get_or numbers c []) ≡ length (tuples w Γ c) = stands.over.tuples c (omega (arith, l, counts_long w Γ)) ∙ counts_at w Γ c l in
            size_at c l ∙ sym (ap (λ n. n * get_or widths c 0) row ∙ ap (λ n. length (tuples w Γ c) * n) (width_at c l))

        pub outer_stands : (out : List (List ℕ)) → out ≡ table sizes (λ c i. number numbers c (i / get_or widths c 0)) → IsNumberTable w (T ∷ Γ) U (variable_at (k + 1)) out
        unfolding variable_at
        outer_stands out e =
            number_table w (T ∷ Γ) sizes counted U (variable_at (k + 1)) _ out e
            (λ c i low inside.
            let t = tuple_is c i inside in
            let v : variable_at (k + 1) c (tuple_at w (T ∷ Γ) c i) ≡ variable_at k c (tuple_at w Γ c (i / length (values w T c))) =
            ap (variable_at (k + 1) c) t.is ∙ ap (λ m. variable_at m c ((T, get_or (values w T c) (i % length (values w T c)) Star) ∷ tuple_at w Γ c (i / length (values w T c)))) (add-one k) in
            subst (λ n. Stands w.site w.functors U c (number numbers c (i / n)) (variable_at (k + 1) c (tuple_at w (T ∷ Γ) c i))) (sym (width_at c low))
            (subst (Stands w.site w.functors U c (number numbers c (i / length (values w T c)))) (sym v) (stands.stands c (i / length (values w T c)) low t.outer)))
