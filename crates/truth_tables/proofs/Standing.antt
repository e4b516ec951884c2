-- Tables by their entries, and what they stand for.
use Rattle.std.proofs.Common.{◌≡◌, ℕ, ◌<◌, Bool, List, [], length, get_or, sym, ap, subst, ◌∙◌, arith}
use Rattle.std.proofs.lemmas.List.FromFn.{length-map-range_with_len, get_or-map-range_with_len}
use Rattle.topos_model.specs.declared.ty.Ty.{Ty}
use Rattle.topos_model.specs.declared.value.Val.{Val}
use Rattle.topos_model.specs.formulas.Forcing.{World, Assigned, Property, tuples}
use Rattle.functor_store.specs.Faithful.{Stands}
use Rattle.truth_tables.specs.Tables.{row, table, IsOver, IsEntry}
use Rattle.truth_tables.specs.Standing.{counts, tuple_at, IsNumberTable, IsTruthTable}

module _ {A : Type 0} (sizes : List ℕ) (f : ℕ → ℕ → A) where
  row_at : (c : ℕ) → c < length sizes → get_or (table sizes f) c [] ≡ row (get_or sizes c 0) (f c)
  unfolding table
  row_at c low = get_or-map-range_with_len (λ c. row (get_or sizes c 0) (f c)) 0 (length sizes) c c [] low (omega arith)

  pub table_over : IsOver sizes (table sizes f)
  unfolding table
  table_over = record {
    objects = length-map-range_with_len (λ c. row (get_or sizes c 0) (f c)) 0 (length sizes);
    tuples = λ c low. ap length (row_at c low) ∙ length-map-range_with_len (f c) 0 (get_or sizes c 0);
  }

  pub entry_at : (c i : ℕ) (d : A) → c < length sizes → i < get_or sizes c 0 → get_or (get_or (table sizes f) c []) i d ≡ f c i
  entry_at c i d low inside = ap (λ l. get_or l i d) (row_at c low) ∙ get_or-map-range_with_len (f c) 0 (get_or sizes c 0) i i d inside (omega arith)

module _ (w : World) (Γ : List Ty) where
  pub counts_long : length (counts w Γ) ≡ w.site.category.objects
  unfolding counts
  counts_long = length-map-range_with_len (λ c. length (tuples w Γ c)) 0 w.site.category.objects

  pub counts_at : (c : ℕ) → c < w.site.category.objects → get_or (counts w Γ) c 0 ≡ length (tuples w Γ c)
  unfolding counts
  counts_at c low = get_or-map-range_with_len (λ c. length (tuples w Γ c)) 0 w.site.category.objects c c 0 low (omega arith)

  -- there is an entry for each tuple
  pub has_entry : {A : Type 0} (t : List (List A)) (c i : ℕ) → IsOver (counts w Γ) t → c < w.site.category.objects → i < length (tuples w Γ c) → IsEntry t c i
  has_entry t c i o low inside = let l = counts_long in (omega (arith, low, l, o.objects), let n = o.tuples c (omega (arith, low, l)) in omega (arith, inside, n, counts_at c low))

  -- the sizes and a tuple in range
  module _ (sizes : List ℕ) (counted : sizes ≡ counts w Γ) where
    pub object_in : (c : ℕ) → c < length sizes → c < w.site.category.objects
    object_in c low = omega (arith, low, ap length counted, counts_long)

    pub tuple_in : (c i : ℕ) → c < length sizes → i < get_or sizes c 0 → i < length (tuples w Γ c)
    tuple_in c i low inside = omega (arith, inside, ap (λ l. get_or l c 0) counted, counts_at c (object_in c low))

    in_sizes : (c : ℕ) → c < w.site.category.objects → c < length sizes
    in_sizes c low = omega (arith, low, ap length counted, counts_long)

    in_size : (c i : ℕ) → c < w.site.category.objects → i < length (tuples w Γ c) → i < get_or sizes c 0
    in_size c i low inside = omega (arith, inside, ap (λ l. get_or l c 0) counted, counts_at c low)

    pub number_table : (U : Ty) (v : ℕ → Assigned → Val) (f : ℕ → ℕ → ℕ) (t : List (List ℕ)) → t ≡ table sizes f →
        ((c i : ℕ) → c < w.site.category.objects → i < length (tuples w Γ c) → Stands w.site w.functors U c (f c i) (v c (tuple_at w Γ c i))) → IsNumberTable w Γ U v t
    number_table U v f t e h =
        subst (IsNumberTable w Γ U v) (sym e)
        (record {
          over = subst (λ l. IsOver l (table sizes f)) counted (table_over sizes f);
          stands = λ c i low inside. subst (λ n. Stands w.site w.functors U c n (v c (tuple_at w Γ c i))) (sym (entry_at sizes f c i 0 (in_sizes c low) (in_size c i low inside))) (h c i low inside);
        })

    pub truth_table : (φ : Property) (f : ℕ → ℕ → Bool) (t : List (List Bool)) → t ≡ table sizes f →
        ((c i : ℕ) → c < w.site.category.objects → i < length (tuples w Γ c) → f c i ≡ φ c (tuple_at w Γ c i)) → IsTruthTable w Γ φ t
    truth_table φ f t e h =
        subst (IsTruthTable w Γ φ) (sym e)
        (record {
          over = subst (λ l. IsOver l (table sizes f)) counted (table_over sizes f);
          truths = λ c i low inside. entry_at sizes f c i _ (in_sizes c low) (in_size c i low inside) ∙ h c i low inside;
        })
