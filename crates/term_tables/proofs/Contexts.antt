-- The sizes of a table over a context.
use Rattle.std.proofs.Common.{◌≡◌, ℕ, ◌<◌, List, length, get_or, sym, ap, subst, ◌∙◌, arith}
use Rattle.std.proofs.lemmas.List.FromFn.{length-map-range_with_len, get_or-map-range_with_len}
use Rattle.topos_model.specs.declared.ty.Ty.{Ty}
use Rattle.topos_model.specs.formulas.Forcing.{World, values}
use Rattle.truth_tables.specs.Tables.{IsOver}
use Rattle.truth_tables.specs.Standing.{counts}
use Rattle.truth_tables.proofs.Standing.{counts_long}
use Rattle.term_tables.specs.Parts.{AreWidths}

module _ (w : World) (Γ : List Ty) (sizes : List ℕ) (counted : sizes ≡ counts w Γ) where
  pub over_sizes : {A : Type 0} (t : List (List A)) → IsOver (counts w Γ) t → IsOver sizes t
  over_sizes t o = subst (λ l. IsOver l t) (sym counted) o

  pub sizes_long : length sizes ≡ w.site.category.objects
  sizes_long = omega (arith, ap length counted, counts_long w Γ)

module _ (w : World) (T : Ty) (widths : List ℕ) (are : AreWidths w T widths) where
  pub widths_long : length widths ≡ w.site.category.objects
  widths_long = ap length are ∙ length-map-range_with_len (λ c. length (values w T c)) 0 w.site.category.objects

  pub width_at : (c : ℕ) → c < w.site.category.objects → get_or widths c 0 ≡ length (values w T c)
  width_at c low = ap (λ l. get_or l c 0) are ∙ get_or-map-range_with_len (λ c. length (values w T c)) 0 w.site.category.objects c c 0 low (omega arith)
