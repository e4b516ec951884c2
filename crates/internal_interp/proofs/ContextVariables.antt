-- A variable of a context by its place.
use Rattle.std.proofs.Common.{◌≡◌, ℕ, ◌+◌, ◌*◌, ◌/◌, ◌%◌, ◌<◌, ◌^◌, List, [], ◌∷◌, length, get_or, drop, sym, ap, subst, ◌∙◌, arith}
use Rattle.std.proofs.lemmas.List.{drop_more}
use Rattle.topos_model.specs.declared.ty.Ty.{Ty, One}
use Rattle.topos_model.specs.declared.term.Term.{Var}
use Rattle.topos_model.specs.formulas.Forcing.{World, value, meaning}
use Rattle.truth_tables.specs.Tables.{table, number, HasWidths}
use Rattle.truth_tables.specs.Standing.{counts, IsNumberTable}
use Rattle.truth_tables.proofs.Standing.{counts_long}
use Rattle.internal_interp.specs.declared.context.Context.{Context}
use Rattle.internal_interp.specs.Contexts.{widths_of, HasSizes}
use Rattle.internal_interp.proofs.TupleVariables.{variable_at, has_widths, last_stands, outer_long, outer_rows, outer_stands}

module _ (w : World) (Γ : List Ty) (context : Context) (h : HasSizes w Γ context) where
  rows_long : (j : ℕ) → j < length Γ → length (get_or context.sizes j []) ≡ w.site.category.objects
  rows_long j low = ap length (h.sizes j (omega (arith, low))) ∙ counts_long w (drop j Γ)

  -- what is read at a place
  module _ (j : ℕ) (low : j < length Γ) (sizes widths : List ℕ) (e : sizes ≡ get_or context.sizes j []) (e' : widths ≡ get_or context.widths j []) where
    abbrev T : Ty
    T = get_or Γ j One

    split : drop j Γ ≡ get_or Γ j One ∷ drop (j + 1) Γ
    split = drop_more Γ j One low

    counted : sizes ≡ counts w (get_or Γ j One ∷ drop (j + 1) Γ)
    counted = e ∙ h.sizes j (omega (arith, low)) ∙ ap (counts w) split

    are : widths ≡ widths_of w (get_or Γ j One)
    are = e' ∙ h.widths j low

    pub few_objects : length (get_or context.sizes 0 []) < 2 ^ 32 → length sizes < 2 ^ 32
    few_objects few = omega (arith, few, ap length e, rows_long j low, rows_long 0 (omega (arith, low)))

    pub widths_at : HasWidths sizes widths
    widths_at = has_widths w (drop (j + 1) Γ) T sizes widths counted are

    pub last_at : (out : List (List ℕ)) → out ≡ table sizes (λ c i. i % get_or widths c 0) → IsNumberTable w (drop j Γ) (get_or Γ j One) (variable_at w 0) out
    last_at out is = subst (λ Δ. IsNumberTable w Δ T (variable_at w 0) out) (sym split) (last_stands w (drop (j + 1) Γ) T sizes widths counted are out is)

    module _ (U : Ty) (k i : ℕ) (next : i ≡ j + 1) (numbers : List (List ℕ)) (stands : IsNumberTable w (drop i Γ) U (variable_at w k) numbers) where
      stands_next : IsNumberTable w (drop (j + 1) Γ) U (variable_at w k) numbers
      stands_next = subst (λ m. IsNumberTable w (drop m Γ) U (variable_at w k) numbers) next stands

      pub long_at : length numbers ≡ length sizes
      long_at = outer_long w (drop (j + 1) Γ) T sizes widths counted are U k numbers stands_next

      pub rows_at : (c : ℕ) → c < length sizes → get_or sizes c 0 ≡ length (get_or numbers c []) * get_or widths c 0
      rows_at = outer_rows w (drop (j + 1) Γ) T sizes widths counted are U k numbers stands_next

      pub outer_at : (out : List (List ℕ)) → out ≡ table sizes (λ c i. number numbers c (i / get_or widths c 0)) → IsNumberTable w (drop j Γ) U (variable_at w (k + 1)) out
      outer_at out is = subst (λ Δ. IsNumberTable w Δ U (variable_at w (k + 1)) out) (sym split) (outer_stands w (drop (j + 1) Γ) T sizes widths counted are U k numbers stands_next out is)

pub variable_is : (w : World) (Γ : List Ty) (U : Ty) (k : ℕ) (numbers : List (List ℕ)) → IsNumberTable w Γ U (variable_at w k) numbers → IsNumberTable w Γ U (value w (Var k)) numbers
unfolding variable_at meaning
variable_is w Γ U k numbers h = h
