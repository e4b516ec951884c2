-- Contexts, and how many tuples they have.
use Rattle.std.specs.Prelude.{◌≡◌, ℕ, ◌+◌, ◌<◌, ◌≤◌, List, [], map, length, get_or, drop}
use Rattle.std.specs.List.{range_with_len}
use Rattle.topos_model.specs.declared.ty.Ty.{Ty, One}
use Rattle.topos_model.specs.formulas.Forcing.{World, values}
use Rattle.truth_tables.specs.Standing.{counts}
use Rattle.internal_interp.specs.declared.context.Context.{Context}

-- how many elements a type has at each object
unfoldable pub widths_of : World → Ty → List ℕ
widths_of w T = map (λ c. length (values w T c)) (range_with_len 0 w.site.category.objects)

-- the types, the numbers of tuples of the context and of those around it, and of the values of each variable
pub record HasSizes (w : World) (Γ : List Ty) (context : Context) : Type 0 where
  pub types : context.types ≡ Γ
  pub sizes_long : length context.sizes ≡ length Γ + 1
  pub widths_long : length context.widths ≡ length Γ
  pub sizes : (j : ℕ) → j ≤ length Γ → get_or context.sizes j [] ≡ counts w (drop j Γ)
  pub widths : (j : ℕ) → j < length Γ → get_or context.widths j [] ≡ widths_of w (get_or Γ j One)
