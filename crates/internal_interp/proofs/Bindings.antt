-- A context with one variable more.
use Rattle.std.proofs.Common.{◌≡◌, ℕ, zero, suc, ◌<◌, ◌≤◌, List, [], ◌∷◌, length, get_or, drop, refl, sym, ap, ◌∙◌, arith}
use Rattle.std.specs.List.{range_with_len}
use Rattle.std.proofs.lemmas.List.{length-map}
use Rattle.finite_lists.proofs.Lists.{map_same}
use Rattle.topos_model.specs.declared.ty.Ty.{Ty, One}
use Rattle.topos_model.specs.declared.context.MapTy.{MapTy}
use Rattle.topos_model.specs.statements.Needs.{product}
use Rattle.topos_model.specs.formulas.Forcing.{World, values, tuples}
use Rattle.forcing_laws.specs.Tuples.{paired, PairsTuples}
use Rattle.forcing_laws.proofs.TupleLists.{tuples_are_product}
use Rattle.truth_tables.specs.Standing.{counts}
use Rattle.term_tables.specs.Parts.{IsSealed}
use Rattle.internal_interp.specs.declared.context.Context.{Context}
use Rattle.internal_interp.specs.declared.interpreter.Interpreter.{Interpreter}
use Rattle.internal_interp.specs.Contexts.{widths_of, HasSizes}
use Rattle.internal_interp.specs.Known.{IsScope, IsBinding}

-- the tuples of a context are as many as the elements of its product
pub tuples_of_product : (w : World) (Γ : List Ty) → widths_of w (product Γ) ≡ counts w Γ
unfolding widths_of counts
tuples_of_product w Γ =
    let pairs : PairsTuples w Γ = tuples_are_product w Γ in
    map_same (λ c. length (values w (product Γ) c)) (λ c. length (tuples w Γ c)) (range_with_len 0 w.site.category.objects)
    (λ c m. ap length (sym (pairs.elements c)) ∙ length-map (tuples w Γ c) paired)

module _ (w : World) (maps : List MapTy) (i : Interpreter) (Γ : List Ty) (context : Context) (T : Ty) (h : IsBinding w maps i Γ context T) where
  sizes_bound : (inner : Context) → inner.types ≡ T ∷ context.types → inner.sizes ≡ counts w (T ∷ Γ) ∷ context.sizes → inner.widths ≡ widths_of w T ∷ context.widths → HasSizes w (T ∷ Γ) inner
  sizes_bound inner t s v = record {
    types = t ∙ ap (λ l. T ∷ l) h.scope.sizes.types;
    sizes_long = ap length s ∙ omega (arith, h.scope.sizes.sizes_long);
    widths_long = ap length v ∙ omega (arith, h.scope.sizes.widths_long);
    sizes = λ j low. ap (λ l. get_or l j []) s ∙ at_sizes j low;
    widths = λ j low. ap (λ l. get_or l j []) v ∙ at_widths j low;
  }
    where
      at_sizes : (j : ℕ) → j ≤ length (T ∷ Γ) → get_or (counts w (T ∷ Γ) ∷ context.sizes) j [] ≡ counts w (drop j (T ∷ Γ))
      at_sizes zero low = refl
      at_sizes (suc j) low = h.scope.sizes.sizes j (omega (arith, low))

      at_widths : (j : ℕ) → j < length (T ∷ Γ) → get_or (widths_of w T ∷ context.widths) j [] ≡ widths_of w (get_or (T ∷ Γ) j One)
      at_widths zero low = refl
      at_widths (suc j) low = h.scope.sizes.widths j (omega (arith, low))

  pub scope_bound : (inner : Context) → inner.types ≡ T ∷ context.types → inner.product ≡ product (T ∷ context.types) → IsSealed i.store.now inner.product inner.place → (tuples values : List ℕ) →
      tuples ≡ widths_of w inner.product → values ≡ widths_of w T → inner.sizes ≡ tuples ∷ context.sizes → inner.widths ≡ values ∷ context.widths → IsScope w maps i (T ∷ Γ) inner
  scope_bound inner t p sealed tuples values many wide s v =
      let whole : inner.product ≡ product (T ∷ Γ) = p ∙ ap (λ l. product (T ∷ l)) h.scope.sizes.types in
      let counted : tuples ≡ counts w (T ∷ Γ) = many ∙ ap (widths_of w) whole ∙ tuples_of_product w (T ∷ Γ) in
      let sized : inner.sizes ≡ counts w (T ∷ Γ) ∷ context.sizes = s ∙ ap (λ l. l ∷ context.sizes) counted in
      record {
        known = record {
          lawful = (maps, h.knows.lawful);
          stands = h.knows.stages;
          faithful = h.knows.faithful;
          sealed = sealed.low;
          key = sealed.key ∙ whole;
          counted = ap (λ l. get_or l 0 []) sized;
        };
        sizes = sizes_bound inner t sized (v ∙ ap (λ l. l ∷ context.widths) wide);
        product_is = whole;
      }
