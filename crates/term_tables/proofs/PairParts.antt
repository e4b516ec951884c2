-- Tables of pairs and of their parts.
use Rattle.std.proofs.Common.{◌≡◌, ℕ, ◌+◌, ◌*◌, ◌/◌, ◌%◌, ◌^◌, ◌<◌, List, length, get_or, sym, ap, subst, ◌∙◌, arith}
use Rattle.topos_model.specs.declared.ty.Ty.{Ty, One as OneType, Two}
use Rattle.topos_model.specs.declared.term.Term.{Term, Star, Pair, Fst, Snd}
use Rattle.topos_model.specs.declared.value.Val.{Star as StarValue}
use Rattle.topos_model.specs.formulas.Forcing.{World, value, tuples}
use Rattle.topos_model.proofs.TypeEquations.{elements-One}
use Rattle.topos_model.proofs.MeaningEquations.{value-Star, value-Pair, value-Fst, value-Snd}
use Rattle.functor_store.specs.Store.{Store, cells}
use Rattle.functor_store.specs.Faithful.{Stands}
use Rattle.truth_tables.specs.Tables.{number, HasWidths}
use Rattle.truth_tables.specs.Standing.{tuple_at}
use Rattle.truth_tables.proofs.Standing.{object_in, tuple_in}
use Rattle.term_tables.specs.Parts.{ArePairParts, IsPairTable}
use Rattle.term_tables.proofs.Contexts.{sizes_long, widths_long, width_at}
use Rattle.term_tables.proofs.SealedSizes.{held_within}
use Rattle.term_tables.proofs.PairTables.{pair_stands, some, first_stands, second_stands}

-- the empty tuple
pub star_values : (w : World) (Γ : List Ty) (c i : ℕ) → Stands w.site w.functors OneType c 0 (value w Star c (tuple_at w Γ c i))
star_values w Γ c i =
    let e = elements-One w.site w.functors c in
    record { within = subst (λ l. 0 < length l) (sym e) (omega arith); is = ap (λ l. get_or l 0 StarValue) e ∙ sym (value-Star w c (tuple_at w Γ c i)) }

module _ (w : World) (Γ : List Ty) (S T : Ty) (t u : Term) (store : Store) (sizes widths : List ℕ) (left right : List (List ℕ)) (h : ArePairParts w Γ S T t u store sizes widths left right) where
  pub pair_values : (c i : ℕ) → c < w.site.category.objects → i < length (tuples w Γ c) →
      Stands w.site w.functors (Two S T) c (number left c i * get_or widths c 0 + number right c i) (value w (Pair t u) c (tuple_at w Γ c i))
  pair_values c i low inside =
      subst (Stands w.site w.functors (Two S T) c (number left c i * get_or widths c 0 + number right c i)) (sym (value-Pair w t u c (tuple_at w Γ c i)))
      (pair_stands w.site w.functors S T c (number left c i) (number right c i) (get_or widths c 0) _ _ (width_at w T widths h.factor c low) (h.left_stands.stands c i low inside) (h.right_stands.stands c i low inside))

  pub few_pairs : cells store < 2 ^ 32 → (c i : ℕ) → c < length sizes → i < get_or sizes c 0 → number left c i * get_or widths c 0 + number right c i < 2 ^ 32
  few_pairs few c i low' inside' =
      let low = object_in w Γ sizes h.context.counted c low' in
      let p = (pair_values c i low (tuple_in w Γ sizes h.context.counted c i low' inside')).within in
      let n = held_within w.site w.functors store h.context.faithful (Two S T) c h.product low in
      omega (arith, p, n, few)

  pub pair_widths_long : length widths ≡ length sizes
  pair_widths_long = omega (arith, widths_long w T widths h.factor, sizes_long w Γ sizes h.context.counted)

module _ (w : World) (Γ : List Ty) (S T : Ty) (t : Term) (sizes widths : List ℕ) (pairs : List (List ℕ)) (h : IsPairTable w Γ S T t sizes widths pairs) where
  pub first_values : (c i : ℕ) → c < w.site.category.objects → i < length (tuples w Γ c) →
      Stands w.site w.functors S c (number pairs c i / get_or widths c 0) (value w (Fst t) c (tuple_at w Γ c i))
  first_values c i low inside =
      subst (Stands w.site w.functors S c (number pairs c i / get_or widths c 0)) (sym (value-Fst w t c (tuple_at w Γ c i)))
      (first_stands w.site w.functors S T c (number pairs c i) (get_or widths c 0) _ (width_at w T widths h.factor c low) (h.stands.stands c i low inside))

  pub second_values : (c i : ℕ) → c < w.site.category.objects → i < length (tuples w Γ c) →
      Stands w.site w.functors T c (number pairs c i % get_or widths c 0) (value w (Snd t) c (tuple_at w Γ c i))
  second_values c i low inside =
      subst (Stands w.site w.functors T c (number pairs c i % get_or widths c 0)) (sym (value-Snd w t c (tuple_at w Γ c i)))
      (second_stands w.site w.functors S T c (number pairs c i) (get_or widths c 0) _ (width_at w T widths h.factor c low) (h.stands.stands c i low inside))

  -- where there are pairs there are second parts
  pub pair_widths : HasWidths sizes widths
  pair_widths = record {
    objects = omega (arith, widths_long w T widths h.factor, sizes_long w Γ sizes h.counted);
    some = λ c low' inside'.
        let low = object_in w Γ sizes h.counted c low' in
        some w.site w.functors S T c (number pairs c 0) (get_or widths c 0) _ (width_at w T widths h.factor c low) (h.stands.stands c 0 low (tuple_in w Γ sizes h.counted c 0 low' inside'));
  }
