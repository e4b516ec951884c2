-- Tables that stand for the values of a term, or for where a formula is forced.
use Rattle.std.specs.Prelude.{◌≡◌, ℕ, ◌<◌, Bool, List, [], map, length, get_or}
use Rattle.std.specs.List.{range_with_len}
use Rattle.topos_model.specs.declared.ty.Ty.{Ty}
use Rattle.topos_model.specs.declared.value.Val.{Val}
use Rattle.topos_model.specs.formulas.Forcing.{World, Assigned, Property, tuples}
use Rattle.functor_store.specs.Faithful.{Stands}
use Rattle.truth_tables.specs.Tables.{IsOver, bit, number}

module _ (w : World) (Γ : List Ty) where
  -- how many tuples there are at each object
  unfoldable pub counts : List ℕ
  counts = map (λ c. length (tuples w Γ c)) (range_with_len 0 w.site.category.objects)

  abbrev pub tuple_at : ℕ → ℕ → Assigned
  tuple_at c i = get_or (tuples w Γ c) i []

  -- for each object and tuple the number of the value among the elements of its type
  pub record IsNumberTable (U : Ty) (v : ℕ → Assigned → Val) (t : List (List ℕ)) : Type 0 where
    pub over : IsOver counts t
    pub stands : (c i : ℕ) → c < w.site.category.objects → i < length (tuples w Γ c) → Stands w.site w.functors U c (number t c i) (v c (tuple_at c i))

  -- for each object and tuple whether the property holds
  pub record IsTruthTable (φ : Property) (t : List (List Bool)) : Type 0 where
    pub over : IsOver counts t
    pub truths : (c i : ℕ) → c < w.site.category.objects → i < length (tuples w Γ c) → bit t c i ≡ φ c (tuple_at c i)
