-- The truth values and the values of a formula at each object and tuple, with what tuples are read from.
use Rattle.std.specs.Prelude.{◌≡◌, ℕ, Bool, cond, not, List, map, filter}
use Rattle.finite_lists.specs.Members.{In}
use Rattle.topos_model.specs.declared.answer.Tuple.{Tuple}
use Rattle.topos_model.specs.declared.ty.Ty.{Ty, Omega}
use Rattle.topos_model.specs.declared.value.Val.{Val}
use Rattle.topos_model.specs.types.Values.{arrows_of}
use Rattle.topos_model.specs.statements.Answers.{tuple_of}
use Rattle.topos_model.specs.formulas.Forcing.{World, Assigned, Property}
use Rattle.truth_tables.specs.Standing.{counts, IsNumberTable, IsTruthTable}
use Rattle.element_values.specs.declared.elements.Elements.{Elements}
use Rattle.element_values.specs.Known.{IsReadable, IsWorldOf}

-- the tuples of a list for which a property holds, or those for which it does not
unfoldable pub kept : Bool → (Assigned → Bool) → List Assigned → List Assigned
kept wanted φ tuples = filter (λ a. cond wanted (φ a) (not (φ a))) tuples

-- each tuple with the arrows of its truth value
unfoldable pub with_arrows : (Assigned → Val) → List Assigned → List (Tuple × List ℕ)
with_arrows v tuples = map (λ a. (tuple_of a, arrows_of (v a))) tuples

module _ (e : Elements) (w : World) (Γ : List Ty) (sizes : List ℕ) where
  -- the tuples of a context can be read, and so many are there at each object
  pub record AreCounted : Type 0 where
    pub world : IsWorldOf e w
    pub readable : (T : Ty) → In Γ T → IsReadable e T
    pub counted : sizes ≡ counts w Γ

  -- with the tuples for which a property holds
  pub record AreTruths (φ : Property) (truths : List (List Bool)) : Type 0 where
    pub tuples : AreCounted
    pub stands : IsTruthTable w Γ φ truths

  -- with the numbers of truth values
  pub record AreSieves (v : ℕ → Assigned → Val) (numbers : List (List ℕ)) : Type 0 where
    pub tuples : AreCounted
    pub omega : IsReadable e Omega
    pub stands : IsNumberTable w Γ Omega v numbers
