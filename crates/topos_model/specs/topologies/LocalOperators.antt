-- Local operators on the sieves of a category, and the topologies that they are (V.1, V.4).
use Rattle.std.specs.Prelude.{◌≡◌, ℕ, ◌<◌, false, not, List, [], ◌∷◌, map, filter, get_or, flat_map, Option, None}
use Rattle.std.specs.List.{range_with_len}
use Rattle.finite_lists.specs.Members.{In}
use Rattle.finite_lists.specs.First.{first, or_else, some_if}
use Rattle.topos_model.specs.declared.value.Val.{Val, Sv}
use Rattle.topos_model.specs.declared.answer.Answer.{Answer}
use Rattle.topos_model.specs.declared.answer.Answer.TheVariants.{NotLocal}
use Rattle.topos_model.specs.categories.Category.{Category, has, into, dom, sieves, pull}
use Rattle.topos_model.specs.topologies.Cover.{Site, covers}
use Rattle.topos_model.specs.topologies.LeastCovers.{closure}
use Rattle.topos_model.specs.types.Values.{same_numbers, arrows_of}
use Rattle.topos_model.specs.Laws.{IsCategory, IsInto, IsTopology}
use Rattle.topos_model.specs.formulas.Forcing.{image_of}

-- a map of truth values: at each object the pairs of a sieve and its image
abbrev pub Operator : Type 0
Operator = List (List (Val × Val))

abbrev pub meet : List ℕ → List ℕ → List ℕ
meet S T = filter (λ f. has f T) S

module _ (k : Category) where
  -- m(S)
  unfoldable pub operated : Operator → ℕ → List ℕ → List ℕ
  operated m c S = arrows_of (image_of (Sv S) (get_or m c []))

  abbrev objects : List ℕ
  objects = range_with_len 0 k.objects

  -- the first instance at which a law fails: the object, and the sieves that it speaks of
  unfoldable pub maximal_fault : Operator → Option Answer
  maximal_fault m = first (λ c. some_if (not (same_numbers (operated m c (into k c)) (into k c))) (NotLocal 1 c [])) objects

  unfoldable pub idempotence_fault : Operator → Option Answer
  idempotence_fault m =
      first (λ c. first (λ S. some_if (not (same_numbers (operated m c (operated m c S)) (operated m c S))) (NotLocal 2 c (S ∷ [])))
      (sieves k c)) objects

  unfoldable pub meet_fault : Operator → Option Answer
  meet_fault m =
      first (λ c. first (λ S. first (λ T. some_if (not (same_numbers (operated m c (meet S T)) (meet (operated m c S) (operated m c T)))) (NotLocal 3 c (S ∷ T ∷ [])))
      (sieves k c)) (sieves k c)) objects

  unfoldable pub local_fault : Operator → Option Answer
  local_fault m = or_else (maximal_fault m) (or_else (idempotence_fault m) (meet_fault m))

  -- the sieves that m sends to the maximal one
  unfoldable pub operator_covers : Operator → ℕ → List (List ℕ)
  operator_covers m c = filter (λ S. same_numbers (operated m c S) (into k c)) (sieves k c)

  -- the topology with these covers
  unfoldable pub top_of : Operator → Site
  top_of m = record { category = k; dense = false; families = flat_map (λ c. map (λ S. record { at = c; arrows = S }) (operator_covers m c)) objects }

-- the operator that sends each sieve to its closure
unfoldable pub op_of : Site → Operator
op_of s = map (λ c. map (λ S. (Sv S, Sv (closure s c S))) (sieves s.category c)) (range_with_len 0 s.category.objects)

-- it sends sieves to sieves, and commutes with pulling back
pub record IsNaturalOperator (k : Category) (m : Operator) : Type 0 where
  pub within : (c : ℕ) (S : List ℕ) → c < k.objects → In (sieves k c) S → In (sieves k c) (operated k m c S)
  pub natural : (c f : ℕ) (S : List ℕ) → IsInto k c f → In (sieves k c) S → operated k m (dom k f) (pull k f S) ≡ pull k f (operated k m c S)

pub record IsLocal (k : Category) (m : Operator) : Type 0 where
  pub maximal : (c : ℕ) → c < k.objects → operated k m c (into k c) ≡ into k c
  pub idempotent : (c : ℕ) (S : List ℕ) → c < k.objects → In (sieves k c) S → operated k m c (operated k m c S) ≡ operated k m c S
  pub meets : (c : ℕ) (S T : List ℕ) → c < k.objects → In (sieves k c) S → In (sieves k c) T →
      operated k m c (meet S T) ≡ meet (operated k m c S) (operated k m c T)

-- the test finds exactly whether the laws hold
abbrev pub LocalTested : Type 0
LocalTested = (k : Category) (m : Operator) → (local_fault k m ≡ None → IsLocal k m) × (IsLocal k m → local_fault k m ≡ None)

-- local operators are topologies
pub record OperatorsAreTopologies : Type 0 where
  pub topology : (k : Category) (m : Operator) → IsCategory k → IsNaturalOperator k m → IsLocal k m → IsTopology (top_of k m)
  pub operator : (s : Site) → IsCategory s.category → IsTopology s → IsNaturalOperator s.category (op_of s) × IsLocal s.category (op_of s)
  pub operator_again : (k : Category) (m : Operator) (c : ℕ) (S : List ℕ) → IsCategory k → IsNaturalOperator k m → IsLocal k m →
      c < k.objects → In (sieves k c) S → operated k (op_of (top_of k m)) c S ≡ operated k m c S
  pub topology_again : (s : Site) (c : ℕ) → IsCategory s.category → IsTopology s → c < s.category.objects →
      covers (top_of s.category (op_of s)) c ≡ covers s c
