-- How many elements a sealed type has.
use Rattle.std.proofs.Common.{◌≡◌, ℕ, zero, suc, ◌+◌, ◌<◌, ◌≤◌, List, [], ◌∷◌, length, get_or, ap, subst, ◌∙◌, arith}
use Rattle.std.specs.List.{sum_by}
use Rattle.std.proofs.lemmas.List.Sums.{sum_by-cons}
use Rattle.topos_model.specs.declared.ty.Ty.{Ty}
use Rattle.topos_model.specs.topologies.Cover.{Site}
use Rattle.topos_model.specs.types.Types.{Presheaf, elements}
use Rattle.functor_store.specs.Store.{Store, into, cost, cost_from, cells, functor_at}
use Rattle.functor_store.specs.Faithful.{Holds, HasElements, IsFaithful}
use Rattle.omega_object.proofs.SealedSieves.{cost_within}
use Rattle.sealed_types.specs.Sealed.{sizes_in}
use Rattle.sealed_types.proofs.SealedTypes.{sealed_size}
use Rattle.term_tables.specs.Parts.{IsSealed}

-- each element costs a cell at least
each_costs : (n : ℕ) (g : List (List ℕ)) → length g ≤ sum_by (λ row. 1 + n + length row) g
each_costs n [] = omega arith
each_costs n (row ∷ g) = omega (arith, sum_by-cons (λ r. 1 + n + length r) row g, each_costs n g)

size_cost : (ends : List (ℕ × ℕ)) (o c : ℕ) (gs : List (List (List ℕ))) → length (get_or gs c []) ≤ cost_from ends o gs
unfolding cost_from
size_cost ends o c [] = omega arith
size_cost ends o zero (g ∷ gs) = omega (arith, each_costs (into ends o) g)
size_cost ends o (suc c) (g ∷ gs) = omega (arith, size_cost ends (suc o) c gs)

-- no type that is held has more elements than the store has cells
pub size_within : (store : Store) (id c : ℕ) → id < length store.sealed → sizes_in store id c ≤ cells store
unfolding cells cost
size_within store id c low = omega (arith, size_cost store.ends 0 c (functor_at store.sealed id).rows, cost_within store.ends store.sealed id low)

module _ (s : Site) (functors : List Presheaf) (store : Store) (h : IsFaithful s functors store) where
  pub size_of : (T : Ty) (id c : ℕ) → IsSealed store T id → c < s.category.objects → sizes_in store id c ≡ length (elements s functors T c)
  size_of T id c is low = sealed_size s functors store id h is.low c low ∙ ap (λ U. length (elements s functors U c)) is.key

  pub elements_of : (T : Ty) (id : ℕ) → IsSealed store T id → HasElements s functors T (functor_at store.sealed id)
  elements_of T id is = subst (λ U. HasElements s functors U (functor_at store.sealed id)) is.key (h.held id is.low)

  pub held_within : (T : Ty) (c : ℕ) → Holds store T → c < s.category.objects → length (elements s functors T c) ≤ cells store
  held_within T c there low = omega (arith, size_within store there.0 c there.1, size_of T there.0 c (record { low = there.1; key = there.2 }) low)
