-- The cells of what is added, and what they say of those that were wanted.
use Rattle.std.proofs.Common.{◌≡◌, ℕ, suc, ◌+◌, ◌-◌, ◌<◌, ◌≤◌, inl, inr, not, List, [], ◌∷◌, ◌++◌, length, get_or, map, filter, sum, Result, Ok, Err, refl, sym, ap, subst, ◌∙◌, arith}
use Rattle.std.specs.Prelude.{OnOk}
use Rattle.std.proofs.lemmas.List.{get_or-append_right, length-append}
use Rattle.std.proofs.lemmas.List.Sums.{sum_by-cons}
use Rattle.topos_model.specs.declared.ty.Ty.{Ty, One}
use Rattle.finite_lists.specs.Members.{In}
use Rattle.finite_lists.proofs.Lists.{In-filter, In-filter_from}
use Rattle.finite_lists.proofs.DistinctLists.{Distinct-filter}
use Rattle.topos_model.specs.topologies.Cover.{Site}
use Rattle.topos_model.specs.types.Types.{Presheaf}
use Rattle.topos_model.specs.statements.Cells.{cells_of, without_repeats}
use Rattle.functor_store.specs.declared.fault.StoreFault.{StoreFault}
use Rattle.functor_store.specs.declared.fault.StoreFault.TheVariants.{Over, NoMemory}
use Rattle.functor_store.specs.Store.{Functor, Store, cells, cost, cost_sealed, functor_at}
use Rattle.functor_store.specs.Faithful.{HasElements, IsFaithful}
use Rattle.functor_store.proofs.Costs.{cost_is}
use Rattle.sealed_functors.specs.Rows.{IsOverExactly}
use Rattle.exponentials.specs.Needed.{HoldsAll, keys, IsExtended, is_held, new_cells, IsStuck, WhereOver}
use Rattle.exponentials.proofs.Extended.{total_within, In-once, once_In, Distinct-once, held_free, free_held, free_not, free_before, added_in, in_sealed}

costs-append : (ends : List (ℕ × ℕ)) (Fs Gs : List Functor) → cost_sealed ends (Fs ++ Gs) ≡ cost_sealed ends Fs + cost_sealed ends Gs
unfolding cost_sealed
costs-append ends [] Gs = omega arith
costs-append ends (F ∷ Fs) Gs = omega (arith, costs-append ends Fs Gs)

pub costs_are : (ends : List (ℕ × ℕ)) (f : Ty → ℕ) (Fs : List Functor) → ((j : ℕ) → j < length Fs → cost ends (functor_at Fs j) ≡ f (functor_at Fs j).key) → cost_sealed ends Fs ≡ sum (map f (keys Fs))
unfolding cost_sealed keys functor_at
costs_are ends f [] each = refl
costs_are ends f (F ∷ Fs) each =
    let ih = costs_are ends f Fs (λ j low. each (suc j) (omega (arith, low))) in
    let here = each 0 (omega arith) in
    omega (arith, ih, here, sum_by-cons (λ x. x) (f F.key) (map f (map (λ F. F.key) Fs)))

module _ (s : Site) (functors : List Presheaf) (types : List Ty) (old new : Store) (h : IsExtended types old new) (faithful : IsFaithful s functors new) where
  abbrev f : Ty → ℕ
  f = cells_of s functors

  abbrev wanted : List Ty
  wanted = filter (λ T. not (is_held old T)) (without_repeats types)

  cells_added : cells new ≡ cells old + sum (map (cells_of s functors) (keys h.added))
  unfolding cells functor_at
  cells_added =
      let none : Functor = record { key = One; rows = []; restrictions = [] } in
      let e : new.ends ≡ s.category.ends = faithful.ends in
      let same : new.ends ≡ old.ends = ap (λ (x : Store). x.ends) h.store_is in
      let each : (j : ℕ) → j < length h.added → cost old.ends (functor_at h.added j) ≡ f (functor_at h.added j).key =
      λ j low.
      let n = length old.sealed + j in
      let there : functor_at new.sealed n ≡ functor_at h.added j =
      ap (λ (x : Store). functor_at x.sealed n) h.store_is ∙ get_or-append_right old.sealed h.added (length old.sealed) n none refl (omega arith) ∙ ap (λ m. get_or h.added m none) (let z : n - length old.sealed ≡ j = omega arith in z) in
      let inside : n < length new.sealed = omega (arith, low, ap (λ (x : Store). length x.sealed) h.store_is, length-append old.sealed h.added) in
      let held : HasElements s functors (functor_at h.added j).key (functor_at h.added j) = subst (λ (F : Functor). HasElements s functors F.key F) there (faithful.held n inside) in
      ap (λ ends. cost ends (functor_at h.added j)) (sym same ∙ e) ∙ cost_is s functors (functor_at h.added j).key (functor_at h.added j) held in
      ap cells h.store_is ∙ omega (arith, costs-append old.ends old.sealed h.added, costs_are old.ends f h.added each)

  added_wanted : (T : Ty) → In (keys h.added) T → In wanted T
  added_wanted T i = let r = h.fresh T i in In-filter (λ T. not (is_held old T)) (without_repeats types) T (In-once types T r.0) (free_held old T r.1)

  -- all that was wanted is there, and nothing else
  pub all_cells : HoldsAll new types → cells new ≡ cells old + new_cells s functors old types
  unfolding new_cells
  all_cells held =
      let above = total_within f wanted (keys h.added) (Distinct-filter (λ T. not (is_held old T)) (without_repeats types) (Distinct-once types)) (λ T i.
      let r = In-filter_from (λ T. not (is_held old T)) (without_repeats types) T i in
      added_in types old new h T (held T (once_In types T r.0)) (held_free old T r.1)) in
      let below = total_within f (keys h.added) wanted h.distinct added_wanted in
      omega (arith, above, below, cells_added)

  -- one more does not fit
  pub is_over : IsStuck s functors types new → old.budget < cells old + new_cells s functors old types
  unfolding new_cells
  is_over stuck =
      let T = stuck.next in
      let free = free_before types old new h T stuck.free in
      let more = sum_by-cons (λ x. x) (f T) (map f (keys h.added)) in
      let within = total_within f (T ∷ keys h.added) wanted (λ i. free_not new.sealed T stuck.free (in_sealed types old new h T i), h.distinct) (λ U i.
      elim i [
        | inl e ↦ subst (In wanted) e (In-filter (λ T. not (is_held old T)) (without_repeats types) T (In-once types T stuck.part) (free_held old T free))
        | inr j ↦ added_wanted U j
      ]) in
      let b = ap (λ (x : Store). x.budget) h.store_is in
      omega (arith, within, more, cells_added, stuck.over, b)

-- so `Over` comes exactly where the cells of what is wanted exceed the budget
pub over_exactly : (s : Site) (functors : List Presheaf) (types : List Ty) (old new : Store) (r : Result ℕ StoreFault) → IsExtended types old new → IsFaithful s functors new → OnOk r (HoldsAll new types) → WhereOver r (IsStuck s functors types new) → cells new ≤ old.budget →
    IsOverExactly r (old.budget < cells old + new_cells s functors old types)
over_exactly s functors types old new (Ok id) h faithful held stuck fits = λ over. let e = all_cells s functors types old new h faithful held in omega (arith, e, fits, over)
over_exactly s functors types old new (Err Over) h faithful held stuck fits = is_over s functors types old new h faithful stuck
over_exactly s functors types old new (Err NoMemory) h faithful held stuck fits = tt

-- and where all is sealed, the cells are those before and those of what was wanted
pub cells_exactly : (s : Site) (functors : List Presheaf) (types : List Ty) (old new : Store) (r : Result ℕ StoreFault) → IsExtended types old new → IsFaithful s functors new → OnOk r (HoldsAll new types) → OnOk r (cells new ≡ cells old + new_cells s functors old types)
cells_exactly s functors types old new (Ok id) h faithful held = all_cells s functors types old new h faithful held
cells_exactly s functors types old new (Err fault) h faithful held = tt

pub stuck_for : {A : Type 0} (P : Type 0) (Q : Type 0) (r : Result A StoreFault) → (P → Q) → WhereOver r P → WhereOver r Q
stuck_for P Q (Ok x) f h = tt
stuck_for P Q (Err Over) f h = f h
stuck_for P Q (Err NoMemory) f h = tt
