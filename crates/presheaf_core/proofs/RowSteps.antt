-- The row along one arrow and its fault, case by case.
use Rattle.std.proofs.Common.{◌≡◌, ℕ, ◌<◌, ◌≤◌, inl, inr, true, false, not, ◌||◌, eqb, ltb, List, [], map, length, get_or, Option, Some, None, Result, Ok, Err, IfOk, IfErr, refl, sym, ap, subst, ◌∙◌, arith}
use Rattle.std.specs.List.{range_with_len}
use Rattle.std.specs.Option.{option_map}
use Rattle.std.proofs.lemmas.Bool.{cond-true, cond-false, lt-ltb, le-ltb, eq-eqb, ne_eqb}
use Rattle.finite_lists.specs.Members.{In}
use Rattle.finite_lists.specs.First.{some_if}
use Rattle.finite_lists.proofs.FirstAnswers.{first_same, option_map-first, option_map-some_if}
use Rattle.topos_model.specs.declared.raw.RawFunctor.{RawFunctor}
use Rattle.topos_model.specs.declared.fault.Fault.{Fault}
use Rattle.topos_model.specs.declared.fault.Fault.TheVariants.{NotTotal as Partial, RestrictionMissing as Missing, NotFunctorial as Fails}
use Rattle.topos_model.specs.categories.Category.{Category, dom, cod}
use Rattle.topos_model.specs.Laws.{IsCategory}
use Rattle.topos_model.specs.categories.Listed.{entry_at, entries_along, listed_row}
use Rattle.topos_model.specs.categories.Filling.{has_restriction, filling_pair, composite_row, filled_row}
use Rattle.topos_model.specs.presheaves.PresheafFaults.{has_entry, listed_size, total_fault, missing_restriction_fault, restriction_fault, IsPresheafListing}
use Rattle.presheaf_core.specs.declared.fault.FunctorFault.{FunctorFault}
use Rattle.presheaf_core.specs.declared.fault.FunctorFault.TheVariants.{RestrictionMissing, NotTotal, NotFunctorial, NoMemory}
use Rattle.presheaf_core.specs.Faults.{IsFound}
use Rattle.presheaf_core.specs.FillingFaults.{IsMissingEntry, IsMissingPair}
use Rattle.presheaf_core.specs.Filling.{row_fault, missing_entry, AreRowsBelow, IsPairAlong, IsComposedRow}
use Rattle.presheaf_core.proofs.ListedEntries.{restriction_in}
use Rattle.presheaf_core.proofs.FillingPairs.{filling_is}
use Rattle.presheaf_core.proofs.FilledRows.{filled_row-listed, filled_row-pair, filled_row-nothing}

module _ (k : Category) (raw : RawFunctor) (f : ℕ) where
  abbrev size_at : ℕ
  size_at = get_or raw.sizes (cod k f) 0

  pub identity_row : (rows : List (List ℕ)) → f < k.objects → range_with_len 0 size_at ≡ filled_row k raw rows f
  unfolding listed_row
  identity_row rows low =
      sym (filled_row-listed k raw rows f (ap (λ b. b || has_restriction raw.along f) (lt-ltb f k.objects low)) ∙ cond-true (ltb f k.objects) _ _ (lt-ltb f k.objects low))

  pub identity_fault : f < k.objects → row_fault k raw f ≡ None
  identity_fault low = cond-true (ltb f k.objects) None (restriction_fault k raw f) (lt-ltb f k.objects low)

  module _ (high : k.objects ≤ f) where
    declared_fault : row_fault k raw f ≡ restriction_fault k raw f
    declared_fault = cond-false (ltb f k.objects) None _ (le-ltb f k.objects high)

    pub entered_row : (rows : List (List ℕ)) → has_restriction raw.along f ≡ true → map (entry_at (entries_along raw.along f)) (range_with_len 0 size_at) ≡ filled_row k raw rows f
    unfolding listed_row
    entered_row rows t =
        sym (filled_row-listed k raw rows f (ap (λ b. ltb f k.objects || b) t ∙ ap (λ b. b || true) (le-ltb f k.objects high)) ∙ cond-false (ltb f k.objects) _ _ (le-ltb f k.objects high))

    -- the fault of a listed restriction is that of its first element without an entry
    entered_fault : has_restriction raw.along f ≡ true → row_fault k raw f ≡ option_map (λ x. Partial f x) (missing_entry (entries_along raw.along f) size_at)
    unfolding restriction_fault total_fault
    entered_fault t =
        declared_fault ∙ cond-true (has_restriction raw.along f) _ _ t
        ∙ sym (option_map-first (λ x. Partial f x) (λ x. some_if (not (has_entry (entries_along raw.along f) x)) x) (range_with_len 0 size_at)
        ∙ first_same _ _ (range_with_len 0 size_at) (λ x i. option_map-some_if (λ x. Partial f x) (not (has_entry (entries_along raw.along f) x)) x))

    pub entered_none : has_restriction raw.along f ≡ true → missing_entry (entries_along raw.along f) size_at ≡ None → row_fault k raw f ≡ None
    entered_none t none = entered_fault t ∙ ap (option_map (λ x. Partial f x)) none

    pub entered_found : has_restriction raw.along f ≡ true → (fault : FunctorFault) → IsMissingEntry f (missing_entry (entries_along raw.along f) size_at) fault → IsFound (row_fault k raw f) fault
    entered_found t (NotTotal g x) found = entered_fault t ∙ ap (option_map (λ x. Partial f x)) found.1 ∙ ap (λ g. Some (Partial g x)) (sym found.0)
    entered_found t (RestrictionMissing g) found = absurd found
    entered_found t (NotFunctorial h g x) found = absurd found
    entered_found t NoMemory found = tt

    missing_fault : has_restriction raw.along f ≡ false → row_fault k raw f ≡ missing_restriction_fault k raw f
    unfolding restriction_fault
    missing_fault t = declared_fault ∙ cond-false (has_restriction raw.along f) _ _ t

    by_pair : (o : Option (ℕ × ℕ)) → filling_pair k f ≡ o →
        missing_restriction_fault k raw f ≡ elim o [ Some p ↦ None | None ↦ some_if (not (eqb size_at 0)) (Missing f) ]
    unfolding missing_restriction_fault
    by_pair o e = ap (λ (o : Option (ℕ × ℕ)). elim o [ Some p ↦ None | None ↦ some_if (not (eqb (listed_size k raw f) 0)) (Missing f) ]) e

    off : has_restriction raw.along f ≡ false → (ltb f k.objects || has_restriction raw.along f) ≡ false
    off t = ap (λ b. b || has_restriction raw.along f) (le-ltb f k.objects high) ∙ t

    pub composed_row : (rows : List (List ℕ)) (row : List ℕ) → has_restriction raw.along f ≡ false → IsComposedRow k rows size_at f row → row ≡ filled_row k raw rows f
    unfolding composite_row
    composed_row rows row t (inl nothing) = nothing.1 ∙ at (filling_pair k f) refl
      where
        at : (o : Option (ℕ × ℕ)) → filling_pair k f ≡ o → [] ≡ filled_row k raw rows f
        at (Some p) e =
            sym (filled_row-pair k raw rows f p (off t) e
            ∙ ap (λ n. map (λ x. get_or (get_or rows p.1 []) (get_or (get_or rows p.0 []) x 0) 0) (range_with_len 0 n)) nothing.0)
        at None e = sym (filled_row-nothing k raw rows f (off t) e)
    composed_row rows row t (inr w) = w.2 ∙ sym (filled_row-pair k raw rows f w.0 (off t) w.1)

    pub composed_none : (rows : List (List ℕ)) (row : List ℕ) → has_restriction raw.along f ≡ false → IsComposedRow k rows size_at f row → row_fault k raw f ≡ None
    composed_none rows row t (inl nothing) = missing_fault t ∙ at (filling_pair k f) refl
      where
        at : (o : Option (ℕ × ℕ)) → filling_pair k f ≡ o → missing_restriction_fault k raw f ≡ None
        at (Some p) e = by_pair (Some p) e
        at None e = by_pair None e ∙ ap (λ b. some_if (not b) (Missing f)) (eq-eqb size_at 0 nothing.0)
    composed_none rows row t (inr w) = missing_fault t ∙ by_pair (Some w.0) w.1

    pub composed_found : has_restriction raw.along f ≡ false → (fault : FunctorFault) → IsMissingPair k size_at f fault → IsFound (row_fault k raw f) fault
    composed_found t (RestrictionMissing g) found =
        missing_fault t ∙ by_pair None found.2 ∙ ap (λ b. some_if (not b) (Missing f)) (ne_eqb size_at 0 found.1) ∙ ap (λ g. Some (Missing g)) (sym found.0)
    composed_found t (NotTotal g x) found = absurd found
    composed_found t (NotFunctorial h g x) found = absurd found
    composed_found t NoMemory found = tt

  pub entries_within : IsPresheafListing k raw → has_restriction raw.along f ≡ true → (e : ℕ × ℕ) → In (entries_along raw.along f) e → e.0 < size_at
  entries_within ok t e i =
      let r = restriction_in raw.along f t in
      let j : In r.0.entries e = subst (λ (l : List (ℕ × ℕ)). In l e) r.3 i in
      subst (λ (f : ℕ). e.0 < get_or raw.sizes (cod k f) 0) r.2 (ok.entries r.0 r.1 e j).0

  pub pair_along : (rows : List (List ℕ)) → IsCategory k → AreRowsBelow k raw f rows → IsPairAlong k rows size_at f
  pair_along rows law below p e =
      let w = filling_is k f p e in
      let c = law.composite (cod k p.0) p.0 p.1 (w.0.0, refl) w.0.1 in
      let ec : cod k f ≡ cod k p.0 = sym (ap (cod k) w.5) ∙ c.0.1 in
      let first_row = below.each p.0 w.2 in
      let second_row = below.each p.1 w.4 in
      let count : length (get_or rows p.0 []) ≡ size_at = first_row.total ∙ ap (λ d. get_or raw.sizes d 0) (sym ec) in (
        w.2,
        w.4,
        count,
        λ x xs.
            let low : get_or (get_or rows p.0 []) x 0 < get_or raw.sizes (dom k p.0) 0 = first_row.within x (subst (λ d. x < get_or raw.sizes d 0) ec xs) in
            let same : length (get_or rows p.1 []) ≡ get_or raw.sizes (dom k p.0) 0 = second_row.total ∙ ap (λ d. get_or raw.sizes d 0) w.0.1.1 in
            omega (arith, low, same),
      )

-- the first fault, from the first of one row on
pub search_found : (test : ℕ → Option Fault) (whole : Option Fault) (n f : ℕ) (fault : FunctorFault) → ((found : Fault) → test f ≡ Some found → whole ≡ Some found) → IsFound (test f) fault → IsFound whole fault
search_found test whole n f (RestrictionMissing g) some found = some (Missing g) found
search_found test whole n f (NotTotal g x) some found = some (Partial g x) found
search_found test whole n f (NotFunctorial h g x) some found = some (Fails h g x) found
search_found test whole n f NoMemory some found = tt

pub if_ok : {T E : Type 0} (P Q : T → Type 0) (r : Result T E) → ((x : T) → P x → Q x) → IfOk r P → IfOk r Q
if_ok P Q (Ok x) f h = f x h
if_ok P Q (Err e) f h = h

pub if_err : {T E : Type 0} (P Q : E → Type 0) (r : Result T E) → ((x : E) → P x → Q x) → IfErr r P → IfErr r Q
if_err P Q (Ok x) f h = h
if_err P Q (Err e) f h = f e h
