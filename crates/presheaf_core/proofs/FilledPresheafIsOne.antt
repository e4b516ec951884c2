-- A functor that fills a listing is its filled presheaf, and then the listing has no fault.
use Rattle.std.proofs.Common.{◌≡◌, ℕ, zero, suc, ◌+◌, ◌<◌, ◌≤◌, inl, inr, Bool, true, false, cond, not, ◌||◌, eqb, ltb, List, [], ◌∷◌, ◌++◌, length, get_or, take, Option, Some, None, refl, sym, ap, subst, ◌∙◌, arith}
use Rattle.std.specs.List.{range_with_len}
use Rattle.std.proofs.lemmas.Bool.{cond-true, cond-false, lt-ltb, le-ltb, cases_lt, eq-eqb}
use Rattle.std.proofs.lemmas.List.{ext_get_or, take_more, take_all, get_or-take, nil_from_length}
use Rattle.finite_lists.specs.Members.{In}
use Rattle.finite_lists.specs.First.{first, or_else, some_if}
use Rattle.finite_lists.proofs.DistinctLists.{In-range_from}
use Rattle.finite_lists.proofs.FirstAnswers.{first_none}
use Rattle.topos_model.specs.declared.raw.RawFunctor.{RawFunctor}
use Rattle.topos_model.specs.declared.fault.Fault.{Fault}
use Rattle.topos_model.specs.declared.fault.Fault.TheVariants.{NotTotal, RestrictionMissing}
use Rattle.topos_model.specs.categories.Category.{Category, cod, arrows}
use Rattle.topos_model.specs.types.Types.{Presheaf}
use Rattle.topos_model.specs.Laws.{act, IsCategory, IsFunctor}
use Rattle.topos_model.specs.categories.Listed.{entry_at, entries_along, listed_row}
use Rattle.topos_model.specs.categories.Filling.{has_restriction, filling_pair, composite_row, filled_row, filled_rows, filled_presheaf, IsFilledFunctor}
use Rattle.topos_model.specs.presheaves.PresheafFaults.{has_entry, listed_size, total_fault, missing_restriction_fault, restriction_fault, presheaf_fault, IsPresheafListing}
use Rattle.topos_model.specs.Faults.{functoriality_fault}
use Rattle.presheaf_core.specs.Filling.{row_fault}
use Rattle.presheaf_core.proofs.ListedEntries.{has_entry_from, entry_once, restriction_in}
use Rattle.presheaf_core.proofs.FillingPairs.{filling_is}
use Rattle.presheaf_core.proofs.FilledRows.{filled_row-listed, filled_row-pair, filled_row-nothing, row_length, identity_at, declared_at, length-composite_row, composite_row_at}
use Rattle.presheaf_core.proofs.FunctorLaws.{functor_has_no_fault}
use Rattle.presheaf_core.proofs.FilledPresheaves.{restriction_faults}

option_same : {A : Type 0} (a b : A) → Some a ≡ Some b → a ≡ b
option_same a b e = cc

-- over rows alone, the sizes being those that are listed
module _ (k : Category) (raw : RawFunctor) (law : IsCategory k) (ok : IsPresheafListing k raw) (along : List (List ℕ)) where
  abbrev X : Presheaf
  X = record { sizes = raw.sizes; along = along }

  module _ (fills : IsFilledFunctor k raw X) (functor : IsFunctor k X) where
    abbrev row : ℕ → List ℕ
    row f = get_or along f []

    row_total : (f : ℕ) → f < length k.ends → length (row f) ≡ get_or raw.sizes (cod k f) 0
    row_total f low = fills.total (cod k f) f (low, refl)

    -- a row among those before n
    front : (n f x : ℕ) → f < n → get_or (get_or (take n along) f []) x 0 ≡ act X f x
    front n f x low = ap (λ (r : List ℕ). get_or r x 0) (get_or-take n along f [] low)

    listed_row_is : (n : ℕ) → k.objects ≤ n → n < length k.ends → has_restriction raw.along n ≡ true → row n ≡ listed_row k raw n
    listed_row_is n high low t =
        let r = restriction_in raw.along n t in
        ext_get_or 0 (row n) (listed_row k raw n) (row_total n low ∙ sym (row_length k raw n))
        (λ x xs.
        let within : x < get_or raw.sizes (cod k n) 0 = omega (arith, row_total n low) in
        let i : In {A = ℕ × ℕ} r.0.entries (x, act X r.0.arrow x) = fills.listed r.0 r.1 x (subst (λ f. x < get_or raw.sizes (cod k f) 0) (sym r.2) within) in
        let e : entry_at (entries_along raw.along n) x ≡ act X n x =
        ap (λ (l : List (ℕ × ℕ)). entry_at l x) r.3 ∙ entry_once r.0.entries x (act X r.0.arrow x) (ok.entries_once r.0 r.1) i ∙ ap (λ f. act X f x) r.2 in
        sym e ∙ sym (declared_at k raw n x high within))

    identity_row_is : (n : ℕ) → n < k.objects → row n ≡ listed_row k raw n
    identity_row_is n low =
        let id = law.identity n low in
        ext_get_or 0 (row n) (listed_row k raw n) (row_total n id.0.0 ∙ sym (row_length k raw n))
        (λ x xs.
        let within : x < get_or raw.sizes (cod k n) 0 = omega (arith, row_total n id.0.0) in
        fills.identity n x low (subst (λ d. x < get_or raw.sizes d 0) id.0.1 within) ∙ sym (identity_at k raw n x low within))

    filled_row_is : (n : ℕ) → k.objects ≤ n → n < length k.ends → has_restriction raw.along n ≡ false → row n ≡ filled_row k raw (take n along) n
    filled_row_is n high low t = at (filling_pair k n) refl
      where
        off : (ltb n k.objects || has_restriction raw.along n) ≡ false
        off = ap (λ b. b || has_restriction raw.along n) (le-ltb n k.objects high) ∙ t

        at : (o : Option (ℕ × ℕ)) → filling_pair k n ≡ o → row n ≡ filled_row k raw (take n along) n
        at (Some p) e =
            let w = filling_is k n p e in
            let Y : Presheaf = record { sizes = raw.sizes; along = take n along } in
            ext_get_or 0 (row n) (composite_row k Y n p) (row_total n low ∙ sym (length-composite_row k raw Y n p))
            (λ x xs.
            let within : x < get_or raw.sizes (cod k n) 0 = omega (arith, row_total n low) in
            let q = fills.filled n x high low t within in
            let same : q.0 ≡ p = option_same q.0 p (sym q.1 ∙ e) in
            q.2 ∙ ap (λ (p : ℕ × ℕ). act X p.1 (act X p.0 x)) same
            ∙ sym (ap (act X p.1) (front n p.0 x w.2)) ∙ sym (front n p.1 (act Y p.0 x) w.4)
            ∙ sym (composite_row_at k raw Y n p x within))
            ∙ sym (filled_row-pair k raw (take n along) n p off e)
        at None e =
            nil_from_length (row n) (none_left (length (row n)) refl) ∙ sym (filled_row-nothing k raw (take n along) n off e)
          where
            none_left : (m : ℕ) → length (row n) ≡ m → length (row n) ≡ 0
            none_left zero l = l
            none_left (suc m) l =
                let first_one : 0 < get_or raw.sizes (cod k n) 0 = omega (arith, row_total n low) in
                let q = fills.filled n 0 high low t first_one in
                let impossible : None ≡ Some q.0 = sym e ∙ q.1 in
                cc

    each_row : (n : ℕ) → n < length k.ends → row n ≡ filled_row k raw (take n along) n
    each_row n low =
        elim (cases_lt n k.objects) [
          | inl identity ↦
              identity_row_is n identity ∙ sym (filled_row-listed k raw (take n along) n (ap (λ b. b || has_restriction raw.along n) (lt-ltb n k.objects identity)))
          | inr high ↦ at (has_restriction raw.along n) refl high
        ]
      where
        at : (b : Bool) → has_restriction raw.along n ≡ b → k.objects ≤ n → row n ≡ filled_row k raw (take n along) n
        at true t high =
            listed_row_is n high low t ∙ sym (filled_row-listed k raw (take n along) n (ap (λ b. ltb n k.objects || b) t ∙ ap (λ b. b || true) (le-ltb n k.objects high)))
        at false t high = filled_row_is n high low t

    fronts : (n : ℕ) → n ≤ length k.ends → take n along ≡ filled_rows k raw n
    unfolding filled_rows
    fronts zero low = refl
    fronts (suc n) low =
        let e : suc n ≡ n + 1 = omega arith in
        let within : n < length along = omega (arith, fills.arrows) in
        let before = fronts n (omega arith) in
        ap (λ m. take m along) e ∙ take_more along n [] within
        ∙ ap (λ (l : List (List ℕ)). l ++ row n ∷ []) before
        ∙ ap (λ (r : List ℕ). filled_rows k raw n ++ r ∷ []) (each_row n (omega arith) ∙ ap (λ (l : List (List ℕ)). filled_row k raw l n) before)

    rows_same : X ≡ filled_presheaf k raw
    unfolding filled_presheaf
    rows_same =
        ap (λ (l : List (List ℕ)). record { sizes = raw.sizes; along = l })
        (sym (take_all (length k.ends) along (omega (arith, fills.arrows))) ∙ fronts (length k.ends) (omega arith))

    -- no restriction has a fault
    no_total_fault : (f : ℕ) → f < length k.ends → has_restriction raw.along f ≡ true → total_fault k raw f ≡ None
    unfolding total_fault
    no_total_fault f low t =
        let r = restriction_in raw.along f t in
        first_none _ (range_with_len 0 (listed_size k raw f)) (λ x i.
        let within = In-range_from 0 (listed_size k raw f) x i in
        let xs : x < get_or raw.sizes (cod k f) 0 = omega (arith, within.1) in
        let j : In {A = ℕ × ℕ} r.0.entries (x, act X r.0.arrow x) = fills.listed r.0 r.1 x (subst (λ f. x < get_or raw.sizes (cod k f) 0) (sym r.2) xs) in
        ap (λ b. some_if (not b) (NotTotal f x)) (ap (λ (l : List (ℕ × ℕ)). has_entry l x) r.3 ∙ has_entry_from r.0.entries x (act X r.0.arrow x) j))

    no_missing_fault : (f : ℕ) → k.objects ≤ f → f < length k.ends → has_restriction raw.along f ≡ false → missing_restriction_fault k raw f ≡ None
    unfolding missing_restriction_fault
    no_missing_fault f high low t = at (filling_pair k f) refl (get_or raw.sizes (cod k f) 0) refl
      where
        at : (o : Option (ℕ × ℕ)) → filling_pair k f ≡ o → (m : ℕ) → get_or raw.sizes (cod k f) 0 ≡ m → ◌≡◌ {A = Option Fault} (elim o [ Some p ↦ None | None ↦ some_if (not (eqb (listed_size k raw f) 0)) (RestrictionMissing f) ]) None
        at (Some p) e m l = refl
        at None e zero l = ap (λ b. some_if (not b) (RestrictionMissing f)) (eq-eqb _ 0 l)
        at None e (suc m) l =
            let first_one : 0 < get_or raw.sizes (cod k f) 0 = omega arith in
            let q = fills.filled f 0 high low t first_one in
            let impossible : None ≡ Some q.0 = sym e ∙ q.1 in
            cc

    no_restriction_fault : (f : ℕ) → k.objects ≤ f → f < length k.ends → restriction_fault k raw f ≡ None
    unfolding restriction_fault
    no_restriction_fault f high low = at (has_restriction raw.along f) refl
      where
        at : (b : Bool) → has_restriction raw.along f ≡ b → cond (has_restriction raw.along f) (total_fault k raw f) (missing_restriction_fault k raw f) ≡ None
        at true t = cond-true (has_restriction raw.along f) _ _ t ∙ no_total_fault f low t
        at false t = cond-false (has_restriction raw.along f) _ _ t ∙ no_missing_fault f high low t

    no_row_faults : first (row_fault k raw) (arrows k) ≡ None
    no_row_faults =
        first_none (row_fault k raw) (arrows k) (λ f i.
        let within = In-range_from 0 (length k.ends) f i in
        let low : f < length k.ends = omega (arith, within.1) in
        elim (cases_lt f k.objects) [
          | inl identity ↦ cond-true (ltb f k.objects) None _ (lt-ltb f k.objects identity)
          | inr high ↦ cond-false (ltb f k.objects) None _ (le-ltb f k.objects high) ∙ no_restriction_fault f high low
        ])

    one_of_rows : (presheaf_fault k raw ≡ None) × (X ≡ filled_presheaf k raw)
    unfolding presheaf_fault
    one_of_rows = (
      ap (λ o. or_else o (functoriality_fault k (filled_presheaf k raw))) (restriction_faults k raw ∙ no_row_faults)
          ∙ ap (functoriality_fault k) (sym rows_same) ∙ functor_has_no_fault k X functor,
      rows_same,
    )

pub filled_one : (k : Category) (raw : RawFunctor) → IsCategory k → IsPresheafListing k raw → (X : Presheaf) → IsFilledFunctor k raw X → IsFunctor k X → (presheaf_fault k raw ≡ None) × (X ≡ filled_presheaf k raw)
filled_one k raw law ok X fills functor =
    let same : X ≡ record { sizes = raw.sizes; along = X.along } = ap (λ (s : List ℕ). record { sizes = s; along = X.along }) fills.sizes in
    let one = one_of_rows k raw law ok X.along (subst (IsFilledFunctor k raw) same fills) (subst (IsFunctor k) same functor) in
    (one.0, same ∙ one.1)
