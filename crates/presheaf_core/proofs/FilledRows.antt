-- The rows of a filled presheaf, one after another.
use Rattle.std.proofs.Common.{◌≡◌, ℕ, zero, suc, ◌+◌, ◌-◌, ◌<◌, ◌≤◌, inl, inr, Bool, true, false, cond, not, ◌||◌, eqb, ltb, List, [], ◌∷◌, ◌++◌, map, length, get_or, Option, Some, None, refl, sym, ap, subst, ◌∙◌, arith}
use Rattle.std.specs.List.{range_with_len}
use Rattle.std.proofs.lemmas.Bool.{cond-true, cond-false, eqb-true, lt-ltb, le-ltb, cases_lt, not-false}
use Rattle.std.proofs.lemmas.List.{get_or_append_left, get_or-append_right, length-append}
use Rattle.std.proofs.lemmas.List.FromFn.{length-range_with_len, get_or-range_with_len, length-map-range_with_len, get_or-map-range_with_len}
use Rattle.finite_lists.specs.Members.{In}
use Rattle.finite_lists.specs.First.{some_if}
use Rattle.finite_lists.proofs.DistinctLists.{In-range}
use Rattle.finite_lists.proofs.FirstAnswers.{first_none_each, some_if-false}
use Rattle.topos_model.specs.declared.raw.RawFunctor.{RawFunctor}
use Rattle.topos_model.specs.declared.fault.Fault.TheVariants.{NotTotal, RestrictionMissing}
use Rattle.topos_model.specs.categories.Category.{Category, dom, cod}
use Rattle.topos_model.specs.types.Types.{Presheaf}
use Rattle.topos_model.specs.Laws.{act, size, IsCategory}
use Rattle.topos_model.specs.categories.Listed.{entry_at, entries_along, listed_row}
use Rattle.topos_model.specs.categories.Filling.{has_restriction, filling_pair, composite_row, filled_row, filled_rows}
use Rattle.topos_model.specs.presheaves.PresheafFaults.{has_entry, listed_size, total_fault, missing_restriction_fault, restriction_fault, IsPresheafListing}
use Rattle.presheaf_core.specs.Filling.{row_fault, IsRowAlong, AreRowsBelow}
use Rattle.presheaf_core.proofs.ListedEntries.{entry_in, restriction_in}
use Rattle.presheaf_core.proofs.FillingPairs.{filling_is}

module _ (k : Category) (raw : RawFunctor) where
  pub length-filled_rows : (n : ℕ) → length (filled_rows k raw n) ≡ n
  unfolding filled_rows
  length-filled_rows zero = refl
  length-filled_rows (suc n) = length-append (filled_rows k raw n) (filled_row k raw (filled_rows k raw n) n ∷ []) ∙ omega (arith, length-filled_rows n)

  pub filled_rows-none : [] ≡ filled_rows k raw 0
  unfolding filled_rows
  filled_rows-none = refl

  pub filled_rows-more : (n : ℕ) → filled_rows k raw (n + 1) ≡ filled_rows k raw n ++ filled_row k raw (filled_rows k raw n) n ∷ []
  unfolding filled_rows
  filled_rows-more n = let e : n + 1 ≡ suc n = omega arith in ap (filled_rows k raw) e

  pub filled_at : (n f : ℕ) → f < n → get_or (filled_rows k raw n) f [] ≡ filled_row k raw (filled_rows k raw f) f
  unfolding filled_rows
  filled_at zero f low = absurd (omega arith)
  filled_at (suc n) f low =
      elim (cases_lt f n) [
        | inl before ↦ get_or_append_left (filled_rows k raw n) _ [] f (rw (length-filled_rows n) before) ∙ filled_at n f before
        | inr last ↦
            let same : f ≡ n = omega arith in
            let zeroth : f - n ≡ 0 = omega arith in
            get_or-append_right (filled_rows k raw n) (filled_row k raw (filled_rows k raw n) n ∷ []) n f [] (length-filled_rows n) last
            ∙ ap (λ i. get_or (filled_row k raw (filled_rows k raw n) n ∷ []) i []) zeroth ∙ ap (λ m. filled_row k raw (filled_rows k raw m) m) (sym same)
      ]

  -- the three kinds of rows
  pub filled_row-listed : (rows : List (List ℕ)) (f : ℕ) → (ltb f k.objects || has_restriction raw.along f) ≡ true → filled_row k raw rows f ≡ listed_row k raw f
  unfolding filled_row
  filled_row-listed rows f t = cond-true (ltb f k.objects || has_restriction raw.along f) _ _ t

  pub filled_row-pair : (rows : List (List ℕ)) (f : ℕ) (p : ℕ × ℕ) → (ltb f k.objects || has_restriction raw.along f) ≡ false → filling_pair k f ≡ Some p →
      filled_row k raw rows f ≡ composite_row k (record { sizes = raw.sizes; along = rows }) f p
  unfolding filled_row
  filled_row-pair rows f p t e =
      cond-false (ltb f k.objects || has_restriction raw.along f) _ _ t
      ∙ ap (λ (o : Option (ℕ × ℕ)). elim o [ Some p ↦ composite_row k (record { sizes = raw.sizes; along = rows }) f p | None ↦ [] ]) e

  pub filled_row-nothing : (rows : List (List ℕ)) (f : ℕ) → (ltb f k.objects || has_restriction raw.along f) ≡ false → filling_pair k f ≡ None → filled_row k raw rows f ≡ []
  unfolding filled_row
  filled_row-nothing rows f t e =
      cond-false (ltb f k.objects || has_restriction raw.along f) _ _ t
      ∙ ap (λ (o : Option (ℕ × ℕ)). elim o [ Some p ↦ composite_row k (record { sizes = raw.sizes; along = rows }) f p | None ↦ [] ]) e

  pub row_length : (f : ℕ) → length (listed_row k raw f) ≡ get_or raw.sizes (cod k f) 0
  unfolding listed_row
  row_length f = at (ltb f k.objects)
    where
      at : (b : Bool) → length (cond b (range_with_len 0 (get_or raw.sizes (cod k f) 0)) (map (entry_at (entries_along raw.along f)) (range_with_len 0 (get_or raw.sizes (cod k f) 0)))) ≡ get_or raw.sizes (cod k f) 0
      at true = length-range_with_len 0 (get_or raw.sizes (cod k f) 0)
      at false = length-map-range_with_len (entry_at (entries_along raw.along f)) 0 (get_or raw.sizes (cod k f) 0)

  pub identity_at : (f x : ℕ) → f < k.objects → x < get_or raw.sizes (cod k f) 0 → get_or (listed_row k raw f) x 0 ≡ x
  unfolding listed_row
  identity_at f x b low =
      ap (λ (l : List ℕ). get_or l x 0) (cond-true (ltb f k.objects) (range_with_len 0 (get_or raw.sizes (cod k f) 0)) _ (lt-ltb f k.objects b))
      ∙ get_or-range_with_len 0 (get_or raw.sizes (cod k f) 0) x 0 low ∙ omega arith

  pub declared_at : (f x : ℕ) → k.objects ≤ f → x < get_or raw.sizes (cod k f) 0 → get_or (listed_row k raw f) x 0 ≡ entry_at (entries_along raw.along f) x
  unfolding listed_row
  declared_at f x b low =
      ap (λ (l : List ℕ). get_or l x 0) (cond-false (ltb f k.objects) _ (map (entry_at (entries_along raw.along f)) (range_with_len 0 (get_or raw.sizes (cod k f) 0))) (le-ltb f k.objects b))
      ∙ get_or-map-range_with_len (entry_at (entries_along raw.along f)) 0 (get_or raw.sizes (cod k f) 0) x x 0 low (omega arith)

  pub length-composite_row : (X : Presheaf) (f : ℕ) (p : ℕ × ℕ) → length (composite_row k X f p) ≡ size X (cod k f)
  unfolding composite_row
  length-composite_row X f p = length-map-range_with_len (λ x. act X p.1 (act X p.0 x)) 0 (size X (cod k f))

  pub composite_row_at : (X : Presheaf) (f : ℕ) (p : ℕ × ℕ) (x : ℕ) → x < size X (cod k f) → get_or (composite_row k X f p) x 0 ≡ act X p.1 (act X p.0 x)
  unfolding composite_row
  composite_row_at X f p x low = get_or-map-range_with_len (λ x. act X p.1 (act X p.0 x)) 0 (size X (cod k f)) x x 0 low (omega arith)

  -- what no fault of a restriction says
  pub all_entered : (f x : ℕ) → has_restriction raw.along f ≡ true → restriction_fault k raw f ≡ None → x < get_or raw.sizes (cod k f) 0 → has_entry (entries_along raw.along f) x ≡ true
  unfolding restriction_fault total_fault
  all_entered f x t none low =
      let total = sym (cond-true (has_restriction raw.along f) _ (missing_restriction_fault k raw f) t) ∙ none in
      not-false _ (some_if-false _ (NotTotal f x) (first_none_each _ (range_with_len 0 (listed_size k raw f)) x total (In-range 0 (listed_size k raw f) x (omega arith) (omega arith))))

  pub nothing_to_fill : (f : ℕ) → has_restriction raw.along f ≡ false → restriction_fault k raw f ≡ None → filling_pair k f ≡ None → get_or raw.sizes (cod k f) 0 ≡ 0
  unfolding restriction_fault missing_restriction_fault
  nothing_to_fill f t none e =
      let missing : some_if (not (eqb (listed_size k raw f) 0)) (RestrictionMissing f) ≡ None =
      sym (ap (λ (o : Option (ℕ × ℕ)). elim o [ Some p ↦ None | None ↦ some_if (not (eqb (listed_size k raw f) 0)) (RestrictionMissing f) ]) e)
      ∙ sym (cond-false (has_restriction raw.along f) (total_fault k raw f) _ t) ∙ none in
      eqb-true _ 0 (not-false _ (some_if-false _ (RestrictionMissing f) missing))

  module _ (law : IsCategory k) (ok : IsPresheafListing k raw) where
    -- an entry goes from an element to an element
    pub entry_within : (f x : ℕ) → has_restriction raw.along f ≡ true → has_entry (entries_along raw.along f) x ≡ true → entry_at (entries_along raw.along f) x < get_or raw.sizes (dom k f) 0
    entry_within f x t h =
        let r = restriction_in raw.along f t in
        let i : In {A = ℕ × ℕ} r.0.entries (x, entry_at (entries_along raw.along f) x) = subst (λ (l : List (ℕ × ℕ)). In {A = ℕ × ℕ} l (x, entry_at (entries_along raw.along f) x)) r.3 (entry_in (entries_along raw.along f) x h) in
        subst (λ (f' : ℕ). entry_at (entries_along raw.along f) x < get_or raw.sizes (dom k f') 0) r.2 (ok.entries r.0 r.1 (x, entry_at (entries_along raw.along f) x) i).1

    declared_row : (n : ℕ) (rows : List (List ℕ)) → n < length k.ends → k.objects ≤ n → AreRowsBelow k raw n rows → restriction_fault k raw n ≡ None → (b : Bool) → has_restriction raw.along n ≡ b →
        IsRowAlong k raw n (filled_row k raw rows n)
    declared_row n rows low high below none true t =
        let is = filled_row-listed rows n (ap (λ b. ltb n k.objects || b) t ∙ ap (λ b. b || true) (le-ltb n k.objects high)) in
        rw is (record {
          total = row_length n;
          within = λ x xs. rw (declared_at n x high xs) (entry_within n x t (all_entered n x t none xs));
        })
    declared_row n rows low high below none false t = at (filling_pair k n) refl
      where
        off : (ltb n k.objects || has_restriction raw.along n) ≡ false
        off = ap (λ b. b || has_restriction raw.along n) (le-ltb n k.objects high) ∙ t

        at : (o : Option (ℕ × ℕ)) → filling_pair k n ≡ o → IsRowAlong k raw n (filled_row k raw rows n)
        at (Some p) e =
            let w = filling_is k n p e in
            let X : Presheaf = record { sizes = raw.sizes; along = rows } in
            let first_row = below.each p.0 w.2 in
            let second_row = below.each p.1 w.4 in
            let c = law.composite (cod k p.0) p.0 p.1 (w.0.0, refl) w.0.1 in
            let ec : cod k n ≡ cod k p.0 = sym (ap (cod k) w.5) ∙ c.0.1 in
            let ed : dom k n ≡ dom k p.1 = sym (ap (dom k) w.5) ∙ c.1 in
            rw (filled_row-pair rows n p off e) (record {
              total = length-composite_row X n p;
              within = λ x xs.
                  let one : act X p.0 x < get_or raw.sizes (dom k p.0) 0 = first_row.within x (subst (λ d. x < get_or raw.sizes d 0) ec xs) in
                  let two : act X p.1 (act X p.0 x) < get_or raw.sizes (dom k p.1) 0 = second_row.within (act X p.0 x) (subst (λ d. act X p.0 x < get_or raw.sizes d 0) (sym w.0.1.1) one) in
                  rw (composite_row_at X n p x xs) (subst (λ d. act X p.1 (act X p.0 x) < get_or raw.sizes d 0) (sym ed) two);
            })
        at None e =
            let nothing = nothing_to_fill n t none e in
            rw (filled_row-nothing rows n off e) (record { total = sym nothing; within = λ x xs. absurd (omega arith) })

    pub row_along : (n : ℕ) (rows : List (List ℕ)) → n < length k.ends → AreRowsBelow k raw n rows → row_fault k raw n ≡ None → IsRowAlong k raw n (filled_row k raw rows n)
    row_along n rows low below none =
        elim (cases_lt n k.objects) [
          | inl identity ↦
              let id = law.identity n identity in
              let is = filled_row-listed rows n (ap (λ b. b || has_restriction raw.along n) (lt-ltb n k.objects identity)) in
              rw is (record {
                total = row_length n;
                within = λ x xs. rw (identity_at n x identity xs) (subst (λ d. x < get_or raw.sizes d 0) (id.0.1 ∙ sym id.1) xs);
              })
          | inr high ↦ declared_row n rows low high below (sym (cond-false (ltb n k.objects) None _ (le-ltb n k.objects high)) ∙ none) (has_restriction raw.along n) refl
        ]

    -- one row more
    pub rows_more : (n : ℕ) (rows : List (List ℕ)) (row : List ℕ) → AreRowsBelow k raw n rows → IsRowAlong k raw n row → AreRowsBelow k raw (n + 1) (rows ++ row ∷ [])
    rows_more n rows row below along = record {
      count = length-append rows (row ∷ []) ∙ ap (λ m. m + 1) below.count;
      each = λ f low.
          elim (cases_lt f n) [
            | inl before ↦ rw (get_or_append_left rows (row ∷ []) [] f (rw below.count before)) (below.each f before)
            | inr last ↦
                let same : f ≡ n = omega arith in
                let zeroth : f - n ≡ 0 = omega arith in
                let e : get_or (rows ++ row ∷ []) f [] ≡ row = get_or-append_right rows (row ∷ []) n f [] below.count last ∙ ap (λ i. get_or (row ∷ []) i []) zeroth in
                rw e (subst (λ f. IsRowAlong k raw f row) (sym same) along)
          ];
    }

    pub filled_below : (n : ℕ) → n ≤ length k.ends → ((f : ℕ) → f < n → row_fault k raw f ≡ None) → AreRowsBelow k raw n (filled_rows k raw n)
    unfolding filled_rows
    filled_below zero low none = record { count = refl; each = λ f l. absurd (omega arith) }
    filled_below (suc n) low none =
        let below = filled_below n (omega arith) (λ f l. none f (omega arith)) in
        let more = rows_more n (filled_rows k raw n) (filled_row k raw (filled_rows k raw n) n) below (row_along n (filled_rows k raw n) (omega arith) below (none n (omega arith))) in
        let e : n + 1 ≡ suc n = omega arith in
        subst (λ m. AreRowsBelow k raw m (filled_rows k raw n ++ filled_row k raw (filled_rows k raw n) n ∷ [])) e more
