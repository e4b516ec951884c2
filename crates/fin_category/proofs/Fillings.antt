-- The square table of the composites, pair by pair and row by row.
use Rattle.std.proofs.Common.{◌≡◌, ℕ, suc, ◌+◌, ◌*◌, ◌<◌, ◌≤◌, Bool, true, false, cond, not, ◌||◌, eqb, ltb, ◌⊎◌, inl, inr, List, [], ◌∷◌, ◌++◌, map, filter, length, get_or, set, Option, Some, None, refl, sym, ap, subst, ◌∙◌, arith, length-set, get_or-set_same, get_or-set_other}
use Rattle.std.specs.List.{range_with_len}
use Rattle.std.specs.Option.{option_map}
use Rattle.std.proofs.lemmas.Bool.{lt-ltb, le-ltb, cases_eq, eqb-true, eq-eqb, ne_eqb}
use Rattle.std.proofs.lemmas.Nat.{mul-add-lt, same_from_place}
use Rattle.std.specs.List.{slice_get}
use Rattle.std.proofs.lemmas.Option.{get_or_from_slice_get}
use Rattle.finite_lists.specs.Members.{In}
use Rattle.finite_lists.specs.First.{first, some_if}
use Rattle.finite_lists.proofs.Lists.{In-append_cases, In-filter, In-filter_from, filter_filter}
use Rattle.finite_lists.proofs.DistinctLists.{In-range, In-range_from}
use Rattle.finite_lists.proofs.FirstAnswers.{first_same, first-map, first-flat_map, option_map-first, option_map-some_if}
use Rattle.topos_model.specs.declared.raw.RawCat.{RawCat}
use Rattle.topos_model.specs.declared.fault.Fault.{Fault}
use Rattle.topos_model.specs.declared.fault.Fault.TheVariants.{CompositeMissing}
use Rattle.topos_model.specs.categories.Category.{composite}
use Rattle.topos_model.specs.categories.Listed.{all_ends, meet, composable}
use Rattle.topos_model.specs.categories.Filling.{domain_of, codomain_of, candidates, has_composite, filled_composite}
use Rattle.topos_model.specs.categories.CategoryFaults.{is_determined, missing_composite_fault}
use Rattle.fin_category.specs.Tables.{entry, ending_at}
use Rattle.fin_category.specs.declared.listing.Listing.{Listing}
use Rattle.fin_category.specs.Listings.{listed_at, IsListing}
use Rattle.fin_category.specs.Filling.{sole, determined_composite, undetermined, first_undetermined, HoldsRow, IsSameButRow}
use Rattle.fin_category.proofs.Views.{length-each, get_or-each}
use Rattle.fin_category.proofs.Listings.{listed_at-none, listed_at-some, composite-listed_at}

module _ (raw : RawCat) (g f : ℕ) where
  pub determined-second : g < raw.objects → Some f ≡ determined_composite raw g f
  unfolding determined_composite is_determined filled_composite
  determined-second h =
      let t = lt-ltb g raw.objects h in
      sym (ap (λ b. some_if (b || ltb f raw.objects || has_composite raw.listed g f || eqb (length (candidates (all_ends raw) g f)) 1) (cond b f (cond (ltb f raw.objects) g (cond (has_composite raw.listed g f) (composite raw.listed g f) (get_or (candidates (all_ends raw) g f) 0 0))))) t)

  -- where g is declared
  by_first : (b : Bool) → ltb g raw.objects ≡ false → ltb f raw.objects ≡ b →
      determined_composite raw g f ≡ some_if (b || has_composite raw.listed g f || eqb (length (candidates (all_ends raw) g f)) 1) (cond b g (cond (has_composite raw.listed g f) (composite raw.listed g f) (get_or (candidates (all_ends raw) g f) 0 0)))
  unfolding determined_composite is_determined filled_composite
  by_first b s t =
      ap (λ b. some_if (b || ltb f raw.objects || has_composite raw.listed g f || eqb (length (candidates (all_ends raw) g f)) 1) (cond b f (cond (ltb f raw.objects) g (cond (has_composite raw.listed g f) (composite raw.listed g f) (get_or (candidates (all_ends raw) g f) 0 0))))) s
      ∙ ap (λ b. some_if (b || has_composite raw.listed g f || eqb (length (candidates (all_ends raw) g f)) 1) (cond b g (cond (has_composite raw.listed g f) (composite raw.listed g f) (get_or (candidates (all_ends raw) g f) 0 0)))) t

  pub determined-first : raw.objects ≤ g → f < raw.objects → Some g ≡ determined_composite raw g f
  determined-first h l = sym (by_first true (le-ltb g raw.objects h) (lt-ltb f raw.objects l))

  pub determined-listed : (h : ℕ) → raw.objects ≤ g → raw.objects ≤ f → listed_at raw.listed g f ≡ Some h → Some h ≡ determined_composite raw g f
  determined-listed h p q e =
      sym (by_first false (le-ltb g raw.objects p) (le-ltb f raw.objects q)
      ∙ ap (λ b. some_if (b || eqb (length (candidates (all_ends raw) g f)) 1) (cond b (composite raw.listed g f) (get_or (candidates (all_ends raw) g f) 0 0))) (listed_at-some raw.listed g f h e)
      ∙ ap Some (composite-listed_at raw.listed g f h e))

  sole_is : (xs : List ℕ) → sole xs ≡ some_if (eqb (length xs) 1) (get_or xs 0 0)
  sole_is [] = refl
  sole_is (x ∷ []) = refl
  sole_is (x ∷ y ∷ xs) = sym (ap (λ b. some_if b x) (ne_eqb (suc (suc (length xs))) 1 (λ e. absurd (omega (arith, e)))))

  pub determined-only : raw.objects ≤ g → raw.objects ≤ f → listed_at raw.listed g f ≡ None →
      sole (filter (λ h. eqb (domain_of (all_ends raw) h) (domain_of (all_ends raw) f)) (ending_at (all_ends raw) (codomain_of (all_ends raw) g))) ≡ determined_composite raw g f
  unfolding candidates ending_at
  determined-only p q e =
      ap sole (filter_filter (λ h. eqb (domain_of (all_ends raw) h) (domain_of (all_ends raw) f)) (λ h. eqb (codomain_of (all_ends raw) h) (codomain_of (all_ends raw) g)) (range_with_len 0 (length (all_ends raw))))
      ∙ sole_is (candidates (all_ends raw) g f)
      ∙ sym (by_first false (le-ltb g raw.objects p) (le-ltb f raw.objects q)
      ∙ ap (λ b. some_if (b || eqb (length (candidates (all_ends raw) g f)) 1) (cond b (composite raw.listed g f) (get_or (candidates (all_ends raw) g f) 0 0))) (listed_at-none raw.listed g f e))

  determined_cases : (b : Bool) → is_determined raw g f ≡ b → determined_composite raw g f ≡ some_if b (filled_composite raw g f)
  unfolding determined_composite
  determined_cases b e = ap (λ b. some_if b (filled_composite raw g f)) e

  -- what a composite that is found says
  pub determined_some : (h : ℕ) → Some h ≡ determined_composite raw g f → (undetermined raw g f ≡ None) × (h ≡ filled_composite raw g f)
  determined_some h e = at (is_determined raw g f) refl
    where
      at : (b : Bool) → is_determined raw g f ≡ b → (some_if (not b) f ≡ None) × (h ≡ filled_composite raw g f)
      at true t = let s : Some h ≡ Some (filled_composite raw g f) = e ∙ determined_cases true t in (refl, cc)
      at false t = let s : Some h ≡ None = e ∙ determined_cases false t in cc

  pub determined_none : None ≡ determined_composite raw g f → undetermined raw g f ≡ Some f
  determined_none e = at (is_determined raw g f) refl
    where
      at : (b : Bool) → is_determined raw g f ≡ b → some_if (not b) f ≡ Some f
      at true t = let s : None ≡ Some (filled_composite raw g f) = e ∙ determined_cases true t in cc
      at false t = refl

pub arrow_in : (ends : List (ℕ × ℕ)) (c f : ℕ) → In (ending_at ends c) f → (f < length ends) × ((get_or ends f (0, 0)).1 ≡ c)
unfolding ending_at
arrow_in ends c f i =
    let r = In-filter_from (λ f. eqb (get_or ends f (0, 0)).1 c) (range_with_len 0 (length ends)) f i in
    let low = In-range_from 0 (length ends) f r.0 in
    (omega arith, eqb-true _ _ r.1)

pub in_ending_at : (ends : List (ℕ × ℕ)) (c f : ℕ) → f < length ends → (get_or ends f (0, 0)).1 ≡ c → In (ending_at ends c) f
unfolding ending_at
in_ending_at ends c f low e = In-filter (λ f. eqb (get_or ends f (0, 0)).1 c) (range_with_len 0 (length ends)) f (In-range 0 (length ends) f (omega arith) (omega arith)) (eq-eqb _ _ e)

pub place_within : (n : ℕ) (square : List ℕ) (g f : ℕ) → length square ≡ n * n → g < n → f < n → g * n + f < length square
place_within n square g f p a b = omega (arith, mul-add-lt g n f n a b)

-- one entry is written
module _ (n g f h : ℕ) (square : List ℕ) (places : length square ≡ n * n) (second : g < n) (first : f < n) where
  pub same_but_row : (initial : List ℕ) → IsSameButRow n g initial square → IsSameButRow n g initial (set square (g * n + f) h)
  same_but_row initial same = record {
    places = length-set square (g * n + f) h ∙ same.places;
    entries = λ i j other low.
        get_or-set_other square (g * n + f) (i * n + j) h 0 (λ e. other (same_from_place i j g f n low first e).0) ∙ same.entries i j other low;
  }

  pub held_entry : (value : ℕ → ℕ) (held : List ℕ) → h ≡ value f → ((k : ℕ) → In held k → k < n) → ((k : ℕ) → In held k → entry square n g k ≡ value k) →
      (k : ℕ) → In (held ++ f ∷ []) k → entry (set square (g * n + f) h) n g k ≡ value k
  held_entry value held e low was k i = at (cases_eq k f) (In-append_cases held (f ∷ []) k i)
    where
      at : (k ≡ f) ⊎ (k ≡ f → ⊥) → In held k ⊎ In (f ∷ []) k → entry (set square (g * n + f) h) n g k ≡ value k
      at (inl same) j =
          ap (λ (k : ℕ). entry (set square (g * n + f) h) n g k) same ∙ get_or-set_same square (g * n + f) h 0 (place_within n square g f places second first) ∙ e ∙ ap value (sym same)
      at (inr other) (inl j) = get_or-set_other square (g * n + f) (g * n + k) h 0 (λ e. other (same_from_place g k g f n (low k j) first e).1) ∙ was k j
      at (inr other) (inr (inl same)) = absurd (other (sym same))
      at (inr other) (inr (inr j)) = absurd j

-- the fault of row g
abbrev pub missing_from : RawCat → ℕ → Option Fault
missing_from raw g = option_map (λ f. CompositeMissing g f) (first_undetermined raw g)

pub missing_by_rows : (raw : RawCat) → missing_composite_fault raw ≡ first (missing_from raw) (range_with_len 0 (length (all_ends raw)))
unfolding missing_composite_fault composable first_undetermined ending_at
missing_by_rows raw =
    first-flat_map (λ (p : ℕ × ℕ). some_if (not (is_determined raw p.0 p.1)) (CompositeMissing p.0 p.1)) (λ (g : ℕ). map (λ (f : ℕ). (g, f)) (filter (meet (all_ends raw) g) (range_with_len 0 (length (all_ends raw))))) (range_with_len 0 (length (all_ends raw)))
    ∙ first_same _ _ (range_with_len 0 (length (all_ends raw))) (λ g i.
    first-map (λ (p : ℕ × ℕ). some_if (not (is_determined raw p.0 p.1)) (CompositeMissing p.0 p.1)) (λ (f : ℕ). (g, f)) (filter (meet (all_ends raw) g) (range_with_len 0 (length (all_ends raw))))
    ∙ first_same _ _ (filter (meet (all_ends raw) g) (range_with_len 0 (length (all_ends raw)))) (λ f j. sym (option_map-some_if (λ f. CompositeMissing g f) (not (is_determined raw g f)) f))
    ∙ sym (option_map-first (λ f. CompositeMissing g f) (undetermined raw g) (filter (meet (all_ends raw) g) (range_with_len 0 (length (all_ends raw))))))

-- the rows of what is known
pub row_of : (raw : RawCat) (listing : Listing) → IsListing raw listing → (c : ℕ) (row : List ℕ) → c < raw.objects → slice_get listing.rows c ≡ Some row → row ≡ ending_at (all_ends raw) c
row_of raw listing known c row low found =
    sym (get_or_from_slice_get listing.rows c row [] found) ∙ ap (λ (rows : List (List ℕ)). get_or rows c []) known.rows ∙ get_or-each (all_ends raw) raw.objects c low

pub count_rows : (raw : RawCat) (listing : Listing) → IsListing raw listing → length listing.rows ≡ raw.objects
count_rows raw listing known = ap length known.rows ∙ length-each (all_ends raw) raw.objects

-- one row more
pub other_rows : (raw : RawCat) (g : ℕ) (square other : List ℕ) → IsSameButRow (length (all_ends raw)) g square other → ((i : ℕ) → i < g → HoldsRow raw square i) → HoldsRow raw other g →
    (i : ℕ) → i < g + 1 → HoldsRow raw other i
other_rows raw g square other same rows row i low = at (cases_eq i g)
  where
    at : (i ≡ g) ⊎ (i ≡ g → ⊥) → HoldsRow raw other i
    at (inl e) = subst (HoldsRow raw other) (sym e) row
    at (inr apart) = λ f h m. same.entries i f apart h ∙ rows i (omega arith) f h m
