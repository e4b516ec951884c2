-- Filled presheaves: where no fault is found, the filled presheaf is a functor and has what is listed.
use Rattle.std.proofs.Common.{◌≡◌, ℕ, ◌<◌, ◌≤◌, Bool, true, false, cond, not, ◌||◌, ltb, List, [], length, get_or, Option, Some, None, refl, sym, ap, subst, ◌∙◌, arith}
use Rattle.std.proofs.lemmas.Bool.{cond-false, lt-ltb, le-ltb}
use Rattle.finite_lists.specs.Members.{In}
use Rattle.finite_lists.specs.First.{first, or_else}
use Rattle.finite_lists.proofs.DistinctLists.{In-range}
use Rattle.finite_lists.proofs.FirstAnswers.{first_none_each, first_same, first-filter, or_else_none}
use Rattle.topos_model.specs.declared.raw.RawFunctor.{RawFunctor}
use Rattle.topos_model.specs.declared.raw.RawAlong.{RawAlong}
use Rattle.topos_model.specs.declared.fault.Fault.{Fault}
use Rattle.topos_model.specs.categories.Category.{Category, cod, arrows}
use Rattle.topos_model.specs.types.Types.{Presheaf}
use Rattle.topos_model.specs.Laws.{act, size, IsCategory, IsFunctor}
use Rattle.topos_model.specs.categories.Listed.{entry_at, entries_along}
use Rattle.topos_model.specs.categories.Filling.{has_restriction, filling_pair, filled_row, filled_rows, filled_presheaf, IsFilledFunctor}
use Rattle.topos_model.specs.presheaves.PresheafFaults.{declared, restriction_fault, presheaf_fault, IsPresheafListing}
use Rattle.topos_model.specs.Faults.{functoriality_fault}
use Rattle.presheaf_core.specs.declared.fault.FunctorFault.{FunctorFault}
use Rattle.presheaf_core.specs.declared.fault.FunctorFault.TheVariants.{RestrictionMissing, NotTotal, NotFunctorial, NoMemory}
use Rattle.presheaf_core.specs.Faults.{IsFound, IsFaultOf}
use Rattle.presheaf_core.specs.Rows.{AreRows}
use Rattle.presheaf_core.specs.Filling.{row_fault, AreRowsBelow}
use Rattle.presheaf_core.proofs.ListedEntries.{entry_in, has_restriction_from, restriction_once}
use Rattle.presheaf_core.proofs.FillingPairs.{filling_is}
use Rattle.presheaf_core.proofs.FilledRows.{length-filled_rows, filled_at, filled_row-listed, filled_row-pair, identity_at, declared_at, composite_row_at, all_entered, nothing_to_fill, filled_below}
use Rattle.presheaf_core.proofs.FunctorLaws.{no_fault_composes}

-- the faults of the restrictions, over all arrows
pub restriction_faults : (k : Category) (raw : RawFunctor) → first (restriction_fault k raw) (declared k) ≡ first (row_fault k raw) (arrows k)
unfolding declared
restriction_faults k raw =
    first-filter (restriction_fault k raw) (λ f. not (ltb f k.objects)) (arrows k)
    ∙ first_same _ _ (arrows k) (λ f i. turned (ltb f k.objects) (restriction_fault k raw f))
  where
    turned : (b : Bool) (o : Option Fault) → cond (not b) o None ≡ cond b None o
    turned true o = refl
    turned false o = refl

pub no_fault_parts : (k : Category) (raw : RawFunctor) → presheaf_fault k raw ≡ None → (first (row_fault k raw) (arrows k) ≡ None) × (functoriality_fault k (filled_presheaf k raw) ≡ None)
unfolding presheaf_fault
no_fault_parts k raw none =
    let a = or_else_none (first (restriction_fault k raw) (declared k)) _ none in
    (sym (restriction_faults k raw) ∙ a.0, a.1)

module _ (k : Category) (raw : RawFunctor) where
  pub sizes-filled : (filled_presheaf k raw).sizes ≡ raw.sizes
  unfolding filled_presheaf
  sizes-filled = refl

  pub along-filled : (filled_presheaf k raw).along ≡ filled_rows k raw (length k.ends)
  unfolding filled_presheaf
  along-filled = refl

  row_at : (f : ℕ) → f < length k.ends → get_or (filled_presheaf k raw).along f [] ≡ filled_row k raw (filled_rows k raw f) f
  row_at f low = ap (λ rows. get_or rows f []) along-filled ∙ filled_at k raw (length k.ends) f low

  -- a row of the filled presheaf, as it stands among the rows before n
  earlier : (n f x : ℕ) → f < n → n ≤ length k.ends → get_or (get_or (filled_rows k raw n) f []) x 0 ≡ act (filled_presheaf k raw) f x
  earlier n f x low few = ap (λ (row : List ℕ). get_or row x 0) (filled_at k raw n f low ∙ sym (row_at f (omega arith)))

  module _ (law : IsCategory k) (ok : IsPresheafListing k raw) (none : (f : ℕ) → f < length k.ends → row_fault k raw f ≡ None) where
    rows_below : AreRowsBelow k raw (length k.ends) (filled_rows k raw (length k.ends))
    rows_below = filled_below k raw law ok (length k.ends) (omega arith) none

    pub rows-filled : AreRows k (filled_presheaf k raw)
    unfolding filled_presheaf
    rows-filled = record {
      objects = ok.sizes;
      arrows = length-filled_rows k raw (length k.ends);
      total = λ c f i. (rows_below.each f i.0).total ∙ ap (λ d. get_or raw.sizes d 0) i.1;
      within = λ c f x i low. (rows_below.each f i.0).within x (subst (λ d. x < get_or raw.sizes d 0) (sym i.1) low);
    }

    pub identity-filled : (c x : ℕ) → c < k.objects → x < size (filled_presheaf k raw) c → act (filled_presheaf k raw) c x ≡ x
    unfolding filled_presheaf
    identity-filled c x low xs =
        let id = law.identity c low in
        ap (λ (row : List ℕ). get_or row x 0) (row_at c id.0.0 ∙ filled_row-listed k raw (filled_rows k raw c) c (ap (λ b. b || has_restriction raw.along c) (lt-ltb c k.objects low)))
        ∙ identity_at k raw c x low (subst (λ d. x < get_or raw.sizes d 0) (sym id.0.1) xs)

    declared_none : (f : ℕ) → k.objects ≤ f → f < length k.ends → restriction_fault k raw f ≡ None
    declared_none f high low = sym (cond-false (ltb f k.objects) None _ (le-ltb f k.objects high)) ∙ none f low

    pub listed-filled : (a : RawAlong) → In raw.along a → (x : ℕ) → x < size (filled_presheaf k raw) (cod k a.arrow) → In {A = ℕ × ℕ} a.entries (x, act (filled_presheaf k raw) a.arrow x)
    unfolding filled_presheaf
    listed-filled a i x xs =
        let within = ok.arrows a i in
        let has = has_restriction_from raw.along a i in
        let same = restriction_once raw.along a ok.arrows_once i in
        let entered = all_entered k raw a.arrow x has (declared_none a.arrow within.0 within.1) xs in
        let on : (ltb a.arrow k.objects || has_restriction raw.along a.arrow) ≡ true = ap (λ b. ltb a.arrow k.objects || b) has ∙ ap (λ b. b || true) (le-ltb a.arrow k.objects within.0) in
        let e : act (filled_presheaf k raw) a.arrow x ≡ entry_at (entries_along raw.along a.arrow) x =
        ap (λ (row : List ℕ). get_or row x 0) (row_at a.arrow within.1 ∙ filled_row-listed k raw (filled_rows k raw a.arrow) a.arrow on) ∙ declared_at k raw a.arrow x within.0 xs in
        subst (λ (y : ℕ). In {A = ℕ × ℕ} a.entries (x, y)) (sym e)
        (subst (λ (l : List (ℕ × ℕ)). In {A = ℕ × ℕ} l (x, entry_at (entries_along raw.along a.arrow) x)) same (entry_in (entries_along raw.along a.arrow) x entered))

    pub pairs-filled : (f x : ℕ) → k.objects ≤ f → f < length k.ends → has_restriction raw.along f ≡ false → x < size (filled_presheaf k raw) (cod k f) →
        (p : ℕ × ℕ) × (filling_pair k f ≡ Some p) × (act (filled_presheaf k raw) f x ≡ act (filled_presheaf k raw) p.1 (act (filled_presheaf k raw) p.0 x))
    unfolding filled_presheaf
    pairs-filled f x high low off xs = at (filling_pair k f) refl
      where
        both_off : (ltb f k.objects || has_restriction raw.along f) ≡ false
        both_off = ap (λ b. b || has_restriction raw.along f) (le-ltb f k.objects high) ∙ off

        before : Presheaf
        before = record { sizes = raw.sizes; along = filled_rows k raw f }

        at : (o : Option (ℕ × ℕ)) → filling_pair k f ≡ o → (p : ℕ × ℕ) × (filling_pair k f ≡ Some p) × (act (filled_presheaf k raw) f x ≡ act (filled_presheaf k raw) p.1 (act (filled_presheaf k raw) p.0 x))
        at (Some p) e =
            let w = filling_is k f p e in (
              p,
              e,
              ap (λ (row : List ℕ). get_or row x 0) (row_at f low ∙ filled_row-pair k raw (filled_rows k raw f) f p both_off e)
                  ∙ composite_row_at k raw (record { sizes = raw.sizes; along = filled_rows k raw f }) f p x xs
                  ∙ earlier f p.1 _ w.4 (omega arith) ∙ ap (act (filled_presheaf k raw) p.1) (earlier f p.0 x w.2 (omega arith)),
            )
        at None e =
            let nothing : get_or raw.sizes (cod k f) 0 ≡ 0 = nothing_to_fill k raw f off (declared_none f high low) e in
            absurd (omega (arith, xs, nothing))

    pub filled_is : IsFilledFunctor k raw (filled_presheaf k raw)
    filled_is = record {
      sizes = sizes-filled;
      arrows = rows-filled.arrows;
      total = rows-filled.total;
      identity = identity-filled;
      listed = listed-filled;
      filled = pairs-filled;
    }

    pub functor_is : functoriality_fault k (filled_presheaf k raw) ≡ None → IsFunctor k (filled_presheaf k raw)
    functor_is functorial = record {
      objects = rows-filled.objects;
      arrows = rows-filled.arrows;
      total = rows-filled.total;
      within = rows-filled.within;
      identity = identity-filled;
      composite = no_fault_composes k (filled_presheaf k raw) functorial;
    }

pub no_row_fault : (k : Category) (raw : RawFunctor) → first (row_fault k raw) (arrows k) ≡ None → (f : ℕ) → f < length k.ends → row_fault k raw f ≡ None
no_row_fault k raw none f low = first_none_each (row_fault k raw) (arrows k) f none (In-range 0 (length k.ends) f (omega arith) (omega arith))

-- where no fault is found, the filled presheaf is a functor
pub faultless_presheaf : (k : Category) (raw : RawFunctor) → IsCategory k → IsPresheafListing k raw → presheaf_fault k raw ≡ None → IsFilledFunctor k raw (filled_presheaf k raw) × IsFunctor k (filled_presheaf k raw)
faultless_presheaf k raw law ok none =
    let parts = no_fault_parts k raw none in
    (filled_is k raw law ok (no_row_fault k raw parts.0), functor_is k raw law ok (no_row_fault k raw parts.0) parts.1)

pub filled_parts : (k : Category) (raw : RawFunctor) (sizes : List ℕ) (along : List (List ℕ)) → sizes ≡ raw.sizes → along ≡ filled_rows k raw (length k.ends) →
    ◌≡◌ {A = Presheaf} (record { sizes = sizes; along = along }) (filled_presheaf k raw)
unfolding filled_presheaf
filled_parts k raw sizes along e f = rw (e, f) refl

-- where no restriction has a fault, the rest is functoriality
pub functoriality_decides : (k : Category) (raw : RawFunctor) → first (row_fault k raw) (arrows k) ≡ None → presheaf_fault k raw ≡ functoriality_fault k (filled_presheaf k raw)
unfolding presheaf_fault
functoriality_decides k raw none = ap (λ o. or_else o (functoriality_fault k (filled_presheaf k raw))) (restriction_faults k raw ∙ none)

pub restriction_found : (k : Category) (raw : RawFunctor) (fault : FunctorFault) → IsFound (first (row_fault k raw) (arrows k)) fault → IsFaultOf k raw fault
unfolding presheaf_fault
restriction_found k raw (RestrictionMissing g) e = ap (λ o. or_else o (functoriality_fault k (filled_presheaf k raw))) (restriction_faults k raw ∙ e)
restriction_found k raw (NotTotal g x) e = ap (λ o. or_else o (functoriality_fault k (filled_presheaf k raw))) (restriction_faults k raw ∙ e)
restriction_found k raw (NotFunctorial h g x) e = ap (λ o. or_else o (functoriality_fault k (filled_presheaf k raw))) (restriction_faults k raw ∙ e)
restriction_found k raw NoMemory e = tt
