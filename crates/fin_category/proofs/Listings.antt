-- The listed composites by their pairs, one listed composite more.
use Rattle.std.proofs.Common.{◌≡◌, ℕ, ◌+◌, ◌<◌, ◌≤◌, Bool, true, false, cond, not, ◌&&◌, ◌||◌, eqb, List, [], ◌∷◌, length, get_or, take, drop, Option, Some, None, refl, sym, ap, ◌∙◌, arith}
use Rattle.std.specs.List.{list_any, range_with_len}
use Rattle.std.proofs.lemmas.List.{take_more}
use Rattle.std.proofs.lemmas.Bool.{and_parts, eqb-true}
use Rattle.std.proofs.lemmas.List.FromFn.{length-range_with_len, get_or-range_with_len}
use Rattle.std.specs.Map.{lookup}
use Rattle.indexmap.specs.IndexMap.{IndexMap, get, Updates}
use Rattle.finite_lists.specs.First.{first, or_else, some_if}
use Rattle.finite_lists.proofs.FirstAnswers.{first-append, first_left-none, first_left-some, first_left-end}
use Rattle.topos_model.specs.declared.raw.RawCat.{RawCat}
use Rattle.topos_model.specs.declared.fault.Fault.{Fault}
use Rattle.topos_model.specs.declared.fault.Fault.TheVariants.{CompositeEnds, CompositeTwice}
use Rattle.topos_model.specs.categories.Category.{composite}
use Rattle.topos_model.specs.categories.Filling.{domain_of, codomain_of, has_composite}
use Rattle.topos_model.specs.categories.Listed.{all_ends, meet}
use Rattle.topos_model.specs.categories.CategoryFaults.{has_ends, listed_composite_fault, listing_fault}
use Rattle.fin_category.specs.Listings.{listed_at, HoldsComposites}

pub listed_at-none : (listed : List (ℕ × ℕ × ℕ)) (g f : ℕ) → listed_at listed g f ≡ None → has_composite listed g f ≡ false
unfolding has_composite
listed_at-none [] g f e = refl
listed_at-none (x ∷ listed) g f e = at (eqb x.0 g && eqb x.1 f) e (listed_at-none listed g f)
  where
    at : (b : Bool) → or_else (some_if b x.2) (listed_at listed g f) ≡ None → (listed_at listed g f ≡ None → list_any (λ e. eqb e.0 g && eqb e.1 f) listed ≡ false) →
        (b || list_any (λ e. eqb e.0 g && eqb e.1 f) listed) ≡ false
    at true e ih = cc
    at false e ih = ih e

pub composite-listed_at : (listed : List (ℕ × ℕ × ℕ)) (g f h : ℕ) → listed_at listed g f ≡ Some h → composite listed g f ≡ h
composite-listed_at [] g f h e = cc
composite-listed_at (x ∷ listed) g f h e = at (eqb x.0 g && eqb x.1 f) e (composite-listed_at listed g f h)
  where
    at : (b : Bool) → or_else (some_if b x.2) (listed_at listed g f) ≡ Some h → (listed_at listed g f ≡ Some h → composite listed g f ≡ h) → cond b x.2 (composite listed g f) ≡ h
    at true e ih = cc
    at false e ih = ih e

pub listed_at-some : (listed : List (ℕ × ℕ × ℕ)) (g f h : ℕ) → listed_at listed g f ≡ Some h → has_composite listed g f ≡ true
unfolding has_composite
listed_at-some [] g f h e = cc
listed_at-some (x ∷ listed) g f h e = at (eqb x.0 g && eqb x.1 f) e (listed_at-some listed g f h)
  where
    at : (b : Bool) → or_else (some_if b x.2) (listed_at listed g f) ≡ Some h → (listed_at listed g f ≡ Some h → list_any (λ e. eqb e.0 g && eqb e.1 f) listed ≡ true) →
        (b || list_any (λ e. eqb e.0 g && eqb e.1 f) listed) ≡ true
    at true e ih = refl
    at false e ih = ih e

or_else-none : {A : Type 0} (o : Option A) → or_else o None ≡ o
or_else-none None = refl
or_else-none (Some a) = refl

abbrev pub pair_eq : ℕ × ℕ → ℕ × ℕ → Bool
pair_eq p q = eqb p.0 q.0 && eqb p.1 q.1

module _ (listed : List (ℕ × ℕ × ℕ)) (i : ℕ) (low : i < length listed) where
  abbrev e : ℕ × ℕ × ℕ
  e = get_or listed i (0, 0, 0)

  listed_at-more : (g f : ℕ) → listed_at (take (i + 1) listed) g f ≡ or_else (listed_at (take i listed) g f) (some_if (eqb e.0 g && eqb e.1 f) e.2)
  listed_at-more g f =
      ap (λ (l : List (ℕ × ℕ × ℕ)). listed_at l g f) (take_more listed i (0, 0, 0) low)
      ∙ first-append (λ (e : ℕ × ℕ × ℕ). some_if (eqb e.0 g && eqb e.1 f) e.2) (take i listed) (e ∷ [])
      ∙ ap (or_else (listed_at (take i listed) g f)) (or_else-none (some_if (eqb e.0 g && eqb e.1 f) e.2))

  -- a new pair is put into the map
  pub held_more : {S : Type 0} (m n : IndexMap (ℕ × ℕ) ℕ S) → HoldsComposites m (take i listed) → None ≡ get pair_eq m (e.0, e.1) → Updates pair_eq m n (e.0, e.1) (Some e.2) → HoldsComposites n (take (i + 1) listed)
  held_more m n held new updates g f = updates.0 (g, f) ∙ at (eqb e.0 g && eqb e.1 f) refl ∙ sym (listed_at-more g f)
    where
      at : (b : Bool) → (eqb e.0 g && eqb e.1 f) ≡ b → cond b (Some e.2) (get pair_eq m (g, f)) ≡ or_else (listed_at (take i listed) g f) (some_if b e.2)
      at true t =
          let both = and_parts _ _ t in
          let eg : e.0 ≡ g = eqb-true _ _ both.0 in
          let ef : e.1 ≡ f = eqb-true _ _ both.1 in
          let none : listed_at (take i listed) g f ≡ None =
          ap (λ (n : ℕ). listed_at (take i listed) n f) (sym eg) ∙ ap (listed_at (take i listed) e.0) (sym ef) ∙ sym (held e.0 e.1) ∙ sym new in
          ap (λ o. or_else o (Some e.2)) (sym none)
      at false t = held g f ∙ sym (or_else-none (listed_at (take i listed) g f))

-- the fault of one listed composite
module _ (raw : RawCat) (i : ℕ) where
  abbrev l : ℕ × ℕ × ℕ
  l = get_or raw.listed i (0, 0, 0)

  pub wrong_ends : has_ends raw l.0 l.1 l.2 ≡ false → listed_composite_fault raw i ≡ Some (CompositeEnds l.0 l.1 l.2)
  unfolding listed_composite_fault
  wrong_ends e = ap (λ b. or_else (some_if (not b) (CompositeEnds l.0 l.1 l.2)) (some_if (has_composite (take i raw.listed) l.0 l.1) (CompositeTwice l.0 l.1))) e

  pub twice : has_ends raw l.0 l.1 l.2 ≡ true → has_composite (take i raw.listed) l.0 l.1 ≡ true → listed_composite_fault raw i ≡ Some (CompositeTwice l.0 l.1)
  unfolding listed_composite_fault
  twice e h =
      ap (λ b. or_else (some_if (not b) (CompositeEnds l.0 l.1 l.2)) (some_if (has_composite (take i raw.listed) l.0 l.1) (CompositeTwice l.0 l.1))) e
      ∙ ap (λ b. some_if b (CompositeTwice l.0 l.1)) h

  pub no_fault : has_ends raw l.0 l.1 l.2 ≡ true → has_composite (take i raw.listed) l.0 l.1 ≡ false → listed_composite_fault raw i ≡ None
  unfolding listed_composite_fault
  no_fault e h =
      ap (λ b. or_else (some_if (not b) (CompositeEnds l.0 l.1 l.2)) (some_if (has_composite (take i raw.listed) l.0 l.1) (CompositeTwice l.0 l.1))) e
      ∙ ap (λ b. some_if b (CompositeTwice l.0 l.1)) h

  module _ (low : i < length raw.listed) where
    number_at : get_or (range_with_len 0 (length raw.listed)) i 0 ≡ i
    number_at = get_or-range_with_len 0 (length raw.listed) i 0 low ∙ omega arith

    in_range : i < length (range_with_len 0 (length raw.listed))
    in_range = rw length-range_with_len low

    pub search_ends : (fault : Fault) → listing_fault raw ≡ first (listed_composite_fault raw) (drop i (range_with_len 0 (length raw.listed))) → listed_composite_fault raw i ≡ Some fault → listing_fault raw ≡ Some fault
    search_ends fault search e = search ∙ first_left-some (listed_composite_fault raw) (range_with_len 0 (length raw.listed)) i 0 fault in_range (ap (listed_composite_fault raw) number_at ∙ e)

    pub search_goes_on : listing_fault raw ≡ first (listed_composite_fault raw) (drop i (range_with_len 0 (length raw.listed))) → listed_composite_fault raw i ≡ None →
        listing_fault raw ≡ first (listed_composite_fault raw) (drop (i + 1) (range_with_len 0 (length raw.listed)))
    search_goes_on search e = search ∙ first_left-none (listed_composite_fault raw) (range_with_len 0 (length raw.listed)) i 0 in_range (ap (listed_composite_fault raw) number_at ∙ e)

  pub search_done : length raw.listed ≤ i → listing_fault raw ≡ first (listed_composite_fault raw) (drop i (range_with_len 0 (length raw.listed))) → listing_fault raw ≡ None
  search_done high search = search ∙ first_left-end (listed_composite_fault raw) (range_with_len 0 (length raw.listed)) i (rw length-range_with_len high)

pub has_ends_of : (raw : RawCat) (ends : List (ℕ × ℕ)) (g f h : ℕ) (b : Bool) → ends ≡ all_ends raw →
    b ≡ (meet ends g f && eqb (domain_of ends h) (domain_of ends f) && eqb (codomain_of ends h) (codomain_of ends g)) → has_ends raw g f h ≡ b
unfolding has_ends
has_ends_of raw ends g f h b are e =
    sym (e ∙ ap (λ (ends : List (ℕ × ℕ)). meet ends g f && eqb (domain_of ends h) (domain_of ends f) && eqb (codomain_of ends h) (codomain_of ends g)) are)

pub nothing_held : {S : Type 0} (m : IndexMap (ℕ × ℕ) ℕ S) → m.entries ≡ [] → HoldsComposites m []
nothing_held m empty g f = ap (lookup (pair_eq (g, f))) empty

pub search_begins : (raw : RawCat) → listing_fault raw ≡ first (listed_composite_fault raw) (range_with_len 0 (length raw.listed))
unfolding listing_fault
search_begins raw = refl
