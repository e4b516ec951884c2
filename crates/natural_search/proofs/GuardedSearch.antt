-- What the sets know at each place of the search, and after changes are taken back.
use Rattle.std.proofs.Common.{◌≡◌, ℕ, zero, suc, ◌+◌, ◌-◌, ◌<◌, ◌≤◌, ◌⊎◌, inl, inr, Bool, true, false, List, [], ◌∷◌, ◌++◌, length, get_or, set, take, drop, refl, sym, ap, subst, ◌∙◌, arith, length-set, get_or-set_same, get_or-set_other}
use Rattle.std.proofs.lemmas.Bool.{eqb-true}
use Rattle.std.proofs.lemmas.List.{get_or-drop, length-drop, get_or_append_left, take_more_set, length-take-le, get_or-take, get_or_default, length-append}
use Rattle.finite_lists.specs.Members.{In}
use Rattle.finite_lists.proofs.Lists.{In_at, all_each}
use Rattle.natural_search.specs.declared.squares.Square.{Square}
use Rattle.natural_search.specs.declared.domains.Domains.{Domains}
use Rattle.natural_search.specs.Search.{assignments}
use Rattle.natural_search.specs.Squares.{fits, is_fitting, AreBounded, AreSquares}
use Rattle.natural_search.specs.Domains.{allows, AllAllowed, AllFit, IsWhole, Narrows, at_level}
use Rattle.natural_search.proofs.AssignedRows.{assigned_below, append_right}
use Rattle.natural_search.proofs.ChainLinks.{split}
use Rattle.natural_search.proofs.SearchSteps.{left_unset, left_none}
use Rattle.natural_search.proofs.Narrowing.{extends_level, rewound_level, level_now, undone_length}
use Rattle.natural_search.proofs.PlaceSearch.{IsState, now_whole, now_below, now_fit}

around : (s n : ℕ) → (s < n) ⊎ (n ≤ s)
around zero zero = inr (omega arith)
around zero (suc n) = inl (omega arith)
around (suc s) zero = inr (omega arith)
around (suc s) (suc n) = elim (around s n) [ inl a ↦ inl (omega arith) | inr b ↦ inr (omega arith) ]

module _ (along : List (List ℕ)) (squares : List Square) (bounds : List ℕ) where
  -- numbers below the bounds at which all squares fit
  pub record IsSolution (values : List ℕ) : Type 0 where
    pub below : (e : ℕ) → e < length bounds → get_or values e 0 < get_or bounds e 0
    pub all_fit : AllFit along squares values

  abbrev pub AgreeBefore : ℕ → List ℕ → List ℕ → Type 0
  AgreeBefore place ys values = (i : ℕ) → i < place → get_or ys i 0 ≡ get_or values i 0

  -- at each place the sets as they were when it was reached allow each solution that begins with the numbers before it
  pub record IsGuarded (d : Domains) (marks values : List ℕ) (place : ℕ) : Type 0 where
    pub whole : IsWhole d
    pub masks : length d.masks.items ≡ length bounds
    pub marks_whole : length marks ≡ length bounds
    pub rises : (e f : ℕ) → e ≤ f → f ≤ place → get_or marks e 0 ≤ get_or marks f 0
    pub top : get_or marks place 0 ≤ length d.trail.items
    pub valid : (e : ℕ) → e ≤ place → (ys : List ℕ) → IsSolution ys → AgreeBefore e ys values → AllAllowed (at_level d (get_or marks e 0)) ys

  pub guarded_start : (d : Domains) (marks values : List ℕ) → d.trail.items ≡ [] → length d.masks.items ≡ length bounds → length marks ≡ length bounds → get_or marks 0 0 ≡ 0 →
      ((p v : ℕ) → p < length bounds → v < get_or bounds p 0 → allows (get_or d.masks.items p 0) v ≡ true) → IsGuarded d marks values 0
  guarded_start d marks values trail masks marks_whole first all =
      let none : length d.trail.items ≡ 0 = ap length trail in
      record {
        whole = λ i c low. absurd (omega (arith, none));
        masks = masks;
        marks_whole = marks_whole;
        rises = λ e f a b. (let s : e ≡ f = omega (arith, a, b) in let r : get_or marks e 0 ≡ get_or marks f 0 = ap (λ i. get_or marks i 0) s in omega (arith, r));
        top = omega (arith, first);
        valid = λ e low ys solution same.
            let at : get_or marks e 0 ≡ 0 = (let z : e ≡ 0 = omega arith in ap (λ i. get_or marks i 0) z) ∙ first in
            subst (λ (l : List ℕ). AllAllowed l ys) (sym (level_now d (get_or marks e 0) (omega (arith, at, none)))) (λ p within. all p (get_or ys p 0) (omega (arith, within, masks)) (solution.below p (omega (arith, within, masks))));
      }

  -- with no changes but those before the place
  pub record IsNow (d : Domains) (marks values : List ℕ) (place : ℕ) : Type 0 where
    pub guarded : IsGuarded d marks values place
    pub used : length d.trail.items ≡ get_or marks place 0

  module _ (d : Domains) (marks values : List ℕ) (place : ℕ) (is : IsGuarded d marks values place) where
    guarded_rewound : (e : Domains) → e.trail.items ≡ take (get_or marks place 0) d.trail.items → e.masks.items ≡ at_level d (get_or marks place 0) → IsWhole e → IsGuarded e marks values place
    guarded_rewound e trail masks whole =
        let n : length e.trail.items ≡ get_or marks place 0 = ap length trail ∙ length-take-le (get_or marks place 0) d.trail.items is.top in
        record {
          whole = whole;
          masks = ap length masks ∙ undone_length d.masks.items _ ∙ is.masks;
          marks_whole = is.marks_whole;
          rises = is.rises;
          top = omega (arith, n);
          valid = λ f low ys solution same.
              subst (λ (l : List ℕ). AllAllowed l ys) (sym (rewound_level d e (get_or marks place 0) (get_or marks f 0) trail masks is.top (is.rises f place low (omega arith)))) (is.valid f low ys solution same);
        }

    pub guarded_now : (e : Domains) (level : ℕ) → place < length bounds → level ≡ get_or marks place level → e.trail.items ≡ take level d.trail.items → e.masks.items ≡ at_level d level → IsWhole e → IsNow e marks values place
    guarded_now e level low read trail masks whole =
        let at : level ≡ get_or marks place 0 = read ∙ get_or_default marks place level 0 (omega (arith, low, is.marks_whole)) in
        let kept : e.trail.items ≡ take (get_or marks place 0) d.trail.items = trail ∙ ap (λ n. take n d.trail.items) at in
        record {
          guarded = guarded_rewound e kept (masks ∙ ap (at_level d) at) whole;
          used = ap length kept ∙ length-take-le (get_or marks place 0) d.trail.items is.top;
        }

    -- the sets themselves allow them, where all later changes are taken back
    now_allowed : length d.trail.items ≡ get_or marks place 0 → (ys : List ℕ) → IsSolution ys → AgreeBefore place ys values → AllAllowed d.masks.items ys
    now_allowed e ys solution same = subst (λ (l : List ℕ). AllAllowed l ys) (level_now d (get_or marks place 0) (omega (arith, e))) (is.valid place (omega arith) ys solution same)

    module _ (e : Domains) (next : ℕ) (some : Bool) (narrows : Narrows (λ ys. AllFit along squares ys × (get_or ys place 0 ≡ next)) d e some) where
      -- a number is set at the place
      pub guarded_set : IsGuarded e marks (set values place next) place
      guarded_set = record {
        whole = narrows.extends.whole;
        masks = narrows.extends.places ∙ is.masks;
        marks_whole = is.marks_whole;
        rises = is.rises;
        top = (let n = ap length narrows.extends.trail ∙ length-append d.trail.items narrows.extends.changes in omega (arith, n, is.top));
        valid = λ f low ys solution same.
            subst (λ (l : List ℕ). AllAllowed l ys) (sym (extends_level d e (get_or marks f 0) narrows.extends (omega (arith, is.rises f place low (omega arith), is.top))))
            (is.valid f low ys solution (λ i less. same i less ∙ get_or-set_other values place i next 0 (λ s. absurd (omega (arith, s)))));
      }

      -- each solution that begins with it and the numbers before is still allowed
      pub set_allowed : length d.trail.items ≡ get_or marks place 0 → place < length values → (ys : List ℕ) → IsSolution ys → AgreeBefore (place + 1) ys (set values place next) → (some ≡ true) × AllAllowed e.masks.items ys
      set_allowed n low ys solution same =
          narrows.allowed ys (solution.all_fit, same place (omega arith) ∙ get_or-set_same values place next 0 low)
          (now_allowed n ys solution (λ i less. same i (omega arith) ∙ get_or-set_other values place i next 0 (λ s. absurd (omega (arith, s)))))

    -- the next place comes
    pub guarded_deeper : place + 1 < length bounds → ((ys : List ℕ) → IsSolution ys → AgreeBefore (place + 1) ys values → AllAllowed d.masks.items ys) → IsGuarded d (set marks (place + 1) (length d.trail.items)) values (place + 1)
    guarded_deeper low allowed = record {
      whole = is.whole;
      masks = is.masks;
      marks_whole = length-set marks (place + 1) used ∙ is.marks_whole;
      rises = λ e f a b. elim (split f (place + 1) (omega arith)) [
        | inl before ↦ omega (arith, old e (omega arith), old f before, is.rises e f a (omega arith))
        | inr top ↦ elim (split e (place + 1) (omega arith)) [
          | inl under ↦ (let t : get_or (set marks (place + 1) used) f 0 ≡ used = ap (λ i. get_or (set marks (place + 1) used) i 0) top ∙ new in omega (arith, old e under, t, is.rises e place (omega arith) (omega arith), is.top))
          | inr equal ↦ (let s : get_or (set marks (place + 1) used) e 0 ≡ get_or (set marks (place + 1) used) f 0 = ap (λ i. get_or (set marks (place + 1) used) i 0) (equal ∙ sym top) in omega (arith, s))
        ]
      ];
      top = omega (arith, new);
      valid = λ e l ys solution same. elim (split e (place + 1) (omega arith)) [
        | inl before ↦ subst (λ n. AllAllowed (at_level d n) ys) (sym (old e before)) (is.valid e (omega arith) ys solution same)
        | inr top ↦
            (let at : get_or (set marks (place + 1) used) e 0 ≡ used = ap (λ i. get_or (set marks (place + 1) used) i 0) top ∙ new in
            subst (λ (l : List ℕ). AllAllowed l ys) (sym (level_now d (get_or (set marks (place + 1) used) e 0) (omega (arith, at)))) (allowed ys solution (λ i less. same i (omega (arith, top)))))
      ];
    }
      where
        used : ℕ
        used = length d.trail.items

        new : get_or (set marks (place + 1) used) (place + 1) 0 ≡ used
        new = get_or-set_same marks (place + 1) used 0 (omega (arith, is.marks_whole, low))

        old : (e : ℕ) → e < place + 1 → get_or (set marks (place + 1) used) e 0 ≡ get_or marks e 0
        old e less = get_or-set_other marks (place + 1) e used 0 (λ s. absurd (omega (arith, s)))

    -- the place before comes
    pub guarded_back : (e : ℕ) → place ≡ suc e → IsGuarded d marks values e
    guarded_back e s = record {
      whole = is.whole;
      masks = is.masks;
      marks_whole = is.marks_whole;
      rises = λ i j a b. is.rises i j a (omega (arith, s));
      top = omega (arith, is.rises e place (omega (arith, s)) (omega arith), is.top);
      valid = λ f low. is.valid f (omega (arith, s));
    }

module _ (along : List (List ℕ)) (squares : List Square) (bounds : List ℕ) (bounded : AreBounded along bounds squares) where
  -- a fitting row within the bounds is a solution
  pub solution_of : (ys : List ℕ) → ((e : ℕ) → e < length bounds → get_or ys e 0 < get_or bounds e 0) → ((s : ℕ) (d : Square) → s < length squares → (get_or squares s d).element < length bounds) → is_fitting along squares ys ≡ true → IsSolution along squares bounds ys
  unfolding is_fitting
  solution_of ys below elements fitted = record {
    below = below;
    all_fit = record {
      within = λ s d low. omega (arith, below (get_or squares s d).element (elements s d low), bounded s d low);
      fit = λ s d low. eqb-true _ _ (all_each (fits along ys) squares (get_or squares s d) fitted (In_at squares s d low));
    };
  }

  module _ (are : AreSquares along (length bounds) squares) (count : ℕ) (values : List ℕ) (place next : ℕ) (is : IsState along squares bounds count values place next) (less : next < get_or bounds place 0) where
    -- a number that begins no solution is passed over
    pub state_refused : ((ys : List ℕ) → IsSolution along squares bounds ys → AgreeBefore along squares bounds (place + 1) ys (set values place next) → ⊥) → IsState along squares bounds count (set values place next) place (next + 1)
    state_refused none = record {
      whole = now_whole along squares bounds are bounded count values place next is less;
      low = is.low;
      below = λ e before. now_below along squares bounds are bounded count values place next is less e (omega arith);
      fit = now_fit along squares bounds are bounded count values place next is less;
      rest =
          left_unset (is_fitting along squares) bounds values is.whole place next (next + 1)
          ∙ sym (left_none (is_fitting along squares) bounds values is.whole place next is.low less (λ rest i. pruned rest i))
          ∙ is.rest;
    }
      where
        prefix : List ℕ
        prefix = take place values ++ next ∷ []

        prefix_is : take (place + 1) (set values place next) ≡ take place values ++ next ∷ []
        prefix_is = take_more_set values place next (omega (arith, is.whole, is.low))

        prefix_length : length (take place values ++ next ∷ []) ≡ place + 1
        prefix_length = ap length (sym prefix_is) ∙ length-take-le (place + 1) (set values place next) (omega (arith, now_whole along squares bounds are bounded count values place next is less, is.low))

        at : (rest : List ℕ) (i : ℕ) → i < place + 1 → get_or ((take place values ++ next ∷ []) ++ rest) i 0 ≡ get_or (set values place next) i 0
        at rest i l =
            get_or_append_left (take place values ++ next ∷ []) rest 0 i (omega (arith, prefix_length)) ∙ ap (λ l. get_or l i 0) (sym prefix_is) ∙ get_or-take (place + 1) (set values place next) i 0 l

        below : (rest : List ℕ) → In (assignments (drop (length (take place values ++ next ∷ [])) bounds)) rest → (e : ℕ) → e < length bounds → get_or ((take place values ++ next ∷ []) ++ rest) e 0 < get_or bounds e 0
        below rest i e low = elim (around e (place + 1)) [
          | inl early ↦ omega (arith, at rest e early, now_below along squares bounds are bounded count values place next is less e early)
          | inr late ↦ later (e - (place + 1)) (omega arith)
        ]
          where
            later : (j : ℕ) → e ≡ place + 1 + j → get_or ((take place values ++ next ∷ []) ++ rest) e 0 < get_or bounds e 0
            later j s =
                let n : e ≡ length (take place values ++ next ∷ []) + j = omega (arith, s, prefix_length) in
                let read : get_or ((take place values ++ next ∷ []) ++ rest) e 0 ≡ get_or rest j 0 = ap (λ m. get_or ((take place values ++ next ∷ []) ++ rest) m 0) n ∙ append_right (take place values ++ next ∷ []) rest j in
                let bound : get_or (drop (length (take place values ++ next ∷ [])) bounds) j 0 ≡ get_or bounds e 0 = get_or-drop (length (take place values ++ next ∷ [])) bounds j 0 ∙ ap (λ m. get_or bounds m 0) (sym n) in
                omega (arith, read, bound, assigned_below (drop (length (take place values ++ next ∷ [])) bounds) rest j i (omega (arith, length-drop (length (take place values ++ next ∷ [])) bounds, n, low)))

        pruned : (rest : List ℕ) → In (assignments (drop (length (take place values ++ next ∷ [])) bounds)) rest → is_fitting along squares ((take place values ++ next ∷ []) ++ rest) ≡ false
        pruned rest i = decide (is_fitting along squares ((take place values ++ next ∷ []) ++ rest)) refl
          where
            decide : (b : Bool) → is_fitting along squares ((take place values ++ next ∷ []) ++ rest) ≡ b → is_fitting along squares ((take place values ++ next ∷ []) ++ rest) ≡ false
            decide false e = e
            decide true e = absurd (none ((take place values ++ next ∷ []) ++ rest) (solution_of ((take place values ++ next ∷ []) ++ rest) (below rest i) are.element e) (at rest))
