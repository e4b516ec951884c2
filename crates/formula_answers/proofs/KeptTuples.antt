-- The tuples of a list that are kept, one after another.
use Rattle.std.proofs.Common.{◌≡◌, ℕ, ◌+◌, ◌<◌, ◌≤◌, Bool, true, false, cond, not, List, [], ◌∷◌, ◌++◌, length, get_or, take, map, refl, sym, ap, ◌∙◌}
use Rattle.std.proofs.Math.Bool.{beq}
use Rattle.std.proofs.lemmas.List.{take_more, take_all, map-append, append-nil}
use Rattle.std.proofs.lemmas.List.Elements.{filter-append}
use Rattle.topos_model.specs.declared.answer.Tuple.{Tuple}
use Rattle.topos_model.specs.declared.value.Val.{Val}
use Rattle.topos_model.specs.types.Values.{arrows_of}
use Rattle.topos_model.specs.formulas.Forcing.{Assigned}
use Rattle.topos_model.specs.statements.Answers.{tuple_of}
use Rattle.formula_answers.specs.Stages.{kept, with_arrows}

-- a test of two truth values
pub is_same : (a b : Bool) → beq a b ≡ true → a ≡ b
is_same true true e = refl
is_same true false e = absurd (cc)
is_same false true e = absurd (cc)
is_same false false e = refl

pub is_other : (a b : Bool) → beq a b ≡ false → a ≡ b → ⊥
is_other true true e same = cc
is_other true false e same = cc
is_other false true e same = cc
is_other false false e same = cc

module _ (wanted : Bool) (φ : Assigned → Bool) where
  kept_nothing : kept wanted φ [] ≡ []
  unfolding kept
  kept_nothing = refl

  kept_one : (a : Assigned) → φ a ≡ wanted → kept wanted φ (a ∷ []) ≡ a ∷ []
  unfolding kept
  kept_one a e = ap (λ b. cond b (a ∷ []) []) (at wanted (φ a) e)
    where
      at : (wanted b : Bool) → b ≡ wanted → cond wanted b (not b) ≡ true
      at true b e = e
      at false b e = ap not e

  dropped_one : (a : Assigned) → (φ a ≡ wanted → ⊥) → kept wanted φ (a ∷ []) ≡ []
  unfolding kept
  dropped_one a e = ap (λ b. cond b (a ∷ []) []) (at wanted (φ a) e)
    where
      at : (wanted b : Bool) → (b ≡ wanted → ⊥) → cond wanted b (not b) ≡ false
      at true true e = absurd (e refl)
      at true false e = refl
      at false true e = refl
      at false false e = absurd (e refl)

  kept-append : (xs ys : List Assigned) → kept wanted φ (xs ++ ys) ≡ kept wanted φ xs ++ kept wanted φ ys
  unfolding kept
  kept-append xs ys = filter-append (λ a. cond wanted (φ a) (not (φ a))) xs ys

  module _ (all : List Assigned) (k : ℕ) (low : k < length all) (before after : List Tuple) (h : before ≡ map tuple_of (kept wanted φ (take k all))) where
    abbrev next : Assigned
    next = get_or all k []

    kept_to : kept wanted φ (take (k + 1) all) ≡ kept wanted φ (take k all) ++ kept wanted φ (next ∷ [])
    kept_to = ap (kept wanted φ) (take_more all k [] low) ∙ kept-append (take k all) (next ∷ [])

    -- the next tuple is kept, or is not
    pub kept_more : (x : Tuple) → φ next ≡ wanted → tuple_of next ≡ x → after ≡ before ++ x ∷ [] → after ≡ map tuple_of (kept wanted φ (take (k + 1) all))
    kept_more x e t a =
        a ∙ ap (λ l. l ++ x ∷ []) h ∙ ap (λ y. map tuple_of (kept wanted φ (take k all)) ++ y ∷ []) (sym t)
        ∙ sym (map-append tuple_of (kept wanted φ (take k all)) (next ∷ [])) ∙ sym (ap (map tuple_of) (kept_to ∙ ap (λ l. kept wanted φ (take k all) ++ l) (kept_one next e)))

    pub kept_so_far : (φ next ≡ wanted → ⊥) → before ≡ map tuple_of (kept wanted φ (take (k + 1) all))
    kept_so_far e =
        h ∙ sym (ap (map tuple_of) (kept_to ∙ ap (λ l. kept wanted φ (take k all) ++ l) (dropped_one next e) ∙ append-nil (kept wanted φ (take k all))))

  pub kept_none : [] ≡ map tuple_of (kept wanted φ [])
  kept_none = sym (ap (map tuple_of) kept_nothing)

  pub kept_all : (all : List Assigned) (k : ℕ) (l : List Tuple) → length all ≤ k → l ≡ map tuple_of (kept wanted φ (take k all)) → l ≡ map tuple_of (kept wanted φ all)
  kept_all all k l end h = h ∙ ap (λ m. map tuple_of (kept wanted φ m)) (take_all k all end)

module _ (v : Assigned → Val) (all : List Assigned) where
  pub arrows_more : (k : ℕ) → k < length all → (before after : List (Tuple × List ℕ)) (x : Tuple) (arrows : List ℕ) → before ≡ with_arrows v (take k all) →
      tuple_of (get_or all k []) ≡ x → arrows ≡ arrows_of (v (get_or all k [])) → after ≡ before ++ (x, arrows) ∷ [] → after ≡ with_arrows v (take (k + 1) all)
  unfolding with_arrows
  arrows_more k low before after x arrows h t e a =
      let one : Assigned → Tuple × List ℕ = λ a. (tuple_of a, arrows_of (v a)) in
      a ∙ ap (λ l. l ++ (x, arrows) ∷ []) h ∙ ap (λ y. map one (take k all) ++ (y, arrows) ∷ []) (sym t) ∙ ap (λ s. map one (take k all) ++ (tuple_of (get_or all k []), s) ∷ []) e
      ∙ sym (map-append one (take k all) (get_or all k [] ∷ [])) ∙ sym (ap (map one) (take_more all k [] low))

  pub arrows_none : [] ≡ with_arrows v []
  unfolding with_arrows
  arrows_none = refl

  pub arrows_all : (k : ℕ) (l : List (Tuple × List ℕ)) → length all ≤ k → l ≡ with_arrows v (take k all) → l ≡ with_arrows v all
  arrows_all k l end h = h ∙ ap (with_arrows v) (take_all k all end)
