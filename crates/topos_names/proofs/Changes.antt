-- One change after another along a list that a loop walks.
use Rattle.std.proofs.Common.{◌≡◌, ℕ, ◌+◌, ◌<◌, ◌≤◌, List, map, length, get_or, drop, Ok, Err, ◌∙◌}
use Rattle.std.proofs.lemmas.List.{at_drop_more, at_drop_all}
use Rattle.topos_model.specs.declared.fault.Fault.{Fault}
use Rattle.topos_text.specs.Names.{Checked, change_by}

module _ {S A B : Type 0} (change : S → A → Checked S) (view : B → A) where
  -- what is left at the place i
  abbrev pub left : S → List B → ℕ → Checked S
  left s xs i = change_by change s (map view (drop i xs))

  pub left-ends : (s : S) (xs : List B) (i : ℕ) → length xs ≤ i → left s xs i ≡ Ok s
  unfolding change_by
  left-ends s xs i high = at_drop_all (λ ys. change_by change s (map view ys)) xs i high

  module _ (s : S) (xs : List B) (i : ℕ) (x : B) (low : i < length xs) where
    pub left-goes_on : (t : S) → change s (view (get_or xs i x)) ≡ Ok t → left s xs i ≡ left t xs (i + 1)
    unfolding change_by
    left-goes_on t step = at_drop_more (λ ys. change_by change s (map view ys)) xs i x low ∙ rw step

    pub left-stops : (fault : Fault) → change s (view (get_or xs i x)) ≡ Err fault → left s xs i ≡ Err fault
    unfolding change_by
    left-stops fault step = at_drop_more (λ ys. change_by change s (map view ys)) xs i x low ∙ rw step
