-- Equal values have equal parts.
use Rattle.std.proofs.Common.{◌≡◌, ℕ, List, ap, sym, ◌∙◌}
use Rattle.topos_model.specs.declared.value.Val.{Val, El, Two, Sv, Sub, Fn}
use Rattle.topos_model.specs.declared.value.Entry.{Entry}
use Rattle.topos_model.specs.declared.value.Assign.{Assign}
use Rattle.topos_model.specs.types.Values.{number_of, first_of, second_of, arrows_of, entries_of, assigns_of}
use Rattle.topos_model.proofs.ValueEquations.{number_of-El, first_of-Two, second_of-Two, arrows_of-Sv, entries_of-Sub, assigns_of-Fn}

pub El-equal : (m n : ℕ) → El m ≡ El n → m ≡ n
El-equal m n e = sym (number_of-El m) ∙ ap number_of e ∙ number_of-El n

pub Sv-equal : (S R : List ℕ) → Sv S ≡ Sv R → S ≡ R
Sv-equal S R e = sym (arrows_of-Sv S) ∙ ap arrows_of e ∙ arrows_of-Sv R

pub Sub-equal : (l m : List Entry) → Sub l ≡ Sub m → l ≡ m
Sub-equal l m e = sym (entries_of-Sub l) ∙ ap entries_of e ∙ entries_of-Sub m

pub Fn-equal : (l m : List Assign) → Fn l ≡ Fn m → l ≡ m
Fn-equal l m e = sym (assigns_of-Fn l) ∙ ap assigns_of e ∙ assigns_of-Fn m

pub Two-first : (u v x y : Val) → Two u v ≡ Two x y → u ≡ x
Two-first u v x y e = sym (first_of-Two u v) ∙ ap first_of e ∙ first_of-Two x y

pub Two-second : (u v x y : Val) → Two u v ≡ Two x y → v ≡ y
Two-second u v x y e = sym (second_of-Two u v) ∙ ap second_of e ∙ second_of-Two x y

pub Two-same : (u v x y : Val) → u ≡ x → v ≡ y → Two u v ≡ Two x y
Two-same u v x y p q = ap (λ z. Two z v) p ∙ ap (Two x) q
