-- The parts of a value that is made by a constructor, and when two are equal.
use Rattle.std.proofs.Common.{◌≡◌, ℕ, eqb, List, refl, ap}
use Rattle.topos_model.specs.declared.value.Val.{Val, El, Two, Sv, Sub, Fn}
use Rattle.topos_model.specs.declared.value.Val.TheVariants.{outs-El, outs-Two, outs-Sv, outs-Sub, outs-Fn}
use Rattle.topos_model.specs.declared.value.Entry.{Entry}
use Rattle.topos_model.specs.declared.value.Assign.{Assign}
use Rattle.topos_model.specs.types.Values.{same, number_in, first_in, second_in, arrows_in, entries_in, assigns_in, number_of, first_of, second_of, arrows_of, entries_of, assigns_of}

pub number_of-El : (n : ℕ) → number_of (El n) ≡ n
unfolding number_of
number_of-El n = ap number_in (outs-El n)

pub first_of-Two : (u v : Val) → first_of (Two u v) ≡ u
unfolding first_of
first_of-Two u v = ap first_in (outs-Two u v)

pub second_of-Two : (u v : Val) → second_of (Two u v) ≡ v
unfolding second_of
second_of-Two u v = ap second_in (outs-Two u v)

pub arrows_of-Sv : (S : List ℕ) → arrows_of (Sv S) ≡ S
unfolding arrows_of
arrows_of-Sv S = ap arrows_in (outs-Sv S)

pub entries_of-Sub : (l : List Entry) → entries_of (Sub l) ≡ l
unfolding entries_of
entries_of-Sub l = ap entries_in (outs-Sub l)

pub assigns_of-Fn : (l : List Assign) → assigns_of (Fn l) ≡ l
unfolding assigns_of
assigns_of-Fn l = ap assigns_in (outs-Fn l)

pub same-El : (m n : ℕ) → same (El m) (El n) ≡ eqb m n
unfolding same
same-El m n = refl

pub ruleset part_rules = (number_of-El, first_of-Two, second_of-Two, arrows_of-Sv, entries_of-Sub, assigns_of-Fn, same-El)
