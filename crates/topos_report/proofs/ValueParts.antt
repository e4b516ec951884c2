-- The parts of a value of another kind.
use Rattle.std.proofs.Common.{◌≡◌, ℕ, List, [], refl, sym, ◌∙◌}
use Rattle.topos_model.specs.declared.value.Val.{Val, out-Val, roll-out-Val, El, Star, Two, Sv, Sub, Fn}
use Rattle.topos_model.specs.declared.value.Val.TheOpen.{El as IsEl, Two as IsTwo, Sv as IsSv, Sub as IsSub, Fn as IsFn}
use Rattle.topos_model.specs.declared.value.Val.TheViews.{roll-Val}
use Rattle.topos_model.specs.declared.value.Val.TheVariants.{rolls-El, rolls-Two, rolls-Sv, rolls-Sub, rolls-Fn}
use Rattle.topos_model.specs.declared.value.Entry.{Entry}
use Rattle.topos_model.specs.declared.value.Assign.{Assign}
use Rattle.topos_model.specs.types.Values.{Layer, number_in, first_in, second_in, arrows_in, entries_in, assigns_in, number_of, first_of, second_of, arrows_of, entries_of, assigns_of}

-- each default, by the layer
number_in-other : (v : Val) → ((n : ℕ) → v ≡ El n → ⊥) → (d : Layer) → roll-Val d ≡ v → number_in d ≡ 0
number_in-other v h (IsEl n) e = absurd (h n (sym e ∙ rolls-El n))
number_in-other v h _ e = refl

first_in-other : (v : Val) → ((u w : Val) → v ≡ Two u w → ⊥) → (d : Layer) → roll-Val d ≡ v → first_in d ≡ Star
first_in-other v h (IsTwo u w) e = absurd (h u w (sym e ∙ rolls-Two u w))
first_in-other v h _ e = refl

second_in-other : (v : Val) → ((u w : Val) → v ≡ Two u w → ⊥) → (d : Layer) → roll-Val d ≡ v → second_in d ≡ Star
second_in-other v h (IsTwo u w) e = absurd (h u w (sym e ∙ rolls-Two u w))
second_in-other v h _ e = refl

arrows_in-other : (v : Val) → ((s : List ℕ) → v ≡ Sv s → ⊥) → (d : Layer) → roll-Val d ≡ v → arrows_in d ≡ []
arrows_in-other v h (IsSv s) e = absurd (h s (sym e ∙ rolls-Sv s))
arrows_in-other v h _ e = refl

entries_in-other : (v : Val) → ((l : List Entry) → v ≡ Sub l → ⊥) → (d : Layer) → roll-Val d ≡ v → entries_in d ≡ []
entries_in-other v h (IsSub l) e = absurd (h l (sym e ∙ rolls-Sub l))
entries_in-other v h _ e = refl

assigns_in-other : (v : Val) → ((l : List Assign) → v ≡ Fn l → ⊥) → (d : Layer) → roll-Val d ≡ v → assigns_in d ≡ []
assigns_in-other v h (IsFn l) e = absurd (h l (sym e ∙ rolls-Fn l))
assigns_in-other v h _ e = refl

pub number_of-other : (v : Val) → ((n : ℕ) → v ≡ El n → ⊥) → number_of v ≡ 0
unfolding number_of
number_of-other v h = number_in-other v h (out-Val v) (roll-out-Val v)

pub first_of-other : (v : Val) → ((u w : Val) → v ≡ Two u w → ⊥) → first_of v ≡ Star
unfolding first_of
first_of-other v h = first_in-other v h (out-Val v) (roll-out-Val v)

pub second_of-other : (v : Val) → ((u w : Val) → v ≡ Two u w → ⊥) → second_of v ≡ Star
unfolding second_of
second_of-other v h = second_in-other v h (out-Val v) (roll-out-Val v)

pub arrows_of-other : (v : Val) → ((s : List ℕ) → v ≡ Sv s → ⊥) → arrows_of v ≡ []
unfolding arrows_of
arrows_of-other v h = arrows_in-other v h (out-Val v) (roll-out-Val v)

pub entries_of-other : (v : Val) → ((l : List Entry) → v ≡ Sub l → ⊥) → entries_of v ≡ []
unfolding entries_of
entries_of-other v h = entries_in-other v h (out-Val v) (roll-out-Val v)

pub assigns_of-other : (v : Val) → ((l : List Assign) → v ≡ Fn l → ⊥) → assigns_of v ≡ []
unfolding assigns_of
assigns_of-other v h = assigns_in-other v h (out-Val v) (roll-out-Val v)
