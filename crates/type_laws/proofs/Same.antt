-- Where the test says that two values are equal, they are.
use Rattle.std.proofs.Common.{◌≡◌, ℕ, true, List, [], ◌∷◌, refl, sym, ◌∙◌, ap}
use Rattle.std.proofs.lemmas.Bool.{eqb-true, eq-eqb}
use Rattle.topos_model.specs.declared.value.Val.{Val, Row_of-Val, out-Val, roll-out-Val, El, Star, Two', Sv, Sub, Sub', Fn, Fn', end_of-Val, more_of-Val, Row_of-Entry, end_of-Entry, more_of-Entry, Row_of-Assign, end_of-Assign, more_of-Assign}
use Rattle.topos_model.specs.declared.value.Val.TheVariants.{rolls-Sub, rolls-Fn}
use Rattle.topos_model.specs.declared.value.Val.TheBlock.{items-the_row-Entry, items_shown-the_row-Entry-1, items-the_row-Assign, items_shown-the_row-Assign-2}
use denote.Hole.Carrier
use Rattle.topos_model.specs.types.Values.{same, same_vals, same_numbers, same_entries, same_assigns}
use Rattle.type_laws.proofs.Stages.{both_true, true_both}

-- a value as the shapes hold it is the value of its list
made_Sub : (s : _) (us : _) → Sub' s us ≡ Sub (items-the_row-Entry _ us)
unfolding out-Val Carrier.out
made_Sub s us = sym (roll-out-Val (Sub' s us)) ∙ rolls-Sub _ ∙ ap Sub (items_shown-the_row-Entry-1 s us)

made_Fn : (s : _) (us : _) → Fn' s us ≡ Fn (items-the_row-Assign _ us)
unfolding out-Val Carrier.out
made_Fn s us = sym (roll-out-Val (Fn' s us)) ∙ rolls-Fn _ ∙ ap Fn (items_shown-the_row-Assign-2 s us)

pub numbers_equal : (ms ns : List ℕ) → same_numbers ms ns ≡ true → ms ≡ ns
numbers_equal [] [] h = refl
numbers_equal (m ∷ ms) (n ∷ ns) h = let p = both_true _ _ h in rw (eqb-true m n p.0, numbers_equal ms ns p.1)
numbers_equal _ _ h = cc

mutual
  unfolding same

  pub same_equal : (u v : Val) → same u v ≡ true → u ≡ v
  same_equal (El m) (El n) h = ap El (eqb-true m n h)
  same_equal Star Star h = refl
  same_equal (Two' s (more_of-Val u end_of-Val) s' (more_of-Val v end_of-Val)) (Two' t (more_of-Val x end_of-Val) t' (more_of-Val y end_of-Val)) h =
      let p = both_true _ _ h in
      rw (same_equal u x (both_true _ _ p.0).0, same_equal v y (both_true _ _ p.1).0)
  same_equal (Sv u) (Sv v) h = ap Sv (numbers_equal u v h)
  same_equal (Sub' s u) (Sub' t v) h = made_Sub s u ∙ ap Sub (entries_equal u v h) ∙ sym (made_Sub t v)
  same_equal (Fn' s u) (Fn' t v) h = made_Fn s u ∙ ap Fn (assigns_equal u v h) ∙ sym (made_Fn t v)
  same_equal _ _ h = cc

  entries_equal : {m n : _} (us : Row_of-Entry m) (vs : Row_of-Entry n) → same_entries us vs ≡ true → items-the_row-Entry m us ≡ items-the_row-Entry n vs
  entries_equal end_of-Entry end_of-Entry h = refl
  entries_equal (more_of-Entry f u us) (more_of-Entry g v vs) h =
      let p = both_true _ _ h in
      let q = both_true _ _ p.0 in
      rw (eqb-true f g q.0, same_equal u v q.1, entries_equal us vs p.1)
  entries_equal _ _ h = cc

  assigns_equal : {m n : _} (us : Row_of-Assign m) (vs : Row_of-Assign n) → same_assigns us vs ≡ true → items-the_row-Assign m us ≡ items-the_row-Assign n vs
  assigns_equal end_of-Assign end_of-Assign h = refl
  assigns_equal (more_of-Assign f u x us) (more_of-Assign g v y vs) h =
      let p = both_true _ _ h in
      let q = both_true _ _ p.0 in
      let r = both_true _ _ q.0 in
      rw (eqb-true f g r.0, same_equal u v r.1, same_equal x y q.1, assigns_equal us vs p.1)
  assigns_equal _ _ h = cc

pub numbers_self : (ms : List ℕ) → same_numbers ms ms ≡ true
numbers_self [] = refl
numbers_self (m ∷ ms) = true_both _ _ (eq-eqb m m refl) (numbers_self ms)

-- a value equals itself
mutual
  unfolding same

  pub same_self : (u : Val) → same u u ≡ true
  same_self (El m) = eq-eqb m m refl
  same_self Star = refl
  same_self (Two' s u s' v) = true_both _ _ (vals_self u) (vals_self v)
  same_self (Sv u) = numbers_self u
  same_self (Sub' s u) = entries_self u
  same_self (Fn' s u) = assigns_self u

  vals_self : {m : _} (us : Row_of-Val m) → same_vals us us ≡ true
  vals_self end_of-Val = refl
  vals_self (more_of-Val u us) = true_both _ _ (same_self u) (vals_self us)

  entries_self : {m : _} (us : Row_of-Entry m) → same_entries us us ≡ true
  entries_self end_of-Entry = refl
  entries_self (more_of-Entry f u us) = true_both _ _ (true_both _ _ (eq-eqb f f refl) (same_self u)) (entries_self us)

  assigns_self : {m : _} (us : Row_of-Assign m) → same_assigns us us ≡ true
  assigns_self end_of-Assign = refl
  assigns_self (more_of-Assign f u x us) =
      true_both _ _ (true_both _ _ (true_both _ _ (eq-eqb f f refl) (same_self u)) (same_self x)) (assigns_self us)
