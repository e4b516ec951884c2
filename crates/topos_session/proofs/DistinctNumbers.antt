-- Numbers seen from the last to the first: none stands twice while each is new.
use Rattle.std.proofs.Common.{◌≡◌, ℕ, zero, suc, ◌-◌, ◌<◌, ◌≤◌, Bool, true, false, not, eqb, List, [], ◌∷◌, length, get_or, drop, replicate, ltb, refl, sym, ◌∙◌, ap, arith, drop-cons}
use Rattle.std.specs.List.{list_all}
use Rattle.std.proofs.Math.ListN.{set}
use Rattle.std.proofs.Math.Seq.{drop-length, drop-nil}
use Rattle.std.proofs.lemmas.Bool.{eq-eqb, ne_eqb, and_right, and_parts, ltb-true, true≢false}
use Rattle.finite_lists.specs.Members.{Distinct}
use Rattle.finite_lists.proofs.Lists.{some_any}
use Rattle.topos_model.specs.categories.Category.{has}
use Rattle.topos_model.specs.statements.Form.{are_distinct}
use Rattle.presheaf_core.specs.Tables.{IsTable}
use Rattle.presheaf_core.proofs.Tables.{none_yet, one_more, all_at}

-- the numbers from place i on are marked, and none of them stands twice
pub record AreNew (numbers : List ℕ) (bound i : ℕ) (seen : List Bool) : Type 0 where
  pub table : IsTable (λ x. has x (drop i numbers)) bound seen
  pub distinct : are_distinct (drop i numbers) ≡ true

pub new_at_end : (numbers : List ℕ) (bound : ℕ) → AreNew numbers bound (length numbers) (replicate bound false)
unfolding are_distinct
new_at_end numbers bound = record {
  table = none_yet _ bound (λ x. rw (drop-length numbers) refl);
  distinct = rw (drop-length numbers) refl;
}

twice_later : (xs : List ℕ) (i : ℕ) → are_distinct (drop i xs) ≡ false → are_distinct xs ≡ false
unfolding are_distinct
twice_later [] i e = ap are_distinct (sym (drop-nil i)) ∙ e
twice_later (x ∷ xs) zero e = e
twice_later (x ∷ xs) (suc i) e = and_right _ (are_distinct xs) (twice_later xs i e)

-- the number before place i
module _ (numbers : List ℕ) (bound : ℕ) (each : list_all (λ n. ltb n bound) numbers ≡ true) (i : ℕ) (seen : List Bool) (low : 0 < i) (high : i ≤ length numbers) (after : AreNew numbers bound i seen) where
  abbrev n : ℕ
  n = get_or numbers (i - 1) 0

  from_here : drop (i - 1) numbers ≡ n ∷ drop i numbers
  from_here =
      let next : suc (i - 1) ≡ i = omega arith in
      drop-cons numbers (i - 1) 0 (omega arith) ∙ ap (λ j. n ∷ drop j numbers) next

  within : n < bound
  within = ltb-true n bound (all_at (λ n. ltb n bound) numbers (i - 1) 0 (omega arith) each)

  pub new_before : get_or seen n false ≡ false → AreNew numbers bound (i - 1) (set seen n true)
  unfolding are_distinct
  new_before fresh = record {
    table = one_more (λ x. has x (drop i numbers)) (λ x. has x (drop (i - 1) numbers)) bound n seen after.table within
        (rw from_here (rw (eq-eqb n n refl) refl))
        (λ x other. rw from_here (rw (ne_eqb x n other) refl));
    distinct =
        let none : has n (drop i numbers) ≡ false = sym (after.table.answers n within) ∙ fresh in
        rw from_here (rw (none, after.distinct) refl);
  }

  pub twice_here : get_or seen n false ≡ true → are_distinct numbers ≡ false
  unfolding are_distinct
  twice_here again =
      let found : has n (drop i numbers) ≡ true = sym (after.table.answers n within) ∙ again in
      twice_later numbers (i - 1) (rw from_here (rw found refl))

-- numbers of which none stands twice are distinct
pub distinct_numbers : (numbers : List ℕ) → are_distinct numbers ≡ true → Distinct numbers
unfolding are_distinct
distinct_numbers [] distinct = tt
distinct_numbers (n ∷ rest) distinct =
    let (new, later) = and_parts _ _ distinct in
    (λ i. true≢false (sym new ∙ ap not (some_any (eqb n) rest n i (eq-eqb n n refl))), distinct_numbers rest later)
