-- The place of a variable, from the innermost on.
use Rattle.std.proofs.Common.{◌≡◌, ℕ, ◌+◌, ◌-◌, ◌<◌, ◌≤◌, Bool, true, false, cond, not, ◌||◌, nat_lt, List, [], ◌∷◌, map, reverse, length, get_or, bytes_eq, None, Some, Bor, refl, sym, ap, subst, ◌∙◌, below_more, arith}
use Rattle.std.specs.List.{position_or_len, list_any}
use Rattle.std.proofs.lemmas.List.{get_or-map, get_or-reverse, length-map}
use Rattle.std.proofs.lemmas.List.Sums.{position_or_len_is}
use Rattle.std.proofs.lemmas.List.Folds.{list_any_at}
use Rattle.std.proofs.lemmas.List.Quantifiers.{position-Some}
use Rattle.std.proofs.lemmas.Bool.{ltb-false}
use Rattle.std.proofs.lemmas.Bool.Decides.{nat_tests}
use Rattle.topos_model.specs.declared.fault.Fault.{Fault}
use Rattle.topos_model.specs.declared.fault.Fault.TheVariants.{NameTwice}
use Rattle.topos_text.specs.Tokens.{Written}
use Rattle.topos_text.specs.Names.{Name, number_in, twice_fault}
use Rattle.topos_names.proofs.NameLists.{twice_fault-some, twice_fault-none}

-- the name at a place from the innermost on
pub name_at : (items : List (Bor Name)) (i n : ℕ) (d : Bor Name) → i < length items → n ≡ length items → d ≡ get_or items (n - 1 - i) d → get_or (reverse (map (λ x. x.now) items)) i [] ≡ d.now
name_at items i n d low len at =
    let all : length (map (λ x. x.now) items) ≡ length items = length-map items (λ x. x.now) in
    let low' : i < length (map (λ x. x.now) items) = omega arith in
    get_or-reverse (map (λ x. x.now) items) i [] low' ∙ ap (λ n. get_or (map (λ x. x.now) items) (n - 1 - i) []) all ∙ get_or-map (λ x. x.now) items (length items - 1 - i) d [] (omega arith) ∙ ap (λ r. r.now) (sym (at ∙ ap (λ m. get_or items (m - 1 - i) d) len))

module _ (xs : List Name) (text : Name) where
  -- none of the first so many has the name
  pub record NotBefore (i : ℕ) : Type 0 where
    pub not_at : (k : ℕ) → k < i → bytes_eq (get_or xs k []) text ≡ false

  pub found_at : (i : ℕ) → i < length xs → NotBefore i → bytes_eq (get_or xs i []) text ≡ true → Some i ≡ number_in xs text
  unfolding number_in
  found_at i low before here =
      let at = position_or_len_is (λ y. bytes_eq y text) xs i [] (omega arith) before.not_at (λ l. here) in
      let test : nat_lt i (length xs) ≡ true = grind (arith, nat_tests) in
      rw (at, test)

  pub found_nowhere : (i : ℕ) → length xs ≤ i → NotBefore i → None ≡ number_in xs text
  unfolding number_in
  found_nowhere i high before =
      let at = position_or_len_is (λ y. bytes_eq y text) xs (length xs) [] (omega arith) (λ k l. before.not_at k (omega arith)) (λ l. absurd (omega arith)) in
      let test : nat_lt (length xs) (length xs) ≡ false = grind (arith, nat_tests) in
      rw (at, test)

  pub not_before_more : (i : ℕ) → NotBefore i → bytes_eq (get_or xs i []) text ≡ false → NotBefore (i + 1)
  not_before_more i before here = record { not_at = below_more (λ k. bytes_eq (get_or xs k []) text ≡ false) i before.not_at here }

none_passes : (p : Name → Bool) (xs : List Name) → length xs ≤ position_or_len p xs → list_any p xs ≡ false
none_passes p [] h = refl
none_passes p (x ∷ xs) h = by (p x) refl (none_passes p xs)
  where
    by : (b : Bool) → p x ≡ b → (length xs ≤ position_or_len p xs → list_any p xs ≡ false) → (p x || list_any p xs) ≡ false
    by true e rest = let k : length (x ∷ xs) ≤ 0 = subst (λ b. length (x ∷ xs) ≤ cond (not b) (1 + position_or_len p xs) 0) e h in absurd (omega arith)
    by false e rest = let k : length (x ∷ xs) ≤ 1 + position_or_len p xs = subst (λ b. length (x ∷ xs) ≤ cond (not b) (1 + position_or_len p xs) 0) e h in rw e (rest (omega arith))

-- a name with a place is there, and one without is not
module _ (xs : List Name) (x : Written) where
  pub twice_at : (k : ℕ) (fault : Fault) → number_in xs x.text ≡ Some k → fault ≡ NameTwice x.token x.text → twice_fault xs x ≡ Some fault
  unfolding number_in
  twice_at k fault e is =
      let at = position-Some (λ y. bytes_eq y x.text) xs k [] e in
      twice_fault-some xs x fault (list_any_at (λ y. bytes_eq y x.text) xs k [] at.0 at.1) is

  pub new_nowhere : number_in xs x.text ≡ None → twice_fault xs x ≡ None
  unfolding number_in
  new_nowhere e = twice_fault-none xs x (none_passes (λ y. bytes_eq y x.text) xs (by (nat_lt (position_or_len (λ y. bytes_eq y x.text) xs) (length xs)) refl))
    where
      by : (b : Bool) → nat_lt (position_or_len (λ y. bytes_eq y x.text) xs) (length xs) ≡ b → length xs ≤ position_or_len (λ y. bytes_eq y x.text) xs
      by true t = let k : cond true (Some (position_or_len (λ y. bytes_eq y x.text) xs)) None ≡ None = subst (λ b. cond b (Some (position_or_len (λ y. bytes_eq y x.text) xs)) None ≡ None) t e in cc
      by false t = ltb-false (position_or_len (λ y. bytes_eq y x.text) xs) (length xs) t
