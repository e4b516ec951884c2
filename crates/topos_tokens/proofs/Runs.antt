-- The limits of names and of runs, token after token.
use Rattle.std.proofs.Common.{◌≡◌, ℕ, suc, zero, ◌+◌, map, drop, get_or, drop-cons, add-one, ◌≤◌, ◌<◌, Bool, true, false, ◌&&◌, List, [], ◌∷◌, ◌++◌, length, eqb, Some, None, refl, sym, ap, subst, ◌∙◌, arith, length-append}
use Rattle.finite_lists.specs.First.{or_else, some_if}
use Rattle.topos_model.specs.declared.fault.Fault.TheVariants.{TooMany}
use Rattle.topos_model.specs.declared.fault.Kind.TheVariants as kind
use Rattle.topos_text.specs.declared.symbol.Symbol.TheVariants as symbol
use Rattle.topos_text.specs.declared.token.Token as lying
use Rattle.topos_text.specs.Tokens.{Token, Name, Place, Reserved, Sign, token_of}
use Rattle.topos_text.specs.Limits.{token_fault, name_len_fault, run_fault, run_after, is_limited, begins_limited, most}

-- What fault the tokens have is told by those that are left, behind a run that is limited or not and so long.
pub record InRun (toks left : List Token) (limited : Bool) (len : ℕ) : Type 0 where
  pub run : List Token
  pub limits : is_limited run ≡ limited
  pub size : length run ≡ len
  pub same : token_fault [] toks ≡ token_fault run left

pub run_start : (toks : List Token) → InRun toks toks false 0
unfolding is_limited
run_start toks = record { run = []; limits = refl; size = refl; same = refl }

pub run_end : (toks : List Token) (limited : Bool) (len : ℕ) → InRun toks [] limited len → token_fault [] toks ≡ None
unfolding token_fault
run_end toks limited len r = r.same

-- a name that is too long
pub at_name : (toks left : List Token) (limited : Bool) (len : ℕ) (t : Token) → InRun toks (t ∷ left) limited len → name_len_fault t ≡ Some (TooMany kind.Name 255) → token_fault [] toks ≡ Some (TooMany kind.Name (most kind.Name))
unfolding token_fault
at_name toks left limited len t r e = r.same ∙ ap (λ z. or_else (or_else z (run_fault r.run t)) (token_fault (run_after r.run t) left)) e

-- the end of a run
pub at_end : (toks left : List Token) (limited : Bool) (len : ℕ) (t : Token) → InRun toks (t ∷ left) limited len → name_len_fault t ≡ None → t ≡ Sign symbol.Semicolon → InRun toks left false 0
unfolding token_fault run_fault run_after is_limited
at_end toks left limited len t r e is = record {
  run = [];
  limits = refl;
  size = refl;
  same = r.same ∙ ap (λ z. or_else (or_else z (run_fault r.run t)) (token_fault (run_after r.run t) left)) e ∙ ap (λ z. or_else (run_fault r.run z) (token_fault (run_after r.run z) left)) is;
}

run_fault_of : (run : List Token) (t : Token) → (t ≡ Sign symbol.Semicolon → ⊥) → run_fault run t ≡ some_if (is_limited run && eqb (length run) 256) (TooMany kind.Term 256)
unfolding run_fault
run_fault_of run (Name x) other = refl
run_fault_of run (Place n x) other = refl
run_fault_of run (Reserved w) other = refl
run_fault_of run (Sign symbol.Semicolon) other = absurd (other refl)
run_fault_of run (Sign s) other = refl

run_after_of : (run : List Token) (t : Token) → (t ≡ Sign symbol.Semicolon → ⊥) → run_after run t ≡ run ++ t ∷ []
unfolding run_after
run_after_of run (Name x) other = refl
run_after_of run (Place n x) other = refl
run_after_of run (Reserved w) other = refl
run_after_of run (Sign symbol.Semicolon) other = absurd (other refl)
run_after_of run (Sign s) other = refl

-- a run that is too long
pub at_run : (toks left : List Token) (limited : Bool) (len : ℕ) (t : Token) → InRun toks (t ∷ left) limited len → name_len_fault t ≡ None → (t ≡ Sign symbol.Semicolon → ⊥) → limited ≡ true → len ≡ 256 → token_fault [] toks ≡ Some (TooMany kind.Term (most kind.Term))
unfolding token_fault
at_run toks left limited len t r e other is long =
    let full : run_fault r.run t ≡ Some (TooMany kind.Term 256) = run_fault_of r.run t other ∙ ap (λ z. some_if (z && eqb (length r.run) 256) (TooMany kind.Term 256)) (r.limits ∙ is) ∙ ap (λ n. some_if (eqb n 256) (TooMany kind.Term 256)) (r.size ∙ long) in
    r.same ∙ ap (λ z. or_else (or_else z (run_fault r.run t)) (token_fault (run_after r.run t) left)) e ∙ ap (λ z. or_else z (token_fault (run_after r.run t) left)) full

pub limited_first : (run : List Token) (t : Token) → length run ≡ 0 → is_limited (run ++ t ∷ []) ≡ begins_limited t
unfolding is_limited
limited_first [] t e = refl
limited_first (u ∷ run) t e = absurd (omega (arith, e))

pub limited_later : (run : List Token) (t : Token) → (length run ≡ 0 → ⊥) → is_limited (run ++ t ∷ []) ≡ is_limited run
unfolding is_limited
limited_later [] t e = absurd (e refl)
limited_later (u ∷ run) t e = refl

no_run_fault : (limited : Bool) (len : ℕ) → (limited ≡ true → len ≡ 256 → ⊥) → some_if (limited && eqb len 256) (TooMany kind.Term 256) ≡ None
no_run_fault false len h = refl
no_run_fault true len h = by_test (eqb len 256) refl
  where
    by_test : (b : Bool) → eqb len 256 ≡ b → some_if (eqb len 256) (TooMany kind.Term 256) ≡ None
    by_test true is = absurd (h refl (grind (arith, is)))
    by_test false is = ap (λ b. some_if b (TooMany kind.Term 256)) is

-- one more token of a run
pub run_more : (toks left : List Token) (limited then_limited : Bool) (len : ℕ) (t : Token) → InRun toks (t ∷ left) limited len → name_len_fault t ≡ None → (t ≡ Sign symbol.Semicolon → ⊥) → (limited ≡ true → len ≡ 256 → ⊥)
    → (len ≡ 0 → then_limited ≡ begins_limited t) → ((len ≡ 0 → ⊥) → then_limited ≡ limited) → InRun toks left then_limited (len + 1)
unfolding token_fault
run_more toks left limited then_limited len t r e other fits at_first later = record {
  run = r.run ++ t ∷ [];
  limits = by_size r.run refl;
  size = length-append r.run (t ∷ []) ∙ ap (λ n. n + 1) r.size;
  same = r.same ∙ ap (λ z. or_else (or_else z (run_fault r.run t)) (token_fault (run_after r.run t) left)) e ∙ ap (λ z. or_else z (token_fault (run_after r.run t) left)) none ∙ ap (λ z. token_fault z left) (run_after_of r.run t other);
}
  where
    none : run_fault r.run t ≡ None
    none = run_fault_of r.run t other ∙ ap (λ z. some_if (z && eqb (length r.run) 256) (TooMany kind.Term 256)) r.limits ∙ ap (λ n. some_if (limited && eqb n 256) (TooMany kind.Term 256)) r.size ∙ no_run_fault limited len fits

    by_size : (run : List Token) → r.run ≡ run → is_limited (r.run ++ t ∷ []) ≡ then_limited
    by_size [] is = let zero_len : length r.run ≡ 0 = ap length is in limited_first r.run t zero_len ∙ sym (at_first (sym r.size ∙ zero_len))
    by_size (u ∷ run) is =
        let some : length r.run ≡ suc (length run) = ap length is in
        limited_later r.run t (λ h. absurd (omega (arith, h, some))) ∙ r.limits ∙ sym (later (λ h. absurd (omega (arith, h, some, r.size))))

-- ---- the token at a place of the code's list

token_at : (xs : List lying.Token) (i : ℕ) (d : lying.Token) → i < length xs → map token_of (drop i xs) ≡ token_of (get_or xs i d) ∷ map token_of (drop (i + 1) xs)
token_at xs i d lt = ap (map token_of) (drop-cons xs i d lt) ∙ ap (λ n. token_of (get_or xs i d) ∷ map token_of (drop n xs)) (sym (add-one i))

run_at : (xs : List lying.Token) (i : ℕ) (d : lying.Token) (limited : Bool) (len : ℕ) → i < length xs → InRun (map token_of xs) (map token_of (drop i xs)) limited len → InRun (map token_of xs) (token_of (get_or xs i d) ∷ map token_of (drop (i + 1) xs)) limited len
run_at xs i d limited len lt r = subst (λ z. InRun (map token_of xs) z limited len) (token_at xs i d lt) r

named : (t : Token) (long b : Bool) → name_len_fault t ≡ some_if long (TooMany kind.Name 255) → long ≡ b → name_len_fault t ≡ some_if b (TooMany kind.Name 255)
named t long b e is = e ∙ ap (λ z. some_if z (TooMany kind.Name 255)) is

pub long_name_at : (d : lying.Token) {long : Bool} (xs : List lying.Token) (i : ℕ) (limited : Bool) (len : ℕ) → i < length xs → InRun (map token_of xs) (map token_of (drop i xs)) limited len → name_len_fault (token_of (get_or xs i d)) ≡ some_if long (TooMany kind.Name 255) → long ≡ true
    → token_fault [] (map token_of xs) ≡ Some (TooMany kind.Name (most kind.Name))
long_name_at d {long} xs i limited len lt r e is = at_name (map token_of xs) (map token_of (drop (i + 1) xs)) limited len (token_of (get_or xs i d)) (run_at xs i d limited len lt r) (named (token_of (get_or xs i d)) long true e is)

pub semicolon_at : (d : lying.Token) {long : Bool} (xs : List lying.Token) (i : ℕ) (limited : Bool) (len : ℕ) → i < length xs → InRun (map token_of xs) (map token_of (drop i xs)) limited len → name_len_fault (token_of (get_or xs i d)) ≡ some_if long (TooMany kind.Name 255) → long ≡ false
    → token_of (get_or xs i d) ≡ Sign symbol.Semicolon → InRun (map token_of xs) (map token_of (drop (i + 1) xs)) false 0
semicolon_at d {long} xs i limited len lt r e is semicolon = at_end (map token_of xs) (map token_of (drop (i + 1) xs)) limited len (token_of (get_or xs i d)) (run_at xs i d limited len lt r) (named (token_of (get_or xs i d)) long false e is) semicolon

pub long_run_at : (d : lying.Token) {long : Bool} (xs : List lying.Token) (i : ℕ) (limited : Bool) (len : ℕ) → i < length xs → InRun (map token_of xs) (map token_of (drop i xs)) limited len → name_len_fault (token_of (get_or xs i d)) ≡ some_if long (TooMany kind.Name 255) → long ≡ false
    → (token_of (get_or xs i d) ≡ Sign symbol.Semicolon → ⊥) → limited ≡ true → len ≡ 256 → token_fault [] (map token_of xs) ≡ Some (TooMany kind.Term (most kind.Term))
long_run_at d {long} xs i limited len lt r e is other full count = at_run (map token_of xs) (map token_of (drop (i + 1) xs)) limited len (token_of (get_or xs i d)) (run_at xs i d limited len lt r) (named (token_of (get_or xs i d)) long false e is) other full count

pub more_at : (d : lying.Token) {long : Bool} (xs : List lying.Token) (i : ℕ) (limited then_limited : Bool) (len : ℕ) → i < length xs → InRun (map token_of xs) (map token_of (drop i xs)) limited len → name_len_fault (token_of (get_or xs i d)) ≡ some_if long (TooMany kind.Name 255) → long ≡ false
    → (token_of (get_or xs i d) ≡ Sign symbol.Semicolon → ⊥) → (limited ≡ true → len ≡ 256 → ⊥) → (len ≡ 0 → then_limited ≡ begins_limited (token_of (get_or xs i d))) → ((len ≡ 0 → ⊥) → then_limited ≡ limited)
    → InRun (map token_of xs) (map token_of (drop (i + 1) xs)) then_limited (len + 1)
more_at d {long} xs i limited then_limited len lt r e is other fits at_first later =
    run_more (map token_of xs) (map token_of (drop (i + 1) xs)) limited then_limited len (token_of (get_or xs i d)) (run_at xs i d limited len lt r) (named (token_of (get_or xs i d)) long false e is) other fits at_first later

pub run_over : (xs : List lying.Token) (i : ℕ) (limited : Bool) (len : ℕ) → length xs ≤ i → InRun (map token_of xs) (map token_of (drop i xs)) limited len → token_fault [] (map token_of xs) ≡ None
run_over xs i limited len le r = run_end (map token_of xs) limited len (subst (λ z. InRun (map token_of xs) (map token_of z) limited len) (drop_all xs i le) r)
  where
    drop_all : (xs : List lying.Token) (i : ℕ) → length xs ≤ i → drop i xs ≡ []
    drop_all [] zero le = refl
    drop_all [] (suc i) le = refl
    drop_all (x ∷ xs) zero le = absurd (omega (arith, le))
    drop_all (x ∷ xs) (suc i) le = drop_all xs i (omega (arith, le))
