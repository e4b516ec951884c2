-- Objects that stand once, each with its elements.
use Rattle.std.proofs.Common.{◌≡◌, ℕ, ◌+◌, Bool, true, false, ◌||◌, cond, eqb, nat_eq, List, [], ◌∷◌, ◌++◌, map, flat_map, unwrap_or, is_some, refl, sym, ap, ◌∙◌, subst, arith}
use Rattle.std.specs.List.{list_any, range_with_len}
use Rattle.std.proofs.lemmas.List.FromFn.{map-range_with_len_more}
use Rattle.std.proofs.lemmas.Bool.{eqb-true}
use Rattle.std.proofs.lemmas.Bool.Decides.{same_from_decides, Decides-eqb}
use Rattle.std.specs.Map.{lookup}
use Rattle.indexmap.specs.IndexMap.{insert_entry}
use Rattle.topos_text.specs.Names.{Name}
use Rattle.topos_text.specs.StatementNames.{elements_at}
use Rattle.topos_names.specs.Stages.{Apart}

-- whether an object is there
abbrev pub holds : ℕ → List (ℕ × List Name) → Bool
holds k es = list_any (λ n. eqb n k) (map (λ stage. stage.0) es)

pub eqb-sym : (m n : ℕ) → eqb m n ≡ eqb n m
eqb-sym m n = same_from_decides _ _ (Decides-eqb m n) (let h = Decides-eqb n m in (λ e. sym (h.0 e), λ e. h.1 (sym e)))

pub is_some-lookup : (k : ℕ) (es : List (ℕ × List Name)) → is_some (lookup (nat_eq k) es) ≡ holds k es
is_some-lookup k [] = refl
is_some-lookup k (e ∷ es) = by (eqb e.0 k) refl (is_some-lookup k es)
  where
    by : (b : Bool) → eqb e.0 k ≡ b → is_some (lookup (nat_eq k) es) ≡ holds k es → is_some (lookup (nat_eq k) (e ∷ es)) ≡ holds k (e ∷ es)
    by true p rest = rw (eqb-sym k e.0, p)
    by false p rest = rw (eqb-sym k e.0, p) rest

-- a new object goes last
pub insert_entry-last : (k : ℕ) (v : List Name) (es : List (ℕ × List Name)) → holds k es ≡ false → insert_entry nat_eq es k v ≡ es ++ (k, v) ∷ []
insert_entry-last k v [] new = refl
insert_entry-last k v (e ∷ es) new = by (eqb e.0 k) refl new (insert_entry-last k v es)
  where
    by : (b : Bool) → eqb e.0 k ≡ b → (b || holds k es) ≡ false → (holds k es ≡ false → insert_entry nat_eq es k v ≡ es ++ (k, v) ∷ []) → insert_entry nat_eq (e ∷ es) k v ≡ (e ∷ es) ++ (k, v) ∷ []
    by true p h rest = cc
    by false p h rest = rw (eqb-sym k e.0, p) (ap (λ l. e ∷ l) (rest h))

holds-last : (j k : ℕ) (v : List Name) (es : List (ℕ × List Name)) → holds j es ≡ false → eqb k j ≡ false → holds j (es ++ (k, v) ∷ []) ≡ false
holds-last j k v [] h e = rw e
holds-last j k v (s ∷ es) h e = by (eqb s.0 j) refl h (holds-last j k v es)
  where
    by : (b : Bool) → eqb s.0 j ≡ b → (b || holds j es) ≡ false → (holds j es ≡ false → eqb k j ≡ false → holds j (es ++ (k, v) ∷ []) ≡ false) → (eqb s.0 j || holds j (es ++ (k, v) ∷ [])) ≡ false
    by true p h rest = cc
    by false p h rest = rw p (rest h e)

pub Apart-last : (k : ℕ) (v : List Name) (es : List (ℕ × List Name)) → holds k es ≡ false → Apart es → Apart (es ++ (k, v) ∷ [])
Apart-last k v [] new h = (refl, tt)
Apart-last k v (e ∷ es) new h = by (eqb e.0 k) refl new (Apart-last k v es)
  where
    by : (b : Bool) → eqb e.0 k ≡ b → (b || holds k es) ≡ false → (holds k es ≡ false → Apart es → Apart (es ++ (k, v) ∷ [])) → Apart ((e ∷ es) ++ (k, v) ∷ [])
    by true p n rest = cc
    by false p n rest = (holds-last e.0 k v es h.0 (eqb-sym k e.0 ∙ p), rest n h.1)

none_there : (k : ℕ) (es : List (ℕ × List Name)) → holds k es ≡ false → flat_map (λ stage. cond (eqb stage.0 k) stage.1 []) es ≡ []
none_there k [] h = refl
none_there k (e ∷ es) h = by (eqb e.0 k) refl h (none_there k es)
  where
    by : (b : Bool) → eqb e.0 k ≡ b → (b || holds k es) ≡ false → (holds k es ≡ false → flat_map (λ stage. cond (eqb stage.0 k) stage.1 []) es ≡ []) → (cond (eqb e.0 k) e.1 [] ++ flat_map (λ stage. cond (eqb stage.0 k) stage.1 []) es) ≡ []
    by true p n rest = cc
    by false p n rest = rw p (rest n)

append_none : (xs : List Name) → xs ++ [] ≡ xs
append_none [] = refl
append_none (x ∷ xs) = ap (λ l. x ∷ l) (append_none xs)

-- the elements at an object are those that stand with it
pub elements_at-lookup : (k : ℕ) (es : List (ℕ × List Name)) → Apart es → elements_at es k ≡ unwrap_or (lookup (nat_eq k) es) []
unfolding elements_at
elements_at-lookup k [] h = refl
elements_at-lookup k (e ∷ es) h = by (eqb e.0 k) refl (elements_at-lookup k es h.1)
  where
    by : (b : Bool) → eqb e.0 k ≡ b → flat_map (λ stage. cond (eqb stage.0 k) stage.1 []) es ≡ unwrap_or (lookup (nat_eq k) es) [] → (cond (eqb e.0 k) e.1 [] ++ flat_map (λ stage. cond (eqb stage.0 k) stage.1 []) es) ≡ unwrap_or (lookup (nat_eq k) (e ∷ es)) []
    by true p rest = rw (eqb-sym k e.0, p, none_there k es (subst (λ j. holds j es ≡ false) (eqb-true e.0 k p) h.0)) (append_none e.1)
    by false p rest = rw (eqb-sym k e.0, p) rest

-- one more of what is found at each object
pub range_more : {X : Type 0} (f : ℕ → X) (i : ℕ) (xs more : List X) (x : X) → xs ≡ map f (range_with_len 0 i) → more ≡ xs ++ x ∷ [] → x ≡ f i → more ≡ map f (range_with_len 0 (i + 1))
range_more f i xs more x so_far is at = rw (is, so_far, at) (sym (map-range_with_len_more f 0 i i (omega arith)))

pub eqb-no : (m n : ℕ) → (m ≡ n → ⊥) → eqb m n ≡ false
eqb-no m n other = by (eqb m n) refl
  where
    by : (b : Bool) → eqb m n ≡ b → eqb m n ≡ false
    by true e = absurd (other (eqb-true m n e))
    by false e = e
