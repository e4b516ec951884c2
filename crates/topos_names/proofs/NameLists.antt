-- Names in a table, and the list of their bytes.
use Rattle.std.proofs.Common.{◌≡◌, ℕ, Bool, true, false, eqb, not, ◌||◌, List, [], ◌∷◌, ◌++◌, map, length, position, nat_eq, bytes_eq, replicate, None, Some, Ok, Err, get_or, slice_get, zero, suc, Bor, Decides, refl, sym, ap, ◌∙◌}
use Rattle.std.specs.List.{list_any, prefix_len}
use Rattle.std.proofs.lemmas.Slice.Eq.{bytes_eq-Decides}
use Rattle.std.proofs.lemmas.Bool.Decides.{same_from_decides, Decides-eqb}
use Rattle.std.proofs.lemmas.List.{length-map, map-append}
use Rattle.std.proofs.lemmas.List.Folds.{list_any-append}
use Rattle.indexmap.specs.IndexMap.{insert_entry}
use Rattle.indexmap.specs.IndexSet.{insert_key}
use Rattle.finite_lists.specs.First.{or_else, some_if}
use Rattle.topos_model.specs.declared.fault.Fault.{Fault}
use Rattle.topos_model.specs.declared.fault.Fault.TheVariants.{NameTwice, NameUnknown}
use Rattle.topos_text.specs.Tokens.{Written}
use Rattle.topos_text.specs.Names.{Name, number_in, look_up, found, twice_fault, again_fault}

Decides-sym : {b : Bool} {A : Type 0} {x y : A} → Decides b (x ≡ y) → Decides b (y ≡ x)
Decides-sym h = (λ e. sym (h.0 e), λ e. h.1 (sym e))

-- names are equal both ways
pub bytes_eq-sym : (x y : Name) → bytes_eq x y ≡ bytes_eq y x
bytes_eq-sym x y = same_from_decides _ _ (bytes_eq-Decides x y) (Decides-sym (bytes_eq-Decides y x))

module _ (q : Bor Name) where
  prefix_len-now : (keys : List (Bor Name)) → prefix_len (λ k. not (bytes_eq q.now k.now)) keys ≡ prefix_len (λ y. not (bytes_eq y q.now)) (map (λ k. k.now) keys)
  prefix_len-now [] = refl
  prefix_len-now (k ∷ keys) = rw (bytes_eq-sym q.now k.now, prefix_len-now keys)

  -- the place of a key is the number of its name
  pub position-now : (keys : List (Bor Name)) → position (λ k. bytes_eq q.now k.now) keys ≡ number_in (map (λ k. k.now) keys) q.now
  unfolding number_in
  position-now keys = rw (prefix_len-now keys, length-map keys (λ k. k.now))

  -- a key is there if its name is
  pub list_any-now : (keys : List (Bor Name)) → list_any (λ k. bytes_eq q.now k.now) keys ≡ list_any (λ y. bytes_eq y q.now) (map (λ k. k.now) keys)
  list_any-now [] = refl
  list_any-now (k ∷ keys) = rw (bytes_eq-sym q.now k.now, list_any-now keys)

module _ (names : List Name) (x : Written) where
  pub look_up-some : (k : ℕ) → Some k ≡ number_in names x.text → look_up names x ≡ Ok k
  unfolding look_up
  look_up-some k e = ap (found x) (sym e)

  pub look_up-none : (fault : Fault) → None ≡ number_in names x.text → fault ≡ NameUnknown x.token x.text → look_up names x ≡ Err fault
  unfolding look_up
  look_up-none fault e f = rw f (ap (found x) (sym e))

  -- the name is there
  pub twice_fault-some : (fault : Fault) → list_any (λ y. bytes_eq y x.text) names ≡ true → fault ≡ NameTwice x.token x.text → twice_fault names x ≡ Some fault
  unfolding twice_fault
  twice_fault-some fault e f = rw (e, f)

  -- the name is new
  pub twice_fault-none : list_any (λ y. bytes_eq y x.text) names ≡ false → twice_fault names x ≡ None
  unfolding twice_fault
  twice_fault-none e = rw e

-- a test is the other of what it is negated to
pub not-true : (b f : Bool) → f ≡ not b → f ≡ true → b ≡ false
not-true true f e h = sym h ∙ e
not-true false f e h = refl

pub not-false : (b f : Bool) → f ≡ not b → f ≡ false → b ≡ true
not-false true f e h = refl
not-false false f e h = sym h ∙ e

module _ (k : ℕ) (x : Written) where
  pub list_any-eqb : (numbers : List ℕ) → list_any (nat_eq k) numbers ≡ list_any (λ n. eqb n k) numbers
  list_any-eqb [] = refl
  list_any-eqb (n ∷ numbers) = rw (same_from_decides _ _ (Decides-eqb k n) (Decides-sym (Decides-eqb n k)), list_any-eqb numbers)

  -- the number is there
  pub again_fault-some : (numbers : List ℕ) (fault : Fault) → list_any (nat_eq k) numbers ≡ true → fault ≡ NameTwice x.token x.text → again_fault numbers k x ≡ Some fault
  unfolding again_fault
  again_fault-some numbers fault e f = rw (← list_any-eqb numbers, e, f)

  -- the number is new
  pub again_fault-none : (numbers : List ℕ) → list_any (nat_eq k) numbers ≡ false → again_fault numbers k x ≡ None
  unfolding again_fault
  again_fault-none numbers e = rw (← list_any-eqb numbers, e)

module _ {V : Type 0} where
  abbrev pub seen : Bor Name × V → Name × V
  seen e = (e.0.now, e.1)

  -- the names of a table are those of its keys
  pub names_of-seen : (es : List (Bor Name × V)) → map (λ e. e.0) (map seen es) ≡ map (λ k. k.now) (map (λ e. e.0) es)
  names_of-seen [] = refl
  names_of-seen (e ∷ es) = rw (names_of-seen es)

  -- the place of a key is the number of its name
  pub position-seen : (q : Bor Name) (es : List (Bor Name × V)) → position (λ k. bytes_eq q.now k.now) (map (λ e. e.0) es) ≡ number_in (map (λ e. e.0) (map seen es)) q.now
  position-seen q es = position-now q (map (λ e. e.0) es) ∙ ap (λ names. number_in names q.now) (sym (names_of-seen es))

  -- a name that is new goes last
  pub insert_entry-seen : (q : Bor Name) (v : V) (es : List (Bor Name × V)) → list_any (λ y. bytes_eq y q.now) (map (λ e. e.0) (map seen es)) ≡ false → map seen (insert_entry (λ x y. bytes_eq x.now y.now) es q v) ≡ map seen es ++ (q.now, v) ∷ []
  insert_entry-seen q v [] new = refl
  insert_entry-seen q v (e ∷ es) new = by (bytes_eq e.0.now q.now) refl new (insert_entry-seen q v es)
    where
      by : (b : Bool) → bytes_eq e.0.now q.now ≡ b → (b || list_any (λ y. bytes_eq y q.now) (map (λ e. e.0) (map seen es))) ≡ false
          → (list_any (λ y. bytes_eq y q.now) (map (λ e. e.0) (map seen es)) ≡ false → map seen (insert_entry (λ x y. bytes_eq x.now y.now) es q v) ≡ map seen es ++ (q.now, v) ∷ [])
          → map seen (insert_entry (λ x y. bytes_eq x.now y.now) (e ∷ es) q v) ≡ map seen (e ∷ es) ++ (q.now, v) ∷ []
      by true p h rest = cc
      by false p h rest = rw (bytes_eq-sym q.now e.0.now ∙ p) (ap (λ l. seen e ∷ l) (rest h))

-- a name is among those of two lists if it is among those of one
pub twice_fault_of_both : (xs ys : List Name) (x : Written) → twice_fault (xs ++ ys) x ≡ or_else (twice_fault ys x) (twice_fault xs x)
unfolding twice_fault
twice_fault_of_both xs ys x = rw (list_any-append (λ y. bytes_eq y x.text) xs ys) (by (list_any (λ y. bytes_eq y x.text) xs) (list_any (λ y. bytes_eq y x.text) ys))
  where
    by : (a b : Bool) → some_if (a || b) (NameTwice x.token x.text) ≡ or_else (some_if b (NameTwice x.token x.text)) (some_if a (NameTwice x.token x.text))
    by true true = refl
    by true false = refl
    by false true = refl
    by false false = refl

-- the same value for each of a list
pub map_to_one : {A B : Type 0} (xs : List A) (b : B) → map (λ x. b) xs ≡ replicate (length xs) b
map_to_one [] b = refl
map_to_one (x ∷ xs) b = rw (map_to_one xs b)

-- the names after a key is inserted that was not there
pub insert_key-new : (keys : List (Bor Name)) (q : Bor Name) → list_any (λ y. bytes_eq y q.now) (map (λ k. k.now) keys) ≡ false → map (λ k. k.now) (insert_key (λ x y. bytes_eq x.now y.now) keys q) ≡ map (λ k. k.now) keys ++ q.now ∷ []
insert_key-new keys q new = rw (list_any-now q keys ∙ new) (map-append (λ k. k.now) keys (q ∷ []))

-- what is held under a number, seen by a part of it
module _ {V B C : Type 0} (g : Name × V → B) (h : B → C) (part : V → C) (same : (e : Name × V) → h (g e) ≡ part e.1) where
  pub at_number : (es : List (Name × V)) (k : ℕ) (d : B) (v : V) → slice_get (map (λ e. e.1) es) k ≡ Some v → h (get_or (map g es) k d) ≡ part v
  at_number [] k d v e = cc
  at_number (s ∷ es) zero d v e = same s ∙ ap part (let e' : Some s.1 ≡ Some v = e in cc)
  at_number (s ∷ es) (suc k) d v e = at_number es k d v e

pub values-seen : {V : Type 0} (es : List (Bor Name × V)) → map (λ e. e.1) (map seen es) ≡ map (λ e. e.1) es
values-seen [] = refl
values-seen (e ∷ es) = rw (values-seen es)

-- among no names each is unknown
pub look_up-nothing : (x : Written) (fault : Fault) → fault ≡ NameUnknown x.token x.text → look_up [] x ≡ Err fault
unfolding number_in
look_up-nothing x fault is = look_up-none [] x fault refl is
