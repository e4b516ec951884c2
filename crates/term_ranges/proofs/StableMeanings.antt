-- A term whose maps are declared means the same with more maps.
use Rattle.std.proofs.Common.{◌≡◌, ℕ, true, ltb, List, [], ◌++◌, length, get_or, refl}
use Rattle.std.proofs.lemmas.Bool.{and_parts, ltb-true}
use Rattle.std.proofs.lemmas.List.{get_or_append_left}
use Rattle.topos_model.specs.declared.value.Val.{Val}
use Rattle.topos_model.specs.declared.term.Term.{Term, Var, Star, Pair', Fst', Snd', App', Eval', Lam', Compr', Eq', Member', Truth, Falsity, And', Or', Implies', Not', Forall', Exists', Unique', more_of-Term as only, end_of-Term as end}
use Rattle.topos_model.specs.formulas.Forcing.{World, along, locally, always, falsity_forced, and_forced, or_forced, implies_forced, not_forced, exists_forced, forall_forced, unique_forced, meaning}
use Rattle.term_ranges.specs.Ranges.{is_term_in_range}
use Rattle.term_ranges.specs.RangeLaws.{with_maps}

module _ (n : ℕ) (w : World) (more : List (List (List (Val × Val)))) where
  same_map : (m : ℕ) → ltb m (length w.maps) ≡ true → get_or (w.maps ++ more) m [] ≡ get_or w.maps m []
  same_map m h = get_or_append_left w.maps more [] m (ltb-true m (length w.maps) h)

  pub meaning_stable : (t : Term) → is_term_in_range n (length w.maps) t ≡ true → meaning (with_maps w more) t ≡ meaning w t
  unfolding meaning is_term_in_range along locally always falsity_forced and_forced or_forced implies_forced not_forced exists_forced forall_forced unique_forced
  meaning_stable (Var k) h = refl
  meaning_stable Star h = refl
  meaning_stable (Pair' i (only t end) j (only u end)) h = let p = and_parts _ _ h in rw (meaning_stable t p.0, meaning_stable u p.1) refl
  meaning_stable (Fst' i (only t end)) h = rw (meaning_stable t h) refl
  meaning_stable (Snd' i (only t end)) h = rw (meaning_stable t h) refl
  meaning_stable (App' m i (only t end)) h = let p = and_parts _ _ h in rw (meaning_stable t p.1, same_map m p.0) refl
  meaning_stable (Eval' i (only t end) j (only u end)) h = let p = and_parts _ _ h in rw (meaning_stable t p.0, meaning_stable u p.1) refl
  meaning_stable (Lam' S i (only t end)) h = let p = and_parts _ _ h in rw (meaning_stable t p.1) refl
  meaning_stable (Compr' S i (only t end)) h = let p = and_parts _ _ h in rw (meaning_stable t p.1) refl
  meaning_stable (Eq' i (only t end) j (only u end)) h = let p = and_parts _ _ h in rw (meaning_stable t p.0, meaning_stable u p.1) refl
  meaning_stable (Member' i (only t end) j (only u end)) h = let p = and_parts _ _ h in rw (meaning_stable t p.0, meaning_stable u p.1) refl
  meaning_stable Truth h = refl
  meaning_stable Falsity h = refl
  meaning_stable (And' i (only t end) j (only u end)) h = let p = and_parts _ _ h in rw (meaning_stable t p.0, meaning_stable u p.1) refl
  meaning_stable (Or' i (only t end) j (only u end)) h = let p = and_parts _ _ h in rw (meaning_stable t p.0, meaning_stable u p.1) refl
  meaning_stable (Implies' i (only t end) j (only u end)) h = let p = and_parts _ _ h in rw (meaning_stable t p.0, meaning_stable u p.1) refl
  meaning_stable (Not' i (only t end)) h = rw (meaning_stable t h) refl
  meaning_stable (Forall' S i (only t end)) h = let p = and_parts _ _ h in rw (meaning_stable t p.1) refl
  meaning_stable (Exists' S i (only t end)) h = let p = and_parts _ _ h in rw (meaning_stable t p.1) refl
  meaning_stable (Unique' S i (only t end)) h = let p = and_parts _ _ h in rw (meaning_stable t p.1) refl
