-- The entries of a listed map, seen from the last to the first: none stands twice while each is new.
use Rattle.std.proofs.Common.{◌≡◌, ℕ, zero, suc, ◌-◌, ◌<◌, ◌≤◌, Bool, true, false, cond, not, ◌&&◌, ◌||◌, eqb, ltb, List, [], ◌∷◌, length, get_or, drop, refl, sym, ap, ◌∙◌, arith, drop-cons}
use Rattle.std.specs.List.{list_any}
use Rattle.std.proofs.Math.Seq.{drop-length, drop-nil}
use Rattle.std.proofs.lemmas.Bool.{and_right, and_left}
use Rattle.indexmap.specs.IndexSet.{IndexSet, contains, Updates}
use Rattle.topos_model.specs.declared.raw.RawEntry.{RawEntry}
use Rattle.topos_model.specs.presheaves.MapFaults.{has_image}
use Rattle.topos_model.specs.statements.Form.{is_map_listing}

abbrev pub pair_eq : ℕ × ℕ → ℕ × ℕ → Bool
pair_eq p q = eqb p.0 q.0 && eqb p.1 q.1

abbrev pub no_entry : RawEntry
no_entry = record { at = 0; from = 0; to = 0 }

-- the elements of the entries from place i on are marked, and none of these stands twice
pub record AreSeen {S : Type 0} (objects : ℕ) (entries : List RawEntry) (i : ℕ) (seen : IndexSet (ℕ × ℕ) S) : Type 0 where
  pub marked : (c x : ℕ) → contains pair_eq seen (c, x) ≡ has_image (drop i entries) c x
  pub listing : is_map_listing objects (drop i entries) ≡ true

pub fails_later : (objects : ℕ) (xs : List RawEntry) (i : ℕ) → is_map_listing objects (drop i xs) ≡ false → is_map_listing objects xs ≡ false
unfolding is_map_listing
fails_later objects [] i e = ap (is_map_listing objects) (sym (drop-nil i)) ∙ e
fails_later objects (x ∷ xs) zero e = e
fails_later objects (x ∷ xs) (suc i) e = and_right _ (is_map_listing objects xs) (fails_later objects xs i e)

module _ (objects : ℕ) (entries : List RawEntry) (i : ℕ) (low : 0 < i) (high : i ≤ length entries) where
  abbrev e : RawEntry
  e = get_or entries (i - 1) no_entry

  from_here : drop (i - 1) entries ≡ e ∷ drop i entries
  from_here =
      let next : suc (i - 1) ≡ i = omega arith in
      drop-cons entries (i - 1) no_entry (omega arith) ∙ ap (λ j. e ∷ drop j entries) next

  pub beyond : ltb e.at objects ≡ false → is_map_listing objects entries ≡ false
  unfolding is_map_listing
  beyond out = fails_later objects entries (i - 1) (rw from_here (rw out refl))

  pub again : {S : Type 0} (seen : IndexSet (ℕ × ℕ) S) → AreSeen objects entries i seen → contains pair_eq seen (e.at, e.from) ≡ true → is_map_listing objects entries ≡ false
  unfolding is_map_listing
  again seen before twice =
      let found : has_image (drop i entries) e.at e.from ≡ true = sym (before.marked e.at e.from) ∙ twice in
      fails_later objects entries (i - 1) (rw from_here (and_left _ (is_map_listing objects (drop i entries)) (and_right (ltb e.at objects) _ (ap not found))))

  pub seen_before : {S : Type 0} (seen after : IndexSet (ℕ × ℕ) S) → AreSeen objects entries i seen → ltb e.at objects ≡ true → contains pair_eq seen (e.at, e.from) ≡ false
      → Updates pair_eq seen after (e.at, e.from) true → AreSeen objects entries (i - 1) after
  unfolding is_map_listing has_image
  seen_before seen after before within fresh updates =
      let none : has_image (drop i entries) e.at e.from ≡ false = sym (before.marked e.at e.from) ∙ fresh in
      record {
        marked = λ c x. updates.0 (c, x) ∙ more (eqb e.at c && eqb e.from x) c x (before.marked c x) ∙ ap (λ l. has_image l c x) (sym from_here);
        listing = rw from_here (rw (within, none, before.listing) refl);
      }
    where
      more : (b : Bool) (c x : ℕ) {old : Bool} → old ≡ has_image (drop i entries) c x → cond b true old ≡ (b || has_image (drop i entries) c x)
      more true c x same = refl
      more false c x same = same

pub seen_at_end : {S : Type 0} (objects : ℕ) (entries : List RawEntry) (seen : IndexSet (ℕ × ℕ) S) → seen.keys ≡ [] → AreSeen objects entries (length entries) seen
unfolding is_map_listing has_image
seen_at_end objects entries seen empty = record {
  marked = λ c x. ap (list_any (pair_eq (c, x))) empty ∙ ap (λ (l : List RawEntry). has_image l c x) (sym (drop-length entries));
  listing = rw (drop-length entries) refl;
}

-- an answer is whether the key is new
pub new_if : (answer found test : Bool) → answer ≡ not found → answer ≡ test → found ≡ not test
new_if answer found test e f = sym (twice found) ∙ ap not (sym e ∙ f)
  where
    twice : (b : Bool) → not (not b) ≡ b
    twice true = refl
    twice false = refl
