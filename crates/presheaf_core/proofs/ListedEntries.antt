-- Listed entries and listed restrictions, each looked up.
use Rattle.std.proofs.Common.{◌≡◌, ℕ, ◌+◌, ◌<◌, Bool, true, false, cond, not, ◌||◌, inl, inr, List, [], ◌∷◌, ◌++◌, map, length, get_or, take, drop, set, eqb, refl, sym, ap, subst, ◌∙◌, Some, arith}
use Rattle.std.specs.List.{list_any, range_with_len}
use Rattle.std.proofs.lemmas.Bool.{cond-true, eqb-true, eq-eqb, ne_eqb, or_right}
use Rattle.std.proofs.lemmas.List.{take_more, drop_more}
use Rattle.finite_lists.specs.Members.{In, Distinct}
use Rattle.finite_lists.specs.First.{first, some_if}
use Rattle.finite_lists.proofs.Lists.{In-map, some_any}
use Rattle.finite_lists.proofs.DistinctLists.{In-range_from}
use Rattle.finite_lists.proofs.FirstAnswers.{first_same, first_some_each, some_if-some}
use Rattle.topos_model.specs.declared.raw.RawAlong.{RawAlong}
use Rattle.topos_model.specs.categories.Listed.{entry_at, entries_along}
use Rattle.topos_model.specs.categories.Filling.{has_restriction}
use Rattle.topos_model.specs.presheaves.PresheafFaults.{has_entry}
use Rattle.presheaf_core.specs.Tables.{IsTable}
use Rattle.presheaf_core.specs.Filling.{missing_entry}
use Rattle.presheaf_core.proofs.Tables.{one_more}

-- the number that is listed for x is that of an entry
pub entry_in : (entries : List (ℕ × ℕ)) (x : ℕ) → has_entry entries x ≡ true → In {A = ℕ × ℕ} entries (x, entry_at entries x)
unfolding has_entry
entry_in [] x t = cc
entry_in (e ∷ rest) x t = at (eqb e.0 x) refl t (entry_in rest x)
  where
    at : (b : Bool) → eqb e.0 x ≡ b → (b || list_any (λ e. eqb e.0 x) rest) ≡ true → (list_any (λ e. eqb e.0 x) rest ≡ true → In {A = ℕ × ℕ} rest (x, entry_at rest x)) →
        In {A = ℕ × ℕ} (e ∷ rest) (x, cond b e.1 (entry_at rest x))
    at true s u ih = inl (ap (λ (n : ℕ). (n, e.1)) (eqb-true e.0 x s))
    at false s u ih = inr (ih u)

pub has_entry_from : (entries : List (ℕ × ℕ)) (x y : ℕ) → In {A = ℕ × ℕ} entries (x, y) → has_entry entries x ≡ true
unfolding has_entry
has_entry_from entries x y i = some_any (λ (e : ℕ × ℕ). eqb e.0 x) entries (x, y) i (eq-eqb x x refl)

-- an entry that stands once is the one that is listed
pub entry_once : (entries : List (ℕ × ℕ)) (x y : ℕ) → Distinct (map (λ e. e.0) entries) → In {A = ℕ × ℕ} entries (x, y) → entry_at entries x ≡ y
entry_once [] x y d i = absurd i
entry_once (e ∷ rest) x y d (inl same) =
    cond-true (eqb e.0 x) e.1 (entry_at rest x) (eq-eqb e.0 x (ap (λ (p : ℕ × ℕ). p.0) same)) ∙ ap (λ (p : ℕ × ℕ). p.1) same
entry_once (e ∷ rest) x y d (inr i) = at (eqb e.0 x) refl (entry_once rest x y d.1 i)
  where
    at : (b : Bool) → eqb e.0 x ≡ b → entry_at rest x ≡ y → cond b e.1 (entry_at rest x) ≡ y
    at true t ih = absurd (d.0 (subst (λ (n : ℕ). In (map (λ e. e.0) rest) n) (sym (eqb-true e.0 x t)) (In-map (λ (e : ℕ × ℕ). e.0) rest (x, y) i)))
    at false t ih = ih

-- the entries that are listed along f are those of a listed restriction
pub restriction_in : (along : List RawAlong) (f : ℕ) → has_restriction along f ≡ true → (a : RawAlong) × In along a × (a.arrow ≡ f) × (entries_along along f ≡ a.entries)
unfolding has_restriction
restriction_in [] f t = cc
restriction_in (a ∷ rest) f t = at (eqb a.arrow f) refl t (restriction_in rest f)
  where
    at : (b : Bool) → eqb a.arrow f ≡ b → (b || list_any (λ a. eqb a.arrow f) rest) ≡ true →
        (list_any (λ a. eqb a.arrow f) rest ≡ true → (a : RawAlong) × In rest a × (a.arrow ≡ f) × (entries_along rest f ≡ a.entries)) →
        (d : RawAlong) × In (a ∷ rest) d × (d.arrow ≡ f) × (cond b a.entries (entries_along rest f) ≡ d.entries)
    at true s u ih = (a, inl refl, eqb-true a.arrow f s, refl)
    at false s u ih =
        let r : (a : RawAlong) × In rest a × (a.arrow ≡ f) × (entries_along rest f ≡ a.entries) = ih u in
        (r.0, inr r.1, r.2, r.3)

pub has_restriction_from : (along : List RawAlong) (a : RawAlong) → In along a → has_restriction along a.arrow ≡ true
unfolding has_restriction
has_restriction_from along a i = some_any (λ (b : RawAlong). eqb b.arrow a.arrow) along a i (eq-eqb a.arrow a.arrow refl)

-- a restriction that stands once is the one that is listed
pub restriction_once : (along : List RawAlong) (a : RawAlong) → Distinct (map (λ a. a.arrow) along) → In along a → entries_along along a.arrow ≡ a.entries
restriction_once [] a d i = absurd i
restriction_once (b ∷ rest) a d (inl same) = cond-true (eqb b.arrow a.arrow) b.entries (entries_along rest a.arrow) (eq-eqb _ _ (ap (λ (a : RawAlong). a.arrow) same)) ∙ ap (λ (a : RawAlong). a.entries) same
restriction_once (b ∷ rest) a d (inr i) = at (eqb b.arrow a.arrow) refl (restriction_once rest a d.1 i)
  where
    at : (t : Bool) → eqb b.arrow a.arrow ≡ t → entries_along rest a.arrow ≡ a.entries → cond t b.entries (entries_along rest a.arrow) ≡ a.entries
    at true e ih = absurd (d.0 (subst (λ (n : ℕ). In (map (λ a. a.arrow) rest) n) (sym (eqb-true b.arrow a.arrow e)) (In-map (λ (a : RawAlong). a.arrow) rest a i)))
    at false e ih = ih

-- one more entry
pub has_entry-none : (x : ℕ) → has_entry [] x ≡ false
unfolding has_entry
has_entry-none x = refl

pub has_entry-more : (entries : List (ℕ × ℕ)) (e : ℕ × ℕ) (x : ℕ) → has_entry (entries ++ e ∷ []) x ≡ (has_entry entries x || eqb e.0 x)
unfolding has_entry
has_entry-more [] e x = or_false (eqb e.0 x)
  where
    or_false : (b : Bool) → (b || false) ≡ (false || b)
    or_false true = refl
    or_false false = refl
has_entry-more (d ∷ entries) e x = at (eqb d.0 x) (has_entry-more entries e x)
  where
    at : (b : Bool) → list_any (λ e. eqb e.0 x) (entries ++ e ∷ []) ≡ (list_any (λ e. eqb e.0 x) entries || eqb e.0 x) →
        (b || list_any (λ e. eqb e.0 x) (entries ++ e ∷ [])) ≡ ((b || list_any (λ e. eqb e.0 x) entries) || eqb e.0 x)
    at true h = refl
    at false h = h

pub entered_more : (entries : List (ℕ × ℕ)) (size i : ℕ) (bits : List Bool) → i < length entries → (get_or entries i (0, 0)).0 < size → IsTable (has_entry (take i entries)) size bits →
    IsTable (has_entry (take (i + 1) entries)) size (set bits (get_or entries i (0, 0)).0 true)
entered_more entries size i bits low within table =
    one_more (has_entry (take i entries)) (has_entry (take (i + 1) entries)) size (get_or entries i (0, 0)).0 bits table within
    (step (get_or entries i (0, 0)).0 ∙ or_right (has_entry (take i entries) (get_or entries i (0, 0)).0) _ (eq-eqb _ _ refl))
    (λ x other. step x ∙ off (has_entry (take i entries) x) _ (ne_eqb (get_or entries i (0, 0)).0 x (λ e. other (sym e))))
  where
    step : (x : ℕ) → has_entry (take (i + 1) entries) x ≡ (has_entry (take i entries) x || eqb (get_or entries i (0, 0)).0 x)
    step x = ap (λ (l : List (ℕ × ℕ)). has_entry l x) (take_more entries i (0, 0) low) ∙ has_entry-more (take i entries) (get_or entries i (0, 0)) x

    off : (a b : Bool) → b ≡ false → (a || b) ≡ a
    off true b e = refl
    off false b e = e

-- a restriction that is passed, and one that is found
pub restriction_passed : (along : List RawAlong) (i f : ℕ) (d : RawAlong) → i < length along → ((get_or along i d).arrow ≡ f → ⊥) → has_restriction (drop i along) f ≡ has_restriction (drop (i + 1) along) f
unfolding has_restriction
restriction_passed along i f d low other =
    ap (list_any (λ (a : RawAlong). eqb a.arrow f)) (drop_more along i d low) ∙ ap (λ b. b || list_any (λ (a : RawAlong). eqb a.arrow f) (drop (i + 1) along)) (ne_eqb _ _ other)

pub restriction_found : (along : List RawAlong) (i f : ℕ) (d : RawAlong) → i < length along → (get_or along i d).arrow ≡ f → has_restriction (drop i along) f ≡ true
unfolding has_restriction
restriction_found along i f d low same =
    ap (list_any (λ (a : RawAlong). eqb a.arrow f)) (drop_more along i d low) ∙ ap (λ b. b || list_any (λ (a : RawAlong). eqb a.arrow f) (drop (i + 1) along)) (eq-eqb _ _ same)

pub restriction_none : (f : ℕ) → has_restriction [] f ≡ false
unfolding has_restriction
restriction_none f = refl

pub entries_passed : (along : List RawAlong) (i f : ℕ) (d : RawAlong) → i < length along → ((get_or along i d).arrow ≡ f → ⊥) → entries_along (drop i along) f ≡ entries_along (drop (i + 1) along) f
entries_passed along i f d low other =
    ap (λ l. entries_along l f) (drop_more along i d low) ∙ ap (λ b. cond b (get_or along i d).entries (entries_along (drop (i + 1) along) f)) (ne_eqb _ _ other)

pub entries_found : (along : List RawAlong) (i f : ℕ) (d : RawAlong) → i < length along → (get_or along i d).arrow ≡ f → entries_along (drop i along) f ≡ (get_or along i d).entries
entries_found along i f d low same =
    ap (λ l. entries_along l f) (drop_more along i d low) ∙ ap (λ b. cond b (get_or along i d).entries (entries_along (drop (i + 1) along) f)) (eq-eqb _ _ same)

-- the first element without an entry, by its marks
pub missing_by_marks : (entries : List (ℕ × ℕ)) (size : ℕ) (marks : List Bool) → IsTable (has_entry entries) size marks →
    first (λ x. some_if (not (get_or marks x false)) x) (range_with_len 0 (length marks)) ≡ missing_entry entries size
missing_by_marks entries size marks table =
    ap (λ n. first (λ x. some_if (not (get_or marks x false)) x) (range_with_len 0 n)) table.places
    ∙ first_same _ _ (range_with_len 0 size) (λ x i. let w = In-range_from 0 size x i in ap (λ b. some_if (not b) x) (table.answers x (omega (arith, w.1))))

pub found_within : (entries : List (ℕ × ℕ)) (size : ℕ) (marks : List Bool) (x : ℕ) → IsTable (has_entry entries) size marks →
    Some x ≡ first (λ x. some_if (not (get_or marks x false)) x) (range_with_len 0 (length marks)) → x < size
found_within entries size marks x table e =
    let r = first_some_each (λ x. some_if (not (get_or marks x false)) x) (range_with_len 0 (length marks)) x (sym e) in
    let w = In-range_from 0 (length marks) r.0 r.1 in
    let s = some_if-some (not (get_or marks r.0 false)) r.0 x r.2 in
    let same : r.0 ≡ x = cc in
    omega (arith, w.1, table.places, same)
