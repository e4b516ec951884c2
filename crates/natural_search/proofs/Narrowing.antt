-- Sets that are narrowed: what is still allowed, and that the changes can be taken back.
use Rattle.std.proofs.Common.{◌≡◌, ℕ, ◌+◌, ◌%◌, ◌<◌, ◌≤◌, zero, suc, inl, inr, Bool, true, false, List, [], ◌∷◌, ◌++◌, length, get_or, set, take, drop, All, refl, sym, ap, subst, ◌∙◌, arith, bit_and, length-set, get_or-set_same, get_or-set_other, append_assoc}
use Rattle.std.proofs.lemmas.Bool.{cases_eq}
use Rattle.std.proofs.lemmas.List.{append-nil, drop-append-le, set-set, set-get_or, take-append-drop, take-append-le, take-take, take_all, length-take-le, drop_more, drop_all, get_or-take, get_or_default, get_or-append-add, length-append}
use Rattle.std.proofs.lemmas.List.Elements.{All-append}
use Rattle.natural_search.specs.declared.squares.Square.{Square}
use Rattle.natural_search.specs.declared.domains.Change.{Change}
use Rattle.natural_search.specs.declared.domains.Domains.{Domains}
use Rattle.natural_search.specs.Domains.{allows, AllAllowed, undone, at_level, IsWhole, Extends, Narrows, AllFit}
use Rattle.natural_search.proofs.ResidueBits.{allows_and, allows_none}

pub undone_append : (masks : List ℕ) (xs ys : List Change) → undone masks (xs ++ ys) ≡ undone (undone masks ys) xs
unfolding undone
undone_append masks [] ys = refl
undone_append masks (x ∷ xs) ys = ap (λ l. set l x.place x.before) (undone_append masks xs ys)

pub undone_length : (masks : List ℕ) (xs : List Change) → length (undone masks xs) ≡ length masks
unfolding undone
undone_length masks [] = refl
undone_length masks (x ∷ xs) = length-set (undone masks xs) x.place x.before ∙ undone_length masks xs

pub extends_refl : (d : Domains) → IsWhole d → Extends d d
unfolding undone
extends_refl d whole = record { whole = whole; places = refl; changes = []; trail = sym (append-nil d.trail.items); before = refl }

pub extends_trans : (d e f : Domains) → Extends d e → Extends e f → Extends d f
extends_trans d e f one two = record {
  whole = two.whole;
  places = two.places ∙ one.places;
  changes = one.changes ++ two.changes;
  trail = two.trail ∙ ap (λ (l : List Change). l ++ two.changes) one.trail ∙ append_assoc d.trail.items one.changes two.changes;
  before = undone_append f.masks.items one.changes two.changes ∙ ap (λ (l : List ℕ). undone l one.changes) two.before ∙ one.before;
}

-- earlier levels stay
pub extends_level : (d e : Domains) (level : ℕ) → Extends d e → level ≤ length d.trail.items → at_level e level ≡ at_level d level
extends_level d e level is low =
    ap (λ (l : List Change). undone e.masks.items (drop level l)) is.trail ∙ ap (undone e.masks.items) (drop-append-le level d.trail.items is.changes low)
    ∙ undone_append e.masks.items (drop level d.trail.items) is.changes ∙ ap (λ (l : List ℕ). undone l (drop level d.trail.items)) is.before

one_change : (P : Change → Type 0) (c : Change) → P c → All P (c ∷ [])
one_change P c h zero d low = h
one_change P c h (suc k) d low = absurd (omega arith)

-- one change
pub extends_one : (d e : Domains) (place after before : ℕ) → place < length d.masks.items → IsWhole d → before ≡ get_or d.masks.items place 0 → e.masks.items ≡ set d.masks.items place after →
    e.trail.items ≡ d.trail.items ++ record { place = place; before = before } ∷ [] → Extends d e
unfolding undone
extends_one d e place after before low whole was masks trail =
    let places : length e.masks.items ≡ length d.masks.items = ap length masks ∙ length-set d.masks.items place after in
    record {
      whole = subst (All (λ c. c.place < length e.masks.items)) (sym trail) (All-append (λ c. c.place < length e.masks.items) d.trail.items (record { place = place; before = before } ∷ []) (subst (λ n. All (λ c. c.place < n) d.trail.items) (sym places) whole) (one_change (λ c. c.place < length e.masks.items) (record { place = place; before = before }) (omega (arith, places))));
      places = places;
      changes = record { place = place; before = before } ∷ [];
      trail = trail;
      before = ap (λ (l : List ℕ). set l place before) masks ∙ set-set d.masks.items place after before ∙ ap (set d.masks.items place) was ∙ set-get_or d.masks.items place 0;
    }

module _ (G : List ℕ → Type 0) where
  pub narrows_refl : (d : Domains) → IsWhole d → Narrows G d d true
  narrows_refl d whole = record { extends = extends_refl d whole; allowed = λ values good all. (refl, all) }

  -- where some place has no number left, whatever was changed before
  pub narrows_none : (d e : Domains) → Extends d e → ((values : List ℕ) → G values → AllAllowed d.masks.items values → ⊥) → Narrows G d e false
  narrows_none d e extends none = record { extends = extends; allowed = λ values good all. absurd (none values good all) }

  pub narrows_trans : (d e f : Domains) (some : Bool) → Narrows G d e true → Narrows G e f some → Narrows G d f some
  narrows_trans d e f some one two = record {
    extends = extends_trans d e f one.extends two.extends;
    allowed = λ values good all. two.allowed values good (one.allowed values good all).1;
  }

  -- a stronger property, or one that follows from what is allowed
  pub narrows_weaker : (H : List ℕ → Type 0) (d e : Domains) (some : Bool) → ((values : List ℕ) → G values → AllAllowed d.masks.items values → H values) → Narrows H d e some → Narrows G d e some
  narrows_weaker H d e some h is = record { extends = is.extends; allowed = λ values good all. is.allowed values (h values good all) all }

  -- one narrowing after another, by a property that follows
  pub narrows_then : (H : List ℕ → Type 0) (d e f : Domains) (some now : Bool) → Narrows G d e true → Narrows H e f some → ((values : List ℕ) → G values → AllAllowed e.masks.items values → H values) → some ≡ now → Narrows G d f now
  narrows_then H d e f some now one two h is = subst (Narrows G d f) is (narrows_trans d e f some one (narrows_weaker H e f some h two))

-- a set at a place, narrowed to those of another set, still allows what both allow
pub still_allowed : (masks values : List ℕ) (place mask : ℕ) → place < length masks → AllAllowed masks values → allows mask (get_or values place 0) ≡ true →
    AllAllowed (set masks place (bit_and (get_or masks place 0) mask)) values
still_allowed masks values place mask low all new p within = elim (cases_eq p place) [
  | inl same ↦
      ap (λ q. allows (get_or (set masks place (bit_and (get_or masks place 0) mask)) q 0) (get_or values q 0)) same
      ∙ ap (λ m. allows m (get_or values place 0)) (get_or-set_same masks place (bit_and (get_or masks place 0) mask) 0 low)
      ∙ allows_and (get_or masks place 0) mask (get_or values place 0) (all place low) new
  | inr other ↦
      ap (λ m. allows m (get_or values p 0)) (get_or-set_other masks place p (bit_and (get_or masks place 0) mask) 0 other)
      ∙ all p (omega (arith, length-set masks place (bit_and (get_or masks place 0) mask), within))
]

-- where nothing is in both sets, nothing is allowed
pub none_allowed : (masks values : List ℕ) (place mask : ℕ) → place < length masks → AllAllowed masks values → allows mask (get_or values place 0) ≡ true → bit_and (get_or masks place 0) mask ≡ 0 → ⊥
none_allowed masks values place mask low all new none =
    allows_none (get_or values place 0) (ap (λ m. allows m (get_or values place 0)) (sym none) ∙ allows_and (get_or masks place 0) mask (get_or values place 0) (all place low) new)

module _ (along : List (List ℕ)) (squares : List Square) (s : ℕ) (d : Square) (low : s < length squares) where
  abbrev row : List ℕ
  row = get_or along (get_or squares s d).arrow []

  -- the image of the set at the element's place allows the number at the restriction's
  pub image_allowed : (masks listed : List ℕ) (place mask allowed : ℕ) → (get_or squares s d).element ≡ place → place < length masks → mask ≡ get_or masks place mask → listed ≡ row →
      ((w : ℕ) → w < length listed → allows mask w ≡ true → allows allowed (get_or listed w 0) ≡ true) →
      (values : List ℕ) → AllFit along squares values → AllAllowed masks values → allows allowed (get_or values (get_or squares s d).restricted 0) ≡ true
  image_allowed masks listed place mask allowed key inside read is image values fit all =
      let w = get_or values (get_or squares s d).element 0 in
      let here : w ≡ get_or values place 0 = ap (λ p. get_or values p 0) key in
      ap (allows allowed) (fit.fit s d low) ∙ ap (λ (r : List ℕ). allows allowed (get_or r w 0)) (sym is)
      ∙ image w (omega (arith, fit.within s d low, ap length is)) (ap (λ m. allows m w) (read ∙ get_or_default masks place mask 0 inside) ∙ ap (allows (get_or masks place 0)) here ∙ all place inside)

  -- and the preimage of the residue at the restriction's place the number at the element's
  pub preimage_allowed : (place residue allowed : ℕ) → (get_or squares s d).restricted ≡ place → ((w : ℕ) → w < length row → get_or row w 0 % 64 ≡ residue → allows allowed w ≡ true) →
      (values : List ℕ) → AllFit along squares values → get_or values place 0 % 64 ≡ residue → allows allowed (get_or values (get_or squares s d).element 0) ≡ true
  preimage_allowed place residue allowed key preimage values fit is =
      preimage (get_or values (get_or squares s d).element 0) (fit.within s d low)
      (ap (λ n. n % 64) (sym (fit.fit s d low)) ∙ ap (λ p. get_or values p 0 % 64) key ∙ is)

-- taking changes back from a level and then from a lower one is the same as from the lower one
pub rewound_level : (d e : Domains) (level lower : ℕ) → e.trail.items ≡ take level d.trail.items → e.masks.items ≡ at_level d level → level ≤ length d.trail.items → lower ≤ level → at_level e lower ≡ at_level d lower
rewound_level d e level lower trail masks high low =
    let n = length-take-le level d.trail.items high in
    ap (λ (l : List Change). undone e.masks.items (drop lower l)) trail ∙ ap (λ (l : List ℕ). undone l (drop lower (take level d.trail.items))) masks
    ∙ sym (undone_append d.masks.items (drop lower (take level d.trail.items)) (drop level d.trail.items))
    ∙ ap (undone d.masks.items) (sym (drop-append-le lower (take level d.trail.items) (drop level d.trail.items) (omega (arith, n))) ∙ ap (drop lower) (take-append-drop level d.trail.items))

-- the last change is taken back
pub rewound_more : (d : Domains) (level : ℕ) (c : Change) → level < length d.trail.items → c ≡ get_or d.trail.items level c → set (at_level d (level + 1)) c.place c.before ≡ at_level d level
unfolding undone
rewound_more d level c low e =
    ap (λ (x : Change). set (at_level d (level + 1)) x.place x.before) e ∙ sym (ap (undone d.masks.items) (drop_more d.trail.items level c low))

pub level_now : (d : Domains) (level : ℕ) → length d.trail.items ≤ level → at_level d level ≡ d.masks.items
unfolding undone
level_now d level high = ap (undone d.masks.items) (drop_all level d.trail.items high)

-- the last of the first changes
pub record IsPopped (trail rest : List Change) (c : Change) : Type 0 where
  pub low : length rest < length trail
  pub is : c ≡ get_or trail (length rest) c
  pub kept : rest ≡ take (length rest) trail

pub popped : (trail now rest : List Change) (c : Change) → now ≡ rest ++ c ∷ [] → length now ≤ length trail → now ≡ take (length now) trail → IsPopped trail rest c
popped trail now rest c last few first =
    let n : length now ≡ length rest + 1 = ap length last ∙ length-append rest (c ∷ []) in
    let z : length rest ≡ length rest + 0 = omega arith in
    record {
      low = omega (arith, n);
      is =
          sym (sym (get_or-take (length now) trail (length rest) c (omega (arith, n))) ∙ ap (λ (l : List Change). get_or l (length rest) c) (sym first ∙ last)
          ∙ ap (λ i. get_or (rest ++ c ∷ []) i c) z ∙ get_or-append-add rest (c ∷ []) 0 c);
      kept =
          sym (take_all (length rest) rest (omega arith)) ∙ sym (take-append-le (length rest) rest (c ∷ []) (omega arith)) ∙ ap (take (length rest)) (sym last ∙ first)
          ∙ take-take (length rest) (length now) trail (omega (arith, n));
    }

-- the changes that are left are at places
pub whole_level : (d e : Domains) (level : ℕ) → IsWhole d → level ≤ length d.trail.items → e.trail.items ≡ take level d.trail.items → e.masks.items ≡ at_level d level → IsWhole e
whole_level d e level whole high trail masks k c low =
    let n : length e.masks.items ≡ length d.masks.items = ap length masks ∙ undone_length d.masks.items (drop level d.trail.items) in
    let m : length e.trail.items ≡ level = ap length trail ∙ length-take-le level d.trail.items high in
    let at : get_or e.trail.items k c ≡ get_or d.trail.items k c = ap (λ (l : List Change). get_or l k c) trail ∙ get_or-take level d.trail.items k c (omega (arith, m, low)) in
    let p : (get_or e.trail.items k c).place ≡ (get_or d.trail.items k c).place = ap (λ (x : Change). x.place) at in
    omega (arith, n, p, whole k c (omega (arith, m, low, high)))

-- the residue of a number at a place that has only this one
pub residue_of : (d : Domains) (place : ℕ) (c : Change) (index residue mask : ℕ) → IsWhole d → index < length d.trail.items → c ≡ get_or d.trail.items index c → place ≡ c.place → mask ≡ get_or d.masks.items place mask → ((v : ℕ) → allows mask v ≡ true → v % 64 ≡ residue) →
    (values : List ℕ) → AllAllowed d.masks.items values → get_or values place 0 % 64 ≡ residue
residue_of d place c index residue mask whole low is here read only values all =
    let p : c.place ≡ (get_or d.trail.items index c).place = ap (λ (x : Change). x.place) is in
    let inside : place < length d.masks.items = omega (arith, here, p, whole index c low) in
    only (get_or values place 0) (ap (λ m. allows m (get_or values place 0)) (read ∙ get_or_default d.masks.items place mask 0 inside) ∙ all place inside)
