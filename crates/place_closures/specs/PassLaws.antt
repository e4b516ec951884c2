-- Two passes are a closure, and a set is closed by them exactly if each place moves within it, and it has each place whose cover it has.
use Rattle.std.proofs.Common.{◌≡◌, ℕ, ◌+◌, ◌<◌, Bool, true, false, inl, inr, List, [], length, get_or, eqb, refl, sym, subst, ◌∙◌, arith}
use Rattle.std.specs.List.{list_all}
use Rattle.std.proofs.lemmas.Bool.{or_cases, or_left, or_right, eqb-true, eq-eqb}
use Rattle.std.proofs.lemmas.List.{same_lists, get_or_default}
use Rattle.std.proofs.lemmas.List.FromFn.{length-map-range_with_len, get_or-map-range_with_len}
use Rattle.finite_lists.proofs.Lists.{same_tests, any_some, all_each, each_all}
use Rattle.topos_model.specs.categories.Category.{has}
use Rattle.fin_category.proofs.ArrowLists.{has-In, In-has}
use Rattle.closed_sets.specs.Closed.{IsBelow, IsClosure}
use Rattle.closed_sets.specs.Ideals.{lowered}
use Rattle.closed_sets.specs.IdealLaws.{in_list, some_place, place_some, length-lowered, read as read_lowered}
use Rattle.place_closures.specs.Passes.{moves, covered, two_passes, IsRestrictionClosed, IsCoverClosed, Has, AreTables}

-- lists of truth values with the same places are one
pub same_places : (a b : List Bool) → length a ≡ length b → IsBelow a b → IsBelow b a → a ≡ b
same_places a b e h k =
    same_lists a b e (λ i d low.
    let low' : i < length b = omega (arith, e, low) in
    get_or_default a i d false low ∙ same_tests (get_or a i false) (get_or b i false) (h i) (k i) ∙ get_or_default b i false d low')

pub length-covered : (covers : List (List ℕ)) (a : List Bool) → length (covered covers a) ≡ length a
unfolding covered
length-covered covers a = length-map-range_with_len (λ i. list_all (λ j. get_or a j false) (get_or covers i [])) 0 (length a)

read_covered : (covers : List (List ℕ)) (a : List Bool) (i : ℕ) → i < length a → get_or (covered covers a) i false ≡ list_all (λ j. get_or a j false) (get_or covers i [])
unfolding covered
read_covered covers a i low = get_or-map-range_with_len (λ i. list_all (λ j. get_or a j false) (get_or covers i [])) 0 (length a) i i false low (omega arith)

pub In-covered : (covers : List (List ℕ)) (a : List Bool) (i : ℕ) → i < length a → ((j : ℕ) → Has covers i j → get_or a j false ≡ true) → get_or (covered covers a) i false ≡ true
In-covered covers a i low each = read_covered covers a i low ∙ each_all (λ j. get_or a j false) (get_or covers i []) (λ j k. each j (has-In _ j k))

pub In-covered_from : (covers : List (List ℕ)) (a : List Bool) (i : ℕ) → get_or (covered covers a) i false ≡ true → (i < length a) × ((j : ℕ) → Has covers i j → get_or a j false ≡ true)
In-covered_from covers a i h =
    let low : i < length a = omega (arith, in_list (covered covers a) i h, length-covered covers a) in
    (low, λ j k. all_each (λ j. get_or a j false) (get_or covers i []) j (sym (read_covered covers a i low) ∙ h) (In-has _ j k))

module _ (below covers : List (List ℕ)) (laws : AreTables below covers) where
  itself : (k : ℕ) → moves below k k ≡ true
  itself k = or_left (eqb k k) _ (eq-eqb k k refl)

  through : (k j i : ℕ) → moves below k j ≡ true → moves below j i ≡ true → moves below k i ≡ true
  through k j i h g =
      elim (or_cases (eqb k j) _ h) [
        | inl e ↦ subst (λ x. moves below x i ≡ true) (sym (eqb-true k j e)) g
        | inr m ↦ elim (or_cases (eqb j i) _ g) [
          | inl e ↦ subst (λ x. moves below k x ≡ true) (eqb-true j i e) h
          | inr n ↦ or_right (eqb k i) _ (laws.through i j k n m)
        ]
      ]

  abbrev pub restricted : List Bool → List Bool
  restricted a = lowered (moves below) a

  -- the first pass
  pub In-restricted : (a : List Bool) (i j : ℕ) → j < length a → get_or a i false ≡ true → moves below j i ≡ true → get_or (restricted a) j false ≡ true
  In-restricted a i j low h m = read_lowered (moves below) a j low ∙ place_some (moves below) j 0 i a h (let z : i ≡ 0 + i = omega arith in subst (λ x. moves below j x ≡ true) z m)

  pub In-restricted_from : (a : List Bool) (j : ℕ) → get_or (restricted a) j false ≡ true → (j < length a) × ((i : ℕ) × (get_or a i false ≡ true) × (moves below j i ≡ true))
  In-restricted_from a j h =
      let low : j < length a = omega (arith, in_list (restricted a) j h, length-lowered (moves below) a) in
      let r = some_place (moves below) j 0 a (sym (read_lowered (moves below) a j low) ∙ h) in
      (low, (r.0, r.2, let z : 0 + r.0 ≡ r.0 = omega arith in subst (λ x. moves below j x ≡ true) z r.3))

  pub restricted_extends : (a : List Bool) → IsBelow a (restricted a)
  restricted_extends a i h = In-restricted a i i (in_list a i h) h (itself i)

  pub restricted_moves : (a : List Bool) → length a ≡ length below → IsRestrictionClosed below (restricted a)
  restricted_moves a e i j h m =
      let r = In-restricted_from a i h in
      let (l, g, n) = r.1 in
      In-restricted a l j (let w = laws.within i j m in omega (arith, e, w)) g (through j i l (or_right (eqb j i) _ m) n)

  pub restricted_least : (a t : List Bool) → IsBelow a t → IsRestrictionClosed below t → IsBelow (restricted a) t
  restricted_least a t le closed j h =
      let (i, g, m) = (In-restricted_from a j h).1 in
      elim (or_cases (eqb j i) _ m) [
        | inl e ↦ subst (λ x. get_or t x false ≡ true) (sym (eqb-true j i e)) (le i g)
        | inr n ↦ closed i j (le i g) n
      ]

  -- the second pass, of any set, is closed both ways
  pub covered_moves : (b : List Bool) → length b ≡ length below → IsRestrictionClosed below (covered covers b)
  covered_moves b e i j h m =
      let r = In-covered_from covers b i h in
      In-covered covers b j (let w = laws.within i j m in omega (arith, e, w)) (λ l n. r.1 l (laws.sink i j l m n))

  pub covered_covers : (b : List Bool) → IsCoverClosed covers (covered covers b)
  covered_covers b i low each =
      In-covered covers b i (omega (arith, low, length-covered covers b)) (λ l n.
      let r = any_some (λ j. has l (get_or covers j [])) (get_or covers i []) (laws.split i l n) in
      (In-covered_from covers b r.0 (each r.0 (has-In _ r.0 r.1))).1 l r.2)

  pub covered_extends : (b : List Bool) → IsRestrictionClosed below b → IsBelow b (covered covers b)
  covered_extends b closed i h = In-covered covers b i (in_list b i h) (λ j m. closed i j h (laws.covers_below i j m))

  covered_least : (t : List Bool) → IsCoverClosed covers t → IsBelow (covered covers t) t
  covered_least t closed i h = let r = In-covered_from covers t i h in closed i r.0 r.1

  covered_monotone : (a b : List Bool) → length a ≡ length b → IsBelow a b → IsBelow (covered covers a) (covered covers b)
  covered_monotone a b e le i h = let r = In-covered_from covers a i h in In-covered covers b i (let l = r.0 in omega (arith, e, l)) (λ j m. le j (r.1 j m))

  pub length-two_passes : (a : List Bool) → length (two_passes below covers a) ≡ length a
  unfolding two_passes
  length-two_passes a = length-covered covers (restricted a) ∙ length-lowered (moves below) a

  pub passes_move : (a : List Bool) → length a ≡ length below → IsRestrictionClosed below (two_passes below covers a)
  unfolding two_passes
  passes_move a e = covered_moves (restricted a) (length-lowered (moves below) a ∙ e)

  pub passes_cover : (a : List Bool) → IsCoverClosed covers (two_passes below covers a)
  unfolding two_passes
  passes_cover a = covered_covers (restricted a)

  pub passes_extend : (a : List Bool) → length a ≡ length below → IsBelow a (two_passes below covers a)
  unfolding two_passes
  passes_extend a e i h = covered_extends (restricted a) (restricted_moves a e) i (restricted_extends a i h)

  -- the least set above that is closed both ways
  pub passes_least : (a t : List Bool) → length a ≡ length t → IsBelow a t → IsRestrictionClosed below t → IsCoverClosed covers t → IsBelow (two_passes below covers a) t
  unfolding two_passes
  passes_least a t e le moved closed i h =
      covered_least t closed i (covered_monotone (restricted a) t (length-lowered (moves below) a ∙ e) (restricted_least a t le moved) i h)

  pub closed_passes : (a : List Bool) → length a ≡ length below → IsRestrictionClosed below a → IsCoverClosed covers a → two_passes below covers a ≡ a
  closed_passes a e moved closed = same_places (two_passes below covers a) a (length-two_passes a) (passes_least a a refl (λ i h. h) moved closed) (passes_extend a e)

  pub two_passes_closure : IsClosure (length below) (two_passes below covers)
  two_passes_closure = record {
    keeps = λ a e. length-two_passes a ∙ e;
    extensive = λ a e. passes_extend a e;
    monotone = λ a b e f le. passes_least a (two_passes below covers b) (e ∙ sym f ∙ sym (length-two_passes b)) (λ i h. passes_extend b f i (le i h)) (passes_move b f) (passes_cover b);
    idempotent = λ a e. closed_passes (two_passes below covers a) (length-two_passes a ∙ e) (passes_move a e) (passes_cover a);
  }
