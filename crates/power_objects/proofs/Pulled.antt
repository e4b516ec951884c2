-- A closed set of pairs pulls back to a closed set along each arrow.
use Rattle.std.proofs.Common.{◌≡◌, ℕ, zero, suc, ◌+◌, ◌<◌, Bool, true, false, inl, inr, List, [], ◌∷◌, length, get_or, map, filter, replicate, refl, sym, ap, subst, ◌∙◌, arith}
use Rattle.std.proofs.lemmas.List.{length-map, get_or-map, length-replicate}
use Rattle.finite_lists.specs.Members.{In}
use Rattle.finite_lists.proofs.Lists.{In-append_left, In-append_right, In-append_cases, In-map, In-map_from, In-filter, In-filter_from}
use Rattle.topos_model.specs.categories.Category.{Category, into, dom, compose}
use Rattle.topos_model.specs.topologies.Cover.{Site}
use Rattle.topos_model.specs.topologies.LeastCovers.{least}
use Rattle.topos_model.specs.Laws.{IsCategory, IsInto, IsTopology}
use Rattle.topos_model.proofs.ArrowsInto.{In-into}
use Rattle.sieve_table.proofs.SieveMembers.{goes, comes, regroup}
use Rattle.topologies.proofs.LeastCovers.{least-into}
use Rattle.closed_sets.specs.Closed.{bits, is_closed, closed_lists}
use Rattle.closed_sets.proofs.Bits.{closed_is, is_closed_from}
use Rattle.place_closures.specs.Passes.{two_passes}
use Rattle.place_closures.specs.PassLaws.{two_passes_closure}
use Rattle.place_closures.specs.Pairs.{AreRestricted, pairs, start, table, has_pair, IsClosedSet}
use Rattle.place_closures.proofs.PairNumbers.{length-joined, at_start, number_within, number_of_pair}
use Rattle.place_closures.proofs.PairTables.{length-table, tables, closed_set, set_closed}
use Rattle.power_objects.specs.BitOrder.{read_along}
use Rattle.power_objects.specs.SubsetRows.{under, closed_sets}

pub length-bits : (n : ℕ) (a : List Bool) → In (bits n) a → length a ≡ n
unfolding bits
length-bits zero a (inl e) = sym (ap length e)
length-bits zero a (inr i) = absurd i
length-bits (suc n) a i =
    elim (In-append_cases (map (λ r. false ∷ r) (bits n)) (map (λ r. true ∷ r) (bits n)) a i) [
      | inl l ↦ let m = In-map_from (λ r. false ∷ r) (bits n) a l in sym (ap length m.2) ∙ ap suc (length-bits n m.0 m.1)
      | inr l ↦ let m = In-map_from (λ r. true ∷ r) (bits n) a l in sym (ap length m.2) ∙ ap suc (length-bits n m.0 m.1)
    ]

pub In-bits : (a : List Bool) → In (bits (length a)) a
unfolding bits
In-bits [] = inl refl
In-bits (false ∷ a) = In-append_left (map (λ r. false ∷ r) (bits (length a))) (map (λ r. true ∷ r) (bits (length a))) (false ∷ a) (In-map (λ r. false ∷ r) (bits (length a)) a (In-bits a))
In-bits (true ∷ a) = In-append_right (map (λ r. false ∷ r) (bits (length a))) (map (λ r. true ∷ r) (bits (length a))) (true ∷ a) (In-map (λ r. true ∷ r) (bits (length a)) a (In-bits a))

module _ (k : Category) (laws : IsCategory k) (size : ℕ → ℕ) (move : ℕ → ℕ → ℕ) (c f : ℕ) (arrow : IsInto k c f) where
  pub under_at : (h w d : ℕ) → IsInto k (dom k f) h → w < size (dom k h) → get_or (under k size move c f) (start k size move (dom k f) h + w) d ≡ start k size move c (compose k f h) + w
  unfolding under start
  under_at h w d i low = at_start (λ h. size (dom k h)) (λ h w. start k size move c (compose k f h) + w) (into k (dom k f)) h w d (In-into k (dom k f) h i) low

  pub length-under : length (under k size move c f) ≡ length (pairs k size move (dom k f))
  unfolding under pairs
  length-under =
      let pair : ℕ → ℕ → ℕ × ℕ = λ f w. (f, w) in
      length-joined (λ h. size (dom k h)) (λ h w. start k size move c (compose k f h) + w) (into k (dom k f)) ∙ sym (length-joined (λ h. size (dom k h)) pair (into k (dom k f)))

  pub under_within : (i : ℕ) → i < length (under k size move c f) → get_or (under k size move c f) i 0 < length (pairs k size move c)
  under_within i low =
      let (h, w, j, l, e) = number_of_pair k size move (dom k f) i (omega (arith, low, length-under)) in
      let l' : w < size (dom k (compose k f h)) = subst (λ d. w < size d) (sym (comes k laws arrow j)) l in
      subst (λ n. n < length (pairs k size move c)) (sym (ap (λ n. get_or (under k size move c f) n 0) (sym e) ∙ under_at h w 0 j l)) (number_within k size move c (compose k f h) w (goes k laws arrow j) l')

  pub read_at : (a : List Bool) (h w : ℕ) → IsInto k (dom k f) h → w < size (dom k h) → has_pair k size move (dom k f) (read_along (under k size move c f) a) h w ≡ has_pair k size move c a (compose k f h) w
  read_at a h w i low =
      let b = number_within k size move (dom k f) h w i low in
      get_or-map (λ n. get_or a n false) (under k size move c f) (start k size move (dom k f) h + w) 0 false (omega (arith, b, length-under)) ∙ ap (λ n. get_or a n false) (under_at h w 0 i low)

module _ (s : Site) (laws : IsCategory s.category) (top : IsTopology s) (size : ℕ → ℕ) (move : ℕ → ℕ → ℕ) (restricts : AreRestricted s.category size move) where
  abbrev k : Category
  k = s.category

  abbrev passes : ℕ → List Bool → List Bool
  passes c = two_passes (table k size move (into k) c) (table k size move (least s) c)

  pub closed_length : (c : ℕ) (a : List Bool) → In (closed_sets s size move c) a → length a ≡ length (pairs k size move c)
  unfolding closed_sets closed_lists
  closed_length c a i = length-bits (length (pairs k size move c)) a (In-filter_from (is_closed (passes c)) (bits (length (pairs k size move c))) a i).0

  pub closed_is_set : (c : ℕ) (a : List Bool) → In (closed_sets s size move c) a → IsClosedSet s size move c a
  unfolding closed_sets closed_lists
  closed_is_set c a i =
      closed_set s laws top size move restricts c a (closed_length c a i) (closed_is (passes c) a (In-filter_from (is_closed (passes c)) (bits (length (pairs k size move c))) a i).1)

  pub set_is_closed : (c : ℕ) (a : List Bool) → length a ≡ length (pairs k size move c) → IsClosedSet s size move c a → is_closed (passes c) a ≡ true
  set_is_closed c a e h = is_closed_from (passes c) a (set_closed s laws top size move restricts c a e h)

  pub set_in : (c : ℕ) (a : List Bool) → length a ≡ length (pairs k size move c) → IsClosedSet s size move c a → In (closed_sets s size move c) a
  unfolding closed_sets closed_lists
  set_in c a e h = In-filter (is_closed (passes c)) (bits (length (pairs k size move c))) a (subst (λ n. In (bits n) a) e (In-bits a)) (set_is_closed c a e h)

  -- the closure of no pairs
  pub some_set : (c : ℕ) → 0 < length (closed_sets s size move c)
  unfolding closed_sets closed_lists
  some_set c =
      let n = length (pairs k size move c) in
      let none : List Bool = replicate n false in
      let e : length none ≡ n = length-replicate n false in
      let m : length (table k size move (into k) c) ≡ n = length-table k size move (into k) c in
      let closure = two_passes_closure (table k size move (into k) c) (table k size move (least s) c) (tables s laws top size move restricts c) in
      let least = passes c none in
      let l : length least ≡ n = closure.keeps none (e ∙ sym m) ∙ m in
      let i : In (filter (is_closed (passes c)) (bits n)) least = In-filter (is_closed (passes c)) (bits n) least (subst (λ n. In (bits n) least) l (In-bits least)) (is_closed_from (passes c) least (closure.idempotent none (e ∙ sym m))) in
      inhabited (filter (is_closed (passes c)) (bits n)) least i
    where
      inhabited : (xs : List (List Bool)) (a : List Bool) → In xs a → 0 < length xs
      inhabited [] a i = absurd i
      inhabited (x ∷ xs) a i = omega arith

  module _ (c f : ℕ) (arrow : IsInto s.category c f) where
    abbrev pull : List Bool → List Bool
    pull a = read_along (under k size move c f) a

    pulled_set : (a : List Bool) → IsClosedSet s size move c a → IsClosedSet s size move (dom k f) (pull a)
    pulled_set a h = record {
      restricted = λ x w g i low j on.
          let l : w < size (dom k (compose k f x)) = subst (λ d. w < size d) (sym (comes k laws arrow i)) low in
          let j' : IsInto k (dom k (compose k f x)) g = subst (λ d. IsInto k d g) (sym (comes k laws arrow i)) j in
          let low' : move g w < size (dom k (compose k x g)) = subst (λ d. move g w < size d) (sym (comes k laws i j)) (restricts.within (dom k x) g w j low) in
          read_at k laws size move c f arrow a (compose k x g) (move g w) (goes k laws i j) low'
          ∙ ap (λ y. has_pair k size move c a y (move g w)) (regroup k laws arrow i j)
          ∙ h.restricted (compose k f x) w g (goes k laws arrow i) l j' (sym (read_at k laws size move c f arrow a x w i low) ∙ on);
      covered = λ x w i low each.
          let l : w < size (dom k (compose k f x)) = subst (λ d. w < size d) (sym (comes k laws arrow i)) low in
          read_at k laws size move c f arrow a x w i low
          ∙ h.covered (compose k f x) w (goes k laws arrow i) l (λ g m.
          let m' : In (least s (dom k x)) g = subst (λ d. In (least s d) g) (comes k laws arrow i) m in
          let j = least-into s laws (dom k x) g m' in
          let low' : move g w < size (dom k (compose k x g)) = subst (λ d. move g w < size d) (sym (comes k laws i j)) (restricts.within (dom k x) g w j low) in
          ap (λ y. has_pair k size move c a y (move g w)) (sym (regroup k laws arrow i j))
          ∙ sym (read_at k laws size move c f arrow a (compose k x g) (move g w) (goes k laws i j) low') ∙ each g m');
    }

    pub pulled_in : (a : List Bool) → In (closed_sets s size move c) a → In (closed_sets s size move (dom k f)) (read_along (under s.category size move c f) a)
    pulled_in a i = set_in (dom k f) (pull a) (length-map (under k size move c f) _ ∙ length-under k laws size move c f arrow) (pulled_set a (closed_is_set c a i))
