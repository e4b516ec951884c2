-- The sets of arrows into an object that the two passes leave choose its closed sieves.
use Rattle.std.proofs.Common.{◌≡◌, ℕ, zero, suc, ◌+◌, ◌<◌, ◌≤◌, Bool, true, false, ◌&&◌, ◌⊎◌, inl, inr, List, [], ◌∷◌, length, get_or, map, drop, filter, refl, sym, ap, subst, ◌∙◌, add-one, arith}
use Rattle.std.proofs.Math.Seq.{drop-cons}
use Rattle.std.proofs.Math.ListN.{drop_of_length-le}
use Rattle.std.proofs.lemmas.Bool.{cases_eq, and_parts, and_from}
use Rattle.finite_lists.specs.Members.{In, Distinct}
use Rattle.finite_lists.specs.Sublists.{sublists}
use Rattle.finite_lists.proofs.Lists.{same_tests, In-append_left, In-append_right, In-append_cases, In-map, In-map_from, In-filter, In-filter_from, filter_filter}
use Rattle.topos_model.specs.categories.Category.{Category, into, dom, compose, sieves, is_sieve}
use Rattle.topos_model.specs.topologies.Cover.{Site}
use Rattle.topos_model.specs.Laws.{IsCategory, IsInto, IsTopology}
use Rattle.topos_model.specs.types.Types.{is_closed_sieve}
use Rattle.topos_model.specs.topologies.LeastCovers.{least}
use Rattle.topos_model.proofs.ArrowsInto.{In-into, In-into_from}
use Rattle.fin_category.specs.Masks.{added, all_added}
use Rattle.fin_category.proofs.ArrowLists.{Rises, Rises-into, all_added-rising}
use Rattle.sieve_table.proofs.SieveMembers.{Distinct-into, goes}
use Rattle.topologies.proofs.LeastCovers.{least-into}
use Rattle.closed_sets.specs.Closed.{bits, chosen, is_closed, closed_lists}
use Rattle.closed_sets.proofs.Bits.{closed_is, is_closed_from}
use Rattle.closed_sets.proofs.Chosen.{chosen-closed}
use Rattle.place_closures.specs.Passes.{two_passes}
use Rattle.place_closures.specs.Pairs.{AreRestricted, starts, pairs, start, table, has_pair}
use Rattle.place_closures.proofs.PairNumbers.{total, length-joined, starts-same, starts-other}
use Rattle.place_closures.proofs.PairTables.{length-table, closed_set, set_closed}
use Rattle.omega_object.specs.TruthValues.{closed_sieves}
use Rattle.omega_object.proofs.ClosedSieves.{closed_sieve, covered_in, closed_from}

-- one element at each object
abbrev pub one_each : ℕ → ℕ
one_each c = 1

abbrev pub no_move : ℕ → ℕ → ℕ
no_move f w = 0

pub one_restricted : (k : Category) → AreRestricted k one_each no_move
one_restricted k = record { within = λ c f w i low. omega arith; identity = λ c w low l. omega (arith, l); composite = λ c f g w i j low. refl }

total_ones : (fs : List ℕ) → total (λ f. 1) fs ≡ length fs
total_ones [] = refl
total_ones (f ∷ fs) = ap (λ n. 1 + n) (total_ones fs) ∙ omega arith

pub one_pairs : (k : Category) (c : ℕ) → length (pairs k one_each no_move c) ≡ length (into k c)
unfolding pairs
one_pairs k c = let pair : ℕ → ℕ → ℕ × ℕ = λ f w. (f, w) in length-joined (λ f. 1) pair (into k c) ∙ total_ones (into k c)

-- the members that are chosen, by their places
module _ where
  pub In-chosen : (xs : List ℕ) (a : List Bool) (f : ℕ) → In (chosen xs a) f → In xs f
  unfolding chosen
  In-chosen [] a f i = i
  In-chosen (x ∷ xs) [] f i = absurd i
  In-chosen (x ∷ xs) (true ∷ a) f (inl e) = inl e
  In-chosen (x ∷ xs) (true ∷ a) f (inr i) = inr (In-chosen xs a f i)
  In-chosen (x ∷ xs) (false ∷ a) f i = inr (In-chosen xs a f i)

  pub Rises-chosen : (xs : List ℕ) (a : List Bool) → Rises xs → Rises (chosen xs a)
  unfolding chosen
  Rises-chosen [] a r = r
  Rises-chosen (x ∷ xs) [] r = tt
  Rises-chosen (x ∷ xs) (true ∷ a) r = (λ y i. r.0 y (In-chosen xs a y i), Rises-chosen xs a r.1)
  Rises-chosen (x ∷ xs) (false ∷ a) r = Rises-chosen xs a r.1

  pub chosen_on : (xs : List ℕ) (a : List Bool) (f : ℕ) → Distinct xs → In (chosen xs a) f → get_or a (starts (λ f. 1) xs f) false ≡ true
  unfolding chosen
  chosen_on [] a f d i = absurd i
  chosen_on (x ∷ xs) [] f d i = absurd i
  chosen_on (x ∷ xs) (true ∷ a) f d (inl e) = ap (λ n. get_or (true ∷ a) n false) (starts-same (λ f. 1) (λ f w. w) x xs f e)
  chosen_on (x ∷ xs) (true ∷ a) f d (inr i) =
      ap (λ n. get_or (true ∷ a) n false) (starts-other (λ f. 1) (λ f w. w) x xs f (λ e. d.0 (subst (λ y. In xs y) (sym e) (In-chosen xs a f i))) ∙ sym (add_one_before (starts (λ f. 1) xs f)))
      ∙ chosen_on xs a f d.1 i
    where
      add_one_before : (n : ℕ) → suc n ≡ 1 + n
      add_one_before n = omega arith
  chosen_on (x ∷ xs) (false ∷ a) f d i =
      ap (λ n. get_or (false ∷ a) n false) (starts-other (λ f. 1) (λ f w. w) x xs f (λ e. d.0 (subst (λ y. In xs y) (sym e) (In-chosen xs a f i))) ∙ sym (add_one_before (starts (λ f. 1) xs f)))
      ∙ chosen_on xs a f d.1 i
    where
      add_one_before : (n : ℕ) → suc n ≡ 1 + n
      add_one_before n = omega arith

  pub on_chosen : (xs : List ℕ) (a : List Bool) (f : ℕ) → In xs f → get_or a (starts (λ f. 1) xs f) false ≡ true → In (chosen xs a) f
  unfolding chosen
  on_chosen [] a f i h = i
  on_chosen (x ∷ xs) [] f i h = cc
  on_chosen (x ∷ xs) (b ∷ a) f i h = at b (cases_eq x f) h (λ j g. on_chosen xs a f j g)
    where
      later : (n : ℕ) → 1 + n ≡ suc n
      later n = omega arith

      at : (b : Bool) → (x ≡ f) ⊎ (x ≡ f → ⊥) → get_or (b ∷ a) (starts (λ f. 1) (x ∷ xs) f) false ≡ true → (In xs f → get_or a (starts (λ f. 1) xs f) false ≡ true → In (chosen xs a) f) → In (chosen (x ∷ xs) (b ∷ a)) f
      at true (inl e) h ih = inl e
      at false (inl e) h ih = let n : get_or (false ∷ a) (starts (λ f. 1) (x ∷ xs) f) false ≡ false = ap (λ n. get_or (false ∷ a) n false) (starts-same (λ f. 1) (λ f w. w) x xs f e) in cc
      at true (inr n) h ih = inr (ih (elim i [ inl e ↦ absurd (n e) | inr j ↦ j ]) (sym (ap (λ n. get_or (true ∷ a) n false) (starts-other (λ f. 1) (λ f w. w) x xs f n ∙ later (starts (λ f. 1) xs f))) ∙ h))
      at false (inr n) h ih = ih (elim i [ inl e ↦ absurd (n e) | inr j ↦ j ]) (sym (ap (λ n. get_or (false ∷ a) n false) (starts-other (λ f. 1) (λ f w. w) x xs f n ∙ later (starts (λ f. 1) xs f))) ∙ h)

-- what a set chooses is a sublist
nothing_chosen : (xs : List ℕ) → In (sublists xs) []
unfolding sublists
nothing_chosen [] = inl refl
nothing_chosen (x ∷ xs) = In-append_left (sublists xs) _ [] (nothing_chosen xs)

pub chosen_sublist : (xs : List ℕ) (a : List Bool) → In (sublists xs) (chosen xs a)
unfolding chosen sublists
chosen_sublist [] a = inl refl
chosen_sublist (x ∷ xs) [] = In-append_left (sublists xs) _ [] (nothing_chosen xs)
chosen_sublist (x ∷ xs) (true ∷ a) = In-append_right (sublists xs) _ _ (In-map (λ s. x ∷ s) (sublists xs) _ (chosen_sublist xs a))
chosen_sublist (x ∷ xs) (false ∷ a) = In-append_left (sublists xs) _ _ (chosen_sublist xs a)

-- the arrows that a set chooses, one after another
pub chosen_all : (xs : List ℕ) (a : List Bool) → Rises xs → ((f : ℕ) → In xs f → f < 512) → all_added [] (chosen xs a) ≡ chosen xs a
chosen_all xs a r low = all_added-rising (chosen xs a) (Rises-chosen xs a r) (λ f i. low f (In-chosen xs a f i))

pub chosen_more : (S T xs : List ℕ) (a : List Bool) (i : ℕ) → i < length xs → i < length a → get_or a i false ≡ true → T ≡ added (get_or xs i 0) S →
    all_added T (chosen (drop (i + 1) xs) (drop (i + 1) a)) ≡ all_added S (chosen (drop i xs) (drop i a))
unfolding all_added chosen
chosen_more S T xs a i l m on e =
    ap (λ U. all_added U (chosen (drop (i + 1) xs) (drop (i + 1) a))) e
    ∙ ap (λ n. all_added (added (get_or xs i 0) S) (chosen (drop n xs) (drop n a))) (add-one i)
    ∙ sym (ap (λ ys. all_added S (chosen ys (drop i a))) (drop-cons xs i 0 l) ∙ ap (λ b. all_added S (chosen (get_or xs i 0 ∷ drop (suc i) xs) b)) (drop-cons a i false m)
    ∙ ap (λ b. all_added S (chosen (get_or xs i 0 ∷ drop (suc i) xs) (b ∷ drop (suc i) a))) on)

pub chosen_skipped : (S xs : List ℕ) (a : List Bool) (i : ℕ) → i < length xs → i < length a → get_or a i false ≡ false →
    all_added S (chosen (drop (i + 1) xs) (drop (i + 1) a)) ≡ all_added S (chosen (drop i xs) (drop i a))
unfolding chosen
chosen_skipped S xs a i l m off =
    ap (λ n. all_added S (chosen (drop n xs) (drop n a))) (add-one i)
    ∙ sym (ap (λ ys. all_added S (chosen ys (drop i a))) (drop-cons xs i 0 l) ∙ ap (λ b. all_added S (chosen (get_or xs i 0 ∷ drop (suc i) xs) b)) (drop-cons a i false m)
    ∙ ap (λ b. all_added S (chosen (get_or xs i 0 ∷ drop (suc i) xs) (b ∷ drop (suc i) a))) off)

pub chosen_end : (S xs : List ℕ) (a : List Bool) (i : ℕ) → length xs ≤ i → all_added S (chosen (drop i xs) (drop i a)) ≡ S
unfolding all_added chosen
chosen_end S xs a i high = ap (λ ys. all_added S (chosen ys (drop i a))) (drop_of_length-le xs high)

length-bits : (n : ℕ) (a : List Bool) → In (bits n) a → length a ≡ n
unfolding bits
length-bits zero a (inl e) = sym (ap length e)
length-bits zero a (inr i) = absurd i
length-bits (suc n) a i =
    elim (In-append_cases (map (λ r. false ∷ r) (bits n)) (map (λ r. true ∷ r) (bits n)) a i) [
      | inl l ↦ let m = In-map_from (λ r. false ∷ r) (bits n) a l in sym (ap length m.2) ∙ ap suc (length-bits n m.0 m.1)
      | inr l ↦ let m = In-map_from (λ r. true ∷ r) (bits n) a l in sym (ap length m.2) ∙ ap suc (length-bits n m.0 m.1)
    ]

pub closed_length : (n : ℕ) (closure : List Bool → List Bool) (a : List Bool) → In (closed_lists n closure) a → length a ≡ n
unfolding closed_lists
closed_length n closure a i = length-bits n a (In-filter_from (is_closed closure) (bits n) a i).0

module _ (s : Site) (laws : IsCategory s.category) (top : IsTopology s) (c : ℕ) where
  abbrev k : Category
  k = s.category

  abbrev below : List (List ℕ)
  below = table k one_each no_move (into k) c

  abbrev covers : List (List ℕ)
  covers = table k one_each no_move (least s) c

  -- whether a set has an arrow
  on_pair : (a : List Bool) (f : ℕ) → In (chosen (into k c) a) f → has_pair k one_each no_move c a f 0 ≡ true
  unfolding start
  on_pair a f i = ap (λ n. get_or a n false) (let z : starts (λ f. 1) (into k c) f + 0 ≡ starts (λ f. 1) (into k c) f = omega arith in z) ∙ chosen_on (into k c) a f (Distinct-into k c) i

  pair_on : (a : List Bool) (f : ℕ) → IsInto k c f → has_pair k one_each no_move c a f 0 ≡ true → In (chosen (into k c) a) f
  unfolding start
  pair_on a f i h = on_chosen (into k c) a f (In-into k c f i) (sym (ap (λ n. get_or a n false) (let z : starts (λ f. 1) (into k c) f + 0 ≡ starts (λ f. 1) (into k c) f = omega arith in z)) ∙ h)

  chosen_closed : (a : List Bool) → length a ≡ length (into k c) → two_passes below covers a ≡ a → In (closed_sieves s c) (chosen (into k c) a)
  chosen_closed a e is =
      let set = closed_set s laws top one_each no_move (one_restricted k) c a (e ∙ sym (one_pairs k c)) is in
      let within : (f : ℕ) → In (chosen (into k c) a) f → IsInto k c f = λ f i. In-into_from k c f (In-chosen (into k c) a f i) in
      closed_from s laws top c (chosen (into k c) a)
      (record {
        within = within;
        closed = λ f g i j. pair_on a (compose k f g) (goes k laws (within f i) j) (set.restricted f 0 g (within f i) (omega arith) j (on_pair a f i));
        rises = Rises-chosen (into k c) a (Rises-into k c);
      })
      (λ f i each. pair_on a f i (set.covered f 0 i (omega arith) (λ g m. on_pair a (compose k f g) (each g m))))

  closed_chosen : (a : List Bool) → length a ≡ length (into k c) → In (closed_sieves s c) (chosen (into k c) a) → two_passes below covers a ≡ a
  closed_chosen a e i =
      let sieve = closed_sieve s laws top c (chosen (into k c) a) i in
      let zero_of : (w : ℕ) → w < 1 → w ≡ 0 = λ w low. omega (arith, low) in
      set_closed s laws top one_each no_move (one_restricted k) c a (e ∙ sym (one_pairs k c)) (record {
        restricted = λ f w g j low n on.
            on_pair a (compose k f g) (sieve.closed f g (pair_on a f j (ap (λ w. has_pair k one_each no_move c a f w) (sym (zero_of w low)) ∙ on)) n);
        covered = λ f w j low each.
            ap (λ w. has_pair k one_each no_move c a f w) (zero_of w low)
            ∙ on_pair a f (covered_in s laws top c f (chosen (into k c) a) i j (λ g m. pair_on a (compose k f g) (goes k laws j (least-into s laws (dom k f) g m)) (each g m)));
      })

  -- the sets that the passes leave choose the closed sieves, in order
  pub closed_sets_are : map (chosen (into k c)) (closed_lists (length (into k c)) (two_passes below covers)) ≡ closed_sieves s c
  unfolding closed_sieves sieves
  closed_sets_are =
      let test : List ℕ → Bool = λ S. is_closed_sieve s c S && is_sieve k S in
      let In_closed : (S : List ℕ) → In (sublists (into k c)) S → test S ≡ true → In (filter (is_closed_sieve s c) (filter (is_sieve k) (sublists (into k c)))) S =
      λ S i h. let p = and_parts (is_closed_sieve s c S) (is_sieve k S) h in In-filter (is_closed_sieve s c) (filter (is_sieve k) (sublists (into k c))) S (In-filter (is_sieve k) (sublists (into k c)) S i p.1) p.0 in
      chosen-closed (into k c) (two_passes below covers) test (λ a i.
      let e = length-bits (length (into k c)) a i in
      same_tests (is_closed (two_passes below covers) a) (test (chosen (into k c) a))
      (λ h.
      let r = In-filter_from (is_closed_sieve s c) (filter (is_sieve k) (sublists (into k c))) (chosen (into k c) a) (chosen_closed a e (closed_is (two_passes below covers) a h)) in
      and_from (is_closed_sieve s c (chosen (into k c) a)) (is_sieve k (chosen (into k c) a)) r.1 (In-filter_from (is_sieve k) (sublists (into k c)) (chosen (into k c) a) r.0).1)
      (λ h. is_closed_from (two_passes below covers) a (closed_chosen a e (In_closed (chosen (into k c) a) (chosen_sublist (into k c) a) h))))
      ∙ sym (filter_filter (is_closed_sieve s c) (is_sieve k) (sublists (into k c)))

  -- the same for the tables as they are made
  pub listed_are : (B C : List (List ℕ)) → B ≡ table k one_each no_move (into k) c → C ≡ table k one_each no_move (least s) c →
      map (chosen (into k c)) (closed_lists (length B) (two_passes B C)) ≡ closed_sieves s c
  listed_are B C e f =
      let n : length B ≡ length (into k c) = ap length e ∙ length-table k one_each no_move (into k) c ∙ one_pairs k c in
      ap (λ m. map (chosen (into k c)) (closed_lists m (two_passes B C))) n
      ∙ ap (λ (t : List (List ℕ)). map (chosen (into k c)) (closed_lists (length (into k c)) (two_passes t C))) e
      ∙ ap (λ (t : List (List ℕ)). map (chosen (into k c)) (closed_lists (length (into k c)) (two_passes (table k one_each no_move (into k) c) t))) f
      ∙ closed_sets_are

  pub length_listed : (B : List (List ℕ)) → B ≡ table k one_each no_move (into k) c → length B ≡ length (into k c)
  length_listed B e = ap length e ∙ length-table k one_each no_move (into k) c ∙ one_pairs k c
