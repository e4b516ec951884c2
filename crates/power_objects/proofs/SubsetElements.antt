-- The closed sets of the pairs of a sealed type are the elements of its power.
use Rattle.std.proofs.Common.{◌≡◌, ℕ, zero, suc, ◌+◌, ◌*◌, ◌<◌, Bool, true, false, cond, ◌&&◌, inl, inr, List, [], ◌∷◌, ◌++◌, length, get_or, map, filter, sum, refl, sym, ap, subst, ◌∙◌, arith}
use denote.Hole.Carrier
use Rattle.std.specs.List.{flat_map, range_with_len}
use Rattle.std.proofs.lemmas.Bool.{false≢true}
use Rattle.std.proofs.lemmas.List.{length-map, get_or-map, same_lists}
use Rattle.std.proofs.lemmas.List.FromFn.{length-map-range_with_len, get_or-map-range_with_len}
use Rattle.finite_lists.specs.Members.{In, Distinct}
use Rattle.finite_lists.specs.Sublists.{sublists}
use Rattle.finite_lists.proofs.Lists.{same_tests, In-append_left, In-append_right, In-map, In_at, map_same}
use Rattle.finite_lists.proofs.DistinctLists.{In-range_from}
use Rattle.topos_model.specs.declared.ty.Ty.{Ty, Base, Pow}
use Rattle.topos_model.specs.declared.ty.Ty.TheBlock.{hidden-the_row-Ty-0}
use Rattle.topos_model.specs.declared.value.Val.{Val, Star, Sub}
use Rattle.topos_model.specs.declared.value.Entry.{Entry}
use Rattle.topos_model.specs.categories.Category.{Category, into, dom, compose}
use Rattle.topos_model.specs.topologies.Cover.{Site, covers}
use Rattle.topos_model.specs.topologies.LeastCovers.{least}
use Rattle.topos_model.specs.Laws.{IsCategory, IsInto, IsTopology}
use Rattle.topos_model.specs.types.Types.{Presheaf, elements, restr, places, in_entries, closed_below, closed_under_covers, pow_elements}
use Rattle.topos_model.specs.types.Values.{entries_of}
use Rattle.topos_model.specs.statements.Cells.{cells_of, width}
use Rattle.topos_model.proofs.ArrowsInto.{In-into, In-into_from}
use Rattle.topos_model.proofs.NeedsEquations.{parts-Pow}
use Rattle.topos_model.proofs.TypeEquations.{elements-Pow, restr-Pow}
use Rattle.topos_model.proofs.ValueEquations.{entries_of-Sub}
use Rattle.sieve_table.proofs.SieveMembers.{domain, object, goes, comes}
use Rattle.topologies.proofs.LeastCovers.{least-into, least-below, least_covers}
use Rattle.closed_sets.specs.Closed.{chosen, is_closed, closed_lists}
use Rattle.closed_sets.proofs.Bits.{closed_is}
use Rattle.closed_sets.proofs.Chosen.{chosen-closed}
use Rattle.functor_store.specs.Store.{Store, functor_at}
use Rattle.functor_store.specs.Faithful.{Stands, IsRow, IsFaithful}
use Rattle.sealed_functors.specs.declared.rows.ElementRows.{ElementRows}
use Rattle.sealed_functors.specs.Rows.{part}
use Rattle.place_closures.specs.Passes.{two_passes}
use Rattle.place_closures.specs.Pairs.{AreRestricted, pairs, start, table, has_pair, IsClosedSet}
use Rattle.place_closures.proofs.PairNumbers.{joined, length-joined, at_start, number_within, number_of_pair}
use Rattle.place_closures.proofs.PairTables.{closed_set}
use Rattle.type_laws.proofs.Numbering.{at_place_of}
use Rattle.type_laws.specs.Numbered.{place_of}
use Rattle.type_laws.proofs.Places.{entry, moved, In_places, Distinct-places, entries_In, In_entries}
use Rattle.type_laws.proofs.Presheaves.{Distinct-elements}
use Rattle.type_laws.proofs.Subsets.{IsClosedSubset, subset_tests, subset_passes, narrowed, pow_along_Sub}
use Rattle.sealed_types.specs.Sealed.{sizes_in, restrictions_in}
use Rattle.sealed_types.proofs.SealedTypes.{sealed_size, sealed_stands, sealed_restricted}
use Rattle.type_rows.specs.TypeRows.{AreRowsAt, HoldsNamed, value_at}
use Rattle.type_rows.proofs.FlatRows as flat
use Rattle.power_objects.specs.BitOrder.{place_in, read_along}
use Rattle.power_objects.specs.SubsetRows.{digit, set_cost, under, closed_sets, subset_row, subset_cells, AreSubsetRows}
use Rattle.power_objects.proofs.Order.{at_place}
use Rattle.power_objects.proofs.Pulled.{length-bits, read_at, length-under, closed_length, set_is_closed, pulled_in}

-- what a set chooses, by places
module _ {A : Type 0} where
  pub In-chosen : (xs : List A) (a : List Bool) (x : A) → In (chosen xs a) x → In xs x
  unfolding chosen
  In-chosen [] a x i = i
  In-chosen (y ∷ xs) [] x i = absurd i
  In-chosen (y ∷ xs) (true ∷ a) x (inl e) = inl e
  In-chosen (y ∷ xs) (true ∷ a) x (inr i) = inr (In-chosen xs a x i)
  In-chosen (y ∷ xs) (false ∷ a) x i = inr (In-chosen xs a x i)

  pub chosen_at : (xs : List A) (a : List Bool) (i : ℕ) (d : A) → i < length xs → get_or a i false ≡ true → In (chosen xs a) (get_or xs i d)
  unfolding chosen
  chosen_at [] a i d low h = absurd (omega (arith, low))
  chosen_at (x ∷ xs) [] i d low h = absurd (false≢true h)
  chosen_at (x ∷ xs) (true ∷ a) zero d low h = inl refl
  chosen_at (x ∷ xs) (false ∷ a) zero d low h = absurd (false≢true h)
  chosen_at (x ∷ xs) (true ∷ a) (suc i) d low h = inr (chosen_at xs a i d (omega (arith, low)) h)
  chosen_at (x ∷ xs) (false ∷ a) (suc i) d low h = chosen_at xs a i d (omega (arith, low)) h

  pub at_chosen : (xs : List A) (a : List Bool) (i : ℕ) (d : A) → Distinct xs → i < length xs → In (chosen xs a) (get_or xs i d) → get_or a i false ≡ true
  unfolding chosen
  at_chosen [] a i d n low h = absurd (omega (arith, low))
  at_chosen (x ∷ xs) [] i d n low h = absurd h
  at_chosen (x ∷ xs) (true ∷ a) zero d n low h = refl
  at_chosen (x ∷ xs) (false ∷ a) zero d n low h = absurd (n.0 (In-chosen xs a x h))
  at_chosen (x ∷ xs) (true ∷ a) (suc i) d n low (inl e) = absurd (n.0 (subst (λ y. In xs y) (sym e) (In_at xs i d (omega (arith, low)))))
  at_chosen (x ∷ xs) (true ∷ a) (suc i) d n low (inr h) = at_chosen xs a i d n.1 (omega (arith, low)) h
  at_chosen (x ∷ xs) (false ∷ a) (suc i) d n low h = at_chosen xs a i d n.1 (omega (arith, low)) h

  nothing_chosen : (xs : List A) → In (sublists xs) []
  unfolding sublists
  nothing_chosen [] = inl refl
  nothing_chosen (x ∷ xs) = In-append_left (sublists xs) _ [] (nothing_chosen xs)

  pub chosen_sublist : (xs : List A) (a : List Bool) → In (sublists xs) (chosen xs a)
  unfolding chosen sublists
  chosen_sublist [] a = inl refl
  chosen_sublist (x ∷ xs) [] = In-append_left (sublists xs) _ [] (nothing_chosen xs)
  chosen_sublist (x ∷ xs) (true ∷ a) = In-append_right (sublists xs) _ _ (In-map (λ s. x ∷ s) (sublists xs) _ (chosen_sublist xs a))
  chosen_sublist (x ∷ xs) (false ∷ a) = In-append_left (sublists xs) _ _ (chosen_sublist xs a)

  -- a set that is given by a test
  pub chosen_filter : (p : A → Bool) (xs : List A) (a : List Bool) (d : A) → length a ≡ length xs → ((i : ℕ) → i < length xs → get_or a i false ≡ p (get_or xs i d)) → chosen xs a ≡ filter p xs
  unfolding chosen
  chosen_filter p [] a d e h = refl
  chosen_filter p (x ∷ xs) [] d e h = absurd (omega (arith, e))
  chosen_filter p (x ∷ xs) (b ∷ a) d e h =
      let rest = chosen_filter p xs a d (omega (arith, e)) (λ i low. h (suc i) (omega (arith, low))) in
      first b (p x) (h 0 (omega arith)) ∙ ap (λ t. cond (p x) (x ∷ t) t) rest
    where
      first : (b q : Bool) → b ≡ q → chosen (x ∷ xs) (b ∷ a) ≡ cond q (x ∷ chosen xs a) (chosen xs a)
      first true q e = ap (λ q. cond q (x ∷ chosen xs a) (chosen xs a)) e
      first false q e = ap (λ q. cond q (x ∷ chosen xs a) (chosen xs a)) e

-- the images of members, by their numbers
by_numbers : {A B : Type 0} (g : A → B) (xs : List A) (n : ℕ) (d : A) → n ≡ length xs → map g xs ≡ map (λ w. g (get_or xs w d)) (range_with_len 0 n)
by_numbers g xs n d e =
    same_lists (map g xs) (map (λ w. g (get_or xs w d)) (range_with_len 0 n)) (length-map xs g ∙ sym e ∙ sym (length-map-range_with_len (λ w. g (get_or xs w d)) 0 n)) (λ i z low.
    let l : i < length xs = omega (arith, low, length-map xs g) in
    get_or-map g xs i d z l ∙ sym (get_or-map-range_with_len (λ w. g (get_or xs w d)) 0 n i i z (omega (arith, l, e)) (omega arith)))

joined_same : {B : Type 0} (f g : ℕ → List B) (fs : List ℕ) → ((x : ℕ) → In fs x → f x ≡ g x) → flat_map f fs ≡ flat_map g fs
joined_same f g [] h = refl
joined_same f g (x ∷ fs) h = ap (λ t. t ++ flat_map f fs) (h x (inl refl)) ∙ ap (λ t. g x ++ t) (joined_same f g fs (λ y i. h y (inr i)))

no_base : (T : Ty) (n : ℕ) → Pow T ≡ Base n → ⊥
unfolding hidden-the_row-Ty-0 Carrier.hidden
no_base T n e = cc

module _ (s : Site) (functors : List Presheaf) (T : Ty) where
  pow_row : (c : ℕ) (v : Val) (row : List ℕ) → row ≡ map (λ e. cond (in_entries e.arrow e.val (entries_of v)) 1 0) (places s (elements s functors T) c) → IsRow s functors (Pow T) c v row
  unfolding hidden-the_row-Ty-0 Carrier.hidden
  pow_row c v row e = e

  pow_width : (c : ℕ) → width s functors (Pow T) c ≡ length (places s (elements s functors T) c)
  unfolding width hidden-the_row-Ty-0 Carrier.hidden
  pow_width c = refl

module _ (s : Site) (functors : List Presheaf) (store : Store) (t : ℕ) (laws : IsCategory s.category) (top : IsTopology s) (faithful : IsFaithful s functors store) (held : t < length store.sealed) where
  abbrev k : Category
  k = s.category

  abbrev T : Ty
  T = (functor_at store.sealed t).key

  abbrev size : ℕ → ℕ
  size = sizes_in store t

  abbrev move : ℕ → ℕ → ℕ
  move = restrictions_in store t

  abbrev value : ℕ → ℕ → Val
  value c w = get_or (elements s functors T c) w Star

  -- the place of the pair (f, w)
  abbrev place : ℕ → ℕ → Entry
  place f w = entry f (value (dom k f) w)

  abbrev all : ℕ → List Entry
  all c = places s (elements s functors T) c

  restricts : AreRestricted k size move
  restricts = sealed_restricted s functors store t laws faithful held

  places_are : (c : ℕ) → c < k.objects → all c ≡ joined (λ f. size (dom k f)) place (into k c)
  unfolding places
  places_are c low =
      joined_same (λ f. map (entry f) (elements s functors T (dom k f))) (λ f. map (place f) (range_with_len 0 (size (dom k f)))) (into k c)
      (λ f i. by_numbers (entry f) (elements s functors T (dom k f)) (size (dom k f)) Star (sealed_size s functors store t faithful held (dom k f) (domain k laws (In-into_from k c f i))))

  length-places : (c : ℕ) → c < k.objects → length (all c) ≡ length (pairs k size move c)
  unfolding pairs
  length-places c low =
      let pair : ℕ → ℕ → ℕ × ℕ = λ f w. (f, w) in
      ap length (places_are c low) ∙ length-joined (λ f. size (dom k f)) place (into k c) ∙ sym (length-joined (λ f. size (dom k f)) pair (into k c))

  place_at : (c f w : ℕ) (d : Entry) → IsInto k c f → w < size (dom k f) → get_or (all c) (start k size move c f + w) d ≡ place f w
  unfolding start
  place_at c f w d i low =
      ap (λ l. get_or l (start k size move c f + w) d) (places_are c (object k laws i)) ∙ at_start (λ f. size (dom k f)) place (into k c) f w d (In-into k c f i) low

  within : (c f w : ℕ) → IsInto k c f → w < size (dom k f) → start k size move c f + w < length (all c)
  within c f w i low = let b = number_within k size move c f w i low in omega (arith, b, length-places c (object k laws i))

  distinct : (c : ℕ) → Distinct (all c)
  distinct c = Distinct-places s (elements s functors T) c (Distinct-elements s functors T)

  -- each place is one of a pair
  each_place : (P : Entry → Type 0) (c : ℕ) → ((f w : ℕ) → IsInto k c f → w < size (dom k f) → P (place f w)) → (e : Entry) → In (all c) e → P e
  each_place P c h e i =
      let p = In_places s (elements s functors T) c e i in
      let r = at_place_of (elements s functors T (dom k e.arrow)) e.val Star p.1 in
      let w = place_of e.val (elements s functors T (dom k e.arrow)) in
      let n = sealed_size s functors store t faithful held (dom k e.arrow) (domain k laws p.0) in
      let low = r.0 in
      subst P (ap (entry e.arrow) r.1) (h e.arrow w p.0 (omega (arith, low, n)))

  moved_is : (c f w g : ℕ) → IsInto k c f → w < size (dom k f) → IsInto k (dom k f) g → moved s (restr s functors T) (place f w) g ≡ place (compose k f g) (move g w)
  moved_is c f w g i low j =
      ap (entry (compose k f g)) (sym (sealed_stands s functors store t faithful held (dom k f) g w j low).is ∙ ap (λ d. value d (move g w)) (sym (comes k laws i j)))

  after : (c f w g : ℕ) → IsInto k c f → w < size (dom k f) → IsInto k (dom k f) g → move g w < size (dom k (compose k f g))
  after c f w g i low j = subst (λ d. move g w < size d) (sym (comes k laws i j)) (restricts.within (dom k f) g w j low)

  -- a set has a pair exactly if it chooses its place
  on : (c f w : ℕ) (a : List Bool) → IsInto k c f → w < size (dom k f) → has_pair k size move c a f w ≡ true → In (chosen (all c) a) (place f w)
  on c f w a i low h = subst (λ e. In (chosen (all c) a) e) (place_at c f w (place f w) i low) (chosen_at (all c) a (start k size move c f + w) (place f w) (within c f w i low) h)

  off : (c f w : ℕ) (a : List Bool) → IsInto k c f → w < size (dom k f) → In (chosen (all c) a) (place f w) → has_pair k size move c a f w ≡ true
  off c f w a i low h = at_chosen (all c) a (start k size move c f + w) (place f w) (distinct c) (within c f w i low) (subst (λ e. In (chosen (all c) a) e) (sym (place_at c f w (place f w) i low)) h)

  closed_subset : (c : ℕ) (a : List Bool) → IsClosedSet s size move c a → IsClosedSubset s (elements s functors T) (restr s functors T) c (chosen (all c) a)
  closed_subset c a h = record {
    member = chosen_sublist (all c) a;
    downward = λ e g i j.
        each_place (λ e. In (chosen (all c) a) e → IsInto k (dom k e.arrow) g → In (chosen (all c) a) (moved s (restr s functors T) e g)) c
        (λ f w x low m n. subst (λ e. In (chosen (all c) a) e) (sym (moved_is c f w g x low n)) (on c (compose k f g) (move g w) a (goes k laws x n) (after c f w g x low n) (h.restricted f w g x low n (off c f w a x low m))))
        e (In-chosen (all c) a e i) i j;
    closed = λ e R i r each.
        each_place (λ e. In (covers s (dom k e.arrow)) R → ((g : ℕ) → In R g → In (chosen (all c) a) (moved s (restr s functors T) e g)) → In (chosen (all c) a) e) c
        (λ f w x low m n. on c f w a x low (h.covered f w x low (λ g l.
        let j = least-into s laws (dom k f) g l in
        off c (compose k f g) (move g w) a (goes k laws x j) (after c f w g x low j) (subst (λ e. In (chosen (all c) a) e) (moved_is c f w g x low j) (n g (least-below s (dom k f) g R m l))))))
        e i r each;
  }

  subset_closed : (c : ℕ) (a : List Bool) → IsClosedSubset s (elements s functors T) (restr s functors T) c (chosen (all c) a) → IsClosedSet s size move c a
  subset_closed c a h = record {
    restricted = λ f w g i low j x.
        off c (compose k f g) (move g w) a (goes k laws i j) (after c f w g i low j) (subst (λ e. In (chosen (all c) a) e) (moved_is c f w g i low j) (h.downward (place f w) g (on c f w a i low x) j));
    covered = λ f w i low each.
        off c f w a i low (h.closed (place f w) (least s (dom k f)) (subst (λ e. In (all c) e) (place_at c f w (place f w) i low) (In_at (all c) (start k size move c f + w) (place f w) (within c f w i low))) (least_covers s laws top (dom k f) (domain k laws i)) (λ g m.
        let j = least-into s laws (dom k f) g m in
        subst (λ e. In (chosen (all c) a) e) (sym (moved_is c f w g i low j)) (on c (compose k f g) (move g w) a (goes k laws i j) (after c f w g i low j) (each g m))));
  }

  elements_are : (c : ℕ) → c < k.objects → elements s functors (Pow T) c ≡ map Sub (map (chosen (all c)) (closed_sets s size move c))
  unfolding pow_elements closed_sets
  elements_are c low =
      let test : List Entry → Bool = λ l. closed_below s (restr s functors T) l && closed_under_covers s (restr s functors T) (all c) l in
      let passes = two_passes (table k size move (into k) c) (table k size move (least s) c) in
      let n = length-places c low in
      elements-Pow s functors T c
      ∙ ap (map Sub) (sym (chosen-closed (all c) passes test (λ a i.
      let e : length a ≡ length (pairs k size move c) = length-bits (length (all c)) a i ∙ n in
      same_tests (is_closed passes a) (test (chosen (all c) a))
      (λ h. subset_passes s (elements s functors T) (restr s functors T) c (chosen (all c) a) (closed_subset c a (closed_set s laws top size move restricts c a e (closed_is passes a h))))
      (λ h. set_is_closed s laws top size move restricts c a e (subset_closed c a (subset_tests s (elements s functors T) (restr s functors T) c (chosen (all c) a) (chosen_sublist (all c) a) h))))))
      ∙ ap (λ m. map Sub (map (chosen (all c)) (closed_lists m passes))) n

  sets_count : (c : ℕ) → c < k.objects → length (closed_sets s size move c) ≡ length (elements s functors (Pow T) c)
  sets_count c low = sym (ap length (elements_are c low) ∙ length-map (map (chosen (all c)) (closed_sets s size move c)) Sub ∙ length-map (closed_sets s size move c) (chosen (all c)))

  set_value : (c m : ℕ) → c < k.objects → m < length (closed_sets s size move c) → value_at s functors (Pow T) c m ≡ Sub (chosen (all c) (get_or (closed_sets s size move c) m []))
  set_value c m low inside =
      let l : m < length (map (chosen (all c)) (closed_sets s size move c)) = omega (arith, inside, length-map (closed_sets s size move c) (chosen (all c))) in
      ap (λ l. get_or l m Star) (elements_are c low) ∙ get_or-map Sub (map (chosen (all c)) (closed_sets s size move c)) m [] Star l ∙ ap Sub (get_or-map (chosen (all c)) (closed_sets s size move c) m [] [] inside)

  -- a set at a place, as the test of a value
  at_entry : (c i : ℕ) (a : List Bool) (d : Entry) → i < length (all c) → get_or a i false ≡ in_entries (get_or (all c) i d).arrow (get_or (all c) i d).val (chosen (all c) a)
  at_entry c i a d low =
      let e = get_or (all c) i d in
      same_tests (get_or a i false) (in_entries e.arrow e.val (chosen (all c) a))
      (λ h. In_entries e.arrow e.val (chosen (all c) a) (chosen_at (all c) a i d low h))
      (λ h. at_chosen (all c) a i d (distinct c) low (entries_In e.arrow e.val (chosen (all c) a) h))

  set_row : (c : ℕ) (a : List Bool) → length a ≡ length (all c) → map digit a ≡ map (λ e. cond (in_entries e.arrow e.val (entries_of (Sub (chosen (all c) a)))) 1 0) (all c)
  set_row c a e =
      let l = chosen (all c) a in
      same_lists (map digit a) (map (λ e. cond (in_entries e.arrow e.val l) 1 0) (all c)) (length-map a digit ∙ e ∙ sym (length-map (all c) _)) (λ i d low.
      let low' : i < length a = omega (arith, low, length-map a digit) in
      let z : Entry = entry 0 Star in
      get_or-map digit a i false d low' ∙ ap digit (at_entry c i a z (omega (arith, low', e))) ∙ sym (get_or-map (λ e. cond (in_entries e.arrow e.val l) 1 0) (all c) i z d (omega (arith, low', e))))
      ∙ ap (λ m. map (λ e. cond (in_entries e.arrow e.val m) 1 0) (all c)) (sym (entries_of-Sub l))

  -- a set that is read along an arrow chooses what restriction keeps
  pulled_value : (c f : ℕ) (a : List Bool) → IsInto k c f → chosen (all (dom k f)) (read_along (under k size move c f) a) ≡ narrowed s (elements s functors T) (restr s functors T) f (chosen (all c) a)
  pulled_value c f a i =
      let d = dom k f in
      let low = domain k laws i in
      let l = chosen (all c) a in
      let z : Entry = entry 0 Star in
      chosen_filter (λ e. in_entries (compose k f e.arrow) e.val l) (all d) (read_along (under k size move c f) a) z
      (length-map (under k size move c f) _ ∙ length-under k laws size move c f i ∙ sym (length-places d low)) (λ n inside.
      let (h, w, j, m, e) = number_of_pair k size move d n (omega (arith, inside, length-places d low)) in
      let m' : w < size (dom k (compose k f h)) = subst (λ d. w < size d) (sym (comes k laws i j)) m in
      let there : get_or (all d) n z ≡ place h w = ap (λ x. get_or (all d) x z) (sym e) ∙ place_at d h w z j m in
      let same : entry (compose k f h) (value (dom k h) w) ≡ place (compose k f h) w = ap (λ x. entry (compose k f h) (value x w)) (sym (comes k laws i j)) in
      ap (λ x. get_or (read_along (under k size move c f) a) x false) (sym e) ∙ read_at k laws size move c f i a h w j m
      ∙ same_tests (has_pair k size move c a (compose k f h) w) (in_entries (compose k f h) (value (dom k h) w) l)
      (λ x. In_entries (compose k f h) (value (dom k h) w) l (subst (λ e. In l e) (sym same) (on c (compose k f h) w a (goes k laws i j) m' x)))
      (λ x. off c (compose k f h) w a (goes k laws i j) m' (subst (λ e. In l e) same (entries_In (compose k f h) (value (dom k h) w) l x)))
      ∙ ap (λ (e : Entry). in_entries (compose k f e.arrow) e.val l) (sym there))

  set_stands : (c f m : ℕ) → IsInto k c f → m < length (closed_sets s size move c) →
      Stands s functors (Pow T) (dom k f) (place_in (closed_sets s size move (dom k f)) (read_along (under k size move c f) (get_or (closed_sets s size move c) m []))) (restr s functors (Pow T) f (value_at s functors (Pow T) c m))
  set_stands c f m i inside =
      let d = dom k f in
      let a = get_or (closed_sets s size move c) m [] in
      let b = read_along (under k size move c f) a in
      let at = at_place (closed_sets s size move d) b (pulled_in s laws top size move restricts c f i a (In_at (closed_sets s size move c) m [] inside)) in
      let low = domain k laws i in
      let first = at.0 in
      record {
        within = omega (arith, first, sets_count d low);
        is = set_value d (place_in (closed_sets s size move d) b) low at.0 ∙ ap (λ x. Sub (chosen (all d) x)) at.1 ∙ ap Sub (pulled_value c f a i)
            ∙ sym (ap (restr s functors (Pow T) f) (set_value c m (object k laws i) inside) ∙ restr-Pow s functors T f _ ∙ pow_along_Sub s (elements s functors T) (restr s functors T) f (chosen (all c) a));
      }

  pub power_rows : (c : ℕ) (r : ElementRows) → c < k.objects → AreSubsetRows s size move c r → AreRowsAt s functors (Pow T) c r
  unfolding subset_row
  power_rows c r low is =
      let sets = closed_sets s size move c in
      let w = length (into k c) in
      let p = length (pairs k size move c) in
      let widths : (a : List Bool) → In sets a → length (map digit a) ≡ p = λ a i. length-map a digit ∙ closed_length s laws top size move restricts c a i in
      let long : (a : List Bool) → In sets a → length (subset_row s size move c a) ≡ w = λ a i. length-map (into k c) _ in
      record {
        count = is.count ∙ sets_count c low;
        arrows = is.arrows;
        rows_long = ap length is.rows ∙ flat.length-joined (map digit) p sets widths ∙ ap (λ n. n * p) (sym is.count) ∙ ap (λ n. r.count * n) (sym is.width);
        restrictions_long = ap length is.restrictions ∙ flat.length-joined (subset_row s size move c) w sets long ∙ ap (λ n. n * w) (sym is.count) ∙ ap (λ n. r.count * n) (sym is.arrows);
        rows = λ q l.
            let inside : q < length sets = let z = is.count in omega (arith, l, z) in
            let a = get_or sets q [] in
            let here : part r.width r.rows q ≡ map digit a = ap (λ n. part n r.rows q) is.width ∙ ap (λ l. part p l q) is.rows ∙ flat.joined_part (map digit) p sets q [] widths inside in
            pow_row s functors T c (value_at s functors (Pow T) c q) (part r.width r.rows q)
            (here ∙ set_row c a (closed_length s laws top size move restricts c a (In_at sets q [] inside) ∙ sym (length-places c low)) ∙ ap (λ v. map (λ e. cond (in_entries e.arrow e.val (entries_of v)) 1 0) (all c)) (sym (set_value c q low inside)));
        numbers = λ q i l inside'.
            let inside : q < length sets = let z = is.count in omega (arith, l, z) in
            let f = get_or (into k c) i 0 in
            let a = get_or sets q [] in
            let arrow = In-into_from k c f (In_at (into k c) i 0 inside') in
            let number : get_or r.restrictions (q * w + i) 0 ≡ place_in (closed_sets s size move (dom k f)) (read_along (under k size move c f) a) =
            ap (λ l. get_or l (q * w + i) 0) is.restrictions ∙ flat.joined_at (subset_row s size move c) w sets q i [] 0 long inside inside' ∙ get_or-map (λ f. place_in (closed_sets s size move (dom k f)) (read_along (under k size move c f) a)) (into k c) i 0 0 inside' in
            subst (λ n. Stands s functors (Pow T) (dom k f) n (restr s functors (Pow T) f (value_at s functors (Pow T) c q))) (sym number) (set_stands c f q arrow inside);
      }

  pub power_cells : subset_cells s size move ≡ cells_of s functors (Pow T)
  unfolding subset_cells cells_of
  power_cells =
      ap sum (map_same (λ c. length (closed_sets s size move c) * set_cost k size move c) (λ c. length (elements s functors (Pow T) c) * (1 + length (into k c) + width s functors (Pow T) c)) (range_with_len 0 k.objects) (λ c m.
      let r = In-range_from 0 k.objects c m in
      let low : c < k.objects = omega (arith, r.1) in
      let z : set_cost k size move c ≡ 1 + length (into k c) + width s functors (Pow T) c = omega (arith, pow_width s functors T c, length-places c low) in
      ap (λ n. n * set_cost k size move c) (sets_count c low) ∙ ap (λ n. length (elements s functors (Pow T) c) * n) z))

  -- a functor that the power names is named by the type
  pub power_named : HoldsNamed store (Pow T)
  power_named n m =
      elim (subst (λ l. In l (Base n)) (parts-Pow T) m) [
        | inl e ↦ absurd (no_base T n e)
        | inr a ↦ faithful.parts_held T n (t, held, refl) a
      ]
