-- The tables of pairs close as two passes must, and the sets that they leave are those that are closed under restriction and under covers.
use Rattle.std.proofs.Common.{◌≡◌, ℕ, ◌+◌, ◌<◌, Bool, true, false, inl, inr, List, [], length, get_or, sym, ap, subst, ◌∙◌, arith}
use Rattle.std.proofs.lemmas.Bool.{cases_lt}
use Rattle.std.proofs.lemmas.List.{get_or_past}
use Rattle.finite_lists.specs.Members.{In}
use Rattle.finite_lists.proofs.Lists.{In-map, In-map_from, some_any}
use Rattle.topos_model.specs.categories.Category.{Category, has, into, dom, compose}
use Rattle.topos_model.specs.topologies.Cover.{Site}
use Rattle.topos_model.specs.Laws.{IsCategory, IsInto, IsTopology}
use Rattle.topos_model.specs.topologies.LeastCovers.{least}
use Rattle.topos_model.proofs.ArrowsInto.{In-into, In-into_from}
use Rattle.fin_category.proofs.ArrowLists.{has-In, In-has}
use Rattle.sieve_table.proofs.SieveMembers.{Distinct-into, goes, comes, regroup}
use Rattle.topologies.proofs.LeastCovers.{least-into, sink, split}
use Rattle.place_closures.specs.Passes.{two_passes, IsRestrictionClosed, IsCoverClosed, Has, AreTables}
use Rattle.place_closures.specs.PassLaws.{passes_move, passes_cover, closed_passes}
use Rattle.place_closures.specs.Pairs.{AreRestricted, pairs, start, moved, table, IsClosedSet}
use Rattle.place_closures.proofs.PairNumbers.{length-joined, start_within, at_start, pair_at, number_within, number_of_pair}

module _ (k : Category) (size : ℕ → ℕ) (move : ℕ → ℕ → ℕ) (M : ℕ → List ℕ) where
  abbrev rows : ℕ → List (List ℕ)
  rows c = table k size move M c

  row_at : (c f w : ℕ) → IsInto k c f → w < size (dom k f) → get_or (rows c) (start k size move c f + w) [] ≡ moved k size move c f (M (dom k f)) w
  unfolding table start
  row_at c f w i low = at_start (λ f. size (dom k f)) (λ f w. moved k size move c f (M (dom k f)) w) (into k c) f w [] (In-into k c f i) low

  row_within : (c f w : ℕ) → IsInto k c f → w < size (dom k f) → start k size move c f + w < length (rows c)
  unfolding table start
  row_within c f w i low = start_within (λ f. size (dom k f)) (λ f w. moved k size move c f (M (dom k f)) w) (into k c) f w (In-into k c f i) low

  row_of : (c i : ℕ) → i < length (rows c) → (f : ℕ) × (w : ℕ) × IsInto k c f × (w < size (dom k f)) × (start k size move c f + w ≡ i)
  unfolding table start
  row_of c i low =
      let (f, w, j, l, e) = pair_at (λ f. size (dom k f)) (λ f w. moved k size move c f (M (dom k f)) w) (into k c) i (Distinct-into k c) low in
      (f, w, In-into_from k c f j, l, e)

  -- the entries of a row
  pub has_entry : (c f w g : ℕ) → IsInto k c f → w < size (dom k f) → In (M (dom k f)) g → Has (rows c) (start k size move c f + w) (start k size move c (compose k f g) + move g w)
  has_entry c f w g i low m =
      subst (λ (row : List ℕ). has (start k size move c (compose k f g) + move g w) row ≡ true) (sym (row_at c f w i low))
      (has-In _ _ (In-map (λ g. start k size move c (compose k f g) + move g w) (M (dom k f)) g m))

  pub entry_of : (c i j : ℕ) → Has (rows c) i j →
      (f : ℕ) × (w : ℕ) × (g : ℕ) × IsInto k c f × (w < size (dom k f)) × (start k size move c f + w ≡ i) × In (M (dom k f)) g × (start k size move c (compose k f g) + move g w ≡ j)
  entry_of c i j h =
      elim (cases_lt i (length (rows c))) [
        | inl low ↦
            let (f, w, a, l, e) = row_of c i low in
            let r : In (moved k size move c f (M (dom k f)) w) j = In-has _ j (subst (λ (row : List ℕ). has j row ≡ true) (ap (λ n. get_or (rows c) n []) (sym e) ∙ row_at c f w a l) h) in
            let m = In-map_from (λ g. start k size move c (compose k f g) + move g w) (M (dom k f)) j r in
            (f, w, m.0, a, l, e, m.1, m.2)
        | inr high ↦ let n : Has [] i j = subst (λ (row : List ℕ). has j row ≡ true) (get_or_past (rows c) i [] high) h in absurd (cc)
      ]

  pub entry_from : (c f w j : ℕ) → IsInto k c f → w < size (dom k f) → Has (rows c) (start k size move c f + w) j → (g : ℕ) × In (M (dom k f)) g × (start k size move c (compose k f g) + move g w ≡ j)
  entry_from c f w j i low h =
      In-map_from (λ g. start k size move c (compose k f g) + move g w) (M (dom k f)) j (In-has _ j (subst (λ (row : List ℕ). has j row ≡ true) (row_at c f w i low) h))

-- the tables have a row for each pair
pub length-table : (k : Category) (size : ℕ → ℕ) (move : ℕ → ℕ → ℕ) (M : ℕ → List ℕ) (c : ℕ) → length (table k size move M c) ≡ length (pairs k size move c)
unfolding table pairs
length-table k size move M c =
    let each = length-joined (λ f. size (dom k f)) (λ f w. moved k size move c f (M (dom k f)) w) (into k c) in
    let pair : ℕ → ℕ → ℕ × ℕ = λ f w. (f, w) in
    each ∙ sym (length-joined (λ f. size (dom k f)) pair (into k c))

module _ (s : Site) (laws : IsCategory s.category) (top : IsTopology s) (size : ℕ → ℕ) (move : ℕ → ℕ → ℕ) (restricts : AreRestricted s.category size move) (c : ℕ) where
  abbrev k : Category
  k = s.category

  abbrev below : List (List ℕ)
  below = table k size move (into k) c

  abbrev covers : List (List ℕ)
  covers = table k size move (least s) c

  abbrev number : ℕ → ℕ → ℕ
  number f w = start k size move c f + w

  -- an arrow that stands after an arrow of the pair's stage
  after : (f w g : ℕ) → IsInto k c f → w < size (dom k f) → IsInto k (dom k f) g → IsInto k c (compose k f g) × (move g w < size (dom k (compose k f g)))
  after f w g i low j = (goes k laws i j, subst (λ d. move g w < size d) (sym (comes k laws i j)) (restricts.within (dom k f) g w j low))

  twice : (f w g h : ℕ) → IsInto k c f → w < size (dom k f) → IsInto k (dom k f) g → IsInto k (dom k g) h → number (compose k (compose k f g) h) (move h (move g w)) ≡ number (compose k f (compose k g h)) (move (compose k g h) w)
  twice f w g h i low j l = ap (λ x. start k size move c x + move h (move g w)) (sym (regroup k laws i j l)) ∙ ap (λ x. start k size move c (compose k f (compose k g h)) + x) (restricts.composite (dom k f) g h w j l low)

  -- a row of a pair and of one that it restricts to
  next_row : (M : ℕ → List ℕ) (f w g l : ℕ) → IsInto k c f → w < size (dom k f) → IsInto k (dom k f) g → Has (table k size move M c) (number (compose k f g) (move g w)) l →
      (h : ℕ) × In (M (dom k g)) h × (number (compose k (compose k f g) h) (move h (move g w)) ≡ l)
  next_row M f w g l i low j h =
      let a = after f w g i low j in
      let (x, m, e) = entry_from k size move M c (compose k f g) (move g w) l a.0 a.1 h in
      (x, subst (λ d. In (M d) x) (comes k laws i j) m, e)

  pub tables : AreTables below covers
  tables = record {
    rows = length-table k size move (least s) c ∙ sym (length-table k size move (into k) c);
    within = λ i j h.
        let (f, w, g, a, low, e, m, is) = entry_of k size move (into k) c i j h in
        let p = after f w g a low (In-into_from k (dom k f) g m) in
        let b = number_within k size move c (compose k f g) (move g w) p.0 p.1 in
        omega (arith, b, is, length-table k size move (into k) c);
    itself = λ i low.
        let (f, w, a, l, e) = row_of k size move (into k) c i low in
        let object = laws.ends f (a.0) in
        let one = laws.identity (dom k f) object.0 in
        let h = has_entry k size move (into k) c f w (dom k f) a l (In-into k (dom k f) (dom k f) one.0) in
        let same : number (compose k f (dom k f)) (move (dom k f) w) ≡ i = ap (λ g. number g (move (dom k f) w)) (laws.right_neutral c f a) ∙ ap (number f) (restricts.identity (dom k f) w object.0 l) ∙ e in
        subst (λ x. Has below x i) e (subst (λ y. Has below (number f w) y) same h);
    through = λ i j l h n.
        let (f, w, g, a, low, e, m, is) = entry_of k size move (into k) c i j h in
        let b = In-into_from k (dom k f) g m in
        let (x, m', is') = next_row (into k) f w g l a low b (subst (λ y. Has below y l) (sym is) n) in
        let b' = In-into_from k (dom k g) x m' in
        subst (λ y. Has below y l) e
        (subst (λ y. Has below (number f w) y) (sym (twice f w g x a low b b') ∙ is') (has_entry k size move (into k) c f w (compose k g x) a low (In-into k (dom k f) _ (goes k laws b b'))));
    covers_below = λ i j h.
        let (f, w, g, a, low, e, m, is) = entry_of k size move (least s) c i j h in
        subst (λ y. Has below y j) e (subst (λ y. Has below (number f w) y) is (has_entry k size move (into k) c f w g a low (In-into k (dom k f) g (least-into s laws (dom k f) g m))));
    sink = λ i j l h n.
        let (f, w, g, a, low, e, m, is) = entry_of k size move (into k) c i j h in
        let b = In-into_from k (dom k f) g m in
        let (x, m', is') = next_row (least s) f w g l a low b (subst (λ y. Has covers y l) (sym is) n) in
        let b' = least-into s laws (dom k g) x m' in
        subst (λ y. Has covers y l) e
        (subst (λ y. Has covers (number f w) y) (sym (twice f w g x a low b b') ∙ is') (has_entry k size move (least s) c f w (compose k g x) a low (sink s laws top (dom k f) g x b m')));
    split = λ i l h.
        let (f, w, g, a, low, e, m, is) = entry_of k size move (least s) c i l h in
        let (x, y, p, q, t) = split s laws top (dom k f) m in
        let b = least-into s laws (dom k f) x p in
        let z = after f w x a low b in
        let first : Has covers (number f w) (number (compose k f x) (move x w)) = has_entry k size move (least s) c f w x a low p in
        let second : Has covers (number (compose k f x) (move x w)) (number (compose k (compose k f x) y) (move y (move x w))) =
        has_entry k size move (least s) c (compose k f x) (move x w) y z.0 z.1 (subst (λ d. In (least s d) y) (sym (comes k laws a b)) q) in
        let same : number (compose k (compose k f x) y) (move y (move x w)) ≡ l = twice f w x y a low b (least-into s laws (dom k x) y q) ∙ ap (λ g. number (compose k f g) (move g w)) t ∙ is in
        some_any (λ j. has l (get_or covers j [])) (get_or covers i []) (number (compose k f x) (move x w))
        (In-has _ _ (subst (λ y. Has covers y (number (compose k f x) (move x w))) e first))
        (subst (λ y. Has covers (number (compose k f x) (move x w)) y) same second);
  }

  pub closed_set : (a : List Bool) → length a ≡ length (pairs k size move c) → two_passes below covers a ≡ a → IsClosedSet s size move c a
  closed_set a e is =
      let e' : length a ≡ length below = e ∙ sym (length-table k size move (into k) c) in
      record {
        restricted = λ f w g i low j on.
            let moves : IsRestrictionClosed below a = subst (IsRestrictionClosed below) is (passes_move below covers tables a e') in
            moves _ _ on (has_entry k size move (into k) c f w g i low (In-into k (dom k f) g j));
        covered = λ f w i low each.
            let closed : IsCoverClosed covers a = subst (IsCoverClosed covers) is (passes_cover below covers tables a) in
            let b = number_within k size move c f w i low in
            closed (number f w) (omega (arith, b, e)) (λ j h.
            let (g, m, t) = entry_from k size move (least s) c f w j i low h in
            subst (λ y. get_or a y false ≡ true) t (each g m));
      }

  pub set_closed : (a : List Bool) → length a ≡ length (pairs k size move c) → IsClosedSet s size move c a → two_passes below covers a ≡ a
  set_closed a e h =
      let e' : length a ≡ length below = e ∙ sym (length-table k size move (into k) c) in
      closed_passes below covers tables a e'
      (λ i j on n.
      let (f, w, g, b, low, is, m, t) = entry_of k size move (into k) c i j n in
      subst (λ y. get_or a y false ≡ true) t (h.restricted f w g b low (In-into_from k (dom k f) g m) (subst (λ y. get_or a y false ≡ true) (sym is) on)))
      (λ i low each.
      let (f, w, b, l, is) = number_of_pair k size move c i (omega (arith, low, e)) in
      subst (λ y. get_or a y false ≡ true) is (h.covered f w b l (λ g m.
      each _ (subst (λ y. Has covers y (number (compose k f g) (move g w))) is (has_entry k size move (least s) c f w g b l m)))))
