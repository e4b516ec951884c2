-- The rows of a sealed power and of a sealed function type rise as their elements do.
use Rattle.std.proofs.Common.{◌≡◌, ℕ, ◌<◌, Bool, true, false, cond, inl, inr, List, [], ◌∷◌, length, get_or, map, refl, sym, ap, subst, ◌∙◌, arith}
use denote.Hole.Carrier
use Rattle.std.proofs.lemmas.Bool.{cases_Bool}
use Rattle.topos_model.specs.declared.ty.Ty.{Ty, Pow, Fun}
use Rattle.topos_model.specs.declared.ty.Ty.TheBlock.{hidden-the_row-Ty-0}
use Rattle.topos_model.specs.declared.value.Val.{Val, Star}
use Rattle.topos_model.specs.declared.value.Entry.{Entry}
use Rattle.finite_lists.specs.Members.{In}
use Rattle.finite_lists.specs.Rising.{Rising, SublistBelow, NumbersBelow}
use Rattle.topos_model.specs.types.Order.{AssignmentBelow, Below}
use Rattle.topos_model.specs.categories.Category.{dom}
use Rattle.topos_model.specs.topologies.Cover.{Site}
use Rattle.topos_model.specs.types.Types.{Presheaf, elements, places, in_entries, at_place}
use Rattle.topos_model.specs.types.Values.{entries_of, assigns_of}
use Rattle.topos_model.proofs.ValueEquations.{assigns_of-Fn}
use Rattle.functor_store.specs.Store.{Functor, size_at}
use Rattle.functor_store.specs.Faithful.{Stands, AreNumbers, HasElements}
use Rattle.omega_object.proofs.Precedence.{rising_at}
use Rattle.type_laws.proofs.Numbering.{get_In}
use Rattle.type_laws.proofs.Places.{entry, entries_In, In_entries, Distinct-places}
use Rattle.type_laws.proofs.Presheaves.{Distinct-elements}
use Rattle.type_laws.proofs.Readings.{elements_Fun}
use Rattle.type_laws.proofs.RisingTypes.{Rising-elements}
use Rattle.type_laws.proofs.Tables.{tabulate, at_entry, assignment_table}
use Rattle.term_tables.proofs.OneNumber.{one_number}
use Rattle.term_tables.proofs.StrictOrder.{below_numbers}
use Rattle.term_tables.proofs.RowMatches.{Matches, matches_from, rising_from}
use Rattle.term_tables.proofs.ElementRows.{function_row, subset_row}

-- 1 or 0 for each place
abbrev pub bit_of : Val → Entry → ℕ
bit_of v e = cond (in_entries e.arrow e.val (entries_of v)) 1 0

bits_below : (u v : Val) (ps : List Entry) → SublistBelow ps (entries_of u) (entries_of v) → NumbersBelow (map (bit_of u) ps) (map (bit_of v) ps)
bits_below u v [] h = h
bits_below u v (e ∷ ps) (inl h) =
    inl (elim (cases_Bool (in_entries e.arrow e.val (entries_of u))) [
      | inl a ↦ absurd (h.0 (entries_In e.arrow e.val (entries_of u) a))
      | inr a ↦ let b : bit_of u e ≡ 0 = ap (λ x. cond x 1 0) a in let d : bit_of v e ≡ 1 = ap (λ x. cond x 1 0) (In_entries e.arrow e.val (entries_of v) h.1) in omega (arith, b, d)
    ])
bits_below u v (e ∷ ps) (inr h) =
    inr (ap (λ x. cond x 1 0) (same (in_entries e.arrow e.val (entries_of u)) (in_entries e.arrow e.val (entries_of v)) (λ a. In_entries e.arrow e.val (entries_of v) (h.0 (entries_In e.arrow e.val (entries_of u) a))) (λ a. In_entries e.arrow e.val (entries_of u) (h.1 (entries_In e.arrow e.val (entries_of v) a)))), bits_below u v ps h.2)
  where
    same : (a b : Bool) → (a ≡ true → b ≡ true) → (b ≡ true → a ≡ true) → a ≡ b
    same true b f g = sym (f refl)
    same false true f g = g refl
    same false false f g = refl

module _ (s : Site) (functors : List Presheaf) where
  -- the number of the value of a function at a place
  abbrev pub IsValueAt : Ty → Val → Entry → ℕ → Type 0
  IsValueAt T v e n = Stands s functors T (dom s.category e.arrow) n (at_place e.arrow e.val (assigns_of v))

  numbers_below : (T : Ty) (t t' : Entry → Val) (ps : List Entry) (row row' : List ℕ) → Matches (λ e n. Stands s functors T (dom s.category e.arrow) n (t e)) ps row → Matches (λ e n. Stands s functors T (dom s.category e.arrow) n (t' e)) ps row' →
      AssignmentBelow (λ f. Below s functors T (dom s.category f)) (tabulate t ps) (tabulate t' ps) → NumbersBelow row row'
  numbers_below T t t' [] row row' m m' h = absurd h
  numbers_below T t t' (e ∷ ps) [] row' m m' h = absurd m
  numbers_below T t t' (e ∷ ps) (n ∷ row) [] m m' h = absurd m'
  numbers_below T t t' (e ∷ ps) (n ∷ row) (n' ∷ row') m m' (inl h) = inl (below_numbers s functors T (dom s.category e.arrow) n n' (t e) (t' e) m.0 m'.0 h)
  numbers_below T t t' (e ∷ ps) (n ∷ row) (n' ∷ row') m m' (inr h) = inr (one_number s functors T (dom s.category e.arrow) n n' (t e) (t' e) m.0 m'.0 h.0, numbers_below T t t' ps row row' m.1 m'.1 h.1)

  fun_order : (S T : Ty) (c : ℕ) (u v : Val) → Below s functors (Fun S T) c u v → AssignmentBelow (λ f. Below s functors T (dom s.category f)) (assigns_of u) (assigns_of v)
  unfolding hidden-the_row-Ty-0 Carrier.hidden
  fun_order S T c u v h = h

  pow_order : (T : Ty) (c : ℕ) (u v : Val) → Below s functors (Pow T) c u v → SublistBelow (places s (elements s functors T) c) (entries_of u) (entries_of v)
  unfolding hidden-the_row-Ty-0 Carrier.hidden
  pow_order T c u v h = h

  -- a function is the table of its values
  pub function_table : (S T : Ty) (c : ℕ) (u : Val) → In (elements s functors (Fun S T) c) u → tabulate (at_entry (assigns_of u)) (places s (elements s functors S) c) ≡ assigns_of u
  function_table S T c u i =
      let m = elements_Fun s functors S T c u i in
      let e : m.0 ≡ assigns_of u = sym (assigns_of-Fn m.0) ∙ ap assigns_of m.2 in
      let ps = places s (elements s functors S) c in
      subst (λ l. tabulate (at_entry l) ps ≡ l) e
      (assignment_table (λ f. elements s functors T (dom s.category f)) ps m.0 (Distinct-places s (elements s functors S) c (Distinct-elements s functors S)) m.1.member)

  pub row_matches : (S T : Ty) (c : ℕ) (v : Val) (row : List ℕ) → AreNumbers s functors S T c v row → Matches (IsValueAt T v) (places s (elements s functors S) c) row
  row_matches S T c v row h = matches_from (IsValueAt T v) (places s (elements s functors S) c) row (entry 0 Star) 0 (sym h.each_place) (λ i low. h.values i (omega (arith, low, h.each_place)))

  module _ (F : Functor) (c : ℕ) (low : c < s.category.objects) where
    abbrev rows : List (List ℕ)
    rows = get_or F.rows c []

    abbrev member : Ty → ℕ → Val
    member T n = get_or (elements s functors T c) n Star

    pub functions_rise : (S T : Ty) → HasElements s functors (Fun S T) F → Rising NumbersBelow (get_or F.rows c [])
    functions_rise S T h =
        rising_from NumbersBelow [] rows (λ i j l inside.
        let size : size_at F c ≡ length (elements s functors (Fun S T) c) = h.sizes c low in
        let i' : i < length (elements s functors (Fun S T) c) = omega (arith, l, inside, size) in
        let j' : j < length (elements s functors (Fun S T) c) = omega (arith, inside, size) in
        let u = member (Fun S T) i in
        let v = member (Fun S T) j in
        let ps = places s (elements s functors S) c in
        let o : AssignmentBelow (λ f. Below s functors T (dom s.category f)) (assigns_of u) (assigns_of v) =
        fun_order S T c u v (rising_at (Below s functors (Fun S T) c) (elements s functors (Fun S T) c) i j Star (Rising-elements s functors (Fun S T) c) l j') in
        numbers_below T (at_entry (assigns_of u)) (at_entry (assigns_of v)) ps (get_or rows i []) (get_or rows j [])
        (row_matches S T c u (get_or rows i []) (function_row s functors S T c u (get_or rows i []) (h.rows c i low (omega (arith, l, inside)))))
        (row_matches S T c v (get_or rows j []) (function_row s functors S T c v (get_or rows j []) (h.rows c j low inside)))
        (subst (λ x. AssignmentBelow (λ f. Below s functors T (dom s.category f)) x (tabulate (at_entry (assigns_of v)) ps)) (sym (function_table S T c u (get_In (elements s functors (Fun S T) c) i Star i')))
        (subst (λ y. AssignmentBelow (λ f. Below s functors T (dom s.category f)) (assigns_of u) y) (sym (function_table S T c v (get_In (elements s functors (Fun S T) c) j Star j'))) o)))

    pub subsets_rise : (T : Ty) → HasElements s functors (Pow T) F → Rising NumbersBelow (get_or F.rows c [])
    subsets_rise T h =
        rising_from NumbersBelow [] rows (λ i j l inside.
        let size : size_at F c ≡ length (elements s functors (Pow T) c) = h.sizes c low in
        let j' : j < length (elements s functors (Pow T) c) = omega (arith, inside, size) in
        let u = member (Pow T) i in
        let v = member (Pow T) j in
        let ps = places s (elements s functors T) c in
        subst (λ x. NumbersBelow x (get_or rows j [])) (sym (subset_row s functors T c u (get_or rows i []) (h.rows c i low (omega (arith, l, inside)))))
        (subst (λ y. NumbersBelow (map (bit_of u) ps) y) (sym (subset_row s functors T c v (get_or rows j []) (h.rows c j low inside)))
        (bits_below u v ps (pow_order T c u v (rising_at (Below s functors (Pow T) c) (elements s functors (Pow T) c) i j Star (Rising-elements s functors (Pow T) c) l j')))))
