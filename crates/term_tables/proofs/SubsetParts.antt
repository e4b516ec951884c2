-- Tables of subsets that formulas with one more variable define.
use Rattle.std.proofs.Common.{◌≡◌, ℕ, ◌+◌, ◌*◌, ◌<◌, Bool, cond, List, [], ◌∷◌, length, get_or, filter, sym, ap, subst, ◌∙◌, arith}
use Rattle.finite_lists.specs.Members.{In}
use Rattle.finite_lists.specs.Rising.{Rising, NumbersBelow}
use Rattle.finite_lists.proofs.Lists.{In_at, In-filter, In-filter_from, same_tests}
use Rattle.topos_model.specs.declared.ty.Ty.{Ty, Pow}
use Rattle.topos_model.specs.declared.term.Term.{Term, Compr}
use Rattle.topos_model.specs.declared.value.Val.{Val, Star}
use Rattle.topos_model.specs.declared.value.Entry.{Entry}
use Rattle.topos_model.specs.categories.Category.{into}
use Rattle.topos_model.specs.types.Types.{places, in_entries}
use Rattle.topos_model.specs.types.Values.{entries_of}
use Rattle.topos_model.specs.formulas.Forcing.{World, Assigned, source, values, value, forces, along, tuples}
use Rattle.topos_model.proofs.ArrowsInto.{In-into_from}
use Rattle.topos_model.proofs.ValueEquations.{entries_of-Sub}
use Rattle.topos_model.proofs.MeaningEquations.{value-Compr}
use Rattle.functor_store.specs.Store.{Store, Functor, functor_at, restrictions_at, size_at, element_at}
use Rattle.functor_store.specs.Faithful.{Stands, HasElements}
use Rattle.type_laws.specs.Numbered.{place_of}
use Rattle.type_laws.proofs.Numbering.{at_place_of, get_In}
use Rattle.type_laws.proofs.Places.{entry, places_In, entries_In, In_entries}
use Rattle.truth_tables.specs.Tables.{table, bit, number, IsOver}
use Rattle.truth_tables.specs.Abstraction.{row_of, IsNumbered, IsThere, AreThere, AreNumbered}
use Rattle.truth_tables.specs.Standing.{counts, tuple_at, IsNumberTable}
use Rattle.truth_tables.proofs.Standing.{object_in, tuple_in, table_over, entry_at, counts_long, counts_at}
use Rattle.site_stages.specs.declared.stages.Stages.{Stages}
use Rattle.site_stages.specs.Stages.{arrow_at}
use Rattle.formula_tables.proofs.AlongArrows.{sizes_long, size_at_object, domain_low}
use Rattle.term_tables.specs.Parts.{IsSubsetBody}
use Rattle.term_tables.proofs.SealedSizes.{elements_of}
use Rattle.term_tables.proofs.ElementRows.{subset_row}
use Rattle.term_tables.proofs.RowMatches.{Matches, matches_long, matches_mapped}
use Rattle.term_tables.proofs.RisingRows.{bit_of, subsets_rise}
use Rattle.term_tables.proofs.BlockRows.{blocks, row_against, number_within, number_tuple, to}
use Rattle.term_tables.proofs.RowNumbers.{row_there, row_stands}

-- the number of a truth value
abbrev pub digit_of : List (List Bool) → ℕ → ℕ → ℕ
digit_of body c i = cond (bit body c i) 1 0

module _ (w : World) (Γ : List Ty) (T : Ty) (φ : Term) (stages : Stages) (store : Store) (context id : ℕ) (sizes inner widths : List ℕ) (body : List (List Bool)) (h : IsSubsetBody w Γ T φ stages store context id sizes inner widths body)
    (digits : List (List ℕ)) (are_digits : digits ≡ table inner (digit_of body)) where
  abbrev F : Functor
  F = functor_at store.sealed id

  abbrev ps : ℕ → List Entry
  ps c = places w.site (values w T) c

  has : HasElements w.site w.functors (Pow T) (functor_at store.sealed id)
  has = elements_of w.site w.functors store h.known.faithful (Pow T) id h.type

  pub subset_rows_rise : (c : ℕ) → c < length sizes → Rising NumbersBelow (get_or (functor_at store.sealed id).rows c [])
  subset_rows_rise c low = subsets_rise w.site w.functors F c (object_in w Γ sizes h.known.counted c low) T has

  over : IsOver (counts w (T ∷ Γ)) digits
  over = subst (IsOver (counts w (T ∷ Γ))) (sym are_digits) (subst (λ l. IsOver l (table inner (digit_of body))) h.counted (table_over inner (digit_of body)))

  digit_at : (c m : ℕ) → c < w.site.category.objects → m < length (tuples w (T ∷ Γ) c) → number digits c m ≡ cond (forces w φ c (tuple_at w (T ∷ Γ) c m)) 1 0
  digit_at c m low inside =
      ap (λ l. number l c m) are_digits
      ∙ entry_at inner (digit_of body) c m 0 (omega (arith, low, ap length h.counted, counts_long w (T ∷ Γ))) (omega (arith, inside, ap (λ l. get_or l c 0) h.counted, counts_at w (T ∷ Γ) c low))
      ∙ ap (λ b. cond b 1 0) (h.stands.truths c m low inside)

  module _ (c i : ℕ) (low : c < w.site.category.objects) (inside : i < length (tuples w Γ c)) where
    abbrev a : Assigned
    a = tuple_at w Γ c i

    abbrev v : Val
    v = value w (Compr T φ) c (tuple_at w Γ c i)

    abbrev test : Entry → Bool
    test e = forces w φ (source w e.arrow) ((T, e.val) ∷ along w e.arrow (tuple_at w Γ c i))

    abbrev row : List ℕ
    row = row_of (get_or stages.sources c []) (restrictions_at (functor_at store.sealed context) c i) widths digits

    v_in : In (values w (Pow T) c) v
    v_in = h.elements c a low (In_at (tuples w Γ c) i [] inside)

    abbrev n : ℕ
    n = place_of v (values w (Pow T) c)

    stand : Stands w.site w.functors (Pow T) c n v
    stand = let p = at_place_of (values w (Pow T) c) v Star v_in in record { within = p.0; is = p.1 }

    -- whether the subset has a place
    at_body : (f : ℕ) (x : Val) → In (into w.site.category c) f → In (values w T (source w f)) x → in_entries f x (entries_of v) ≡ forces w φ (source w f) ((T, x) ∷ along w f a)
    at_body f x m x_in =
        let p = places_In w.site (values w T) c (entry f x) (In-into_from w.site.category c f m) x_in in
        ap (λ u. in_entries f x (entries_of u)) (value-Compr w T φ c a) ∙ ap (in_entries f x) (entries_of-Sub (filter test (ps c)))
        ∙ same_tests (in_entries f x (filter test (ps c))) (test (entry f x))
        (λ e. (In-filter_from test (ps c) (entry f x) (entries_In f x (filter test (ps c)) e)).1)
        (λ e. In_entries f x (filter test (ps c)) (In-filter test (ps c) (entry f x) p e))

    made : Matches (λ e k. k ≡ bit_of v e) (ps c) row
    made =
        row_against w Γ T stages store context sizes h.known widths h.variable digits over c i low inside (λ e k. k ≡ bit_of v e) (λ j x there x_low.
        let f = arrow_at w.site c j in
        let m = to w Γ T stages store context sizes h.known widths h.variable digits over c i low inside j * length (values w T (source w f)) + x in
        digit_at (source w f) m (domain_low w Γ stages store context sizes h.known c j low there) (number_within w Γ T stages store context sizes h.known widths h.variable digits over c i low inside j there x x_low)
        ∙ ap (λ b. cond b 1 0)
        (ap (forces w φ (source w f)) (number_tuple w Γ T stages store context sizes h.known widths h.variable digits over c i low inside j there x x_low)
        ∙ sym (at_body f (get_or (values w T (source w f)) x Star) (In_at (into w.site.category c) j 0 there) (get_In (values w T (source w f)) x Star x_low))))

    own : (k : ℕ) → k < size_at F c → Matches (λ e m. m ≡ bit_of (get_or (values w (Pow T) c) k Star) e) (ps c) (element_at F c k)
    own k k_low =
        matches_mapped (bit_of (get_or (values w (Pow T) c) k Star)) (ps c) (element_at F c k) (subset_row w.site w.functors T c (get_or (values w (Pow T) c) k Star) (element_at F c k) (has.rows c k low k_low))

    one : (e : Entry) (k l : ℕ) → k ≡ bit_of v e → l ≡ bit_of v e → k ≡ l
    one e k l p q = p ∙ sym q

    own_row : Matches (λ e m. m ≡ bit_of v e) (ps c) (element_at F c n)
    own_row = let l = stand.within in let e = has.sizes c low in subst (λ u. Matches (λ e m. m ≡ bit_of u e) (ps c) (element_at F c n)) stand.is (own n (omega (arith, l, e)))

    pub subset_there : IsThere (functor_at store.sealed id) c (get_or stages.sources c []) (restrictions_at (functor_at store.sealed context) c i) widths digits
    subset_there = record {
      blocks = blocks w Γ T stages store context sizes h.known widths h.variable digits over c i low inside;
      element = row_there w.site w.functors (Pow T) F has c low (subsets_rise w.site w.functors F c low T has) (λ e m. m ≡ bit_of v e) one (ps c) n v stand own_row row made;
      long = λ k k_low. sym (matches_long _ (ps c) (element_at F c k) (own k k_low)) ∙ matches_long _ (ps c) row made;
    }

    pub subset_stands : (k : ℕ) → IsNumbered (functor_at store.sealed id) c (row_of (get_or stages.sources c []) (restrictions_at (functor_at store.sealed context) c i) widths digits) k → Stands w.site w.functors (Pow T) c k (value w (Compr T φ) c (tuple_at w Γ c i))
    subset_stands k is =
        row_stands w.site w.functors (Pow T) F has c low (subsets_rise w.site w.functors F c low T has) (λ e m. m ≡ bit_of v e) one (ps c) n v stand own_row row made k is.element is.has_row

  pub subsets_there : AreThere (functor_at store.sealed context) (functor_at store.sealed id) sizes stages.sources widths digits
  subsets_there = record { at = λ c i low' inside'. subset_there c i (object_in w Γ sizes h.known.counted c low') (tuple_in w Γ sizes h.known.counted c i low' inside') }

  pub subset_numbers : (numbers : List (List ℕ)) → AreNumbered (functor_at store.sealed context) (functor_at store.sealed id) sizes stages.sources widths digits numbers → IsNumberTable w Γ (Pow T) (value w (Compr T φ)) numbers
  subset_numbers numbers are = record {
    over = subst (λ l. IsOver l numbers) h.known.counted are.over;
    stands = λ c i low inside.
        let low' : c < length sizes = omega (arith, low, sizes_long w Γ stages store context sizes h.known) in
        subset_stands c i low inside (number numbers c i) (are.at c i low' (omega (arith, inside, size_at_object w Γ stages store context sizes h.known c low)));
  }
