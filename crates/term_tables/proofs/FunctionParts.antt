-- Tables of functions that terms with one more variable define.
use Rattle.std.proofs.Common.{◌≡◌, ℕ, ◌+◌, ◌*◌, ◌<◌, List, [], ◌∷◌, length, get_or, refl, sym, ap, subst, ◌∙◌, arith}
use Rattle.finite_lists.specs.Members.{In}
use Rattle.finite_lists.specs.Rising.{Rising, NumbersBelow}
use Rattle.finite_lists.proofs.Lists.{In_at}
use Rattle.topos_model.specs.declared.ty.Ty.{Ty, Fun}
use Rattle.topos_model.specs.declared.term.Term.{Term, Lam}
use Rattle.topos_model.specs.declared.value.Val.{Val, Star}
use Rattle.topos_model.specs.declared.value.Entry.{Entry}
use Rattle.topos_model.specs.categories.Category.{into}
use Rattle.topos_model.specs.types.Types.{places, at_place}
use Rattle.topos_model.specs.types.Values.{assigns_of}
use Rattle.topos_model.specs.formulas.Forcing.{World, Assigned, source, values, value, along, tuples}
use Rattle.topos_model.proofs.ArrowsInto.{In-into_from}
use Rattle.topos_model.proofs.ValueEquations.{assigns_of-Fn}
use Rattle.topos_model.proofs.MeaningEquations.{value-Lam}
use Rattle.functor_store.specs.Store.{Store, Functor, functor_at, restrictions_at, size_at, element_at}
use Rattle.functor_store.specs.Faithful.{Stands, HasElements}
use Rattle.type_laws.specs.Numbered.{place_of}
use Rattle.type_laws.proofs.Numbering.{at_place_of, get_In}
use Rattle.type_laws.proofs.Places.{entry, places_In}
use Rattle.type_laws.proofs.Tables.{tabulate, at_tabulate}
use Rattle.truth_tables.specs.Tables.{number, IsOver}
use Rattle.truth_tables.specs.Abstraction.{row_of, IsNumbered, IsThere, AreThere, AreNumbered}
use Rattle.truth_tables.specs.Standing.{tuple_at, IsNumberTable}
use Rattle.truth_tables.proofs.Standing.{object_in, tuple_in}
use Rattle.site_stages.specs.declared.stages.Stages.{Stages}
use Rattle.site_stages.specs.Stages.{arrow_at}
use Rattle.formula_tables.proofs.AlongArrows.{sizes_long, size_at_object, domain_low}
use Rattle.term_tables.specs.Parts.{IsFunctionBody}
use Rattle.term_tables.proofs.OneNumber.{one_number}
use Rattle.term_tables.proofs.SealedSizes.{elements_of}
use Rattle.term_tables.proofs.ElementRows.{function_row}
use Rattle.term_tables.proofs.RowMatches.{Matches, matches_long}
use Rattle.term_tables.proofs.RisingRows.{IsValueAt, row_matches, functions_rise}
use Rattle.term_tables.proofs.BlockRows.{blocks, row_against, number_within, number_tuple, to}
use Rattle.term_tables.proofs.RowNumbers.{row_there, row_stands}

module _ (w : World) (Γ : List Ty) (S T : Ty) (t : Term) (stages : Stages) (store : Store) (context id : ℕ) (sizes widths : List ℕ) (body : List (List ℕ)) (h : IsFunctionBody w Γ S T t stages store context id sizes widths body) where
  abbrev F : Functor
  F = functor_at store.sealed id

  abbrev ps : ℕ → List Entry
  ps c = places w.site (values w S) c

  has : HasElements w.site w.functors (Fun S T) (functor_at store.sealed id)
  has = elements_of w.site w.functors store h.known.faithful (Fun S T) id h.type

  pub function_rows_rise : (c : ℕ) → c < length sizes → Rising NumbersBelow (get_or (functor_at store.sealed id).rows c [])
  function_rows_rise c low = functions_rise w.site w.functors F c (object_in w Γ sizes h.known.counted c low) S T has

  module _ (c i : ℕ) (low : c < w.site.category.objects) (inside : i < length (tuples w Γ c)) where
    abbrev a : Assigned
    a = tuple_at w Γ c i

    abbrev v : Val
    v = value w (Lam S t) c (tuple_at w Γ c i)

    abbrev row : List ℕ
    row = row_of (get_or stages.sources c []) (restrictions_at (functor_at store.sealed context) c i) widths body

    v_in : In (values w (Fun S T) c) v
    v_in = h.elements c a low (In_at (tuples w Γ c) i [] inside)

    abbrev n : ℕ
    n = place_of v (values w (Fun S T) c)

    stand : Stands w.site w.functors (Fun S T) c n v
    stand = let p = at_place_of (values w (Fun S T) c) v Star v_in in record { within = p.0; is = p.1 }

    -- the value of the function at a place
    at_body : (f : ℕ) (x : Val) → In (into w.site.category c) f → In (values w S (source w f)) x → at_place f x (assigns_of v) ≡ value w t (source w f) ((S, x) ∷ along w f a)
    at_body f x m x_in =
        ap (λ u. at_place f x (assigns_of u)) (value-Lam w S t c a)
        ∙ ap (at_place f x) (assigns_of-Fn (tabulate (λ e. value w t (source w e.arrow) ((S, e.val) ∷ along w e.arrow a)) (ps c)))
        ∙ at_tabulate (λ e. value w t (source w e.arrow) ((S, e.val) ∷ along w e.arrow a)) (ps c) (entry f x) (places_In w.site (values w S) c (entry f x) (In-into_from w.site.category c f m) x_in)

    made : Matches (IsValueAt w.site w.functors T v) (ps c) row
    made =
        row_against w Γ S stages store context sizes h.known widths h.variable body h.stands.over c i low inside (IsValueAt w.site w.functors T v) (λ j x there x_low.
        let f = arrow_at w.site c j in
        let m = to w Γ S stages store context sizes h.known widths h.variable body h.stands.over c i low inside j * length (values w S (source w f)) + x in
        let stands = h.stands.stands (source w f) m (domain_low w Γ stages store context sizes h.known c j low there) (number_within w Γ S stages store context sizes h.known widths h.variable body h.stands.over c i low inside j there x x_low) in
        subst (Stands w.site w.functors T (source w f) (number body (source w f) m))
        (ap (value w t (source w f)) (number_tuple w Γ S stages store context sizes h.known widths h.variable body h.stands.over c i low inside j there x x_low)
        ∙ sym (at_body f (get_or (values w S (source w f)) x Star) (In_at (into w.site.category c) j 0 there) (get_In (values w S (source w f)) x Star x_low))) stands)

    own : (k : ℕ) → k < size_at F c → Matches (IsValueAt w.site w.functors T (get_or (values w (Fun S T) c) k Star)) (ps c) (element_at F c k)
    own k k_low = row_matches w.site w.functors S T c (get_or (values w (Fun S T) c) k Star) (element_at F c k) (function_row w.site w.functors S T c (get_or (values w (Fun S T) c) k Star) (element_at F c k) (has.rows c k low k_low))

    one : (e : Entry) (k l : ℕ) → IsValueAt w.site w.functors T v e k → IsValueAt w.site w.functors T v e l → k ≡ l
    one e k l p q = one_number w.site w.functors T (source w e.arrow) k l _ _ p q refl

    own_row : Matches (IsValueAt w.site w.functors T v) (ps c) (element_at F c n)
    own_row = let l = stand.within in let e = has.sizes c low in subst (λ u. Matches (IsValueAt w.site w.functors T u) (ps c) (element_at F c n)) stand.is (own n (omega (arith, l, e)))

    pub function_there : IsThere (functor_at store.sealed id) c (get_or stages.sources c []) (restrictions_at (functor_at store.sealed context) c i) widths body
    function_there = record {
      blocks = blocks w Γ S stages store context sizes h.known widths h.variable body h.stands.over c i low inside;
      element = row_there w.site w.functors (Fun S T) F has c low (functions_rise w.site w.functors F c low S T has) (IsValueAt w.site w.functors T v) one (ps c) n v stand own_row row made;
      long = λ k k_low. sym (matches_long _ (ps c) (element_at F c k) (own k k_low)) ∙ matches_long _ (ps c) row made;
    }

    pub function_stands : (k : ℕ) → IsNumbered (functor_at store.sealed id) c (row_of (get_or stages.sources c []) (restrictions_at (functor_at store.sealed context) c i) widths body) k → Stands w.site w.functors (Fun S T) c k (value w (Lam S t) c (tuple_at w Γ c i))
    function_stands k is =
        row_stands w.site w.functors (Fun S T) F has c low (functions_rise w.site w.functors F c low S T has) (IsValueAt w.site w.functors T v) one (ps c) n v stand own_row row made k is.element is.has_row

  pub functions_there : AreThere (functor_at store.sealed context) (functor_at store.sealed id) sizes stages.sources widths body
  functions_there = record { at = λ c i low' inside'. function_there c i (object_in w Γ sizes h.known.counted c low') (tuple_in w Γ sizes h.known.counted c i low' inside') }

  pub function_numbers : (numbers : List (List ℕ)) → AreNumbered (functor_at store.sealed context) (functor_at store.sealed id) sizes stages.sources widths body numbers → IsNumberTable w Γ (Fun S T) (value w (Lam S t)) numbers
  function_numbers numbers are = record {
    over = subst (λ l. IsOver l numbers) h.known.counted are.over;
    stands = λ c i low inside.
        let low' : c < length sizes = omega (arith, low, sizes_long w Γ stages store context sizes h.known) in
        function_stands c i low inside (number numbers c i) (are.at c i low' (omega (arith, inside, size_at_object w Γ stages store context sizes h.known c low)));
  }
