-- The elements of each form of types, by their numbers.
use Rattle.std.proofs.Common.{◌≡◌, ℕ, ◌<◌, List, [], ◌∷◌, length, get_or, map, filter, cond, sym, ap, ◌∙◌, arith}
use Rattle.std.proofs.lemmas.List.{length-map, get_or-map}
use Rattle.std.proofs.lemmas.List.FromFn.{length-map-range_with_len, get_or-map-range_with_len}
use Rattle.finite_lists.proofs.Lists.{sublist_kept}
use Rattle.topos_model.specs.declared.ty.Ty.{Ty, Base, One, Omega, Pow, Fun}
use Rattle.topos_model.specs.declared.value.Val.{El, Star, Sv, Sub, Fn}
use Rattle.topos_model.specs.declared.value.Entry.{Entry}
use Rattle.topos_model.specs.categories.Category.{dom}
use Rattle.topos_model.specs.topologies.Cover.{Site}
use Rattle.topos_model.specs.Laws.{IsInto}
use Rattle.topos_model.specs.types.Types.{Presheaf, functor, elements, places, in_entries, at_place, base_elements, omega_elements}
use Rattle.topos_model.specs.types.Values.{entries_of, assigns_of}
use Rattle.topos_model.proofs.TypeEquations.{elements-Base, elements-One, elements-Omega}
use Rattle.topos_model.proofs.ValueEquations.{entries_of-Sub, assigns_of-Fn}
use Rattle.functor_store.specs.Faithful.{Stands, AreNumbers, place_at as store_place}
use Rattle.fin_category.specs.ArrowSets.{arrows_in}
use Rattle.omega_object.specs.declared.omega.Omega.{Omega as OmegaTables}
use Rattle.omega_object.specs.Tables.{IsOmegaOn, mask_at, rows_at}
use Rattle.omega_object.specs.TruthValues.{closed_sieves, sieve_at}
use Rattle.type_laws.proofs.Numbering.{get_In}
use Rattle.type_laws.proofs.Places.{entry, entries_In, In_entries, Distinct-places}
use Rattle.type_laws.proofs.Presheaves.{Distinct-elements}
use Rattle.type_laws.proofs.Readings.{elements_Pow, elements_Fun}
use Rattle.type_laws.proofs.Tables.{at_entry, tabulate, assignment_table}
use Rattle.type_rows.specs.TypeRows.{value_at}
use Rattle.element_values.specs.Places.{places_at, marked, imaged, entry_at, assign_at}
use Rattle.element_values.proofs.PlaceLists.{no_place, places_are, kept, valued}

module _ (s : Site) (functors : List Presheaf) (c k : ℕ) where
  pub base_stands : (n : ℕ) → k < length (elements s functors (Base n) c) → Stands s functors (Base n) c k (El k)
  unfolding base_elements
  base_stands n low =
      let size = get_or (functor s functors n).sizes c 0 in
      let e = elements-Base s functors n c in
      record {
        within = low;
        is = ap (λ l. get_or l k Star) e ∙ get_or-map-range_with_len El 0 size k k Star (omega (arith, low, ap length e, length-map-range_with_len El 0 size)) (omega arith);
      }

  pub one_stands : k < length (elements s functors One c) → Stands s functors One c k Star
  one_stands low =
      let e = elements-One s functors c in
      let z : k ≡ 0 = omega (arith, low, ap length e) in
      record { within = low; is = ap (λ l. get_or l k Star) e ∙ ap (λ i. get_or (Star ∷ []) i Star) z }

  pub sieves_count : length (elements s functors Omega c) ≡ length (closed_sieves s c)
  unfolding omega_elements closed_sieves
  sieves_count = ap length (elements-Omega s functors c) ∙ length-map (closed_sieves s c) Sv

  pub sieve_stands : k < length (elements s functors Omega c) → Stands s functors Omega c k (Sv (sieve_at s c k))
  unfolding omega_elements closed_sieves
  sieve_stands low = record {
    within = low;
    is = ap (λ l. get_or l k Star) (elements-Omega s functors c) ∙ get_or-map Sv (closed_sieves s c) k [] Star (omega (arith, low, sieves_count));
  }

  module _ (Ω : OmegaTables) (on : IsOmegaOn s Ω) (object : c < s.category.objects) (low : k < length (elements s functors Omega c)) where
    rows_count : length (rows_at Ω c) ≡ length (closed_sieves s c)
    rows_count = sym (length-map (rows_at Ω c) arrows_in) ∙ ap length (on.sieves c object)

    pub sieve_within : k < length (rows_at Ω c)
    sieve_within = omega (arith, low, rows_count, sieves_count)

    pub sieve_is : mask_at (rows_at Ω c) k ≡ sieve_at s c k
    sieve_is = sym (get_or-map arrows_in (rows_at Ω c) k (record { words = [] }) [] sieve_within) ∙ ap (λ l. get_or l k []) (on.sieves c object)

  -- a subset has the places at which its row has 1
  pub subset_stands : (T : Ty) (size : ℕ → ℕ) (row : List ℕ) → k < length (elements s functors (Pow T) c) →
      ((f : ℕ) → IsInto s.category c f → size (dom s.category f) ≡ length (elements s functors T (dom s.category f))) →
      row ≡ map (λ e. cond (in_entries e.arrow e.val (entries_of (value_at s functors (Pow T) c k))) 1 0) (places s (elements s functors T) c) →
      Stands s functors (Pow T) c k (Sub (map (entry_at s functors T) (marked (places_at s.category size c) row)))
  subset_stands T size row low sizes row_is =
      let v = value_at s functors (Pow T) c k in
      let all = places s (elements s functors T) c in
      let ps = places_at s.category size c in
      let E = entry_at s functors T in
      let (l, closed, is) = elements_Pow s functors T c v (get_In (elements s functors (Pow T) c) k Star low) in
      let entries : entries_of v ≡ l = ap entries_of (sym is) ∙ entries_of-Sub l in
      let spots = places_are s functors T size c sizes in
      let marks : map E (marked ps row) ≡ filter (λ e. in_entries e.arrow e.val l) all =
      ap (λ r. map E (marked ps r)) (row_is ∙ ap (λ m. map (λ e. cond (in_entries e.arrow e.val m) 1 0) all) entries ∙ ap (map (λ e. cond (in_entries e.arrow e.val l) 1 0)) spots)
      ∙ kept E (λ e. in_entries e.arrow e.val l) ps ∙ ap (filter (λ e. in_entries e.arrow e.val l)) (sym spots) in
      let whole : filter (λ e. in_entries e.arrow e.val l) all ≡ l =
      sublist_kept (λ e. in_entries e.arrow e.val l) all l (Distinct-places s (elements s functors T) c (Distinct-elements s functors T)) closed.member
      (λ e i h. entries_In e.arrow e.val l h) (λ e i. In_entries e.arrow e.val l i) in
      record { within = low; is = sym is ∙ ap Sub (sym (marks ∙ whole)) }

  -- a function has the values whose numbers its row has
  pub function_stands : (S T : Ty) (size : ℕ → ℕ) (row : List ℕ) → k < length (elements s functors (Fun S T) c) →
      ((f : ℕ) → IsInto s.category c f → size (dom s.category f) ≡ length (elements s functors S (dom s.category f))) →
      AreNumbers s functors S T c (value_at s functors (Fun S T) c k) row →
      Stands s functors (Fun S T) c k (Fn (map (assign_at s functors S T) (imaged (places_at s.category size c) row)))
  function_stands S T size row low sizes numbers =
      let v = value_at s functors (Fun S T) c k in
      let all = places s (elements s functors S) c in
      let ps = places_at s.category size c in
      let E = entry_at s functors S in
      let (l, natural, is) = elements_Fun s functors S T c v (get_In (elements s functors (Fun S T) c) k Star low) in
      let assigns : assigns_of v ≡ l = ap assigns_of (sym is) ∙ assigns_of-Fn l in
      let spots = places_are s functors S size c sizes in
      let long : length all ≡ length ps = ap length spots ∙ length-map ps E in
      let values : map (assign_at s functors S T) (imaged ps row) ≡ tabulate (at_entry l) (map E ps) =
      valued s functors S T (at_entry l) ps row (numbers.each_place ∙ long) (λ i inside.
      let there : store_place s functors S c i ≡ E (get_or ps i no_place) = ap (λ q. get_or q i (entry 0 Star)) spots ∙ get_or-map E ps i no_place (entry 0 Star) inside in
      let stands = numbers.values i (omega (arith, inside, numbers.each_place, long)) in
      ap (λ (e : Entry). value_at s functors T (dom s.category e.arrow) (get_or row i 0)) (sym there) ∙ stands.is
      ∙ ap (λ m. at_place (store_place s functors S c i).arrow (store_place s functors S c i).val m) assigns ∙ ap (at_entry l) there) in
      let whole : tabulate (at_entry l) all ≡ l = assignment_table (λ f. elements s functors T (dom s.category f)) all l (Distinct-places s (elements s functors S) c (Distinct-elements s functors S)) natural.member in
      record { within = low; is = sym is ∙ ap Fn (sym (values ∙ ap (tabulate (at_entry l)) (sym spots) ∙ whole)) }
