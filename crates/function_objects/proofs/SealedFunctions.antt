-- The rows of functions between two sealed types are the elements of the function type.
use Rattle.std.proofs.Common.{◌≡◌, ℕ, zero, suc, ◌+◌, ◌-◌, ◌*◌, ◌<◌, ◌≤◌, List, [], ◌∷◌, length, get_or, map, sum, take, drop, inl, inr, refl, sym, ap, subst, ◌∙◌, arith}
use denote.Hole.Carrier
use Rattle.std.specs.List.{range_with_len}
use Rattle.std.proofs.lemmas.List.{length-map}
use Rattle.finite_lists.specs.Members.{In, Distinct}
use Rattle.finite_lists.proofs.Lists.{In_at, map_same, In-append_cases}
use Rattle.finite_lists.proofs.DistinctLists.{In-range_from}
use Rattle.topos_model.specs.declared.ty.Ty.{Ty, Base, Fun}
use Rattle.topos_model.specs.declared.ty.Ty.TheBlock.{hidden-the_row-Ty-0}
use Rattle.topos_model.specs.declared.value.Val.{Val, Star, Fn}
use Rattle.topos_model.specs.declared.value.Entry.{Entry}
use Rattle.topos_model.specs.categories.Category.{Category, into, dom}
use Rattle.topos_model.specs.topologies.Cover.{Site}
use Rattle.topos_model.specs.Laws.{IsCategory, IsInto}
use Rattle.topos_model.specs.types.Types.{Presheaf, elements, restr, places, at_place}
use Rattle.topos_model.specs.types.Values.{assigns_of}
use Rattle.topos_model.specs.statements.Cells.{cells_of, width}
use Rattle.topos_model.specs.statements.Needs.{parts}
use Rattle.topos_model.proofs.ArrowsInto.{In-into_from}
use Rattle.topos_model.proofs.NeedsEquations.{parts-Fun}
use Rattle.topos_model.proofs.TypeEquations.{elements-Fun, restr-Fun}
use Rattle.topos_model.proofs.ValueEquations.{assigns_of-Fn}
use Rattle.functor_store.specs.Store.{Store, functor_at}
use Rattle.functor_store.specs.Faithful.{Stands, AreNumbers, IsRow, IsFaithful, place_at}
use Rattle.sealed_functors.specs.declared.rows.ElementRows.{ElementRows}
use Rattle.sealed_functors.specs.Rows.{part}
use Rattle.sieve_table.proofs.SieveMembers.{domain, object}
use Rattle.place_closures.specs.Pairs.{AreRestricted, pairs, start}
use Rattle.place_closures.proofs.PairNumbers.{number_of_pair}
use Rattle.type_laws.proofs.Places.{IsPresheaf}
use Rattle.type_laws.proofs.Presheaves.{Distinct-elements}
use Rattle.type_laws.proofs.Functions.{fun_along_Fn}
use Rattle.natural_search.specs.Rows.{joined}
use Rattle.natural_search.proofs.AssignedRows.{fitting_long}
use Rattle.natural_search.proofs.JoinedRows.{row_at, joined_length}
use Rattle.sealed_types.specs.Sealed.{sizes_in, restrictions_in}
use Rattle.sealed_types.proofs.SealedTypes.{sealed_size, sealed_stands, sealed_restricted, sealed_presheaf}
use Rattle.type_rows.specs.TypeRows.{AreRowsAt, HoldsNamed, value_at}
use Rattle.function_objects.specs.Functions.{function_rows, function_bounds, under_row, function_cells, IsRowNumber, AreClosed, AreFunctionRows, function_squares, restriction_table}
use Rattle.function_objects.specs.Parts.{IsPart}
use Rattle.function_objects.proofs.FunctionSquares.{long_bounds}
use Rattle.function_objects.proofs.FunctionTables.{table_of}
use Rattle.function_objects.proofs.FunctionElements as functions
use Rattle.function_objects.proofs.FunctionElements.{AreNumbered}

mapped_at : {A B : Type 0} (h : A → B) (xs : List A) (i : ℕ) (d : A) (e : B) → i < length xs → get_or (map h xs) i e ≡ h (get_or xs i d)
mapped_at h [] i d e low = absurd (omega (arith, low))
mapped_at h (x ∷ xs) zero d e low = refl
mapped_at h (x ∷ xs) (suc i) d e low = mapped_at h xs i d e (omega (arith, low))

-- no function type is a functor's name
no_base : (S T : Ty) (n : ℕ) → Fun S T ≡ Base n → ⊥
unfolding hidden-the_row-Ty-0 Carrier.hidden
no_base S T n e = cc

fun_row : (s : Site) (functors : List Presheaf) (S T : Ty) (c : ℕ) (v : Val) (row : List ℕ) → AreNumbers s functors S T c v row → IsRow s functors (Fun S T) c v row
unfolding hidden-the_row-Ty-0 Carrier.hidden
fun_row s functors S T c v row h = h

fun_width : (s : Site) (functors : List Presheaf) (S T : Ty) (c : ℕ) → width s functors (Fun S T) c ≡ length (places s (elements s functors S) c)
unfolding width hidden-the_row-Ty-0 Carrier.hidden
fun_width s functors S T c = refl

-- a sealed functor over the category
pub is_part : (s : Site) (functors : List Presheaf) (store : Store) (id : ℕ) → IsCategory s.category → IsFaithful s functors store → id < length store.sealed → IsPart s.category store id
is_part s functors store id laws h low = record { objects = h.objects; ends = h.ends; within = low; restricts = sealed_restricted s functors store id laws h low }

module _ (s : Site) (functors : List Presheaf) (store : Store) (i j : ℕ) (laws : IsCategory s.category) (h : IsFaithful s functors store) (low : i < length store.sealed) (low' : j < length store.sealed) where
  abbrev k : Category
  k = s.category

  abbrev S : Ty
  S = (functor_at store.sealed i).key

  abbrev T : Ty
  T = (functor_at store.sealed j).key

  abbrev size : ℕ → ℕ
  size = sizes_in store i

  abbrev move : ℕ → ℕ → ℕ
  move = restrictions_in store i

  abbrev size' : ℕ → ℕ
  size' = sizes_in store j

  abbrev move' : ℕ → ℕ → ℕ
  move' = restrictions_in store j

  numbered : (id : ℕ) (low : id < length store.sealed) → AreNumbered k (elements s functors (functor_at store.sealed id).key) (restr s functors (functor_at store.sealed id).key) (sizes_in store id) (restrictions_in store id)
  numbered id low = record {
    sizes = λ c o. sealed_size s functors store id h low c o;
    within = λ c f n a inside. (sealed_stands s functors store id h low c f n a inside).within;
    is = λ c f n a inside. (sealed_stands s functors store id h low c f n a inside).is;
  }

  abbrev rows : ℕ → List (List ℕ)
  rows c = function_rows k size move size' move' c

  abbrev function_of : ℕ → List ℕ → Val
  function_of c row = Fn (table_of (λ f. elements s functors T (dom k f)) (places s (elements s functors S) c) row)

  -- the elements are the functions of the rows
  pub function_elements : (c : ℕ) → elements s functors (Fun S T) c ≡ map (function_of c) (rows c)
  function_elements c =
      elements-Fun s functors S T c
      ∙ functions.elements_are s laws (elements s functors S) (restr s functors S) (elements s functors T) (restr s functors T) (sealed_presheaf s functors store i laws h low) (sealed_presheaf s functors store j laws h low') (Distinct-elements s functors S) (Distinct-elements s functors T) size move size' move' (numbered i low) (numbered j low') (sealed_restricted s functors store i laws h low) c

  count_is : (c : ℕ) → length (elements s functors (Fun S T) c) ≡ length (rows c)
  count_is c = ap length (function_elements c) ∙ length-map (rows c) (function_of c)

  value_is : (c n : ℕ) → n < length (rows c) → value_at s functors (Fun S T) c n ≡ function_of c (get_or (rows c) n [])
  value_is c n inside = ap (λ l. get_or l n Star) (function_elements c) ∙ mapped_at (function_of c) (rows c) n [] Star inside

  place_count : (c : ℕ) → length (places s (elements s functors S) c) ≡ length (function_bounds k size move size' c)
  place_count c =
      functions.place_count s laws (elements s functors S) (restr s functors S) (elements s functors T) (restr s functors T) (sealed_presheaf s functors store i laws h low) (sealed_presheaf s functors store j laws h low') (Distinct-elements s functors S) (Distinct-elements s functors T) size move size' move' (numbered i low) (numbered j low') (sealed_restricted s functors store i laws h low) c
      ∙ sym (long_bounds k laws size move size' move' (sealed_restricted s functors store i laws h low) c)

  -- a row under an arrow is a row
  pub rows_closed : AreClosed k size move size' move'
  rows_closed c f row a m =
      functions.under_fits s laws (elements s functors S) (restr s functors S) (elements s functors T) (restr s functors T) (sealed_presheaf s functors store i laws h low) (sealed_presheaf s functors store j laws h low') (Distinct-elements s functors S) (Distinct-elements s functors T) size move size' move' (numbered i low) (numbered j low') (sealed_restricted s functors store i laws h low) c f row a m

  -- the number of the row under an arrow stands for the restriction
  restriction_stands : (c n f m : ℕ) → IsInto k c f → n < length (rows c) → IsRowNumber k size move size' move' (dom k f) m (under_row k size move c f (get_or (rows c) n [])) →
      Stands s functors (Fun S T) (dom k f) m (restr s functors (Fun S T) f (value_at s functors (Fun S T) c n))
  restriction_stands c n f m a inside number =
      let row = get_or (rows c) n [] in
      let l = table_of (λ f. elements s functors T (dom k f)) (places s (elements s functors S) c) row in
      let within = number.within in
      record {
        within = omega (arith, within, count_is (dom k f));
        is =
            value_is (dom k f) m within ∙ ap (function_of (dom k f)) number.is
            ∙ sym (ap (restr s functors (Fun S T) f) (value_is c n inside) ∙ restr-Fun s functors S T f (Fn l) ∙ fun_along_Fn s (elements s functors S) (restr s functors S) (elements s functors T) (restr s functors T) f l
            ∙ ap Fn (functions.restricted_table s laws (elements s functors S) (restr s functors S) (elements s functors T) (restr s functors T) (sealed_presheaf s functors store i laws h low) (sealed_presheaf s functors store j laws h low') (Distinct-elements s functors S) (Distinct-elements s functors T) size move size' move' (numbered i low) (numbered j low') (sealed_restricted s functors store i laws h low) c f row a (In_at (rows c) n [] inside)));
      }

  -- a row has the numbers of the values
  row_numbers : (c : ℕ) (row : List ℕ) → In (rows c) row → AreNumbers s functors S T c (function_of c row) row
  row_numbers c row m =
      let whole = functions.row_whole s laws (elements s functors S) (restr s functors S) (elements s functors T) (restr s functors T) (sealed_presheaf s functors store i laws h low) (sealed_presheaf s functors store j laws h low') (Distinct-elements s functors S) (Distinct-elements s functors T) size move size' move' (numbered i low) (numbered j low') (sealed_restricted s functors store i laws h low) c row m in
      record {
        each_place = whole;
        values = λ n inside.
            let e = functions.number_stands s laws (elements s functors S) (restr s functors S) (elements s functors T) (restr s functors T) (sealed_presheaf s functors store i laws h low) (sealed_presheaf s functors store j laws h low') (Distinct-elements s functors S) (Distinct-elements s functors T) size move size' move' (numbered i low) (numbered j low') (sealed_restricted s functors store i laws h low) c row m n (omega (arith, inside, whole)) in
            record {
              within = e.0;
              is = e.1 ∙ ap (λ l. at_place (place_at s functors S c n).arrow (place_at s functors S c n).val l) (sym (assigns_of-Fn (table_of (λ f. elements s functors T (dom k f)) (places s (elements s functors S) c) row)));
            };
      }

  pub function_rows_at : (c : ℕ) (r : ElementRows) → AreFunctionRows k size move size' move' c r → AreRowsAt s functors (Fun S T) c r
  unfolding function_rows
  function_rows_at c r is =
      let w = length (function_bounds k size move size' c) in
      let all = rows c in
      let long = fitting_long (restriction_table k size' move') (function_squares k size move c) (function_bounds k size move size' c) in
      record {
        count = is.count ∙ sym (count_is c);
        arrows = is.arrows;
        rows_long = ap length is.rows ∙ joined_length all w long ∙ ap (λ n. n * w) (sym is.count) ∙ widths r.count r.width w is.width;
        restrictions_long = is.length_is ∙ ap (λ n. r.count * n) (sym is.arrows);
        rows = λ n inside.
            let low : n < length all = omega (arith, inside, is.count) in
            let e : r.width ≡ w = is.width (omega (arith, inside)) in
            let z : n * w + w - n * w ≡ w = omega arith in
            let here : part r.width r.rows n ≡ get_or all n [] =
            ap (λ v. part v r.rows n) e ∙ ap (λ l. part w l n) is.rows ∙ ap (λ v. take v (drop (n * w) (joined all))) z ∙ row_at all w n long low in
            subst (λ q. IsRow s functors (Fun S T) c (value_at s functors (Fun S T) c n) q) (sym here)
            (subst (λ v. IsRow s functors (Fun S T) c v (get_or all n [])) (sym (value_is c n low)) (fun_row s functors S T c (function_of c (get_or all n [])) (get_or all n []) (row_numbers c (get_or all n []) (In_at all n [] low))));
        numbers = λ n a inside there.
            restriction_stands c n (get_or (into k c) a 0) (get_or r.restrictions (n * length (into k c) + a) 0) (In-into_from k c (get_or (into k c) a 0) (In_at (into k c) a 0 there)) (omega (arith, inside, is.count)) (is.numbers n a inside there);
      }
    where
      widths : (count width w : ℕ) → (0 < count → width ≡ w) → count * w ≡ count * width
      widths zero width w e = let a : 0 * w ≡ 0 = omega arith in let b : 0 * width ≡ 0 = omega arith in a ∙ sym b
      widths (suc count) width w e = ap (λ n. suc count * n) (sym (e (omega arith)))

  pub cells_are : function_cells k size move size' move' ≡ cells_of s functors (Fun S T)
  unfolding function_cells cells_of
  cells_are =
      ap sum (map_same (λ c. length (rows c) * (1 + length (into k c) + length (function_bounds k size move size' c))) (λ c. length (elements s functors (Fun S T) c) * (1 + length (into k c) + width s functors (Fun S T) c)) (range_with_len 0 k.objects) (λ c m.
      let w : length (function_bounds k size move size' c) ≡ width s functors (Fun S T) c = sym (fun_width s functors S T c ∙ place_count c) in
      ap (λ n. n * (1 + length (into k c) + length (function_bounds k size move size' c))) (sym (count_is c)) ∙ ap (λ n. length (elements s functors (Fun S T) c) * (1 + length (into k c) + n)) w))

  -- a functor that the function type names is named by a part
  pub function_named : HoldsNamed store (Fun S T)
  function_named n m =
      elim (subst (λ l. In l (Base n)) (parts-Fun S T) m) [
        | inl e ↦ absurd (no_base S T n e)
        | inr q ↦ elim (In-append_cases (parts S) (parts T) (Base n) q) [
          | inl a ↦ h.parts_held S n (i, low, refl) a
          | inr a ↦ h.parts_held T n (j, low', refl) a
        ]
      ]
