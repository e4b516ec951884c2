-- The entries behind the restrictions of a tuple, against the places of the variable's type.
use Rattle.std.proofs.Common.{◌≡◌, ℕ, suc, ◌+◌, ◌*◌, ◌<◌, ◌≤◌, List, [], ◌∷◌, ◌++◌, length, get_or, map, flat_map, drop, refl, sym, ap, subst, ◌∙◌, arith}
use Rattle.std.specs.List.{range_with_len}
use Rattle.std.proofs.Math.Nat.{mul-le-mul_right}
use Rattle.std.proofs.lemmas.List.{length-map, get_or-take, get_or-drop, length-take-le, length-drop}
use Rattle.std.proofs.lemmas.List.FromFn.{fill_by_all}
use Rattle.finite_lists.proofs.DistinctLists.{In-range_from}
use Rattle.topos_model.specs.declared.ty.Ty.{Ty}
use Rattle.topos_model.specs.declared.value.Val.{Star}
use Rattle.topos_model.specs.declared.value.Entry.{Entry}
use Rattle.topos_model.specs.types.Types.{places}
use Rattle.topos_model.specs.formulas.Forcing.{World, Assigned, onto, source, values, along, tuples}
use Rattle.functor_store.specs.Store.{Store, Functor, functor_at, restrictions_at}
use Rattle.omega_object.proofs.Precedence.{mapped_at}
use Rattle.type_laws.proofs.Places.{entry}
use Rattle.type_rows.proofs.FlatRows.{length-joined, joined_at}
use Rattle.truth_tables.specs.Tables.{number, block, IsOver}
use Rattle.truth_tables.specs.Abstraction.{behind, row_of, HasBlocks}
use Rattle.truth_tables.specs.Standing.{counts, tuple_at}
use Rattle.truth_tables.proofs.Standing.{counts_long, counts_at}
use Rattle.site_stages.specs.declared.stages.Stages.{Stages}
use Rattle.site_stages.specs.Stages.{arrow_at}
use Rattle.formula_tables.specs.Formulas.{IsContext}
use Rattle.formula_tables.proofs.AlongArrows.{tuples_are, sources_at, source_at, domain_low}
use Rattle.term_tables.specs.Parts.{AreWidths}
use Rattle.term_tables.proofs.Contexts.{widths_long, width_at}
use Rattle.term_tables.proofs.RowMatches.{Matches, matches_joined, matches_from}

-- tuples with one element more
module _ (w : World) (Γ : List Ty) (S : Ty) (c : ℕ) where
  more : Assigned → List Assigned
  more a = map (λ v. (S, v) ∷ a) (values w S c)

  more_long : (a : Assigned) → length (map (λ v. (S, v) ∷ a) (values w S c)) ≡ length (values w S c)
  more_long a = length-map (values w S c) (λ v. (S, v) ∷ a)

  pub more_tuples : length (tuples w (S ∷ Γ) c) ≡ length (tuples w Γ c) * length (values w S c)
  unfolding tuples
  more_tuples = length-joined (λ a. map (λ v. (S, v) ∷ a) (values w S c)) (length (values w S c)) (tuples w Γ c) (λ a i. more_long a)

  pub more_at : (r x : ℕ) → r < length (tuples w Γ c) → x < length (values w S c) → tuple_at w (S ∷ Γ) c (r * length (values w S c) + x) ≡ (S, get_or (values w S c) x Star) ∷ tuple_at w Γ c r
  unfolding tuples
  more_at r x low inside =
      joined_at (λ a. map (λ v. (S, v) ∷ a) (values w S c)) (length (values w S c)) (tuples w Γ c) r x [] [] (λ a i. more_long a) low inside
      ∙ mapped_at (λ v. (S, v) ∷ tuple_at w Γ c r) (values w S c) x Star [] inside

-- a block ends within the whole
block_ends : (r n m x : ℕ) → r < n → x < m → r * m + x < n * m
block_ends r n m x low inside =
    let e : suc r * m ≡ r * m + m = omega arith in
    let l : suc r * m ≤ n * m = mul-le-mul_right m (omega (arith, low)) in
    omega (arith, e, l, inside)

block_within : (r n m : ℕ) → r < n → r * m + m ≤ n * m
block_within r n m low =
    let e : suc r * m ≡ r * m + m = omega arith in
    let l : suc r * m ≤ n * m = mul-le-mul_right m (omega (arith, low)) in
    omega (arith, e, l)

module _ (w : World) (Γ : List Ty) (S : Ty) (stages : Stages) (store : Store) (context : ℕ) (sizes : List ℕ) (known : IsContext w Γ stages store context sizes)
    (widths : List ℕ) (variable : AreWidths w S widths) (body : List (List ℕ)) (over : IsOver (counts w (S ∷ Γ)) body) (c i : ℕ) (low : c < w.site.category.objects) (inside : i < length (tuples w Γ c)) where
  abbrev pub R : Functor
  R = functor_at store.sealed context

  abbrev sources : List ℕ
  sources = get_or stages.sources c []

  abbrev restrictions : List ℕ
  restrictions = restrictions_at R c i

  abbrev at : ℕ → ℕ
  at j = source w (arrow_at w.site c j)

  -- the number of the restriction along the arrow at place j
  abbrev pub to : ℕ → ℕ
  to j = get_or (restrictions_at (functor_at store.sealed context) c i) j 0

  module _ (j : ℕ) (there : j < length (onto w c)) where
    d_low : at j < w.site.category.objects
    d_low = domain_low w Γ stages store context sizes known c j low there

    pub to_within : to j < length (tuples w Γ (source w (arrow_at w.site c j)))
    to_within = (tuples_are w Γ stages store context sizes known).within c i j low inside there

    pub to_is : tuple_at w Γ (source w (arrow_at w.site c j)) (to j) ≡ along w (arrow_at w.site c j) (tuple_at w Γ c i)
    to_is = (tuples_are w Γ stages store context sizes known).restricted c i j low inside there

    is_source : get_or sources j 0 ≡ at j
    is_source = source_at w Γ stages store context sizes known c j low there

    width : get_or widths (get_or sources j 0) 0 ≡ length (values w S (at j))
    width = ap (λ d. get_or widths d 0) is_source ∙ width_at w S widths variable (at j) d_low

    row : get_or body (get_or sources j 0) [] ≡ get_or body (at j) []
    row = ap (λ d. get_or body d []) is_source

    row_long : length (get_or body (at j) []) ≡ length (tuples w Γ (at j)) * length (values w S (at j))
    row_long = over.tuples (at j) (let l = counts_long w (S ∷ Γ) in omega (arith, d_low, l)) ∙ counts_at w (S ∷ Γ) (at j) d_low ∙ more_tuples w Γ S (at j)

    -- the numbers behind the restriction
    abbrev here : List ℕ
    here = block (length (values w S (at j))) (to j) (get_or body (at j) [])

    behind_is : behind sources restrictions widths body j ≡ here
    behind_is = ap (λ m. block m (to j) (get_or body (get_or sources j 0) [])) width ∙ ap (block (length (values w S (at j))) (to j)) row

    here_long : length here ≡ length (values w S (at j))
    here_long =
        let m = length (values w S (at j)) in
        length-take-le m (drop (to j * m) (get_or body (at j) [])) (omega (arith, length-drop (to j * m) (get_or body (at j) []), row_long, block_within (to j) (length (tuples w Γ (at j))) m to_within))

    here_at : (x : ℕ) → x < length (values w S (at j)) → get_or here x 0 ≡ number body (at j) (to j * length (values w S (at j)) + x)
    here_at x low' =
        let m = length (values w S (at j)) in
        get_or-take m (drop (to j * m) (get_or body (at j) [])) x 0 low' ∙ get_or-drop (to j * m) (get_or body (at j) []) x 0

    pub number_within : (x : ℕ) → x < length (values w S (source w (arrow_at w.site c j))) → to j * length (values w S (source w (arrow_at w.site c j))) + x < length (tuples w (S ∷ Γ) (source w (arrow_at w.site c j)))
    number_within x low' = subst (λ n. to j * length (values w S (at j)) + x < n) (sym (more_tuples w Γ S (at j))) (block_ends (to j) (length (tuples w Γ (at j))) (length (values w S (at j))) x to_within low')

    pub number_tuple : (x : ℕ) → x < length (values w S (source w (arrow_at w.site c j))) →
        tuple_at w (S ∷ Γ) (source w (arrow_at w.site c j)) (to j * length (values w S (source w (arrow_at w.site c j))) + x)
        ≡ (S, get_or (values w S (source w (arrow_at w.site c j))) x Star) ∷ along w (arrow_at w.site c j) (tuple_at w Γ c i)
    number_tuple x low' = more_at w Γ S (at j) (to j) x to_within low' ∙ ap (λ a. (S, get_or (values w S (at j)) x Star) ∷ a) to_is

  arrows_long : length sources ≡ length (onto w c)
  arrows_long = sources_at w Γ stages store context sizes known c low

  pub blocks : HasBlocks (get_or stages.sources c []) (restrictions_at (functor_at store.sealed context) c i) widths body
  blocks = record {
    objects = λ j inside'.
        let there : j < length (onto w c) = omega (arith, inside', arrows_long) in
        let s = is_source j there in
        let d = d_low j there in
        (omega (arith, s, d, widths_long w S widths variable), let l = over.objects in let k = counts_long w (S ∷ Γ) in omega (arith, s, d, l, k));
    entries = λ j inside'.
        let there : j < length (onto w c) = omega (arith, inside', arrows_long) in
        subst (λ m. to j * m + m ≤ length (get_or body (get_or sources j 0) [])) (sym (width j there))
        (subst (λ l. to j * length (values w S (at j)) + length (values w S (at j)) ≤ length l) (sym (row j there))
        (subst (λ n. to j * length (values w S (at j)) + length (values w S (at j)) ≤ n) (sym (row_long j there))
        (block_within (to j) (length (tuples w Γ (at j))) (length (values w S (at j))) (to_within j there))));
  }

  abbrev at_arrow : ℕ → List Entry
  at_arrow f = map (λ v. record { arrow = f; val = v }) (values w S (source w f))

  -- the places, arrow by arrow
  places_by_number : places w.site (values w S) c ≡ flat_map (λ j. at_arrow (arrow_at w.site c j)) (range_with_len 0 (length sources))
  unfolding places
  places_by_number =
      ap (flat_map at_arrow) (fill_by_all (arrow_at w.site c) (onto w c) (length (onto w c)) 0 refl (λ j there. refl))
      ∙ joined_map (arrow_at w.site c) (range_with_len 0 (length (onto w c)))
      ∙ ap (λ n. flat_map (λ j. at_arrow (arrow_at w.site c j)) (range_with_len 0 n)) (sym arrows_long)
    where
      joined_map : (h : ℕ → ℕ) (js : List ℕ) → flat_map at_arrow (map h js) ≡ flat_map (λ j. at_arrow (h j)) js
      joined_map h [] = refl
      joined_map h (j ∷ js) = ap (λ l. at_arrow (h j) ++ l) (joined_map h js)

  -- the row has its relation to the places where the numbers of the body have it
  pub row_against : (P : Entry → ℕ → Type 0) →
      ((j x : ℕ) → j < length (onto w c) → x < length (values w S (source w (arrow_at w.site c j))) →
      P (entry (arrow_at w.site c j) (get_or (values w S (source w (arrow_at w.site c j))) x Star)) (number body (source w (arrow_at w.site c j)) (to j * length (values w S (source w (arrow_at w.site c j))) + x))) →
      Matches P (places w.site (values w S) c) (row_of (get_or stages.sources c []) (restrictions_at (functor_at store.sealed context) c i) widths body)
  row_against P each =
      subst (λ l. Matches P l (row_of sources restrictions widths body)) (sym places_by_number)
      (matches_joined P (λ j. at_arrow (arrow_at w.site c j)) (behind sources restrictions widths body) (range_with_len 0 (length sources)) (λ j m.
      let r = In-range_from 0 (length sources) j m in
      let there : j < length (onto w c) = omega (arith, r.1, arrows_long) in
      subst (Matches P (at_arrow (arrow_at w.site c j))) (sym (behind_is j there))
      (matches_from P (at_arrow (arrow_at w.site c j)) (here j there) (entry 0 Star) 0 (length-map (values w S (at j)) _ ∙ sym (here_long j there)) (λ x low'.
      let x' : x < length (values w S (at j)) = omega (arith, low', length-map (values w S (at j)) (λ v. entry (arrow_at w.site c j) v)) in
      subst (λ e. P e (get_or (here j there) x 0)) (sym (mapped_at (λ v. entry (arrow_at w.site c j) v) (values w S (at j)) x Star (entry 0 Star) x'))
      (subst (P (entry (arrow_at w.site c j) (get_or (values w S (at j)) x Star))) (sym (here_at j there x x')) (each j x there x'))))))
