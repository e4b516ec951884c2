-- Formulas over declared maps: what they count is the same with more maps; and where the presheaves that they name are sheaves, so are all their types.
use Rattle.std.proofs.Common.{◌≡◌, ℕ, zero, suc, ◌<◌, Bool, true, false, not, inl, inr, List, [], ◌∷◌, ◌++◌, length, reverse, None, refl, sym, ap, subst, slice_index_or, arith, is_none, ◌&&◌, Option, Some}
use Rattle.std.specs.List.{All, flat_map, list_any, list_all, range_with_len}
use Rattle.std.proofs.lemmas.Bool.{and_parts, eq-eqb}
use Rattle.std.proofs.lemmas.List.{reverse-append, length-map}
use Rattle.finite_lists.specs.Members.{In}
use Rattle.finite_lists.specs.First.{some_if}
use Rattle.finite_lists.proofs.DistinctLists.{In-range}
use Rattle.finite_lists.proofs.FirstAnswers.{first_none_each, some_if-false}
use Rattle.topos_model.specs.declared.fault.Fault.TheVariants.{NotASheaf}
use denote.Hole.Carrier
use Rattle.topos_model.specs.declared.ty.Ty.TheBlock.{hidden-the_row-Ty-0}
use Rattle.finite_lists.proofs.Lists.{all_each, each_all, some_any, In-append_left, In-append_right, In-append_cases, In-flat_map, In-flat_map_from}
use Rattle.topos_model.specs.declared.ty.Ty.{Ty, Base, One, Omega, Two', Pow', Fun', more_of-Ty as one, end_of-Ty as last}
use Rattle.topos_model.specs.declared.term.Term.{Term}
use Rattle.topos_model.specs.declared.context.Ctx.{Ctx}
use Rattle.topos_model.specs.declared.context.MapTy.{MapTy}
use Rattle.topos_model.specs.declared.context.MapTable.{MapTable}
use Rattle.topos_model.specs.declared.stmt.Stmt.{Stmt}
use Rattle.topos_model.specs.declared.stmt.Stmt.TheVariants.{Presheaf as PresheafStmt, Map, Product, Coproduct, Equalizer, Coequalizer, Pullback, Pushout, Image, Empty, Sheaf, Hom, Build, Sub, Let, Show, Classify, Valid}
use Rattle.topos_model.specs.topologies.Cover.{Site}
use Rattle.topos_model.specs.topologies.Sheaves.{IsSheaf, OfSheaves, sheaf_fault}
use Rattle.topos_model.specs.Laws.{IsCategory, IsTopology}
use Rattle.topos_model.specs.types.Types.{Presheaf, functor}
use Rattle.topos_model.specs.formulas.Typing.{typed}
use Rattle.topos_model.specs.statements.Needs.{parts, found, product, is_functor, first_no_sheaf, subterms, term_needs, terms_of, types_of, needs}
use Rattle.term_ranges.specs.Ranges.{is_type_in_range, is_term_in_range}
use Rattle.term_ranges.specs.RangeLaws.{are_ends_in_range}
use Rattle.term_ranges.proofs.StableTerms.{needs_stable}
use Rattle.term_ranges.proofs.NamedTypes.{names_in_range}
use Rattle.sheaf_test.proofs.LeastCoverFamilies.{faultless_sheaf}
use Rattle.formula_answers.specs.MapTables.{ends_of, AreMapTables}
use Rattle.topos_session.specs.Ranges.{is_formula_in_range, is_in_range}
use Rattle.topos_session.specs.Built.{is_built}
use Rattle.topos_session.specs.Functors.{AreFunctors, functor_at}

pub In-reverse : {A : Type 0} (xs : List A) (x : A) → In (reverse xs) x → In xs x
In-reverse [] x i = i
In-reverse (y ∷ xs) x i =
    elim (In-append_cases (reverse xs) (y ∷ []) x (rw (reverse-append (y ∷ []) xs) at i)) [
      | inl l ↦ inr (In-reverse xs x l)
      | inr r ↦ elim r [ inl e ↦ inl e | inr none ↦ absurd none ]
    ]

-- the ends of lawful tables are in range
module _ (s : Site) (functors : List Presheaf) where
  ends_in_range : (tables : List MapTable) → AreMapTables s functors tables → list_all (are_ends_in_range (length functors)) (ends_of tables) ≡ true
  ends_in_range [] are = refl
  ends_in_range (m ∷ tables) are =
      let first = are 0 (omega arith) in
      rw (first.domain, first.codomain, ends_in_range tables (λ n low. are (suc n) (omega (arith, low)))) refl

  -- the presheaves that a term over a context needs, both in range, are declared
  pub names_declared : (tables : List MapTable) → AreMapTables s functors tables → (Γ : List Ty) (t : Term) → list_all (is_type_in_range (length functors)) Γ ≡ true →
      is_term_in_range (length functors) (length tables) t ≡ true → (m : ℕ) → In (term_needs (ends_of tables) Γ t) (Base m) → m < length functors
  names_declared tables are Γ t context range m i =
      let n = length functors in
      names_in_range n (ends_of tables) (ends_in_range tables are) Γ t (subst (λ l. is_term_in_range n l t ≡ true) (sym (length-map tables (λ m. m.ends))) range) context m i

-- the context and the term of a formula are in range
pub context_range : (n l : ℕ) (ctx : Ctx) (φ : Term) → is_formula_in_range n l ctx φ ≡ true → list_all (is_type_in_range n) (reverse ctx.types) ≡ true
unfolding is_formula_in_range
context_range n l ctx φ range = each_all (is_type_in_range n) (reverse ctx.types) (λ T j. all_each (is_type_in_range n) ctx.types T (and_parts _ _ range).0 (In-reverse ctx.types T j))

pub formula_over_one : (n l : ℕ) (ctx : Ctx) (T : Ty) (φ : Term) → ctx.types ≡ T ∷ [] → is_type_in_range n T ≡ true → is_term_in_range n l φ ≡ true → is_formula_in_range n l ctx φ ≡ true
unfolding is_formula_in_range
formula_over_one n l ctx T φ types type term = rw (types, type, term) refl

pub formula_range : (n l : ℕ) (ctx : Ctx) (φ : Term) → is_formula_in_range n l ctx φ ≡ true → is_term_in_range n l φ ≡ true
unfolding is_formula_in_range
formula_range n l ctx φ range = (and_parts _ _ range).1

-- a type is of sheaves where the presheaves that it names are sheaves
module _ (s : Site) (functors : List Presheaf) where
  of_sheaves : (T : Ty) → ((m : ℕ) → In (parts T) (Base m) → IsSheaf s (functor s functors m)) → OfSheaves s functors T
  unfolding parts
  of_sheaves (Base n) all = all n (inl refl)
  of_sheaves One all = tt
  of_sheaves Omega all = tt
  of_sheaves (Two' _ (one S last) _ (one T last)) all = (of_sheaves S (λ m i. all m (inr (In-append_left (parts S) (parts T) (Base m) i))), of_sheaves T (λ m i. all m (inr (In-append_right (parts S) (parts T) (Base m) i))))
  of_sheaves (Pow' _ (one T last)) all = of_sheaves T (λ m i. all m (inr i))
  of_sheaves (Fun' _ (one S last) _ (one T last)) all = (of_sheaves S (λ m i. all m (inr (In-append_left (parts S) (parts T) (Base m) i))), of_sheaves T (λ m i. all m (inr (In-append_right (parts S) (parts T) (Base m) i))))

-- the parts of a part are parts
part_of_part : (T U V : Ty) → In (parts T) U → In (parts U) V → In (parts T) V
unfolding parts
part_of_part (Base n) U V i j = elim i [ inl e ↦ subst (λ W. In (parts W) V) (sym e) j | inr none ↦ absurd none ]
part_of_part One U V i j = elim i [ inl e ↦ subst (λ W. In (parts W) V) (sym e) j | inr none ↦ absurd none ]
part_of_part Omega U V i j = elim i [ inl e ↦ subst (λ W. In (parts W) V) (sym e) j | inr none ↦ absurd none ]
part_of_part (Two' a (one S last) b (one T last)) U V i j = elim i [
  | inl e ↦ subst (λ W. In (parts W) V) (sym e) j
  | inr r ↦ elim (In-append_cases (parts S) (parts T) U r) [
    | inl l ↦ inr (In-append_left (parts S) (parts T) V (part_of_part S U V l j))
    | inr m ↦ inr (In-append_right (parts S) (parts T) V (part_of_part T U V m j))
  ]
]
part_of_part (Pow' a (one T last)) U V i j = elim i [ inl e ↦ subst (λ W. In (parts W) V) (sym e) j | inr r ↦ inr (part_of_part T U V r j) ]
part_of_part (Fun' a (one S last) b (one T last)) U V i j = elim i [
  | inl e ↦ subst (λ W. In (parts W) V) (sym e) j
  | inr r ↦ elim (In-append_cases (parts S) (parts T) U r) [
    | inl l ↦ inr (In-append_left (parts S) (parts T) V (part_of_part S U V l j))
    | inr m ↦ inr (In-append_right (parts S) (parts T) V (part_of_part T U V m j))
  ]
]

-- with a type a term counts its parts
needed_part : (maps : List MapTy) (Γ : List Ty) (t : Term) (U V : Ty) → In (term_needs maps Γ t) U → In (parts U) V → In (term_needs maps Γ t) V
unfolding term_needs
needed_part maps Γ t U V i j =
    let counted = flat_map (λ s. found (typed maps s.0 s.1) ++ product s.0 ∷ s.0) (subterms Γ t) in
    let (T, m, p) = In-flat_map_from parts counted U i in
    In-flat_map parts counted T V m (part_of_part T U V p j)

is_functor-Base : (m : ℕ) → is_functor m (Base m) ≡ true
unfolding hidden-the_row-Ty-0 Carrier.hidden
is_functor-Base m = eq-eqb m m refl

-- what holds of each member holds at each place
All-more : {A : Type 0} (P : A → Type 0) (x : A) (xs : List A) → P x → All P xs → All P (x ∷ xs)
All-more {A} P x xs h rest = at
  where
    at : (k : ℕ) (d : A) → k < length (x ∷ xs) → P (slice_index_or (x ∷ xs) k d)
    at zero d low = h
    at (suc k) d low = rest k d (omega (arith, low))

All-members : {A : Type 0} (P : A → Type 0) (xs : List A) → ((x : A) → In xs x → P x) → All P xs
All-members P [] h = λ k d low. absurd (omega (arith, low))
All-members P (x ∷ xs) h = All-more P x xs (h x (inl refl)) (All-members P xs (λ y i. h y (inr i)))

-- where none of the presheaves that a term names has a fault as a sheaf
module _ (s : Site) (lawful : IsCategory s.category) (top : IsTopology s) (functors : List Presheaf) (are : AreFunctors s.category functors) (maps : List MapTy) (Γ : List Ty) (t : Term)
    (named : (m : ℕ) → In (term_needs maps Γ t) (Base m) → m < length functors)
    (none : first_no_sheaf (λ n. is_none (sheaf_fault s (functor_at functors n))) (length functors) (term_needs maps Γ t) ≡ None) where
  passes : (b c : Bool) → b ≡ true → (b && not c) ≡ false → c ≡ true
  passes true true e f = refl
  passes true false e f = cc
  passes false c e f = cc

  nothing_found : {A : Type 0} (o : Option A) → is_none o ≡ true → o ≡ None
  nothing_found None e = refl
  nothing_found (Some x) e = cc

  each_sheaf : (m : ℕ) → In (term_needs maps Γ t) (Base m) → IsSheaf s (functor s functors m)
  each_sheaf m i =
      let low = named m i in
      let one = first_none_each (λ n. some_if (list_any (is_functor n) (term_needs maps Γ t) && not (is_none (sheaf_fault s (functor_at functors n)))) (NotASheaf n)) (range_with_len 0 (length functors)) m none (In-range 0 (length functors) m (omega arith) (omega (arith, low))) in
      faultless_sheaf s lawful top (functor s functors m) (are m low)
      (nothing_found _ (passes (list_any (is_functor m) (term_needs maps Γ t)) _ (some_any (is_functor m) (term_needs maps Γ t) (Base m) i (is_functor-Base m)) (some_if-false _ _ one)))

  pub needs_sheaves : All (OfSheaves s functors) (term_needs maps Γ t)
  needs_sheaves = All-members (OfSheaves s functors) (term_needs maps Γ t) (λ T i. of_sheaves s functors T (λ m j. each_sheaf m (needed_part maps Γ t T (Base m) i j)))

-- a formula in range counts the same with more maps
formula_stable : (maps more : List MapTy) (n : ℕ) (ctx : Ctx) (φ : Term) → is_formula_in_range n (length maps) ctx φ ≡ true → (term_needs (maps ++ more) (reverse ctx.types) φ ++ []) ≡ (term_needs maps (reverse ctx.types) φ ++ [])
unfolding is_formula_in_range
formula_stable maps more n ctx φ range = ap (λ l. l ++ []) (needs_stable n maps more (reverse ctx.types) φ (and_parts _ _ range).1)

-- so does each statement that is run
pub needs_settled : (maps more : List MapTy) (objects : ℕ) (ends : List (ℕ × ℕ)) (n : ℕ) (stmt : Stmt) → is_in_range objects ends n (length maps) stmt ≡ true → is_built stmt ≡ true → needs (maps ++ more) stmt ≡ needs maps stmt
unfolding needs types_of terms_of is_in_range is_built
needs_settled maps more objects ends n (Show under ctx φ) range built = formula_stable maps more n ctx φ range
needs_settled maps more objects ends n (Classify under ctx φ) range built = formula_stable maps more n ctx φ range
needs_settled maps more objects ends n (Valid under ctx φ) range built = formula_stable maps more n ctx φ range
needs_settled maps more objects ends n (Let under m T t) range built = ap (λ l. l ++ []) (needs_stable n maps more (T ∷ []) t (and_parts _ _ range).1)
needs_settled maps more objects ends n (Build under z T u v) range built = refl
needs_settled maps more objects ends n (Sub under z T φ i) range built = ap (λ l. l ++ []) (needs_stable n maps more (T ∷ []) φ (and_parts _ _ range).1)
needs_settled maps more objects ends n (PresheafStmt functor raw) range built = refl
needs_settled maps more objects ends n (Map m x y raw) range built = refl
needs_settled maps more objects ends n (Product x y z p q) range built = refl
needs_settled maps more objects ends n (Coproduct x y z p q) range built = refl
needs_settled maps more objects ends n (Equalizer m m' z i) range built = refl
needs_settled maps more objects ends n (Coequalizer m m' z i) range built = refl
needs_settled maps more objects ends n (Pullback m m' z p q) range built = refl
needs_settled maps more objects ends n (Pushout m m' z p q) range built = refl
needs_settled maps more objects ends n (Image m z e j) range built = refl
needs_settled maps more objects ends n (Empty z) range built = refl
needs_settled maps more objects ends n (Sheaf under x) range built = refl
needs_settled maps more objects ends n (Hom x y) range built = refl
needs_settled maps more objects ends n _ range built = cc
