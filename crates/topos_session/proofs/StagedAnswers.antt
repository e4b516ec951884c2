-- The refusals and the answers of the statements that are run are those of the run.
use Rattle.std.proofs.Common.{◌≡◌, ℕ, ◌<◌, Bool, true, false, not, ◌&&◌, eqb, List, [], ◌∷◌, ◌++◌, map, reverse, length, Option, Some, None, Ok, refl, sym, ap, ap₂, ◌∙◌, subst}
use Rattle.std.proofs.lemmas.Bool.{true≢false, and_parts, eqb-true, ltb-true}
use Rattle.std.proofs.lemmas.List.{map-append}
use Rattle.finite_lists.specs.First.{or_else, some_if}
use denote.Hole.Carrier
use Rattle.topos_model.specs.declared.ty.Ty.{Ty, Base}
use Rattle.topos_model.specs.declared.ty.Ty.TheBlock.{hidden-the_row-Ty-0}
use Rattle.topos_model.specs.declared.context.Ctx.{Ctx}
use Rattle.topos_model.specs.declared.context.MapTy.{MapTy}
use Rattle.topos_model.specs.declared.context.MapTable.{MapTable}
use Rattle.topos_model.specs.declared.value.Val.{Val}
use Rattle.topos_model.specs.declared.term.Term.{Term}
use Rattle.topos_model.specs.declared.raw.RawFunctor.{RawFunctor}
use Rattle.topos_model.specs.declared.raw.RawMap.{RawMap}
use Rattle.topos_model.specs.declared.doc.Doc.{Doc}
use Rattle.topos_model.specs.declared.stmt.Stmt.{Stmt}
use Rattle.topos_model.specs.declared.stmt.Stmt.TheVariants.{Presheaf, Map, Product, Coproduct, Equalizer, Coequalizer, Pullback, Pushout, Image, Empty, Sheaf, Hom, Build, Sub, Let, Show, Classify, Valid}
use Rattle.topos_model.specs.declared.answer.Answer.{Answer}
use Rattle.topos_model.specs.declared.answer.Answer.TheVariants.{Built, Shown, Classified, Verdict}
use Rattle.topos_model.specs.declared.fault.Fault.{Fault}
use Rattle.topos_model.specs.declared.fault.Fault.TheVariants.{NotBuilt, NotParallel}
use Rattle.topos_model.specs.categories.Category.{Category}
use Rattle.topos_model.specs.types.Types.{Presheaf as Functor}
use Rattle.topos_model.specs.topologies.Cover.{Site}
use Rattle.topos_model.specs.topologies.Sheaves.{sheaf_fault}
use Rattle.topos_model.specs.presheaves.Maps.{Components}
use Rattle.topos_model.specs.presheaves.MapFaults.{listed_map}
use Rattle.topos_model.specs.presheaves.Limits.{IsEqualizer, IsPullback, IsImage}
use Rattle.topos_model.specs.presheaves.Colimits.{IsCoequalizer, IsPushout}
use Rattle.topos_model.specs.categories.Filling.{filled_category, filled_presheaf}
use Rattle.topos_model.specs.types.SameType.{same_type}
use Rattle.topos_model.specs.statements.Needs.{named, under, terms_of, types_of}
use Rattle.topos_model.specs.statements.Cells.{is_named, objects_of}
use Rattle.topos_model.specs.statements.StatementFaults.{foreign_map_fault, typing_fault}
use Rattle.topos_model.specs.formulas.Typing.{typed}
use Rattle.topos_model.specs.formulas.Forcing.{World, values, shown}
use Rattle.formula_answers.specs.MapTables.{ends_of, table_at}
use Rattle.formula_answers.specs.Formulas.{world_of}
use Rattle.topos_model.specs.statements.Declarations.{Declared, DeclaredMap, category_of, site_of, map_ends, world_under, functor_at, ends_at, domain_at, codomain_at, components_at}
use Rattle.topos_model.specs.statements.Answers.{tuple_of, type_found, values_of, satisfying, numbers_with, with_numbers, unforced, classified, sheaf_answer, shape_of, map_shape, map_under, functor_map, Makes, Answers}
use Rattle.topos_model.specs.statements.Refusals.{foreign_refusal, term_refusal, ends_fit, refusal, late_refusal, IsRefusal}
use Rattle.topos_session.specs.Ranges.{is_in_range}
use Rattle.topos_session.specs.Built.{is_built}
use Rattle.sealed_world.specs.SealedWorlds as world
use Rattle.topos_session.specs.declared.declarations.Declarations.{Declarations}
use Rattle.topos_session.specs.Declarations.{declared_between, declared_map, with_counted, AreLawful}
use Rattle.topos_session.specs.Declarations as session
use Rattle.topos_session.specs.Constructions.{is_construction, between, between_functors, from, to, table, fit}
use Rattle.topos_session.specs.Elements.{type_elements, type_maps, part_elements, part_maps, MakesElements}
use Rattle.topos_session.specs.Statements.{AnswersOver, Builds, refusal_in_turn, refusal_over}
use Rattle.topos_session.proofs.MadeFunctors.{named_is, first_of_three, maps_declared, equalizer_range, coequalizer_range, pullback_range, pushout_range, image_range}
use Rattle.topos_session.proofs.LawfulDeclarations.{natural_between, declared_later}
use Rattle.topos_session.proofs.DeclaredMaps.{ends_are, domain_is, codomain_is, table_is, no_sheaf_asked, build_refusal, sub_refusal, let_refusal, show_refusal, classify_refusal, valid_refusal, ends_known, world_is}

-- tests that are the same where others pass
both_same : (a b c d p q r s : Bool) → (a ≡ true → c ≡ true → p ≡ q) → (b ≡ true → d ≡ true → r ≡ s) → (a && b && (c && d) && p && r) ≡ (a && b && (c && d) && (q && s))
both_same true true true true p q r s e f = ap₂ (λ x y. x && y) (e refl refl) (f refl refl)
both_same true true true false p q r s e f = refl
both_same true true false d p q r s e f = refl
both_same true false c d p q r s e f = refl
both_same false b c d p q r s e f = refl

last_same : (a b c d r s : Bool) → (b ≡ true → d ≡ true → r ≡ s) → (a && b && (c && d) && r) ≡ (a && b && (c && d) && s)
last_same true true true true r s f = f refl refl
last_same true true true false r s f = refl
last_same true true false d r s f = refl
last_same true false c d r s f = refl
last_same false b c d r s f = refl

first_same : (a b c d p q : Bool) → (a ≡ true → c ≡ true → p ≡ q) → (a && b && (c && d) && p) ≡ (a && b && (c && d) && q)
first_same true true true true p q e = e refl refl
first_same true true true false p q e = refl
first_same true true false d p q e = refl
first_same true false c d p q e = refl
first_same false b c d p q e = refl

-- the refusals and the answers of the statements that are run
module _ (doc : Doc) (so : Declarations) (site : so.world.site ≡ site_of doc 0) (lawful : AreLawful (filled_category doc.cat) so)
    (types : List (ℕ × List Ty)) where
  abbrev k : Category
  k = filled_category doc.cat

  abbrev d : Declared
  d = with_counted so types

  abbrev fs : List Functor
  fs = so.world.functors

  abbrev Ranged : Stmt → Type 0
  Ranged stmt = is_in_range k.objects k.ends (length fs) (length so.maps) stmt ≡ true

  unrefused : (stmt : Stmt) → types_of (map_ends d) stmt ≡ [] → foreign_refusal doc d stmt ≡ None → typing_fault (map_ends d) stmt ≡ None → term_refusal doc d stmt ≡ None
  unfolding term_refusal
  unrefused stmt none foreign typing = rw (foreign, typing, no_sheaf_asked doc so types stmt none) refl

  fits : (b : Bool) → or_else (some_if (not b) NotParallel) None ≡ some_if (not b) NotParallel
  fits true = refl
  fits false = refl

  same_fit : (stmt : Stmt) → term_refusal doc d stmt ≡ None → (b : Bool) → ends_fit doc d stmt ≡ b → or_else (some_if (not (ends_fit doc d stmt)) NotParallel) (term_refusal doc d stmt) ≡ some_if (not b) NotParallel
  same_fit stmt accepted b e = rw (accepted, e) (fits b)

  -- of types that are named, the same type is the same functor
  named_same : (S T : Ty) → is_named S ≡ true → is_named T ≡ true → same_type S T ≡ eqb (named S) (named T)
  unfolding is_named named same_type hidden-the_row-Ty-0 Carrier.hidden
  named_same S T s t = rw (named_is S s, named_is T t) refl

  -- the ends of two maps
  module _ (m n : ℕ) (first : m < length so.maps) (second : n < length so.maps) where
    abbrev S : MapTy
    S = (table_at so.maps m).ends

    abbrev T : MapTy
    T = (table_at so.maps n).ends

    ends_here : (fits : MapTy → MapTy → Bool) → fits (ends_at d m) (ends_at d n) ≡ fits S T
    ends_here fits = ap₂ fits (ends_are doc so types m first) (ends_are doc so types n second)

    parallel_fit : (z i : ℕ) → ends_fit doc d (Equalizer m n z i) ≡ fit so.maps (Equalizer m n z i)
    unfolding ends_fit
    parallel_fit z i =
        ends_here (λ S T. is_named S.dom && is_named S.cod && (is_named T.dom && is_named T.cod) && same_type S.dom T.dom && same_type S.cod T.cod) ∙ both_same (is_named S.dom) (is_named S.cod) (is_named T.dom) (is_named T.cod) _ _ _ _ (named_same S.dom T.dom) (named_same S.cod T.cod)

    coparallel_fit : (z i : ℕ) → ends_fit doc d (Coequalizer m n z i) ≡ fit so.maps (Coequalizer m n z i)
    unfolding ends_fit
    coparallel_fit z i =
        ends_here (λ S T. is_named S.dom && is_named S.cod && (is_named T.dom && is_named T.cod) && same_type S.dom T.dom && same_type S.cod T.cod) ∙ both_same (is_named S.dom) (is_named S.cod) (is_named T.dom) (is_named T.cod) _ _ _ _ (named_same S.dom T.dom) (named_same S.cod T.cod)

    pullback_fit : (z p q : ℕ) → ends_fit doc d (Pullback m n z p q) ≡ fit so.maps (Pullback m n z p q)
    unfolding ends_fit
    pullback_fit z p q =
        ends_here (λ S T. is_named S.dom && is_named S.cod && (is_named T.dom && is_named T.cod) && same_type S.cod T.cod) ∙ last_same (is_named S.dom) (is_named S.cod) (is_named T.dom) (is_named T.cod) _ _ (named_same S.cod T.cod)

    pushout_fit : (z p q : ℕ) → ends_fit doc d (Pushout m n z p q) ≡ fit so.maps (Pushout m n z p q)
    unfolding ends_fit
    pushout_fit z p q =
        ends_here (λ S T. is_named S.dom && is_named S.cod && (is_named T.dom && is_named T.cod) && same_type S.dom T.dom) ∙ first_same (is_named S.dom) (is_named S.cod) (is_named T.dom) (is_named T.cod) _ _ (named_same S.dom T.dom)

  image_fit : (m z e j : ℕ) → m < length so.maps → ends_fit doc d (Image m z e j) ≡ fit so.maps (Image m z e j)
  unfolding ends_fit
  image_fit m z e j low = ap (λ (S : MapTy). is_named S.dom && is_named S.cod) (ends_are doc so types m low)

  -- a statement that is run is refused in the run as it is here
  pub refusal_is : (stmt : Stmt) → Ranged stmt → is_built stmt ≡ true → refusal doc d stmt ≡ refusal_over k so stmt
  unfolding refusal category_of ends_fit foreign_refusal foreign_map_fault terms_of typing_fault types_of is_construction is_built is_in_range
  refusal_is (Presheaf functor raw) range built = refl
  refusal_is (Map m x y raw) range built = refl
  refusal_is (Sheaf under x) range built = same_fit (Sheaf under x) (unrefused (Sheaf under x) refl refl refl) true refl ∙ sym (ap (λ b. some_if (not b) NotBuilt) built)
  refusal_is (Hom x y) range built = same_fit (Hom x y) (unrefused (Hom x y) refl refl refl) true refl
  refusal_is (Product x y z p q) range built = same_fit _ (unrefused (Product x y z p q) refl refl refl) true refl
  refusal_is (Coproduct x y z p q) range built = same_fit _ (unrefused (Coproduct x y z p q) refl refl refl) true refl
  refusal_is (Empty z) range built = same_fit _ (unrefused (Empty z) refl refl refl) true refl
  refusal_is (Image m z e j) range built =
      same_fit _ (unrefused (Image m z e j) refl refl refl) _ (image_fit m z e j (image_range k.objects k.ends (length fs) (length so.maps) m z e j range).1)
  refusal_is (Equalizer m n z i) range built =
      let w = equalizer_range k.objects k.ends (length fs) (length so.maps) m n z i range in
      same_fit _ (unrefused (Equalizer m n z i) refl refl refl) _ (parallel_fit m n w.first w.second z i)
  refusal_is (Coequalizer m n z i) range built =
      let w = coequalizer_range k.objects k.ends (length fs) (length so.maps) m n z i range in
      same_fit _ (unrefused (Coequalizer m n z i) refl refl refl) _ (coparallel_fit m n w.first w.second z i)
  refusal_is (Pullback m n z p q) range built =
      let w = pullback_range k.objects k.ends (length fs) (length so.maps) m n z p q range in
      same_fit _ (unrefused (Pullback m n z p q) refl refl refl) _ (pullback_fit m n w.first w.second z p q)
  refusal_is (Pushout m n z p q) range built =
      let w = pushout_range k.objects k.ends (length fs) (length so.maps) m n z p q range in
      same_fit _ (unrefused (Pushout m n z p q) refl refl refl) _ (pushout_fit m n w.first w.second z p q)
  refusal_is (Show under ctx φ) range built = show_refusal doc so types site under (eqb-true under 0 built) ctx φ
  refusal_is (Classify under ctx φ) range built = classify_refusal doc so types site under (eqb-true under 0 built) ctx φ
  refusal_is (Valid under ctx φ) range built = valid_refusal doc so types site under (eqb-true under 0 built) ctx φ
  refusal_is (Build under z T u v) range built = build_refusal doc so types site under (eqb-true under 0 built) z T u v
  refusal_is (Sub under z T φ i) range built = sub_refusal doc so types site under (eqb-true under 0 built) z T φ i
  refusal_is (Let under m T t) range built = let_refusal doc so types site under (eqb-true under 0 built) m T t
  refusal_is _ range built = cc

  -- a statement that is run has its refusal for itself, and none that waits
  pub as_refusal : (stmt : Stmt) (o : Option Fault) → is_built stmt ≡ true → refusal doc d stmt ≡ o → IsRefusal doc d stmt o
  unfolding is_built
  as_refusal (Presheaf functor raw) o built e = sym e
  as_refusal (Map m x y raw) o built e = sym e
  as_refusal (Product x y z p q) o built e = sym e
  as_refusal (Coproduct x y z p q) o built e = sym e
  as_refusal (Equalizer m n z i) o built e = sym e
  as_refusal (Coequalizer m n z i) o built e = sym e
  as_refusal (Pullback m n z p q) o built e = sym e
  as_refusal (Pushout m n z p q) o built e = sym e
  as_refusal (Image m z l j) o built e = sym e
  as_refusal (Empty z) o built e = sym e
  as_refusal (Sheaf under x) o built e = sym e
  as_refusal (Hom x y) o built e = sym e
  as_refusal (Show under ctx φ) o built e = sym e
  as_refusal (Classify under ctx φ) o built e = sym e
  as_refusal (Valid under ctx φ) o built e = sym e
  as_refusal (Build under z T u v) o built e = sym e
  as_refusal (Sub under z T φ i) o built e = sym e
  as_refusal (Let under m T t) o built e = sym e
  as_refusal _ o built e = cc

  pub no_late_refusal : (stmt : Stmt) (types : List (ℕ × List Ty)) → is_built stmt ≡ true → late_refusal doc (with_counted so types) stmt ≡ None
  unfolding is_built late_refusal
  no_late_refusal (Presheaf functor raw) types built = refl
  no_late_refusal (Map m x y raw) types built = refl
  no_late_refusal (Product x y z p q) types built = refl
  no_late_refusal (Coproduct x y z p q) types built = refl
  no_late_refusal (Equalizer m n z i) types built = refl
  no_late_refusal (Coequalizer m n z i) types built = refl
  no_late_refusal (Pullback m n z p q) types built = refl
  no_late_refusal (Pushout m n z p q) types built = refl
  no_late_refusal (Image m z e j) types built = refl
  no_late_refusal (Empty z) types built = refl
  no_late_refusal (Sheaf under x) types built = refl
  no_late_refusal (Hom x y) types built = refl
  no_late_refusal (Show under ctx φ) types built = refl
  no_late_refusal (Classify under ctx φ) types built = refl
  no_late_refusal (Valid under ctx φ) types built = refl
  no_late_refusal (Build under z T u v) types built = refl
  no_late_refusal (Sub under z T φ i) types built = refl
  no_late_refusal (Let under m T t) types built = refl
  no_late_refusal _ types built = cc

  built_if : (b : Bool) (o : Option Fault) → or_else (some_if (not b) NotBuilt) o ≡ None → b ≡ true
  built_if true o e = refl
  built_if false o e = cc

  accepted_if : (b : Bool) → some_if (not b) NotBuilt ≡ None → b ≡ true
  accepted_if true e = refl
  accepted_if false e = cc

  -- what is accepted is run, and what is not run is refused as not built
  pub built_of : (stmt : Stmt) → refusal_over k so stmt ≡ None → is_built stmt ≡ true
  unfolding is_built is_construction refusal_in_turn
  built_of (Presheaf functor raw) accepted = refl
  built_of (Map m x y raw) accepted = refl
  built_of (Product x y z p q) accepted = refl
  built_of (Coproduct x y z p q) accepted = refl
  built_of (Equalizer m n z i) accepted = refl
  built_of (Coequalizer m n z i) accepted = refl
  built_of (Pullback m n z p q) accepted = refl
  built_of (Pushout m n z p q) accepted = refl
  built_of (Image m z e j) accepted = refl
  built_of (Empty z) accepted = refl
  built_of (Sheaf under x) accepted = accepted_if _ accepted
  built_of (Hom x y) accepted = refl
  built_of (Show under ctx φ) accepted = built_if _ _ accepted
  built_of (Classify under ctx φ) accepted = built_if _ _ accepted
  built_of (Valid under ctx φ) accepted = built_if _ _ accepted
  built_of (Build under z T u v) accepted = built_if _ _ accepted
  built_of (Sub under z T φ i) accepted = built_if _ _ accepted
  built_of (Let under m T t) accepted = built_if _ _ accepted
  built_of _ accepted = cc

  pub not_built_of : (stmt : Stmt) → is_built stmt ≡ false → refusal_over k so stmt ≡ Some NotBuilt
  unfolding is_built is_construction refusal_in_turn
  not_built_of (Presheaf functor raw) out = cc
  not_built_of (Map m x y raw) out = cc
  not_built_of (Product x y z p q) out = cc
  not_built_of (Coproduct x y z p q) out = cc
  not_built_of (Equalizer m n z i) out = cc
  not_built_of (Coequalizer m n z i) out = cc
  not_built_of (Pullback m n z p q) out = cc
  not_built_of (Pushout m n z p q) out = cc
  not_built_of (Image m z e j) out = cc
  not_built_of (Empty z) out = cc
  not_built_of (Sheaf under x) out = rw out refl
  not_built_of (Hom x y) out = cc
  not_built_of (Show under ctx φ) out = rw out refl
  not_built_of (Classify under ctx φ) out = rw out refl
  not_built_of (Valid under ctx φ) out = rw out refl
  not_built_of (Build under z T u v) out = rw out refl
  not_built_of (Sub under z T φ i) out = rw out refl
  not_built_of (Let under m T t) out = rw out refl
  not_built_of _ out = refl

  -- a functor that is made with its maps
  fused : (maps : List MapTable) → map (λ m. map_shape (declared_between m)) maps ≡ map map_shape (map declared_between maps)
  fused [] = refl
  fused (m ∷ maps) = ap (λ l. map_shape (declared_between m) ∷ l) (fused maps)

  -- a map between functors by its components
  between_is : (x y : ℕ) (m : Components) → declared_between (between x y m) ≡ functor_map x y m
  unfolding functor_map
  between_is x y m = refl

  -- what is declared behind a functor with its maps
  behind_functor : (Z : Functor) (maps : List MapTable) (more : List DeclaredMap) → map (declared_map (world.with_presheaf so.world Z)) maps ≡ more →
      with_counted (session.with_functor so Z maps) types ≡ record { functors = fs ++ Z ∷ []; maps = map (declared_map so.world) so.maps ++ more; cat_functors = []; on_functors = []; types = types; others = so.world.charges }
  behind_functor Z maps more e =
      ap (λ (l : List DeclaredMap). record { functors = fs ++ Z ∷ []; maps = l; cat_functors = []; on_functors = []; types = types; others = so.world.charges })
      (map-append (declared_map (world.with_presheaf so.world Z)) so.maps maps ∙ ap₂ (λ (x y : List DeclaredMap). x ++ y) (declared_later so.world Z so.maps lawful.maps) e)

  makes : (stmt : Stmt) (answer : Answer) (after : Declarations) (b : Builds k so stmt answer after) (maps : List DeclaredMap) → map declared_between b.maps ≡ maps →
      map (declared_map (world.with_presheaf so.world b.functor)) b.maps ≡ map declared_between b.maps → Makes doc d b.functor maps answer (with_counted after types)
  unfolding category_of
  makes stmt answer after b maps e declared =
      let Z = b.functor in (
        b.shown ∙ ap (Built (shape_of k Z)) (fused b.maps ∙ ap (map map_shape) e),
        ap (λ (so : Declarations). with_counted so types) b.declared ∙ behind_functor Z b.maps maps (declared ∙ e),
      )

  -- of one map and of two
  one_map : (maps : List MapTable) (x y : ℕ) (m : Components) → maps ≡ between x y m ∷ [] → map declared_between maps ≡ functor_map x y m ∷ []
  one_map maps x y m e = ap (map declared_between) e ∙ ap (λ a. a ∷ []) (between_is x y m)

  two_maps : (maps : List MapTable) (x y z w : ℕ) (m n : Components) → maps ≡ between x y m ∷ between z w n ∷ [] → map declared_between maps ≡ functor_map x y m ∷ functor_map z w n ∷ []
  two_maps maps x y z w m n e = ap (map declared_between) e ∙ ap₂ (λ a b. a ∷ b ∷ []) (between_is x y m) (between_is z w n)

  -- the answers, a form of statement at a time
  module _ (answer : Answer) (after : Declarations) where
    abbrev next : Declared
    next = with_counted after types

    presheaf_answers : (functor : ℕ) (raw : RawFunctor) → AnswersOver k so (Presheaf functor raw) answer after → Answers doc d (Presheaf functor raw) answer next
    unfolding category_of
    presheaf_answers functor raw over =
        let X = filled_presheaf k raw in (
          over.0,
          ap (λ (so : Declarations). with_counted so types) over.1
              ∙ ap (λ (l : List DeclaredMap). record { functors = fs ++ X ∷ []; maps = l; cat_functors = []; on_functors = []; types = types; others = so.world.charges }) (declared_later so.world X so.maps lawful.maps),
        )

    map_answers : (m x y : ℕ) (raw : RawMap) → Ranged (Map m x y raw) → AnswersOver k so (Map m x y raw) answer after → Answers doc d (Map m x y raw) answer next
    unfolding category_of is_in_range
    map_answers m x y raw range over =
        let l = listed_map k (functor_at d x) raw in
        let (first, _) = and_parts _ _ range in
        let (low, high) = and_parts _ _ first in
        let is = natural_between so.world.site fs k lawful.category lawful.functors x y l (ltb-true x (length fs) low) (ltb-true y (length fs) high) over.2 in (
          over.0,
          ap (λ (so : Declarations). with_counted so types) over.1
              ∙ ap (λ (l : List DeclaredMap). record { functors = fs; maps = l; cat_functors = []; on_functors = []; types = types; others = so.world.charges })
              (map-append (declared_map so.world) so.maps (between x y l ∷ []) ∙ ap (λ (p : List (List (Val × Val))). map (declared_map so.world) so.maps ++ map_under 0 (Base x) (Base y) p ∷ []) is.pairs
              ∙ ap (λ a. map (declared_map so.world) so.maps ++ a ∷ []) (between_is x y l)),
        )

    hom_answers : (x y : ℕ) → AnswersOver k so (Hom x y) answer after → Answers doc d (Hom x y) answer next
    unfolding category_of
    hom_answers x y over = (over.0, ap (λ (so : Declarations). with_counted so types) over.1)

    sheaf_answers : (under x : ℕ) → is_built (Sheaf under x) ≡ true → AnswersOver k so (Sheaf under x) answer after → Answers doc d (Sheaf under x) answer next
    unfolding category_of is_built
    sheaf_answers under x built over =
        let here : so.world.site ≡ site_of doc under = site ∙ ap (site_of doc) (sym (eqb-true under 0 built)) in
        (over.0 ∙ ap (λ (s : Site). sheaf_answer x (sheaf_fault s (functor_at d x))) here, ap (λ (so : Declarations). with_counted so types) over.1)

    show_answers : (under : ℕ) (ctx : Ctx) (φ : Term) → is_built (Show under ctx φ) ≡ true → AnswersOver k so (Show under ctx φ) answer after → Answers doc d (Show under ctx φ) answer next
    unfolding category_of is_built
    show_answers under ctx φ built over = (
      over.0 ∙ ap (λ (w : World). Shown ctx (map (λ c. map tuple_of (shown w (reverse ctx.types) φ c)) (objects_of k))) (world_is doc so types site under (eqb-true under 0 built)),
      ap (λ (so : Declarations). with_counted so types) over.1,
    )

    classify_answers : (under : ℕ) (ctx : Ctx) (φ : Term) → is_built (Classify under ctx φ) ≡ true → AnswersOver k so (Classify under ctx φ) answer after → Answers doc d (Classify under ctx φ) answer next
    unfolding category_of is_built
    classify_answers under ctx φ built over = (
      over.0 ∙ ap (λ (w : World). Classified ctx (map (classified w (reverse ctx.types) φ) (objects_of k))) (world_is doc so types site under (eqb-true under 0 built)),
      ap (λ (so : Declarations). with_counted so types) over.1,
    )

    valid_answers : (under : ℕ) (ctx : Ctx) (φ : Term) → is_built (Valid under ctx φ) ≡ true → AnswersOver k so (Valid under ctx φ) answer after → Answers doc d (Valid under ctx φ) answer next
    unfolding category_of is_built
    valid_answers under ctx φ built over = (
      over.0 ∙ ap (λ (w : World). Verdict ctx (map (λ c. map tuple_of (unforced w (reverse ctx.types) φ c)) (objects_of k))) (world_is doc so types site under (eqb-true under 0 built)),
      ap (λ (so : Declarations). with_counted so types) over.1,
    )

    -- elements by their numbers
    elements_made : (Z : Functor) (maps : List DeclaredMap) → MakesElements k so Z maps answer after → Makes doc d Z maps answer next
    unfolding category_of
    elements_made Z maps m = (m.shown, ap (λ (so : Declarations). with_counted so types) m.declared ∙ behind_functor Z m.tables maps m.maps)

    build_answers : (under z : ℕ) (T : Ty) (u v : ℕ) → is_built (Build under z T u v) ≡ true → AnswersOver k so (Build under z T u v) answer after → Answers doc d (Build under z T u v) answer next
    unfolding category_of is_built world_under site_of
    build_answers under z T u v built over =
        let w = world_under doc d under in
        let first : 0 ≡ under = sym (eqb-true under 0 built) in
        subst (λ j. Makes doc d (type_elements w T) (map_under j (Base z) T (map (λ c. numbers_with (values w T c)) (objects_of k)) ∷ map_under j T (Base z) (map (λ c. with_numbers (values w T c)) (objects_of k)) ∷ []) answer next) first
        (subst (λ (w : World). Makes doc d (type_elements w T) (type_maps w z T) answer next) (world_is doc so types site under (eqb-true under 0 built)) (elements_made _ _ over))

    sub_answers : (under z : ℕ) (T : Ty) (φ : Term) (i : ℕ) → is_built (Sub under z T φ i) ≡ true → AnswersOver k so (Sub under z T φ i) answer after → Answers doc d (Sub under z T φ i) answer next
    unfolding category_of is_built world_under site_of
    sub_answers under z T φ i built over =
        let w = world_under doc d under in
        let first : 0 ≡ under = sym (eqb-true under 0 built) in
        subst (λ j. Makes doc d (part_elements w T φ) (map_under j (Base z) T (map (λ c. numbers_with (satisfying w T φ c)) (objects_of k)) ∷ []) answer next) first
        (subst (λ (w : World). Makes doc d (part_elements w T φ) (part_maps w z T φ) answer next) (world_is doc so types site under (eqb-true under 0 built)) (elements_made _ _ over))

    let_answers : (under m : ℕ) (T : Ty) (t : Term) → is_built (Let under m T t) ≡ true → AnswersOver k so (Let under m T t) answer after → Answers doc d (Let under m T t) answer next
    unfolding category_of is_built world_under filled_category site_of
    let_answers under m T t built (quiet, defines) =
        let table = defines.table in
        let same : (E : List MapTy) → E ≡ ends_of so.maps → typed E (T ∷ []) t ≡ Ok defines.codomain = λ E e. ap (λ e. typed e (T ∷ []) t) e ∙ defines.typing in
        let ends : ◌≡◌ {A = DeclaredMap} (declared_map so.world table) (map_under 0 T defines.codomain (map (values_of (world_of so.world so.maps) T t) (objects_of so.world.site.category))) =
        ap₂ (λ (e : MapTy) (p : List (List (Val × Val))). map_under 0 e.dom e.cod p) defines.map.ends defines.map.pairs in
        let here : ◌≡◌ {A = DeclaredMap} (declared_map so.world table) (map_under under T (type_found (typed (map_ends d) (T ∷ []) t)) (map (values_of (world_under doc d under) T t) (objects_of k))) =
        ends ∙ ap (λ (w : World). map_under 0 T defines.codomain (map (values_of w T t) (objects_of w.site.category))) (world_is doc so types site under (eqb-true under 0 built))
        ∙ ap₂ (λ (j : ℕ) (U : Ty). map_under j T U (map (values_of (world_under doc d under) T t) (objects_of k))) (sym (eqb-true under 0 built)) (sym (ap type_found (same (map_ends d) (ends_known doc so types)))) in (
          quiet,
          ap (λ (so : Declarations). with_counted so types) defines.declared
              ∙ ap (λ (l : List DeclaredMap). record { functors = fs; maps = l; cat_functors = []; on_functors = []; types = types; others = so.world.charges })
              (map-append (declared_map so.world) so.maps (table ∷ []) ∙ ap (λ a. map (declared_map so.world) so.maps ++ a ∷ []) here),
        )

    product_answers : (x y z p q : ℕ) → Ranged (Product x y z p q) → Builds k so (Product x y z p q) answer after → Answers doc d (Product x y z p q) answer next
    unfolding category_of is_construction
    product_answers x y z p q range b = let (l, r, is, e) = b.property in (b.functor, l, r, is, makes (Product x y z p q) answer after b _ (two_maps b.maps z x z y l r e) (maps_declared k so lawful (Product x y z p q) b.functor b.maps refl range refl b.property))

    coproduct_answers : (x y z p q : ℕ) → Ranged (Coproduct x y z p q) → Builds k so (Coproduct x y z p q) answer after → Answers doc d (Coproduct x y z p q) answer next
    unfolding category_of is_construction
    coproduct_answers x y z p q range b = let (l, r, is, e) = b.property in (b.functor, l, r, is, makes (Coproduct x y z p q) answer after b _ (two_maps b.maps x z y z l r e) (maps_declared k so lawful (Coproduct x y z p q) b.functor b.maps refl range refl b.property))

    empty_answers : (z : ℕ) → Ranged (Empty z) → Builds k so (Empty z) answer after → Answers doc d (Empty z) answer next
    unfolding category_of is_construction
    empty_answers z range b = let (is, e) = b.property in (b.functor, is, makes (Empty z) answer after b [] (ap (map declared_between) e) (maps_declared k so lawful (Empty z) b.functor b.maps refl range refl b.property))

    -- of one or two maps, by their ends and tables
    module _ (m : ℕ) (low : m < length so.maps) (first_between : between_functors so.maps m ≡ true) where
      abbrev dom_m : domain_at d m ≡ from so.maps m
      dom_m = domain_is doc so types m low

      abbrev cod_m : codomain_at d m ≡ to so.maps m
      cod_m = codomain_is doc so types m low

      abbrev table_m : components_at d m ≡ table so.maps m
      table_m = table_is doc so types m low lawful first_between

      image_answers : (z p q : ℕ) → Ranged (Image m z p q) → fit so.maps (Image m z p q) ≡ true → Builds k so (Image m z p q) answer after → Answers doc d (Image m z p q) answer next
      unfolding category_of is_construction
      image_answers z p q range fits b =
          let (l, r, is, e) = b.property in (
            b.functor,
            l,
            r,
            subst (λ (x : ℕ). IsImage k (functor_at d x) (functor_at d (codomain_at d m)) (components_at d m) b.functor l r) (sym dom_m)
                (subst (λ (y : ℕ). IsImage k (functor_at d (from so.maps m)) (functor_at d y) (components_at d m) b.functor l r) (sym cod_m)
                (subst (λ (s : Components). IsImage k (functor_at d (from so.maps m)) (functor_at d (to so.maps m)) s b.functor l r) (sym table_m) is)),
            subst (λ (x : ℕ). Makes doc d b.functor (functor_map x z l ∷ functor_map z (codomain_at d m) r ∷ []) answer next) (sym dom_m)
                (subst (λ (y : ℕ). Makes doc d b.functor (functor_map (from so.maps m) z l ∷ functor_map z y r ∷ []) answer next) (sym cod_m)
                (makes (Image m z p q) answer after b _ (two_maps b.maps (from so.maps m) z z (to so.maps m) l r e) (maps_declared k so lawful (Image m z p q) b.functor b.maps refl range fits b.property))),
          )

      module _ (n : ℕ) (second : n < length so.maps) (second_between : between_functors so.maps n ≡ true) where
        abbrev dom_n : domain_at d n ≡ from so.maps n
        dom_n = domain_is doc so types n second

        abbrev cod_n : codomain_at d n ≡ to so.maps n
        cod_n = codomain_is doc so types n second

        abbrev table_n : components_at d n ≡ table so.maps n
        table_n = table_is doc so types n second lawful second_between

        abbrev s : Components
        s = table so.maps m

        abbrev t : Components
        t = table so.maps n

        equalizer_answers : (z i : ℕ) → Ranged (Equalizer m n z i) → fit so.maps (Equalizer m n z i) ≡ true → Builds k so (Equalizer m n z i) answer after → Answers doc d (Equalizer m n z i) answer next
        unfolding category_of is_construction
        equalizer_answers z i range fits b =
            let (l, is, e) = b.property in (
              b.functor,
              l,
              subst (λ (x : ℕ). IsEqualizer k (functor_at d x) (functor_at d (codomain_at d m)) (components_at d m) (components_at d n) b.functor l) (sym dom_m)
                  (subst (λ (y : ℕ). IsEqualizer k (functor_at d (from so.maps m)) (functor_at d y) (components_at d m) (components_at d n) b.functor l) (sym cod_m)
                  (subst (λ (u : Components). IsEqualizer k (functor_at d (from so.maps m)) (functor_at d (to so.maps m)) u (components_at d n) b.functor l) (sym table_m)
                  (subst (λ (u : Components). IsEqualizer k (functor_at d (from so.maps m)) (functor_at d (to so.maps m)) s u b.functor l) (sym table_n) is))),
              subst (λ (x : ℕ). Makes doc d b.functor (functor_map z x l ∷ []) answer next) (sym dom_m)
                  (makes (Equalizer m n z i) answer after b _ (one_map b.maps z (from so.maps m) l e) (maps_declared k so lawful (Equalizer m n z i) b.functor b.maps refl range fits b.property)),
            )

        coequalizer_answers : (z i : ℕ) → Ranged (Coequalizer m n z i) → fit so.maps (Coequalizer m n z i) ≡ true → Builds k so (Coequalizer m n z i) answer after → Answers doc d (Coequalizer m n z i) answer next
        unfolding category_of is_construction
        coequalizer_answers z i range fits b =
            let (l, is, e) = b.property in (
              b.functor,
              l,
              subst (λ (x : ℕ). IsCoequalizer k (functor_at d x) (functor_at d (codomain_at d m)) (components_at d m) (components_at d n) b.functor l) (sym dom_m)
                  (subst (λ (y : ℕ). IsCoequalizer k (functor_at d (from so.maps m)) (functor_at d y) (components_at d m) (components_at d n) b.functor l) (sym cod_m)
                  (subst (λ (u : Components). IsCoequalizer k (functor_at d (from so.maps m)) (functor_at d (to so.maps m)) u (components_at d n) b.functor l) (sym table_m)
                  (subst (λ (u : Components). IsCoequalizer k (functor_at d (from so.maps m)) (functor_at d (to so.maps m)) s u b.functor l) (sym table_n) is))),
              subst (λ (x : ℕ). Makes doc d b.functor (functor_map x z l ∷ []) answer next) (sym cod_m)
                  (makes (Coequalizer m n z i) answer after b _ (one_map b.maps (to so.maps m) z l e) (maps_declared k so lawful (Coequalizer m n z i) b.functor b.maps refl range fits b.property)),
            )

        pullback_answers : (z p q : ℕ) → Ranged (Pullback m n z p q) → fit so.maps (Pullback m n z p q) ≡ true → Builds k so (Pullback m n z p q) answer after → Answers doc d (Pullback m n z p q) answer next
        unfolding category_of is_construction
        pullback_answers z p q range fits b =
            let (l, r, is, e) = b.property in (
              b.functor,
              l,
              r,
              subst (λ (x : ℕ). IsPullback k (functor_at d x) (functor_at d (domain_at d n)) (functor_at d (codomain_at d m)) (components_at d m) (components_at d n) b.functor l r) (sym dom_m)
                  (subst (λ (x : ℕ). IsPullback k (functor_at d (from so.maps m)) (functor_at d x) (functor_at d (codomain_at d m)) (components_at d m) (components_at d n) b.functor l r) (sym dom_n)
                  (subst (λ (y : ℕ). IsPullback k (functor_at d (from so.maps m)) (functor_at d (from so.maps n)) (functor_at d y) (components_at d m) (components_at d n) b.functor l r) (sym cod_m)
                  (subst (λ (u : Components). IsPullback k (functor_at d (from so.maps m)) (functor_at d (from so.maps n)) (functor_at d (to so.maps m)) u (components_at d n) b.functor l r) (sym table_m)
                  (subst (λ (u : Components). IsPullback k (functor_at d (from so.maps m)) (functor_at d (from so.maps n)) (functor_at d (to so.maps m)) s u b.functor l r) (sym table_n) is)))),
              subst (λ (x : ℕ). Makes doc d b.functor (functor_map z x l ∷ functor_map z (domain_at d n) r ∷ []) answer next) (sym dom_m)
                  (subst (λ (x : ℕ). Makes doc d b.functor (functor_map z (from so.maps m) l ∷ functor_map z x r ∷ []) answer next) (sym dom_n)
                  (makes (Pullback m n z p q) answer after b _ (two_maps b.maps z (from so.maps m) z (from so.maps n) l r e) (maps_declared k so lawful (Pullback m n z p q) b.functor b.maps refl range fits b.property))),
            )

        pushout_answers : (z p q : ℕ) → Ranged (Pushout m n z p q) → fit so.maps (Pushout m n z p q) ≡ true → Builds k so (Pushout m n z p q) answer after → Answers doc d (Pushout m n z p q) answer next
        unfolding category_of is_construction
        pushout_answers z p q range fits b =
            let (l, r, is, e) = b.property in (
              b.functor,
              l,
              r,
              subst (λ (x : ℕ). IsPushout k (functor_at d x) (functor_at d (codomain_at d m)) (functor_at d (codomain_at d n)) (components_at d m) (components_at d n) b.functor l r) (sym dom_m)
                  (subst (λ (y : ℕ). IsPushout k (functor_at d (from so.maps m)) (functor_at d y) (functor_at d (codomain_at d n)) (components_at d m) (components_at d n) b.functor l r) (sym cod_m)
                  (subst (λ (y : ℕ). IsPushout k (functor_at d (from so.maps m)) (functor_at d (to so.maps m)) (functor_at d y) (components_at d m) (components_at d n) b.functor l r) (sym cod_n)
                  (subst (λ (u : Components). IsPushout k (functor_at d (from so.maps m)) (functor_at d (to so.maps m)) (functor_at d (to so.maps n)) u (components_at d n) b.functor l r) (sym table_m)
                  (subst (λ (u : Components). IsPushout k (functor_at d (from so.maps m)) (functor_at d (to so.maps m)) (functor_at d (to so.maps n)) s u b.functor l r) (sym table_n) is)))),
              subst (λ (y : ℕ). Makes doc d b.functor (functor_map y z l ∷ functor_map (codomain_at d n) z r ∷ []) answer next) (sym cod_m)
                  (subst (λ (y : ℕ). Makes doc d b.functor (functor_map (to so.maps m) z l ∷ functor_map y z r ∷ []) answer next) (sym cod_n)
                  (makes (Pushout m n z p q) answer after b _ (two_maps b.maps (to so.maps m) z (to so.maps n) z l r e) (maps_declared k so lawful (Pushout m n z p q) b.functor b.maps refl range fits b.property))),
            )

    -- a statement that is run answers in the run what it answers here
    pub answers_are : (stmt : Stmt) → Ranged stmt → is_built stmt ≡ true → (is_construction stmt ≡ true → fit so.maps stmt ≡ true) → AnswersOver k so stmt answer after → Answers doc d stmt answer next
    unfolding is_built is_construction
    answers_are (Presheaf functor raw) range built accepted over = presheaf_answers functor raw over
    answers_are (Map m x y raw) range built accepted over = map_answers m x y raw range over
    answers_are (Sheaf under x) range built accepted over = sheaf_answers under x built over
    answers_are (Hom x y) range built accepted over = hom_answers x y over
    answers_are (Show under ctx φ) range built accepted over = show_answers under ctx φ built over
    answers_are (Classify under ctx φ) range built accepted over = classify_answers under ctx φ built over
    answers_are (Valid under ctx φ) range built accepted over = valid_answers under ctx φ built over
    answers_are (Build under z T u v) range built accepted over = build_answers under z T u v built over
    answers_are (Sub under z T φ i) range built accepted over = sub_answers under z T φ i built over
    answers_are (Let under m T t) range built accepted over = let_answers under m T t built over
    answers_are (Product x y z p q) range built accepted b = product_answers x y z p q range b
    answers_are (Coproduct x y z p q) range built accepted b = coproduct_answers x y z p q range b
    answers_are (Empty z) range built accepted b = empty_answers z range b
    answers_are (Image m z p q) range built accepted b =
        let fits = accepted refl in
        image_answers m (image_range k.objects k.ends (length fs) (length so.maps) m z p q range).1 fits z p q range fits b
    answers_are (Equalizer m n z i) range built accepted b =
        let w = equalizer_range k.objects k.ends (length fs) (length so.maps) m n z i range in
        let fits = accepted refl in
        let both = first_of_three (between_functors so.maps m) (between_functors so.maps n) _ fits in
        equalizer_answers m w.first both.0 n w.second both.1 z i range fits b
    answers_are (Coequalizer m n z i) range built accepted b =
        let w = coequalizer_range k.objects k.ends (length fs) (length so.maps) m n z i range in
        let fits = accepted refl in
        let both = first_of_three (between_functors so.maps m) (between_functors so.maps n) _ fits in
        coequalizer_answers m w.first both.0 n w.second both.1 z i range fits b
    answers_are (Pullback m n z p q) range built accepted b =
        let w = pullback_range k.objects k.ends (length fs) (length so.maps) m n z p q range in
        let fits = accepted refl in
        let both = first_of_three (between_functors so.maps m) (between_functors so.maps n) _ fits in
        pullback_answers m w.first both.0 n w.second both.1 z p q range fits b
    answers_are (Pushout m n z p q) range built accepted b =
        let w = pushout_range k.objects k.ends (length fs) (length so.maps) m n z p q range in
        let fits = accepted refl in
        let both = first_of_three (between_functors so.maps m) (between_functors so.maps n) _ fits in
        pushout_answers m w.first both.0 n w.second both.1 z p q range fits b
    answers_are _ range built accepted over = absurd (true≢false (sym built))

-- a statement that is run is under the first topology
pub built_under : (stmt : Stmt) → is_built stmt ≡ true → under stmt ≡ 0
unfolding is_built under
built_under (Show j ctx φ) built = eqb-true j 0 built
built_under (Classify j ctx φ) built = eqb-true j 0 built
built_under (Valid j ctx φ) built = eqb-true j 0 built
built_under (Build j z T u v) built = eqb-true j 0 built
built_under (Sub j z T φ i) built = eqb-true j 0 built
built_under (Let j m T t) built = eqb-true j 0 built
built_under (Presheaf functor raw) built = refl
built_under (Map m x y raw) built = refl
built_under (Product x y z p q) built = refl
built_under (Coproduct x y z p q) built = refl
built_under (Equalizer m n z i) built = refl
built_under (Coequalizer m n z i) built = refl
built_under (Pullback m n z p q) built = refl
built_under (Pushout m n z p q) built = refl
built_under (Image m z p q) built = refl
built_under (Empty z) built = refl
built_under (Sheaf j x) built = eqb-true j 0 built
built_under (Hom x y) built = refl
built_under _ built = cc
