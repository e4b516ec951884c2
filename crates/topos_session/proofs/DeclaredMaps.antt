-- Declared maps, and formulas over declared functors, as the run sees them.
use Rattle.std.proofs.Common.{◌≡◌, ℕ, zero, suc, ◌<◌, true, false, not, ◌&&◌, List, [], ◌∷◌, ◌++◌, map, reverse, length, get_or, flat_map, is_none, Option, Some, None, refl, sym, ap, ap₂, ◌∙◌, subst, arith}
use Rattle.std.specs.List.{list_any, range_with_len}
use Rattle.std.proofs.lemmas.List.{append-nil, length-map, get_or-map, ext_get_or}
use Rattle.std.proofs.lemmas.List.FromFn.{length-map-range_with_len, get_or-map-range_with_len}
use Rattle.finite_lists.specs.First.{or_else, some_if}
use Rattle.finite_lists.proofs.FirstAnswers.{first_none}
use Rattle.topos_model.proofs.ValueEquations.{number_of-El}
use Rattle.topos_model.specs.declared.ty.Ty.{Ty, One}
use Rattle.topos_model.specs.declared.context.MapTy.{MapTy}
use Rattle.topos_model.specs.declared.context.MapTable.{MapTable}
use Rattle.topos_model.specs.declared.context.Ctx.{Ctx}
use Rattle.topos_model.specs.declared.term.Term.{Term}
use Rattle.topos_model.specs.declared.value.Val.{Val, El}
use Rattle.topos_model.specs.declared.doc.Doc.{Doc}
use Rattle.topos_model.specs.declared.stmt.Stmt.{Stmt}
use Rattle.topos_model.specs.declared.stmt.Stmt.TheVariants.{Build, Sub, Let, Show, Classify, Valid}
use Rattle.topos_model.specs.declared.fault.Fault.{Fault}
use Rattle.topos_model.specs.declared.fault.Fault.TheVariants.{NotASheaf, NotParallel, WrongTopology}
use Rattle.topos_model.specs.categories.Category.{Category}
use Rattle.topos_model.specs.topologies.Cover.{Site}
use Rattle.topos_model.specs.types.Values.{number_of}
use Rattle.topos_model.specs.presheaves.Maps.{Components}
use Rattle.topos_model.specs.categories.Filling.{filled_category}
use Rattle.topos_model.specs.topologies.Sheaves.{sheaf_fault}
use Rattle.topos_model.specs.formulas.Typing.{typed}
use Rattle.topos_model.specs.statements.Needs.{named, under, parts, term_needs, terms_of, types_of, is_functor, first_no_sheaf}
use Rattle.topos_model.specs.statements.StatementFaults.{applied, is_foreign, foreign_map_fault, formula_fault, term_fault, size_fault, typing_fault}
use Rattle.topos_model.specs.statements.Declarations.{Declared, DeclaredMap, site_of, map_ends, world_under, functor_at, map_at, ends_at, domain_at, codomain_at, components_at}
use Rattle.topos_model.specs.statements.Answers.{element_pairs}
use Rattle.topos_model.specs.statements.Refusals.{foreign_refusal, sheaf_refusal, term_refusal, ends_fit, refusal}
use Rattle.sealed_world.specs.SealedWorlds.{CountedWorld}
use Rattle.formula_answers.specs.MapTables.{ends_of, no_table, table_at, pairs_of}
use Rattle.formula_answers.specs.Formulas.{world_of}
use Rattle.topos_session.specs.declared.declarations.Declarations.{Declarations}
use Rattle.topos_session.specs.Declarations.{declared_map, with_counted, AreLawful}
use Rattle.topos_session.specs.Constructions.{between_functors, from, to, table}
use Rattle.topos_session.specs.Statements.{no_sheaf_among, refusal_in_turn, formula_refusal, formula_needs, map_needs, term_map_fault}
use Rattle.topos_session.proofs.MadeFunctors.{pairs_at}

-- the images of elements that stand in pairs
image_in : Val × Val → ℕ
image_in p = number_of p.1

module _ (r : List ℕ) where
  pair_at : ℕ → Val × Val
  pair_at x = (El x, El (get_or r x 0))

  images : List ℕ
  images = map image_in (map pair_at (range_with_len 0 (length r)))

  pairs_count : length images ≡ length r
  unfolding images
  pairs_count = length-map (map pair_at (range_with_len 0 (length r))) image_in ∙ length-map-range_with_len pair_at 0 (length r)

  pair_image : (i : ℕ) → i < length images → get_or images i 0 ≡ get_or r i 0
  unfolding images image_in pair_at
  pair_image i low =
      let within : i < length r = subst (λ n. i < n) pairs_count low in
      get_or-map image_in (map pair_at (range_with_len 0 (length r))) i (pair_at i) 0 (subst (λ n. i < n) (length-map (map pair_at (range_with_len 0 (length r))) image_in) low)
      ∙ ap image_in (get_or-map-range_with_len pair_at 0 (length r) i i (pair_at i) within (omega arith))
      ∙ number_of-El (get_or r i 0)

  images_of_pairs : map (λ (p : Val × Val). number_of p.1) (element_pairs r) ≡ r
  unfolding images element_pairs image_in pair_at
  images_of_pairs = ext_get_or 0 images r pairs_count pair_image

pub numbers_of_pairs : (m : Components) → map (map (λ (p : Val × Val). number_of p.1)) (map element_pairs m) ≡ m
numbers_of_pairs [] = refl
numbers_of_pairs (r ∷ m) = rw (images_of_pairs r, numbers_of_pairs m) refl

-- what declared maps are in the world of a statement
module _ (w : CountedWorld) where
  pub pairs_declared : (tables : List MapTable) → map (λ (m : DeclaredMap). m.pairs) (map (declared_map w) tables) ≡ map (pairs_of w.site w.functors) tables
  pairs_declared [] = refl
  pairs_declared (m ∷ tables) = ap (λ l. pairs_of w.site w.functors m ∷ l) (pairs_declared tables)

  ends_declared : (tables : List MapTable) → map (λ (m : DeclaredMap). m.made.ends) (map (declared_map w) tables) ≡ ends_of tables
  ends_declared [] = refl
  ends_declared (m ∷ tables) = ap (λ l. m.ends ∷ l) (ends_declared tables)

  -- all are made under the first topology
  made_first : (tables : List MapTable) (m : ℕ) → (get_or (map (λ (x : DeclaredMap). x.made) (map (declared_map w) tables)) m (record { ends = record { dom = One; cod = One }; under = 0 })).under ≡ 0
  made_first [] m = refl
  made_first (x ∷ tables) zero = refl
  made_first (x ∷ tables) (suc m) = made_first tables m

  own_map : (tables : List MapTable) (m : ℕ) → is_foreign (map (λ (x : DeclaredMap). x.made) (map (declared_map w) tables)) 0 m ≡ false
  own_map tables m = rw (made_first tables m) refl

-- the statements of a document over what is declared, with the types that are counted
module _ (doc : Doc) (so : Declarations) (types : List (ℕ × List Ty)) where
  abbrev k : Category
  k = filled_category doc.cat

  abbrev d : Declared
  d = with_counted so types

  pub ends_known : map_ends d ≡ ends_of so.maps
  unfolding map_ends
  ends_known = ends_declared so.world so.maps

  -- a declared map
  module _ (m : ℕ) (low : m < length so.maps) where
    abbrev here : MapTable
    here = table_at so.maps m

    pub map_is : map_at d m ≡ declared_map so.world here
    map_is = get_or-map (declared_map so.world) so.maps m no_table (record { made = record { ends = record { dom = One; cod = One }; under = 0 }; pairs = [] }) low

    pub ends_are : ends_at d m ≡ here.ends
    ends_are = ap (λ (m : DeclaredMap). m.made.ends) map_is

    pub domain_is : domain_at d m ≡ from so.maps m
    domain_is = ap (λ (e : MapTy). named e.dom) ends_are

    pub codomain_is : codomain_at d m ≡ to so.maps m
    codomain_is = ap (λ (e : MapTy). named e.cod) ends_are

    -- of one between functors, the numbers of its table
    pub table_is : AreLawful k so → between_functors so.maps m ≡ true → components_at d m ≡ table so.maps m
    unfolding components_at
    table_is lawful both =
        ap (λ (m : DeclaredMap). map (map (λ (p : Val × Val). number_of p.1)) m.pairs) map_is
        ∙ ap (map (map (λ (p : Val × Val). number_of p.1))) (pairs_at k so lawful m low both) ∙ numbers_of_pairs (table so.maps m)

  -- no type is counted, so no functor has to be a sheaf
  pub no_sheaf_asked : (stmt : Stmt) → types_of (map_ends d) stmt ≡ [] → sheaf_refusal doc d stmt ≡ None
  unfolding sheaf_refusal
  no_sheaf_asked stmt none =
      first_none (λ n. some_if (list_any (is_functor n) (types_of (map_ends d) stmt) && not (is_none (sheaf_fault (site_of doc (under stmt)) (functor_at d n)))) (NotASheaf n))
      (range_with_len 0 (length so.world.functors))
      (λ n i. ap (λ (l : List Ty). some_if (list_any (is_functor n) l && not (is_none (sheaf_fault (site_of doc (under stmt)) (functor_at d n)))) (NotASheaf n)) none)

  -- a presheaf that is no sheaf refuses a statement in the run as here
  module _ (site : so.world.site ≡ site_of doc 0) where
    sheaves_same : (stmt : Stmt) (needed : List Ty) → under stmt ≡ 0 → types_of (map_ends d) stmt ≡ needed → sheaf_refusal doc d stmt ≡ no_sheaf_among so.world needed
    unfolding sheaf_refusal no_sheaf_among
    sheaves_same stmt needed first are =
        ap₂ (λ (j : ℕ) (l : List Ty). first_no_sheaf (λ n. is_none (sheaf_fault (site_of doc j) (functor_at d n))) (length so.world.functors) l) first are
        ∙ ap (λ (s : Site). first_no_sheaf (λ n. is_none (sheaf_fault s (functor_at d n))) (length so.world.functors) needed) (sym site)

    -- no map is of another topology than the first
    no_foreign_map : (stmt : Stmt) → under stmt ≡ 0 → foreign_refusal doc d stmt ≡ None
    unfolding foreign_refusal foreign_map_fault
    no_foreign_map stmt first =
        let made = map (λ (m : DeclaredMap). m.made) d.maps in
        first_none (λ m. some_if (is_foreign made (under stmt) m) (WrongTopology m)) (flat_map (λ s. applied s.1) (terms_of stmt))
        (λ m i. ap (λ j. some_if (is_foreign made j m) (WrongTopology m)) first ∙ ap (λ b. some_if b (WrongTopology m)) (own_map so.world so.maps m))

    -- a statement with a term is refused for its term, and for a presheaf that is no sheaf
    module _ (j : ℕ) (first : j ≡ 0) where
      or_none : (o : Option Fault) → or_else o None ≡ o
      or_none None = refl
      or_none (Some fault) = refl

      -- the refusals that it has in turn
      in_turn : (stmt : Stmt) (fault : Option Fault) (needed : List Ty) → types_of (map_ends d) stmt ≡ needed ++ [] → under stmt ≡ j → typing_fault (map_ends d) stmt ≡ fault
          → ends_fit doc d stmt ≡ true → or_else (some_if (not (ends_fit doc d stmt)) NotParallel) (term_refusal doc d stmt) ≡ refusal_in_turn so.world j fault needed
      unfolding term_refusal refusal_in_turn
      in_turn stmt fault needed counted place typing fit =
          rw (fit, no_foreign_map stmt (place ∙ first), sheaves_same stmt needed (place ∙ first) (counted ∙ append-nil needed), typing, first) refl

      formula_turn : (stmt : Stmt) (ctx : Ctx) (φ : Term) → types_of (map_ends d) stmt ≡ term_needs (map_ends d) (reverse ctx.types) φ ++ [] → under stmt ≡ j
          → typing_fault (map_ends d) stmt ≡ or_else (formula_fault (map_ends d) (reverse ctx.types, φ)) None
          → ends_fit doc d stmt ≡ true → or_else (some_if (not (ends_fit doc d stmt)) NotParallel) (term_refusal doc d stmt) ≡ formula_refusal so.world so.maps j ctx φ
      formula_turn stmt ctx φ counted place typing fit =
          in_turn stmt (formula_fault (ends_of so.maps) (reverse ctx.types, φ)) (formula_needs so.maps ctx φ) (counted ∙ ap (λ e. term_needs e (reverse ctx.types) φ ++ []) ends_known) place
          (typing ∙ or_none (formula_fault (map_ends d) (reverse ctx.types, φ)) ∙ ap (λ e. formula_fault e (reverse ctx.types, φ)) ends_known) fit

      pub show_refusal : (ctx : Ctx) (φ : Term) → refusal doc d (Show j ctx φ) ≡ formula_refusal so.world so.maps j ctx φ
      unfolding refusal types_of terms_of under typing_fault ends_fit
      show_refusal ctx φ = formula_turn (Show j ctx φ) ctx φ refl refl refl refl

      pub classify_refusal : (ctx : Ctx) (φ : Term) → refusal doc d (Classify j ctx φ) ≡ formula_refusal so.world so.maps j ctx φ
      unfolding refusal types_of terms_of under typing_fault ends_fit
      classify_refusal ctx φ = formula_turn (Classify j ctx φ) ctx φ refl refl refl refl

      pub valid_refusal : (ctx : Ctx) (φ : Term) → refusal doc d (Valid j ctx φ) ≡ formula_refusal so.world so.maps j ctx φ
      unfolding refusal types_of terms_of under typing_fault ends_fit
      valid_refusal ctx φ = formula_turn (Valid j ctx φ) ctx φ refl refl refl refl

      pub build_refusal : (z : ℕ) (T : Ty) (u v : ℕ) → refusal doc d (Build j z T u v) ≡ refusal_in_turn so.world j None (parts T)
      unfolding refusal types_of terms_of under typing_fault ends_fit
      build_refusal z T u v = in_turn (Build j z T u v) None (parts T) (sym (append-nil (parts T))) refl refl refl

      pub sub_refusal : (z : ℕ) (T : Ty) (φ : Term) (i : ℕ) → refusal doc d (Sub j z T φ i) ≡ refusal_in_turn so.world j (formula_fault (ends_of so.maps) (T ∷ [], φ)) (map_needs so.maps T φ)
      unfolding refusal types_of terms_of under typing_fault ends_fit
      sub_refusal z T φ i = formula_turn (Sub j z T φ i) (record { types = T ∷ [] }) φ refl refl refl refl

      pub let_refusal : (m : ℕ) (T : Ty) (t : Term) → refusal doc d (Let j m T t) ≡ refusal_in_turn so.world j (term_map_fault so.maps T t) (map_needs so.maps T t)
      unfolding refusal types_of terms_of under typing_fault ends_fit term_map_fault
      let_refusal m T t =
          in_turn (Let j m T t) (term_map_fault so.maps T t) (map_needs so.maps T t) (ap (λ e. term_needs e (T ∷ []) t ++ []) ends_known) refl
          (ap (λ e. or_else (term_fault e (T ∷ [], t)) (size_fault (typed e (T ∷ []) t))) ends_known) refl

    -- the world of a statement under the first topology
    pub world_is : (j : ℕ) → j ≡ 0 → world_of so.world so.maps ≡ world_under doc d j
    unfolding world_under
    world_is j first =
        ap₂ (λ (s : Site) (maps : List (List (List (Val × Val)))). record { site = s; functors = so.world.functors; maps = maps }) (site ∙ ap (site_of doc) (sym first)) (sym (pairs_declared so.world so.maps))
