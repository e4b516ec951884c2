-- Statements about a formula: why they are refused, what they count, and that they answer.
use Rattle.std.proofs.Common.{◌≡◌, ◌↔◌, ℕ, ◌<◌, ◌≤◌, Bool, true, false, not, ◌&&◌, inl, inr, List, [], reverse, length, flat_map, is_none, Option, Some, None, Ok, Err, refl, sym, ap, subst, ◌∙◌, arith, drop, get_or, ap₂, ◌+◌, ◌∷◌}
use Rattle.std.proofs.lemmas.Bool.{cases_lt, cases_Bool, true≢false, eq-eqb, ne_eqb}
use Rattle.std.proofs.lemmas.List.{append-nil}
use Rattle.std.proofs.lemmas.List.FromFn.{length-range_with_len, get_or-range_with_len}
use denote.Hole.Carrier
use Rattle.std.specs.List.{list_any, range_with_len}
use Rattle.finite_lists.specs.Members.{In}
use Rattle.finite_lists.specs.First.{first, some_if}
use Rattle.finite_lists.proofs.Lists.{any_some, some_any}
use Rattle.finite_lists.proofs.FirstAnswers.{first_same, first_left-none, first_left-some, first_left-end}
use Rattle.topos_model.specs.topologies.Sheaves.{sheaf_fault}
use Rattle.topos_model.specs.declared.ty.Ty.{Ty, Base, Omega}
use Rattle.topos_model.specs.declared.ty.Ty.TheBlock.{hidden-the_row-Ty-0}
use Rattle.topos_model.specs.declared.term.Term.{Term}
use Rattle.topos_model.specs.declared.context.Ctx.{Ctx}
use Rattle.topos_model.specs.declared.context.MapTable.{MapTable}
use Rattle.topos_model.specs.declared.stmt.Stmt.{Stmt}
use Rattle.topos_model.specs.declared.stmt.Stmt.TheVariants.{Show, Classify, Valid}
use Rattle.topos_model.specs.declared.answer.Answer.{Answer}
use Rattle.topos_model.specs.declared.fault.Fault.{Fault}
use Rattle.topos_model.specs.declared.fault.Fault.TheVariants.{NotBuilt, NotASheaf, Expected as ExpectedFault}
use Rattle.topos_model.specs.categories.Category.{Category}
use Rattle.topos_model.specs.types.SameType.{same_type}
use Rattle.topos_model.specs.Laws.{IsCategory, IsTopology}
use Rattle.topos_model.specs.formulas.Typing.{typed}
use Rattle.topos_model.specs.statements.Needs.{parts, needs, types_of, terms_of, term_needs, is_functor, first_no_sheaf}
use Rattle.topos_model.specs.statements.StatementFaults.{formula_fault}
use Rattle.functor_store.specs.declared.fault.StoreFault.{StoreFault}
use Rattle.functor_store.specs.declared.fault.StoreFault.TheVariants.{Over, NoMemory as OutOfMemory}
use Rattle.sealed_functors.specs.Rows.{IsOverExactly}
use Rattle.sealed_world.specs.SealedWorlds.{CountedWorld, world_cells, cells_with, HasTypes, IsGrownBy}
use Rattle.sealed_world.proofs.Growing.{not_grown, grown_more, no_more, no_less}
use Rattle.term_typing.specs.declared.fault.TypeFault.{TypeFault}
use Rattle.term_typing.specs.declared.fault.TypeFault.TheVariants.{Expected, NotAFunction, NotAPower, NotAPair, NoMemory}
use Rattle.term_typing.specs.Inferring.{IsFaultOf}
use Rattle.formula_answers.specs.MapTables.{ends_of}
use Rattle.topos_session.specs.declared.declarations.Declarations.{Declarations}
use Rattle.topos_session.specs.declared.stop.Stop.{Stop}
use Rattle.topos_session.specs.declared.stop.Stop.TheVariants as stop
use Rattle.topos_session.specs.Ranges.{declares}
use Rattle.topos_session.specs.Functors.{AreFunctors, functor_at}
use Rattle.topos_session.specs.Declarations.{AreLawful}
use Rattle.topos_session.specs.Statements.{no_sheaf_among, formula_refusal, formula_needs, refusal_over, AnswersOver, IsTypeStop, IsSheafStop, AreSealed, IsSealStop, AreNeedsSealed, IsTermSealed, IsNeedsStop, refusal_in_turn, IsFormulaSealed, IsFormulaStop, IsAnsweredOver, IsStoppedOver, type_stop, store_stop}
use Rattle.topos_session.proofs.FormulaStatements.{needs_sheaves}
use Rattle.topos_session.proofs.SealedNeeds.{needs_stopped, lawful_then, answered}

-- what a test finds depends on the members alone
any_same : {A : Type 0} (p : A → Bool) (xs ys : List A) → ((x : A) → In xs x → In ys x) → ((x : A) → In ys x → In xs x) → list_any p xs ≡ list_any p ys
any_same p xs ys f g =
    elim (cases_Bool (list_any p xs)) [
      | inl t ↦ let (x, i, e) = any_some p xs t in t ∙ sym (some_any p ys x (f x i) e)
      | inr none ↦ elim (cases_Bool (list_any p ys)) [
        | inl t ↦ let (x, i, e) = any_some p ys t in absurd (true≢false (sym (some_any p xs x (g x i) e) ∙ none))
        | inr e ↦ none ∙ sym e
      ]
    ]

among_same : (w : CountedWorld) (xs ys : List Ty) → ((T : Ty) → In xs T → In ys T) → ((T : Ty) → In ys T → In xs T) → no_sheaf_among w xs ≡ no_sheaf_among w ys
unfolding no_sheaf_among
among_same w xs ys f g =
    first_same (λ n. some_if (list_any (is_functor n) xs && not (is_none (sheaf_fault w.site (functor_at w.functors n)))) (NotASheaf n))
    (λ n. some_if (list_any (is_functor n) ys && not (is_none (sheaf_fault w.site (functor_at w.functors n)))) (NotASheaf n)) (range_with_len 0 (length w.functors))
    (λ n i. ap (λ (b : Bool). some_if (b && not (is_none (sheaf_fault w.site (functor_at w.functors n)))) (NotASheaf n)) (any_same (is_functor n) xs ys f g))

found_none : (w : CountedWorld) (types : List Ty) → no_sheaf_among w types ≡ None → first_no_sheaf (λ n. is_none (sheaf_fault w.site (functor_at w.functors n))) (length w.functors) types ≡ None
unfolding no_sheaf_among
found_none w types e = e

-- the search for the first presheaf that is no sheaf, from the number n on
module _ (w : CountedWorld) (types : List Ty) where
  tested : ℕ → Option Fault
  tested n = some_if (list_any (is_functor n) types && not (is_none (sheaf_fault w.site (functor_at w.functors n)))) (NotASheaf n)

  pub found_from : ℕ → Option Fault
  unfolding tested
  found_from n = first tested (drop n (range_with_len 0 (length w.functors)))

  pub found_all : found_from 0 ≡ no_sheaf_among w types
  unfolding found_from no_sheaf_among tested
  found_all = ap (first tested) (nothing (range_with_len 0 (length w.functors)))
    where
      nothing : (l : List ℕ) → drop 0 l ≡ l
      nothing [] = refl
      nothing (x ∷ l) = refl

  here : (n : ℕ) → n < length w.functors → get_or (range_with_len 0 (length w.functors)) n 0 ≡ n
  here n low = get_or-range_with_len 0 (length w.functors) n 0 low ∙ omega arith

  long : length (range_with_len 0 (length w.functors)) ≡ length w.functors
  long = length-range_with_len 0 (length w.functors)

  pub found_later : (n : ℕ) (b c : Bool) → n < length w.functors → b ≡ list_any (is_functor n) types → c ≡ is_none (sheaf_fault w.site (functor_at w.functors n)) → (b && not c) ≡ false → found_from n ≡ found_from (n + 1)
  unfolding found_from tested
  found_later n b c low e f g =
      first_left-none tested (range_with_len 0 (length w.functors)) n 0 (omega (arith, low, long))
      (ap tested (here n low) ∙ ap₂ (λ x y. some_if (x && not y) (NotASheaf n)) (sym e) (sym f) ∙ ap (λ x. some_if x (NotASheaf n)) g)

  pub found_here : (n : ℕ) (b c : Bool) → n < length w.functors → b ≡ list_any (is_functor n) types → c ≡ is_none (sheaf_fault w.site (functor_at w.functors n)) → (b && not c) ≡ true → found_from n ≡ Some (NotASheaf n)
  unfolding found_from tested
  found_here n b c low e f g =
      first_left-some tested (range_with_len 0 (length w.functors)) n 0 (NotASheaf n) (omega (arith, low, long))
      (ap tested (here n low) ∙ ap₂ (λ x y. some_if (x && not y) (NotASheaf n)) (sym e) (sym f) ∙ ap (λ x. some_if x (NotASheaf n)) g)

  pub found_nowhere : (n : ℕ) → length w.functors ≤ n → found_from n ≡ None
  unfolding found_from
  found_nowhere n past = first_left-end tested (range_with_len 0 (length w.functors)) n (omega (arith, past, long))

module _ (tables : List MapTable) (ctx : Ctx) (φ : Term) where
  pub typing_stops : (fault : TypeFault) → IsFaultOf (typed (ends_of tables) (reverse ctx.types) φ) fault → IsTypeStop tables ctx φ (type_stop fault)
  unfolding formula_fault
  typing_stops (Expected S T) h = rw h refl
  typing_stops (NotAFunction T) h = rw h refl
  typing_stops (NotAPower T) h = rw h refl
  typing_stops (NotAPair T) h = rw h refl
  typing_stops NoMemory h = tt

  pub no_formula : (T : Ty) → typed (ends_of tables) (reverse ctx.types) φ ≡ Ok T → same_type Omega T ≡ false → formula_fault (ends_of tables) (reverse ctx.types, φ) ≡ Some (ExpectedFault Omega T)
  unfolding formula_fault
  no_formula T found other = rw (found, other) refl

  pub well_typed : typed (ends_of tables) (reverse ctx.types) φ ≡ Ok Omega → formula_fault (ends_of tables) (reverse ctx.types, φ) ≡ None
  unfolding formula_fault same_type hidden-the_row-Ty-0 Carrier.hidden
  well_typed typing = rw typing refl

-- types that are sealed, or not: what the search and the sealing came to
module _ (so : Declarations) (types : List Ty) where
  pub sheaf_stop : (s : Stop) → IsSheafStop so.world (flat_map parts types) s → IsSealStop types so s
  sheaf_stop (stop.Refused fault) h = h
  sheaf_stop stop.Budget h = absurd h
  sheaf_stop stop.NoMemory h = tt

  pub store_stops : no_sheaf_among so.world (flat_map parts types) ≡ None → (fault : StoreFault) →
      IsOverExactly {A = Unit {0}} (Err fault) (so.world.budget < cells_with so.world (flat_map parts types)) → IsSealStop types so (store_stop fault)
  store_stops sheaves Over over = (sheaves, over)
  store_stops sheaves OutOfMemory over = tt

  pub types_sealed : (mid : Declarations) → no_sheaf_among so.world (flat_map parts types) ≡ None → mid.maps ≡ so.maps → IsGrownBy (flat_map parts types) so.world mid.world →
      (so.world.budget < cells_with so.world (flat_map parts types) → ⊥) → world_cells mid.world ≤ mid.world.budget → AreSealed types so mid
  types_sealed mid sheaves maps grown fit within =
      let budget : mid.world.budget ≡ so.world.budget = ap (λ (w : CountedWorld). w.budget) grown.grown.is in
      record { sheaves = sheaves; maps = maps; grown = grown; fit = not_over fit; within = omega (arith, within, budget) }
    where
      not_over : {b c : ℕ} → (c < b → ⊥) → b ≤ c
      not_over {b} {c} h = elim (cases_lt c b) [ inl over ↦ absurd (h over) | inr fits ↦ fits ]

-- a statement with a term, over what is declared
module _ (so : Declarations) (under : ℕ) (fault : Option Fault) (needed : List Ty) where
  pub other_topology : (under ≡ 0 → ⊥) → refusal_in_turn so.world under fault needed ≡ Some NotBuilt
  unfolding refusal_in_turn
  other_topology other = rw (ne_eqb under 0 other) refl

  module _ (first : under ≡ 0) where
    -- a fault of its term refuses it
    pub fault_refuses : (found : Fault) → fault ≡ Some found → refusal_in_turn so.world under fault needed ≡ Some found
    unfolding refusal_in_turn
    fault_refuses found h = rw (eq-eqb under 0 first, h) refl

    module _ (faultless : fault ≡ None) (types : List Ty) (counted : (T : Ty) → In (flat_map parts types) T ↔ In needed T) where
      -- one that has none is refused for a presheaf that is no sheaf alone
      for_sheaves : refusal_in_turn so.world under fault needed ≡ no_sheaf_among so.world needed
      unfolding refusal_in_turn
      for_sheaves = rw (eq-eqb under 0 first, faultless) refl

      -- the types that are listed cost the same, with their parts
      same_cost : cells_with so.world needed ≡ cells_with so.world (flat_map parts types)
      same_cost =
          let w = so.world in
          let more = no_less [] (flat_map parts types) needed w w (not_grown [] w) (λ T i u. inr ((counted T).1 i)) in
          let less = no_more [] (flat_map parts types) needed w w (not_grown [] w) (λ T n. absurd n) (λ T i. (counted T).0 i) in
          omega (arith, more, less)

      same_growth : (mid : CountedWorld) → IsGrownBy (flat_map parts types) so.world mid → IsGrownBy needed so.world mid
      same_growth mid grown = record {
        grown = grown_more (flat_map parts types) so.world needed mid (λ T i. (counted T).0 i) grown.grown;
        all = λ T i u. grown.all T ((counted T).1 i) u;
      }

      same_sheaves : no_sheaf_among so.world needed ≡ no_sheaf_among so.world (flat_map parts types)
      same_sheaves = among_same so.world needed (flat_map parts types) (λ T i. (counted T).1 i) (λ T i. (counted T).0 i)

      pub seal_stops : (s : Stop) → IsSealStop types so s → IsNeedsStop under fault needed so s
      seal_stops (stop.Refused found) h = for_sheaves ∙ same_sheaves ∙ h
      seal_stops stop.Budget h = (for_sheaves ∙ same_sheaves ∙ h.0, let over = h.1 in omega (arith, over, same_cost))
      seal_stops stop.NoMemory h = tt

      -- where the types are sealed, the statement is accepted
      pub needs_sealed : (mid : Declarations) → AreSealed types so mid → AreNeedsSealed under fault needed so mid
      needs_sealed mid sealed = record {
        accepted = for_sheaves ∙ same_sheaves ∙ sealed.sheaves;
        maps = sealed.maps;
        types = same_growth mid.world sealed.grown;
        types_fit = let fit = sealed.fit in omega (arith, fit, same_cost);
        within = sealed.within;
      }

      -- and the term is over the world
      pub term_sealed : (Γ : List Ty) (t : Term) (U : Ty) (k : Category) → typed (ends_of so.maps) Γ t ≡ Ok U → needed ≡ term_needs (ends_of so.maps) Γ t → AreLawful k so →
          ((n : ℕ) → In needed (Base n) → n < length so.world.functors) → IsCategory so.world.site.category → IsTopology so.world.site → (mid : Declarations) → AreSealed types so mid →
          IsTermSealed under fault needed Γ t U so mid
      term_sealed Γ t U k typing is lawful named category top mid sealed =
          let by = same_growth mid.world sealed.grown in
          let site : mid.world.site ≡ so.world.site = ap (λ (w : CountedWorld). w.site) by.grown.is in
          let functors : mid.world.functors ≡ so.world.functors = ap (λ (w : CountedWorld). w.functors) by.grown.is in
          let are : AreFunctors so.world.site.category so.world.functors = subst (λ k. AreFunctors k so.world.functors) (sym lawful.category) lawful.functors in
          let none : no_sheaf_among so.world (term_needs (ends_of so.maps) Γ t) ≡ None = subst (λ l. no_sheaf_among so.world l ≡ None) is (same_sheaves ∙ sealed.sheaves) in
          let low : (n : ℕ) → In (term_needs (ends_of so.maps) Γ t) (Base n) → n < length so.world.functors = subst (λ l. (n : ℕ) → In l (Base n) → n < length so.world.functors) is named in
          record {
            needs = needs_sealed mid sealed;
            term = record {
              maps = rw (site, functors, sealed.maps) lawful.maps;
              typing = rw sealed.maps typing;
              named = rw (functors, sealed.maps) low;
              counted = subst (λ l. HasTypes l mid.world) (is ∙ ap (λ (m : List MapTable). term_needs (ends_of m) Γ t) (sym sealed.maps)) by.all;
              sheaves = rw (site, functors, sealed.maps) (needs_sheaves so.world.site category top so.world.functors are (ends_of so.maps) Γ t low (found_none so.world (term_needs (ends_of so.maps) Γ t) none));
            };
          }

-- a fault of its types refuses a formula
pub type_stops : (so : Declarations) (under : ℕ) (ctx : Ctx) (φ : Term) → under ≡ 0 → (s : Stop) → IsTypeStop so.maps ctx φ s → IsFormulaStop under ctx φ so s
type_stops so under ctx φ first (stop.Refused found) h =
    fault_refuses so under (formula_fault (ends_of so.maps) (reverse ctx.types, φ)) (formula_needs so.maps ctx φ) first found h
type_stops so under ctx φ first stop.Budget h = absurd h
type_stops so under ctx φ first stop.NoMemory h = tt

-- a statement about the formula
module _ (k : Category) (so : Declarations) (under : ℕ) (ctx : Ctx) (φ : Term) (stmt : Stmt) (refusal_is : refusal_over k so stmt ≡ formula_refusal so.world so.maps under ctx φ) (needs_are : needs (ends_of so.maps) stmt ≡ formula_needs so.maps ctx φ) where
  abbrev fault : Option Fault
  fault = formula_fault (ends_of so.maps) (reverse ctx.types, φ)

  pub formula_stopped : (s : Stop) → IsFormulaStop under ctx φ so s → IsStoppedOver k so stmt s
  formula_stopped = needs_stopped k so stmt under fault (formula_needs so.maps ctx φ) refusal_is needs_are

  pub formula_answered : declares stmt ≡ Some (0, 0) → (mid : Declarations) (answer : Answer) → IsFormulaSealed under ctx φ so mid → AnswersOver k mid stmt answer mid → AreLawful k so → IsAnsweredOver k so stmt answer mid
  formula_answered none mid answer h answers lawful =
      answered k so stmt under fault (formula_needs so.maps ctx φ) refusal_is needs_are mid h.needs answer mid 0 [] none answers (lawful_then k so stmt under fault (formula_needs so.maps ctx φ) refusal_is needs_are mid h.needs lawful)
      (omega arith) (sym (append-nil mid.maps)) refl refl refl h.needs.within

-- what each of the three counts
pub needs-Show : (tables : List MapTable) (under : ℕ) (ctx : Ctx) (φ : Term) → needs (ends_of tables) (Show under ctx φ) ≡ formula_needs tables ctx φ
unfolding needs types_of terms_of
needs-Show tables under ctx φ = append-nil (formula_needs tables ctx φ)

pub needs-Classify : (tables : List MapTable) (under : ℕ) (ctx : Ctx) (φ : Term) → needs (ends_of tables) (Classify under ctx φ) ≡ formula_needs tables ctx φ
unfolding needs types_of terms_of
needs-Classify tables under ctx φ = append-nil (formula_needs tables ctx φ)

pub needs-Valid : (tables : List MapTable) (under : ℕ) (ctx : Ctx) (φ : Term) → needs (ends_of tables) (Valid under ctx φ) ≡ formula_needs tables ctx φ
unfolding needs types_of terms_of
needs-Valid tables under ctx φ = append-nil (formula_needs tables ctx φ)
