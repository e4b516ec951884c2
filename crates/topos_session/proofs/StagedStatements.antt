-- What statements answer over what is declared is what they answer in the run, and so with refusals and the budget.
use Rattle.std.proofs.Common.{◌≡◌, ℕ, ◌+◌, ◌<◌, ◌≤◌, Bool, true, List, [], ◌∷◌, ◌++◌, length, slice_get, Option, Some, None, refl, sym, ap, ap₂, ◌∙◌, subst, inl, inr}
use Rattle.std.proofs.lemmas.Bool.{cases_Bool}
use Rattle.finite_lists.specs.Members.{In}
use Rattle.topos_model.specs.declared.ty.Ty.{Ty}
use Rattle.topos_model.specs.declared.doc.Doc.{Doc}
use Rattle.topos_model.specs.declared.stmt.Stmt.{Stmt}
use Rattle.topos_model.specs.declared.answer.Answer.{Answer}
use Rattle.topos_model.specs.declared.fault.Fault.{Fault}
use Rattle.topos_model.specs.declared.fault.Fault.TheVariants.{NotBuilt}
use Rattle.topos_model.specs.categories.Category.{Category}
use Rattle.topos_model.specs.Laws.{IsCategory}
use Rattle.topos_model.specs.categories.Filling.{filled_category}
use Rattle.topos_model.specs.statements.Needs.{under, needs}
use Rattle.topos_model.specs.statements.Cells.{types_under}
use Rattle.topos_model.specs.statements.Declarations.{Declared, cells_so_far, with_types}
use Rattle.topos_model.specs.statements.Answers.{Answers}
use Rattle.topos_model.specs.statements.Refusals.{IsRefusal, late_refusal}
use Rattle.topos_session.specs.Ranges.{is_in_range}
use Rattle.topos_model.specs.statements.Run.{IsCounted, IsAnswered, IsRefused, IsOver, with_its_types, with_its_answer, not_built, at_once}
use Rattle.topos_session.specs.Built.{is_built, today}
use Rattle.sealed_world.specs.SealedWorlds.{CountedWorld, world_cells, cells_with}
use Rattle.topos_model.specs.declared.context.MapTy.{MapTy}
use Rattle.topos_model.specs.declared.context.MapTable.{MapTable}
use Rattle.formula_answers.specs.MapTables.{ends_of}
use Rattle.topos_session.specs.declared.declarations.Declarations.{Declarations}
use Rattle.topos_session.specs.Declarations.{AreLawful, with_counted}
use Rattle.topos_session.specs.Progress.{types_by, declared_by, AreCounted, IsUnderWay}
use Rattle.topos_session.specs.declared.stop.Stop.{Stop}
use Rattle.topos_session.specs.declared.stop.Stop.TheVariants as stop
use Rattle.topos_session.specs.Statements.{AnswersOver, refusal_over, AreSealedFor, IsAnsweredOver, IsOverBudget, by_types, by_answer, IsStoppedOver}
use Rattle.topos_session.specs.Steps.{IsStatementStop}
use Rattle.topos_session.proofs.SessionSteps.{category_is, next_in_range, types_settled}
use Rattle.topos_session.proofs.SiteRefusals.{one_topology, lawful_category}
use Rattle.topos_session.proofs.DeclaredMaps.{ends_known}
use Rattle.topos_session.proofs.LawfulDeclarations.{lawful_sealed}
use Rattle.topos_session.proofs.MadeFunctors.{fits_of}
use Rattle.topos_session.specs.Constructions.{is_construction, fit}
use Rattle.topos_session.proofs.StagedAnswers.{as_refusal, no_late_refusal, refusal_is, built_of, not_built_of, built_under, answers_are}
use Rattle.topos_session.proofs.CellsSoFar.{cells_counted, next_types, types_with, counted_next, counted_same}

-- the cells so far
pub cells_are : (doc : Doc) (so : Declarations) (i : ℕ) (live : Bool) → IsUnderWay doc so i live → live ≡ true → world_cells so.world ≡ cells_so_far doc (declared_by doc so i)
cells_are doc so i live way on =
    sym (cells_counted doc so (types_by doc (ends_of so.maps) i) so.world.types (one_topology doc.tops way.single) way.site (counted_same (types_under 0 (types_by doc (ends_of so.maps) i)) so.world (way.counted on)))

-- one statement of a run that is under way
module _ (doc : Doc) (so : Declarations) (i : ℕ) (way : IsUnderWay doc so i true) (stmt : Stmt) (next : slice_get doc.stmts i ≡ Some stmt) where
  abbrev k : Category
  k = filled_category doc.cat

  abbrev budget : ℕ
  budget = so.world.budget

  abbrev here : Declared
  here = declared_by doc so i

  abbrev ends : List MapTy
  ends = ends_of so.maps

  abbrev behind : List (ℕ × List Ty)
  behind = types_by doc ends (i + 1)

  lawful : IsCategory k
  lawful = lawful_category doc way.range way.faultless

  site_category : so.world.site.category ≡ k
  site_category = category_is doc so i true way

  declared_lawful : AreLawful k so
  declared_lawful = subst (λ (k : Category). AreLawful k so) site_category way.lawful

  range : is_in_range k.objects k.ends (length so.world.functors) (length so.maps) stmt ≡ true
  range = subst (λ (k : Category). is_in_range k.objects k.ends (length so.world.functors) (length so.maps) stmt ≡ true) site_category (next_in_range doc so i true stmt way next)

  module _ (accepted : refusal_over k so stmt ≡ None) where
    built : is_built stmt ≡ true
    built = built_of doc so way.site declared_lawful here.types stmt accepted

    first : under stmt ≡ 0
    first = built_under stmt built

    with_its : with_types here stmt ≡ with_counted so behind
    unfolding with_types
    with_its =
        ap (λ e. with_counted so (types_by doc ends i ++ (under stmt, needs e stmt) ∷ [])) (ends_known doc so here.types) ∙ ap (with_counted so) (sym (next_types doc ends i stmt next))

    -- the cells with the types of the statement
    types_cost : cells_so_far doc (with_types here stmt) ≡ cells_with so.world (needs ends stmt)
    types_cost =
        ap (cells_so_far doc) with_its
        ∙ cells_counted doc so behind (so.world.types ++ needs ends stmt) (one_topology doc.tops way.single) way.site (types_with doc so.world ends i stmt next first (way.counted refl))

    unrefused : IsRefusal doc here stmt None
    unrefused = as_refusal doc so way.site declared_lawful here.types stmt None built (refusal_is doc so way.site declared_lawful here.types stmt range built ∙ accepted)

    counted_types : cells_with so.world (needs ends stmt) ≤ budget → IsCounted today doc budget here stmt
    counted_types fit = record { is_run = built; accepted = unrefused; within = subst (λ n. n ≤ budget) (sym types_cost) fit }

    goes_on : late_refusal doc (with_types here stmt) stmt ≡ None
    goes_on = subst (λ (d : Declared). late_refusal doc d stmt ≡ None) (sym with_its) (no_late_refusal doc so way.site declared_lawful here.types stmt behind built)

    module _ (mid : Declarations) (sealed : AreSealedFor stmt so mid) where
      functors_same : mid.world.functors ≡ so.world.functors
      functors_same = ap (λ (w : CountedWorld). w.functors) sealed.types.grown.is

      mid_same : with_counted mid behind ≡ with_counted so behind
      mid_same =
          ap₂ (λ (w : CountedWorld) (m : List MapTable). with_counted (record { world = w; maps = m }) behind) sealed.types.grown.is sealed.maps

      site_same : mid.world.site ≡ so.world.site
      site_same = ap (λ (w : CountedWorld). w.site) sealed.types.grown.is

      mid_lawful : AreLawful k mid
      mid_lawful = lawful_sealed k so declared_lawful mid site_same functors_same sealed.maps

      mid_range : is_in_range k.objects k.ends (length mid.world.functors) (length mid.maps) stmt ≡ true
      mid_range = rw (functors_same, sealed.maps) range

      mid_fits : is_construction stmt ≡ true → fit mid.maps stmt ≡ true
      mid_fits kind = rw sealed.maps (fits_of k so declared_lawful stmt kind accepted)

      answers : (answer : Answer) (after : Declarations) → AnswersOver k mid stmt answer after → Answers doc (with_types here stmt) stmt answer (with_counted after behind)
      answers answer after over =
          subst (λ (d : Declared). Answers doc d stmt answer (with_counted after behind)) (mid_same ∙ sym with_its)
          (answers_are doc mid (site_same ∙ way.site) mid_lawful behind answer after stmt mid_range built mid_fits over)

      -- behind the statement exactly its types and those before are sealed
      pub counted_after : (after : Declarations) → after.world.types ≡ mid.world.types → AreCounted (types_under 0 behind) after.world
      counted_after after types =
          let c = counted_next doc so.world ends i stmt next first (way.counted refl) mid.world sealed.types in
          record { sealed = λ T j u. subst (λ l. In l T) (sym types) (c.sealed T j u); only = λ T j. c.only T (subst (λ l. In l T) types j) }

      costs : (after : Declarations) → after.world.site ≡ so.world.site → after.world.types ≡ mid.world.types → cells_so_far doc (with_counted after behind) ≡ world_cells after.world
      costs after site types =
          cells_counted doc after behind after.world.types (one_topology doc.tops way.single) (site ∙ way.site) (counted_same (types_under 0 behind) after.world (counted_after after types))

  -- the types that are counted, with the maps that the statement declares
  pub behind_same : (answer : Answer) (after : Declarations) → IsAnsweredOver k so stmt answer after → types_by doc (ends_of after.maps) (i + 1) ≡ behind
  behind_same answer after over = types_settled doc so i true stmt way next (built over.accepted) over.maps.0 after.maps over.maps.1

  answered_first : (answer : Answer) (after : Declarations) → IsAnsweredOver k so stmt answer after → IsAnswered today doc budget here stmt answer (with_counted after behind)
  answered_first answer after over = record {
    types = counted_types over.accepted over.types_fit;
    goes_on = goes_on over.accepted;
    answers = answers over.accepted over.mid over.sealed answer after over.answers;
    within = subst (λ n. n ≤ budget) (sym (costs over.accepted over.mid over.sealed after over.kept.0 over.kept.1)) over.within;
  }

  pub answered_here : (answer : Answer) (after : Declarations) → IsAnsweredOver k so stmt answer after → IsAnswered today doc budget here stmt answer (declared_by doc after (i + 1))
  answered_here answer after over =
      subst (λ l. IsAnswered today doc budget here stmt answer (with_counted after l)) (sym (behind_same answer after over)) (answered_first answer after over)

  pub refused_here : (fault : Fault) → refusal_over k so stmt ≡ Some fault → IsRefused today doc budget here stmt fault
  refused_here fault found =
      elim (cases_Bool (is_built stmt)) [
        | inl built ↦ at_once built (as_refusal doc so way.site declared_lawful here.types stmt (Some fault) built (refusal_is doc so way.site declared_lawful here.types stmt range built ∙ found))
        | inr out ↦ subst (IsRefused today doc budget here stmt)
            (ap (λ (o : Option Fault). elim o [ Some f ↦ f | None ↦ NotBuilt ]) (sym (not_built_of doc so way.site declared_lawful here.types stmt out) ∙ found)) (not_built out)
      ]

  pub over_here : IsOverBudget k so stmt → IsOver today doc budget here stmt
  over_here (by_types accepted over) = with_its_types (built accepted) (unrefused accepted) (subst (λ n. budget < n) (sym (types_cost accepted)) over)
  over_here (by_answer mid answer after accepted sealed fit over site types more) =
      with_its_answer answer (with_counted after behind) (counted_types accepted fit) (goes_on accepted) (answers accepted mid sealed answer after over)
      (subst (λ n. budget < n) (sym (costs accepted mid sealed after site types)) more)

module _ (doc : Doc) (so : Declarations) (i : ℕ) (way : IsUnderWay doc so i true) (stmt : Stmt) (next : slice_get doc.stmts i ≡ Some stmt) where
  abbrev here_category : Category
  here_category = so.world.site.category

  at_filled : (P : Category → Type 0) → P so.world.site.category → P (filled_category doc.cat)
  at_filled P = subst P (category_is doc so i true way)

  pub answered_next : (answer : Answer) (after : Declarations) → IsAnsweredOver so.world.site.category so stmt answer after → IsAnswered today doc so.world.budget (declared_by doc so i) stmt answer (declared_by doc after (i + 1))
  answered_next answer after over = answered_here doc so i way stmt next answer after (at_filled (λ k. IsAnsweredOver k so stmt answer after) over)

  pub counted_behind_it : (answer : Answer) (after : Declarations) → IsAnsweredOver so.world.site.category so stmt answer after → AreCounted (types_under 0 (types_by doc (ends_of after.maps) (i + 1))) after.world
  counted_behind_it answer after over =
      let o = at_filled (λ k. IsAnsweredOver k so stmt answer after) over in
      subst (λ l. AreCounted (types_under 0 l) after.world) (sym (behind_same doc so i way stmt next answer after o)) (counted_after doc so i way stmt next o.accepted o.mid o.sealed after o.kept.1)

  pub built_here : (answer : Answer) (after : Declarations) → IsAnsweredOver so.world.site.category so stmt answer after → is_built stmt ≡ true
  built_here answer after over =
      let o = at_filled (λ k. IsAnsweredOver k so stmt answer after) over in
      built_of doc so way.site (subst (λ (k : Category). AreLawful k so) (category_is doc so i true way) way.lawful) [] stmt o.accepted

  pub stopped_next : (s : Stop) → IsStoppedOver so.world.site.category so stmt s → IsStatementStop (record { doc = doc; budget = so.world.budget; declared = declared_by doc so i; answered = i; live = true }) stmt s
  stopped_next (stop.Refused fault) stopped = refused_here doc so i way stmt next fault (at_filled (λ k. refusal_over k so stmt ≡ Some fault) stopped)
  stopped_next stop.Budget stopped = over_here doc so i way stmt next (at_filled (λ k. IsOverBudget k so stmt) stopped)
  stopped_next stop.NoMemory stopped = tt
