use Rattle.std.proofs.Common.{length, reverse, refl, subst, ◌∙◌}
use Rattle.std.specs.List.{flat_map}
use Rattle.finite_lists.specs.Members.{In}
use Rattle.std.proofs.lemmas.Result.{err_from_is_err_and, on_ok_weaker, IfErr-weaker}
use Rattle.topos_model.specs.declared.ty.Ty.{Base, Omega}
use Rattle.topos_model.specs.Laws.{IsCategory, IsTopology}
use Rattle.topos_model.specs.statements.Needs.{parts}
use Rattle.topos_model.specs.statements.StatementFaults.{formula_fault}
use Rattle.formula_answers.specs.MapTables.{ends_of}
use Rattle.topos_session.specs.Statements.{formula_needs, AreSealed, IsSealStop, IsFormulaStop}
use Rattle.topos_session.proofs.LawfulDeclarations.{unchanged_kept}
use Rattle.topos_session.proofs.FormulaStatements.{names_declared, context_range, formula_range}
use Rattle.topos_session.proofs.FormulaAnswers.{other_topology, type_stops, well_typed, seal_stops, term_sealed}
use Rattle.topos_session.proofs.formulas.seal_formula.Goals as goal

pub returns-then-under-ne0-clause-stop : goal.returns-then-under-ne0-clause-stop
returns-then-under-ne0-clause-stop c =
    let so = c.args.so.now in
    other_topology so c.args.under (formula_fault (ends_of so.maps) (reverse c.args.ctx.now.types, c.args.phi.now)) (formula_needs so.maps c.args.ctx.now c.args.phi.now) c.if-under-ne0.true

pub returns-then-under-ne0-clause-unchanged : goal.returns-then-under-ne0-clause-unchanged
returns-then-under-ne0-clause-unchanged c = unchanged_kept c.args.so.now c.args.so.now refl

pub returns-in_err-types-clause-stop : goal.returns-in_err-types-clause-stop
returns-in_err-types-clause-stop c =
    let p = err_from_is_err_and c.from_residual.result c.from_residual.ensures.1 in
    rw (p.1, p.2) (type_stops c.args.so.now c.args.under c.args.ctx.now c.args.phi.now c.if-under-ne0.false c.in_err-types.field-0.0 c.in_err-types.ensures.stop)

pub returns-in_err-types-clause-unchanged : goal.returns-in_err-types-clause-unchanged
returns-in_err-types-clause-unchanged c = let p = err_from_is_err_and c.from_residual.result c.from_residual.ensures.1 in rw p.1 (unchanged_kept c.args.so.now c.args.so.now refl)

pub seal_types-requires-clause-named : goal.seal_types-requires-clause-named
seal_types-requires-clause-named c =
    let so = c.args.so.now in
    let n = length so.world.functors in
    λ m i. names_declared so.world.site so.world.functors so.maps c.requires.lawful.maps (reverse c.args.ctx.now.types) c.args.phi.now
    (context_range n (length so.maps) c.args.ctx.now c.args.phi.now c.requires.range) (formula_range n (length so.maps) c.args.ctx.now c.args.phi.now c.requires.range) m
    ((c.in_ok-types.ensures.types.counted (Base m)).0 (subst (λ l. In (flat_map parts l) (Base m)) c.as_slice.ensures i))

pub returns-clause-sealed : goal.returns-clause-sealed
returns-clause-sealed c =
    let so = c.args.so.now in
    let n = length so.world.functors in
    let Γ = reverse c.args.ctx.now.types in
    let fault = formula_fault (ends_of so.maps) (Γ, c.args.phi.now) in
    let needed = formula_needs so.maps c.args.ctx.now c.args.phi.now in
    let is = c.in_ok-types.ensures.types in
    let lawful = subst IsCategory c.cat.ensures c.laws.ensures.lawful in
    let top = subst IsTopology (c.top-top.ensures.site ∙ c.site.ensures) c.top-top.ensures.topology.topology in
    on_ok_weaker c.seal_types.result
    (λ sealed. term_sealed so c.args.under fault needed c.if-under-ne0.false (well_typed so.maps c.args.ctx.now c.args.phi.now is.formula) c.in_ok-types.types is.counted Γ c.args.phi.now Omega so.world.site.category
    is.formula refl c.requires.lawful
    (λ m i. names_declared so.world.site so.world.functors so.maps c.requires.lawful.maps Γ c.args.phi.now (context_range n (length so.maps) c.args.ctx.now c.args.phi.now c.requires.range) (formula_range n (length so.maps) c.args.ctx.now c.args.phi.now c.requires.range) m i)
    lawful top c.seal_types.new.so (subst (λ l. AreSealed l so c.seal_types.new.so) c.as_slice.ensures sealed))
    c.seal_types.ensures.sealed

pub returns-clause-stop : goal.returns-clause-stop
returns-clause-stop c =
    let so = c.args.so.now in
    let fault = formula_fault (ends_of so.maps) (reverse c.args.ctx.now.types, c.args.phi.now) in
    let needed = formula_needs so.maps c.args.ctx.now c.args.phi.now in
    let is = c.in_ok-types.ensures.types in
    IfErr-weaker c.seal_types.result (λ stop. IsSealStop c.as_slice.result.now so stop) (λ stop. IsFormulaStop c.args.under c.args.ctx.now c.args.phi.now so stop)
    (λ stop h. seal_stops so c.args.under fault needed c.if-under-ne0.false (well_typed so.maps c.args.ctx.now c.args.phi.now is.formula) c.in_ok-types.types is.counted stop (subst (λ l. IsSealStop l so stop) c.as_slice.ensures h))
    c.seal_types.ensures.stop
