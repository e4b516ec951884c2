use Rattle.std.proofs.Common.{◌≡◌, List, map, reverse, refl, ap, ap₂, ◌∙◌}
use Rattle.std.proofs.lemmas.Result.{err_from_is_err_and}
use Rattle.topos_model.specs.declared.ty.Ty.{Ty}
use Rattle.topos_model.specs.declared.context.MapTable.{MapTable}
use Rattle.topos_model.specs.declared.stmt.Stmt.TheVariants.{Classify}
use Rattle.topos_model.specs.declared.answer.Answer.TheVariants.{Classified}
use Rattle.topos_model.specs.categories.Category.{Category}
use Rattle.topos_model.specs.statements.Cells.{objects_of}
use Rattle.topos_model.specs.statements.Answers.{classified}
use Rattle.sealed_world.specs.SealedWorlds.{CountedWorld}
use Rattle.formula_answers.specs.Formulas.{world_of}
use Rattle.topos_session.proofs.FormulaAnswers.{formula_stopped, formula_answered, needs-Classify}
use Rattle.topos_session.proofs.StatementForms.{declares-Classify}
use Rattle.topos_session.proofs.formulas.classify.Goals as goal

pub returns-in_err-seal_formula-clause-stop : goal.returns-in_err-seal_formula-clause-stop
returns-in_err-seal_formula-clause-stop c =
    let so = c.args.so.now in
    let p = err_from_is_err_and c.from_residual.result c.from_residual.ensures.1 in
    rw (p.1, p.2) (formula_stopped so.world.site.category so c.args.under c.args.ctx.now c.args.phi.now (Classify c.args.under c.args.ctx.now c.args.phi.now) refl (needs-Classify so.maps c.args.under c.args.ctx.now c.args.phi.now)
    c.in_err-seal_formula.field-0.0 c.in_err-seal_formula.ensures.stop)

pub returns-clause-answer : goal.returns-clause-answer
returns-clause-answer c =
    let so = c.args.so.now in
    let sealed = c.in_ok-seal_formula.ensures.sealed in
    let site : c.seal_formula.new.so.world.site.category ≡ so.world.site.category = ap (λ (w : CountedWorld). w.site.category) sealed.needs.types.grown.is in
    let all = c.in_ok-stages.ensures.stages
    ∙ ap (λ (m : List MapTable). map (λ at. classified (world_of c.seal_formula.new.so.world m) (reverse c.as_slice.result.now) c.args.phi.now at) (objects_of c.seal_formula.new.so.world.site.category)) c.tables.ensures
    ∙ ap₂ (λ (l : List Ty) (k : Category). map (λ at. classified (world_of c.seal_formula.new.so.world c.seal_formula.new.so.maps) (reverse l) c.args.phi.now at) (objects_of k)) c.as_slice.ensures site in
    formula_answered so.world.site.category so c.args.under c.args.ctx.now c.args.phi.now (Classify c.args.under c.args.ctx.now c.args.phi.now) refl (needs-Classify so.maps c.args.under c.args.ctx.now c.args.phi.now)
    (declares-Classify c.args.under c.args.ctx.now c.args.phi.now) c.seal_formula.new.so (Classified c.in_ok-ctx.ctx c.in_ok-stages.stages) sealed (ap₂ Classified c.in_ok-ctx.ensures all, refl) c.requires.lawful
