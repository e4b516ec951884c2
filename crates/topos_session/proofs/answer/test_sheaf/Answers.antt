use Rattle.std.proofs.Common.{◌≡◌, subst}
use Rattle.std.proofs.lemmas.Bool.{eq-eqb}
use Rattle.topos_model.specs.declared.stmt.Stmt.TheVariants as statement
use Rattle.topos_model.specs.topologies.Sheaves.{sheaf_fault}
use Rattle.sheaf_test.specs.Verdicts.{verdict_of}
use Rattle.topos_session.specs.Functors.{functor_at}
use Rattle.topos_session.specs.Statements.{IsAnsweredOver}
use Rattle.topos_session.proofs.StatementAnswers.{answer_of, sheaf_tested}
use Rattle.topos_session.proofs.answer.test_sheaf.Goals as goal

pub returns-in-Sheaf-clause-answer : goal.returns-in-Sheaf-clause-answer
returns-in-Sheaf-clause-answer c =
    let so = c.args.so.now in
    let verdict = c.in_ok-test.field-0 in
    let is = subst (λ s. verdict ≡ verdict_of (sheaf_fault s (functor_at so.world.functors c.args.x))) c.site.ensures
    (subst (λ X. verdict ≡ verdict_of (sheaf_fault c.site.result.now X)) c.functor.ensures c.in_ok-test.ensures.verdict) in
    subst (λ v. IsAnsweredOver so.world.site.category so (statement.Sheaf c.args.under c.args.x) (answer_of c.args.x v) so) c.in-Sheaf.is
    (sheaf_tested so.world.site.category so c.requires.fits c.args.under c.args.x (eq-eqb c.args.under 0 c.if-under-ne0.false) verdict is c.requires.lawful)

pub returns-in-Fails-clause-answer : goal.returns-in-Fails-clause-answer
returns-in-Fails-clause-answer c =
    let so = c.args.so.now in
    let verdict = c.in_ok-test.field-0 in
    let is = subst (λ s. verdict ≡ verdict_of (sheaf_fault s (functor_at so.world.functors c.args.x))) c.site.ensures
    (subst (λ X. verdict ≡ verdict_of (sheaf_fault c.site.result.now X)) c.functor.ensures c.in_ok-test.ensures.verdict) in
    subst (λ v. IsAnsweredOver so.world.site.category so (statement.Sheaf c.args.under c.args.x) (answer_of c.args.x v) so) c.in-Fails.is
    (sheaf_tested so.world.site.category so c.requires.fits c.args.under c.args.x (eq-eqb c.args.under 0 c.if-under-ne0.false) verdict is c.requires.lawful)
