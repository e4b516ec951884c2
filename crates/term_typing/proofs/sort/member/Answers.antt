use Rattle.std.proofs.Common.{sym, ap, ◌∙◌}
use Rattle.std.specs.Prelude.{Ok}
use Rattle.topos_model.specs.declared.ty.Ty.{Ty, Omega}
use Rattle.topos_model.specs.formulas.Typing.{Typing, power, expect}
use Rattle.term_typing.proofs.Sorts.{power_pow, power_other}
use Rattle.term_typing.proofs.Typings.{infers_same}
use Rattle.term_typing.proofs.sort.member.Goals as goal

abbrev formula_of : Ty → Ty → Typing
formula_of element S = expect S element (Ok Omega)

pub returns-in_ok-new-in-Pow : goal.returns-in_ok-new-in-Pow
returns-in_ok-new-in-Pow c =
    infers_same (power c.args.set (formula_of c.args.element)) (expect c.get.result.now c.args.element (Ok c.in_ok-new-in-Pow.field-0)) c.expected.result
    (ap (λ T. power T (formula_of c.args.element)) (sym c.into_inner.ensures ∙ c.in-Pow.is) ∙ power_pow _ (formula_of c.args.element) ∙ ap (formula_of c.args.element) (sym c.get.ensures) ∙ ap (λ T. expect c.get.result.now c.args.element (Ok T)) (sym c.in_ok-new-in-Pow.ensures)) (rw c.element.view_is at c.expected.ensures)

pub returns-in_default : goal.returns-in_default
returns-in_default c = ap (λ T. power T (formula_of c.args.element)) (sym c.into_inner.ensures) ∙ power_other c.into_inner.result (formula_of c.args.element) c.in_default.not-Pow
