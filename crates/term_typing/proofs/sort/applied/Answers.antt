use Rattle.std.proofs.Common.{sym, ap, ◌∙◌}
use Rattle.std.specs.Prelude.{Ok}
use Rattle.topos_model.specs.declared.ty.Ty.{Ty}
use Rattle.topos_model.specs.formulas.Typing.{Typing, function, expect}
use Rattle.term_typing.proofs.Sorts.{function_fun, function_other}
use Rattle.term_typing.proofs.Typings.{infers_same}
use Rattle.term_typing.proofs.sort.applied.Goals as goal

abbrev value_at : Ty → Ty → Ty → Typing
value_at argument S V = expect S argument (Ok V)

pub returns-in-Fun : goal.returns-in-Fun
returns-in-Fun c =
    infers_same (function c.args.found (value_at c.args.argument)) (expect c.get.result.now c.args.argument (Ok c.in-Fun.codomain)) c.expected.result
    (ap (λ T. function T (value_at c.args.argument)) (sym c.into_inner.ensures ∙ c.in-Fun.is) ∙ function_fun _ _ (value_at c.args.argument) ∙ ap (λ S. expect S c.args.argument (Ok c.in-Fun.codomain)) (sym c.get.ensures)) c.expected.ensures

pub returns-in_default : goal.returns-in_default
returns-in_default c = ap (λ T. function T (value_at c.args.argument)) (sym c.into_inner.ensures) ∙ function_other c.into_inner.result (value_at c.args.argument) c.in_default.not-Fun
