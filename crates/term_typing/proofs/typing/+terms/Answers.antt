use Rattle.std.proofs.Common.{ap, sym, ◌∙◌, reverse}
use Rattle.std.specs.Prelude.{Ok}
use Rattle.std.proofs.lemmas.Result.{err_from_is_err_and, on_ok_weaker}
use Rattle.topos_model.specs.declared.ty.Ty.{Pow, Fun}
use Rattle.topos_model.proofs.TypingEquations.{typed-Var, typed-Star}
use Rattle.term_typing.specs.Noted.{inside}
use Rattle.term_typing.proofs.TermTypings.{app_fails, app_typed, compr_fails, compr_typed, compr_unmet, connected_typed, constant_typed, eq_fails, eq_typed, eval_fails, eval_typed, fst_fails, fst_typed, lam_fails, lam_typed, member_fails, member_typed, not_fails, not_typed, pair_fails, pair_typed, quantified_fails, quantified_typed, snd_fails, snd_typed}
use Rattle.term_typing.proofs.NotedEquations.{inside-Var, inside-Star, inside-Pair, inside-Fst, inside-Snd, inside-App, inside-Eval, inside-Lam, inside-Compr, inside-Eq, inside-Member, inside-Not, inside_constant, inside_connected, inside_quantified}
use Rattle.term_typing.proofs.Listing.{always, nothing_listed, part_listed, both_listed, whole_listed}
use Rattle.term_typing.proofs.typing.+terms.Goals as goal

pub by_form-returns-in_err-left-in-Pair-clause-typing : goal.by_form-returns-in_err-left-in-Pair-clause-typing
by_form-returns-in_err-left-in-Pair-clause-typing t c =
    let p = err_from_is_err_and c.from_residual-in_err-left-in-Pair.result c.from_residual-in_err-left-in-Pair.ensures.1 in
    rw (p.1, p.2, c.in-Pair.is) (pair_fails c.args.maps.now (reverse c.args.types.now) c.in-Pair.left c.in-Pair.right c.in_err-left-in-Pair.field-0.0 c.in_err-left-in-Pair.ensures.typing)

pub by_form-returns-in_ok-new-in-Pair-clause-typing : goal.by_form-returns-in_ok-new-in-Pair-clause-typing
by_form-returns-in_ok-new-in-Pair-clause-typing t c =
    rw c.in-Pair.is (pair_typed c.args.maps.now (reverse c.args.types.now) c.in-Pair.left c.in-Pair.right c.in_ok-left-in-Pair.left c.in_ok-left-in-Pair.right (Ok c.in_ok-new-in-Pair.field-0) c.in_ok-left-in-Pair.ensures.typing.0 c.in_ok-left-in-Pair.ensures.typing.1 (ap Ok (sym c.in_ok-new-in-Pair.ensures)))

pub by_form-returns-in_ok-new-in-Pair-clause-noted : goal.by_form-returns-in_ok-new-in-Pair-clause-noted
by_form-returns-in_ok-new-in-Pair-clause-noted t c =
    both_listed c.args.listed.now _ _ _ _ (ap (inside c.args.maps.now (reverse c.args.types.now)) c.in-Pair.is ∙ inside-Pair c.args.maps.now (reverse c.args.types.now) c.in-Pair.left c.in-Pair.right) c.in_ok-left-in-Pair.ensures.noted

pub by_form-returns-in_err-function-in-Eval-clause-typing : goal.by_form-returns-in_err-function-in-Eval-clause-typing
by_form-returns-in_err-function-in-Eval-clause-typing t c =
    let p = err_from_is_err_and c.from_residual-in_err-function-in-Eval.result c.from_residual-in_err-function-in-Eval.ensures.1 in
    rw (p.1, p.2, c.in-Eval.is) (eval_fails c.args.maps.now (reverse c.args.types.now) c.in-Eval.function c.in-Eval.argument c.in_err-function-in-Eval.field-0.0 c.in_err-function-in-Eval.ensures.typing)

pub by_form-returns-in_ok-function-in-Eval-clause-typing : goal.by_form-returns-in_ok-function-in-Eval-clause-typing
by_form-returns-in_ok-function-in-Eval-clause-typing t c =
    rw c.in-Eval.is (eval_typed c.args.maps.now (reverse c.args.types.now) c.in-Eval.function c.in-Eval.argument c.in_ok-function-in-Eval.function c.in_ok-function-in-Eval.argument c.applied.result c.in_ok-function-in-Eval.ensures.typing.0 c.in_ok-function-in-Eval.ensures.typing.1 c.applied.ensures)

pub by_form-returns-in_ok-function-in-Eval-clause-noted : goal.by_form-returns-in_ok-function-in-Eval-clause-noted
by_form-returns-in_ok-function-in-Eval-clause-noted t c =
    always c.applied.result _ (both_listed c.args.listed.now _ _ _ _ (ap (inside c.args.maps.now (reverse c.args.types.now)) c.in-Eval.is ∙ inside-Eval c.args.maps.now (reverse c.args.types.now) c.in-Eval.function c.in-Eval.argument) c.in_ok-function-in-Eval.ensures.noted)

pub by_form-returns-in_err-left-in-Eq-clause-typing : goal.by_form-returns-in_err-left-in-Eq-clause-typing
by_form-returns-in_err-left-in-Eq-clause-typing t c =
    let p = err_from_is_err_and c.from_residual-in_err-left-in-Eq.result c.from_residual-in_err-left-in-Eq.ensures.1 in
    rw (p.1, p.2, c.in-Eq.is) (eq_fails c.args.maps.now (reverse c.args.types.now) c.in-Eq.left c.in-Eq.right c.in_err-left-in-Eq.field-0.0 c.in_err-left-in-Eq.ensures.typing)

pub by_form-returns-in_ok-left-in-Eq-clause-typing : goal.by_form-returns-in_ok-left-in-Eq-clause-typing
by_form-returns-in_ok-left-in-Eq-clause-typing t c =
    rw c.in-Eq.is (eq_typed c.args.maps.now (reverse c.args.types.now) c.in-Eq.left c.in-Eq.right c.in_ok-left-in-Eq.left c.in_ok-left-in-Eq.right c.equation.result c.in_ok-left-in-Eq.ensures.typing.0 c.in_ok-left-in-Eq.ensures.typing.1 c.equation.ensures)

pub by_form-returns-in_ok-left-in-Eq-clause-noted : goal.by_form-returns-in_ok-left-in-Eq-clause-noted
by_form-returns-in_ok-left-in-Eq-clause-noted t c =
    always c.equation.result _ (both_listed c.args.listed.now _ _ _ _ (ap (inside c.args.maps.now (reverse c.args.types.now)) c.in-Eq.is ∙ inside-Eq c.args.maps.now (reverse c.args.types.now) c.in-Eq.left c.in-Eq.right) c.in_ok-left-in-Eq.ensures.noted)

pub by_form-returns-in_err-element-in-Member-clause-typing : goal.by_form-returns-in_err-element-in-Member-clause-typing
by_form-returns-in_err-element-in-Member-clause-typing t c =
    let p = err_from_is_err_and c.from_residual-in_err-element-in-Member.result c.from_residual-in_err-element-in-Member.ensures.1 in
    rw (p.1, p.2, c.in-Member.is) (member_fails c.args.maps.now (reverse c.args.types.now) c.in-Member.element c.in-Member.set c.in_err-element-in-Member.field-0.0 c.in_err-element-in-Member.ensures.typing)

pub by_form-returns-in_ok-element-in-Member-clause-typing : goal.by_form-returns-in_ok-element-in-Member-clause-typing
by_form-returns-in_ok-element-in-Member-clause-typing t c =
    rw c.in-Member.is (member_typed c.args.maps.now (reverse c.args.types.now) c.in-Member.element c.in-Member.set c.in_ok-element-in-Member.element c.in_ok-element-in-Member.set c.member.result c.in_ok-element-in-Member.ensures.typing.0 c.in_ok-element-in-Member.ensures.typing.1 c.member.ensures)

pub by_form-returns-in_ok-element-in-Member-clause-noted : goal.by_form-returns-in_ok-element-in-Member-clause-noted
by_form-returns-in_ok-element-in-Member-clause-noted t c =
    always c.member.result _ (both_listed c.args.listed.now _ _ _ _ (ap (inside c.args.maps.now (reverse c.args.types.now)) c.in-Member.is ∙ inside-Member c.args.maps.now (reverse c.args.types.now) c.in-Member.element c.in-Member.set) c.in_ok-element-in-Member.ensures.noted)

pub by_form-returns-in_err-inferred-in-Fst-clause-typing : goal.by_form-returns-in_err-inferred-in-Fst-clause-typing
by_form-returns-in_err-inferred-in-Fst-clause-typing t c =
    let p = err_from_is_err_and c.from_residual-in_err-inferred-in-Fst.result c.from_residual-in_err-inferred-in-Fst.ensures.1 in
    rw (p.1, p.2, c.in-Fst.is) (fst_fails c.args.maps.now (reverse c.args.types.now) c.in-Fst.of c.in_err-inferred-in-Fst.field-0.0 (rw c.get.ensures at c.in_err-inferred-in-Fst.ensures.typing))

pub by_form-returns-in_ok-inferred-in-Fst-clause-typing : goal.by_form-returns-in_ok-inferred-in-Fst-clause-typing
by_form-returns-in_ok-inferred-in-Fst-clause-typing t c =
    rw c.in-Fst.is (fst_typed c.args.maps.now (reverse c.args.types.now) c.in-Fst.of c.in_ok-inferred-in-Fst.field-0 c.left_of.result (rw c.get.ensures at c.in_ok-inferred-in-Fst.ensures.typing) c.left_of.ensures)

pub by_form-returns-in_ok-inferred-in-Fst-clause-noted : goal.by_form-returns-in_ok-inferred-in-Fst-clause-noted
by_form-returns-in_ok-inferred-in-Fst-clause-noted t c =
    always c.left_of.result _ (part_listed c.args.listed.now _ _ _ (ap (inside c.args.maps.now (reverse c.args.types.now)) c.in-Fst.is ∙ inside-Fst c.args.maps.now (reverse c.args.types.now) c.in-Fst.of) (rw c.get.ensures at c.in_ok-inferred-in-Fst.ensures.noted))

pub by_form-returns-in_err-inferred-in-Snd-clause-typing : goal.by_form-returns-in_err-inferred-in-Snd-clause-typing
by_form-returns-in_err-inferred-in-Snd-clause-typing t c =
    let p = err_from_is_err_and c.from_residual-in_err-inferred-in-Snd.result c.from_residual-in_err-inferred-in-Snd.ensures.1 in
    rw (p.1, p.2, c.in-Snd.is) (snd_fails c.args.maps.now (reverse c.args.types.now) c.in-Snd.of c.in_err-inferred-in-Snd.field-0.0 (rw c.get-in-Snd.ensures at c.in_err-inferred-in-Snd.ensures.typing))

pub by_form-returns-in_ok-inferred-in-Snd-clause-typing : goal.by_form-returns-in_ok-inferred-in-Snd-clause-typing
by_form-returns-in_ok-inferred-in-Snd-clause-typing t c =
    rw c.in-Snd.is (snd_typed c.args.maps.now (reverse c.args.types.now) c.in-Snd.of c.in_ok-inferred-in-Snd.field-0 c.right_of.result (rw c.get-in-Snd.ensures at c.in_ok-inferred-in-Snd.ensures.typing) c.right_of.ensures)

pub by_form-returns-in_ok-inferred-in-Snd-clause-noted : goal.by_form-returns-in_ok-inferred-in-Snd-clause-noted
by_form-returns-in_ok-inferred-in-Snd-clause-noted t c =
    always c.right_of.result _ (part_listed c.args.listed.now _ _ _ (ap (inside c.args.maps.now (reverse c.args.types.now)) c.in-Snd.is ∙ inside-Snd c.args.maps.now (reverse c.args.types.now) c.in-Snd.of) (rw c.get-in-Snd.ensures at c.in_ok-inferred-in-Snd.ensures.noted))

pub by_form-returns-in_err-found-in-App-clause-typing : goal.by_form-returns-in_err-found-in-App-clause-typing
by_form-returns-in_err-found-in-App-clause-typing t c =
    let p = err_from_is_err_and c.from_residual-in_err-found-in-App.result c.from_residual-in_err-found-in-App.ensures.1 in
    rw (p.1, p.2, c.in-App.is) (app_fails c.args.maps.now (reverse c.args.types.now) c.in-App.map c.in-App.of c.in_err-found-in-App.field-0.0 (rw c.get-in-App.ensures at c.in_err-found-in-App.ensures.typing))

pub by_form-returns-in_ok-found-in-App-clause-typing : goal.by_form-returns-in_ok-found-in-App-clause-typing
by_form-returns-in_ok-found-in-App-clause-typing t c =
    rw c.in-App.is (app_typed c.args.maps.now (reverse c.args.types.now) c.in-App.map c.in-App.of c.in_ok-found-in-App.found c.image.result (rw c.get-in-App.ensures at c.in_ok-found-in-App.ensures.typing) c.image.ensures)

pub by_form-returns-in_ok-found-in-App-clause-noted : goal.by_form-returns-in_ok-found-in-App-clause-noted
by_form-returns-in_ok-found-in-App-clause-noted t c =
    always c.image.result _ (part_listed c.args.listed.now _ _ _ (ap (inside c.args.maps.now (reverse c.args.types.now)) c.in-App.is ∙ inside-App c.args.maps.now (reverse c.args.types.now) c.in-App.map c.in-App.of) (rw c.get-in-App.ensures at c.in_ok-found-in-App.ensures.noted))

pub by_form-returns-in_err-inferred-in-Not-clause-typing : goal.by_form-returns-in_err-inferred-in-Not-clause-typing
by_form-returns-in_err-inferred-in-Not-clause-typing t c =
    let p = err_from_is_err_and c.from_residual-in_err-inferred-in-Not.result c.from_residual-in_err-inferred-in-Not.ensures.1 in
    rw (p.1, p.2, c.in-Not.is) (not_fails c.args.maps.now (reverse c.args.types.now) c.in-Not.of c.in_err-inferred-in-Not.field-0.0 (rw c.get-in-Not.ensures at c.in_err-inferred-in-Not.ensures.typing))

pub by_form-returns-in_ok-inferred-in-Not-clause-typing : goal.by_form-returns-in_ok-inferred-in-Not-clause-typing
by_form-returns-in_ok-inferred-in-Not-clause-typing t c =
    rw c.in-Not.is (not_typed c.args.maps.now (reverse c.args.types.now) c.in-Not.of c.in_ok-inferred-in-Not.field-0 c.formula-in-Not.result (rw c.get-in-Not.ensures at c.in_ok-inferred-in-Not.ensures.typing) c.formula-in-Not.ensures)

pub by_form-returns-in_ok-inferred-in-Not-clause-noted : goal.by_form-returns-in_ok-inferred-in-Not-clause-noted
by_form-returns-in_ok-inferred-in-Not-clause-noted t c =
    always c.formula-in-Not.result _ (part_listed c.args.listed.now _ _ _ (ap (inside c.args.maps.now (reverse c.args.types.now)) c.in-Not.is ∙ inside-Not c.args.maps.now (reverse c.args.types.now) c.in-Not.of) (rw c.get-in-Not.ensures at c.in_ok-inferred-in-Not.ensures.noted))

pub by_form-returns-in_err-codomain-in-Lam-clause-typing : goal.by_form-returns-in_err-codomain-in-Lam-clause-typing
by_form-returns-in_err-codomain-in-Lam-clause-typing t c =
    let p = err_from_is_err_and c.from_residual-in_err-codomain-in-Lam.result c.from_residual-in_err-codomain-in-Lam.ensures.1 in
    rw (p.1, p.2, c.in-Lam.is) (lam_fails c.args.maps.now (reverse c.args.types.now) c.in-Lam.ty c.in-Lam.body c.in_err-codomain-in-Lam.field-0.0 c.in_err-codomain-in-Lam.ensures.typing)

pub by_form-returns-in_ok-new-in-Lam-clause-typing : goal.by_form-returns-in_ok-new-in-Lam-clause-typing
by_form-returns-in_ok-new-in-Lam-clause-typing t c =
    rw c.in-Lam.is (lam_typed c.args.maps.now (reverse c.args.types.now) c.in-Lam.ty c.in-Lam.body c.in_ok-codomain-in-Lam.codomain c.in_ok-codomain-in-Lam.ensures.typing ∙ ap Ok (ap (λ S. Fun S c.in_ok-codomain-in-Lam.codomain) (sym (c.in_ok-domain-in-Lam.ensures ∙ c.in_ok-copy-in-Lam.ensures)) ∙ sym c.in_ok-new-in-Lam.ensures))

pub by_form-returns-in_ok-new-in-Lam-clause-noted : goal.by_form-returns-in_ok-new-in-Lam-clause-noted
by_form-returns-in_ok-new-in-Lam-clause-noted t c =
    part_listed c.args.listed.now _ _ _ (ap (inside c.args.maps.now (reverse c.args.types.now)) c.in-Lam.is ∙ inside-Lam c.args.maps.now (reverse c.args.types.now) c.in-Lam.ty c.in-Lam.body) c.in_ok-codomain-in-Lam.ensures.noted

pub by_form-returns-in_err-under_binder-in-Compr-clause-typing : goal.by_form-returns-in_err-under_binder-in-Compr-clause-typing
by_form-returns-in_err-under_binder-in-Compr-clause-typing t c =
    let p = err_from_is_err_and c.from_residual-in_err-under_binder-in-Compr.result c.from_residual-in_err-under_binder-in-Compr.ensures.1 in
    rw (p.1, p.2, c.in-Compr.is) (compr_fails c.args.maps.now (reverse c.args.types.now) c.in-Compr.ty c.in-Compr.body c.in_err-under_binder-in-Compr.field-0.0 c.in_err-under_binder-in-Compr.ensures.typing)

pub by_form-returns-in_err-formula-in-Compr-clause-typing : goal.by_form-returns-in_err-formula-in-Compr-clause-typing
by_form-returns-in_err-formula-in-Compr-clause-typing t c =
    let p = err_from_is_err_and c.from_residual-in_err-formula-in-Compr.result c.from_residual-in_err-formula-in-Compr.ensures.1 in
    rw (p.1, p.2, c.in-Compr.is) (compr_unmet c.args.maps.now (reverse c.args.types.now) c.in-Compr.ty c.in-Compr.body c.in_ok-under_binder-in-Compr.field-0 c.in_err-formula-in-Compr.field-0.0 c.in_ok-under_binder-in-Compr.ensures.typing c.in_err-formula-in-Compr.ensures)

pub by_form-returns-in_ok-new-in-Compr-clause-typing : goal.by_form-returns-in_ok-new-in-Compr-clause-typing
by_form-returns-in_ok-new-in-Compr-clause-typing t c =
    rw c.in-Compr.is (compr_typed c.args.maps.now (reverse c.args.types.now) c.in-Compr.ty c.in-Compr.body c.in_ok-under_binder-in-Compr.field-0 c.in_ok-formula-in-Compr.field-0 c.in_ok-under_binder-in-Compr.ensures.typing c.in_ok-formula-in-Compr.ensures ∙ ap Ok (ap Pow (sym (c.in_ok-of-in-Compr.ensures ∙ c.in_ok-copy-in-Compr.ensures)) ∙ sym c.in_ok-new-in-Compr.ensures))

pub by_form-returns-in_ok-new-in-Compr-clause-noted : goal.by_form-returns-in_ok-new-in-Compr-clause-noted
by_form-returns-in_ok-new-in-Compr-clause-noted t c =
    part_listed c.args.listed.now _ _ _ (ap (inside c.args.maps.now (reverse c.args.types.now)) c.in-Compr.is ∙ inside-Compr c.args.maps.now (reverse c.args.types.now) c.in-Compr.ty c.in-Compr.body) c.in_ok-under_binder-in-Compr.ensures.noted

pub by_form-returns-in_err-under_binder-in-Forall-clause-typing : goal.by_form-returns-in_err-under_binder-in-Forall-clause-typing
by_form-returns-in_err-under_binder-in-Forall-clause-typing t c =
    let p = err_from_is_err_and c.from_residual-in_err-under_binder-in-Forall.result c.from_residual-in_err-under_binder-in-Forall.ensures.1 in
    rw (p.1, p.2) (quantified_fails c.args.maps.now (reverse c.args.types.now) c.args.term.now c.in-Forall.ty c.in-Forall.body c.in_err-under_binder-in-Forall.field-0.0 c.in-Forall.is c.in_err-under_binder-in-Forall.ensures.typing)

pub by_form-returns-in_ok-under_binder-in-Forall-clause-typing : goal.by_form-returns-in_ok-under_binder-in-Forall-clause-typing
by_form-returns-in_ok-under_binder-in-Forall-clause-typing t c =
    quantified_typed c.args.maps.now (reverse c.args.types.now) c.args.term.now c.in-Forall.ty c.in-Forall.body c.in_ok-under_binder-in-Forall.field-0 c.formula-in-Forall.result c.in-Forall.is c.in_ok-under_binder-in-Forall.ensures.typing c.formula-in-Forall.ensures

pub by_form-returns-in_ok-under_binder-in-Forall-clause-noted : goal.by_form-returns-in_ok-under_binder-in-Forall-clause-noted
by_form-returns-in_ok-under_binder-in-Forall-clause-noted t c =
    always c.formula-in-Forall.result _ (part_listed c.args.listed.now _ _ _ (inside_quantified c.args.maps.now (reverse c.args.types.now) c.args.term.now c.in-Forall.ty c.in-Forall.body c.in-Forall.is) c.in_ok-under_binder-in-Forall.ensures.noted)

pub by_form-returns-in-And-clause-typing : goal.by_form-returns-in-And-clause-typing
by_form-returns-in-And-clause-typing t c =
    connected_typed c.args.maps.now (reverse c.args.types.now) c.args.term.now c.in-And.left c.in-And.right c.formulas.result c.in-And.is c.formulas.ensures.typing

pub by_form-returns-in-And-clause-noted : goal.by_form-returns-in-And-clause-noted
by_form-returns-in-And-clause-noted t c =
    on_ok_weaker c.formulas.result (both_listed c.args.listed.now _ _ _ _ (inside_connected c.args.maps.now (reverse c.args.types.now) c.args.term.now c.in-And.left c.in-And.right c.in-And.is)) c.formulas.ensures.noted

pub by_form-returns-in-Var-clause-typing : goal.by_form-returns-in-Var-clause-typing
by_form-returns-in-Var-clause-typing t c =
    rw (c.in-Var.is, typed-Var c.args.maps.now (reverse c.args.types.now) c.in-Var.place) c.variable.ensures

pub by_form-returns-in-Var-clause-noted : goal.by_form-returns-in-Var-clause-noted
by_form-returns-in-Var-clause-noted t c =
    always c.variable.result _ (nothing_listed c.args.listed.now _ (ap (inside c.args.maps.now (reverse c.args.types.now)) c.in-Var.is ∙ inside-Var c.args.maps.now (reverse c.args.types.now) c.in-Var.place))

pub by_form-returns-in_ok-new-in-Star-clause-typing : goal.by_form-returns-in_ok-new-in-Star-clause-typing
by_form-returns-in_ok-new-in-Star-clause-typing t c =
    rw c.in-Star.is (typed-Star c.args.maps.now (reverse c.args.types.now)) ∙ ap Ok (sym c.in_ok-new-in-Star.ensures)

pub by_form-returns-in_ok-new-in-Star-clause-noted : goal.by_form-returns-in_ok-new-in-Star-clause-noted
by_form-returns-in_ok-new-in-Star-clause-noted t c =
    nothing_listed c.args.listed.now _ (ap (inside c.args.maps.now (reverse c.args.types.now)) c.in-Star.is ∙ inside-Star c.args.maps.now (reverse c.args.types.now))

pub by_form-returns-in_ok-new-in-Truth-clause-typing : goal.by_form-returns-in_ok-new-in-Truth-clause-typing
by_form-returns-in_ok-new-in-Truth-clause-typing t c =
    constant_typed c.args.maps.now (reverse c.args.types.now) c.args.term.now c.in-Truth.is ∙ ap Ok (sym c.in_ok-new-in-Truth.ensures)

pub by_form-returns-in_ok-new-in-Truth-clause-noted : goal.by_form-returns-in_ok-new-in-Truth-clause-noted
by_form-returns-in_ok-new-in-Truth-clause-noted t c =
    nothing_listed c.args.listed.now _ (inside_constant c.args.maps.now (reverse c.args.types.now) c.args.term.now c.in-Truth.is)

pub inferred-returns-clause-noted : goal.inferred-returns-clause-noted
inferred-returns-clause-noted t c =
    whole_listed c.args.maps.now (reverse c.args.types.now) c.args.listed.now _ _ c.args.term.now c.in_ok-found.found c.in_ok-copy.field-0 c.in_ok-found.ensures.noted c.in_ok-found.ensures.typing c.in_ok-push.ensures.ok (c.in_ok-copy.ensures ∙ c.get.ensures)
