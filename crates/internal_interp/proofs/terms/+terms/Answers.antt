use Rattle.std.proofs.Common.{rules, ◌<◌, ◌^◌, ◌∷◌, refl, sym, subst}
use Rattle.std.proofs.lemmas.Result.{IfOk-weaker}
use Rattle.topos_model.specs.declared.ty.Ty.{Omega, Two, Pow, Fun}
use Rattle.topos_model.specs.declared.term.Term.{Lam, Compr}
use Rattle.internal_interp.specs.Known.{IsKnown}
use Rattle.internal_interp.specs.Interpretations.{HasMeaning}
use Rattle.internal_interp.proofs.FormFacts.{as_many, retyped, function_known, set_known, bound_known, quantified_part, quantified_stands}
use Rattle.internal_interp.proofs.Subterms.{pair_parts, fst_part, snd_part, app_part, eval_parts, eq_parts, member_parts, and_parts, or_parts, implies_parts, not_part, lam_part, compr_part}
use Rattle.internal_interp.proofs.terms.+terms.Goals as goal
use Rattle.topos_model.specs.declared.term.Term.{the_lemmas}

pub interpret_term-values-requires : goal.interpret_term-values-requires
interpret_term-values-requires t c =
    let (w, maps, Γ, U, k) = c.requires.known in
    let p = pair_parts w maps c.args.interpreter.now Γ c.args.context.now U c.args.term.now c.in-Pair.left c.in-Pair.right c.in-Pair.is k in
    (search (rules, the_lemmas), (c.requires.objects, ((w, maps, Γ, p.first_type, p.first), (w, maps, Γ, p.second_type, p.second))))

pub interpret_term-value_at-requires : goal.interpret_term-value_at-requires
interpret_term-value_at-requires t c =
    let (w, maps, Γ, U, k) = c.requires.known in
    let p = fst_part w maps c.args.interpreter.now Γ c.args.context.now U c.args.term.now c.in-Fst.of c.in-Fst.is k in
    (search (rules, the_lemmas), (c.requires.objects, (w, maps, Γ, Two U p.other, p.part)))

pub interpret_term-value_at-requires-in-Snd : goal.interpret_term-value_at-requires-in-Snd
interpret_term-value_at-requires-in-Snd t c =
    let (w, maps, Γ, U, k) = c.requires.known in
    let p = snd_part w maps c.args.interpreter.now Γ c.args.context.now U c.args.term.now c.in-Snd.of c.in-Snd.is k in
    (search (rules, the_lemmas), (c.requires.objects, (w, maps, Γ, Two p.other U, p.part)))

pub interpret_term-value_at-requires-in-App : goal.interpret_term-value_at-requires-in-App
interpret_term-value_at-requires-in-App t c =
    let (w, maps, Γ, U, k) = c.requires.known in
    let p = app_part w maps c.args.interpreter.now Γ c.args.context.now U c.in-App.map c.args.term.now c.in-App.argument c.in-App.is k in
    (search (rules, the_lemmas), (c.requires.objects, (w, maps, Γ, _, p.part)))

pub interpret_term-values-requires-in-Eval : goal.interpret_term-values-requires-in-Eval
interpret_term-values-requires-in-Eval t c =
    let (w, maps, Γ, U, k) = c.requires.known in
    let p = eval_parts w maps c.args.interpreter.now Γ c.args.context.now U c.args.term.now c.in-Eval.function c.in-Eval.argument c.in-Eval.is k in
    (search (rules, the_lemmas), (c.requires.objects, ((w, maps, Γ, Fun p.domain U, p.function), (w, maps, Γ, p.domain, p.argument))))

pub interpret_term-meanings-requires : goal.interpret_term-meanings-requires
interpret_term-meanings-requires t c =
    let (w, maps, Γ, U, k) = c.requires.known in
    let p = eq_parts w maps c.args.interpreter.now Γ c.args.context.now U c.args.term.now c.in-Eq.left c.in-Eq.right c.in-Eq.is k in
    (search (rules, the_lemmas), (c.requires.objects, ((w, maps, Γ, p.common, p.first), (w, maps, Γ, p.common, p.second))))

pub interpret_term-values-requires-in-Member : goal.interpret_term-values-requires-in-Member
interpret_term-values-requires-in-Member t c =
    let (w, maps, Γ, U, k) = c.requires.known in
    let p = member_parts w maps c.args.interpreter.now Γ c.args.context.now U c.args.term.now c.in-Member.element c.in-Member.set c.in-Member.is k in
    (search (rules, the_lemmas), (c.requires.objects, ((w, maps, Γ, p.common, p.element), (w, maps, Γ, Pow p.common, p.set))))

pub interpret_term-truths-requires : goal.interpret_term-truths-requires
interpret_term-truths-requires t c =
    let (w, maps, Γ, U, k) = c.requires.known in
    let p = and_parts w maps c.args.interpreter.now Γ c.args.context.now U c.args.term.now c.in-And.left c.in-And.right c.in-And.is k in
    (search (rules, the_lemmas), (c.requires.objects, ((w, maps, Γ, p.first), (w, maps, Γ, p.second))))

pub interpret_term-truths-requires-in-Or : goal.interpret_term-truths-requires-in-Or
interpret_term-truths-requires-in-Or t c =
    let (w, maps, Γ, U, k) = c.requires.known in
    let p = or_parts w maps c.args.interpreter.now Γ c.args.context.now U c.args.term.now c.in-Or.left c.in-Or.right c.in-Or.is k in
    (search (rules, the_lemmas), (c.requires.objects, ((w, maps, Γ, p.first), (w, maps, Γ, p.second))))

pub interpret_term-truths-requires-in-Implies : goal.interpret_term-truths-requires-in-Implies
interpret_term-truths-requires-in-Implies t c =
    let (w, maps, Γ, U, k) = c.requires.known in
    let p = implies_parts w maps c.args.interpreter.now Γ c.args.context.now U c.args.term.now c.in-Implies.left c.in-Implies.right c.in-Implies.is k in
    (search (rules, the_lemmas), (c.requires.objects, ((w, maps, Γ, p.first), (w, maps, Γ, p.second))))

pub interpret_term-truths_at-requires : goal.interpret_term-truths_at-requires
interpret_term-truths_at-requires t c =
    let (w, maps, Γ, U, k) = c.requires.known in
    let p = not_part w maps c.args.interpreter.now Γ c.args.context.now U c.args.term.now c.in-Not.of c.in-Not.is k in
    (search (rules, the_lemmas), (c.requires.objects, (w, maps, Γ, p.part)))

pub interpret_term-image_term-requires-clause-known : goal.interpret_term-image_term-requires-clause-known
interpret_term-image_term-requires-clause-known t c =
    let (w, maps, Γ, U, k) = c.requires.known in
    (w, maps, Γ, U, c.in-App.argument, subst (IsKnown w maps c.args.interpreter.now Γ U c.args.context.now) c.in-App.is k, c.in_ok-argument-in-App.ensures)

pub interpret_term-returns-in_ok-left-in-Pair : goal.interpret_term-returns-in_ok-left-in-Pair
interpret_term-returns-in_ok-left-in-Pair t c =
    IfOk-weaker c.pair_term.result _ _ (λ whole is. subst (λ x. HasMeaning c.args.interpreter.now c.args.context.now x whole) (sym c.in-Pair.is) (is c.in-Pair.left c.in-Pair.right c.in_ok-left-in-Pair.ensures.left c.in_ok-left-in-Pair.ensures.right)) c.pair_term.ensures

pub interpret_term-returns-in_ok-argument-in-App : goal.interpret_term-returns-in_ok-argument-in-App
interpret_term-returns-in_ok-argument-in-App t c =
    IfOk-weaker c.image_term.result _ _ (λ whole is. subst (λ x. HasMeaning c.args.interpreter.now c.args.context.now x whole) (sym c.in-App.is) (is c.in-App.argument c.in_ok-argument-in-App.ensures)) c.image_term.ensures

pub interpret_term-returns-in_ok-function-in-Eval : goal.interpret_term-returns-in_ok-function-in-Eval
interpret_term-returns-in_ok-function-in-Eval t c =
    IfOk-weaker c.applied_term.result _ _ (λ whole is. subst (λ x. HasMeaning c.args.interpreter.now c.args.context.now x whole) (sym c.in-Eval.is) (is c.in-Eval.function c.in-Eval.argument c.in_ok-function-in-Eval.ensures.left c.in_ok-function-in-Eval.ensures.right)) c.applied_term.ensures

pub interpret_term-returns-in_ok-left-in-Eq : goal.interpret_term-returns-in_ok-left-in-Eq
interpret_term-returns-in_ok-left-in-Eq t c =
    IfOk-weaker c.equation.result _ _ (λ whole is. subst (λ x. HasMeaning c.args.interpreter.now c.args.context.now x whole) (sym c.in-Eq.is) (is c.in-Eq.left c.in-Eq.right c.in_ok-left-in-Eq.ensures.left c.in_ok-left-in-Eq.ensures.right)) c.equation.ensures

pub interpret_term-returns-in_ok-element-in-Member : goal.interpret_term-returns-in_ok-element-in-Member
interpret_term-returns-in_ok-element-in-Member t c =
    IfOk-weaker c.membership.result _ _ (λ whole is. subst (λ x. HasMeaning c.args.interpreter.now c.args.context.now x whole) (sym c.in-Member.is) (is c.in-Member.element c.in-Member.set c.in_ok-element-in-Member.ensures.left c.in_ok-element-in-Member.ensures.right)) c.membership.ensures

pub interpret_term-returns-in_ok-left-in-And : goal.interpret_term-returns-in_ok-left-in-And
interpret_term-returns-in_ok-left-in-And t c =
    IfOk-weaker c.connected.result _ _ (λ whole is. subst (λ x. HasMeaning c.args.interpreter.now c.args.context.now x whole) (sym c.in-And.is) (is c.in-And.left c.in-And.right c.in_ok-left-in-And.ensures.left c.in_ok-left-in-And.ensures.right)) c.connected.ensures

pub interpret_term-returns-in_ok-left-in-Or : goal.interpret_term-returns-in_ok-left-in-Or
interpret_term-returns-in_ok-left-in-Or t c =
    IfOk-weaker c.connected-in-Or.result _ _ (λ whole is. subst (λ x. HasMeaning c.args.interpreter.now c.args.context.now x whole) (sym c.in-Or.is) (is c.in-Or.left c.in-Or.right c.in_ok-left-in-Or.ensures.left c.in_ok-left-in-Or.ensures.right)) c.connected-in-Or.ensures

pub interpret_term-returns-in_ok-left-in-Implies : goal.interpret_term-returns-in_ok-left-in-Implies
interpret_term-returns-in_ok-left-in-Implies t c =
    IfOk-weaker c.connected-in-Implies.result _ _ (λ whole is. subst (λ x. HasMeaning c.args.interpreter.now c.args.context.now x whole) (sym c.in-Implies.is) (is c.in-Implies.left c.in-Implies.right c.in_ok-left-in-Implies.ensures.left c.in_ok-left-in-Implies.ensures.right)) c.connected-in-Implies.ensures

pub meanings-returns-clause-left : goal.meanings-returns-clause-left
meanings-returns-clause-left t c = subst (λ x. HasMeaning c.args.interpreter.now c.args.context.now x c.in_ok-first.first) c.get.ensures c.in_ok-first.ensures

pub meanings-returns-clause-right : goal.meanings-returns-clause-right
meanings-returns-clause-right t c = subst (λ x. HasMeaning c.args.interpreter.now c.args.context.now x c.in_ok-second.second) c.get-2.ensures c.in_ok-second.ensures

pub value_at-value_of-requires-clause-known : goal.value_at-value_of-requires-clause-known
value_at-value_of-requires-clause-known t c =
    let (w, maps, Γ, U, k) = c.requires.known in
    (w, maps, Γ, U, c.args.term.now, k, (subst (λ x. HasMeaning c.args.interpreter.now c.args.context.now x c.in_ok-interpreted.interpreted) c.get.ensures c.in_ok-interpreted.ensures) w maps Γ U k)

pub value_at-returns : goal.value_at-returns
value_at-returns t c =
    IfOk-weaker c.value_of.result _ _ (λ v is w maps Γ U k. is w maps Γ U c.args.term.now k ((subst (λ x. HasMeaning c.args.interpreter.now c.args.context.now x c.in_ok-interpreted.interpreted) c.get.ensures c.in_ok-interpreted.ensures) w maps Γ U k)) c.value_of.ensures

pub truths_at-truths_of-requires-clause-known : goal.truths_at-truths_of-requires-clause-known
truths_at-truths_of-requires-clause-known t c =
    let (w, maps, Γ, k) = c.requires.known in
    (w, maps, Γ, c.args.term.now, k, (subst (λ x. HasMeaning c.args.interpreter.now c.args.context.now x c.in_ok-interpreted.interpreted) c.get.ensures c.in_ok-interpreted.ensures) w maps Γ Omega k)

pub truths_at-returns : goal.truths_at-returns
truths_at-returns t c =
    IfOk-weaker c.truths_of.result _ _ (λ v is w maps Γ k. is w maps Γ c.args.term.now k ((subst (λ x. HasMeaning c.args.interpreter.now c.args.context.now x c.in_ok-interpreted.interpreted) c.get.ensures c.in_ok-interpreted.ensures) w maps Γ Omega k)) c.truths_of.ensures

pub function_of-bind-requires : goal.function_of-bind-requires
function_of-bind-requires t c =
    let (w, maps, Γ, U, k) = c.requires.known in
    let p = lam_part w maps c.args.interpreter.now Γ c.args.context.now U c.args.ty.now (Lam c.args.ty.now c.args.body.now) c.args.body.now refl k in
    record { known = (w, maps, Γ, p.binding) }

pub function_of-value_at-requires : goal.function_of-value_at-requires
function_of-value_at-requires t c =
    let (w, maps, Γ, U, k) = c.requires.known in
    let p = lam_part w maps c.args.interpreter.now Γ c.args.context.now U c.args.ty.now (Lam c.args.ty.now c.args.body.now) c.args.body.now refl k in
    let scope = c.in_ok-inner.ensures w maps Γ p.binding in
    let objects = subst (λ n. n < 2 ^ 32) (sym (as_many w maps c.args.interpreter.now Γ (c.args.ty.now ∷ Γ) c.args.context.now c.in_ok-inner.inner k.scope scope)) c.requires.objects in
    (search (rules, the_lemmas), (objects, (w, maps, c.args.ty.now ∷ Γ, p.codomain, p.body c.in_ok-inner.inner scope)))

pub set_of-bind-requires : goal.set_of-bind-requires
set_of-bind-requires t c =
    let (w, maps, Γ, U, k) = c.requires.known in
    let p = compr_part w maps c.args.interpreter.now Γ c.args.context.now U c.args.ty.now (Compr c.args.ty.now c.args.body.now) c.args.body.now refl k in
    record { known = (w, maps, Γ, p.binding) }

pub set_of-truths_at-requires : goal.set_of-truths_at-requires
set_of-truths_at-requires t c =
    let (w, maps, Γ, U, k) = c.requires.known in
    let p = compr_part w maps c.args.interpreter.now Γ c.args.context.now U c.args.ty.now (Compr c.args.ty.now c.args.body.now) c.args.body.now refl k in
    let scope = c.in_ok-inner.ensures w maps Γ p.binding in
    let objects = subst (λ n. n < 2 ^ 32) (sym (as_many w maps c.args.interpreter.now Γ (c.args.ty.now ∷ Γ) c.args.context.now c.in_ok-inner.inner k.scope scope)) c.requires.objects in
    (search (rules, the_lemmas), (objects, (w, maps, c.args.ty.now ∷ Γ, p.body c.in_ok-inner.inner scope)))

pub quantified-bind-requires : goal.quantified-bind-requires
quantified-bind-requires t c =
    let (w, maps, Γ, U, k) = c.requires.known in
    let p = quantified_part w maps c.args.interpreter.now Γ c.args.context.now U c.args.quantifier c.args.ty.now c.args.body.now k in
    record { known = (w, maps, Γ, p.binding) }

pub quantified-truths_at-requires : goal.quantified-truths_at-requires
quantified-truths_at-requires t c =
    let (w, maps, Γ, U, k) = c.requires.known in
    let p = quantified_part w maps c.args.interpreter.now Γ c.args.context.now U c.args.quantifier c.args.ty.now c.args.body.now k in
    let scope = c.in_ok-inner.ensures w maps Γ p.binding in
    let objects = subst (λ n. n < 2 ^ 32) (sym (as_many w maps c.args.interpreter.now Γ (c.args.ty.now ∷ Γ) c.args.context.now c.in_ok-inner.inner k.scope scope)) c.requires.objects in
    (search (rules, the_lemmas), (objects, (w, maps, c.args.ty.now ∷ Γ, p.body c.in_ok-inner.inner scope)))

pub function_of-function-requires-clause-known : goal.function_of-function-requires-clause-known
function_of-function-requires-clause-known t c =
    let (w, maps, Γ, U, k) = c.requires.known in
    let (V, h, e) = function_known w maps c.args.interpreter.now Γ c.args.context.now U c.args.ty.now c.args.body.now c.in_ok-inner.inner (c.in_ok-inner.ensures w maps Γ) c.in_ok-values.values k c.in_ok-values.ensures in (w, maps, Γ, V, c.args.body.now, h)

pub function_of-returns : goal.function_of-returns
function_of-returns t c =
    λ w maps Γ U k. let (V, h, e) = function_known w maps c.args.interpreter.now Γ c.args.context.now U c.args.ty.now c.args.body.now c.in_ok-inner.inner (c.in_ok-inner.ensures w maps Γ) c.in_ok-values.values k c.in_ok-values.ensures in retyped w maps c.args.interpreter.now Γ c.args.context.now U (Fun c.args.ty.now V) (Lam c.args.ty.now c.args.body.now) c.in_ok-function.field-0 e (c.in_ok-function.ensures w maps Γ V c.args.body.now h)

pub set_of-set-requires-clause-known : goal.set_of-set-requires-clause-known
set_of-set-requires-clause-known t c =
    let (w, maps, Γ, U, k) = c.requires.known in
    let (h, e) = set_known w maps c.args.interpreter.now Γ c.args.context.now U c.args.ty.now c.args.body.now c.in_ok-inner.inner (c.in_ok-inner.ensures w maps Γ) c.in_ok-truths.truths k c.in_ok-truths.ensures in (w, maps, Γ, c.args.body.now, h)

pub set_of-returns : goal.set_of-returns
set_of-returns t c =
    λ w maps Γ U k. let (h, e) = set_known w maps c.args.interpreter.now Γ c.args.context.now U c.args.ty.now c.args.body.now c.in_ok-inner.inner (c.in_ok-inner.ensures w maps Γ) c.in_ok-truths.truths k c.in_ok-truths.ensures in retyped w maps c.args.interpreter.now Γ c.args.context.now U (Pow c.args.ty.now) (Compr c.args.ty.now c.args.body.now) c.in_ok-set.field-0 e (c.in_ok-set.ensures w maps Γ c.args.body.now h)

pub quantified-bound-requires-clause-known : goal.quantified-bound-requires-clause-known
quantified-bound-requires-clause-known t c =
    let (w, maps, Γ, U, k) = c.requires.known in
    let (h, e) = bound_known w maps c.args.interpreter.now Γ c.args.context.now U c.args.ty.now c.args.body.now c.in_ok-inner.inner (c.in_ok-inner.ensures w maps Γ) c.args.quantifier c.in_ok-truths.truths k c.in_ok-truths.ensures in (w, maps, Γ, c.args.body.now, h)

pub quantified-returns : goal.quantified-returns
quantified-returns t c =
    λ w maps Γ U k. let (h, e) = bound_known w maps c.args.interpreter.now Γ c.args.context.now U c.args.ty.now c.args.body.now c.in_ok-inner.inner (c.in_ok-inner.ensures w maps Γ) c.args.quantifier c.in_ok-truths.truths k c.in_ok-truths.ensures in quantified_stands w maps c.args.interpreter.now Γ c.args.context.now U c.args.quantifier c.args.ty.now c.args.body.now _ e (c.in_ok-bound.ensures w maps Γ c.args.body.now h)
