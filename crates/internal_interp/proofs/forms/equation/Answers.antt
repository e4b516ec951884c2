use Rattle.std.proofs.Common.{sym, subst}
use Rattle.topos_model.specs.declared.ty.Ty.{Omega}
use Rattle.topos_model.specs.declared.term.Term.{Eq}
use Rattle.internal_interp.specs.declared.interpreter.Interpreted.TheVariants.{Value}
use Rattle.internal_interp.specs.Known.{IsForced}
use Rattle.internal_interp.specs.Interpretations.{HasMeaning}
use Rattle.internal_interp.proofs.FormFacts.{equated_known, left_formula, right_formula, left_equivalent, right_equivalent}
use Rattle.internal_interp.proofs.forms.equation.Goals as goal
use Rattle.internal_interp.proofs.forms.equation.Goals.{in-Formula+in_ok-right-in-Formula+in_ok-truths-in-Formula, in-Value+in-Formula-right+in_ok-left-in-Formula-right+in_ok-truths-in-Formula-right, in-Value+in-Value-right+in_ok-truths-in-Value-right}

pub truths_of-requires-clause-known : goal.truths_of-requires-clause-known
truths_of-requires-clause-known c =
    let (w, maps, Γ, U, t, u, k, l, r) = c.requires.known in
    let p = left_formula w maps c.args.interpreter.now Γ c.args.context.now U t u c.in-Formula.left k (subst (HasMeaning c.args.interpreter.now c.args.context.now t) c.in-Formula.is l) in
    (w, maps, Γ, u, p.second, r w maps Γ Omega p.second)

pub equivalence-requires-clause-known : goal.equivalence-requires-clause-known
equivalence-requires-clause-known c =
    let (w, maps, Γ, U, t, u, k, l, r) = c.requires.known in
    let (h, e) = left_equivalent w maps c.args.interpreter.now Γ c.args.context.now U t u c.in-Formula.left c.in_ok-right-in-Formula.right c.args.right k
    (subst (HasMeaning c.args.interpreter.now c.args.context.now t) c.in-Formula.is l) r (c.in_ok-right-in-Formula.ensures w maps Γ u) in
    (w, maps, Γ, t, u, h)

pub truths_of-requires-in-Formula-right-clause-known : goal.truths_of-requires-in-Formula-right-clause-known
truths_of-requires-in-Formula-right-clause-known c =
    let (w, maps, Γ, U, t, u, k, l, r) = c.requires.known in
    let p = right_formula w maps c.args.interpreter.now Γ c.args.context.now U t u c.in-Formula-right.right k (subst (HasMeaning c.args.interpreter.now c.args.context.now u) c.in-Formula-right.is r) in
    (w, maps, Γ, t, p.first, subst (HasMeaning c.args.interpreter.now c.args.context.now t) c.in-Value.is l w maps Γ Omega p.first)

pub equivalence-requires-in-Formula-right-clause-known : goal.equivalence-requires-in-Formula-right-clause-known
equivalence-requires-in-Formula-right-clause-known c =
    let (w, maps, Γ, U, t, u, k, l, r) = c.requires.known in
    let (h, e) = right_equivalent w maps c.args.interpreter.now Γ c.args.context.now U t u c.in_ok-left-in-Formula-right.left c.in-Formula-right.right (Value c.in-Value.value) k
    (subst (HasMeaning c.args.interpreter.now c.args.context.now t) c.in-Value.is l) (subst (HasMeaning c.args.interpreter.now c.args.context.now u) c.in-Formula-right.is r) (c.in_ok-left-in-Formula-right.ensures w maps Γ t) in
    (w, maps, Γ, t, u, h)

pub equated-requires-clause-known : goal.equated-requires-clause-known
equated-requires-clause-known c =
    let (w, maps, Γ, U, t, u, k, l, r) = c.requires.known in
    let (T, h, e) = equated_known w maps c.args.interpreter.now Γ c.args.context.now U t u c.in-Value.value c.in-Value-right.right k
    (subst (HasMeaning c.args.interpreter.now c.args.context.now t) c.in-Value.is l) (subst (HasMeaning c.args.interpreter.now c.args.context.now u) c.in-Value-right.is r) in
    (w, maps, Γ, T, t, u, h)

pub returns : goal.returns
returns c = λ t u l r w maps Γ U k.
    elim c.match-left.branch [
      | in-Formula+in_ok-right-in-Formula+in_ok-truths-in-Formula b ↦
          (let (h, e) = left_equivalent w maps c.args.interpreter.now Γ c.args.context.now U t u b.in-Formula.left b.in_ok-right-in-Formula.right c.args.right k
          (subst (HasMeaning c.args.interpreter.now c.args.context.now t) b.in-Formula.is l) r (b.in_ok-right-in-Formula.ensures w maps Γ u) in
          subst (IsForced w Γ U (Eq t u)) (sym b.truths-is) (record { formula = e; stands = b.in_ok-truths-in-Formula.ensures w maps Γ t u h }))
      | in-Value+in-Formula-right+in_ok-left-in-Formula-right+in_ok-truths-in-Formula-right b ↦
          (let (h, e) = right_equivalent w maps c.args.interpreter.now Γ c.args.context.now U t u b.in_ok-left-in-Formula-right.left b.in-Formula-right.right (Value b.in-Value.value) k
          (subst (HasMeaning c.args.interpreter.now c.args.context.now t) b.in-Value.is l) (subst (HasMeaning c.args.interpreter.now c.args.context.now u) b.in-Formula-right.is r) (b.in_ok-left-in-Formula-right.ensures w maps Γ t) in
          subst (IsForced w Γ U (Eq t u)) (sym b.truths-is) (record { formula = e; stands = b.in_ok-truths-in-Formula-right.ensures w maps Γ t u h }))
      | in-Value+in-Value-right+in_ok-truths-in-Value-right b ↦
          (let (T, h, e) = equated_known w maps c.args.interpreter.now Γ c.args.context.now U t u b.in-Value.value b.in-Value-right.right k
          (subst (HasMeaning c.args.interpreter.now c.args.context.now t) b.in-Value.is l) (subst (HasMeaning c.args.interpreter.now c.args.context.now u) b.in-Value-right.is r) in
          subst (IsForced w Γ U (Eq t u)) (sym b.truths-is) (record { formula = e; stands = b.in_ok-truths-in-Value-right.ensures w maps Γ T t u h }))
    ]
