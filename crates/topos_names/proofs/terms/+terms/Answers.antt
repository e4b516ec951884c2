use Rattle.std.proofs.Common.{◌∙◌, sym, ap, Ok}
use Rattle.std.proofs.lemmas.Result.{err_from_is_err_and}
use Rattle.topos_text.specs.Tokens.{written}
use Rattle.topos_text.specs.Views as view
use Rattle.topos_names.proofs.TermEquations.{variable-stops, variable-applied, map-unknown, map-stops, map-applied, term_applied, bound_made}
use Rattle.topos_text.specs.TermNames.{term_of, bound}
use Rattle.topos_model.specs.declared.term.Term.TheVariants as to
use Rattle.topos_names.proofs.terms.+terms.Goals as goal

pub called-returns-in_err-argument-in-Some-clause-fault : goal.called-returns-in_err-argument-in-Some-clause-fault
called-returns-in_err-argument-in-Some-clause-fault t c =
    let p = err_from_is_err_and c.from_residual.result c.from_residual.ensures.1 in
    rw (p.1, p.2) (λ fault e. variable-stops c.args.scope.now c.args.variables.now (written c.args.x.now) (view.term_of c.args.argument.now) c.in-Some.place fault (sym c.find.ensures ∙ c.in-Some.is) (c.in_err-argument-in-Some.ensures.fault fault e))

pub called-returns-in_err-map-in-None-clause-fault : goal.called-returns-in_err-map-in-None-clause-fault
called-returns-in_err-map-in-None-clause-fault t c =
    let p = err_from_is_err_and c.from_residual-in_err-map-in-None.result c.from_residual-in_err-map-in-None.ensures.1 in
    rw (p.1, p.2) (λ fault e. map-unknown c.args.scope.now c.args.variables.now (written c.args.x.now) (view.term_of c.args.argument.now) fault (sym c.find.ensures ∙ c.in-None.is) (c.in_err-map-in-None.ensures.fault fault e))

pub called-returns-in_err-argument-in-None-clause-fault : goal.called-returns-in_err-argument-in-None-clause-fault
called-returns-in_err-argument-in-None-clause-fault t c =
    let p = err_from_is_err_and c.from_residual-in_err-argument-in-None.result c.from_residual-in_err-argument-in-None.ensures.1 in
    rw (p.1, p.2) (λ fault e. map-stops c.args.scope.now c.args.variables.now (written c.args.x.now) (view.term_of c.args.argument.now) c.in_ok-map-in-None.map fault (sym c.find.ensures ∙ c.in-None.is) c.in_ok-map-in-None.ensures.ok (c.in_err-argument-in-None.ensures.fault fault e))

pub called-returns-in_ok-new-in-Some-clause-ok : goal.called-returns-in_ok-new-in-Some-clause-ok
called-returns-in_ok-new-in-Some-clause-ok t c =
    rw (c.in_ok-new-in-Some.ensures, c.in_ok-head-in-Some.ensures) (variable-applied c.args.scope.now c.args.variables.now (written c.args.x.now) (view.term_of c.args.argument.now) c.in-Some.place c.in_ok-argument-in-Some.argument (sym c.find.ensures ∙ c.in-Some.is) c.in_ok-argument-in-Some.ensures.ok)

pub called-returns-in_ok-new-in-None-clause-ok : goal.called-returns-in_ok-new-in-None-clause-ok
called-returns-in_ok-new-in-None-clause-ok t c =
    rw (c.in_ok-new-in-None.ensures) (map-applied c.args.scope.now c.args.variables.now (written c.args.x.now) (view.term_of c.args.argument.now) c.in_ok-map-in-None.map c.in_ok-argument-in-None.argument (sym c.find.ensures ∙ c.in-None.is) c.in_ok-map-in-None.ensures.ok c.in_ok-argument-in-None.ensures.ok)

pub term_of-returns-in_err-left-in-Paired-clause-fault : goal.term_of-returns-in_err-left-in-Paired-clause-fault
unfolding term_of
term_of-returns-in_err-left-in-Paired-clause-fault t c =
    let p = err_from_is_err_and c.from_residual-in_err-left-in-Paired.result c.from_residual-in_err-left-in-Paired.ensures.1 in
    rw (p.1, p.2, c.in-Paired.is) (rw (c.deref-in-Paired.ensures, c.deref-in-Paired-2.ensures) at (c.in_err-left-in-Paired.ensures.fault to.Pair))

pub term_of-returns-in_err-left-in-Equal-clause-fault : goal.term_of-returns-in_err-left-in-Equal-clause-fault
unfolding term_of
term_of-returns-in_err-left-in-Equal-clause-fault t c =
    let p = err_from_is_err_and c.from_residual-in_err-left-in-Equal.result c.from_residual-in_err-left-in-Equal.ensures.1 in
    rw (p.1, p.2, c.in-Equal.is) (rw (c.deref-in-Equal.ensures, c.deref-in-Equal-2.ensures) at (c.in_err-left-in-Equal.ensures.fault to.Eq))

pub term_of-returns-in_err-left-in-Member-clause-fault : goal.term_of-returns-in_err-left-in-Member-clause-fault
unfolding term_of
term_of-returns-in_err-left-in-Member-clause-fault t c =
    let p = err_from_is_err_and c.from_residual-in_err-left-in-Member.result c.from_residual-in_err-left-in-Member.ensures.1 in
    rw (p.1, p.2, c.in-Member.is) (rw (c.deref-in-Member.ensures, c.deref-in-Member-2.ensures) at (c.in_err-left-in-Member.ensures.fault to.Member))

pub term_of-returns-in_err-left-in-And-clause-fault : goal.term_of-returns-in_err-left-in-And-clause-fault
unfolding term_of
term_of-returns-in_err-left-in-And-clause-fault t c =
    let p = err_from_is_err_and c.from_residual-in_err-left-in-And.result c.from_residual-in_err-left-in-And.ensures.1 in
    rw (p.1, p.2, c.in-And.is) (rw (c.deref-in-And.ensures, c.deref-in-And-2.ensures) at (c.in_err-left-in-And.ensures.fault to.And))

pub term_of-returns-in_err-left-in-Or-clause-fault : goal.term_of-returns-in_err-left-in-Or-clause-fault
unfolding term_of
term_of-returns-in_err-left-in-Or-clause-fault t c =
    let p = err_from_is_err_and c.from_residual-in_err-left-in-Or.result c.from_residual-in_err-left-in-Or.ensures.1 in
    rw (p.1, p.2, c.in-Or.is) (rw (c.deref-in-Or.ensures, c.deref-in-Or-2.ensures) at (c.in_err-left-in-Or.ensures.fault to.Or))

pub term_of-returns-in_err-left-in-Implies-clause-fault : goal.term_of-returns-in_err-left-in-Implies-clause-fault
unfolding term_of
term_of-returns-in_err-left-in-Implies-clause-fault t c =
    let p = err_from_is_err_and c.from_residual-in_err-left-in-Implies.result c.from_residual-in_err-left-in-Implies.ensures.1 in
    rw (p.1, p.2, c.in-Implies.is) (rw (c.deref-in-Implies.ensures, c.deref-in-Implies-2.ensures) at (c.in_err-left-in-Implies.ensures.fault to.Implies))

pub term_of-returns-in_err-head-in-None-clause-fault : goal.term_of-returns-in_err-head-in-None-clause-fault
term_of-returns-in_err-head-in-None-clause-fault t c =
    let p = err_from_is_err_and c.from_residual-in_err-head-in-None.result c.from_residual-in_err-head-in-None.ensures.1 in
    rw (p.1, p.2, c.in-Applied.is) (λ fault e. term_applied c.args.scope.now c.args.variables.now (view.term_of c.in-Applied.head.value) (view.term_of c.in-Applied.argument.value) (sym (rw (c.in-None.is, c.deref-in-Applied.ensures) at c.name.ensures)) ∙ (rw (c.deref-in-None.ensures, c.deref-in-None-2.ensures) at (c.in_err-head-in-None.ensures.fault to.Eval)) fault e)

pub term_of-returns-in_err-ty-in-Subset-clause-fault : goal.term_of-returns-in_err-ty-in-Subset-clause-fault
unfolding term_of
term_of-returns-in_err-ty-in-Subset-clause-fault t c =
    let p = err_from_is_err_and c.from_residual-in_err-ty-in-Subset.result c.from_residual-in_err-ty-in-Subset.ensures.1 in
    rw (p.1, p.2, c.in-Subset.is) (rw (c.deref-in-Subset.ensures) at (c.in_err-ty-in-Subset.ensures.fault to.Compr))

pub term_of-returns-in_err-ty-in-Bound-clause-fault : goal.term_of-returns-in_err-ty-in-Bound-clause-fault
unfolding term_of
term_of-returns-in_err-ty-in-Bound-clause-fault t c =
    let p = err_from_is_err_and c.from_residual-in_err-ty-in-Bound.result c.from_residual-in_err-ty-in-Bound.ensures.1 in
    rw (p.1, p.2, c.in-Bound.is) (rw (c.deref-in-Bound.ensures) at (c.in_err-ty-in-Bound.ensures.fault (bound c.args.scope.now (view.binder_of c.in-Bound.binder))))

pub term_of-returns-in_ok-bound-in-Bound-clause-ok : goal.term_of-returns-in_ok-bound-in-Bound-clause-ok
term_of-returns-in_ok-bound-in-Bound-clause-ok t c =
    rw (c.in-Bound.is) (bound_made c.args.scope.now c.args.variables.now (view.binder_of c.in-Bound.binder) (view.binding_of c.in-Bound.binding) (view.term_of c.in-Bound.body.value) c.in_ok-ty-in-Bound.ty c.in_ok-ty-in-Bound.body c.in_ok-ty-in-Bound.ensures.ty (rw (c.deref-in-Bound.ensures) at c.in_ok-ty-in-Bound.ensures.body) ∙ ap Ok (sym (c.in_ok-bound-in-Bound.ensures c.args.scope.now)))
