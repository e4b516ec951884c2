use Rattle.std.proofs.Common.{◌∷◌, map, length, ap, arith}
use Rattle.std.proofs.lemmas.Result.{err_from_is_err_and}
use Rattle.topos_text.specs.declared.symbol.Symbol.TheVariants as symbol
use Rattle.topos_text.specs.Tokens.{token_of, Reserved}
use Rattle.topos_text.specs.Terms.{binder_word}
use Rattle.topos_text.specs.Trees as tree
use Rattle.topos_grammar.specs.Kinds.{AnyTerm, Disjunction, MoreDisjuncts, Conjunction, MoreConjuncts, Negation, BinderTerm, Comparison, Application, MoreArguments, Atom, Parentheses}
use Rattle.topos_grammar.specs.Codes.{sign}
use Rattle.topos_text.specs.Views.{term_of, binding_of, binder_of}
use Rattle.topos_grammar.proofs.Steps.{fails_from, gives_from, fails_at}
use Rattle.topos_grammar.proofs.TermSteps.{term_stops, term_alone, implication_stops, implication_read, disjunction_stops, disjunction_read, disjuncts_ready, more_disjuncts_ready, disjuncts_end, disjuncts_stop, disjuncts_more, conjunction_stops, conjunction_read, conjuncts_ready, more_conjuncts_ready, conjuncts_end, conjuncts_stop, conjuncts_more, not_stops, not_read, quantified_read, compared_read, unbound_binder, undotted_binder, bound_stops, bound_read, comparison_stops, comparison_alone, equal_stops, equal_read, member_stops, member_read, application_stops, application_read, arguments_end, arguments_stop, arguments_more, unbound_subset, unbarred_subset, subset_stops, unclosed_subset, subset_read, fst_fails, fst_read, snd_fails, snd_read, parenthesized_read, unopened_fails, inner_fails, unclosed_fails, unopened, unit_read, parentheses_stop, unclosed, grouped_read, second_stops, unclosed_pair, pair_read}
use Rattle.topos_grammar.proofs.terms.+terms.Goals as goal

pub any_term-returns-in_err-left : goal.any_term-returns-in_err-left
any_term-returns-in_err-left t c =
    let p = err_from_is_err_and c.from_residual.result c.from_residual.ensures.1 in
    rw (p.1, p.2) (fails_from c.in_err-left.field-0.0 Disjunction AnyTerm (map token_of c.args.tokens.now) (map token_of c.args.tokens.now) (λ r d. term_stops (map token_of c.args.tokens.now) r d) c.in_err-left.ensures)

pub any_term-returns-in-None : goal.any_term-returns-in-None
any_term-returns-in-None t c =
    (term_alone (map token_of c.args.tokens.now) (map token_of c.in_ok-left.rest.now) (term_of c.in_ok-left.left.value) c.in_ok-left.ensures.0 c.in-None.ensures, omega (arith, c.in_ok-left.ensures.1))

pub any_term-returns-in_err-right-in-Some : goal.any_term-returns-in_err-right-in-Some
any_term-returns-in_err-right-in-Some t c =
    let p = err_from_is_err_and c.from_residual-in_err-right-in-Some.result c.from_residual-in_err-right-in-Some.ensures.1 in
    rw (p.1, p.2) (fails_from c.in_err-right-in-Some.field-0.0 AnyTerm AnyTerm (map token_of c.in-Some.behind.now) (map token_of c.args.tokens.now) (λ r d. implication_stops (map token_of c.args.tokens.now) (map token_of c.in_ok-left.rest.now) (map token_of c.in-Some.behind.now) r (term_of c.in_ok-left.left.value) c.in_ok-left.ensures.0 c.in-Some.ensures d) c.in_err-right-in-Some.ensures)

pub any_term-returns-in_ok-implies-in-Some : goal.any_term-returns-in_ok-implies-in-Some
any_term-returns-in_ok-implies-in-Some t c =
    rw c.in_ok-implies-in-Some.ensures (
      implication_read (map token_of c.args.tokens.now) (map token_of c.in_ok-left.rest.now) (map token_of c.in-Some.behind.now) (map token_of c.in_ok-right-in-Some.end.now) (term_of c.in_ok-left.left.value) (term_of c.in_ok-right-in-Some.right.value) c.in_ok-left.ensures.0 c.in-Some.ensures c.in_ok-right-in-Some.ensures.0,
      omega (arith, c.in_ok-left.ensures.1, ap length c.in-Some.ensures, c.in_ok-right-in-Some.ensures.1),
    )

pub disjunction-returns-in_err-first : goal.disjunction-returns-in_err-first
disjunction-returns-in_err-first t c =
    let p = err_from_is_err_and c.from_residual.result c.from_residual.ensures.1 in
    rw (p.1, p.2) (fails_from c.in_err-first.field-0.0 Conjunction Disjunction (map token_of c.args.tokens.now) (map token_of c.args.tokens.now) (λ r d. disjunction_stops (map token_of c.args.tokens.now) r d) c.in_err-first.ensures)

pub disjunction-returns : goal.disjunction-returns
disjunction-returns t c =
    gives_from (λ x. term_of x.0.value) (λ x. map token_of x.1.now) (MoreDisjuncts (term_of c.in_ok-first.first.value)) Disjunction (map token_of c.in_ok-first.rest.now) (map token_of c.args.tokens.now) c.more_disjuncts.result (λ x d. disjunction_read (map token_of c.args.tokens.now) (map token_of c.in_ok-first.rest.now) (term_of c.in_ok-first.first.value) x c.in_ok-first.ensures.0 d) (omega (arith, c.in_ok-first.ensures.1)) (c.more_disjuncts.ensures (disjuncts_ready (map token_of c.args.tokens.now) (map token_of c.in_ok-first.rest.now) (term_of c.in_ok-first.first.value) c.in_ok-first.ensures.0))

pub more_disjuncts-returns-in-None : goal.more_disjuncts-returns-in-None
more_disjuncts-returns-in-None t c =
    λ ready. (disjuncts_end (map token_of c.args.tokens.now) (term_of c.args.so_far.value) c.in-None.ensures, omega arith)

pub more_disjuncts-returns-in_err-next-in-Some : goal.more_disjuncts-returns-in_err-next-in-Some
more_disjuncts-returns-in_err-next-in-Some t c =
    λ ready. let p = err_from_is_err_and c.from_residual.result c.from_residual.ensures.1 in
    rw (p.1, p.2) (fails_from c.in_err-next-in-Some.field-0.0 Conjunction (MoreDisjuncts (term_of c.args.so_far.value)) (map token_of c.in-Some.behind.now) (map token_of c.args.tokens.now) (λ r d. disjuncts_stop (map token_of c.args.tokens.now) (map token_of c.in-Some.behind.now) r (term_of c.args.so_far.value) ready c.in-Some.ensures d) c.in_err-next-in-Some.ensures)

pub more_disjuncts-returns-in_ok-both-in-Some : goal.more_disjuncts-returns-in_ok-both-in-Some
more_disjuncts-returns-in_ok-both-in-Some t c =
    λ ready. gives_from (λ x. term_of x.0.value) (λ x. map token_of x.1.now) (MoreDisjuncts (tree.Or (term_of c.args.so_far.value) (term_of c.in_ok-next-in-Some.next.value))) (MoreDisjuncts (term_of c.args.so_far.value)) (map token_of c.in_ok-next-in-Some.rest.now) (map token_of c.args.tokens.now) c.more_disjuncts.result (λ x d. disjuncts_more (map token_of c.args.tokens.now) (map token_of c.in-Some.behind.now) (map token_of c.in_ok-next-in-Some.rest.now) (term_of c.args.so_far.value) (term_of c.in_ok-next-in-Some.next.value) x ready c.in-Some.ensures c.in_ok-next-in-Some.ensures.0 d)
    (omega (arith, ap length c.in-Some.ensures, c.in_ok-next-in-Some.ensures.1)) ((rw c.in_ok-both-in-Some.ensures at c.more_disjuncts.ensures) (more_disjuncts_ready (map token_of c.in-Some.behind.now) (map token_of c.in_ok-next-in-Some.rest.now) (term_of c.args.so_far.value) (term_of c.in_ok-next-in-Some.next.value) c.in_ok-next-in-Some.ensures.0))

pub conjunction-returns-in_err-first : goal.conjunction-returns-in_err-first
conjunction-returns-in_err-first t c =
    let p = err_from_is_err_and c.from_residual.result c.from_residual.ensures.1 in
    rw (p.1, p.2) (fails_from c.in_err-first.field-0.0 Negation Conjunction (map token_of c.args.tokens.now) (map token_of c.args.tokens.now) (λ r d. conjunction_stops (map token_of c.args.tokens.now) r d) c.in_err-first.ensures)

pub conjunction-returns : goal.conjunction-returns
conjunction-returns t c =
    gives_from (λ x. term_of x.0.value) (λ x. map token_of x.1.now) (MoreConjuncts (term_of c.in_ok-first.first.value)) Conjunction (map token_of c.in_ok-first.rest.now) (map token_of c.args.tokens.now) c.more_conjuncts.result (λ x d. conjunction_read (map token_of c.args.tokens.now) (map token_of c.in_ok-first.rest.now) (term_of c.in_ok-first.first.value) x c.in_ok-first.ensures.0 d) (omega (arith, c.in_ok-first.ensures.1)) (c.more_conjuncts.ensures (conjuncts_ready (map token_of c.args.tokens.now) (map token_of c.in_ok-first.rest.now) (term_of c.in_ok-first.first.value) c.in_ok-first.ensures.0))

pub more_conjuncts-returns-in-None : goal.more_conjuncts-returns-in-None
more_conjuncts-returns-in-None t c =
    λ ready. (conjuncts_end (map token_of c.args.tokens.now) (term_of c.args.so_far.value) c.in-None.ensures, omega arith)

pub more_conjuncts-returns-in_err-next-in-Some : goal.more_conjuncts-returns-in_err-next-in-Some
more_conjuncts-returns-in_err-next-in-Some t c =
    λ ready. let p = err_from_is_err_and c.from_residual.result c.from_residual.ensures.1 in
    rw (p.1, p.2) (fails_from c.in_err-next-in-Some.field-0.0 Negation (MoreConjuncts (term_of c.args.so_far.value)) (map token_of c.in-Some.behind.now) (map token_of c.args.tokens.now) (λ r d. conjuncts_stop (map token_of c.args.tokens.now) (map token_of c.in-Some.behind.now) r (term_of c.args.so_far.value) ready c.in-Some.ensures d) c.in_err-next-in-Some.ensures)

pub more_conjuncts-returns-in_ok-both-in-Some : goal.more_conjuncts-returns-in_ok-both-in-Some
more_conjuncts-returns-in_ok-both-in-Some t c =
    λ ready. gives_from (λ x. term_of x.0.value) (λ x. map token_of x.1.now) (MoreConjuncts (tree.And (term_of c.args.so_far.value) (term_of c.in_ok-next-in-Some.next.value))) (MoreConjuncts (term_of c.args.so_far.value)) (map token_of c.in_ok-next-in-Some.rest.now) (map token_of c.args.tokens.now) c.more_conjuncts.result (λ x d. conjuncts_more (map token_of c.args.tokens.now) (map token_of c.in-Some.behind.now) (map token_of c.in_ok-next-in-Some.rest.now) (term_of c.args.so_far.value) (term_of c.in_ok-next-in-Some.next.value) x ready c.in-Some.ensures c.in_ok-next-in-Some.ensures.0 d)
    (omega (arith, ap length c.in-Some.ensures, c.in_ok-next-in-Some.ensures.1)) ((rw c.in_ok-both-in-Some.ensures at c.more_conjuncts.ensures) (more_conjuncts_ready (map token_of c.in-Some.behind.now) (map token_of c.in_ok-next-in-Some.rest.now) (term_of c.args.so_far.value) (term_of c.in_ok-next-in-Some.next.value) c.in_ok-next-in-Some.ensures.0))

pub application-returns-in_err-first : goal.application-returns-in_err-first
application-returns-in_err-first t c =
    let p = err_from_is_err_and c.from_residual.result c.from_residual.ensures.1 in
    rw (p.1, p.2) (fails_from c.in_err-first.field-0.0 Atom Application (map token_of c.args.tokens.now) (map token_of c.args.tokens.now) (λ r d. application_stops (map token_of c.args.tokens.now) r d) c.in_err-first.ensures)

pub application-returns : goal.application-returns
application-returns t c =
    gives_from (λ x. term_of x.0.value) (λ x. map token_of x.1.now) (MoreArguments (term_of c.in_ok-first.first.value)) Application (map token_of c.in_ok-first.rest.now) (map token_of c.args.tokens.now) c.more_arguments.result (λ x d. application_read (map token_of c.args.tokens.now) (map token_of c.in_ok-first.rest.now) (term_of c.in_ok-first.first.value) x c.in_ok-first.ensures.0 d) (omega (arith, c.in_ok-first.ensures.1)) c.more_arguments.ensures

pub more_arguments-returns-in-None : goal.more_arguments-returns-in-None
more_arguments-returns-in-None t c =
    (arguments_end (map token_of c.args.tokens.now) (term_of c.args.so_far.value) c.in-None.ensures, omega arith)

pub more_arguments-returns-in_err-argument-in-Some : goal.more_arguments-returns-in_err-argument-in-Some
more_arguments-returns-in_err-argument-in-Some t c =
    let p = err_from_is_err_and c.from_residual.result c.from_residual.ensures.1 in
    rw (p.1, p.2) (fails_from c.in_err-argument-in-Some.field-0.0 Parentheses (MoreArguments (term_of c.args.so_far.value)) (map token_of c.args.tokens.now) (map token_of c.args.tokens.now) (λ r d. arguments_stop (map token_of c.args.tokens.now) _ r (term_of c.args.so_far.value) c.in-Some.ensures d) c.in_err-argument-in-Some.ensures)

pub more_arguments-returns-in_ok-both-in-Some : goal.more_arguments-returns-in_ok-both-in-Some
more_arguments-returns-in_ok-both-in-Some t c =
    gives_from (λ x. term_of x.0.value) (λ x. map token_of x.1.now) (MoreArguments (tree.Applied (term_of c.args.so_far.value) (term_of c.in_ok-argument-in-Some.argument.value))) (MoreArguments (term_of c.args.so_far.value)) (map token_of c.in_ok-argument-in-Some.rest.now) (map token_of c.args.tokens.now) c.more_arguments.result (λ x d. arguments_more (map token_of c.args.tokens.now) _ (map token_of c.in_ok-argument-in-Some.rest.now) (term_of c.args.so_far.value) (term_of c.in_ok-argument-in-Some.argument.value) x c.in-Some.ensures c.in_ok-argument-in-Some.ensures.0 d)
    (omega (arith, c.in_ok-argument-in-Some.ensures.1)) (rw c.in_ok-both-in-Some.ensures at c.more_arguments.ensures)

pub negation-returns-in_err-inner-in-Some : goal.negation-returns-in_err-inner-in-Some
negation-returns-in_err-inner-in-Some t c =
    let p = err_from_is_err_and c.from_residual.result c.from_residual.ensures.1 in
    rw (p.1, p.2) (fails_from c.in_err-inner-in-Some.field-0.0 Negation Negation (map token_of c.in-Some.behind.now) (map token_of c.args.tokens.now) (λ r d. not_stops (map token_of c.args.tokens.now) (map token_of c.in-Some.behind.now) r c.in-Some.ensures d) c.in_err-inner-in-Some.ensures)

pub negation-returns-in_ok-not-in-Some : goal.negation-returns-in_ok-not-in-Some
negation-returns-in_ok-not-in-Some t c =
    rw c.in_ok-not-in-Some.ensures (not_read (map token_of c.args.tokens.now) (map token_of c.in-Some.behind.now) (map token_of c.in_ok-inner-in-Some.rest.now) (term_of c.in_ok-inner-in-Some.inner.value) c.in-Some.ensures c.in_ok-inner-in-Some.ensures.0, omega (arith, ap length c.in-Some.ensures, c.in_ok-inner-in-Some.ensures.1))

pub negation-returns-in-Some-binder : goal.negation-returns-in-Some-binder
negation-returns-in-Some-binder t c =
    gives_from (λ x. term_of x.0.value) (λ x. map token_of x.1.now) BinderTerm Negation (Reserved (binder_word (binder_of c.in-Some-binder.binder)) ∷ (map token_of c.in-Some-binder.behind.now)) (map token_of c.args.tokens.now) c.bound_term.result (λ x d. quantified_read (binder_of c.in-Some-binder.binder) (map token_of c.args.tokens.now) (map token_of c.in-Some-binder.behind.now) x c.in-None.ensures c.in-Some-binder.ensures d) (omega (arith, ap length c.in-Some-binder.ensures)) c.bound_term.ensures

pub negation-returns-in-None-binder : goal.negation-returns-in-None-binder
negation-returns-in-None-binder t c =
    gives_from (λ x. term_of x.0.value) (λ x. map token_of x.1.now) Comparison Negation (map token_of c.args.tokens.now) (map token_of c.args.tokens.now) c.comparison.result (λ x d. compared_read (map token_of c.args.tokens.now) x c.in-None.ensures c.in-None-binder.ensures d) (omega arith) c.comparison.ensures

pub bound_term-returns-in_err-binding : goal.bound_term-returns-in_err-binding
bound_term-returns-in_err-binding t c =
    let p = err_from_is_err_and c.from_residual.result c.from_residual.ensures.1 in
    rw (p.1, p.2) (unbound_binder c.in_err-binding.field-0.0 (binder_of c.args.binder) (map token_of c.args.tokens.now) c.in_err-binding.ensures)

pub bound_term-returns-in_err-inner : goal.bound_term-returns-in_err-inner
bound_term-returns-in_err-inner t c =
    let p = err_from_is_err_and c.from_residual-in_err-inner.result c.from_residual-in_err-inner.ensures.1 in
    rw (p.1, p.2) (fails_at c.in_err-inner.field-0.0 (sign symbol.Dot) BinderTerm (map token_of c.in_ok-binding.rest.now) (Reserved (binder_word (binder_of c.args.binder)) ∷ (map token_of c.args.tokens.now)) (λ other. undotted_binder (binder_of c.args.binder) (map token_of c.args.tokens.now) (map token_of c.in_ok-binding.rest.now) (binding_of c.in_ok-binding.binding) c.in_ok-binding.ensures other) c.in_err-inner.ensures)

pub bound_term-returns-in_err-body : goal.bound_term-returns-in_err-body
bound_term-returns-in_err-body t c =
    let p = err_from_is_err_and c.from_residual-in_err-body.result c.from_residual-in_err-body.ensures.1 in
    rw (p.1, p.2) (fails_from c.in_err-body.field-0.0 AnyTerm BinderTerm (map token_of c.in_ok-inner.inner.now) (Reserved (binder_word (binder_of c.args.binder)) ∷ (map token_of c.args.tokens.now)) (λ r d. bound_stops (binder_of c.args.binder) (map token_of c.args.tokens.now) (map token_of c.in_ok-binding.rest.now) (map token_of c.in_ok-inner.inner.now) r (binding_of c.in_ok-binding.binding) c.in_ok-binding.ensures c.in_ok-inner.ensures d) c.in_err-body.ensures)

pub bound_term-returns : goal.bound_term-returns
bound_term-returns t c =
    rw c.in_ok-bound.ensures (
      bound_read (binder_of c.args.binder) (map token_of c.args.tokens.now) (map token_of c.in_ok-binding.rest.now) (map token_of c.in_ok-inner.inner.now) (map token_of c.in_ok-body.end.now) (binding_of c.in_ok-binding.binding) (term_of c.in_ok-body.body.value) c.in_ok-binding.ensures c.in_ok-inner.ensures c.in_ok-body.ensures.0,
      omega (arith, c.in_ok-binding.ensures.shorter, ap length c.in_ok-inner.ensures, c.in_ok-body.ensures.1),
    )

pub comparison-returns-in_err-left : goal.comparison-returns-in_err-left
comparison-returns-in_err-left t c =
    let p = err_from_is_err_and c.from_residual.result c.from_residual.ensures.1 in
    rw (p.1, p.2) (fails_from c.in_err-left.field-0.0 Application Comparison (map token_of c.args.tokens.now) (map token_of c.args.tokens.now) (λ r d. comparison_stops (map token_of c.args.tokens.now) r d) c.in_err-left.ensures)

pub comparison-returns-in_err-right-in-Some : goal.comparison-returns-in_err-right-in-Some
comparison-returns-in_err-right-in-Some t c =
    let p = err_from_is_err_and c.from_residual-in_err-right-in-Some.result c.from_residual-in_err-right-in-Some.ensures.1 in
    rw (p.1, p.2) (fails_from c.in_err-right-in-Some.field-0.0 Application Comparison (map token_of c.in-Some.behind.now) (map token_of c.args.tokens.now) (λ r d. equal_stops (map token_of c.args.tokens.now) (map token_of c.in_ok-left.rest.now) (map token_of c.in-Some.behind.now) r (term_of c.in_ok-left.left.value) c.in_ok-left.ensures.0 c.in-Some.ensures d) c.in_err-right-in-Some.ensures)

pub comparison-returns-in_ok-equal-in-Some : goal.comparison-returns-in_ok-equal-in-Some
comparison-returns-in_ok-equal-in-Some t c =
    rw c.in_ok-equal-in-Some.ensures (
      equal_read (map token_of c.args.tokens.now) (map token_of c.in_ok-left.rest.now) (map token_of c.in-Some.behind.now) (map token_of c.in_ok-right-in-Some.end.now) (term_of c.in_ok-left.left.value) (term_of c.in_ok-right-in-Some.right.value) c.in_ok-left.ensures.0 c.in-Some.ensures c.in_ok-right-in-Some.ensures.0,
      omega (arith, c.in_ok-left.ensures.1, ap length c.in-Some.ensures, c.in_ok-right-in-Some.ensures.1),
    )

pub comparison-returns-in_err-right-in-Some-after_word : goal.comparison-returns-in_err-right-in-Some-after_word
comparison-returns-in_err-right-in-Some-after_word t c =
    let p = err_from_is_err_and c.from_residual-in_err-right-in-Some-after_word.result c.from_residual-in_err-right-in-Some-after_word.ensures.1 in
    rw (p.1, p.2) (fails_from c.in_err-right-in-Some-after_word.field-0.0 Application Comparison (map token_of c.in-Some-after_word.behind.now) (map token_of c.args.tokens.now) (λ r d. member_stops (map token_of c.args.tokens.now) (map token_of c.in_ok-left.rest.now) (map token_of c.in-Some-after_word.behind.now) r (term_of c.in_ok-left.left.value) c.in_ok-left.ensures.0 c.in-None.ensures c.in-Some-after_word.ensures d) c.in_err-right-in-Some-after_word.ensures)

pub comparison-returns-in_ok-member-in-Some-after_word : goal.comparison-returns-in_ok-member-in-Some-after_word
comparison-returns-in_ok-member-in-Some-after_word t c =
    rw c.in_ok-member-in-Some-after_word.ensures (
      member_read (map token_of c.args.tokens.now) (map token_of c.in_ok-left.rest.now) (map token_of c.in-Some-after_word.behind.now) (map token_of c.in_ok-right-in-Some-after_word.end.now) (term_of c.in_ok-left.left.value) (term_of c.in_ok-right-in-Some-after_word.right.value) c.in_ok-left.ensures.0 c.in-None.ensures c.in-Some-after_word.ensures c.in_ok-right-in-Some-after_word.ensures.0,
      omega (arith, c.in_ok-left.ensures.1, ap length c.in-Some-after_word.ensures, c.in_ok-right-in-Some-after_word.ensures.1),
    )

pub comparison-returns-in-None-after_word : goal.comparison-returns-in-None-after_word
comparison-returns-in-None-after_word t c =
    (comparison_alone (map token_of c.args.tokens.now) (map token_of c.in_ok-left.rest.now) (term_of c.in_ok-left.left.value) c.in_ok-left.ensures.0 c.in-None.ensures c.in-None-after_word.ensures, omega (arith, c.in_ok-left.ensures.1))

pub in_parentheses-returns-in_err-inside : goal.in_parentheses-returns-in_err-inside
in_parentheses-returns-in_err-inside t c =
    let p = err_from_is_err_and c.from_residual.result c.from_residual.ensures.1 in
    rw (p.1, p.2) (unopened_fails c.in_err-inside.field-0.0 (map token_of c.args.tokens.now) c.in_err-inside.ensures)

pub in_parentheses-returns-in_err-inner : goal.in_parentheses-returns-in_err-inner
in_parentheses-returns-in_err-inner t c =
    let p = err_from_is_err_and c.from_residual-in_err-inner.result c.from_residual-in_err-inner.ensures.1 in
    rw (p.1, p.2) (inner_fails c.in_err-inner.field-0.0 (map token_of c.args.tokens.now) (map token_of c.in_ok-inside.inside.now) c.in_ok-inside.ensures c.in_err-inner.ensures)

pub in_parentheses-returns-in_err-end : goal.in_parentheses-returns-in_err-end
in_parentheses-returns-in_err-end t c =
    let p = err_from_is_err_and c.from_residual-in_err-end.result c.from_residual-in_err-end.ensures.1 in
    rw (p.1, p.2) (unclosed_fails c.in_err-end.field-0.0 (map token_of c.args.tokens.now) (map token_of c.in_ok-inside.inside.now) (map token_of c.in_ok-inner.rest.now) (term_of c.in_ok-inner.inner.value) c.in_ok-inside.ensures c.in_ok-inner.ensures.0 c.in_err-end.ensures)

pub in_parentheses-returns : goal.in_parentheses-returns
in_parentheses-returns t c =
    record { inside = (map token_of c.in_ok-inside.inside.now); behind = (map token_of c.in_ok-inner.rest.now); opening = c.in_ok-inside.ensures; inner = c.in_ok-inner.ensures.0; closing = c.in_ok-end.ensures; shorter = omega (arith, ap length c.in_ok-inside.ensures, c.in_ok-inner.ensures.1, ap length c.in_ok-end.ensures) }

pub atom-returns-in-Some : goal.atom-returns-in-Some
atom-returns-in-Some t c =
    rw c.in_ok-new.ensures.ok (c.in-Some.ensures.term, c.in-Some.ensures.shorter)

pub atom-returns-in_err-binding : goal.atom-returns-in_err-binding
atom-returns-in_err-binding t c =
    let p = err_from_is_err_and c.from_residual-in_err-binding.result c.from_residual-in_err-binding.ensures.1 in
    rw (p.1, p.2) (unbound_subset c.in_err-binding.field-0.0 (map token_of c.args.tokens.now) (map token_of c.in-Some-after_symbol.behind.now) c.in_default.ensures c.in-Some-after_symbol.ensures c.in_err-binding.ensures)

pub atom-returns-in_err-inner : goal.atom-returns-in_err-inner
atom-returns-in_err-inner t c =
    let p = err_from_is_err_and c.from_residual-in_err-inner.result c.from_residual-in_err-inner.ensures.1 in
    rw (p.1, p.2) (fails_at c.in_err-inner.field-0.0 (sign symbol.Bar) Atom (map token_of c.in_ok-binding.rest.now) (map token_of c.args.tokens.now) (λ other. unbarred_subset (map token_of c.args.tokens.now) (map token_of c.in-Some-after_symbol.behind.now) (map token_of c.in_ok-binding.rest.now) (binding_of c.in_ok-binding.binding) c.in_default.ensures c.in-Some-after_symbol.ensures c.in_ok-binding.ensures other) c.in_err-inner.ensures)

pub atom-returns-in_err-body : goal.atom-returns-in_err-body
atom-returns-in_err-body t c =
    let p = err_from_is_err_and c.from_residual-in_err-body.result c.from_residual-in_err-body.ensures.1 in
    rw (p.1, p.2) (fails_from c.in_err-body.field-0.0 AnyTerm Atom (map token_of c.in_ok-inner.inner.now) (map token_of c.args.tokens.now) (λ r d. subset_stops (map token_of c.args.tokens.now) (map token_of c.in-Some-after_symbol.behind.now) (map token_of c.in_ok-binding.rest.now) (map token_of c.in_ok-inner.inner.now) r (binding_of c.in_ok-binding.binding) c.in_default.ensures c.in-Some-after_symbol.ensures c.in_ok-binding.ensures c.in_ok-inner.ensures d) c.in_err-body.ensures)

pub atom-returns-in_err-end : goal.atom-returns-in_err-end
atom-returns-in_err-end t c =
    let p = err_from_is_err_and c.from_residual-in_err-end.result c.from_residual-in_err-end.ensures.1 in
    rw (p.1, p.2) (fails_at c.in_err-end.field-0.0 (sign symbol.CloseBrace) Atom (map token_of c.in_ok-body.rest.now) (map token_of c.args.tokens.now) (λ other. unclosed_subset (map token_of c.args.tokens.now) (map token_of c.in-Some-after_symbol.behind.now) (map token_of c.in_ok-binding.rest.now) (map token_of c.in_ok-inner.inner.now) (map token_of c.in_ok-body.rest.now) (binding_of c.in_ok-binding.binding) (term_of c.in_ok-body.body.value) c.in_default.ensures c.in-Some-after_symbol.ensures c.in_ok-binding.ensures c.in_ok-inner.ensures c.in_ok-body.ensures.0 other) c.in_err-end.ensures)

pub atom-returns-in-Some-after_symbol : goal.atom-returns-in-Some-after_symbol
atom-returns-in-Some-after_symbol t c =
    rw c.in_ok-subset.ensures (
      subset_read (map token_of c.args.tokens.now) (map token_of c.in-Some-after_symbol.behind.now) (map token_of c.in_ok-binding.rest.now) (map token_of c.in_ok-inner.inner.now) (map token_of c.in_ok-body.rest.now) (map token_of c.in_ok-end.end.now) (binding_of c.in_ok-binding.binding) (term_of c.in_ok-body.body.value) c.in_default.ensures c.in-Some-after_symbol.ensures c.in_ok-binding.ensures c.in_ok-inner.ensures c.in_ok-body.ensures.0 c.in_ok-end.ensures,
      omega (arith, ap length c.in-Some-after_symbol.ensures, c.in_ok-binding.ensures.shorter, ap length c.in_ok-inner.ensures, c.in_ok-body.ensures.1, ap length c.in_ok-end.ensures),
    )

pub atom-returns-in_err-pair : goal.atom-returns-in_err-pair
atom-returns-in_err-pair t c =
    let p = err_from_is_err_and c.from_residual-in_err-pair.result c.from_residual-in_err-pair.ensures.1 in
    rw (p.1, p.2) (fst_fails c.in_err-pair.field-0.0 (map token_of c.args.tokens.now) (map token_of c.in-Some-after_word.behind.now) c.in_default.ensures c.in_default-after_symbol.ensures c.in-Some-after_word.ensures c.in_err-pair.ensures)

pub atom-returns-in-Some-after_word : goal.atom-returns-in-Some-after_word
atom-returns-in-Some-after_word t c =
    rw c.in_ok-first_of.ensures (fst_read (map token_of c.args.tokens.now) (map token_of c.in-Some-after_word.behind.now) (map token_of c.in_ok-pair.rest.now) (term_of c.in_ok-pair.pair.value) c.in_default.ensures c.in_default-after_symbol.ensures c.in-Some-after_word.ensures c.in_ok-pair.ensures, omega (arith, ap length c.in-Some-after_word.ensures, c.in_ok-pair.ensures.shorter))

pub atom-returns-in_err-pair-2 : goal.atom-returns-in_err-pair-2
atom-returns-in_err-pair-2 t c =
    let p = err_from_is_err_and c.from_residual-in_err-pair-2.result c.from_residual-in_err-pair-2.ensures.1 in
    rw (p.1, p.2) (snd_fails c.in_err-pair-2.field-0.0 (map token_of c.args.tokens.now) (map token_of c.in-Some-after_word-2.behind.now) c.in_default.ensures c.in_default-after_symbol.ensures c.in_default-after_word.ensures c.in-Some-after_word-2.ensures c.in_err-pair-2.ensures)

pub atom-returns-in-Some-after_word-2 : goal.atom-returns-in-Some-after_word-2
atom-returns-in-Some-after_word-2 t c =
    rw c.in_ok-second_of.ensures (snd_read (map token_of c.args.tokens.now) (map token_of c.in-Some-after_word-2.behind.now) (map token_of c.in_ok-pair-2.rest.now) (term_of c.in_ok-pair-2.pair.value) c.in_default.ensures c.in_default-after_symbol.ensures c.in_default-after_word.ensures c.in-Some-after_word-2.ensures c.in_ok-pair-2.ensures, omega (arith, ap length c.in-Some-after_word-2.ensures, c.in_ok-pair-2.ensures.shorter))

pub atom-returns : goal.atom-returns
atom-returns t c =
    gives_from (λ x. term_of x.0.value) (λ x. map token_of x.1.now) Parentheses Atom (map token_of c.args.tokens.now) (map token_of c.args.tokens.now) c.parentheses.result (λ x d. parenthesized_read (map token_of c.args.tokens.now) x c.in_default.ensures c.in_default-after_symbol.ensures c.in_default-after_word.ensures c.in_default-after_word-2.ensures d) (omega arith) c.parentheses.ensures

pub parentheses-returns-in_err-inside : goal.parentheses-returns-in_err-inside
parentheses-returns-in_err-inside t c =
    let p = err_from_is_err_and c.from_residual.result c.from_residual.ensures.1 in
    rw (p.1, p.2) (fails_at c.in_err-inside.field-0.0 (sign symbol.OpenParenthesis) Parentheses (map token_of c.args.tokens.now) (map token_of c.args.tokens.now) (λ other. unopened (map token_of c.args.tokens.now) other) c.in_err-inside.ensures)

pub parentheses-returns-in-Some : goal.parentheses-returns-in-Some
parentheses-returns-in-Some t c =
    rw c.in_ok-new.ensures.ok (unit_read (map token_of c.args.tokens.now) (map token_of c.in_ok-inside.inside.now) (map token_of c.in-Some.rest.now) c.in_ok-inside.ensures c.in-Some.ensures, omega (arith, ap length c.in_ok-inside.ensures, ap length c.in-Some.ensures))

pub parentheses-returns-in_err-first : goal.parentheses-returns-in_err-first
parentheses-returns-in_err-first t c =
    let p = err_from_is_err_and c.from_residual-in_err-first.result c.from_residual-in_err-first.ensures.1 in
    rw (p.1, p.2) (fails_from c.in_err-first.field-0.0 AnyTerm Parentheses (map token_of c.in_ok-inside.inside.now) (map token_of c.args.tokens.now) (λ r d. parentheses_stop (map token_of c.args.tokens.now) (map token_of c.in_ok-inside.inside.now) r c.in_ok-inside.ensures c.in_default.ensures d) c.in_err-first.ensures)

pub parentheses-returns-in_err-end-in-None : goal.parentheses-returns-in_err-end-in-None
parentheses-returns-in_err-end-in-None t c =
    let p = err_from_is_err_and c.from_residual-in_err-end-in-None.result c.from_residual-in_err-end-in-None.ensures.1 in
    rw (p.1, p.2) (fails_at c.in_err-end-in-None.field-0.0 (sign symbol.CloseParenthesis) Parentheses (map token_of c.in_ok-first.rest.now) (map token_of c.args.tokens.now) (λ other. unclosed (map token_of c.args.tokens.now) (map token_of c.in_ok-inside.inside.now) (map token_of c.in_ok-first.rest.now) (term_of c.in_ok-first.first.value) c.in_ok-inside.ensures c.in_default.ensures c.in_ok-first.ensures.0 c.in-None.ensures other) c.in_err-end-in-None.ensures)

pub parentheses-returns-in_ok-grouped-in-None : goal.parentheses-returns-in_ok-grouped-in-None
parentheses-returns-in_ok-grouped-in-None t c =
    rw c.in_ok-grouped-in-None.ensures (
      grouped_read (map token_of c.args.tokens.now) (map token_of c.in_ok-inside.inside.now) (map token_of c.in_ok-first.rest.now) (map token_of c.in_ok-end-in-None.end.now) (term_of c.in_ok-first.first.value) c.in_ok-inside.ensures c.in_default.ensures c.in_ok-first.ensures.0 c.in-None.ensures c.in_ok-end-in-None.ensures,
      omega (arith, ap length c.in_ok-inside.ensures, c.in_ok-first.ensures.1, ap length c.in_ok-end-in-None.ensures),
    )

pub parentheses-returns-in_err-second-in-Some-after_symbol : goal.parentheses-returns-in_err-second-in-Some-after_symbol
parentheses-returns-in_err-second-in-Some-after_symbol t c =
    let p = err_from_is_err_and c.from_residual-in_err-second-in-Some-after_symbol.result c.from_residual-in_err-second-in-Some-after_symbol.ensures.1 in
    rw (p.1, p.2) (fails_from c.in_err-second-in-Some-after_symbol.field-0.0 AnyTerm Parentheses (map token_of c.in-Some-after_symbol.behind.now) (map token_of c.args.tokens.now) (λ r d. second_stops (map token_of c.args.tokens.now) (map token_of c.in_ok-inside.inside.now) (map token_of c.in_ok-first.rest.now) (map token_of c.in-Some-after_symbol.behind.now) r (term_of c.in_ok-first.first.value) c.in_ok-inside.ensures c.in_default.ensures c.in_ok-first.ensures.0 c.in-Some-after_symbol.ensures d) c.in_err-second-in-Some-after_symbol.ensures)

pub parentheses-returns-in_err-end-in-Some-after_symbol : goal.parentheses-returns-in_err-end-in-Some-after_symbol
parentheses-returns-in_err-end-in-Some-after_symbol t c =
    let p = err_from_is_err_and c.from_residual-in_err-end-in-Some-after_symbol.result c.from_residual-in_err-end-in-Some-after_symbol.ensures.1 in
    rw (p.1, p.2) (fails_at c.in_err-end-in-Some-after_symbol.field-0.0 (sign symbol.CloseParenthesis) Parentheses (map token_of c.in_ok-second-in-Some-after_symbol.rest.now) (map token_of c.args.tokens.now) (λ other. unclosed_pair (map token_of c.args.tokens.now) (map token_of c.in_ok-inside.inside.now) (map token_of c.in_ok-first.rest.now) (map token_of c.in-Some-after_symbol.behind.now) (map token_of c.in_ok-second-in-Some-after_symbol.rest.now) (term_of c.in_ok-first.first.value) (term_of c.in_ok-second-in-Some-after_symbol.second.value) c.in_ok-inside.ensures c.in_default.ensures c.in_ok-first.ensures.0 c.in-Some-after_symbol.ensures c.in_ok-second-in-Some-after_symbol.ensures.0 other) c.in_err-end-in-Some-after_symbol.ensures)

pub parentheses-returns-in_ok-paired-in-Some-after_symbol : goal.parentheses-returns-in_ok-paired-in-Some-after_symbol
parentheses-returns-in_ok-paired-in-Some-after_symbol t c =
    rw c.in_ok-paired-in-Some-after_symbol.ensures (
      pair_read (map token_of c.args.tokens.now) (map token_of c.in_ok-inside.inside.now) (map token_of c.in_ok-first.rest.now) (map token_of c.in-Some-after_symbol.behind.now) (map token_of c.in_ok-second-in-Some-after_symbol.rest.now) (map token_of c.in_ok-end-in-Some-after_symbol.end.now) (term_of c.in_ok-first.first.value) (term_of c.in_ok-second-in-Some-after_symbol.second.value) c.in_ok-inside.ensures c.in_default.ensures c.in_ok-first.ensures.0 c.in-Some-after_symbol.ensures c.in_ok-second-in-Some-after_symbol.ensures.0 c.in_ok-end-in-Some-after_symbol.ensures,
      omega (arith, ap length c.in_ok-inside.ensures, c.in_ok-first.ensures.1, ap length c.in-Some-after_symbol.ensures, c.in_ok-second-in-Some-after_symbol.ensures.1, ap length c.in_ok-end-in-Some-after_symbol.ensures),
    )
