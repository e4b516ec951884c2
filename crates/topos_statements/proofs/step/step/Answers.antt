use Rattle.std.proofs.Common.{map}
use Rattle.std.proofs.lemmas.Result.{err_from_is_err_and}
use Rattle.topos_text.specs.declared.symbol.Symbol.TheVariants as symbol
use Rattle.topos_text.specs.Tokens.{token_of, written}
use Rattle.topos_text.specs.Views.{term_of, binding_of, place_of}
use Rattle.topos_grammar.specs.Kinds.{OfStep, AnyTerm, Context, Step}
use Rattle.topos_grammar.specs.Codes.{AnyName, sign, give, code, places, terms, with_term}
use Rattle.topos_grammar.specs.Reading.{gives, eats_not, names_not, calls, calls_not}
use Rattle.topos_grammar.proofs.Steps.{eats_at, names_at}
use Rattle.topos_statements.proofs.Exits.{stop_at, stop_in, stop_in_kind, stop_in_code}
use Rattle.topos_grammar.proofs.StatementSides.{after_places, after_terms}
use Rattle.topos_statements.proofs.step.step.Goals as goal

pub returns-in_err-rule : goal.returns-in_err-rule
unfolding code
returns-in_err-rule c =
    let p = err_from_is_err_and c.from_residual.result c.from_residual.ensures.1 in
    rw (p.1, p.2) (stop_at c.in_err-rule.field-0.0 AnyName (code Step) (map token_of c.args.tokens.now) (map token_of c.args.tokens.now) (λ other. names_not other) c.in_err-rule.ensures)

pub returns-in_err-from : goal.returns-in_err-from
unfolding code
returns-in_err-from c =
    let p = err_from_is_err_and c.from_residual-in_err-from.result c.from_residual-in_err-from.ensures.1 in
    rw (p.1, p.2) (stop_in c.in_err-from.field-0.0 (λ s k. places k) (code Step) (map token_of c.in_ok-rule.after_rule.now) (map token_of c.args.tokens.now) (after_places (written c.in_ok-rule.rule)) (λ r d. names_at c.in_ok-rule.ensures (d)) c.in_err-from.ensures)

pub returns-in_err-sequent : goal.returns-in_err-sequent
unfolding code
returns-in_err-sequent c =
    let p = err_from_is_err_and c.from_residual-in_err-sequent.result c.from_residual-in_err-sequent.ensures.1 in
    rw (p.1, p.2) (stop_at c.in_err-sequent.field-0.0 (sign symbol.Colon) (code Step) (map token_of c.in_ok-from.after_from.now) (map token_of c.args.tokens.now) (λ other. names_at c.in_ok-rule.ensures (c.in_ok-from.ensures.read OfStep (after_places (written c.in_ok-rule.rule)) _ (eats_not other))) c.in_err-sequent.ensures)

pub returns-in_err-variables : goal.returns-in_err-variables
unfolding code
returns-in_err-variables c =
    let p = err_from_is_err_and c.from_residual-in_err-variables.result c.from_residual-in_err-variables.ensures.1 in
    rw (p.1, p.2) (stop_in_code c.in_err-variables.field-0.0 (code Context) (code Step) (map token_of c.in_ok-sequent.sequent.now) (map token_of c.args.tokens.now) (λ r d. names_at c.in_ok-rule.ensures (c.in_ok-from.ensures.read OfStep (after_places (written c.in_ok-rule.rule)) _ (eats_at c.in_ok-sequent.ensures (calls_not d)))) c.in_err-variables.ensures)

pub returns-in_err-premises : goal.returns-in_err-premises
unfolding code
returns-in_err-premises c =
    let p = err_from_is_err_and c.from_residual-in_err-premises.result c.from_residual-in_err-premises.ensures.1 in
    rw (p.1, p.2) (stop_at c.in_err-premises.field-0.0 (sign symbol.Bar) (code Step) (map token_of c.in_ok-variables.after_variables.now) (map token_of c.args.tokens.now) (λ other. names_at c.in_ok-rule.ensures (c.in_ok-from.ensures.read OfStep (after_places (written c.in_ok-rule.rule)) _ (eats_at c.in_ok-sequent.ensures (calls c.in_ok-variables.ensures (eats_not other))))) c.in_err-premises.ensures)

pub returns-in_err-hypotheses : goal.returns-in_err-hypotheses
unfolding code
returns-in_err-hypotheses c =
    let p = err_from_is_err_and c.from_residual-in_err-hypotheses.result c.from_residual-in_err-hypotheses.ensures.1 in
    rw (p.1, p.2) (stop_in c.in_err-hypotheses.field-0.0 (λ s k. terms k) (code Step) (map token_of c.in_ok-premises.premises.now) (map token_of c.args.tokens.now) (after_terms (written c.in_ok-rule.rule) (map place_of c.in_ok-from.from.items) (map binding_of c.in_ok-variables.variables.items)) (λ r d. names_at c.in_ok-rule.ensures (c.in_ok-from.ensures.read OfStep (after_places (written c.in_ok-rule.rule)) _ (eats_at c.in_ok-sequent.ensures (calls c.in_ok-variables.ensures (eats_at c.in_ok-premises.ensures (d)))))) c.in_err-hypotheses.ensures)

pub returns-in_err-conclusions : goal.returns-in_err-conclusions
unfolding code
returns-in_err-conclusions c =
    let p = err_from_is_err_and c.from_residual-in_err-conclusions.result c.from_residual-in_err-conclusions.ensures.1 in
    rw (p.1, p.2) (stop_at c.in_err-conclusions.field-0.0 (sign symbol.Arrow) (code Step) (map token_of c.in_ok-hypotheses.after_hypotheses.now) (map token_of c.args.tokens.now) (λ other. names_at c.in_ok-rule.ensures (c.in_ok-from.ensures.read OfStep (after_places (written c.in_ok-rule.rule)) _ (eats_at c.in_ok-sequent.ensures (calls c.in_ok-variables.ensures (eats_at c.in_ok-premises.ensures (c.in_ok-hypotheses.ensures.read OfStep (after_terms (written c.in_ok-rule.rule) (map place_of c.in_ok-from.from.items) (map binding_of c.in_ok-variables.variables.items)) _ (eats_not other))))))) c.in_err-conclusions.ensures)

pub returns-in_err-conclusion : goal.returns-in_err-conclusion
unfolding code
returns-in_err-conclusion c =
    let p = err_from_is_err_and c.from_residual-in_err-conclusion.result c.from_residual-in_err-conclusion.ensures.1 in
    rw (p.1, p.2) (stop_in_kind c.in_err-conclusion.field-0.0 AnyTerm (code Step) (map token_of c.in_ok-conclusions.conclusions.now) (map token_of c.args.tokens.now) (λ r d. names_at c.in_ok-rule.ensures (c.in_ok-from.ensures.read OfStep (after_places (written c.in_ok-rule.rule)) _ (eats_at c.in_ok-sequent.ensures (calls c.in_ok-variables.ensures (eats_at c.in_ok-premises.ensures (c.in_ok-hypotheses.ensures.read OfStep (after_terms (written c.in_ok-rule.rule) (map place_of c.in_ok-from.from.items) (map binding_of c.in_ok-variables.variables.items)) _ (eats_at c.in_ok-conclusions.ensures (calls_not d)))))))) c.in_err-conclusion.ensures)

pub returns-in_err-with : goal.returns-in_err-with
unfolding code
returns-in_err-with c =
    let p = err_from_is_err_and c.from_residual-in_err-with.result c.from_residual-in_err-with.ensures.1 in
    rw (p.1, p.2) (stop_in c.in_err-with.field-0.0 (λ s k. with_term k) (code Step) (map token_of c.in_ok-conclusion.after_conclusion.now) (map token_of c.args.tokens.now) (λ w. give (record { rule = written c.in_ok-rule.rule; from = map place_of c.in_ok-from.from.items; context = map binding_of c.in_ok-variables.variables.items; hypotheses = map (λ t. term_of t.value) c.in_ok-hypotheses.hypotheses.items; conclusion = term_of c.in_ok-conclusion.conclusion.value; with_term = w })) (λ r d. names_at c.in_ok-rule.ensures (c.in_ok-from.ensures.read OfStep (after_places (written c.in_ok-rule.rule)) _ (eats_at c.in_ok-sequent.ensures (calls c.in_ok-variables.ensures (eats_at c.in_ok-premises.ensures (c.in_ok-hypotheses.ensures.read OfStep (after_terms (written c.in_ok-rule.rule) (map place_of c.in_ok-from.from.items) (map binding_of c.in_ok-variables.variables.items)) _ (eats_at c.in_ok-conclusions.ensures (calls c.in_ok-conclusion.ensures.0 (d))))))))) c.in_err-with.ensures)

pub returns : goal.returns
unfolding code
returns c = names_at c.in_ok-rule.ensures (c.in_ok-from.ensures.read OfStep (after_places (written c.in_ok-rule.rule)) _ (eats_at c.in_ok-sequent.ensures (calls c.in_ok-variables.ensures (eats_at c.in_ok-premises.ensures (c.in_ok-hypotheses.ensures.read OfStep (after_terms (written c.in_ok-rule.rule) (map place_of c.in_ok-from.from.items) (map binding_of c.in_ok-variables.variables.items)) _ (eats_at c.in_ok-conclusions.ensures (calls c.in_ok-conclusion.ensures.0 (c.in_ok-with.ensures.read OfStep (λ w. give (record { rule = written c.in_ok-rule.rule; from = map place_of c.in_ok-from.from.items; context = map binding_of c.in_ok-variables.variables.items; hypotheses = map (λ t. term_of t.value) c.in_ok-hypotheses.hypotheses.items; conclusion = term_of c.in_ok-conclusion.conclusion.value; with_term = w })) _ (gives)))))))))
