use Rattle.std.proofs.Common.{map}
use Rattle.std.proofs.lemmas.Result.{err_from_is_err_and}
use Rattle.topos_text.specs.declared.word.Word.TheVariants as word
use Rattle.topos_text.specs.declared.symbol.Symbol.TheVariants as symbol
use Rattle.topos_text.specs.Tokens.{token_of, Reserved, Sign}
use Rattle.topos_text.specs.Trees as tree
use Rattle.topos_grammar.specs.Kinds.{OfName, OfSite, ArrowName, SiteStatement}
use Rattle.topos_grammar.specs.Codes.{sign, give, eat, name, code, eat_sign}
use Rattle.topos_grammar.specs.Reading.{gives, eats_not, calls, calls_not, peeks, peeks_not}
use Rattle.topos_grammar.proofs.Steps.{eats_at}
use Rattle.topos_statements.specs.Passages.{several}
use Rattle.topos_statements.proofs.Exits.{stop_at, stop_in, stop_in_code}
use Rattle.topos_statements.proofs.site.site_statement.Goals as goal

pub returns-in_err-objects : goal.returns-in_err-objects
unfolding code
returns-in_err-objects c =
    let p = err_from_is_err_and c.from_residual.result c.from_residual.ensures.1 in
    rw (p.1, p.2) (stop_in c.in_err-objects.field-0.0 (several OfName (λ s k. name k)) (code SiteStatement) (map token_of c.in-Some.behind.now) (map token_of c.args.tokens.now) (λ xs. give (tree.Objects xs)) (λ r d. peeks (map token_of c.in-Some.behind.now, c.in-Some.ensures) (eats_at c.in-Some.ensures (d))) c.in_err-objects.ensures.passes)

pub returns-in-Some : goal.returns-in-Some
unfolding code
returns-in-Some c = peeks (map token_of c.in-Some.behind.now, c.in-Some.ensures) (eats_at c.in-Some.ensures (c.in_ok-objects.ensures.passes.read OfSite (λ xs. give (tree.Objects xs)) _ (gives)))

pub returns-in_err-names : goal.returns-in_err-names
unfolding code
returns-in_err-names c =
    let p = err_from_is_err_and c.from_residual-in_err-names.result c.from_residual-in_err-names.ensures.1 in
    rw (p.1, p.2) (stop_in c.in_err-names.field-0.0 (several OfName (λ s k. name k)) (code SiteStatement) (map token_of c.in-Some-after_word.behind.now) (map token_of c.args.tokens.now) (λ fs. eat_sign symbol.Colon (name (λ d. eat_sign symbol.Arrow (name (λ e. give (tree.Arrows fs d e)))))) (λ r d. peeks_not c.in_default.ensures (peeks (map token_of c.in-Some-after_word.behind.now, c.in-Some-after_word.ensures) (eats_at c.in-Some-after_word.ensures (d)))) c.in_err-names.ensures.passes)

pub returns-in_err-dom : goal.returns-in_err-dom
unfolding code
returns-in_err-dom c =
    let p = err_from_is_err_and c.from_residual-in_err-dom.result c.from_residual-in_err-dom.ensures.1 in
    rw (p.1, p.2) (stop_in c.in_err-dom.field-0.0 (λ s k. eat (Sign symbol.Colon) (name k)) (code SiteStatement) (map token_of c.in_ok-names.after_names.now) (map token_of c.args.tokens.now) _ (λ r d. peeks_not c.in_default.ensures (peeks (map token_of c.in-Some-after_word.behind.now, c.in-Some-after_word.ensures) (eats_at c.in-Some-after_word.ensures (c.in_ok-names.ensures.passes.read OfSite (λ fs. eat_sign symbol.Colon (name (λ d. eat_sign symbol.Arrow (name (λ e. give (tree.Arrows fs d e)))))) _ (d))))) c.in_err-dom.ensures)

pub returns-in_err-cod : goal.returns-in_err-cod
unfolding code
returns-in_err-cod c =
    let p = err_from_is_err_and c.from_residual-in_err-cod.result c.from_residual-in_err-cod.ensures.1 in
    rw (p.1, p.2) (stop_in c.in_err-cod.field-0.0 (λ s k. eat (Sign symbol.Arrow) (name k)) (code SiteStatement) (map token_of c.in_ok-dom.after_dom.now) (map token_of c.args.tokens.now) _ (λ r d. peeks_not c.in_default.ensures (peeks (map token_of c.in-Some-after_word.behind.now, c.in-Some-after_word.ensures) (eats_at c.in-Some-after_word.ensures (c.in_ok-names.ensures.passes.read OfSite (λ fs. eat_sign symbol.Colon (name (λ d. eat_sign symbol.Arrow (name (λ e. give (tree.Arrows fs d e)))))) _ (c.in_ok-dom.ensures.read OfSite _ _ (d)))))) c.in_err-cod.ensures)

pub returns-in-Some-after_word : goal.returns-in-Some-after_word
unfolding code
returns-in-Some-after_word c = peeks_not c.in_default.ensures (peeks (map token_of c.in-Some-after_word.behind.now, c.in-Some-after_word.ensures) (eats_at c.in-Some-after_word.ensures (c.in_ok-names.ensures.passes.read OfSite (λ fs. eat_sign symbol.Colon (name (λ d. eat_sign symbol.Arrow (name (λ e. give (tree.Arrows fs d e)))))) _ (c.in_ok-dom.ensures.read OfSite _ _ (c.in_ok-cod.ensures.read OfSite _ _ (gives))))))

pub returns-in_err-after : goal.returns-in_err-after
unfolding code
returns-in_err-after c =
    let p = err_from_is_err_and c.from_residual-in_err-after.result c.from_residual-in_err-after.ensures.1 in
    rw (p.1, p.2) (stop_in c.in_err-after.field-0.0 (λ s k. eat (Reserved word.Compose) (name k)) (code SiteStatement) (map token_of c.args.tokens.now) (map token_of c.args.tokens.now) _ (λ r d. peeks_not c.in_default.ensures (peeks_not c.in_default-after_word.ensures (d))) c.in_err-after.ensures)

pub returns-in_err-before : goal.returns-in_err-before
unfolding code
returns-in_err-before c =
    let p = err_from_is_err_and c.from_residual-in_err-before.result c.from_residual-in_err-before.ensures.1 in
    rw (p.1, p.2) (stop_in c.in_err-before.field-0.0 (λ s k. eat (Sign symbol.Dot) (name k)) (code SiteStatement) (map token_of c.in_ok-after.after_after.now) (map token_of c.args.tokens.now) _ (λ r d. peeks_not c.in_default.ensures (peeks_not c.in_default-after_word.ensures (c.in_ok-after.ensures.read OfSite _ _ (d)))) c.in_err-before.ensures)

pub returns-in_err-equated : goal.returns-in_err-equated
unfolding code
returns-in_err-equated c =
    let p = err_from_is_err_and c.from_residual-in_err-equated.result c.from_residual-in_err-equated.ensures.1 in
    rw (p.1, p.2) (stop_at c.in_err-equated.field-0.0 (sign symbol.Equals) (code SiteStatement) (map token_of c.in_ok-before.after_before.now) (map token_of c.args.tokens.now) (λ other. peeks_not c.in_default.ensures (peeks_not c.in_default-after_word.ensures (c.in_ok-after.ensures.read OfSite _ _ (c.in_ok-before.ensures.read OfSite _ _ (eats_not other))))) c.in_err-equated.ensures)

pub returns-in_err-arrow : goal.returns-in_err-arrow
unfolding code
returns-in_err-arrow c =
    let p = err_from_is_err_and c.from_residual-in_err-arrow.result c.from_residual-in_err-arrow.ensures.1 in
    rw (p.1, p.2) (stop_in_code c.in_err-arrow.field-0.0 (code ArrowName) (code SiteStatement) (map token_of c.in_ok-equated.equated.now) (map token_of c.args.tokens.now) (λ r d. peeks_not c.in_default.ensures (peeks_not c.in_default-after_word.ensures (c.in_ok-after.ensures.read OfSite _ _ (c.in_ok-before.ensures.read OfSite _ _ (eats_at c.in_ok-equated.ensures (calls_not d)))))) c.in_err-arrow.ensures)

pub returns : goal.returns
unfolding code
returns c = peeks_not c.in_default.ensures (peeks_not c.in_default-after_word.ensures (c.in_ok-after.ensures.read OfSite _ _ (c.in_ok-before.ensures.read OfSite _ _ (eats_at c.in_ok-equated.ensures (calls c.in_ok-arrow.ensures (gives))))))
