use Rattle.std.proofs.Common.{map}
use Rattle.std.proofs.lemmas.Result.{err_from_is_err_and}
use Rattle.topos_text.specs.declared.word.Word.TheVariants as word
use Rattle.topos_text.specs.Tokens.{token_of, written, Reserved}
use Rattle.topos_text.specs.Trees as tree
use Rattle.topos_grammar.specs.Kinds.{OfSent, OfStatement, Sent}
use Rattle.topos_grammar.specs.Codes.{AnyName, section_words, give, eat, name, call, category_functor}
use Rattle.topos_grammar.specs.Reading.{gives, names_not, peeks, peeks_not}
use Rattle.topos_grammar.proofs.Steps.{eats_at, names_at}
use Rattle.topos_statements.specs.Passages.{braced}
use Rattle.topos_statements.proofs.Exits.{stop_at, stop_in}
use Rattle.topos_statements.proofs.declarations.category_functor.Goals as goal

pub returns-in_err-name : goal.returns-in_err-name
returns-in_err-name c =
    let p = err_from_is_err_and c.from_residual.result c.from_residual.ensures.1 in
    rw (p.1, p.2) (stop_at c.in_err-name.field-0.0 AnyName category_functor (map token_of c.args.tokens.now) (map token_of c.args.tokens.now) (λ other. names_not other) c.in_err-name.ensures)

pub returns-in_err-dom : goal.returns-in_err-dom
returns-in_err-dom c =
    let p = err_from_is_err_and c.from_residual-in_err-dom.result c.from_residual-in_err-dom.ensures.1 in
    rw (p.1, p.2) (stop_at c.in_err-dom.field-0.0 AnyName category_functor (map token_of c.in-Some.behind.now) (map token_of c.args.tokens.now) (λ other. names_at c.in_ok-name.ensures (peeks (map token_of c.in-Some.behind.now, c.in-Some.ensures) (eats_at c.in-Some.ensures (names_not other)))) c.in_err-dom.ensures)

pub returns-in_err-sent : goal.returns-in_err-sent
returns-in_err-sent c =
    let p = err_from_is_err_and c.from_residual-in_err-sent.result c.from_residual-in_err-sent.ensures.1 in
    rw (p.1, p.2) (stop_in c.in_err-sent.field-0.0 (braced OfSent section_words (λ s k. call Sent k)) category_functor (map token_of c.in_ok-dom.after_dom.now) (map token_of c.args.tokens.now) (λ ss. give (tree.CategoryFunctor (written c.in_ok-name.name) (written c.in_ok-dom.dom) ss)) (λ r d. names_at c.in_ok-name.ensures (peeks (map token_of c.in-Some.behind.now, c.in-Some.ensures) (eats_at c.in-Some.ensures (names_at c.in_ok-dom.ensures (d))))) c.in_err-sent.ensures)

pub returns-in-Some : goal.returns-in-Some
returns-in-Some c = rw c.in_ok-new.ensures.ok (names_at c.in_ok-name.ensures (peeks (map token_of c.in-Some.behind.now, c.in-Some.ensures) (eats_at c.in-Some.ensures (names_at c.in_ok-dom.ensures (c.in_ok-sent.ensures.read OfStatement (λ ss. give (tree.CategoryFunctor (written c.in_ok-name.name) (written c.in_ok-dom.dom) ss)) _ (gives))))))

pub returns-in_err-of : goal.returns-in_err-of
returns-in_err-of c =
    let p = err_from_is_err_and c.from_residual-in_err-of.result c.from_residual-in_err-of.ensures.1 in
    rw (p.1, p.2) (stop_at c.in_err-of.field-0.0 AnyName category_functor (map token_of c.in_ok-name.after_name.now) (map token_of c.args.tokens.now) (λ other. names_at c.in_ok-name.ensures (peeks_not c.in_default.ensures (names_not other))) c.in_err-of.ensures)

pub returns-in_err-functor : goal.returns-in_err-functor
returns-in_err-functor c =
    let p = err_from_is_err_and c.from_residual-in_err-functor.result c.from_residual-in_err-functor.ensures.1 in
    rw (p.1, p.2) (stop_in c.in_err-functor.field-0.0 (λ s k. eat (Reserved word.As) (name k)) category_functor (map token_of c.in_ok-of.after_of.now) (map token_of c.args.tokens.now) _ (λ r d. names_at c.in_ok-name.ensures (peeks_not c.in_default.ensures (names_at c.in_ok-of.ensures (d)))) c.in_err-functor.ensures)

pub returns : goal.returns
returns c = rw c.in_ok-new-2.ensures.ok (names_at c.in_ok-name.ensures (peeks_not c.in_default.ensures (names_at c.in_ok-of.ensures (c.in_ok-functor.ensures.read OfStatement _ _ (gives)))))
