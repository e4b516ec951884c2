use Rattle.std.proofs.Common.{map}
use Rattle.std.proofs.lemmas.Result.{err_from_is_err_and}
use Rattle.topos_text.specs.Tokens.{token_of, written}
use Rattle.topos_text.specs.Trees as tree
use Rattle.topos_grammar.specs.Kinds.{OfSite, OfStatement, SiteStatement}
use Rattle.topos_grammar.specs.Codes.{AnyName, site_words, give, call, category}
use Rattle.topos_grammar.specs.Reading.{gives, names_not}
use Rattle.topos_grammar.proofs.Steps.{names_at}
use Rattle.topos_statements.specs.Passages.{braced}
use Rattle.topos_statements.proofs.Exits.{stop_at, stop_in}
use Rattle.topos_statements.proofs.declarations.category.Goals as goal

pub returns-in_err-name : goal.returns-in_err-name
returns-in_err-name c =
    let p = err_from_is_err_and c.from_residual.result c.from_residual.ensures.1 in
    rw (p.1, p.2) (stop_at c.in_err-name.field-0.0 AnyName category (map token_of c.args.tokens.now) (map token_of c.args.tokens.now) (λ other. names_not other) c.in_err-name.ensures)

pub returns-in_err-statements : goal.returns-in_err-statements
returns-in_err-statements c =
    let p = err_from_is_err_and c.from_residual-in_err-statements.result c.from_residual-in_err-statements.ensures.1 in
    rw (p.1, p.2) (stop_in c.in_err-statements.field-0.0 (braced OfSite site_words (λ s k. call SiteStatement k)) category (map token_of c.in_ok-name.after_name.now) (map token_of c.args.tokens.now) (λ ss. give (tree.Category (written c.in_ok-name.name) ss)) (λ r d. names_at c.in_ok-name.ensures (d)) c.in_err-statements.ensures)

pub returns : goal.returns
returns c = rw c.in_ok-new.ensures.ok (names_at c.in_ok-name.ensures (c.in_ok-statements.ensures.read OfStatement (λ ss. give (tree.Category (written c.in_ok-name.name) ss)) _ (gives)))
