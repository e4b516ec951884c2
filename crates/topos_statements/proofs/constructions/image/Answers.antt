use Rattle.std.proofs.Common.{map}
use Rattle.std.proofs.lemmas.Result.{err_from_is_err_and}
use Rattle.topos_text.specs.declared.word.Word.TheVariants as word
use Rattle.topos_text.specs.declared.symbol.Symbol.TheVariants as symbol
use Rattle.topos_text.specs.Tokens.{token_of, Reserved, Sign}
use Rattle.topos_grammar.specs.Kinds.{OfStatement}
use Rattle.topos_grammar.specs.Codes.{AnyName, eat, name, image}
use Rattle.topos_grammar.specs.Reading.{gives, names_not}
use Rattle.topos_grammar.proofs.Steps.{names_at}
use Rattle.topos_statements.proofs.Exits.{stop_at, stop_in}
use Rattle.topos_statements.proofs.constructions.image.Goals as goal

pub returns-in_err-of : goal.returns-in_err-of
returns-in_err-of c =
    let p = err_from_is_err_and c.from_residual.result c.from_residual.ensures.1 in
    rw (p.1, p.2) (stop_at c.in_err-of.field-0.0 AnyName image (map token_of c.args.tokens.now) (map token_of c.args.tokens.now) (λ other. names_not other) c.in_err-of.ensures)

pub returns-in_err-functor : goal.returns-in_err-functor
returns-in_err-functor c =
    let p = err_from_is_err_and c.from_residual-in_err-functor.result c.from_residual-in_err-functor.ensures.1 in
    rw (p.1, p.2) (stop_in c.in_err-functor.field-0.0 (λ s k. eat (Reserved word.As) (name k)) image (map token_of c.in_ok-of.after_of.now) (map token_of c.args.tokens.now) _ (λ r d. names_at c.in_ok-of.ensures (d)) c.in_err-functor.ensures)

pub returns-in_err-onto : goal.returns-in_err-onto
returns-in_err-onto c =
    let p = err_from_is_err_and c.from_residual-in_err-onto.result c.from_residual-in_err-onto.ensures.1 in
    rw (p.1, p.2) (stop_in c.in_err-onto.field-0.0 (λ s k. eat (Reserved word.With) (name k)) image (map token_of c.in_ok-functor.after_functor.now) (map token_of c.args.tokens.now) _ (λ r d. names_at c.in_ok-of.ensures (c.in_ok-functor.ensures.read OfStatement _ _ (d))) c.in_err-onto.ensures)

pub returns-in_err-inclusion : goal.returns-in_err-inclusion
returns-in_err-inclusion c =
    let p = err_from_is_err_and c.from_residual-in_err-inclusion.result c.from_residual-in_err-inclusion.ensures.1 in
    rw (p.1, p.2) (stop_in c.in_err-inclusion.field-0.0 (λ s k. eat (Sign symbol.Comma) (name k)) image (map token_of c.in_ok-onto.after_onto.now) (map token_of c.args.tokens.now) _ (λ r d. names_at c.in_ok-of.ensures (c.in_ok-functor.ensures.read OfStatement _ _ (c.in_ok-onto.ensures.read OfStatement _ _ (d)))) c.in_err-inclusion.ensures)

pub returns : goal.returns
returns c = rw c.in_ok-new.ensures.ok (names_at c.in_ok-of.ensures (c.in_ok-functor.ensures.read OfStatement _ _ (c.in_ok-onto.ensures.read OfStatement _ _ (c.in_ok-inclusion.ensures.read OfStatement _ _ (gives)))))
