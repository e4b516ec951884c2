use Rattle.std.proofs.Common.{map}
use Rattle.std.proofs.lemmas.Result.{err_from_is_err_and}
use Rattle.topos_text.specs.declared.word.Word.TheVariants as word
use Rattle.topos_text.specs.Tokens.{token_of, Reserved}
use Rattle.topos_grammar.specs.Kinds.{OfStatement, Under}
use Rattle.topos_grammar.specs.Codes.{AnyName, eat, name, code, sheafify}
use Rattle.topos_grammar.specs.Reading.{gives, names_not, calls, calls_not}
use Rattle.topos_grammar.proofs.Steps.{names_at}
use Rattle.topos_statements.specs.Views.{version_of}
use Rattle.topos_statements.proofs.Exits.{stop_at, stop_in, stop_in_code}
use Rattle.topos_statements.proofs.constructions.sheafify.Goals as goal

pub returns-in_err-under : goal.returns-in_err-under
returns-in_err-under c =
    let p = err_from_is_err_and c.from_residual.result c.from_residual.ensures.1 in
    rw (p.1, p.2) (stop_in_code c.in_err-under.field-0.0 (code (Under (version_of c.args.version))) (sheafify (version_of c.args.version)) (map token_of c.args.tokens.now) (map token_of c.args.tokens.now) (λ r d. calls_not d) c.in_err-under.ensures)

pub returns-in_err-of : goal.returns-in_err-of
returns-in_err-of c =
    let p = err_from_is_err_and c.from_residual-in_err-of.result c.from_residual-in_err-of.ensures.1 in
    rw (p.1, p.2) (stop_at c.in_err-of.field-0.0 AnyName (sheafify (version_of c.args.version)) (map token_of c.in_ok-under.after_under.now) (map token_of c.args.tokens.now) (λ other. calls c.in_ok-under.ensures (names_not other)) c.in_err-of.ensures)

pub returns-in_err-functor : goal.returns-in_err-functor
returns-in_err-functor c =
    let p = err_from_is_err_and c.from_residual-in_err-functor.result c.from_residual-in_err-functor.ensures.1 in
    rw (p.1, p.2) (stop_in c.in_err-functor.field-0.0 (λ s k. eat (Reserved word.As) (name k)) (sheafify (version_of c.args.version)) (map token_of c.in_ok-of.after_of.now) (map token_of c.args.tokens.now) _ (λ r d. calls c.in_ok-under.ensures (names_at c.in_ok-of.ensures (d))) c.in_err-functor.ensures)

pub returns-in_err-unit : goal.returns-in_err-unit
returns-in_err-unit c =
    let p = err_from_is_err_and c.from_residual-in_err-unit.result c.from_residual-in_err-unit.ensures.1 in
    rw (p.1, p.2) (stop_in c.in_err-unit.field-0.0 (λ s k. eat (Reserved word.With) (name k)) (sheafify (version_of c.args.version)) (map token_of c.in_ok-functor.after_functor.now) (map token_of c.args.tokens.now) _ (λ r d. calls c.in_ok-under.ensures (names_at c.in_ok-of.ensures (c.in_ok-functor.ensures.read OfStatement _ _ (d)))) c.in_err-unit.ensures)

pub returns : goal.returns
returns c = rw c.in_ok-new.ensures.ok (calls c.in_ok-under.ensures (names_at c.in_ok-of.ensures (c.in_ok-functor.ensures.read OfStatement _ _ (c.in_ok-unit.ensures.read OfStatement _ _ (gives)))))
