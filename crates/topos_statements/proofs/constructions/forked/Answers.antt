use Rattle.std.proofs.Common.{map}
use Rattle.std.proofs.lemmas.Result.{err_from_is_err_and}
use Rattle.topos_text.specs.declared.word.Word.TheVariants as word
use Rattle.topos_text.specs.Tokens.{token_of, Reserved}
use Rattle.topos_text.specs.Views.{fork_of}
use Rattle.topos_grammar.specs.Kinds.{OfStatement}
use Rattle.topos_grammar.specs.Codes.{AnyName, eat, name, forked}
use Rattle.topos_grammar.specs.Reading.{gives, names_not}
use Rattle.topos_grammar.proofs.Steps.{names_at}
use Rattle.topos_statements.proofs.Exits.{stop_at, stop_in}
use Rattle.topos_statements.proofs.constructions.forked.Goals as goal

pub returns-in_err-left : goal.returns-in_err-left
returns-in_err-left c =
    let p = err_from_is_err_and c.from_residual.result c.from_residual.ensures.1 in
    rw (p.1, p.2) (stop_at c.in_err-left.field-0.0 AnyName (forked (fork_of c.args.of)) (map token_of c.args.tokens.now) (map token_of c.args.tokens.now) (λ other. names_not other) c.in_err-left.ensures)

pub returns-in_err-right : goal.returns-in_err-right
returns-in_err-right c =
    let p = err_from_is_err_and c.from_residual-in_err-right.result c.from_residual-in_err-right.ensures.1 in
    rw (p.1, p.2) (stop_at c.in_err-right.field-0.0 AnyName (forked (fork_of c.args.of)) (map token_of c.in_ok-left.after_left.now) (map token_of c.args.tokens.now) (λ other. names_at c.in_ok-left.ensures (names_not other)) c.in_err-right.ensures)

pub returns-in_err-functor : goal.returns-in_err-functor
returns-in_err-functor c =
    let p = err_from_is_err_and c.from_residual-in_err-functor.result c.from_residual-in_err-functor.ensures.1 in
    rw (p.1, p.2) (stop_in c.in_err-functor.field-0.0 (λ s k. eat (Reserved word.As) (name k)) (forked (fork_of c.args.of)) (map token_of c.in_ok-right.after_right.now) (map token_of c.args.tokens.now) _ (λ r d. names_at c.in_ok-left.ensures (names_at c.in_ok-right.ensures (d))) c.in_err-functor.ensures)

pub returns-in_err-map : goal.returns-in_err-map
returns-in_err-map c =
    let p = err_from_is_err_and c.from_residual-in_err-map.result c.from_residual-in_err-map.ensures.1 in
    rw (p.1, p.2) (stop_in c.in_err-map.field-0.0 (λ s k. eat (Reserved word.With) (name k)) (forked (fork_of c.args.of)) (map token_of c.in_ok-functor.after_functor.now) (map token_of c.args.tokens.now) _ (λ r d. names_at c.in_ok-left.ensures (names_at c.in_ok-right.ensures (c.in_ok-functor.ensures.read OfStatement _ _ (d)))) c.in_err-map.ensures)

pub returns : goal.returns
returns c = rw c.in_ok-new.ensures.ok (names_at c.in_ok-left.ensures (names_at c.in_ok-right.ensures (c.in_ok-functor.ensures.read OfStatement _ _ (c.in_ok-map.ensures.read OfStatement _ _ (gives)))))
