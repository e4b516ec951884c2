use Rattle.std.proofs.Common.{map}
use Rattle.std.proofs.lemmas.Result.{err_from_is_err_and}
use Rattle.topos_text.specs.Tokens.{token_of, Reserved}
use Rattle.topos_grammar.specs.Codes.{AnyName, the, eat, name}
use Rattle.topos_grammar.specs.Reading.{eats_not, names_not}
use Rattle.topos_grammar.proofs.Steps.{eats_at, names_at}
use Rattle.topos_statements.proofs.Lists.{halts_at}
use Rattle.topos_statements.proofs.names.name_behind.Goals as goal

pub returns-in_err-behind : goal.returns-in_err-behind
returns-in_err-behind c =
    let p = err_from_is_err_and c.from_residual.result c.from_residual.ensures.1 in
    rw (p.1, p.2) (halts_at c.in_err-behind.field-0.0 (the c.args.word) (λ s k. eat (Reserved c.args.word) (name k)) (map token_of c.args.tokens.now) (map token_of c.args.tokens.now) (λ s k other. eats_not other) c.in_err-behind.ensures)

pub returns-in_err-name : goal.returns-in_err-name
returns-in_err-name c =
    let p = err_from_is_err_and c.from_residual-in_err-name.result c.from_residual-in_err-name.ensures.1 in
    rw (p.1, p.2) (halts_at c.in_err-name.field-0.0 AnyName (λ s k. eat (Reserved c.args.word) (name k)) (map token_of c.in_ok-behind.behind.now) (map token_of c.args.tokens.now) (λ s k other. eats_at c.in_ok-behind.ensures (names_not other)) c.in_err-name.ensures)

pub returns : goal.returns
returns c = record { read = λ s k x d. eats_at c.in_ok-behind.ensures (names_at c.in_ok-name.ensures (d)) }
