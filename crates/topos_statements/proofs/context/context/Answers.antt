use Rattle.std.proofs.Common.{map}
use Rattle.std.proofs.lemmas.Result.{err_from_is_err_and}
use Rattle.topos_text.specs.Tokens.{token_of}
use Rattle.topos_grammar.specs.Kinds.{OfBinding, OfContext, Context}
use Rattle.topos_grammar.specs.Codes.{give, code, bind}
use Rattle.topos_grammar.specs.Reading.{gives, peeks, peeks_not}
use Rattle.topos_statements.specs.Passages.{several}
use Rattle.topos_statements.proofs.Exits.{stop_in}
use Rattle.topos_statements.proofs.context.context.Goals as goal

pub returns-in_err-variables : goal.returns-in_err-variables
unfolding code
returns-in_err-variables c =
    let p = err_from_is_err_and c.from_residual.result c.from_residual.ensures.1 in
    rw (p.1, p.2) (stop_in c.in_err-variables.field-0.0 (several OfBinding (λ s k. bind k)) (code Context) (map token_of c.args.tokens.now) (map token_of c.args.tokens.now) (λ bs. give bs) (λ r d. peeks c.if-stands_name.ensures (d)) c.in_err-variables.ensures.passes)

pub returns-then-stands_name : goal.returns-then-stands_name
unfolding code
returns-then-stands_name c = peeks c.if-stands_name.ensures (c.in_ok-variables.ensures.passes.read OfContext (λ bs. give bs) _ (gives))

pub returns : goal.returns
unfolding code
returns c = rw c.new.ensures.items (peeks_not c.if-stands_name.ensures (gives))
