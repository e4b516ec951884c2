use Rattle.std.proofs.Common.{map}
use Rattle.std.proofs.lemmas.Result.{err_from_is_err_and}
use Rattle.topos_text.specs.declared.word.Word.TheVariants as word
use Rattle.topos_text.specs.Tokens.{token_of, Reserved}
use Rattle.topos_grammar.specs.Kinds.{OfStatement}
use Rattle.topos_grammar.specs.Codes.{eat, name, empty}
use Rattle.topos_grammar.specs.Reading.{gives}
use Rattle.topos_statements.proofs.Exits.{stop_in}
use Rattle.topos_statements.proofs.constructions.empty.Goals as goal

pub returns-in_err-functor : goal.returns-in_err-functor
returns-in_err-functor c =
    let p = err_from_is_err_and c.from_residual.result c.from_residual.ensures.1 in
    rw (p.1, p.2) (stop_in c.in_err-functor.field-0.0 (λ s k. eat (Reserved word.As) (name k)) empty (map token_of c.args.tokens.now) (map token_of c.args.tokens.now) _ (λ r d. d) c.in_err-functor.ensures)

pub returns : goal.returns
returns c = rw c.in_ok-new.ensures.ok (c.in_ok-functor.ensures.read OfStatement _ _ (gives))
