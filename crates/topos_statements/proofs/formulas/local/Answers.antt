use Rattle.std.proofs.Common.{map}
use Rattle.std.proofs.lemmas.Result.{err_from_is_err_and}
use Rattle.topos_text.specs.declared.word.Word.TheVariants as word
use Rattle.topos_text.specs.Tokens.{token_of, Reserved}
use Rattle.topos_grammar.specs.Kinds.{OfStatement}
use Rattle.topos_grammar.specs.Codes.{AnyName, eat, name, local}
use Rattle.topos_grammar.specs.Reading.{gives, names_not, peeks, peeks_not}
use Rattle.topos_grammar.proofs.Steps.{names_at}
use Rattle.topos_statements.proofs.Exits.{stop_at, stop_in}
use Rattle.topos_statements.proofs.formulas.local.Goals as goal

pub returns-in_err-operator : goal.returns-in_err-operator
returns-in_err-operator c =
    let p = err_from_is_err_and c.from_residual.result c.from_residual.ensures.1 in
    rw (p.1, p.2) (stop_at c.in_err-operator.field-0.0 AnyName local (map token_of c.args.tokens.now) (map token_of c.args.tokens.now) (λ other. names_not other) c.in_err-operator.ensures)

pub returns-in_err-map : goal.returns-in_err-map
returns-in_err-map c =
    let p = err_from_is_err_and c.from_residual-in_err-map.result c.from_residual-in_err-map.ensures.1 in
    rw (p.1, p.2) (stop_in c.in_err-map.field-0.0 (λ s k. eat (Reserved word.As) (name k)) local (map token_of c.in_ok-operator.after_operator.now) (map token_of c.args.tokens.now) _ (λ r d. names_at c.in_ok-operator.ensures (peeks c.if-stands.ensures (d))) c.in_err-map.ensures)

pub returns-then-stands : goal.returns-then-stands
returns-then-stands c = rw c.in_ok-new.ensures.ok (names_at c.in_ok-operator.ensures (peeks c.if-stands.ensures (c.in_ok-map.ensures.read OfStatement _ _ (gives))))

pub returns : goal.returns
returns c = rw c.in_ok-new-2.ensures.ok (names_at c.in_ok-operator.ensures (peeks_not c.if-stands.ensures (gives)))
