use Rattle.std.proofs.Common.{map}
use Rattle.std.proofs.lemmas.Result.{err_from_is_err_and}
use Rattle.topos_text.specs.Tokens.{token_of}
use Rattle.topos_grammar.specs.Kinds.{OfPlace}
use Rattle.topos_grammar.specs.Codes.{a_place, places}
use Rattle.topos_grammar.specs.Reading.{peeks, peeks_not}
use Rattle.topos_statements.specs.Passages.{several}
use Rattle.topos_statements.proofs.Lists.{halts_from}
use Rattle.topos_statements.proofs.step.places.Goals as goal

pub returns-in_err-places : goal.returns-in_err-places
returns-in_err-places c =
    let p = err_from_is_err_and c.from_residual.result c.from_residual.ensures.1 in
    rw (p.1, p.2) (halts_from c.in_err-places.field-0.0 (several OfPlace (λ s k. a_place k)) (λ s k. places k) (map token_of c.args.tokens.now) (map token_of c.args.tokens.now) (λ s k. (k, λ r d. peeks c.if-stands_place.ensures (d))) c.in_err-places.ensures.passes)

pub returns-then-stands_place : goal.returns-then-stands_place
returns-then-stands_place c = record { read = λ s k x d. peeks c.if-stands_place.ensures (c.in_ok-places.ensures.passes.read s k _ (d)) }

pub returns : goal.returns
returns c = rw c.new.ensures.items (record { read = λ s k x d. peeks_not c.if-stands_place.ensures (d) })
