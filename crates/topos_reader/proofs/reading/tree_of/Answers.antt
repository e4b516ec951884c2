use Rattle.std.proofs.Common.{map}
use Rattle.topos_text.specs.Tokens.{token_of}
use Rattle.topos_text.specs.Places.{IsSyntaxPlace}
use Rattle.topos_reader.proofs.reading.tree_of.Goals as goal

pub returns-in-Err-At-clause-only : goal.returns-in-Err-At-clause-only
returns-in-Err-At-clause-only c = λ t d.
    let place : IsSyntaxPlace (map token_of c.args.tokens.now) c.in-Err-At.place = rw c.in-Err-At.field-0-is at c.in-Err-At.ensures.syntax_place in
    absurd (place.none t d)
