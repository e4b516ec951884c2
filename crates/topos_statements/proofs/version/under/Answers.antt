use Rattle.std.proofs.Common.{◌≡◌, List, ◌∷◌, map, Some}
use Rattle.topos_text.specs.declared.word.Word.TheVariants as word
use Rattle.std.proofs.lemmas.Result.{err_from_is_err_and}
use Rattle.topos_text.specs.Tokens.{Token, Written, Name, Reserved, token_of, written}
use Rattle.topos_grammar.specs.Kinds.{Under, Second}
use Rattle.topos_grammar.specs.Codes.{AnyName, code}
use Rattle.topos_grammar.specs.Reading.{Whole, Reads, gives, names_not, peeks, peeks_not}
use Rattle.topos_grammar.proofs.Steps.{eats_at, names_at}
use Rattle.topos_statements.proofs.Exits.{stop_at}
use Rattle.topos_statements.proofs.version.under.Goals as goal

pub returns-in_err-topology-in-Some : goal.returns-in_err-topology-in-Some
unfolding code
returns-in_err-topology-in-Some c =
    let p = err_from_is_err_and c.from_residual.result c.from_residual.ensures.1 in
    rw (p.1, p.2, c.in-Second.is)
    (stop_at c.in_err-topology-in-Some.field-0.0 AnyName (code (Under Second)) (map token_of c.in-Some.behind.now) (map token_of c.args.tokens.now) (λ other. peeks (map token_of c.in-Some.behind.now, c.in-Some.ensures) (eats_at c.in-Some.ensures (names_not other))) c.in_err-topology-in-Some.ensures)

pub returns-in-First : goal.returns-in-First
unfolding code
returns-in-First c = rw c.in-First.is gives

pub returns-in-None : goal.returns-in-None
unfolding code
returns-in-None c = rw c.in-Second.is (peeks_not c.in-None.ensures gives)

under_read : (toks behind rest : List Token) (x : Written) → toks ≡ Reserved word.Under ∷ behind → behind ≡ Name x ∷ rest → Reads (code (Under Second)) toks (Whole (Some x) rest)
unfolding code
under_read toks behind rest x e f = peeks (behind, e) (eats_at e (names_at f gives))

pub returns-in_ok-topology-in-Some : goal.returns-in_ok-topology-in-Some
returns-in_ok-topology-in-Some c = rw c.in-Second.is (under_read (map token_of c.args.tokens.now) (map token_of c.in-Some.behind.now) (map token_of c.in_ok-topology-in-Some.rest.now) (written c.in_ok-topology-in-Some.topology) c.in-Some.ensures c.in_ok-topology-in-Some.ensures)
