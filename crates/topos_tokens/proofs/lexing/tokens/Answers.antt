use Rattle.std.proofs.Common.{◌≡◌, ℕ, List, [], map, subst, None, sym, ap, ◌∙◌, arith, refl}
use Rattle.std.specs.Prelude.{IsUtf8, chars}
use Rattle.std.proofs.lemmas.Result.{err_from_is_err_and}
use Rattle.topos_model.specs.declared.fault.Fault.TheVariants as faults
use Rattle.topos_text.specs.Tokens.{Token, token_of}
use Rattle.topos_text.specs.Limits.{token_fault}
use Rattle.topos_text.specs.Lexing.{Lex, Lexes, IsBadToken}
use Rattle.topos_text.specs.TextFaults.{IsShort, too_long, not_text, bad_token, too_many_in_tokens}
use Rattle.topos_tokens.specs.declared.fault.ReadFault.{ReadFault}
use Rattle.topos_tokens.specs.declared.fault.ReadFault.TheVariants.{NoMemory, Refused}
use Rattle.topos_tokens.specs.TokenFaults.{IsRefused, IsLexFault}
use Rattle.topos_tokens.proofs.Uniqueness.{tokens_are_unique, no_bad_token, text_is_valid}
use Rattle.topos_tokens.proofs.lexing.tokens.Goals as goal

refused_by : (bytes : List ℕ) (text : List ℕ) (e : ReadFault) → text ≡ bytes → IsShort bytes → IsUtf8 bytes → IsLexFault text e → IsRefused bytes e
refused_by bytes text NoMemory is short utf8 h = tt
refused_by bytes text (Refused (faults.BadToken n)) is short utf8 h = bad_token short utf8 (subst (λ z. IsBadToken z n) is h)
refused_by bytes text (Refused fault) is short utf8 h = absurd h

pub returns-then-bytes-gt-DOCUMENT_BYTES-clause-refused : goal.returns-then-bytes-gt-DOCUMENT_BYTES-clause-refused
returns-then-bytes-gt-DOCUMENT_BYTES-clause-refused c = rw c.too_many.ensures (too_long c.if-bytes-gt-DOCUMENT_BYTES.true)

pub returns-in-Err-clause-refused : goal.returns-in-Err-clause-refused
returns-in-Err-clause-refused c = not_text c.if-bytes-gt-DOCUMENT_BYTES.false c.in-Err.ensures

pub returns-in_err-tokens-in-Ok-clause-refused : goal.returns-in_err-tokens-in-Ok-clause-refused
returns-in_err-tokens-in-Ok-clause-refused c =
    let p = err_from_is_err_and c.from_residual.result c.from_residual.ensures.1 in
    rw (p.1, p.2) (refused_by c.args.bytes.now c.in-Ok.text.now c.in_err-tokens-in-Ok.field-0.0 c.in-Ok.ensures.0 c.if-bytes-gt-DOCUMENT_BYTES.false c.in-Ok.ensures.1 c.in_err-tokens-in-Ok.ensures.bad)

pub returns-in-Some-clause-refused : goal.returns-in-Some-clause-refused
returns-in-Some-clause-refused c =
    let lex : Lexes 1 (chars c.args.bytes.now) (map token_of c.in_ok-tokens-in-Ok.tokens.items) [] = subst (λ z. Lexes 1 (chars z) (map token_of c.in_ok-tokens-in-Ok.tokens.items) []) c.in-Ok.ensures.0 c.in_ok-tokens-in-Ok.ensures.tokens in
    rw c.too_many-in-Some.ensures (too_many_in_tokens c.if-bytes-gt-DOCUMENT_BYTES.false (c.in-Ok.ensures.1, lex) (rw c.deref.ensures.value at c.in-Some.ensures))

only_memory : (bytes text : List ℕ) (e : ReadFault) (toks : List Token) → text ≡ bytes → IsLexFault text e → Lex bytes toks → e ≡ NoMemory
only_memory bytes text NoMemory toks is h lex = refl
only_memory bytes text (Refused (faults.BadToken n)) toks is h lex =
    let b : IsBadToken bytes n = subst (λ z. IsBadToken z n) is h in absurd (no_bad_token (chars bytes) toks b.tokens b.rest lex.1 b.before b.bad)
only_memory bytes text (Refused fault) toks is h lex = absurd h

pub returns-then-bytes-gt-DOCUMENT_BYTES-clause-only : goal.returns-then-bytes-gt-DOCUMENT_BYTES-clause-only
returns-then-bytes-gt-DOCUMENT_BYTES-clause-only c = λ toks h. absurd (omega (arith, h.short, c.if-bytes-gt-DOCUMENT_BYTES.true))

pub returns-in-Err-clause-only : goal.returns-in-Err-clause-only
returns-in-Err-clause-only c = λ toks h. absurd (text_is_valid c.args.bytes.now c.in-Err.valid c.in-Err.ensures h.lex.0)

pub returns-in_err-tokens-in-Ok-clause-only : goal.returns-in_err-tokens-in-Ok-clause-only
returns-in_err-tokens-in-Ok-clause-only c = λ toks h.
    let p = err_from_is_err_and c.from_residual.result c.from_residual.ensures.1 in
    rw (p.1, p.2) (only_memory c.args.bytes.now c.in-Ok.text.now c.in_err-tokens-in-Ok.field-0.0 toks c.in-Ok.ensures.0 c.in_err-tokens-in-Ok.ensures.bad h.lex)

pub returns-in-Some-clause-only : goal.returns-in-Some-clause-only
returns-in-Some-clause-only c = λ toks h.
    let lex : Lexes 1 (chars c.args.bytes.now) (map token_of c.in_ok-tokens-in-Ok.tokens.items) [] = subst (λ z. Lexes 1 (chars z) (map token_of c.in_ok-tokens-in-Ok.tokens.items) []) c.in-Ok.ensures.0 c.in_ok-tokens-in-Ok.ensures.tokens in
    let same = tokens_are_unique c.args.bytes.now toks (map token_of c.in_ok-tokens-in-Ok.tokens.items) h.lex (c.in-Ok.ensures.1, lex) in
    let fits : token_fault [] (map token_of c.in_ok-tokens-in-Ok.tokens.items) ≡ None = ap (token_fault []) (sym same) ∙ h.fits in
    let fault = rw c.deref.ensures.value at c.in-Some.ensures in
    absurd cc

pub returns-clause-only : goal.returns-clause-only
returns-clause-only c = λ toks h.
    let lex : Lexes 1 (chars c.args.bytes.now) (map token_of c.in_ok-tokens-in-Ok.tokens.items) [] = subst (λ z. Lexes 1 (chars z) (map token_of c.in_ok-tokens-in-Ok.tokens.items) []) c.in-Ok.ensures.0 c.in_ok-tokens-in-Ok.ensures.tokens in
    sym (tokens_are_unique c.args.bytes.now toks (map token_of c.in_ok-tokens-in-Ok.tokens.items) h.lex (c.in-Ok.ensures.1, lex))
