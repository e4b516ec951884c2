use Rattle.std.proofs.Common.{◌≡◌, ◌+◌, ◌++◌, ◌∷◌, [], length, map, subst, arith}
use Rattle.std.proofs.lemmas.List.{length-map, map_push}
use Rattle.std.specs.Str.{chars}
use Rattle.topos_text.specs.Tokens.{token_of}
use Rattle.topos_tokens.specs.Fronts.{IsFront}
use Rattle.topos_tokens.proofs.Characters.{bytes_len}
use Rattle.topos_tokens.proofs.Blanks.{lexes_len, lexes_parts, lexes_token, lexes_blank, chars_len, front_shorter, bad_at, not_empty, lexes_all}
use Rattle.topos_tokens.proofs.lexing.lex.Goals as goal

pub loop-rest-init : goal.loop-rest-init
loop-rest-init c = record { read = rw c.new-tokens.ensures.items (c.after_blank-rest.ensures.blank 1); blank = c.after_blank-rest.ensures.ends; utf8 = c.after_blank-rest.ensures.utf8 }

pub overflow_cast-number : goal.overflow_cast-number
overflow_cast-number c =
    let l = lexes_len c.loop-rest.invariant.read in
    omega (arith, l, chars_len c.args.text.now c.utf8.text, length-map c.loop-rest.tokens.items token_of, c.requires, c.len.ensures)

pub overflow_add-number : goal.overflow_add-number
overflow_add-number c =
    let l = lexes_len c.loop-rest.invariant.read in
    omega (arith, l, chars_len c.args.text.now c.utf8.text, length-map c.loop-rest.tokens.items token_of, c.requires, c.len.ensures)

pub overflow_sub-byte : goal.overflow_sub-byte
overflow_sub-byte c = let p = lexes_parts c.loop-rest.invariant.read in omega (arith, bytes_len c.args.text.now c.loop-rest.rest.now p.0 c.utf8.text c.loop-rest.invariant.utf8 p.1)

pub returns-in-None-clause-bad : goal.returns-in-None-clause-bad
returns-in-None-clause-bad c = bad_at c.args.text.now c.loop-rest.rest.now (map token_of c.loop-rest.tokens.items) c.utf8.text c.loop-rest.invariant.utf8 c.loop-rest.invariant.read c.loop-rest.invariant.blank c.in-None.ensures.token (not_empty c.loop-rest.rest.now c.loop-rest.invariant.utf8 c.loop-rest-test.ensures)

pub loop-rest-smaller : goal.loop-rest-smaller
loop-rest-smaller c =
    let shorter = front_shorter _ (chars c.loop-rest.rest.now) (chars c.in-Some.behind.now) (token_of c.in-Some.token) c.in-Some.ensures.token in
    let no_longer = lexes_len (c.after_blank-rest-in-Some.ensures.blank 1) in
    omega (arith, shorter, no_longer)

pub loop-rest-preserved : goal.loop-rest-preserved
loop-rest-preserved c =
    let pushed : map token_of c.push.new.self.items ≡ map token_of c.loop-rest.tokens.items ++ token_of c.in-Some.token ∷ [] = rw c.in_ok-push-in-Some.ensures.items (map_push _ c.loop-rest.tokens.items c.in-Some.token) in
    let number : c.len.result + 1 ≡ 1 + length (map token_of c.loop-rest.tokens.items) = omega (arith, length-map c.loop-rest.tokens.items token_of, c.len.ensures) in
    let front : IsFront (1 + length (map token_of c.loop-rest.tokens.items)) (chars c.loop-rest.rest.now) (token_of c.in-Some.token) (chars c.in-Some.behind.now) = subst (λ n. IsFront n (chars c.loop-rest.rest.now) (token_of c.in-Some.token) (chars c.in-Some.behind.now)) number c.in-Some.ensures.token in
    let read = lexes_token 1 (chars c.args.text.now) (chars c.loop-rest.rest.now) (chars c.in-Some.behind.now) (map token_of c.loop-rest.tokens.items) (token_of c.in-Some.token) c.loop-rest.invariant.read front in
    record {
      read = rw pushed (lexes_blank 1 (chars c.args.text.now) (chars c.in-Some.behind.now) (chars c.after_blank-rest-in-Some.result.now) (map token_of c.loop-rest.tokens.items ++ token_of c.in-Some.token ∷ []) read (c.after_blank-rest-in-Some.ensures.blank _));
      blank = c.after_blank-rest-in-Some.ensures.ends;
      utf8 = c.after_blank-rest-in-Some.ensures.utf8;
    }

pub returns-clause-tokens : goal.returns-clause-tokens
returns-clause-tokens c = lexes_all c.loop-rest.rest.now c.loop-rest.invariant.read c.loop-rest-test.ensures
