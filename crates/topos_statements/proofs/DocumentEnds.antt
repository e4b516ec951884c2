-- The end of the tokens, and where reading a document stops.
use Rattle.std.proofs.Common.{◌≡◌, ◌+◌, ◌-◌, ◌≤◌, ◌==◌, ℕ, true, false, List, [], ◌∷◌, length, map, refl, ap, arith, length-append}
use Rattle.std.proofs.lemmas.List.{length-map}
use Rattle.topos_text.specs.declared.word.Word.TheVariants as word
use Rattle.topos_text.specs.declared.symbol.Symbol.TheVariants as symbol
use Rattle.topos_text.specs.declared.token.Token as lying
use Rattle.topos_text.specs.Tokens.{Token, Reserved, token_of}
use Rattle.topos_text.specs.Trees as tree
use Rattle.topos_text.specs.Places.{IsSyntaxPlace}
use Rattle.topos_grammar.specs.Kinds.{OfDocument, Topology, Second}
use Rattle.topos_grammar.specs.Codes.{Any, Is, the, Code, give, numbered, eat_sign, document}
use Rattle.topos_grammar.specs.Codes as codes
use Rattle.topos_grammar.specs.Reading.{Read, Reads, peeks}
use Rattle.topos_grammar.specs.declared.stop.Stop.TheVariants.{At}
use Rattle.topos_grammar.proofs.Steps.{eats_at}
use Rattle.topos_grammar.proofs.Meaning.{meaning}
use Rattle.topos_grammar.proofs.Documents.{syntax_place}
use Rattle.topos_statements.specs.Passages.{Stopped}

pub some_token : (toks : List lying.Token) → false ≡ (length toks == 0) → Is Any (map token_of toks)
some_token [] e = absurd cc
some_token (t ∷ ts) e = (token_of t, map token_of ts, refl)

pub at_end : (toks : List lying.Token) → true ≡ (length toks == 0) → map token_of toks ≡ []
at_end toks e = empty toks (grind (arith, e))
  where
    empty : (toks : List lying.Token) → length toks ≡ 0 → map token_of toks ≡ []
    empty [] e = refl
    empty (t ∷ ts) e = absurd (omega (arith, e))

pub none_left : (toks : List lying.Token) → true ≡ (length toks == 0) → Is Any (map token_of toks) → ⊥
none_left toks e (t, ts, is) = absurd (omega (arith, ap length is, ap length (at_end toks e)))

-- what stands behind the first token of a document of the second version
abbrev pub second_version : Code OfDocument
second_version = numbered 2 (λ x. eat_sign symbol.Semicolon (codes.sites (λ ss. codes.each (the word.Topology) Topology (λ ts. codes.statements Second (λ rest. give (tree.SecondVersion ss ts rest))))))

pub second_read : (toks behind : List Token) (x : Read OfDocument) → toks ≡ Reserved word.Version ∷ behind → Reads second_version behind x → Reads document toks x
unfolding document
second_read toks behind x e d = peeks (behind, e) (eats_at e d)

-- as many tokens are left as there are at most
pub left_within : (toks : List lying.Token) (left : ℕ) → Stopped document (map token_of toks) (At left) → left ≤ length toks
left_within toks left (rest, d, is) = let m = meaning d in omega (arith, is, ap length m.parts, length-append m.front rest, length-map toks token_of)

pub stop_place : (toks : List lying.Token) (left place : ℕ) → Stopped document (map token_of toks) (At left) → place ≡ length toks - left + 1 → IsSyntaxPlace (map token_of toks) place
stop_place toks left place (rest, d, is) at = syntax_place (map token_of toks) rest place d (omega (arith, at, is, left_within toks left (rest, d, is), length-map toks token_of))
