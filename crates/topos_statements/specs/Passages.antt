-- What the functions of the parser give, whatever is read behind.
use Rattle.std.specs.Prelude.{◌≡◌, List, ◌∷◌, length, Result, Ok, Err}
use Rattle.topos_text.specs.declared.symbol.Symbol.TheVariants as symbol
use Rattle.topos_text.specs.Tokens.{Token}
use Rattle.topos_text.specs.Trees.{Binding, TermTree}
use Rattle.topos_grammar.specs.Kinds.{Sort, Tree}
use Rattle.topos_grammar.specs.Codes.{Class, sign, Code, give, loop, eat_sign, sequent, comprehension}
use Rattle.topos_grammar.specs.Reading.{Read, Whole, Stops, Reads}
use Rattle.topos_grammar.specs.declared.stop.Stop.{Stop}
use Rattle.topos_grammar.specs.declared.stop.Stop.TheVariants.{NoMemory, At}

-- a part of the grammar, which goes on with what it gives
abbrev pub Passage : Type 0 → Type 0
Passage A = (s : Sort) → (A → Code s) → Code s

-- the passage reads the tokens up to the rest, and gives v
pub record Passes {A : Type 0} (m : Passage A) (toks : List Token) (v : A) (rest : List Token) : Type 0 where
  pub read : (s : Sort) (k : A → Code s) (x : Read s) → Reads (k v) rest x → Reads (m s k) toks x

-- memory runs out, or reading stops within the passage at a token with so many from it on
abbrev pub Halts : {A : Type 0} → Passage A → List Token → Stop → Type 0
Halts m toks NoMemory = Unit {0}
Halts m toks (At left) = (rest : List Token) × ((s : Sort) (k : _ → Code s) → Reads (m s k) toks (Stops rest)) × (left ≡ length rest)

-- X {{ "," X }}
abbrev pub several : (u : Sort) → Passage (Tree u) → Passage (List (Tree u))
several u m s k = m s (λ v. loop {u = u} (sign symbol.Comma) (eat_sign symbol.Comma (m u (λ w. give w))) (λ vs. k (v ∷ vs)))

-- {{ X ";" }}, where X begins with a token of the class
abbrev pub each : (u : Sort) → Class → Passage (Tree u) → Passage (List (Tree u))
each u C m s k = loop {u = u} C (m u (λ v. eat_sign symbol.Semicolon (give v))) k

-- "{" {{ X ";" }} "}"
abbrev pub braced : (u : Sort) → Class → Passage (Tree u) → Passage (List (Tree u))
braced u C m s k = eat_sign symbol.OpenBrace (each u C m s (λ vs. eat_sign symbol.CloseBrace (k vs)))

-- memory runs out, or reading by the code stops at a token with so many from it on
abbrev pub Stopped : {u : Sort} → Code u → List Token → Stop → Type 0
Stopped c toks NoMemory = Unit {0}
Stopped c toks (At left) = (rest : List Token) × Reads c toks (Stops rest) × (left ≡ length rest)

-- the code gives a tree and the tokens behind it, or says where reading stops
abbrev pub GivesBy : {X : Type 0} {u : Sort} → (X → Tree u) → (X → List Token) → Code u → List Token → Result X Stop → Type 0
GivesBy tree rest c toks (Ok x) = Reads c toks (Whole (tree x) (rest x))
GivesBy tree rest c toks (Err e) = Stopped c toks e

-- context "|" term, and the same in braces
abbrev pub sequent_of : Passage (List Binding × TermTree)
sequent_of s k = sequent (λ g t. k (g, t))

abbrev pub comprehension_of : Passage (List Binding × TermTree)
comprehension_of s k = comprehension (λ g t. k (g, t))
