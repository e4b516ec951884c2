-- What the functions of the parser give.
use Rattle.std.specs.Prelude.{◌≡◌, ◌≤◌, ◌+◌, ℕ, List, ◌∷◌, length, Result, Ok, Err}
use Rattle.topos_text.specs.declared.word.Word.TheVariants as word
use Rattle.topos_text.specs.declared.symbol.Symbol.TheVariants as symbol
use Rattle.topos_text.specs.Tokens.{Token, Name, Sign}
use Rattle.topos_text.specs.Trees.{Binding, TermTree}
use Rattle.topos_grammar.specs.Kinds.{Sort, Tree, Kind, AnyType, AnyTerm, MoreFactors, MoreDisjuncts, MoreConjuncts, MoreArguments, Atom, Context}
use Rattle.topos_grammar.specs.Codes.{Class, AnyName, Is, the, Code, code, bind, in_parentheses}
use Rattle.topos_grammar.specs.Reading.{Whole, Stops, Reads}
use Rattle.topos_grammar.specs.declared.stop.Stop.{Stop}
use Rattle.topos_grammar.specs.declared.stop.Stop.TheVariants.{NoMemory, At}

-- how many tokens a phrase of the kind has at least
abbrev pub least : {s : Sort} → Kind s → ℕ
least (MoreFactors R) = 0
least (MoreDisjuncts r) = 0
least (MoreConjuncts r) = 0
least (MoreArguments r) = 0
least Context = 0
least _ = 1

-- memory may run out, and reading stops at a token with so many from it on
abbrev pub Fails : {s : Sort} → Kind s → List Token → Stop → Type 0
Fails K toks NoMemory = Unit {0}
Fails K toks (At left) = (rest : List Token) × Reads (code K) toks (Stops rest) × (left ≡ length rest)

-- A function gives a tree and the tokens behind it, or says where reading stops.
abbrev pub Gives : {X : Type 0} {s : Sort} → (X → Tree s) → (X → List Token) → Kind s → List Token → Result X Stop → Type 0
Gives tree rest K toks (Ok x) = Reads (code K) toks (Whole (tree x) (rest x)) × (length (rest x) + least K ≤ length toks)
Gives tree rest K toks (Err e) = Fails K toks e

-- no token of the class stands in front
abbrev pub Misses : Class → List Token → Stop → Type 0
Misses C toks NoMemory = ⊥
Misses C toks (At left) = (Is C toks → ⊥) × (left ≡ length toks)

-- a variable and its type cannot be read
abbrev pub Unbound : List Token → Stop → Type 0
Unbound toks NoMemory = Unit {0}
Unbound toks (At left) = (rest : List Token) × ((s : Sort) (k : Binding → Code s) → Reads (bind k) toks (Stops rest)) × (left ≡ length rest)

-- the tokens begin with a variable, a colon and its type
pub record Binds (toks : List Token) (b : Binding) (rest : List Token) : Type 0 where
  pub behind : List Token
  pub head : toks ≡ Name b.variable ∷ Sign symbol.Colon ∷ behind
  pub type : Reads (code AnyType) behind (Whole b.type rest)
  pub shorter : length rest + 3 ≤ length toks

-- a term in parentheses cannot be read
abbrev pub Unopened : List Token → Stop → Type 0
Unopened toks NoMemory = Unit {0}
Unopened toks (At left) = (rest : List Token) × ((f : TermTree → TermTree) → Reads (in_parentheses f) toks (Stops rest)) × (left ≡ length rest)

-- the tokens begin with a term in parentheses
pub record Opens (toks : List Token) (t : TermTree) (rest : List Token) : Type 0 where
  pub inside : List Token
  pub behind : List Token
  pub opening : toks ≡ Sign symbol.OpenParenthesis ∷ inside
  pub inner : Reads (code AnyTerm) inside (Whole t behind)
  pub closing : behind ≡ Sign symbol.CloseParenthesis ∷ rest
  pub shorter : length rest + 1 ≤ length toks

-- the tokens begin with a term of one token
pub record IsLeaf (toks : List Token) (t : TermTree) (rest : List Token) : Type 0 where
  pub term : Reads (code Atom) toks (Whole t rest)
  pub shorter : length rest + 1 ≤ length toks

-- no term of one token stands in front
pub record NoLeaf (toks : List Token) : Type 0 where
  pub no_name : Is AnyName toks → ⊥
  pub no_true : Is (the word.True) toks → ⊥
  pub no_false : Is (the word.False) toks → ⊥
