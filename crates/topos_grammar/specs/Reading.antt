-- Reading tokens by a code, from left to right.
use Rattle.std.specs.Prelude.{ℕ, ◌≡◌, true, false, List, [], ◌∷◌}
use Rattle.topos_text.specs.declared.word.Word.TheVariants as word
use Rattle.topos_text.specs.declared.symbol.Symbol.TheVariants as symbol
use Rattle.topos_text.specs.Tokens.{Token, Written, Name, Place}
use Rattle.topos_text.specs.Terms.{ends_with_body}
use Rattle.topos_grammar.specs.Kinds.{Sort, Tree, Kind, MoreDisjuncts, MoreConjuncts, MoreArguments}
use Rattle.topos_grammar.specs.Codes.{Class, This, AnyName, AnyPlace, Numbered, Is, the, sign, Code, give, eat, name, place, numbered, call, peek, loop, code}

-- a tree and the tokens behind it, or the tokens from the one at which reading stops
pub data Read : Sort → Type 0 where
  Whole : {s : Sort} → Tree s → List Token → Read s
  Stops : {s : Sort} → List Token → Read s

-- Reading the tokens by the code gives this.
pub data Reading : (s : Sort) → Code s → List Token → Read s → Type 0 where
  gives : {s : Sort} {v : Tree s} {toks : List Token} → Reading s (give v) toks (Whole v toks)
  eats : {s : Sort} {u : Token} {k : Code s} {toks : List Token} {r : Read s} → Reading s k toks r → Reading s (eat u k) (u ∷ toks) r
  eats_not : {s : Sort} {u : Token} {k : Code s} {toks : List Token} → (Is (This u) toks → ⊥) → Reading s (eat u k) toks (Stops toks)
  names : {s : Sort} {x : Written} {k : Written → Code s} {toks : List Token} {r : Read s} → Reading s (k x) toks r → Reading s (name k) (Name x ∷ toks) r
  names_not : {s : Sort} {k : Written → Code s} {toks : List Token} → (Is AnyName toks → ⊥) → Reading s (name k) toks (Stops toks)
  places : {s : Sort} {n : ℕ} {x : Written} {k : ℕ → Written → Code s} {toks : List Token} {r : Read s} → Reading s (k n x) toks r → Reading s (place k) (Place n x ∷ toks) r
  places_not : {s : Sort} {k : ℕ → Written → Code s} {toks : List Token} → (Is AnyPlace toks → ⊥) → Reading s (place k) toks (Stops toks)
  numbers : {s : Sort} {n : ℕ} {x : Written} {k : Written → Code s} {toks : List Token} {r : Read s} → Reading s (k x) toks r → Reading s (numbered n k) (Place n x ∷ toks) r
  numbers_not : {s : Sort} {n : ℕ} {k : Written → Code s} {toks : List Token} → (Is (Numbered n) toks → ⊥) → Reading s (numbered n k) toks (Stops toks)
  calls : {s u : Sort} {K : Kind u} {k : Tree u → Code s} {v : Tree u} {toks rest : List Token} {r : Read s} → Reading u (code K) toks (Whole v rest) → Reading s (k v) rest r → Reading s (call K k) toks r
  calls_not : {s u : Sort} {K : Kind u} {k : Tree u → Code s} {toks rest : List Token} → Reading u (code K) toks (Stops rest) → Reading s (call K k) toks (Stops rest)
  peeks : {s : Sort} {C : Class} {a b : Code s} {toks : List Token} {r : Read s} → Is C toks → Reading s a toks r → Reading s (peek C a b) toks r
  peeks_not : {s : Sort} {C : Class} {a b : Code s} {toks : List Token} {r : Read s} → (Is C toks → ⊥) → Reading s b toks r → Reading s (peek C a b) toks r
  loops : {s u : Sort} {C : Class} {item : Code u} {k : List (Tree u) → Code s} {v : Tree u} {toks rest : List Token} {r : Read s}
      → Is C toks → Reading u item toks (Whole v rest) → Reading s (loop C item (λ vs. k (v ∷ vs))) rest r → Reading s (loop C item k) toks r
  loops_not : {s u : Sort} {C : Class} {item : Code u} {k : List (Tree u) → Code s} {toks rest : List Token} → Is C toks → Reading u item toks (Stops rest) → Reading s (loop C item k) toks (Stops rest)
  loops_end : {s u : Sort} {C : Class} {item : Code u} {k : List (Tree u) → Code s} {toks : List Token} {r : Read s} → (Is C toks → ⊥) → Reading s (k []) toks r → Reading s (loop C item k) toks r

abbrev pub Reads : {s : Sort} → Code s → List Token → Read s → Type 0
Reads {s} c toks r = Reading s c toks r

-- no operator of formulas stands in front
abbrev pub Closed : List Token → Type 0
Closed ts = (Is (the word.And) ts → ⊥) × (Is (the word.Or) ts → ⊥) × (Is (sign symbol.Implies) ts → ⊥)

-- the tokens may be read on from the tree that the kind has
abbrev pub Ready : {s : Sort} → Kind s → List Token → Type 0
Ready (MoreDisjuncts r) ts = (Is (the word.And) ts → ⊥) × (ends_with_body r ≡ true → Closed ts)
Ready (MoreConjuncts r) ts = ends_with_body r ≡ true → Closed ts
Ready (MoreArguments r) ts = ends_with_body r ≡ false
Ready _ ts = Unit {0}
