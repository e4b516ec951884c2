-- Phrases as the grammar has them, and what begins with one.
use Rattle.std.specs.Prelude.{◌≡◌, List, [], ◌∷◌, ◌++◌}
use Rattle.topos_text.specs.Tokens.{Token}
use Rattle.topos_text.specs.Documents.{Derives}
use Rattle.topos_grammar.specs.Kinds.{Sort, Tree, Kind, part}
use Rattle.topos_grammar.specs.Follows.{Follow}

-- the tokens are a phrase of the kind with this tree
abbrev pub IsPhrase : {s : Sort} → Kind s → List Token → Tree s → Type 0
IsPhrase K toks t = Derives (part K t ∷ []) toks

-- The tokens are a phrase of the kind and tokens that may stand behind it.
pub record BeginsWith {s : Sort} (K : Kind s) (toks : List Token) : Type 0 where
  pub tree : Tree s
  pub phrase : List Token
  pub rest : List Token
  pub parts : toks ≡ phrase ++ rest
  pub is_phrase : IsPhrase K phrase tree
  pub follows : Follow K tree rest

-- Some phrase of the kind begins with the tokens.
pub record IsFrontOf {s : Sort} (K : Kind s) (front : List Token) : Type 0 where
  pub more : List Token
  pub tree : Tree s
  pub is_phrase : IsPhrase K (front ++ more) tree

-- The tokens are some front of a phrase and the rest, and with the first token of the rest nothing goes on that begins with a phrase.
pub record StopsThere {s : Sort} (K : Kind s) (toks rest : List Token) : Type 0 where
  pub front : List Token
  pub parts : toks ≡ front ++ rest
  pub is_front : IsFrontOf K front
  pub first : (t : Token) (behind more : List Token) → rest ≡ t ∷ behind → BeginsWith K (front ++ t ∷ more) → ⊥
  pub none : BeginsWith K toks → ⊥
