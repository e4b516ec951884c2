-- What reading by the codes of the grammar means.
use Rattle.std.specs.Prelude.{◌≡◌, ◌⊎◌, ◌+◌, ◌≤◌, ℕ, List, [], ◌++◌, length}
use Rattle.topos_text.specs.Tokens.{Token}
use Rattle.topos_text.specs.Trees.{DocumentTree}
use Rattle.topos_text.specs.Documents.{IsDocument}
use Rattle.topos_text.specs.Places.{IsSyntaxPlace}
use Rattle.topos_grammar.specs.Kinds.{Sort, Tree, Kind}
use Rattle.topos_grammar.specs.Codes.{code, document}
use Rattle.topos_grammar.specs.Reading.{Read, Whole, Stops, Reads}
use Rattle.topos_grammar.specs.Follows.{Follow}
use Rattle.topos_grammar.specs.Places.{IsPhrase, StopsThere}

-- reading gives one thing
abbrev pub ReadingIsUnique : Type 0
ReadingIsUnique = (s : Sort) (K : Kind s) (toks : List Token) (r q : Read s) → Reads (code K) toks r → Reads (code K) toks q → r ≡ q

-- what is read is a phrase with this tree
abbrev pub WhatIsReadDerives : Type 0
WhatIsReadDerives = (s : Sort) (K : Kind s) (toks rest : List Token) (t : Tree s) → Reads (code K) toks (Whole t rest) → (front : List Token) × (toks ≡ front ++ rest) × IsPhrase K front t

-- each phrase is read, whatever follows that may stand behind it
abbrev pub PhrasesAreRead : Type 0
PhrasesAreRead = (s : Sort) (K : Kind s) (t : Tree s) (phrase rest : List Token) → IsPhrase K phrase t → Follow K t rest → Reads (code K) (phrase ++ rest) (Whole t rest)

-- reading stops at the first token with which no phrase goes on
abbrev pub ReadingStopsThere : Type 0
ReadingStopsThere = (s : Sort) (K : Kind s) (toks rest : List Token) → Reads (code K) toks (Stops rest) → StopsThere K toks rest

-- tokens that are a document are read whole, with its tree
abbrev pub DocumentsAreRead : Type 0
DocumentsAreRead = (toks : List Token) (t : DocumentTree) → IsDocument toks t → Reads document toks (Whole t [])

-- what is read whole is a document with this tree, up to the last token
abbrev pub WhatIsReadIsADocument : Type 0
WhatIsReadIsADocument = (toks rest : List Token) (t : DocumentTree) → Reads document toks (Whole t rest) → (rest ≡ []) × IsDocument toks t

-- where reading stops is where the tokens cease to be a document
abbrev pub ReadingStopsAtTheSyntaxPlace : Type 0
ReadingStopsAtTheSyntaxPlace = (toks rest : List Token) (place : ℕ) → Reads document toks (Stops rest) → place + length rest ≡ length toks + 1 → IsSyntaxPlace toks place

-- reading comes to an end on every list of tokens
abbrev pub ReadingEnds : Type 0
ReadingEnds = (s : Sort) (K : Kind s) (toks : List Token) → (r : Read s) × Reads (code K) toks r

abbrev pub ReadingDocumentsEnds : Type 0
ReadingDocumentsEnds =
    (toks : List Token) → ((t : DocumentTree) × (rest : List Token) × Reads document toks (Whole t rest)) ⊎ ((rest : List Token) × Reads document toks (Stops rest) × (length rest ≤ length toks))
