-- The limits of a text.
use Rattle.std.specs.Prelude.{ℕ, Bool, true, false, ◌&&◌, ◌≤◌, ◌+◌, List, [], ◌∷◌, ◌++◌, length, eqb, ltb, Option, Some, None}
use Rattle.finite_lists.specs.Members.{In}
use Rattle.finite_lists.specs.First.{or_else, some_if}
use Rattle.topos_model.specs.declared.doc.Doc.{Doc}
use Rattle.topos_model.specs.declared.doc.FunctorName.{FunctorName}
use Rattle.topos_model.specs.declared.doc.OnName.{OnName}
use Rattle.topos_model.specs.declared.doc.CatDecl.{CatDecl}
use Rattle.topos_model.specs.declared.fault.Fault.{Fault}
use Rattle.topos_model.specs.declared.fault.Fault.TheVariants.{TooMany}
use Rattle.topos_model.specs.declared.fault.Kind.{Kind}
use Rattle.topos_model.specs.declared.fault.Kind.TheVariants as kind
use Rattle.topos_text.specs.declared.word.Word.TheVariants as word
use Rattle.topos_text.specs.declared.symbol.Symbol.TheVariants as symbol
use Rattle.topos_text.specs.Tokens.{Token, Name, Reserved, Sign}

-- the most that there may be of each kind
abbrev pub most : Kind → ℕ
most kind.Document = 1048576
most kind.Name = 255
most kind.Term = 256
most kind.Statements = 10000
most kind.Objects = 128
most kind.Arrows = 512
most kind.Elements = 256
most kind.Topologies = 16

-- A run of tokens, between two `;` or at an end of the text, is limited where it begins with one of these.
unfoldable pub begins_limited : Token → Bool
begins_limited (Name x) = true
begins_limited (Reserved word.Build) = true
begins_limited (Reserved word.Sub) = true
begins_limited (Reserved word.Let) = true
begins_limited (Reserved word.Show) = true
begins_limited (Reserved word.Classify) = true
begins_limited (Reserved word.Valid) = true
begins_limited (Reserved word.Why) = true
begins_limited (Reserved word.Derive) = true
begins_limited _ = false

unfoldable pub is_limited : List Token → Bool
is_limited [] = false
is_limited (t ∷ run) = begins_limited t

-- the token is one too many behind the others of its run
unfoldable pub run_fault : List Token → Token → Option Fault
run_fault run (Sign symbol.Semicolon) = None
run_fault run t = some_if (is_limited run && eqb (length run) (most kind.Term)) (TooMany kind.Term (most kind.Term))

unfoldable pub name_len_fault : Token → Option Fault
name_len_fault (Name x) = some_if (ltb (most kind.Name) (length x.text)) (TooMany kind.Name (most kind.Name))
name_len_fault _ = None

-- the run so far, behind a token
unfoldable pub run_after : List Token → Token → List Token
run_after run (Sign symbol.Semicolon) = []
run_after run t = run ++ t ∷ []

-- the first token that passes a limit of names or runs, behind the run so far
unfoldable pub token_fault : List Token → List Token → Option Fault
token_fault run [] = None
token_fault run (t ∷ toks) = or_else (or_else (name_len_fault t) (run_fault run t)) (token_fault (run_after run t) toks)

-- at each object there are no more elements than the limit
abbrev pub ElementsFit : Option (List (List (List ℕ))) → Type 0
ElementsFit None = Unit {0}
ElementsFit (Some stages) = (names : List (List ℕ)) → In stages names → length names ≤ most kind.Elements

abbrev pub CategoryFits : List (List ℕ) → List (List ℕ) → Type 0
CategoryFits objects arrows = (length objects ≤ most kind.Objects) × (length objects + length arrows ≤ most kind.Arrows)

-- The document is within the limits. Topology number 0 is not declared.
pub record Fits (doc : Doc) : Type 0 where
  pub statements : doc.site_len + length doc.stmts ≤ most kind.Statements
  pub site : CategoryFits doc.objects doc.arrows
  pub topologies : length doc.tops ≤ most kind.Topologies + 1
  pub functors : (x : FunctorName) → In doc.functors x → ElementsFit x.elements
  pub cats : (d : CatDecl) → In doc.cats d → CategoryFits d.objects d.arrows
  pub on_functors : (p : OnName) → In doc.on_functors p → ElementsFit p.elements
