-- How tokens are spelled, in characters.
use Rattle.std.specs.Prelude.{ℕ, Bool, false, ◌==◌, ◌||◌, ◌&&◌, ◌-◌, ◌+◌, ◌*◌, leb, List, [], ◌∷◌, length, codes, bytes_eq, Option}
use Rattle.std.specs.List.{list_all}
use Rattle.unicode_ident.specs.Ident.{is_xid_start, is_xid_continue}
use Rattle.finite_lists.specs.First.{first, some_if}
use Rattle.topos_text.specs.declared.word.Word.{Word}
use Rattle.topos_text.specs.declared.word.Word.TheVariants as word
use Rattle.topos_text.specs.declared.symbol.Symbol.{Symbol}
use Rattle.topos_text.specs.declared.symbol.Symbol.TheVariants as symbol

-- the reserved words
abbrev pub reserved_words : List (List ℕ × Word)
reserved_words =
    (codes "object", word.Object) ∷
    (codes "arrow", word.Arrow) ∷
    (codes "compose", word.Compose) ∷
    (codes "topology", word.Topology) ∷
    (codes "dense", word.Dense) ∷
    (codes "cover", word.Cover) ∷
    (codes "by", word.By) ∷
    (codes "none", word.None) ∷
    (codes "id", word.Id) ∷
    (codes "presheaf", word.Presheaf) ∷
    (codes "at", word.At) ∷
    (codes "along", word.Along) ∷
    (codes "map", word.Map) ∷
    (codes "product", word.Product) ∷
    (codes "equalizer", word.Equalizer) ∷
    (codes "pullback", word.Pullback) ∷
    (codes "image", word.Image) ∷
    (codes "empty", word.Empty) ∷
    (codes "coproduct", word.Coproduct) ∷
    (codes "coequalizer", word.Coequalizer) ∷
    (codes "pushout", word.Pushout) ∷
    (codes "sheafify", word.Sheafify) ∷
    (codes "sheaf", word.Sheaf) ∷
    (codes "hom", word.Hom) ∷
    (codes "build", word.Build) ∷
    (codes "of", word.Of) ∷
    (codes "with", word.With) ∷
    (codes "as", word.As) ∷
    (codes "sub", word.Sub) ∷
    (codes "let", word.Let) ∷
    (codes "show", word.Show) ∷
    (codes "classify", word.Classify) ∷
    (codes "valid", word.Valid) ∷
    (codes "true", word.True) ∷
    (codes "false", word.False) ∷
    (codes "and", word.And) ∷
    (codes "or", word.Or) ∷
    (codes "not", word.Not) ∷
    (codes "forall", word.Forall) ∷
    (codes "exists", word.Exists) ∷
    (codes "unique", word.Unique) ∷
    (codes "fun", word.Fun) ∷
    (codes "in", word.In) ∷
    (codes "fst", word.Fst) ∷
    (codes "snd", word.Snd) ∷
    (codes "Pow", word.Pow) ∷
    (codes "Omega", word.Omega) ∷
    (codes "One", word.One) ∷
    (codes "version", word.Version) ∷
    (codes "under", word.Under) ∷
    (codes "why", word.Why) ∷
    (codes "derive", word.Derive) ∷
    (codes "local", word.Local) ∷
    (codes "category", word.Category) ∷
    (codes "functor", word.Functor) ∷
    (codes "lan", word.Lan) ∷
    (codes "ran", word.Ran) ∷
    []

abbrev pub symbols : List (List ℕ × Symbol)
symbols =
    (codes ";", symbol.Semicolon) ∷
    (codes ":", symbol.Colon) ∷
    (codes ",", symbol.Comma) ∷
    (codes ".", symbol.Dot) ∷
    (codes "{", symbol.OpenBrace) ∷
    (codes "}", symbol.CloseBrace) ∷
    (codes "(", symbol.OpenParenthesis) ∷
    (codes ")", symbol.CloseParenthesis) ∷
    (codes "->", symbol.Arrow) ∷
    (codes "=>", symbol.Implies) ∷
    (codes "=", symbol.Equals) ∷
    (codes "|", symbol.Bar) ∷
    (codes "*", symbol.Star) ∷
    []

-- what stands in a table beside these characters
abbrev pub entry_of : {A : Type 0} → List (List ℕ × A) → List ℕ → Option A
entry_of table cs = first (λ row. some_if (bytes_eq row.0 cs) row.1) table

unfoldable pub word_of : List ℕ → Option Word
word_of cs = entry_of reserved_words cs

unfoldable pub symbol_of : List ℕ → Option Symbol
symbol_of cs = entry_of symbols cs

-- a name begins with `_` or a character that may start an identifier, and goes on with characters that may continue one or `'`
abbrev pub starts_name : ℕ → Bool
starts_name c = is_xid_start c || (c == 95)

abbrev pub continues_name : ℕ → Bool
continues_name c = is_xid_continue c || (c == 39)

unfoldable pub is_name : List ℕ → Bool
is_name [] = false
is_name (c ∷ cs) = starts_name c && list_all continues_name cs

-- ASCII digits
abbrev pub is_digit : ℕ → Bool
is_digit c = leb 48 c && leb c 57

-- one to nine digits
unfoldable pub are_digits : List ℕ → Bool
are_digits cs = list_all is_digit cs && leb 1 (length cs) && leb (length cs) 9

-- the number that digits stand for, after those of n
abbrev pub number_from : ℕ → List ℕ → ℕ
number_from n [] = n
number_from n (c ∷ cs) = number_from (n * 10 + (c - 48)) cs

unfoldable pub number_of : List ℕ → ℕ
number_of cs = number_from 0 cs
