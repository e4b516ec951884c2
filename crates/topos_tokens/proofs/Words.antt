-- Tables of spellings.
use Rattle.std.proofs.Common.{◌≡◌, ℕ, Bool, true, false, not, ◌&&◌, ◌||◌, ◌==◌, List, [], ◌∷◌, Some, None, refl, sym, ap, subst, ◌∙◌, arith}
use Rattle.std.specs.List.{list_all}
use Rattle.std.specs.Prelude.{bytes_eq, encode_utf8_all, codes}
use Rattle.std.specs.Char.{encode_utf8}
use Rattle.std.proofs.lemmas.Str.{encodes_same}
use Rattle.std.proofs.lemmas.Slice.Eq.{bytes_eq-Decides}
use Rattle.std.proofs.lemmas.Bool.Decides.{same_from_decides}
use Rattle.finite_lists.specs.First.{some_if, or_else}
use Rattle.unicode_ident.proofs.Computing.{unicode_ident}
use Rattle.topos_text.specs.declared.word.Word.{Word}
use Rattle.topos_text.specs.declared.symbol.Symbol.{Symbol}
use Rattle.topos_text.specs.Spelling.{reserved_words, symbols, entry_of, word_of, symbol_of, is_name, starts_name}
use Rattle.topos_tokens.proofs.Characters.{both, first_true, second_true}

-- what all spellings of a table pass, each entry's spelling passes
pub entry_passes : {A : Type 0} (test : List ℕ → Bool) (table : List (List ℕ × A)) (cs : List ℕ) (a : A) → list_all (λ row. test row.0) table ≡ true → entry_of table cs ≡ Some a → test cs ≡ true
entry_passes test [] cs a all e = absurd cc
entry_passes {A} test (row ∷ table) cs a all e = by_first (bytes_eq row.0 cs) refl e (λ f. entry_passes test table cs a (second_true (test row.0) (list_all (λ r. test r.0) table) all) f)
  where
    by_first : (b : Bool) → bytes_eq row.0 cs ≡ b → or_else (some_if b row.1) (entry_of table cs) ≡ Some a → (entry_of table cs ≡ Some a → test cs ≡ true) → test cs ≡ true
    by_first true is e later = subst (λ z. test z ≡ true) ((bytes_eq-Decides row.0 cs).0 is) (first_true (test row.0) (list_all (λ r. test r.0) table) all)
    by_first false is e later = later e

abbrev pub begins : ℕ → List ℕ → Bool
begins c [] = false
begins c (b ∷ cs) = b == c

not_first : (b x : Bool) → b ≡ false → (b && x) ≡ false
not_first true x e = absurd cc
not_first false x e = refl

is_not : (b : Bool) → not b ≡ true → b ≡ false
is_not true e = absurd cc
is_not false e = refl

differs : (c : ℕ) (spelling cs : List ℕ) → begins c spelling ≡ false → bytes_eq spelling (c ∷ cs) ≡ false
differs c [] cs e = refl
differs c (b ∷ bs) cs e = not_first (b == c) (bytes_eq bs cs) e

-- a table with no spelling that begins with the character has none for a text that does
pub no_entry : {A : Type 0} (table : List (List ℕ × A)) (c : ℕ) (cs : List ℕ) → list_all (λ row. not (begins c row.0)) table ≡ true → entry_of table (c ∷ cs) ≡ None
no_entry [] c cs none = refl
no_entry (row ∷ table) c cs none =
    let e : bytes_eq row.0 (c ∷ cs) ≡ false = differs c row.0 cs (is_not (begins c row.0) (first_true (not (begins c row.0)) (list_all (λ r. not (begins c r.0)) table) none)) in
    ap (λ b. or_else (some_if b row.1) (entry_of table (c ∷ cs))) e ∙ no_entry table c cs (second_true (not (begins c row.0)) (list_all (λ r. not (begins c r.0)) table) none)

-- the first spelling is the text's, or is not
pub entry_here : {A : Type 0} (row : List ℕ × A) (table : List (List ℕ × A)) (cs : List ℕ) → row.0 ≡ cs → entry_of (row ∷ table) cs ≡ Some row.1
entry_here row table cs is = ap (λ b. or_else (some_if b row.1) (entry_of table cs)) ((bytes_eq-Decides row.0 cs).1 is)

pub entry_later : {A : Type 0} (row : List ℕ × A) (table : List (List ℕ × A)) (cs : List ℕ) → (row.0 ≡ cs → ⊥) → entry_of (row ∷ table) cs ≡ entry_of table cs
entry_later row table cs other = by_test (bytes_eq row.0 cs) refl
  where
    by_test : (b : Bool) → bytes_eq row.0 cs ≡ b → or_else (some_if (bytes_eq row.0 cs) row.1) (entry_of table cs) ≡ entry_of table cs
    by_test true is = absurd (other ((bytes_eq-Decides row.0 cs).0 is))
    by_test false is = ap (λ b. or_else (some_if b row.1) (entry_of table cs)) is

is_ascii : List ℕ → Bool
is_ascii cs = bytes_eq (encode_utf8_all cs) cs

-- spellings in ASCII are found by their bytes as by their characters
entry_of_bytes : {A : Type 0} (table : List (List ℕ × A)) (cs : List ℕ) → list_all (λ row. is_ascii row.0) table ≡ true → entry_of table (encode_utf8_all cs) ≡ entry_of table cs
unfolding is_ascii
entry_of_bytes [] cs all = refl
entry_of_bytes (row ∷ table) cs all =
    let plain : encode_utf8_all row.0 ≡ row.0 = (bytes_eq-Decides (encode_utf8_all row.0) row.0).0 (first_true (is_ascii row.0) (list_all (λ r. is_ascii r.0) table) all) in
    let same : bytes_eq row.0 (encode_utf8_all cs) ≡ bytes_eq row.0 cs = same_from_decides (bytes_eq row.0 (encode_utf8_all cs)) (bytes_eq row.0 cs) (bytes_eq-Decides row.0 (encode_utf8_all cs))
    (λ e. plain_to plain ((bytes_eq-Decides row.0 cs).0 e), λ e. (bytes_eq-Decides row.0 cs).1 (encodes_same row.0 cs (plain ∙ e))) in
    ap (λ b. or_else (some_if b row.1) (entry_of table (encode_utf8_all cs))) same ∙ ap (λ z. or_else (some_if (bytes_eq row.0 cs) row.1) z) (entry_of_bytes table cs (second_true (is_ascii row.0) (list_all (λ r. is_ascii r.0) table) all))
  where
    plain_to : encode_utf8_all row.0 ≡ row.0 → row.0 ≡ cs → row.0 ≡ encode_utf8_all cs
    plain_to plain e = sym plain ∙ ap encode_utf8_all e

words_are_ascii : list_all (λ row. is_ascii row.0) reserved_words ≡ true
unfolding is_ascii encode_utf8
words_are_ascii = refl

pub word_of_bytes : (cs : List ℕ) → word_of (encode_utf8_all cs) ≡ word_of cs
unfolding word_of
word_of_bytes cs = entry_of_bytes reserved_words cs words_are_ascii

words_are_names : list_all (λ row. is_name row.0) reserved_words ≡ true
unfolding unicode_ident is_name
words_are_names = refl

pub word_is_name : (cs : List ℕ) (w : Word) → word_of cs ≡ Some w → is_name cs ≡ true
unfolding word_of
word_is_name cs w e = entry_passes is_name reserved_words cs w words_are_names e

abbrev pub begins_no_name : List ℕ → Bool
begins_no_name [] = false
begins_no_name (c ∷ cs) = not (starts_name c) && not (c == 35)

symbols_are_no_names : list_all (λ row. begins_no_name row.0) symbols ≡ true
unfolding unicode_ident
symbols_are_no_names = refl

pub symbol_is_no_name : (cs : List ℕ) (s : Symbol) → symbol_of cs ≡ Some s → begins_no_name cs ≡ true
unfolding symbol_of
symbol_is_no_name cs s e = entry_passes begins_no_name symbols cs s symbols_are_no_names e

-- the character is none of these
abbrev pub IsNone : List ℕ → ℕ → Type 0
IsNone [] c = Unit {0}
IsNone (d ∷ ds) c = (c ≡ d → ⊥) × IsNone ds c

abbrev pub is_one : List ℕ → ℕ → Bool
is_one [] b = false
is_one (d ∷ ds) b = (b == d) || is_one ds b

abbrev pub begins_with_one : List ℕ → List ℕ → Bool
begins_with_one ds [] = false
begins_with_one ds (b ∷ bs) = is_one ds b

pub same_if : (a b : ℕ) → (a == b) ≡ true → a ≡ b
same_if a b e = grind (arith, e)

none_of : (ds : List ℕ) (b c : ℕ) → is_one ds b ≡ true → IsNone ds c → b ≡ c → ⊥
none_of [] b c e none same = absurd cc
none_of (d ∷ ds) b c e none same = by_first (b == d) refl e (λ f. none_of ds b c f none.1 same)
  where
    by_first : (x : Bool) → (b == d) ≡ x → (x || is_one ds b) ≡ true → (is_one ds b ≡ true → ⊥) → ⊥
    by_first true is f later = none.0 (sym same ∙ same_if b d is)
    by_first false is f later = later f

differs_by : (b c : ℕ) → (b ≡ c → ⊥) → not (b == c) ≡ true
differs_by b c other = by_test (b == c) refl
  where
    by_test : (x : Bool) → (b == c) ≡ x → not (b == c) ≡ true
    by_test true is = absurd (other (same_if b c is))
    by_test false is = ap not is

first_differs : (ds : List ℕ) (c : ℕ) (spelling : List ℕ) → begins_with_one ds spelling ≡ true → IsNone ds c → not (begins c spelling) ≡ true
first_differs ds c [] e none = absurd cc
first_differs ds c (b ∷ bs) e none = differs_by b c (none_of ds b c e none)

all_differ : {A : Type 0} (table : List (List ℕ × A)) (ds : List ℕ) (c : ℕ) → list_all (λ row. begins_with_one ds row.0) table ≡ true → IsNone ds c → list_all (λ row. not (begins c row.0)) table ≡ true
all_differ [] ds c all none = refl
all_differ (row ∷ table) ds c all none = both (not (begins c row.0)) (list_all (λ r. not (begins c r.0)) table)
    (first_differs ds c row.0 (first_true (begins_with_one ds row.0) (list_all (λ r. begins_with_one ds r.0) table) all) none)
    (all_differ table ds c (second_true (begins_with_one ds row.0) (list_all (λ r. begins_with_one ds r.0) table) all) none)

-- the letters with which words begin
abbrev pub word_letters : List ℕ
word_letters = codes "OPabcdefhilmnoprstuvw"

-- the characters with which symbols begin
abbrev pub symbol_characters : List ℕ
symbol_characters = codes ";:,.{}()|*-="

-- no word begins with the letter
pub no_word : (c : ℕ) (cs : List ℕ) → IsNone word_letters c → word_of (c ∷ cs) ≡ None
unfolding word_of
no_word c cs none = no_entry reserved_words c cs (all_differ reserved_words word_letters c refl none)

pub no_symbol : (c : ℕ) (cs : List ℕ) → IsNone symbol_characters c → symbol_of (c ∷ cs) ≡ None
unfolding symbol_of
no_symbol c cs none = no_entry symbols c cs (all_differ symbols symbol_characters c refl none)

pub no_word_nil : word_of [] ≡ None
unfolding word_of
no_word_nil = refl
