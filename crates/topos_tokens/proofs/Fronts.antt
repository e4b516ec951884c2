-- Which token a text begins with.
use Rattle.std.proofs.Common.{◌≡◌, ◌⊎◌, inl, inr, ℕ, zero, suc, ◌≤◌, ◌<◌, List, [], ◌∷◌, ◌++◌, length, Bool, true, false, not, ◌&&◌, ◌||◌, refl, sym, ap, subst, ◌∙◌, arith, ◌==◌, leb, Some, None, append_assoc}
use Rattle.std.specs.List.{list_all}
use Rattle.std.specs.Prelude.{encode_utf8_all}
use Rattle.std.proofs.lemmas.Bool.{leb-true}
use Rattle.unicode_ident.specs.Ident.{is_xid_start, is_xid_continue}
use Rattle.unicode_ident.proofs.Computing.{unicode_ident}
use Rattle.unicode_ident.proofs.IdentLemmas.{is_xid_start-is_xid_continue}
use Rattle.topos_text.specs.declared.word.Word.{Word}
use Rattle.topos_text.specs.declared.symbol.Symbol.{Symbol}
use Rattle.topos_text.specs.declared.symbol.Symbol.TheVariants as symbols
use Rattle.topos_text.specs.Spelling.{word_of, symbol_of, starts_name, continues_name, is_name, is_digit, are_digits, number_of}
use Rattle.topos_text.specs.Tokens.{Token, Name, Place, Reserved, Sign}
use Rattle.topos_text.specs.Lexing.{SpellsToken, word, symbol, place, name, IsLongest, EndsPlace, written_as}
use Rattle.topos_tokens.specs.Fronts.{IsFront, NoToken, Passed, EndsName, EndsDigits, IsDigits, NoDigits}
use Rattle.topos_tokens.proofs.Characters.{head_same, tail_same, both, first_true, second_true, is_absurd}
use Rattle.topos_tokens.proofs.Words.{word_is_name, word_of_bytes, symbol_is_no_name}

-- a name, a place or a symbol begins with this character
pub name_start : (c : ℕ) (cs : List ℕ) → is_name (c ∷ cs) ≡ true → starts_name c ≡ true
unfolding is_name
name_start c cs e = first_true (starts_name c) (list_all continues_name cs) e

pub name_more : (c : ℕ) (cs : List ℕ) → is_name (c ∷ cs) ≡ true → list_all continues_name cs ≡ true
unfolding is_name
name_more c cs e = second_true (starts_name c) (list_all continues_name cs) e

is_not : (b : Bool) → not b ≡ true → b ≡ false
is_not true e = absurd cc
is_not false e = refl

pub symbol_start : (c : ℕ) (cs : List ℕ) (s : Symbol) → symbol_of (c ∷ cs) ≡ Some s → starts_name c ≡ false
symbol_start c cs s e = is_not (starts_name c) (first_true (not (starts_name c)) (not (c == 35)) (symbol_is_no_name (c ∷ cs) s e))

pub symbol_no_place : (cs : List ℕ) (s : Symbol) → symbol_of (35 ∷ cs) ≡ Some s → ⊥
symbol_no_place cs s e = let bad : false ≡ true = second_true (not (starts_name 35)) false (symbol_is_no_name (35 ∷ cs) s e) in absurd cc

pub place_no_start : starts_name 35 ≡ false
unfolding unicode_ident
place_no_start = refl

arrow_no_start : starts_name 45 ≡ false
unfolding unicode_ident
arrow_no_start = refl

equals_no_start : starts_name 61 ≡ false
unfolding unicode_ident
equals_no_start = refl

-- ---- symbols

-- What a text that begins with neither a name nor a place begins with is spelled as a symbol is.
pub as_symbol : (n : ℕ) (c : ℕ) (zs : List ℕ) (t : Token) → starts_name c ≡ false → (c ≡ 35 → ⊥) → SpellsToken n (c ∷ zs) t → (s : Symbol) × (symbol_of (c ∷ zs) ≡ Some s)
as_symbol n c zs t no_name no_place (word {w = w} e) = absurd (is_absurd (starts_name c) (name_start c zs (word_is_name (c ∷ zs) w e)) no_name)
as_symbol n c zs t no_name no_place (symbol {s = s} e) = (s, e)
as_symbol n c zs t no_name no_place (place e) = absurd (no_place refl)
as_symbol n c zs t no_name no_place (name e none) = absurd (is_absurd (starts_name c) (name_start c zs e) no_name)

-- no token is spelled by no character
pub spelled_some : (n : ℕ) (t : Token) → SpellsToken n [] t → ⊥
unfolding word_of symbol_of is_name
spelled_some n t (word e) = absurd cc
spelled_some n t (symbol e) = absurd cc
spelled_some n t (name e none) = absurd cc

-- no longer front is a symbol
abbrev pub NoLonger : List ℕ → List ℕ → Type 0
NoLonger front rest = (z : ℕ) (zs ys : List ℕ) (s : Symbol) → z ∷ zs ++ ys ≡ rest → symbol_of (front ++ z ∷ zs) ≡ Some s → ⊥

longer_by : (c : ℕ) (cs xs ys rest : List ℕ) → xs ++ ys ≡ (c ∷ cs) ++ rest → (length xs ≤ length (c ∷ cs)) ⊎ ((z : ℕ) × (zs : List ℕ) × (xs ≡ (c ∷ cs) ++ z ∷ zs) × (z ∷ zs ++ ys ≡ rest))
longer_by c cs [] ys rest e = inl (omega arith)
longer_by c [] (x ∷ []) ys rest e = inl (omega arith)
longer_by c [] (x ∷ z ∷ zs) ys rest e = inr (z, zs, ap (λ v. v ∷ z ∷ zs) (head_same x c (z ∷ zs ++ ys) rest e), tail_same x c (z ∷ zs ++ ys) rest e)
longer_by c (d ∷ cs) (x ∷ xs) ys rest e = more (longer_by d cs xs ys rest (tail_same x c (xs ++ ys) ((d ∷ cs) ++ rest) e))
  where
    more : (length xs ≤ length (d ∷ cs)) ⊎ ((z : ℕ) × (zs : List ℕ) × (xs ≡ (d ∷ cs) ++ z ∷ zs) × (z ∷ zs ++ ys ≡ rest)) → (length (x ∷ xs) ≤ length (c ∷ d ∷ cs)) ⊎ ((z : ℕ) × (zs : List ℕ) × (x ∷ xs ≡ (c ∷ d ∷ cs) ++ z ∷ zs) × (z ∷ zs ++ ys ≡ rest))
    more (inl le) = inl (omega (arith, le))
    more (inr (z, zs, is, parts)) = inr (z, zs, ap (λ v. x ∷ v) is ∙ ap (λ v. v ∷ (d ∷ cs) ++ z ∷ zs) (head_same x c (xs ++ ys) ((d ∷ cs) ++ rest) e), parts)

pub symbol_front : (n c : ℕ) (cs rest : List ℕ) (s : Symbol) → starts_name c ≡ false → (c ≡ 35 → ⊥) → symbol_of (c ∷ cs) ≡ Some s → NoLonger (c ∷ cs) rest → IsFront n ((c ∷ cs) ++ rest) (Sign s) rest
symbol_front n c cs rest s no_name no_place is none = record { front = c ∷ cs; parts = refl; spelled = symbol is; longest = λ m xs ys t e spelled. most m xs ys t e spelled; ends = tt }
  where
    most : (m : ℕ) (xs ys : List ℕ) (t : Token) → xs ++ ys ≡ (c ∷ cs) ++ rest → SpellsToken m xs t → length xs ≤ length (c ∷ cs)
    most m xs ys t e spelled = elim (longer_by c cs xs ys rest e) [
      | inl le ↦ le
      | inr (z, zs, xs_is, parts) ↦ (let found = as_symbol m c (cs ++ z ∷ zs) t no_name no_place (subst (λ v. SpellsToken m v t) xs_is spelled) in absurd (none z zs ys found.0 parts found.1))
    ]

-- no token begins with the character, unless a symbol does
pub no_symbol_front : (c : ℕ) (rest : List ℕ) → starts_name c ≡ false → (c ≡ 35 → ⊥) → ((zs ys : List ℕ) (s : Symbol) → zs ++ ys ≡ rest → symbol_of (c ∷ zs) ≡ Some s → ⊥) → NoToken (c ∷ rest)
no_symbol_front c rest no_name no_place none n [] ys t e spelled longest ends = spelled_some n t spelled
no_symbol_front c rest no_name no_place none n (x ∷ xs) ys t e spelled longest ends =
    let found = as_symbol n c xs t no_name no_place (subst (λ v. SpellsToken n (v ∷ xs) t) (head_same x c (xs ++ ys) rest e) spelled) in
    none xs ys found.0 (tail_same x c (xs ++ ys) rest e) found.1

pub no_token_nil : NoToken []
no_token_nil n [] ys t e spelled longest ends = spelled_some n t spelled
no_token_nil n (x ∷ xs) ys t e spelled longest ends = absurd cc

-- ---- `->`, `=>` and `=`

after_arrow : (z : ℕ) (zs : List ℕ) (s : Symbol) → symbol_of (45 ∷ z ∷ zs) ≡ Some s → z ≡ 62
unfolding symbol_of
after_arrow z zs s e = by_test (62 == z) refl
  where
    by_test : (b : Bool) → (62 == z) ≡ b → z ≡ 62
    by_test true is = grind (arith, is)
    by_test false is = let bad = rw is at e in absurd cc

pub arrow_front : (n : ℕ) (rest : List ℕ) → IsFront n (45 ∷ 62 ∷ rest) (Sign symbols.Arrow) rest
unfolding symbol_of
arrow_front n rest = symbol_front n 45 (62 ∷ []) rest symbols.Arrow arrow_no_start (λ e. absurd (omega (arith, e))) refl (λ z zs ys s parts e. absurd cc)

pub lone_arrow : (rest : List ℕ) → ((cs : List ℕ) → rest ≡ 62 ∷ cs → ⊥) → NoToken (45 ∷ rest)
unfolding symbol_of
lone_arrow rest other = no_symbol_front 45 rest arrow_no_start (λ e. absurd (omega (arith, e))) none
  where
    none : (zs ys : List ℕ) (s : Symbol) → zs ++ ys ≡ rest → symbol_of (45 ∷ zs) ≡ Some s → ⊥
    none [] ys s e f = absurd cc
    none (z ∷ zs) ys s e f = other (zs ++ ys) (sym e ∙ ap (λ v. v ∷ zs ++ ys) (after_arrow z zs s f))

after_equals : (z : ℕ) (zs : List ℕ) (s : Symbol) → symbol_of (61 ∷ z ∷ zs) ≡ Some s → z ≡ 62
unfolding symbol_of
after_equals z zs s e = by_test (62 == z) refl
  where
    by_test : (b : Bool) → (62 == z) ≡ b → z ≡ 62
    by_test true is = grind (arith, is)
    by_test false is = let bad = rw is at e in absurd cc

pub implies_front : (n : ℕ) (rest : List ℕ) → IsFront n (61 ∷ 62 ∷ rest) (Sign symbols.Implies) rest
unfolding symbol_of
implies_front n rest = symbol_front n 61 (62 ∷ []) rest symbols.Implies equals_no_start (λ e. absurd (omega (arith, e))) refl (λ z zs ys s parts e. absurd cc)

pub equals_front : (n : ℕ) (rest : List ℕ) → ((cs : List ℕ) → rest ≡ 62 ∷ cs → ⊥) → IsFront n (61 ∷ rest) (Sign symbols.Equals) rest
unfolding symbol_of
equals_front n rest other = symbol_front n 61 [] rest symbols.Equals equals_no_start (λ e. absurd (omega (arith, e))) refl
    (λ z zs ys s parts e. other (zs ++ ys) (sym parts ∙ ap (λ v. v ∷ zs ++ ys) (after_equals z zs s e)))

-- ---- names

or_left : (a b : Bool) → a ≡ true → (a || b) ≡ true
or_left true b e = refl
or_left false b e = absurd cc

or_second : (a b : Bool) → a ≡ false → (a || b) ≡ true → b ≡ true
or_second true b e k = absurd cc
or_second false b e k = k

underscore_continues : is_xid_continue 95 ≡ true
unfolding unicode_ident
underscore_continues = refl

starts_continues_by : (c : ℕ) (b : Bool) → is_xid_start c ≡ b → starts_name c ≡ true → continues_name c ≡ true
starts_continues_by c true e h = or_left (is_xid_continue c) (c == 39) (is_xid_start-is_xid_continue c e)
starts_continues_by c false e h =
    let test : (c == 95) ≡ true = or_second (is_xid_start c) (c == 95) e h in
    let same : c ≡ 95 = grind (arith, test) in
    or_left (is_xid_continue c) (c == 39) (subst (λ v. is_xid_continue v ≡ true) (sym same) underscore_continues)

starts_continues : (c : ℕ) → starts_name c ≡ true → continues_name c ≡ true
starts_continues c h = starts_continues_by c (is_xid_start c) refl h

longest_word : (xs ys cs rest : List ℕ) → list_all continues_name xs ≡ true → EndsName rest → xs ++ ys ≡ cs ++ rest → length xs ≤ length cs
longest_word [] ys cs rest all ends e = omega arith
longest_word (x ∷ xs) ys [] [] all ends e = absurd cc
longest_word (x ∷ xs) ys [] (r ∷ rest) all ends e =
    absurd (is_absurd (continues_name r) (subst (λ v. continues_name v ≡ true) (head_same x r (xs ++ ys) rest e) (first_true (continues_name x) (list_all continues_name xs) all)) ends)
longest_word (x ∷ xs) ys (c ∷ cs) rest all ends e =
    omega (arith, longest_word xs ys cs rest (second_true (continues_name x) (list_all continues_name xs) all) ends (tail_same x c (xs ++ ys) (cs ++ rest) e))

named : (c : ℕ) (cs : List ℕ) → starts_name c ≡ true → list_all continues_name cs ≡ true → is_name (c ∷ cs) ≡ true
unfolding is_name
named c cs st all = both (starts_name c) (list_all continues_name cs) st all

-- what a text that begins with a name begins with is spelled as names are
as_name : (n c : ℕ) (xs : List ℕ) (t : Token) → starts_name c ≡ true → SpellsToken n (c ∷ xs) t → is_name (c ∷ xs) ≡ true
as_name n c xs t st (word {w = w} e) = word_is_name (c ∷ xs) w e
as_name n c xs t st (symbol {s = s} e) = absurd (is_absurd (starts_name c) st (symbol_start c xs s e))
as_name n c xs t st (place e) = absurd (is_absurd (starts_name 35) st place_no_start)
as_name n c xs t st (name e none) = e

name_longest : (c : ℕ) (cs rest : List ℕ) → starts_name c ≡ true → EndsName rest → IsLongest ((c ∷ cs) ++ rest) (c ∷ cs)
name_longest c cs rest st ends n [] ys t e spelled = omega arith
name_longest c cs rest st ends n (x ∷ xs) ys t e spelled =
    let is = as_name n c xs t st (subst (λ v. SpellsToken n (v ∷ xs) t) (head_same x c (xs ++ ys) (cs ++ rest) e) spelled) in
    omega (arith, longest_word xs ys cs rest (name_more c xs is) ends (tail_same x c (xs ++ ys) (cs ++ rest) e))

-- a name that begins the text, or a word that it is
pub name_front : (n c : ℕ) (cs rest : List ℕ) → starts_name c ≡ true → list_all continues_name cs ≡ true → EndsName rest → word_of (c ∷ cs) ≡ None → IsFront n ((c ∷ cs) ++ rest) (Name (written_as n (c ∷ cs))) rest
name_front n c cs rest st all ends none = record { front = c ∷ cs; parts = refl; spelled = name (named c cs st all) none; longest = name_longest c cs rest st ends; ends = tt }

pub word_front : (n c : ℕ) (cs rest : List ℕ) (w : Word) → starts_name c ≡ true → EndsName rest → word_of (c ∷ cs) ≡ Some w → IsFront n ((c ∷ cs) ++ rest) (Reserved w) rest
word_front n c cs rest w st ends is = record { front = c ∷ cs; parts = refl; spelled = word is; longest = name_longest c cs rest st ends; ends = tt }

-- ---- places

few_digits : (cs : List ℕ) → are_digits cs ≡ true → length cs ≤ 9
unfolding are_digits
few_digits cs e = leb-true (length cs) 9 (second_true (list_all is_digit cs && leb 1 (length cs)) (leb (length cs) 9) e)

some_digits : (cs : List ℕ) → are_digits cs ≡ true → 1 ≤ length cs
unfolding are_digits
some_digits cs e = leb-true 1 (length cs) (second_true (list_all is_digit cs) (leb 1 (length cs)) (first_true (list_all is_digit cs && leb 1 (length cs)) (leb (length cs) 9) e))

all_digits : (cs : List ℕ) → are_digits cs ≡ true → list_all is_digit cs ≡ true
unfolding are_digits
all_digits cs e = first_true (list_all is_digit cs) (leb 1 (length cs)) (first_true (list_all is_digit cs && leb 1 (length cs)) (leb (length cs) 9) e)

-- a place alone begins with `#`
pub as_place : (n : ℕ) (zs : List ℕ) (t : Token) → SpellsToken n (35 ∷ zs) t → (are_digits zs ≡ true) × (t ≡ Place (number_of zs) (written_as n (35 ∷ zs)))
as_place n zs t (word {w = w} e) = absurd (is_absurd (starts_name 35) (name_start 35 zs (word_is_name (35 ∷ zs) w e)) place_no_start)
as_place n zs t (symbol {s = s} e) = absurd (symbol_no_place zs s e)
as_place n zs t (place e) = (e, refl)
as_place n zs t (name e none) = absurd (is_absurd (starts_name 35) (name_start 35 zs e) place_no_start)

longest_digits : (xs ys cs rest : List ℕ) → list_all is_digit xs ≡ true → EndsDigits rest → xs ++ ys ≡ cs ++ rest → length xs ≤ length cs
longest_digits [] ys cs rest all ends e = omega arith
longest_digits (x ∷ xs) ys [] [] all ends e = absurd cc
longest_digits (x ∷ xs) ys [] (r ∷ rest) all ends e =
    absurd (is_absurd (is_digit r) (subst (λ v. is_digit v ≡ true) (head_same x r (xs ++ ys) rest e) (first_true (is_digit x) (list_all is_digit xs) all)) ends)
longest_digits (x ∷ xs) ys (c ∷ cs) rest all ends e =
    omega (arith, longest_digits xs ys cs rest (second_true (is_digit x) (list_all is_digit xs) all) ends (tail_same x c (xs ++ ys) (cs ++ rest) e))

ends_place : (n : ℕ) (cs rest : List ℕ) → EndsDigits rest → EndsPlace (Place (number_of cs) (written_as n (35 ∷ cs))) rest
ends_place n cs [] ends = tt
ends_place n cs (c ∷ rest) ends = ends

pub place_front : (n : ℕ) (cs rest : List ℕ) → are_digits cs ≡ true → EndsDigits rest → IsFront n (35 ∷ cs ++ rest) (Place (number_of cs) (written_as n (35 ∷ cs))) rest
place_front n cs rest are ends = record { front = 35 ∷ cs; parts = refl; spelled = place are; longest = λ m xs ys t e spelled. most m xs ys t e spelled; ends = ends_place n cs rest ends }
  where
    most : (m : ℕ) (xs ys : List ℕ) (t : Token) → xs ++ ys ≡ 35 ∷ cs ++ rest → SpellsToken m xs t → length xs ≤ length (35 ∷ cs)
    most m [] ys t e spelled = omega arith
    most m (x ∷ xs) ys t e spelled =
        let is = as_place m xs t (subst (λ v. SpellsToken m (v ∷ xs) t) (head_same x 35 (xs ++ ys) (cs ++ rest) e) spelled) in
        omega (arith, longest_digits xs ys cs rest (all_digits xs is.0) ends (tail_same x 35 (xs ++ ys) (cs ++ rest) e))

-- `#` with no digit, or with ten, begins no token
no_digit_first : (digits rest xs ys : List ℕ) → length digits < 1 → EndsDigits rest → xs ++ ys ≡ digits ++ rest → are_digits xs ≡ true → ⊥
no_digit_first [] rest xs ys few ends e are = absurd (omega (arith, some_digits xs are, longest_digits xs ys [] rest (all_digits xs are) ends e))
no_digit_first (d ∷ digits) rest xs ys few ends e are = absurd (omega (arith, few))

-- n digits of a front of digits, and one more behind them
cut_digits : (n : ℕ) (digits : List ℕ) → list_all is_digit digits ≡ true → n < length digits → (front : List ℕ) × (d : ℕ) × (more : List ℕ) × (digits ≡ front ++ d ∷ more) × (length front ≡ n) × (list_all is_digit front ≡ true) × (is_digit d ≡ true)
cut_digits n [] all lt = absurd (omega (arith, lt))
cut_digits zero (d ∷ digits) all lt = ([], d, digits, refl, refl, refl, first_true (is_digit d) (list_all is_digit digits) all)
cut_digits (suc n) (d ∷ digits) all lt =
    let c = cut_digits n digits (second_true (is_digit d) (list_all is_digit digits) all) (omega (arith, lt)) in
    (d ∷ c.0, c.1, c.2, ap (λ z. d ∷ z) c.3, omega (arith, c.4), both (is_digit d) (list_all is_digit c.0) (first_true (is_digit d) (list_all is_digit digits) all) c.5, c.6)

same_length : (xs ys front rest : List ℕ) → xs ++ ys ≡ front ++ rest → length xs ≡ length front → ys ≡ rest
same_length [] ys [] rest e len = e
same_length [] ys (f ∷ front) rest e len = absurd (omega (arith, len))
same_length (x ∷ xs) ys [] rest e len = absurd (omega (arith, len))
same_length (x ∷ xs) ys (f ∷ front) rest e len = same_length xs ys front rest (tail_same x f (xs ++ ys) (front ++ rest) e) (omega (arith, len))

nine_are : (front : List ℕ) → list_all is_digit front ≡ true → length front ≡ 9 → are_digits front ≡ true
unfolding are_digits
nine_are front all len = both (list_all is_digit front && leb 1 (length front)) (leb (length front) 9) (both (list_all is_digit front) (leb 1 (length front)) all (rw len refl)) (rw len refl)

ten_digits : (n : ℕ) (digits rest xs ys : List ℕ) (t : Token) → 9 < length digits → list_all is_digit digits ≡ true → xs ++ ys ≡ digits ++ rest → are_digits xs ≡ true → t ≡ Place (number_of xs) (written_as n (35 ∷ xs)) → IsLongest (35 ∷ digits ++ rest) (35 ∷ xs) → EndsPlace t ys → ⊥
ten_digits n digits rest xs ys t many all e are is longest ends =
    let c = cut_digits 9 digits all many in
    let text : (35 ∷ c.0) ++ (c.1 ∷ c.2 ++ rest) ≡ 35 ∷ digits ++ rest = ap (λ z. 35 ∷ z) (sym (append_assoc c.0 (c.1 ∷ c.2) rest) ∙ ap (λ z. z ++ rest) (sym c.3)) in
    let at_least : length (35 ∷ c.0) ≤ length (35 ∷ xs) = longest n (35 ∷ c.0) (c.1 ∷ c.2 ++ rest) (Place (number_of c.0) (written_as n (35 ∷ c.0))) text (place (nine_are c.0 c.5 c.4)) in
    let nine : length xs ≡ length c.0 = omega (arith, at_least, few_digits xs are, c.4) in
    let behind : ys ≡ c.1 ∷ c.2 ++ rest = same_length xs ys c.0 (c.1 ∷ c.2 ++ rest) (e ∙ ap (λ z. z ++ rest) c.3 ∙ append_assoc c.0 (c.1 ∷ c.2) rest) nine in
    let no_digit : is_digit c.1 ≡ false = subst (λ z. EndsPlace (Place (number_of xs) (written_as n (35 ∷ xs))) z) behind (subst (λ z. EndsPlace z ys) is ends) in
    is_absurd (is_digit c.1) c.6 no_digit

pub no_place_front : (text : List ℕ) → NoDigits text → NoToken (35 ∷ text)
no_place_front text d n [] ys t e spelled longest ends = spelled_some n t spelled
no_place_front text d n (x ∷ xs) ys t e spelled longest ends =
    let h : x ≡ 35 = head_same x 35 (xs ++ ys) text e in
    let is = as_place n xs t (subst (λ v. SpellsToken n (v ∷ xs) t) h spelled) in
    let parts : xs ++ ys ≡ d.digits ++ d.rest = tail_same x 35 (xs ++ ys) text e ∙ d.parts in
    let long : IsLongest (35 ∷ d.digits ++ d.rest) (35 ∷ xs) = subst (λ v. IsLongest (35 ∷ v) (35 ∷ xs)) d.parts (subst (λ v. IsLongest (35 ∷ text) (v ∷ xs)) h longest) in
    elim d.count [
      | inl few ↦ no_digit_first d.digits d.rest xs ys few (d.few few) parts is.0
      | inr many ↦ ten_digits n d.digits d.rest xs ys t many d.all parts is.0 is.1 long ends
    ]

-- a symbol of one character with which no longer one begins
pub plain_front : (c d : ℕ) (rest : List ℕ) (s : Symbol) → c ≡ d → starts_name c ≡ false → (c ≡ 35 → ⊥) → symbol_of (d ∷ []) ≡ Some s → ((z : ℕ) (zs : List ℕ) → symbol_of (d ∷ z ∷ zs) ≡ None) → (n : ℕ) → IsFront n (c ∷ rest) (Sign s) rest
plain_front c d rest s same no_name no_place is alone n = symbol_front n c [] rest s no_name no_place (ap (λ v. symbol_of (v ∷ [])) same ∙ is) none
  where
    none : NoLonger (c ∷ []) rest
    none z zs ys t parts e = let f : symbol_of (c ∷ z ∷ zs) ≡ None = ap (λ v. symbol_of (v ∷ z ∷ zs)) same ∙ alone z zs in absurd cc

-- a text that begins with a name goes on with one up to the rest
record NameParts (front : List ℕ) : Type 0 where
  c : ℕ
  cs : List ℕ
  is : front ≡ c ∷ cs
  starts : starts_name c ≡ true
  more : list_all continues_name cs ≡ true

name_parts : (text rest front : List ℕ) (c : ℕ) (cs : List ℕ) → text ≡ front ++ rest → list_all continues_name front ≡ true → text ≡ c ∷ cs → starts_name c ≡ true → EndsName rest → NameParts front
name_parts text [] [] c cs parts all e st ends = absurd cc
name_parts text (r ∷ rest) [] c cs parts all e st ends =
    absurd (is_absurd (continues_name r) (subst (λ v. continues_name v ≡ true) (head_same c r cs rest (sym e ∙ parts)) (starts_continues c st)) ends)
name_parts text rest (d ∷ ds) c cs parts all e st ends = record {
  c = d;
  cs = ds;
  is = refl;
  starts = subst (λ v. starts_name v ≡ true) (head_same c d cs (ds ++ rest) (sym e ∙ parts)) st;
  more = second_true (continues_name d) (list_all continues_name ds) all;
}

-- a name or a word by its bytes
pub word_by_bytes : (n : ℕ) (text rest bytes : List ℕ) (c : ℕ) (cs : List ℕ) (p : Passed continues_name text rest) (w : Word) → text ≡ c ∷ cs → starts_name c ≡ true → EndsName rest → bytes ≡ encode_utf8_all p.front → word_of bytes ≡ Some w → IsFront n text (Reserved w) rest
word_by_bytes n text rest bytes c cs p w e st ends is found =
    let q = name_parts text rest p.front c cs p.parts p.all e st ends in
    let whole : text ≡ (q.c ∷ q.cs) ++ rest = p.parts ∙ ap (λ z. z ++ rest) q.is in
    let spelled : word_of (q.c ∷ q.cs) ≡ Some w = ap word_of (sym q.is) ∙ sym (word_of_bytes p.front) ∙ ap word_of (sym is) ∙ found in
    subst (λ z. IsFront n z (Reserved w) rest) (sym whole) (word_front n q.c q.cs rest w q.starts ends spelled)

pub name_by_bytes : (n : ℕ) (text rest bytes : List ℕ) (c : ℕ) (cs : List ℕ) (p : Passed continues_name text rest) → text ≡ c ∷ cs → starts_name c ≡ true → EndsName rest → bytes ≡ encode_utf8_all p.front → word_of bytes ≡ None → IsFront n text (Name (record { text = bytes; token = n })) rest
name_by_bytes n text rest bytes c cs p e st ends is none =
    let q = name_parts text rest p.front c cs p.parts p.all e st ends in
    let whole : text ≡ (q.c ∷ q.cs) ++ rest = p.parts ∙ ap (λ z. z ++ rest) q.is in
    let spelled : word_of (q.c ∷ q.cs) ≡ None = ap word_of (sym q.is) ∙ sym (word_of_bytes p.front) ∙ ap word_of (sym is) ∙ none in
    let same : bytes ≡ encode_utf8_all (q.c ∷ q.cs) = is ∙ ap encode_utf8_all q.is in
    subst (λ z. IsFront n z (Name (record { text = bytes; token = n })) rest) (sym whole) (subst (λ z. IsFront n ((q.c ∷ q.cs) ++ rest) (Name (record { text = z; token = n })) rest) (sym same) (name_front n q.c q.cs rest q.starts q.more ends spelled))

-- a place by its bytes
pub place_by_bytes : (n : ℕ) (text behind rest bytes : List ℕ) (value : ℕ) (d : IsDigits behind value rest) → text ≡ 35 ∷ behind → bytes ≡ encode_utf8_all (35 ∷ d.digits) → IsFront n text (Place value (record { text = bytes; token = n })) rest
place_by_bytes n text behind rest bytes value d e is =
    let whole : text ≡ 35 ∷ d.digits ++ rest = e ∙ ap (λ z. 35 ∷ z) d.parts in
    subst (λ z. IsFront n z (Place value (record { text = bytes; token = n })) rest) (sym whole)
    (subst (λ z. IsFront n (35 ∷ d.digits ++ rest) (Place value (record { text = z; token = n })) rest) (sym is)
    (subst (λ v. IsFront n (35 ∷ d.digits ++ rest) (Place v (written_as n (35 ∷ d.digits))) rest) (sym d.is) (place_front n d.digits rest d.are d.ends)))
