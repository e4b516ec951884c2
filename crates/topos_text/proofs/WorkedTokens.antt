-- Worked examples, by computation: the tokens of short texts.
use Rattle.std.proofs.Common.{◌≡◌, ℕ, false, List, [], ◌∷◌, ◌++◌, codes, refl, length, drop, leb, ◌&&◌, sym, ap, ◌∙◌, ◌≤◌, true, subst, arith}
use Rattle.std.specs.List.{list_all}
use Rattle.std.proofs.Math.Seq.{drop-append_seam}
use Rattle.std.proofs.lemmas.Bool.{leb-true}
use Rattle.std.specs.Str.{chars}
use Rattle.std.specs.Char.{encode_utf8}
use Rattle.unicode_ident.proofs.Computing.{unicode_ident}
use Rattle.topos_text.specs.declared.word.Word.TheVariants as word
use Rattle.topos_text.specs.declared.symbol.Symbol.TheVariants as symbol
use Rattle.topos_text.specs.Spelling.{word_of, symbol_of, is_name, is_digit, are_digits, number_of}
use Rattle.topos_text.specs.Tokens.{Token, Written, Name, Place, Reserved, Sign}
use Rattle.topos_text.specs.Lexing.{SpellsToken, word, symbol, place, name, stop, space, comment, token, is_space, IsLongest, EndsPlace, written_as, Lex, BeginsNothing, IsBadToken}
use Rattle.topos_text.proofs.LongestTokens.{may_be_token, none_longer, longest_if, no_token_if, both_true}

-- a name or a place, and the number of its token
abbrev pub x : List ℕ → ℕ → Written
x text n = record { text = text; token = n }

opened : Unit {0}
unfolding unicode_ident chars encode_utf8 word_of symbol_of is_name are_digits number_of may_be_token none_longer
opened = tt

-- one object and a comment
abbrev pub one_object : List ℕ
one_object = codes "object U; // one"

abbrev pub one_object_tokens : List Token
one_object_tokens = Reserved word.Object ∷ Name (x (codes "U") 2) ∷ Sign symbol.Semicolon ∷ []

pub one_object_lex : Lex one_object one_object_tokens
unfolding opened
one_object_lex = ((one_object, (refl, refl)), token {xs = codes "object"} {ys = codes " U; // one"} (word refl) (longest_if (codes "object") (codes " U; // one") refl) tt (space refl (token {xs = codes "U"} {ys = codes "; // one"} (name refl refl) (longest_if (codes "U") (codes "; // one") refl) tt (token {xs = codes ";"} {ys = codes " // one"} (symbol refl) (longest_if (codes ";") (codes " // one") refl) tt (space refl (comment (codes " one") refl tt (stop)))))))

-- an object that is declared twice
abbrev pub twice : List ℕ
twice = codes "object U, U;"

abbrev pub twice_tokens : List Token
twice_tokens = Reserved word.Object ∷ Name (x (codes "U") 2) ∷ Sign symbol.Comma ∷ Name (x (codes "U") 4) ∷ Sign symbol.Semicolon ∷ []

pub twice_lex : Lex twice twice_tokens
unfolding opened
twice_lex = ((twice, (refl, refl)), token {xs = codes "object"} {ys = codes " U, U;"} (word refl) (longest_if (codes "object") (codes " U, U;") refl) tt (space refl (token {xs = codes "U"} {ys = codes ", U;"} (name refl refl) (longest_if (codes "U") (codes ", U;") refl) tt (token {xs = codes ","} {ys = codes " U;"} (symbol refl) (longest_if (codes ",") (codes " U;") refl) tt (space refl (token {xs = codes "U"} {ys = codes ";"} (name refl refl) (longest_if (codes "U") (codes ";") refl) tt (token {xs = codes ";"} {ys = []} (symbol refl) (longest_if (codes ";") ([]) refl) tt (stop))))))))

-- an arrow between objects that are not there
abbrev pub unknown : List ℕ
unknown = codes "arrow f : A -> B;"

abbrev pub unknown_tokens : List Token
unknown_tokens = Reserved word.Arrow ∷ Name (x (codes "f") 2) ∷ Sign symbol.Colon ∷ Name (x (codes "A") 4) ∷ Sign symbol.Arrow ∷ Name (x (codes "B") 6) ∷ Sign symbol.Semicolon ∷ []

pub unknown_lex : Lex unknown unknown_tokens
unfolding opened
unknown_lex = ((unknown, (refl, refl)), token {xs = codes "arrow"} {ys = codes " f : A -> B;"} (word refl) (longest_if (codes "arrow") (codes " f : A -> B;") refl) tt (space refl (token {xs = codes "f"} {ys = codes " : A -> B;"} (name refl refl) (longest_if (codes "f") (codes " : A -> B;") refl) tt (space refl (token {xs = codes ":"} {ys = codes " A -> B;"} (symbol refl) (longest_if (codes ":") (codes " A -> B;") refl) tt (space refl (token {xs = codes "A"} {ys = codes " -> B;"} (name refl refl) (longest_if (codes "A") (codes " -> B;") refl) tt (space refl (token {xs = codes "->"} {ys = codes " B;"} (symbol refl) (longest_if (codes "->") (codes " B;") refl) tt (space refl (token {xs = codes "B"} {ys = codes ";"} (name refl refl) (longest_if (codes "B") (codes ";") refl) tt (token {xs = codes ";"} {ys = []} (symbol refl) (longest_if (codes ";") ([]) refl) tt (stop)))))))))))))

-- a document of the second version
abbrev pub two_topologies : List ℕ
two_topologies = codes "version #2; object U; topology J = dense; valid under J | true;"

abbrev pub two_topologies_tokens : List Token
two_topologies_tokens = Reserved word.Version ∷ Place 2 (x (codes "#2") 2) ∷ Sign symbol.Semicolon ∷ Reserved word.Object ∷ Name (x (codes "U") 5) ∷ Sign symbol.Semicolon ∷ Reserved word.Topology ∷ Name (x (codes "J") 8) ∷ Sign symbol.Equals ∷ Reserved word.Dense ∷ Sign symbol.Semicolon ∷ Reserved word.Valid ∷ Reserved word.Under ∷ Name (x (codes "J") 14) ∷ Sign symbol.Bar ∷ Reserved word.True ∷ Sign symbol.Semicolon ∷ []

pub two_topologies_lex : Lex two_topologies two_topologies_tokens
unfolding opened
two_topologies_lex = ((two_topologies, (refl, refl)), token {xs = codes "version"} {ys = codes " #2; object U; topology J = dense; valid under J | true;"} (word refl) (longest_if (codes "version") (codes " #2; object U; topology J = dense; valid under J | true;") refl) tt (space refl (token {xs = codes "#2"} {ys = codes "; object U; topology J = dense; valid under J | true;"} (place {cs = codes "2"} refl) (longest_if (codes "#2") (codes "; object U; topology J = dense; valid under J | true;") refl) refl (token {xs = codes ";"} {ys = codes " object U; topology J = dense; valid under J | true;"} (symbol refl) (longest_if (codes ";") (codes " object U; topology J = dense; valid under J | true;") refl) tt (space refl (token {xs = codes "object"} {ys = codes " U; topology J = dense; valid under J | true;"} (word refl) (longest_if (codes "object") (codes " U; topology J = dense; valid under J | true;") refl) tt (space refl (token {xs = codes "U"} {ys = codes "; topology J = dense; valid under J | true;"} (name refl refl) (longest_if (codes "U") (codes "; topology J = dense; valid under J | true;") refl) tt (token {xs = codes ";"} {ys = codes " topology J = dense; valid under J | true;"} (symbol refl) (longest_if (codes ";") (codes " topology J = dense; valid under J | true;") refl) tt (space refl (token {xs = codes "topology"} {ys = codes " J = dense; valid under J | true;"} (word refl) (longest_if (codes "topology") (codes " J = dense; valid under J | true;") refl) tt (space refl (token {xs = codes "J"} {ys = codes " = dense; valid under J | true;"} (name refl refl) (longest_if (codes "J") (codes " = dense; valid under J | true;") refl) tt (space refl (token {xs = codes "="} {ys = codes " dense; valid under J | true;"} (symbol refl) (longest_if (codes "=") (codes " dense; valid under J | true;") refl) tt (space refl (token {xs = codes "dense"} {ys = codes "; valid under J | true;"} (word refl) (longest_if (codes "dense") (codes "; valid under J | true;") refl) tt (token {xs = codes ";"} {ys = codes " valid under J | true;"} (symbol refl) (longest_if (codes ";") (codes " valid under J | true;") refl) tt (space refl (token {xs = codes "valid"} {ys = codes " under J | true;"} (word refl) (longest_if (codes "valid") (codes " under J | true;") refl) tt (space refl (token {xs = codes "under"} {ys = codes " J | true;"} (word refl) (longest_if (codes "under") (codes " J | true;") refl) tt (space refl (token {xs = codes "J"} {ys = codes " | true;"} (name refl refl) (longest_if (codes "J") (codes " | true;") refl) tt (space refl (token {xs = codes "|"} {ys = codes " true;"} (symbol refl) (longest_if (codes "|") (codes " true;") refl) tt (space refl (token {xs = codes "true"} {ys = codes ";"} (word refl) (longest_if (codes "true") (codes ";") refl) tt (token {xs = codes ";"} {ys = []} (symbol refl) (longest_if (codes ";") ([]) refl) tt (stop))))))))))))))))))))))))))))))

-- a statement without its end
abbrev pub unfinished : List ℕ
unfinished = codes "object U"

abbrev pub unfinished_tokens : List Token
unfinished_tokens = Reserved word.Object ∷ Name (x (codes "U") 2) ∷ []

pub unfinished_lex : Lex unfinished unfinished_tokens
unfolding opened
unfinished_lex = ((unfinished, (refl, refl)), token {xs = codes "object"} {ys = codes " U"} (word refl) (longest_if (codes "object") (codes " U") refl) tt (space refl (token {xs = codes "U"} {ys = []} (name refl refl) (longest_if (codes "U") ([]) refl) tt (stop))))

-- a parenthesis behind a statement
abbrev pub unopened : List ℕ
unopened = codes "object U; )"

abbrev pub unopened_tokens : List Token
unopened_tokens = Reserved word.Object ∷ Name (x (codes "U") 2) ∷ Sign symbol.Semicolon ∷ Sign symbol.CloseParenthesis ∷ []

pub unopened_lex : Lex unopened unopened_tokens
unfolding opened
unopened_lex = ((unopened, (refl, refl)), token {xs = codes "object"} {ys = codes " U; )"} (word refl) (longest_if (codes "object") (codes " U; )") refl) tt (space refl (token {xs = codes "U"} {ys = codes "; )"} (name refl refl) (longest_if (codes "U") (codes "; )") refl) tt (token {xs = codes ";"} {ys = codes " )"} (symbol refl) (longest_if (codes ";") (codes " )") refl) tt (space refl (token {xs = codes ")"} {ys = []} (symbol refl) (longest_if (codes ")") ([]) refl) tt (stop)))))))

-- a character that begins no token, at byte 10
abbrev pub dollar : List ℕ
dollar = codes "object U; $"

abbrev pub dollar_tokens : List Token
dollar_tokens = Reserved word.Object ∷ Name (x (codes "U") 2) ∷ Sign symbol.Semicolon ∷ []

head_same : (a b : ℕ) (xs ys : List ℕ) → a ∷ xs ≡ b ∷ ys → a ≡ b
head_same a b xs ys e = cc

no_token_at_dollar : BeginsNothing (codes "$")
unfolding opened
no_token_at_dollar = record {
  more = λ e. absurd cc;
  no_token = λ n xs ys t is spelled longest ends. no_token_if (codes "$") refl refl n xs ys t is spelled;
  no_space = λ c cs e. subst (λ d. is_space d ≡ false) (head_same 36 c [] cs e) refl;
  no_comment = λ cs e. absurd (omega (arith, head_same 36 47 [] (47 ∷ cs) e));
}

pub dollar_is_bad : IsBadToken dollar 10
unfolding opened
dollar_is_bad = record {
  tokens = dollar_tokens;
  front = codes "object U; ";
  rest = codes "$";
  parts = refl;
  place = refl;
  before = token {xs = codes "object"} {ys = codes " U; $"} (word refl) (longest_if (codes "object") (codes " U; $") refl) tt (space refl (token {xs = codes "U"} {ys = codes "; $"} (name refl refl) (longest_if (codes "U") (codes "; $") refl) tt (token {xs = codes ";"} {ys = codes " $"} (symbol refl) (longest_if (codes ";") (codes " $") refl) tt (space refl (stop)))));
  bad = no_token_at_dollar;
}

-- `#` and ten digits are no token: not their first nine either
abbrev ten_digits : List ℕ
ten_digits = codes "#1234567890"

few_digits : (cs : List ℕ) → are_digits cs ≡ true → length cs ≤ 9
unfolding are_digits
few_digits cs e = leb-true (length cs) 9 (both_true (list_all is_digit cs && leb 1 (length cs)) (leb (length cs) 9) e).1

no_place : (n : ℕ) (cs ys : List ℕ) (t : Token) → SpellsToken n (35 ∷ cs) t → (35 ∷ cs) ++ ys ≡ ten_digits → IsLongest ten_digits (35 ∷ cs) → EndsPlace t ys → ⊥
unfolding opened
no_place n cs ys t (word e) is longest ends = absurd cc
no_place n cs ys t (symbol e) is longest ends = absurd cc
no_place n cs ys t (name e none) is longest ends = absurd cc
no_place n cs ys t (place e) is longest ends = no_digit_behind ys behind ends
  where
    all_nine : 10 ≤ length (35 ∷ cs)
    all_nine = longest 0 (codes "#123456789") (codes "0") _ refl (place refl)

    at_most_nine : length cs ≤ 9
    at_most_nine = few_digits cs e

    ten : length (35 ∷ cs) ≡ 10
    ten = omega (arith, all_nine, at_most_nine)

    behind : ys ≡ codes "0"
    behind = sym (drop-append_seam (35 ∷ cs) ys) ∙ ap (λ z. drop (length (35 ∷ cs)) z) is ∙ ap (λ k. drop k ten_digits) ten

    no_digit_behind : (zs : List ℕ) → zs ≡ codes "0" → EndsPlace (Place (number_of cs) (written_as n (35 ∷ cs))) zs → ⊥
    no_digit_behind [] e h = absurd cc
    no_digit_behind (c ∷ zs) e h = let digit : true ≡ false = subst (λ d. is_digit d ≡ false) (head_same c 48 zs [] e) h in absurd cc

ten_digits_begin_nothing : (n : ℕ) (xs ys : List ℕ) (t : Token) → xs ++ ys ≡ ten_digits → SpellsToken n xs t → IsLongest ten_digits xs → EndsPlace t ys → ⊥
unfolding opened
ten_digits_begin_nothing n [] ys t is (word e) longest ends = absurd cc
ten_digits_begin_nothing n [] ys t is (symbol e) longest ends = absurd cc
ten_digits_begin_nothing n [] ys t is (name e none) longest ends = absurd cc
ten_digits_begin_nothing n (c ∷ cs) ys t is spelled longest ends =
    let h : c ≡ 35 = head_same c 35 (cs ++ ys) (codes "1234567890") is in
    no_place n cs ys t (subst (λ d. SpellsToken n (d ∷ cs) t) h spelled) (subst (λ d. d ∷ cs ++ ys ≡ ten_digits) h is) (subst (λ d. IsLongest ten_digits (d ∷ cs)) h longest) ends
