-- Worked examples: where two lists of tokens cease to be a document.
use Rattle.std.proofs.Common.{◌≡◌, Bool, true, false, List, [], ◌∷◌, ◌++◌, codes, drop, refl, ap, subst, sym, ◌∙◌}
use Rattle.topos_text.specs.declared.word.Word.TheVariants as word
use Rattle.topos_text.specs.declared.symbol.Symbol.TheVariants as symbol
use Rattle.topos_text.specs.Tokens.{Token, Name, Place, Reserved, Sign}
use Rattle.topos_text.specs.Trees as tree
use Rattle.topos_text.specs.Trees.{SiteTree, CoversTree, StatementTree, DocumentTree}
use Rattle.topos_text.specs.Phrases.{Part, site, statement, SiteStatement, Covers, Statement, commas, each}
use Rattle.topos_text.specs.SiteStatements.{objects, arrows, composite, cover_by_none, cover_by, no_cover, dense, covers}
use Rattle.topos_text.specs.Statements.{presheaf, map, construct, forked, image, empty, sheafify, sheaf, hom, build, sub, let_be, show, classify, valid, why, derive, local, local_as, category, category_functor, restricted, presheaf_on, extended}
use Rattle.topos_text.specs.Documents.{DocumentSide, Derives, nothing, this, by_site, by_statement, first_version, second_version}
use Rattle.topos_text.specs.Places.{IsSyntaxPlace}
use Rattle.topos_text.proofs.WorkedTokens.{x, one_object_tokens, unfinished_tokens, unopened_tokens}
use Rattle.topos_text.proofs.WorkedDerivations.{one_object_tree, one_object_document}

-- no token, or a reserved word first
begins_reserved : List Token → Bool
begins_reserved (Name x ∷ toks) = false
begins_reserved (Place n x ∷ toks) = false
begins_reserved (Sign s ∷ toks) = false
begins_reserved _ = true

site_begins : (s : SiteTree) (ps : List Part) (toks : List Token) → Derives (site (SiteStatement s) ∷ ps) toks → begins_reserved toks ≡ true
unfolding begins_reserved
site_begins s ps toks (by_site objects (this d) e) = refl
site_begins s ps toks (by_site arrows (this d) e) = refl
site_begins s ps toks (by_site composite (this d) e) = refl

-- no token, or a reserved word other than `object` first
begins_behind : List Token → Bool
begins_behind (Reserved word.Object ∷ toks) = false
begins_behind (Reserved w ∷ toks) = true
begins_behind [] = true
begins_behind _ = false

behind_is_reserved : (toks : List Token) → begins_behind toks ≡ true → begins_reserved toks ≡ true
unfolding begins_behind begins_reserved
behind_is_reserved [] h = refl
behind_is_reserved (Reserved w ∷ toks) h = refl
behind_is_reserved (Name x ∷ toks) h = h
behind_is_reserved (Place n x ∷ toks) h = h
behind_is_reserved (Sign s ∷ toks) h = h

statement_begins : (s : StatementTree) (ps : List Part) (toks : List Token) → Derives (statement (Statement 1 s) ∷ ps) toks → begins_behind toks ≡ true
unfolding begins_behind
statement_begins s ps toks (by_statement presheaf (this d) e) = refl
statement_begins s ps toks (by_statement map (this d) e) = refl
statement_begins s ps toks (by_statement (construct {of = tree.ProductOf}) (this d) e) = refl
statement_begins s ps toks (by_statement (construct {of = tree.CoproductOf}) (this d) e) = refl
statement_begins s ps toks (by_statement (construct {of = tree.PullbackOf}) (this d) e) = refl
statement_begins s ps toks (by_statement (construct {of = tree.PushoutOf}) (this d) e) = refl
statement_begins s ps toks (by_statement (forked {of = tree.EqualizerOf}) (this d) e) = refl
statement_begins s ps toks (by_statement (forked {of = tree.CoequalizerOf}) (this d) e) = refl
statement_begins s ps toks (by_statement image (this d) e) = refl
statement_begins s ps toks (by_statement empty (this d) e) = refl
statement_begins s ps toks (by_statement sheafify (this d) e) = refl
statement_begins s ps toks (by_statement sheaf (this d) e) = refl
statement_begins s ps toks (by_statement hom (this d) e) = refl
statement_begins s ps toks (by_statement build (this d) e) = refl
statement_begins s ps toks (by_statement sub (this d) e) = refl
statement_begins s ps toks (by_statement let_be (this d) e) = refl
statement_begins s ps toks (by_statement show (this d) e) = refl
statement_begins s ps toks (by_statement classify (this d) e) = refl
statement_begins s ps toks (by_statement valid (this d) e) = refl
statement_begins s ps toks (by_statement why (this d) e) = refl
statement_begins s ps toks (by_statement derive (this d) e) = refl
statement_begins s ps toks (by_statement local (this d) e) = refl
statement_begins s ps toks (by_statement local_as (this d) e) = refl
statement_begins s ps toks (by_statement category (this d) e) = refl
statement_begins s ps toks (by_statement category_functor (this d) e) = refl
statement_begins s ps toks (by_statement restricted (this d) e) = refl
statement_begins s ps toks (by_statement presheaf_on (this d) e) = refl
statement_begins s ps toks (by_statement (extended {of = tree.Lan}) (this d) e) = refl
statement_begins s ps toks (by_statement (extended {of = tree.Ran}) (this d) e) = refl

statements_begin : (rest : List StatementTree) (toks : List Token) → Derives (each (λ x. statement (Statement 1 x)) rest) toks → begins_behind toks ≡ true
unfolding each begins_behind
statements_begin [] toks nothing = refl
statements_begin (s ∷ rest) toks d = statement_begins s _ toks d

covers_begin : (c : CoversTree) (rest : List StatementTree) (toks : List Token) → Derives (site (Covers c) ∷ each (λ x. statement (Statement 1 x)) rest) toks → begins_behind toks ≡ true
unfolding each begins_behind
covers_begin c rest toks (by_site no_cover nothing e) = statements_begin rest toks e
covers_begin c rest toks (by_site dense (this d) e) = refl
covers_begin c rest toks (by_site covers (by_site cover_by_none (this d) f) e) = refl
covers_begin c rest toks (by_site covers (by_site cover_by (this d) f) e) = refl

site_begins_all : (ss : List SiteTree) (c : CoversTree) (rest : List StatementTree) (toks : List Token)
    → Derives (each (λ x. site (SiteStatement x)) ss ++ site (Covers c) ∷ each (λ x. statement (Statement 1 x)) rest) toks → begins_reserved toks ≡ true
unfolding each
site_begins_all [] c rest toks d = behind_is_reserved toks (covers_begin c rest toks d)
site_begins_all (s ∷ ss) c rest toks d = site_begins s _ toks d

-- the first three tokens of one object
abbrev object_U : List Token → List Token
object_U toks = Reserved word.Object ∷ Name (x (codes "U") 2) ∷ Sign symbol.Semicolon ∷ toks

third_is_comma : List Token → Bool
third_is_comma (s ∷ t ∷ Sign symbol.Comma ∷ toks) = true
third_is_comma _ = false

two_alone : List Token → Bool
two_alone (s ∷ t ∷ []) = true
two_alone _ = false

-- behind one object stands what begins with a reserved word
behind_object : (ss : List SiteTree) (c : CoversTree) (rest : List StatementTree) (toks more : List Token)
    → Derives (each (λ x. site (SiteStatement x)) ss ++ site (Covers c) ∷ each (λ x. statement (Statement 1 x)) rest) toks → toks ≡ object_U more → begins_reserved more ≡ true
unfolding each commas begins_behind begins_reserved third_is_comma
behind_object [] c rest toks more d is = let bad : begins_behind (object_U more) ≡ true = subst (λ z. begins_behind z ≡ true) is (covers_begin c rest toks d) in absurd cc
behind_object (s ∷ ss) c rest toks more (by_site (objects {xs = []}) (this (this nothing)) (this e)) is = subst (λ z. begins_reserved z ≡ true) (ap (λ z. drop 3 z) is) (site_begins_all ss c rest _ e)
behind_object (s ∷ ss) c rest toks more (by_site (objects {xs = y ∷ ys}) (this (this (this d))) (this e)) is = let bad : true ≡ false = ap third_is_comma is in absurd cc
behind_object (s ∷ ss) c rest toks more (by_site arrows (this d) e) is = let bad : true ≡ false = ap begins_behind is in absurd cc
behind_object (s ∷ ss) c rest toks more (by_site composite (this d) e) is = let bad : true ≡ false = ap begins_behind is in absurd cc

-- a second token is there, and then more
behind_name : (ss : List SiteTree) (c : CoversTree) (rest : List StatementTree) (toks more : List Token)
    → Derives (each (λ x. site (SiteStatement x)) ss ++ site (Covers c) ∷ each (λ x. statement (Statement 1 x)) rest) toks
    → toks ≡ Reserved word.Object ∷ Name (x (codes "U") 2) ∷ more → more ≡ [] → ⊥
unfolding each commas begins_behind two_alone
behind_name [] c rest toks more d is none = let bad : begins_behind (Reserved word.Object ∷ Name (x (codes "U") 2) ∷ more) ≡ true = subst (λ z. begins_behind z ≡ true) is (covers_begin c rest toks d) in absurd cc
behind_name (s ∷ ss) c rest toks more (by_site (objects {xs = []}) (this (this nothing)) (this e)) is none = let bad : false ≡ true = ap two_alone (is ∙ ap (λ z. Reserved word.Object ∷ Name (x (codes "U") 2) ∷ z) none) in absurd cc
behind_name (s ∷ ss) c rest toks more (by_site (objects {xs = y ∷ ys}) (this (this (this d))) (this e)) is none = let bad : false ≡ true = ap two_alone (is ∙ ap (λ z. Reserved word.Object ∷ Name (x (codes "U") 2) ∷ z) none) in absurd cc
behind_name (s ∷ ss) c rest toks more (by_site arrows (this d) e) is none = let bad : true ≡ false = ap begins_behind is in absurd cc
behind_name (s ∷ ss) c rest toks more (by_site composite (this d) e) is none = let bad : true ≡ false = ap begins_behind is in absurd cc

by_side : (toks more : List Token) (t : DocumentTree) (side : List Part) → DocumentSide t side → Derives side toks → toks ≡ object_U more → begins_reserved more ≡ true
unfolding begins_behind
by_side toks more t side first_version e is = behind_object _ _ _ toks more e is
by_side toks more t side second_version (this e) is = let bad : true ≡ false = ap begins_behind is in absurd cc

no_name_alone : (toks : List Token) (t : DocumentTree) (side : List Part) → DocumentSide t side → Derives side toks → toks ≡ unfinished_tokens → ⊥
unfolding begins_behind
no_name_alone toks t side first_version e is = behind_name _ _ _ toks [] e is refl
no_name_alone toks t side second_version (this e) is = let bad : true ≡ false = ap begins_behind is in absurd cc

token_head : (s t : Token) (xs ys : List Token) → s ∷ xs ≡ t ∷ ys → s ≡ t
token_head s t xs ys e = cc

-- the tokens end too early: a third one is missing
pub unfinished_place : IsSyntaxPlace unfinished_tokens 3
unfinished_place = record {
  front = unfinished_tokens;
  rest = [];
  parts = refl;
  number = refl;
  begins = record { more = Sign symbol.Semicolon ∷ []; tree = one_object_tree; is_document = one_object_document };
  first = λ t behind e. absurd cc;
  none = λ t d. no_name_alone unfinished_tokens t d.side d.right_side d.derives refl;
}

-- the fourth token is the first such that no document begins with the tokens up to it
pub unopened_place : IsSyntaxPlace unopened_tokens 4
unfolding begins_reserved
unopened_place = record {
  front = one_object_tokens;
  rest = Sign symbol.CloseParenthesis ∷ [];
  parts = refl;
  number = refl;
  begins = record { more = []; tree = one_object_tree; is_document = one_object_document };
  first = λ t behind e b.
      let h : begins_reserved (t ∷ b.more) ≡ true = by_side _ (t ∷ b.more) b.tree b.is_document.side b.is_document.right_side b.is_document.derives refl in
      let bad : false ≡ true = subst (λ z. begins_reserved (z ∷ b.more) ≡ true) (sym (token_head (Sign symbol.CloseParenthesis) t [] behind e)) h in absurd cc;
  none = λ t d. let bad : false ≡ true = by_side unopened_tokens (Sign symbol.CloseParenthesis ∷ []) t d.side d.right_side d.derives refl in absurd cc;
}
