-- Derivations put together and cut.
use Rattle.std.proofs.Common.{◌≡◌, List, [], ◌∷◌, ◌++◌, refl, sym, ap, ◌∙◌, subst}
use Rattle.std.proofs.lemmas.List.{append_assoc, append-nil}
use Rattle.topos_text.specs.Tokens.{Token}
use Rattle.topos_text.specs.Phrases.{Part, TypePhrase, TermPhrase, SitePhrase, StatementPhrase, token, type, term, site, statement}
use Rattle.topos_text.specs.Types.{TypeSide}
use Rattle.topos_text.specs.Terms.{TermSide}
use Rattle.topos_text.specs.SiteStatements.{SiteSide}
use Rattle.topos_text.specs.Statements.{StatementSide}
use Rattle.topos_text.specs.Documents.{Derives, nothing, this, by_type, by_term, by_site, by_statement}

-- what derives in front of what derives
pub joined : {ps qs : List Part} {xs ys : List Token} → Derives ps xs → Derives qs ys → Derives (ps ++ qs) (xs ++ ys)
joined nothing e = e
joined (this d) e = this (joined d e)
joined {qs = qs} {ys = ys} (by_type {N = N} {parts = parts} {xs = xs} {ys = zs} r d f) e =
    subst (λ z. Derives (type N ∷ parts ++ qs) z) (sym (append_assoc xs zs ys)) (by_type r d (joined f e))
joined {qs = qs} {ys = ys} (by_term {N = N} {parts = parts} {xs = xs} {ys = zs} r d f) e =
    subst (λ z. Derives (term N ∷ parts ++ qs) z) (sym (append_assoc xs zs ys)) (by_term r d (joined f e))
joined {qs = qs} {ys = ys} (by_site {N = N} {parts = parts} {xs = xs} {ys = zs} r d f) e =
    subst (λ z. Derives (site N ∷ parts ++ qs) z) (sym (append_assoc xs zs ys)) (by_site r d (joined f e))
joined {qs = qs} {ys = ys} (by_statement {N = N} {parts = parts} {xs = xs} {ys = zs} r d f) e =
    subst (λ z. Derives (statement N ∷ parts ++ qs) z) (sym (append_assoc xs zs ys)) (by_statement r d (joined f e))

-- the tokens in two pieces, of the first parts and of the others
pub record Pieces (ps qs : List Part) (toks : List Token) : Type 0 where
  pub front : List Token
  pub rest : List Token
  pub parts : toks ≡ front ++ rest
  pub first : Derives ps front
  pub others : Derives qs rest

behind_front : {ps qs : List Part} {toks : List Token} (p : Part) (xs : List Token) → ((ys : List Token) → Derives ps ys → Derives (p ∷ ps) (xs ++ ys)) → Pieces ps qs toks → Pieces (p ∷ ps) qs (xs ++ toks)
behind_front p xs with_front c = record {
  front = xs ++ c.front;
  rest = c.rest;
  parts = ap (λ z. xs ++ z) c.parts ∙ sym (append_assoc xs c.front c.rest);
  first = with_front c.front c.first;
  others = c.others;
}

pub cut : (ps : List Part) {qs : List Part} {toks : List Token} → Derives (ps ++ qs) toks → Pieces ps qs toks
cut [] {toks = toks} d = record { front = []; rest = toks; parts = refl; first = nothing; others = d }
cut (token t ∷ ps) (this d) = behind_front (token t) (t ∷ []) (λ zs e. this e) (cut ps d)
cut (type N ∷ ps) (by_type {xs = xs} r d f) = behind_front (type N) xs (λ zs e. by_type r d e) (cut ps f)
cut (term N ∷ ps) (by_term {xs = xs} r d f) = behind_front (term N) xs (λ zs e. by_term r d e) (cut ps f)
cut (site N ∷ ps) (by_site {xs = xs} r d f) = behind_front (site N) xs (λ zs e. by_site r d e) (cut ps f)
cut (statement N ∷ ps) (by_statement {xs = xs} r d f) = behind_front (statement N) xs (λ zs e. by_statement r d e) (cut ps f)

-- a phrase by one of its right sides
pub whole_type : {N : TypePhrase} {side : List Part} {xs : List Token} → TypeSide N side → Derives side xs → Derives (type N ∷ []) xs
whole_type {N = N} {xs = xs} r d = subst (λ z. Derives (type N ∷ []) z) (append-nil xs) (by_type r d nothing)

pub whole_term : {N : TermPhrase} {side : List Part} {xs : List Token} → TermSide N side → Derives side xs → Derives (term N ∷ []) xs
whole_term {N = N} {xs = xs} r d = subst (λ z. Derives (term N ∷ []) z) (append-nil xs) (by_term r d nothing)

pub whole_site : {N : SitePhrase} {side : List Part} {xs : List Token} → SiteSide N side → Derives side xs → Derives (site N ∷ []) xs
whole_site {N = N} {xs = xs} r d = subst (λ z. Derives (site N ∷ []) z) (append-nil xs) (by_site r d nothing)

pub whole_statement : {N : StatementPhrase} {side : List Part} {xs : List Token} → StatementSide N side → Derives side xs → Derives (statement N ∷ []) xs
whole_statement {N = N} {xs = xs} r d = subst (λ z. Derives (statement N ∷ []) z) (append-nil xs) (by_statement r d nothing)
