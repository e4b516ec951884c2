-- Each front of what derives is one by the grammar.
use Rattle.std.proofs.Common.{◌≡◌, ◌⊎◌, inl, inr, List, [], ◌∷◌, ◌++◌, refl, sym, ap, ◌∙◌, subst}
use Rattle.topos_text.specs.Tokens.{Token}
use Rattle.topos_text.specs.Phrases.{Part, token, type, term, site, statement}
use Rattle.topos_text.specs.Documents.{Derives, nothing, this, by_type, by_term, by_site, by_statement}
use Rattle.topos_text.specs.Places.{Begins, Prefix, empty, behind_token, in_type, in_term, in_site, in_statement, behind_phrase, IsPrefix}
use Rattle.topos_text.proofs.DerivationParts.{whole_type, whole_term, whole_site, whole_statement}

-- xs ends within the first piece, or behind it
abbrev Ends : List Token → List Token → List Token → List Token → Type 0
Ends front rest xs ys = ((zs : List Token) × (front ≡ xs ++ zs)) ⊎ ((zs : List Token) × (xs ≡ front ++ zs) × (rest ≡ zs ++ ys))

tails : (s t : Token) (xs ys : List Token) → s ∷ xs ≡ t ∷ ys → (s ≡ t) × (xs ≡ ys)
tails s t xs ys e = (cc, cc)

ends : (front rest xs ys : List Token) → front ++ rest ≡ xs ++ ys → Ends front rest xs ys
ends [] rest xs ys e = inr (xs, refl, e)
ends (t ∷ front) rest [] ys e = inl (t ∷ front, refl)
ends (t ∷ front) rest (x ∷ xs) ys e = more (ends front rest xs ys (tails t x (front ++ rest) (xs ++ ys) e).1)
  where
    same : t ≡ x
    same = (tails t x (front ++ rest) (xs ++ ys) e).0

    more : Ends front rest xs ys → Ends (t ∷ front) rest (x ∷ xs) ys
    more (inl (zs, is)) = inl (zs, ap (λ z. t ∷ z) is ∙ ap (λ z. z ∷ xs ++ zs) same)
    more (inr (zs, is, rest_is)) = inr (zs, ap (λ z. x ∷ z) is ∙ ap (λ z. z ∷ front ++ zs) (sym same), rest_is)

fronts : {ps : List Part} {zs : List Token} → Derives ps zs → (xs ys : List Token) → zs ≡ xs ++ ys → Prefix ps xs
fronts d [] ys is = empty
fronts nothing (x ∷ xs) ys is = absurd cc
fronts (this {t = t} {parts = parts} {toks = toks} d) (x ∷ xs) ys is =
    let e : (t ≡ x) × (toks ≡ xs ++ ys) = tails t x toks (xs ++ ys) is in subst (λ z. Prefix (token t ∷ parts) (z ∷ xs)) e.0 (behind_token (fronts d xs ys e.1))
fronts (by_type {N = N} {parts = parts} {xs = front} {ys = rest} r d f) (x ∷ xs) ys is = elim (ends front rest (x ∷ xs) ys is) [
  | inl (zs, e) ↦ in_type r (fronts d (x ∷ xs) zs e)
  | inr (zs, e, g) ↦ subst (λ z. Prefix (type N ∷ parts) z) (sym e) (behind_phrase (whole_type r d) (fronts f zs ys g))
]
fronts (by_term {N = N} {parts = parts} {xs = front} {ys = rest} r d f) (x ∷ xs) ys is = elim (ends front rest (x ∷ xs) ys is) [
  | inl (zs, e) ↦ in_term r (fronts d (x ∷ xs) zs e)
  | inr (zs, e, g) ↦ subst (λ z. Prefix (term N ∷ parts) z) (sym e) (behind_phrase (whole_term r d) (fronts f zs ys g))
]
fronts (by_site {N = N} {parts = parts} {xs = front} {ys = rest} r d f) (x ∷ xs) ys is = elim (ends front rest (x ∷ xs) ys is) [
  | inl (zs, e) ↦ in_site r (fronts d (x ∷ xs) zs e)
  | inr (zs, e, g) ↦ subst (λ z. Prefix (site N ∷ parts) z) (sym e) (behind_phrase (whole_site r d) (fronts f zs ys g))
]
fronts (by_statement {N = N} {parts = parts} {xs = front} {ys = rest} r d f) (x ∷ xs) ys is = elim (ends front rest (x ∷ xs) ys is) [
  | inl (zs, e) ↦ in_statement r (fronts d (x ∷ xs) zs e)
  | inr (zs, e, g) ↦ subst (λ z. Prefix (statement N ∷ parts) z) (sym e) (behind_phrase (whole_statement r d) (fronts f zs ys g))
]

pub begun_is_prefix : (toks : List Token) → Begins toks → IsPrefix toks
begun_is_prefix toks b = record { tree = b.tree; side = b.is_document.side; right_side = b.is_document.right_side; prefix = fronts b.is_document.derives toks b.more refl }
