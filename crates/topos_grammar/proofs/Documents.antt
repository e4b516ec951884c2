-- Reading against documents.
use Rattle.std.proofs.Common.{◌≡◌, ◌⊎◌, ◌+◌, ℕ, inl, inr, true, false, List, [], ◌∷◌, ◌++◌, length, refl, sym, ap, subst, ◌∙◌, arith, append_assoc, length-append}
use Rattle.std.proofs.lemmas.List.{append-nil}
use Rattle.topos_text.specs.declared.word.Word.TheVariants as word
use Rattle.topos_text.specs.declared.symbol.Symbol.TheVariants as symbol
use Rattle.topos_text.specs.Tokens.{Token, Written, Reserved}
use Rattle.topos_text.specs.Trees.{SiteTree, CoversTree, TopologyTree, StatementTree, DocumentTree}
use Rattle.topos_text.specs.Trees as tree
use Rattle.topos_text.specs.Phrases.{Part, site, each}
use Rattle.topos_text.specs.Phrases as phrase
use Rattle.topos_text.specs.Documents.{DocumentSide, first_version, second_version, IsDocument}
use Rattle.topos_text.specs.Places.{Begins, IsSyntaxPlace}
use Rattle.topos_grammar.specs.Kinds.{OfDocument, Tree, Sort, Kind, SiteStatement, Covers, Topology, Statement, First, Second, part}
use Rattle.topos_grammar.specs.Codes.{Class, Any, Is, the, site_words, Code, give, call, document, sites, statements}
use Rattle.topos_grammar.specs.Codes as codes
use Rattle.topos_grammar.specs.Reading.{Read, Whole, Stops, Reading, Reads}
use Rattle.topos_grammar.proofs.Accepting.{Accepts, size}
use Rattle.topos_grammar.proofs.ItemLists.{each_side, each_accepts}
use Rattle.topos_grammar.proofs.Meaning.{meaning}
use Rattle.topos_grammar.proofs.Fronts.{begins_statement}
use Rattle.topos_grammar.proofs.Completeness.{Fits, complete_all}
use Rattle.topos_grammar.proofs.Uniqueness.{unique, again, whole_not_stop}
use Rattle.topos_grammar.proofs.Bodies.{Post, held}

-- ---- right sides

by_each : {u : Sort} (C : Class) (K : Kind u) (k : List (Tree u) → Code OfDocument) (t : DocumentTree) (side : List Part) (P : List Part → Type 0) → Accepts (codes.each C K k) t side → ((vs : List (Tree u)) (rest : List Part) → Accepts (k vs) t rest → P (each (part K) vs ++ rest)) → P side
by_each C K k t side P a step = let b = each_side C K k t side a in subst P (sym b.2) (step b.0 b.1 b.3)

abbrev first_end : List SiteTree → CoversTree → Code OfDocument
first_end ss c = statements First (λ rest. give (tree.FirstVersion ss c rest))

abbrev second_end : List SiteTree → List TopologyTree → Code OfDocument
second_end ss ts = statements Second (λ rest. give (tree.SecondVersion ss ts rest))

abbrev first_parts : List SiteTree → CoversTree → List Part → List Part
first_parts ss c end = each (λ x. site (phrase.SiteStatement x)) ss ++ site (phrase.Covers c) ∷ end

abbrev second_parts : Written → List SiteTree → List TopologyTree → List Part → List Part
second_parts x ss ts end = phrase.the word.Version ∷ phrase.place 2 x ∷ phrase.sign symbol.Semicolon ∷ each (λ y. site (phrase.SiteStatement y)) ss ++ (each (λ y. site (phrase.Topology y)) ts ++ end)

document_side : (t : DocumentTree) (side : List Part) → Accepts document t side → DocumentSide t side
unfolding document
document_side t side (inl (r1, e1, (x, r2, e2, (r3, e3, a)))) = rw (e1, e2, e3) (by_each site_words SiteStatement (λ ss. codes.each (the word.Topology) Topology (λ ts. second_end ss ts)) t r3 (λ z. DocumentSide t (phrase.the word.Version ∷ phrase.place 2 x ∷ phrase.sign symbol.Semicolon ∷ z)) a
    (λ ss r4 b. by_each (the word.Topology) Topology (second_end ss) t r4 (λ z. DocumentSide t (phrase.the word.Version ∷ phrase.place 2 x ∷ phrase.sign symbol.Semicolon ∷ each (part SiteStatement) ss ++ z)) b
    (λ ts r5 c. by_each Any (Statement Second) (λ rest. give (tree.SecondVersion ss ts rest)) t r5 (λ z. DocumentSide t (second_parts x ss ts z)) c
    (λ rest r6 d. rw (d.1, d.0) (subst (λ z. DocumentSide (tree.SecondVersion ss ts rest) (second_parts x ss ts z)) (sym (append-nil (each (part (Statement Second)) rest))) second_version)))))
document_side t side (inr a) = by_each site_words SiteStatement (λ ss. call Covers (λ c. first_end ss c)) t side (DocumentSide t) a (λ ss r1 b. covered ss b.0 r1 b.1 b.2 b.3)
  where
    covered : (ss : List SiteTree) (c : CoversTree) (r1 r2 : List Part) → r1 ≡ site (phrase.Covers c) ∷ r2 → Accepts (first_end ss c) t r2 → DocumentSide t (each (part SiteStatement) ss ++ r1)
    covered ss c r1 r2 e a = rw e (by_each Any (Statement First) (λ rest. give (tree.FirstVersion ss c rest)) t r2 (λ z. DocumentSide t (first_parts ss c z)) a
        (λ rest r3 d. rw (d.1, d.0) (subst (λ z. DocumentSide (tree.FirstVersion ss c rest) (first_parts ss c z)) (sym (append-nil (each (part (Statement First)) rest))) first_version)))

document_accepts : (t : DocumentTree) (side : List Part) → DocumentSide t side → Accepts document t side
unfolding document
document_accepts t side (first_version {statements = ss} {covers = c} {rest = rest}) = inr (each_accepts {s = OfDocument} site_words SiteStatement (λ xs. call Covers (λ d. first_end xs d)) t ss (site (phrase.Covers c) ∷ each (part (Statement First)) rest) (
  c,
  _,
  refl,
  subst (λ z. Accepts (first_end ss c) t z) (append-nil (each (part (Statement First)) rest)) (each_accepts {s = OfDocument} Any (Statement First) (λ xs. give (tree.FirstVersion ss c xs)) t rest [] (refl, refl)),
))
document_accepts t side (second_version {version = x} {statements = ss} {tops = ts} {rest = rest}) = inl (
  _,
  refl,
  (
    x,
    _,
    refl,
    (
      _,
      refl,
      each_accepts {s = OfDocument} site_words SiteStatement (λ xs. codes.each (the word.Topology) Topology (λ ys. second_end xs ys)) t ss (each (part Topology) ts ++ each (part (Statement Second)) rest)
          (each_accepts {s = OfDocument} (the word.Topology) Topology (second_end ss) t ts (each (part (Statement Second)) rest) (subst (λ z. Accepts (second_end ss ts) t z) (append-nil (each (part (Statement Second)) rest)) (each_accepts {s = OfDocument} Any (Statement Second) (λ xs. give (tree.SecondVersion ss ts xs)) t rest [] (refl, refl)))),
    ),
  ),
)

-- ---- the token in front decides

abbrev AtEnd : DocumentTree → List Token → Type 0
AtEnd t ts = ts ≡ []

site_not_version : (ts : List Token) → Is site_words ts → Is (the word.Version) ts → ⊥
site_not_version ts (inl h) is = cc
site_not_version ts (inr (inl h)) is = cc
site_not_version ts (inr (inr h)) is = cc

covers_not_version : (ts : List Token) → Is (the word.Topology) ts ⊎ Is (the word.Cover) ts → Is (the word.Version) ts → ⊥
covers_not_version ts (inl h) is = cc
covers_not_version ts (inr h) is = cc

covers_not_site : (ts : List Token) → Is (the word.Topology) ts ⊎ Is (the word.Cover) ts → Is site_words ts → ⊥
covers_not_site ts (inl h) (inl is) = cc
covers_not_site ts (inl h) (inr (inl is)) = cc
covers_not_site ts (inl h) (inr (inr is)) = cc
covers_not_site ts (inr h) (inl is) = cc
covers_not_site ts (inr h) (inr (inl is)) = cc
covers_not_site ts (inr h) (inr (inr is)) = cc

topology_not_site : (ts : List Token) → Is (the word.Topology) ts → Is site_words ts → ⊥
topology_not_site ts h (inl is) = cc
topology_not_site ts h (inr (inl is)) = cc
topology_not_site ts h (inr (inr is)) = cc

-- no statement begins with this token
no_statement : (u : Token) (ts : List Token) → ((us : List Token) → begins_statement (u ∷ us) ≡ false) → begins_statement ts ≡ true → (us : List Token) × (ts ≡ u ∷ us) → ⊥
no_statement u ts other h (us, e) = let bad : false ≡ true = sym (other us) ∙ subst (λ z. begins_statement z ≡ true) e h in absurd cc

statement_not_site : (ts : List Token) → begins_statement ts ≡ true → Is site_words ts → ⊥
statement_not_site ts h (inl is) = no_statement (Reserved word.Object) ts (λ us. refl) h is
statement_not_site ts h (inr (inl is)) = no_statement (Reserved word.Arrow) ts (λ us. refl) h is
statement_not_site ts h (inr (inr is)) = no_statement (Reserved word.Compose) ts (λ us. refl) h is

some_token : (ts : List Token) → begins_statement ts ≡ true → Is Any ts
some_token [] h = absurd cc
some_token (u ∷ ts) h = (u, ts, refl)

end_not : (C : Class) (u : Token) (ys : List Token) → ys ≡ [] → (us : List Token) × (ys ≡ u ∷ us) → ⊥
end_not C u ys e (us, f) = absurd cc

end_not_site : (ys : List Token) → ys ≡ [] → Is site_words ys → ⊥
end_not_site ys e (inl is) = cc
end_not_site ys e (inr (inl is)) = cc
end_not_site ys e (inr (inr is)) = cc

document_fits : Fits document AtEnd
unfolding document
document_fits = (
  (λ x. (
    (λ ss. (
      (
        (λ ts. (
          ((λ rest. (tt, λ ys e is. cc)), (λ us h. some_token us h, λ v e. absurd e), λ t. (tt, λ us. (us, refl))),
          ((λ us h is. no_statement (Reserved word.Topology) us (λ vs. refl) h is, λ v e. absurd e), λ ys e is. cc),
        )),
        (λ us h. h, λ v e. absurd e),
        λ t. (tt, λ us. (us, refl)),
      ),
      (
        (λ us h is. topology_not_site us h is, λ v e. absurd e),
        ((λ us h is. statement_not_site us h is, λ v e. absurd e), λ ys e is. end_not_site ys e is),
      ),
    )),
    (λ us h. h, λ v e. absurd e),
    λ t. (tt, λ us. (us, refl)),
  )),
  (
    (λ ss. (
      (λ c. (
        ((λ rest. (tt, λ ys e is. cc)), (λ us h. some_token us h, λ v e. absurd e), λ t. (tt, λ us. (us, refl))),
        (
          (λ us h. (λ is. no_statement (Reserved word.Topology) us (λ vs. refl) h is, λ is. no_statement (Reserved word.Cover) us (λ vs. refl) h is), λ v e. absurd e),
          λ ys e. (λ is. cc, λ is. cc),
        ),
      )),
      (λ us h is. covers_not_site us h is, λ v f. ((λ us h is. statement_not_site us h is, λ w e. absurd e), λ ys e is. end_not_site ys e is)),
    )),
    (λ us h. h, λ v e. absurd e),
    λ t. (tt, λ us. (us, refl)),
  ),
  λ ts. (ts, refl),
  ((λ us h is. site_not_version us h is, λ v e. absurd e), (λ us h is. covers_not_version us h is, λ v f. ((λ us h is. no_statement (Reserved word.Version) us (λ vs. refl) h is, λ w e. absurd e), λ ys e is. cc))),
)

-- ---- the end

no_token : (ts : List Token) → (Is Any ts → ⊥) → ts ≡ []
no_token [] h = refl
no_token (t ∷ ts) h = absurd (h (t, ts, refl))

document_post : Post document (λ ts. Unit {0}) AtEnd
unfolding document
document_post = ((λ x ss ts rest us h. no_token us h), λ ss. ((λ us h. tt), λ c rest us h. no_token us h))

up_to_end : (toks rest : List Token) (t : DocumentTree) → Reads document toks (Whole t rest) → rest ≡ []
up_to_end toks rest t d = held (λ ts. Unit {0}) AtEnd d document_post tt

-- ---- the laws

pub reads : (toks : List Token) (t : DocumentTree) → IsDocument toks t → Reads document toks (Whole t [])
reads toks t d = subst (λ z. Reading OfDocument document z (Whole t [])) (append-nil toks) (complete_all (size d.derives) OfDocument document AtEnd t d.side toks [] document_fits (document_accepts t d.side d.right_side) (d.derives, omega arith) refl)

pub is_document : (toks rest : List Token) (t : DocumentTree) → Reads document toks (Whole t rest) → (rest ≡ []) × IsDocument toks t
is_document toks rest t d =
    let m = meaning d in
    let e = up_to_end toks rest t d in
    let whole : toks ≡ m.front = m.parts ∙ ap (λ z. m.front ++ z) e ∙ append-nil m.front in
    (e, subst (λ z. IsDocument z t) (sym whole) (record { side = m.side; right_side = document_side t m.side m.accepts; derives = m.derives }))

no_document : (toks rest : List Token) (t : DocumentTree) → Reads document toks (Stops rest) → IsDocument toks t → ⊥
no_document toks rest t d is = whole_not_stop t [] rest (unique (reads toks t is) (Stops rest) d)

pub syntax_place : (toks rest : List Token) (place : ℕ) → Reads document toks (Stops rest) → place + length rest ≡ length toks + 1 → IsSyntaxPlace toks place
syntax_place toks rest place d is =
    let m = meaning d in
    record {
      front = m.front;
      rest = rest;
      parts = m.parts;
      number = omega (arith, is, ap length m.parts, length-append m.front rest);
      begins = record { more = m.more; tree = m.tree; is_document = record { side = m.side; right_side = document_side m.tree m.side m.accepts; derives = m.derives } };
      first = λ t behind e b. absurd (no_more m.front m.parts t behind e b);
      none = λ t b. no_document toks rest t d b;
    }
  where
    no_more : (front : List Token) → toks ≡ front ++ rest → (t : Token) (behind : List Token) → rest ≡ t ∷ behind → Begins (front ++ t ∷ []) → ⊥
    no_more front parts t behind e b =
        let there : Reading OfDocument document (front ++ t ∷ b.more) (Stops (t ∷ b.more)) = again t behind b.more front d (parts ∙ ap (λ z. front ++ z) e) e in
        no_document (front ++ t ∷ b.more) (t ∷ b.more) b.tree there (subst (λ z. IsDocument z b.tree) (append_assoc front (t ∷ []) b.more) b.is_document)

whole_tree : Read OfDocument → DocumentTree → DocumentTree
whole_tree (Whole t rest) d = t
whole_tree (Stops rest) d = d

pub one_tree : (toks : List Token) (s t : DocumentTree) → IsDocument toks s → IsDocument toks t → s ≡ t
unfolding whole_tree
one_tree toks s t d e = ap (λ r. whole_tree r s) (unique (reads toks s d) (Whole t []) (reads toks t e))
