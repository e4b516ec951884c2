-- Lists of items that codes read, against the grammar's lists.
use Rattle.std.proofs.Common.{◌≡◌, inl, inr, List, [], ◌∷◌, ◌++◌, refl, sym, ap, subst, ◌∙◌, Option, Some, None}
use Rattle.std.proofs.lemmas.List.{append-nil}
use Rattle.topos_text.specs.declared.word.Word.TheVariants as word
use Rattle.topos_text.specs.declared.symbol.Symbol.TheVariants as symbol
use Rattle.topos_text.specs.Tokens.{Reserved, Sign}
use Rattle.topos_text.specs.Trees.{TermTree, PlaceTree}
use Rattle.topos_text.specs.Phrases.{Part, token, term, commas, each}
use Rattle.topos_text.specs.Phrases as phrase
use Rattle.topos_text.specs.Statements as statements
use Rattle.topos_grammar.specs.Kinds.{Sort, OfTerm, OfPlace, Tree, Kind, AnyTerm, part}
use Rattle.topos_grammar.specs.Codes.{Class, Code, give, call, eat_sign, a_place, places, terms, with_term, braced}
use Rattle.topos_grammar.specs.Codes as codes
use Rattle.topos_grammar.proofs.Accepting.{Accepts, All}

-- items behind an item, each with a comma
pub listed : {A : Type 0} (X : A → List Part) (P : A → List Part → Type 0) → ((v : A) (f : List Part) → P v f → f ≡ token (Sign symbol.Comma) ∷ X v) → (vs : List A) (front : List Part) → All P vs front → (a : A) → X a ++ front ≡ commas X a vs
unfolding commas
listed X P item [] front e a = ap (λ z. X a ++ z) e ∙ append-nil (X a)
listed X P item (v ∷ vs) front (f1, f2, e, one, all) a =
    ap (λ z. X a ++ z) (e ∙ ap (λ z. z ++ f2) (item v f1 one)) ∙ ap (λ z. X a ++ token (Sign symbol.Comma) ∷ z) (listed X P item vs f2 all v)

abbrev pub later : {A : Type 0} → (A → List Part) → List A → List Part
later X [] = []
later X (v ∷ vs) = (token (Sign symbol.Comma) ∷ X v) ++ later X vs

pub later_accepted : {A : Type 0} (X : A → List Part) (P : A → List Part → Type 0) → ((v : A) → P v (token (Sign symbol.Comma) ∷ X v)) → (vs : List A) → All P vs (later X vs)
later_accepted X P item [] = refl
later_accepted X P item (v ∷ vs) = (token (Sign symbol.Comma) ∷ X v, later X vs, refl, item v, later_accepted X P item vs)

pub later_commas : {A : Type 0} (X : A → List Part) (a : A) (vs : List A) → commas X a vs ≡ X a ++ later X vs
unfolding commas
later_commas X a [] = sym (append-nil (X a))
later_commas X a (v ∷ vs) = ap (λ z. X a ++ token (Sign symbol.Comma) ∷ z) (later_commas X v vs)

-- items, each with a semicolon
pub separated : {A : Type 0} (X : A → Part) (P : A → List Part → Type 0) → ((v : A) (f : List Part) → P v f → f ≡ X v ∷ token (Sign symbol.Semicolon) ∷ []) → (vs : List A) (front : List Part) → All P vs front → front ≡ each X vs
unfolding each
separated X P item [] front e = e
separated X P item (v ∷ vs) front (f1, f2, e, one, all) = e ∙ ap (λ z. z ++ f2) (item v f1 one) ∙ ap (λ z. X v ∷ token (Sign symbol.Semicolon) ∷ z) (separated X P item vs f2 all)

each_item : {u : Sort} (K : Kind u) (v : Tree u) (f : List Part) → Accepts (call K (λ x. eat_sign symbol.Semicolon (give x))) v f → f ≡ part K v ∷ token (Sign symbol.Semicolon) ∷ []
each_item K v f (x, r1, e1, (r2, e2, (e3, e4))) = rw (e1, e2, e4, e3) refl

each_accepted : {u : Sort} (K : Kind u) (vs : List (Tree u)) → All (λ v z. Accepts (call K (λ x. eat_sign symbol.Semicolon (give x))) v z) vs (each (part K) vs)
unfolding each
each_accepted K [] = refl
each_accepted K (v ∷ vs) = (part K v ∷ token (Sign symbol.Semicolon) ∷ [], each (part K) vs, refl, (v, _, refl, (_, refl, (refl, refl))), each_accepted K vs)

pub each_side : {s u : Sort} (C : Class) (K : Kind u) (k : List (Tree u) → Code s) (t : Tree s) (side : List Part) → Accepts (codes.each C K k) t side → (vs : List (Tree u)) × (rest : List Part) × (side ≡ each (part K) vs ++ rest) × Accepts (k vs) t rest
each_side C K k t side (vs, front, rest, e, all, acc) = (vs, rest, e ∙ ap (λ z. z ++ rest) (separated (part K) _ (each_item K) vs front all), acc)

pub each_accepts : {s u : Sort} (C : Class) (K : Kind u) (k : List (Tree u) → Code s) (t : Tree s) (vs : List (Tree u)) (rest : List Part) → Accepts (k vs) t rest → Accepts (codes.each C K k) t (each (part K) vs ++ rest)
each_accepts C K k t vs rest acc = (vs, each (part K) vs, rest, refl, each_accepted K vs, acc)

pub braced_side : {s u : Sort} (C : Class) (K : Kind u) (k : List (Tree u) → Code s) (t : Tree s) (side : List Part) → Accepts (braced C K k) t side
    → (vs : List (Tree u)) × (rest : List Part) × (side ≡ token (Sign symbol.OpenBrace) ∷ each (part K) vs ++ token (Sign symbol.CloseBrace) ∷ rest) × Accepts (k vs) t rest
braced_side C K k t side (r1, e1, body) =
    let b = each_side C K (λ xs. eat_sign symbol.CloseBrace (k xs)) t r1 body in
    (b.0, b.3.0, e1 ∙ ap (λ z. token (Sign symbol.OpenBrace) ∷ z) (b.2 ∙ ap (λ z. each (part K) b.0 ++ z) b.3.1), b.3.2)

pub braced_accepts : {s u : Sort} (C : Class) (K : Kind u) (k : List (Tree u) → Code s) (t : Tree s) (vs : List (Tree u)) (rest : List Part) → Accepts (k vs) t rest
    → Accepts (braced C K k) t (token (Sign symbol.OpenBrace) ∷ each (part K) vs ++ token (Sign symbol.CloseBrace) ∷ rest)
braced_accepts C K k t vs rest acc = (_, refl, each_accepts C K (λ xs. eat_sign symbol.CloseBrace (k xs)) t vs (token (Sign symbol.CloseBrace) ∷ rest) (rest, refl, acc))

-- ---- the parts of a step

abbrev place_part : PlaceTree → List Part
place_part q = phrase.place q.number q.written ∷ []

place_item : (v : PlaceTree) (f : List Part) → Accepts {s = OfPlace} (eat_sign symbol.Comma (a_place (λ q. give q))) v f → f ≡ token (Sign symbol.Comma) ∷ place_part v
place_item v f (r1, e1, (n, x, r2, e2, (e3, e4))) = rw (e1, e2, e4, e3) refl

pub places_side : {s : Sort} (k : List PlaceTree → Code s) (t : Tree s) (side : List Part) → Accepts (places k) t side → (ps : List PlaceTree) × (rest : List Part) × (side ≡ statements.places ps ++ rest) × Accepts (k ps) t rest
places_side k t side (inl (n, x, r1, e1, (ps, front, rest, e2, all, acc))) =
    let p : PlaceTree = record { number = n; written = x } in
    (p ∷ ps, rest, e1 ∙ ap (λ z. place_part p ++ z) e2 ∙ ap (λ z. z ++ rest) (listed place_part _ place_item ps front all p), acc)
places_side k t side (inr acc) = ([], side, refl, acc)

pub places_accept : {s : Sort} (k : List PlaceTree → Code s) (t : Tree s) (ps : List PlaceTree) (rest : List Part) → Accepts (k ps) t rest → Accepts (places k) t (statements.places ps ++ rest)
places_accept k t [] rest acc = inr acc
places_accept k t (p ∷ ps) rest acc =
    subst (λ z. Accepts (places k) t (z ++ rest)) (sym (later_commas place_part p ps)) (inl (p.number, p.written, _, refl, (ps, later place_part ps, rest, refl, later_accepted place_part _ (λ v. (_, refl, (v.number, v.written, _, refl, (refl, refl)))) ps, acc)))

abbrev term_part : TermTree → List Part
term_part t = term (phrase.AnyTerm t) ∷ []

term_item : (v : TermTree) (f : List Part) → Accepts {s = OfTerm} (eat_sign symbol.Comma (call AnyTerm (λ q. give q))) v f → f ≡ token (Sign symbol.Comma) ∷ term_part v
term_item v f (r1, e1, (x, r2, e2, (e3, e4))) = rw (e1, e2, e4, e3) refl

pub terms_side : {s : Sort} (k : List TermTree → Code s) (t : Tree s) (side : List Part) → Accepts (terms k) t side → (ts : List TermTree) × (rest : List Part) × (side ≡ statements.terms ts ++ rest) × Accepts (k ts) t rest
terms_side k t side (inl acc) = ([], side, refl, acc)
terms_side k t side (inr (x, r1, e1, (ts, front, rest, e2, all, acc))) =
    (x ∷ ts, rest, e1 ∙ ap (λ z. term_part x ++ z) e2 ∙ ap (λ z. z ++ rest) (listed term_part _ term_item ts front all x), acc)

pub terms_accept : {s : Sort} (k : List TermTree → Code s) (t : Tree s) (ts : List TermTree) (rest : List Part) → Accepts (k ts) t rest → Accepts (terms k) t (statements.terms ts ++ rest)
terms_accept k t [] rest acc = inl acc
terms_accept k t (x ∷ ts) rest acc =
    subst (λ z. Accepts (terms k) t (z ++ rest)) (sym (later_commas term_part x ts)) (inr (x, _, refl, (ts, later term_part ts, rest, refl, later_accepted term_part _ (λ v. (_, refl, (v, _, refl, (refl, refl)))) ts, acc)))

pub with_side : {s : Sort} (k : Option TermTree → Code s) (t : Tree s) (side : List Part) → Accepts (with_term k) t side → (w : Option TermTree) × (rest : List Part) × (side ≡ statements.with_term w ++ rest) × Accepts (k w) t rest
with_side k t side (inl (r1, e1, (x, r2, e2, acc))) = (Some x, r2, e1 ∙ ap (λ z. token (Reserved word.With) ∷ z) e2, acc)
with_side k t side (inr acc) = (None, side, refl, acc)

pub with_accepts : {s : Sort} (k : Option TermTree → Code s) (t : Tree s) (w : Option TermTree) (rest : List Part) → Accepts (k w) t rest → Accepts (with_term k) t (statements.with_term w ++ rest)
with_accepts k t None rest acc = inr acc
with_accepts k t (Some x) rest acc = inl (_, refl, (x, _, refl, acc))
