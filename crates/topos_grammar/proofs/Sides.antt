-- The codes read the right sides of the grammar, and nothing else.
use Rattle.std.proofs.Common.{◌≡◌, inl, inr, Bool, true, false, List, [], ◌∷◌, ◌++◌, refl, sym, ap, subst, ◌∙◌, None}
use Rattle.std.proofs.lemmas.List.{append-nil}
use Rattle.topos_text.specs.declared.word.Word.TheVariants as word
use Rattle.topos_text.specs.declared.symbol.Symbol.TheVariants as symbol
use Rattle.topos_text.specs.Tokens.{Token, Written, Name, Reserved, Sign}
use Rattle.topos_text.specs.Trees.{TypeTree, TermTree, Binding, Binder, Forall, Exists, Unique, Fun}
use Rattle.topos_text.specs.Trees as tree
use Rattle.topos_text.specs.Phrases.{Part, token, type, term, site, statement, commas, each, names, binding}
use Rattle.topos_text.specs.Phrases as phrase
use Rattle.topos_text.specs.Types.{TypeSide}
use Rattle.topos_text.specs.Types as types
use Rattle.topos_text.specs.Terms.{TermSide, ends_with_body, binder_word}
use Rattle.topos_text.specs.Terms as terms
use Rattle.topos_text.specs.SiteStatements as sites
use Rattle.topos_text.specs.Statements as statements
use Rattle.topos_text.specs.Documents.{Derives, nothing, this, by_type, by_term, by_statement}
use Rattle.topos_text.proofs.DerivationParts.{whole_type, whole_term, whole_site, whole_statement}
use Rattle.topos_grammar.specs.Kinds.{Sort, OfTerm, OfBinding, OfName, OfArrow, Tree, Kind, AnyType, ProductType, MoreFactors, PrefixType, AnyTerm, Disjunction, MoreDisjuncts, Conjunction, MoreConjuncts, Negation, BinderTerm, Comparison, Application, MoreArguments, Atom, Parentheses, Context, ArrowName, SiteStatement, Cover, part, Side, Covers, Topology, Section, Element, MapAt, Sent, OfCover, OfEntry, OfMapping, Under, Step, Statement, First, Second}
use Rattle.topos_grammar.specs.Codes.{the, sign, Code, give, name, call, peek, code, unless, eat_word, eat_sign, bind, bound, entry, mapping}
use Rattle.topos_grammar.proofs.Accepting.{Accepts, All}
use Rattle.topos_grammar.proofs.ItemLists.{listed, separated, later, later_accepted, later_commas}
use Rattle.topos_grammar.proofs.StatementSides.{step_side, step_accepts, statement_side, statement_accepts}

abbrev name_part : Written → List Part
name_part x = token (Name x) ∷ []

abbrev arrow_part : tree.ArrowTree → List Part
arrow_part g = site (phrase.ArrowName g) ∷ []

abbrev pub after_disjunction : Bool → TermTree → Code OfTerm
after_disjunction b s = unless b (peek (sign symbol.Implies) (eat_sign symbol.Implies (call AnyTerm (λ t. give (tree.Implies s t)))) (give s)) (give s)

abbrev pub more_disjuncts : Bool → TermTree → Code OfTerm
more_disjuncts b r = unless b (peek (the word.Or) (eat_word word.Or (call Conjunction (λ s. call (MoreDisjuncts (tree.Or r s)) give))) (give r)) (give r)

abbrev pub more_conjuncts : Bool → TermTree → Code OfTerm
more_conjuncts b r = unless b (peek (the word.And) (eat_word word.And (call Negation (λ s. call (MoreConjuncts (tree.And r s)) give))) (give r)) (give r)

any_term_side : (b : Bool) (s t : TermTree) (rest : List Part) → ends_with_body s ≡ b → Accepts (after_disjunction b s) t rest → TermSide (phrase.AnyTerm t) (term (phrase.Disjunction s) ∷ rest)
any_term_side true s t rest is (e, e1) = rw (e1, e) terms.alone
any_term_side false s t rest is (inl (r2, e2, (u, r3, e3, (e, e4)))) = rw (e2, e3, e4, e) (terms.implication is)
any_term_side false s t rest is (inr (e, e1)) = rw (e1, e) terms.alone

more_disjuncts_side : (b : Bool) (r t : TermTree) (side : List Part) → ends_with_body r ≡ b → Accepts (more_disjuncts b r) t side → TermSide (phrase.MoreDisjuncts r t) side
more_disjuncts_side true r t side is (e, e1) = rw (e1, e) terms.disjunction_end
more_disjuncts_side false r t side is (inl (r1, e1, (s, r2, e2, (u, r3, e3, (e, e4))))) = rw (e1, e2, e3, e4, e) (terms.disjunction_more is)
more_disjuncts_side false r t side is (inr (e, e1)) = rw (e1, e) terms.disjunction_end

more_conjuncts_side : (b : Bool) (r t : TermTree) (side : List Part) → ends_with_body r ≡ b → Accepts (more_conjuncts b r) t side → TermSide (phrase.MoreConjuncts r t) side
more_conjuncts_side true r t side is (e, e1) = rw (e1, e) terms.conjunction_end
more_conjuncts_side false r t side is (inl (r1, e1, (s, r2, e2, (u, r3, e3, (e, e4))))) = rw (e1, e2, e3, e4, e) (terms.conjunction_more is)
more_conjuncts_side false r t side is (inr (e, e1)) = rw (e1, e) terms.conjunction_end

bound_side : (b : Binder) (t : TermTree) (side : List Part) → Accepts (bound b) t side → TermSide (phrase.BinderTerm t) side
bound_side b t side (r1, e1, (x, r2, e2, (r3, e3, (T, r4, e4, (r5, e5, (u, r6, e6, (e, e7))))))) = rw (e1, e2, e3, e4, e5, e6, e7, e) terms.bound

binding_item : (v : Binding) (f : List Part) → Accepts {s = OfBinding} (eat_sign symbol.Comma (bind (λ c. give c))) v f → f ≡ token (Sign symbol.Comma) ∷ binding v
binding_item v f (r1, e1, (x, r2, e2, (r3, e3, (T, r4, e4, (e5, e6))))) = rw (e1, e2, e3, e4, e6, e5) refl

name_item : (v : Written) (f : List Part) → Accepts {s = OfName} (eat_sign symbol.Comma (name (λ y. give y))) v f → f ≡ token (Sign symbol.Comma) ∷ token (Name v) ∷ []
name_item v f (r1, e1, (x, r2, e2, (e3, e4))) = rw (e1, e2, e4, e3) refl

arrow_item : (v : tree.ArrowTree) (f : List Part) → Accepts {s = OfArrow} (eat_sign symbol.Comma (call ArrowName (λ g. give g))) v f → f ≡ token (Sign symbol.Comma) ∷ site (phrase.ArrowName v) ∷ []
arrow_item v f (r1, e1, (x, r2, e2, (e3, e4))) = rw (e1, e2, e4, e3) refl

entry_item : (v : tree.EntryTree) (f : List Part) → Accepts {s = OfEntry} (eat_sign symbol.Comma (entry (λ g. give g))) v f → f ≡ token (Sign symbol.Comma) ∷ statements.entry v
entry_item v f (r1, e1, (x, r2, e2, (r3, e3, (y, r4, e4, (e5, e6))))) = rw (e1, e2, e3, e4, e6, e5) refl

mapping_item : (v : tree.MappingTree) (f : List Part) → Accepts {s = OfMapping} (eat_sign symbol.Comma (mapping (λ g. give g))) v f → f ≡ token (Sign symbol.Comma) ∷ statements.mapping v
mapping_item v f (r1, e1, (x, r2, e2, (r3, e3, (y, r4, e4, (e5, e6))))) = rw (e1, e2, e3, e4, e6, e5) refl

cover_item : (v : tree.CoverTree) (f : List Part) → Accepts {s = OfCover} (call Cover (λ c. eat_sign symbol.Semicolon (give c))) v f → f ≡ site (phrase.Cover v) ∷ token (Sign symbol.Semicolon) ∷ []
cover_item v f (x, r1, e1, (r2, e2, (e3, e4))) = rw (e1, e2, e4, e3) refl

append_nil_to : (front : List Part) {side : List Part} → front ≡ side → front ++ [] ≡ side
append_nil_to front e = append-nil front ∙ e

covers_side : (cs : List tree.CoverTree) → sites.SiteSide (phrase.Covers (tree.Listed cs)) (each (λ z. site (phrase.Cover z)) cs)
unfolding each
covers_side [] = sites.no_cover
covers_side (c ∷ cs) = sites.covers

-- a right side that a code reads is one of the phrase
pub side_of : {s : Sort} (K : Kind s) (v : Tree s) (side : List Part) → Accepts (code K) v side → Side K v side
unfolding code
side_of AnyType t side (S, r1, e1, inl (r2, e2, (T, r3, e3, (e, e4)))) = rw (e1, e2, e3, e4, e) types.function
side_of AnyType t side (S, r1, e1, inr (e, e2)) = rw (e1, e2, e) types.product_alone
side_of ProductType t side (S, r1, e1, (T, r2, e2, (e, e3))) = rw (e1, e2, e3, e) types.product
side_of (MoreFactors R) t side (inl (r1, e1, (S, r2, e2, (T, r3, e3, (e, e4))))) = rw (e1, e2, e3, e4, e) types.product_more
side_of (MoreFactors R) t side (inr (e, e1)) = rw (e1, e) types.product_end
side_of PrefixType t side (inl (r1, e1, (T, r2, e2, (e, e3)))) = rw (e1, e2, e3, e) types.power
side_of PrefixType t side (inr (inl (x, r1, e1, (e, e2)))) = rw (e1, e2, e) types.functor
side_of PrefixType t side (inr (inr (inl (r1, e1, (e, e2))))) = rw (e1, e2, e) types.one
side_of PrefixType t side (inr (inr (inr (inl (r1, e1, (e, e2)))))) = rw (e1, e2, e) types.omega
side_of PrefixType t side (inr (inr (inr (inr (r1, e1, (T, r2, e2, (r3, e3, (e, e4)))))))) = rw (e1, e2, e3, e4, e) types.group
side_of AnyTerm t side (s, r1, e1, a) = rw e1 (any_term_side (ends_with_body s) s t r1 refl a)
side_of Disjunction t side (s, r1, e1, (u, r2, e2, (e, e3))) = rw (e1, e2, e3, e) terms.disjunction
side_of (MoreDisjuncts r) t side a = more_disjuncts_side (ends_with_body r) r t side refl a
side_of Conjunction t side (s, r1, e1, (u, r2, e2, (e, e3))) = rw (e1, e2, e3, e) terms.conjunction
side_of (MoreConjuncts r) t side a = more_conjuncts_side (ends_with_body r) r t side refl a
side_of Negation t side (inl (r1, e1, (u, r2, e2, (e, e3)))) = rw (e1, e2, e3, e) terms.negation
side_of Negation t side (inr (inl (u, r1, e1, (e, e2)))) = rw (e1, e2, e) terms.quantified
side_of Negation t side (inr (inr (u, r1, e1, (e, e2)))) = rw (e1, e2, e) terms.compared
side_of BinderTerm t side (inl a) = bound_side Forall t side a
side_of BinderTerm t side (inr (inl a)) = bound_side Exists t side a
side_of BinderTerm t side (inr (inr (inl a))) = bound_side Unique t side a
side_of BinderTerm t side (inr (inr (inr a))) = bound_side Fun t side a
side_of Comparison t side (s, r1, e1, inl (r2, e2, (u, r3, e3, (e, e4)))) = rw (e1, e2, e3, e4, e) terms.equal
side_of Comparison t side (s, r1, e1, inr (inl (r2, e2, (u, r3, e3, (e, e4))))) = rw (e1, e2, e3, e4, e) terms.member
side_of Comparison t side (s, r1, e1, inr (inr (e, e2))) = rw (e1, e2, e) terms.uncompared
side_of Application t side (s, r1, e1, (u, r2, e2, (e, e3))) = rw (e1, e2, e3, e) terms.application
side_of (MoreArguments r) t side (inl (s, r1, e1, (u, r2, e2, (e, e3)))) = rw (e1, e2, e3, e) terms.application_more
side_of (MoreArguments r) t side (inr (e, e1)) = rw (e1, e) terms.application_end
side_of Atom t side (inl (x, r1, e1, (e, e2))) = rw (e1, e2, e) terms.named
side_of Atom t side (inr (inl (r1, e1, (e, e2)))) = rw (e1, e2, e) terms.truth
side_of Atom t side (inr (inr (inl (r1, e1, (e, e2))))) = rw (e1, e2, e) terms.falsity
side_of Atom t side (inr (inr (inr (inl (r1, e1, (x, r2, e2, (r3, e3, (T, r4, e4, (r5, e5, (u, r6, e6, (r7, e7, (e, e8)))))))))))) = rw (e1, e2, e3, e4, e5, e6, e7, e8, e) terms.subset
side_of Atom t side (inr (inr (inr (inr (inl (r1, e1, (r2, e2, (u, r3, e3, (r4, e4, (e, e5)))))))))) = rw (e1, e2, e3, e4, e5, e) terms.first
side_of Atom t side (inr (inr (inr (inr (inr (inl (r1, e1, (r2, e2, (u, r3, e3, (r4, e4, (e, e5))))))))))) = rw (e1, e2, e3, e4, e5, e) terms.second
side_of Atom t side (inr (inr (inr (inr (inr (inr (u, r1, e1, (e, e2)))))))) = rw (e1, e2, e) terms.in_parentheses
side_of Parentheses t side (r1, e1, inl (r2, e2, (e, e3))) = rw (e1, e2, e3, e) terms.unit
side_of Parentheses t side (r1, e1, inr (s, r2, e2, inl (r3, e3, (u, r4, e4, (r5, e5, (e, e6)))))) = rw (e1, e2, e3, e4, e5, e6, e) terms.pair
side_of Parentheses t side (r1, e1, inr (s, r2, e2, inr (r3, e3, (e, e4)))) = rw (e1, e2, e3, e4, e) terms.group
side_of Context t side (inl (x, r1, e1, (r2, e2, (T, r3, e3, (vs, front, rest, e4, all, (e, e5)))))) =
    let items : binding (record { variable = x; type = T }) ++ front ≡ commas binding (record { variable = x; type = T }) vs = listed binding _ binding_item vs front all (record { variable = x; type = T }) in
    let whole : side ≡ commas binding (record { variable = x; type = T }) vs = rw (e1, e2, e3, e4, e5) (ap (λ z. binding (record { variable = x; type = T }) ++ z) (append-nil front) ∙ items) in
    rw (whole, e) terms.variables
side_of Context t side (inr (e, e1)) = rw (e1, e) terms.no_variable
side_of ArrowName t side (inl (r1, e1, (x, r2, e2, (e, e3)))) = rw (e1, e2, e3, e) sites.identity
side_of ArrowName t side (inr (x, r1, e1, (e, e2))) = rw (e1, e2, e) sites.declared
side_of SiteStatement t side (inl (r1, e1, (x, r2, e2, (xs, front, rest, e3, all, (e, e4))))) =
    let list : token (Name x) ∷ front ≡ names x xs = listed (λ z. token (Name z) ∷ []) _ name_item xs front all x in
    let whole : side ≡ token (Reserved word.Object) ∷ names x xs = rw (e1, e2, e3, e4) (ap (λ z. token (Reserved word.Object) ∷ token (Name x) ∷ z) (append-nil front) ∙ ap (λ z. token (Reserved word.Object) ∷ z) list) in
    rw (whole, e) sites.objects
side_of SiteStatement t side (inr (inl (r1, e1, (x, r2, e2, (xs, front, rest, e3, all, (r3, e4, (d, r4, e5, (r5, e6, (c, r6, e7, (e, e8)))))))))) =
    let list : token (Name x) ∷ front ≡ names x xs = listed (λ z. token (Name z) ∷ []) _ name_item xs front all x in
    let whole : side ≡ token (Reserved word.Arrow) ∷ names x xs ++ token (Sign symbol.Colon) ∷ token (Name d) ∷ token (Sign symbol.Arrow) ∷ token (Name c) ∷ [] =
    rw (e1, e2, e3, e4, e5, e6, e7, e8) (ap (λ z. token (Reserved word.Arrow) ∷ z ++ token (Sign symbol.Colon) ∷ token (Name d) ∷ token (Sign symbol.Arrow) ∷ token (Name c) ∷ []) list) in
    rw (whole, e) sites.arrows
side_of SiteStatement t side (inr (inr (r1, e1, (g, r2, e2, (r3, e3, (f, r4, e4, (r5, e5, (h, r6, e6, (e, e7))))))))) = rw (e1, e2, e3, e4, e5, e6, e7, e) sites.composite
side_of Cover t side (r1, e1, (x, r2, e2, (r3, e3, inl (r4, e4, (e, e5))))) = rw (e1, e2, e3, e4, e5, e) sites.cover_by_none
side_of Cover t side (r1, e1, (x, r2, e2, (r3, e3, inr (f, r4, e4, (fs, front, rest, e5, all, (e, e6)))))) =
    let list : site (phrase.ArrowName f) ∷ front ≡ commas (λ g. site (phrase.ArrowName g) ∷ []) f fs = listed (λ g. site (phrase.ArrowName g) ∷ []) _ arrow_item fs front all f in
    let whole : side ≡ token (Reserved word.Cover) ∷ token (Name x) ∷ token (Reserved word.By) ∷ commas (λ g. site (phrase.ArrowName g) ∷ []) f fs =
    rw (e1, e2, e3, e4, e5, e6) (ap (λ z. token (Reserved word.Cover) ∷ token (Name x) ∷ token (Reserved word.By) ∷ site (phrase.ArrowName f) ∷ z) (append-nil front) ∙ ap (λ z. token (Reserved word.Cover) ∷ token (Name x) ∷ token (Reserved word.By) ∷ z) list) in
    rw (whole, e) sites.cover_by
side_of Covers t side (inl (r1, e1, (r2, e2, (r3, e3, (e, e4))))) = rw (e1, e2, e3, e4, e) sites.dense
side_of Covers t side (inr (cs, front, rest, e1, all, (e, e2))) =
    let whole : side ≡ each (λ z. site (phrase.Cover z)) cs = rw (e1, e2) (append_nil_to front (separated (λ z. site (phrase.Cover z)) _ cover_item cs front all)) in
    rw (whole, e) (covers_side cs)
side_of Topology t side (r1, e1, (j, r2, e2, inl (r3, e3, (r4, e4, (e, e5))))) = rw (e1, e2, e3, e4, e5, e) sites.dense_topology
side_of Topology t side (r1, e1, (j, r2, e2, inr (r3, e3, (cs, front, rest, e4, all, (r5, e5, (e, e6)))))) =
    let list : front ≡ each (λ z. site (phrase.Cover z)) cs = separated (λ z. site (phrase.Cover z)) _ cover_item cs front all in
    rw (e1, e2, e3, e4, list, e5, e6, e) sites.listed_topology
side_of Section t side (inl (r1, e1, (u, r2, e2, (r3, e3, (x, r4, e4, (xs, front, rest, e5, all, (e, e6))))))) =
    let list : token (Name x) ∷ front ≡ names x xs = listed (λ z. token (Name z) ∷ []) _ name_item xs front all x in
    let whole : side ≡ token (Reserved word.At) ∷ token (Name u) ∷ token (Sign symbol.Colon) ∷ names x xs =
    rw (e1, e2, e3, e4, e5, e6) (ap (λ z. token (Reserved word.At) ∷ token (Name u) ∷ token (Sign symbol.Colon) ∷ token (Name x) ∷ z) (append-nil front) ∙ ap (λ z. token (Reserved word.At) ∷ token (Name u) ∷ token (Sign symbol.Colon) ∷ z) list) in
    rw (whole, e) statements.at
side_of Section t side (inr (r1, e1, (f, r2, e2, (r3, e3, (a, r4, e4, (r5, e5, (b, r6, e6, (es, front, rest, e7, all, (e, e8))))))))) =
    let first : tree.EntryTree = record { from = a; to = b } in
    let list : statements.entry first ++ front ≡ commas statements.entry first es = listed statements.entry _ entry_item es front all first in
    let whole : side ≡ token (Reserved word.Along) ∷ token (Name f) ∷ token (Sign symbol.Colon) ∷ commas statements.entry first es =
    rw (e1, e2, e3, e4, e5, e6, e7, e8) (ap (λ z. token (Reserved word.Along) ∷ token (Name f) ∷ token (Sign symbol.Colon) ∷ statements.entry first ++ z) (append-nil front) ∙ ap (λ z. token (Reserved word.Along) ∷ token (Name f) ∷ token (Sign symbol.Colon) ∷ z) list) in
    rw (whole, e) statements.along
side_of Element t side (inl (x, r1, e1, (e, e2))) = rw (e1, e2, e) statements.by_name
side_of Element t side (inr (n, x, r1, e1, (e, e2))) = rw (e1, e2, e) statements.by_place
side_of MapAt t side (r1, e1, (u, r2, e2, (r3, e3, (a, r4, e4, (r5, e5, (b, r6, e6, (es, front, rest, e7, all, (e, e8)))))))) =
    let first : tree.MappingTree = record { from = a; to = b } in
    let list : statements.mapping first ++ front ≡ commas statements.mapping first es = listed statements.mapping _ mapping_item es front all first in
    let whole : side ≡ token (Reserved word.At) ∷ token (Name u) ∷ token (Sign symbol.Colon) ∷ commas statements.mapping first es =
    rw (e1, e2, e3, e4, e5, e6, e7, e8) (ap (λ z. token (Reserved word.At) ∷ token (Name u) ∷ token (Sign symbol.Colon) ∷ statements.mapping first ++ z) (append-nil front) ∙ ap (λ z. token (Reserved word.At) ∷ token (Name u) ∷ token (Sign symbol.Colon) ∷ z) list) in
    rw (whole, e) statements.map_at
side_of Sent t side (inl (r1, e1, (d, r2, e2, (r3, e3, (c, r4, e4, (e, e5)))))) = rw (e1, e2, e3, e4, e5, e) statements.object_to
side_of Sent t side (inr (r1, e1, (u, r2, e2, (r3, e3, (f, r4, e4, (e, e5)))))) = rw (e1, e2, e3, e4, e5, e) statements.arrow_to
side_of (Under First) t side (e, e1) = rw (e1, e) statements.not_under
side_of (Under Second) t side (inl (r1, e1, (j, r2, e2, (e, e3)))) = rw (e1, e2, e3, e) statements.under
side_of (Under Second) t side (inr (e, e1)) = rw (e1, e) statements.not_under
side_of Step t side a = step_side t side a
side_of (Statement v) t side a = statement_side v t side a

-- ---- the other way

any_term_accepts : (b : Bool) (s : TermTree) → Accepts (after_disjunction b s) s []
any_term_accepts true s = (refl, refl)
any_term_accepts false s = inr (refl, refl)

implication_accepts : (b : Bool) (s t : TermTree) → b ≡ false → Accepts (after_disjunction b s) (tree.Implies s t) (token (Sign symbol.Implies) ∷ term (phrase.AnyTerm t) ∷ [])
implication_accepts true s t is = absurd cc
implication_accepts false s t is = inl (_, refl, (t, _, refl, (refl, refl)))

disjuncts_end : (b : Bool) (r : TermTree) → Accepts (more_disjuncts b r) r []
disjuncts_end true r = (refl, refl)
disjuncts_end false r = inr (refl, refl)

disjuncts_more : (b : Bool) (r s t : TermTree) → b ≡ false → Accepts (more_disjuncts b r) t (token (Reserved word.Or) ∷ term (phrase.Conjunction s) ∷ term (phrase.MoreDisjuncts (tree.Or r s) t) ∷ [])
disjuncts_more true r s t is = absurd cc
disjuncts_more false r s t is = inl (_, refl, (s, _, refl, (t, _, refl, (refl, refl))))

conjuncts_end : (b : Bool) (r : TermTree) → Accepts (more_conjuncts b r) r []
conjuncts_end true r = (refl, refl)
conjuncts_end false r = inr (refl, refl)

conjuncts_more : (b : Bool) (r s t : TermTree) → b ≡ false → Accepts (more_conjuncts b r) t (token (Reserved word.And) ∷ term (phrase.Negation s) ∷ term (phrase.MoreConjuncts (tree.And r s) t) ∷ [])
conjuncts_more true r s t is = absurd cc
conjuncts_more false r s t is = inl (_, refl, (s, _, refl, (t, _, refl, (refl, refl))))

bound_accepts : (b : Binder) (x : Binding) (t : TermTree) → Accepts (bound b) (tree.Bound b x t) (token (Reserved (binder_word b)) ∷ token (Name x.variable) ∷ token (Sign symbol.Colon) ∷ type (phrase.AnyType x.type) ∷ token (Sign symbol.Dot) ∷ term (phrase.AnyTerm t) ∷ [])
bound_accepts b x t = (_, refl, (x.variable, _, refl, (_, refl, (x.type, _, refl, (_, refl, (t, _, refl, (refl, refl)))))))

context_accepts : (b : Binding) (vs : List Binding) → Accepts (code Context) (b ∷ vs) (commas binding b vs)
unfolding code
context_accepts b vs = subst (λ z. Accepts (code Context) (b ∷ vs) z) (ap (λ z. binding b ++ z) (append-nil (later binding vs)) ∙ sym (later_commas binding b vs))
    (inl (b.variable, _, refl, (_, refl, (b.type, _, refl, (vs, later binding vs, [], refl, later_accepted binding _ (λ v. (_, refl, (v.variable, _, refl, (_, refl, (v.type, _, refl, (refl, refl)))))) vs, (refl, refl))))))

covers_accepted : (cs : List tree.CoverTree) → All (λ v z. Accepts {s = OfCover} (call Cover (λ c. eat_sign symbol.Semicolon (give c))) v z) cs (each (λ z. site (phrase.Cover z)) cs)
unfolding each
covers_accepted [] = refl
covers_accepted (c ∷ cs) = (site (phrase.Cover c) ∷ token (Sign symbol.Semicolon) ∷ [], each (λ z. site (phrase.Cover z)) cs, refl, (c, _, refl, (_, refl, (refl, refl))), covers_accepted cs)

covers_read : (cs : List tree.CoverTree) (side : List Part) → each (λ z. site (phrase.Cover z)) cs ≡ side → Accepts (code Covers) (tree.Listed cs) side
unfolding code
covers_read cs side e = inr (cs, each (λ z. site (phrase.Cover z)) cs, [], sym (append-nil (each (λ z. site (phrase.Cover z)) cs) ∙ e), covers_accepted cs, (refl, refl))

no_each : each (λ z. site (phrase.Cover z)) [] ≡ []
unfolding each
no_each = refl

-- each right side of the phrase is read by its code
pub accepts_side : {s : Sort} (K : Kind s) (v : Tree s) (side : List Part) → Side K v side → Accepts (code K) v side
unfolding code
accepts_side AnyType t side types.product_alone = (t, _, refl, inr (refl, refl))
accepts_side AnyType t side (types.function {S = S} {T = T}) = (S, _, refl, inl (_, refl, (T, _, refl, (refl, refl))))
accepts_side ProductType t side (types.product {S = S}) = (S, _, refl, (t, _, refl, (refl, refl)))
accepts_side (MoreFactors R) t side types.product_end = inr (refl, refl)
accepts_side (MoreFactors R) t side (types.product_more {S = S}) = inl (_, refl, (S, _, refl, (t, _, refl, (refl, refl))))
accepts_side PrefixType t side (types.power {T = T}) = inl (_, refl, (T, _, refl, (refl, refl)))
accepts_side PrefixType t side (types.functor {x = x}) = inr (inl (x, _, refl, (refl, refl)))
accepts_side PrefixType t side types.one = inr (inr (inl (_, refl, (refl, refl))))
accepts_side PrefixType t side types.omega = inr (inr (inr (inl (_, refl, (refl, refl)))))
accepts_side PrefixType t side types.group = inr (inr (inr (inr (_, refl, (t, _, refl, (_, refl, (refl, refl)))))))
accepts_side AnyTerm t side terms.alone = (t, _, refl, any_term_accepts (ends_with_body t) t)
accepts_side AnyTerm t side (terms.implication {s = s} {t = u} is) = (s, _, refl, implication_accepts (ends_with_body s) s u is)
accepts_side Disjunction t side (terms.disjunction {s = s}) = (s, _, refl, (t, _, refl, (refl, refl)))
accepts_side (MoreDisjuncts r) t side terms.disjunction_end = disjuncts_end (ends_with_body r) r
accepts_side (MoreDisjuncts r) t side (terms.disjunction_more {s = s} is) = disjuncts_more (ends_with_body r) r s t is
accepts_side Conjunction t side (terms.conjunction {s = s}) = (s, _, refl, (t, _, refl, (refl, refl)))
accepts_side (MoreConjuncts r) t side terms.conjunction_end = conjuncts_end (ends_with_body r) r
accepts_side (MoreConjuncts r) t side (terms.conjunction_more {s = s} is) = conjuncts_more (ends_with_body r) r s t is
accepts_side Negation t side (terms.negation {t = u}) = inl (_, refl, (u, _, refl, (refl, refl)))
accepts_side Negation t side terms.quantified = inr (inl (t, _, refl, (refl, refl)))
accepts_side Negation t side terms.compared = inr (inr (t, _, refl, (refl, refl)))
accepts_side BinderTerm t side (terms.bound {binder = Forall} {b = x} {t = u}) = inl (bound_accepts Forall x u)
accepts_side BinderTerm t side (terms.bound {binder = Exists} {b = x} {t = u}) = inr (inl (bound_accepts Exists x u))
accepts_side BinderTerm t side (terms.bound {binder = Unique} {b = x} {t = u}) = inr (inr (inl (bound_accepts Unique x u)))
accepts_side BinderTerm t side (terms.bound {binder = Fun} {b = x} {t = u}) = inr (inr (inr (bound_accepts Fun x u)))
accepts_side Comparison t side terms.uncompared = (t, _, refl, inr (inr (refl, refl)))
accepts_side Comparison t side (terms.equal {s = s} {t = u}) = (s, _, refl, inl (_, refl, (u, _, refl, (refl, refl))))
accepts_side Comparison t side (terms.member {s = s} {t = u}) = (s, _, refl, inr (inl (_, refl, (u, _, refl, (refl, refl)))))
accepts_side Application t side (terms.application {s = s}) = (s, _, refl, (t, _, refl, (refl, refl)))
accepts_side (MoreArguments r) t side terms.application_end = inr (refl, refl)
accepts_side (MoreArguments r) t side (terms.application_more {s = s}) = inl (s, _, refl, (t, _, refl, (refl, refl)))
accepts_side Atom t side (terms.named {x = x}) = inl (x, _, refl, (refl, refl))
accepts_side Atom t side terms.truth = inr (inl (_, refl, (refl, refl)))
accepts_side Atom t side terms.falsity = inr (inr (inl (_, refl, (refl, refl))))
accepts_side Atom t side (terms.subset {b = b} {t = u}) = inr (inr (inr (inl (_, refl, (b.variable, _, refl, (_, refl, (b.type, _, refl, (_, refl, (u, _, refl, (_, refl, (refl, refl)))))))))))
accepts_side Atom t side (terms.first {t = u}) = inr (inr (inr (inr (inl (_, refl, (_, refl, (u, _, refl, (_, refl, (refl, refl)))))))))
accepts_side Atom t side (terms.second {t = u}) = inr (inr (inr (inr (inr (inl (_, refl, (_, refl, (u, _, refl, (_, refl, (refl, refl))))))))))
accepts_side Atom t side terms.in_parentheses = inr (inr (inr (inr (inr (inr (t, _, refl, (refl, refl)))))))
accepts_side Parentheses t side terms.unit = (_, refl, inl (_, refl, (refl, refl)))
accepts_side Parentheses t side (terms.group {t = u}) = (_, refl, inr (u, _, refl, inr (_, refl, (refl, refl))))
accepts_side Parentheses t side (terms.pair {s = s} {t = u}) = (_, refl, inr (s, _, refl, inl (_, refl, (u, _, refl, (_, refl, (refl, refl))))))
accepts_side Context t side terms.no_variable = inr (refl, refl)
accepts_side Context t side (terms.variables {b = b} {bs = bs}) = context_accepts b bs
accepts_side ArrowName t side (sites.declared {f = f}) = inr (f, _, refl, (refl, refl))
accepts_side ArrowName t side (sites.identity {x = x}) = inl (_, refl, (x, _, refl, (refl, refl)))
accepts_side SiteStatement t side (sites.objects {x = x} {xs = xs}) =
    subst (λ z. Accepts (code SiteStatement) (tree.Objects (x ∷ xs)) z) (ap (λ z. token (Reserved word.Object) ∷ z) (ap (λ z. token (Name x) ∷ z) (append-nil (later name_part xs)) ∙ sym (later_commas name_part x xs)))
    (inl (_, refl, (x, _, refl, (xs, later name_part xs, [], refl, later_accepted name_part _ (λ v. (_, refl, (v, _, refl, (refl, refl)))) xs, (refl, refl)))))
accepts_side SiteStatement t side (sites.arrows {f = f} {dom = d} {cod = c} {fs = fs}) =
    subst (λ z. Accepts (code SiteStatement) (tree.Arrows (f ∷ fs) d c) z) (ap (λ z. token (Reserved word.Arrow) ∷ z ++ token (Sign symbol.Colon) ∷ token (Name d) ∷ token (Sign symbol.Arrow) ∷ token (Name c) ∷ []) (sym (later_commas name_part f fs)))
    (inr (inl (_, refl, (f, _, refl, (fs, later name_part fs, _, refl, later_accepted name_part _ (λ v. (_, refl, (v, _, refl, (refl, refl)))) fs, (_, refl, (d, _, refl, (_, refl, (c, _, refl, (refl, refl))))))))))
accepts_side SiteStatement t side (sites.composite {g = g} {f = f} {h = h}) = inr (inr (_, refl, (g, _, refl, (_, refl, (f, _, refl, (_, refl, (h, _, refl, (refl, refl))))))))
accepts_side Covers t side sites.no_cover = covers_read [] [] no_each
accepts_side Covers t side sites.dense = inl (_, refl, (_, refl, (_, refl, (refl, refl))))
accepts_side Covers t side (sites.covers {c = c} {cs = cs}) = covers_read (c ∷ cs) (each (λ z. site (phrase.Cover z)) (c ∷ cs)) refl
accepts_side Topology t side (sites.dense_topology {j = j}) = (_, refl, (j, _, refl, inl (_, refl, (_, refl, (refl, refl)))))
accepts_side Topology t side (sites.listed_topology {j = j} {cs = cs}) = (_, refl, (j, _, refl, inr (_, refl, (cs, each (λ z. site (phrase.Cover z)) cs, _, refl, covers_accepted cs, (_, refl, (refl, refl))))))
accepts_side Section t side (statements.at {u = u} {x = x} {xs = xs}) =
    subst (λ z. Accepts (code Section) (tree.At u (x ∷ xs)) z) (ap (λ z. token (Reserved word.At) ∷ token (Name u) ∷ token (Sign symbol.Colon) ∷ z) (ap (λ z. token (Name x) ∷ z) (append-nil (later name_part xs)) ∙ sym (later_commas name_part x xs)))
    (inl (_, refl, (u, _, refl, (_, refl, (x, _, refl, (xs, later name_part xs, [], refl, later_accepted name_part _ (λ v. (_, refl, (v, _, refl, (refl, refl)))) xs, (refl, refl)))))))
accepts_side Section t side (statements.along {f = f} {e = e} {es = es}) =
    subst (λ z. Accepts (code Section) (tree.Along f (e ∷ es)) z) (ap (λ z. token (Reserved word.Along) ∷ token (Name f) ∷ token (Sign symbol.Colon) ∷ z) (ap (λ z. statements.entry e ++ z) (append-nil (later statements.entry es)) ∙ sym (later_commas statements.entry e es)))
    (inr (_, refl, (f, _, refl, (_, refl, (e.from, _, refl, (_, refl, (e.to, _, refl, (es, later statements.entry es, [], refl, later_accepted statements.entry _ (λ v. (_, refl, (v.from, _, refl, (_, refl, (v.to, _, refl, (refl, refl)))))) es, (refl, refl)))))))))
accepts_side Element t side (statements.by_name {x = x}) = inl (x, _, refl, (refl, refl))
accepts_side Element t side (statements.by_place {n = n} {x = x}) = inr (n, x, _, refl, (refl, refl))
accepts_side MapAt t side (statements.map_at {u = u} {e = e} {es = es}) =
    subst (λ z. Accepts (code MapAt) (record { object = u; entries = e ∷ es }) z) (ap (λ z. token (Reserved word.At) ∷ token (Name u) ∷ token (Sign symbol.Colon) ∷ z) (ap (λ z. statements.mapping e ++ z) (append-nil (later statements.mapping es)) ∙ sym (later_commas statements.mapping e es)))
    (_, refl, (u, _, refl, (_, refl, (e.from, _, refl, (_, refl, (e.to, _, refl, (es, later statements.mapping es, [], refl, later_accepted statements.mapping _ (λ v. (_, refl, (v.from, _, refl, (_, refl, (v.to, _, refl, (refl, refl)))))) es, (refl, refl))))))))
accepts_side Sent t side (statements.object_to {d = d} {c = c}) = inl (_, refl, (d, _, refl, (_, refl, (c, _, refl, (refl, refl)))))
accepts_side Sent t side (statements.arrow_to {u = u} {f = f}) = inr (_, refl, (u, _, refl, (_, refl, (f, _, refl, (refl, refl)))))
accepts_side Cover t side (sites.cover_by_none {x = x}) = (_, refl, (x, _, refl, (_, refl, inl (_, refl, (refl, refl)))))
accepts_side Cover t side (sites.cover_by {x = x} {f = f} {fs = fs}) =
    subst (λ z. Accepts (code Cover) (record { object = x; arrows = f ∷ fs }) z) (ap (λ z. token (Reserved word.Cover) ∷ token (Name x) ∷ token (Reserved word.By) ∷ z) (ap (λ z. site (phrase.ArrowName f) ∷ z) (append-nil (later arrow_part fs)) ∙ sym (later_commas arrow_part f fs)))
    (_, refl, (x, _, refl, (_, refl, inr (f, _, refl, (fs, later arrow_part fs, [], refl, later_accepted arrow_part _ (λ v. (_, refl, (v, _, refl, (refl, refl)))) fs, (refl, refl))))))
accepts_side (Under First) t side statements.not_under = (refl, refl)
accepts_side (Under Second) t side statements.not_under = inr (refl, refl)
accepts_side (Under Second) t side (statements.under {j = j}) = inl (_, refl, (j, _, refl, (refl, refl)))
accepts_side Step t side statements.step = step_accepts t
accepts_side (Statement v) t side r = statement_accepts v t side r

-- ---- a phrase of each kind

one_prefix : Derives (type (phrase.PrefixType tree.One) ∷ []) (Reserved word.One ∷ [])
one_prefix = whole_type types.one (this nothing)

one_type : Derives (type (phrase.ProductType tree.One) ∷ []) (Reserved word.One ∷ [])
one_type = whole_type types.product (by_type types.one (this nothing) (whole_type types.product_end nothing))

true_application : Derives (term (phrase.Application tree.Truth) ∷ []) (Reserved word.True ∷ [])
true_application = whole_term terms.application (by_term terms.truth (this nothing) (whole_term terms.application_end nothing))

true_comparison : Derives (term (phrase.Comparison tree.Truth) ∷ []) (Reserved word.True ∷ [])
true_comparison = whole_term terms.uncompared true_application

true_negation : Derives (term (phrase.Negation tree.Truth) ∷ []) (Reserved word.True ∷ [])
true_negation = whole_term terms.compared true_comparison

true_conjunction : Derives (term (phrase.Conjunction tree.Truth) ∷ []) (Reserved word.True ∷ [])
true_conjunction = whole_term terms.conjunction (by_term terms.compared true_comparison (whole_term terms.conjunction_end nothing))

true_disjunction : Derives (term (phrase.Disjunction tree.Truth) ∷ []) (Reserved word.True ∷ [])
true_disjunction = whole_term terms.disjunction (by_term terms.conjunction (by_term terms.compared true_comparison (whole_term terms.conjunction_end nothing)) (whole_term terms.disjunction_end nothing))

true_term : Derives (term (phrase.AnyTerm tree.Truth) ∷ []) (Reserved word.True ∷ [])
true_term = whole_term terms.alone true_disjunction

some_name : Written
some_name = record { text = []; token = 0 }

true_bound : Derives (term (phrase.BinderTerm (tree.Bound Forall (record { variable = some_name; type = tree.One }) tree.Truth)) ∷ []) (Reserved word.Forall ∷ Name some_name ∷ Sign symbol.Colon ∷ Reserved word.One ∷ Sign symbol.Dot ∷ Reserved word.True ∷ [])
true_bound = whole_term terms.bound (this (this (this (by_type types.product_alone one_type (this true_term)))))

one_object : Derives (site (phrase.SiteStatement (tree.Objects (some_name ∷ []))) ∷ []) (Reserved word.Object ∷ Name some_name ∷ [])
unfolding commas
one_object = whole_site sites.objects (this (this nothing))

one_section : Derives (statement (phrase.Section (tree.At some_name (some_name ∷ []))) ∷ []) (Reserved word.At ∷ Name some_name ∷ Sign symbol.Colon ∷ Name some_name ∷ [])
unfolding commas
one_section = whole_statement statements.at (this (this (this (this nothing))))

one_map_at : Derives (statement (phrase.MapAt (record { object = some_name; entries = record { from = tree.ByName some_name; to = tree.ByName some_name } ∷ [] })) ∷ []) (Reserved word.At ∷ Name some_name ∷ Sign symbol.Colon ∷ Name some_name ∷ Sign symbol.Arrow ∷ Name some_name ∷ [])
unfolding commas
one_map_at = whole_statement statements.map_at (this (this (this (by_statement statements.by_name (this nothing) (this (whole_statement statements.by_name (this nothing)))))))

one_step : Derives (statement (phrase.Step (record { rule = some_name; from = []; context = []; hypotheses = []; conclusion = tree.Truth; with_term = None })) ∷ []) (Name some_name ∷ Sign symbol.Colon ∷ Sign symbol.Bar ∷ Sign symbol.Arrow ∷ Reserved word.True ∷ [])
one_step = whole_statement statements.step (this (this (by_term terms.no_variable nothing (this (this true_term)))))

pub sample : {s : Sort} (K : Kind s) → (v : Tree s) × (xs : List Token) × Derives (part K v ∷ []) xs
sample AnyType = (tree.One, _, whole_type types.product_alone one_type)
sample ProductType = (tree.One, _, one_type)
sample (MoreFactors R) = (R, _, whole_type types.product_end nothing)
sample PrefixType = (tree.One, _, one_prefix)
sample AnyTerm = (tree.Truth, _, true_term)
sample Disjunction = (tree.Truth, _, true_disjunction)
sample (MoreDisjuncts r) = (r, _, whole_term terms.disjunction_end nothing)
sample Conjunction = (tree.Truth, _, true_conjunction)
sample (MoreConjuncts r) = (r, _, whole_term terms.conjunction_end nothing)
sample Negation = (tree.Truth, _, true_negation)
sample BinderTerm = (_, _, true_bound)
sample Comparison = (tree.Truth, _, true_comparison)
sample Application = (tree.Truth, _, true_application)
sample (MoreArguments r) = (r, _, whole_term terms.application_end nothing)
sample Atom = (tree.Truth, _, whole_term terms.truth (this nothing))
sample Parentheses = (tree.Unit, _, whole_term terms.unit (this (this nothing)))
sample Context = ([], _, whole_term terms.no_variable nothing)
sample ArrowName = (tree.Declared some_name, Name some_name ∷ [], whole_site sites.declared (this nothing))
sample SiteStatement = (tree.Objects (some_name ∷ []), Reserved word.Object ∷ Name some_name ∷ [], one_object)
sample Covers = (tree.Listed [], [], whole_site sites.no_cover nothing)
sample Topology = (record { name = some_name; covers = tree.Dense }, Reserved word.Topology ∷ Name some_name ∷ Sign symbol.Equals ∷ Reserved word.Dense ∷ [], whole_site sites.dense_topology (this (this (this (this nothing)))))
sample Section = (tree.At some_name (some_name ∷ []), Reserved word.At ∷ Name some_name ∷ Sign symbol.Colon ∷ Name some_name ∷ [], one_section)
sample Element = (tree.ByName some_name, Name some_name ∷ [], whole_statement statements.by_name (this nothing))
sample MapAt = (record { object = some_name; entries = record { from = tree.ByName some_name; to = tree.ByName some_name } ∷ [] }, Reserved word.At ∷ Name some_name ∷ Sign symbol.Colon ∷ Name some_name ∷ Sign symbol.Arrow ∷ Name some_name ∷ [], one_map_at)
sample Sent = (tree.ObjectTo some_name some_name, Reserved word.At ∷ Name some_name ∷ Sign symbol.Colon ∷ Name some_name ∷ [], whole_statement statements.object_to (this (this (this (this nothing)))))
sample Cover = (record { object = some_name; arrows = [] }, Reserved word.Cover ∷ Name some_name ∷ Reserved word.By ∷ Reserved word.None ∷ [], whole_site sites.cover_by_none (this (this (this (this nothing)))))
sample (Under v) = (None, [], whole_statement statements.not_under nothing)
sample Step = (_, _, one_step)
sample (Statement v) = (tree.Hom some_name some_name, Reserved word.Hom ∷ Name some_name ∷ Name some_name ∷ [], whole_statement statements.hom (this (this (this nothing))))
