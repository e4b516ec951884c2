-- Worked examples: which trees lists of tokens derive, and which they do not.
use Rattle.std.proofs.Common.{◌≡◌, ◌⊎◌, inl, inr, ap, subst, Bool, true, false, List, [], ◌∷◌, codes, refl, Some}
use Rattle.topos_text.specs.declared.word.Word.TheVariants as word
use Rattle.topos_text.specs.declared.symbol.Symbol.TheVariants as symbol
use Rattle.topos_text.specs.Tokens.{Token, Written, Name, Reserved, Sign}
use Rattle.topos_text.specs.Trees as tree
use Rattle.topos_text.specs.Trees.{Binding, TypeTree, TermTree, EntryTree, CoversTree, TopologyTree, DocumentTree}
use Rattle.topos_text.specs.Phrases.{term, AnyTerm, Disjunction, MoreDisjuncts, Conjunction, MoreConjuncts, Negation, Comparison, MoreArguments, Atom, Parentheses, commas, each}
use Rattle.topos_text.specs.Types.{product_alone, product, product_end, functor}
use Rattle.topos_text.specs.Terms.{ends_with_body, alone, implication, disjunction, disjunction_end, disjunction_more, conjunction, conjunction_end, conjunction_more, quantified, compared, bound, uncompared, equal, application, application_end, application_more, named, truth, falsity, in_parentheses, subset, first, second, unit, group, pair, member, negation, no_variable}
use Rattle.topos_text.specs.SiteStatements.{objects, arrows, no_cover, dense_topology}
use Rattle.topos_text.specs.Statements.{under, valid}
use Rattle.topos_text.specs.Documents.{Derives, nothing, this, by_type, by_term, by_site, by_statement, IsDocument, first_version, second_version}
use Rattle.topos_text.proofs.WorkedTokens.{x, one_object_tokens, twice_tokens, unknown_tokens, two_topologies_tokens}

abbrev pub binding : Written → TypeTree → Binding
binding v T = record { variable = v; type = T }

abbrev pub entry : Written → Written → EntryTree
entry a b = record { from = a; to = b }

abbrev pub topology : Written → CoversTree → TopologyTree
topology j covers = record { name = j; covers = covers }

-- one object
abbrev pub one_object_tree : DocumentTree
one_object_tree = tree.FirstVersion (tree.Objects (x (codes "U") 2 ∷ []) ∷ []) (tree.Listed []) []

pub one_object_document : IsDocument one_object_tokens one_object_tree
unfolding commas each ends_with_body
one_object_document = record { side = _; right_side = first_version; derives = by_site objects (this (this nothing)) (this (by_site no_cover nothing nothing)) }

-- an object that is declared twice
abbrev pub twice_tree : DocumentTree
twice_tree = tree.FirstVersion (tree.Objects (x (codes "U") 2 ∷ x (codes "U") 4 ∷ []) ∷ []) (tree.Listed []) []

pub twice_document : IsDocument twice_tokens twice_tree
unfolding commas each ends_with_body
twice_document = record { side = _; right_side = first_version; derives = by_site objects (this (this (this (this nothing)))) (this (by_site no_cover nothing nothing)) }

-- an arrow between objects that are not there
abbrev pub unknown_tree : DocumentTree
unknown_tree = tree.FirstVersion (tree.Arrows (x (codes "f") 2 ∷ []) (x (codes "A") 4) (x (codes "B") 6) ∷ []) (tree.Listed []) []

pub unknown_document : IsDocument unknown_tokens unknown_tree
unfolding commas each ends_with_body
unknown_document = record { side = _; right_side = first_version; derives = by_site arrows (this (this (this (this (this (this nothing)))))) (this (by_site no_cover nothing nothing)) }

-- a document of the second version
abbrev pub two_topologies_tree : DocumentTree
two_topologies_tree = tree.SecondVersion (tree.Objects (x (codes "U") 5 ∷ []) ∷ []) (topology (x (codes "J") 8) tree.Dense ∷ []) (tree.Ask tree.Valid (Some (x (codes "J") 14)) [] (tree.Truth) ∷ [])

pub two_topologies_document : IsDocument two_topologies_tokens two_topologies_tree
unfolding commas each ends_with_body
two_topologies_document = record { side = _; right_side = second_version; derives = this (this (this (by_site objects (this (this nothing)) (this (by_site dense_topology (this (this (this (this nothing)))) (this (by_statement valid (this (by_statement under (this (this nothing)) (by_term no_variable nothing (this (by_term alone (by_term disjunction (by_term conjunction (by_term compared (by_term uncompared (by_term application (by_term truth (this nothing) (by_term application_end nothing nothing)) nothing) nothing) (by_term conjunction_end nothing nothing)) (by_term disjunction_end nothing nothing)) nothing) nothing))))) (this nothing)))))))) }

-- p and q or p => forall v : X . v = p or q
abbrev grouped_tokens : List Token
grouped_tokens = Name (x (codes "p") 1) ∷ Reserved word.And ∷ Name (x (codes "q") 3) ∷ Reserved word.Or ∷ Name (x (codes "p") 5) ∷ Sign symbol.Implies ∷ Reserved word.Forall ∷ Name (x (codes "v") 8) ∷ Sign symbol.Colon ∷ Name (x (codes "X") 10) ∷ Sign symbol.Dot ∷ Name (x (codes "v") 12) ∷ Sign symbol.Equals ∷ Name (x (codes "p") 14) ∷ Reserved word.Or ∷ Name (x (codes "q") 16) ∷ []

abbrev grouped : TermTree
grouped = tree.Implies (tree.Or (tree.And (tree.Named (x (codes "p") 1)) (tree.Named (x (codes "q") 3))) (tree.Named (x (codes "p") 5))) (tree.Bound tree.Forall (binding (x (codes "v") 8) (tree.Functor (x (codes "X") 10))) (tree.Or (tree.Equal (tree.Named (x (codes "v") 12)) (tree.Named (x (codes "p") 14))) (tree.Named (x (codes "q") 16))))

grouped_derives : Derives (term (AnyTerm grouped) ∷ []) grouped_tokens
unfolding ends_with_body
grouped_derives = by_term (implication refl) (by_term disjunction (by_term conjunction (by_term compared (by_term uncompared (by_term application (by_term named (this nothing) (by_term application_end nothing nothing)) nothing) nothing) (by_term (conjunction_more refl) (this (by_term compared (by_term uncompared (by_term application (by_term named (this nothing) (by_term application_end nothing nothing)) nothing) nothing) (by_term conjunction_end nothing nothing))) nothing)) (by_term (disjunction_more refl) (this (by_term conjunction (by_term compared (by_term uncompared (by_term application (by_term named (this nothing) (by_term application_end nothing nothing)) nothing) nothing) (by_term conjunction_end nothing nothing)) (by_term disjunction_end nothing nothing))) nothing)) (this (by_term alone (by_term disjunction (by_term conjunction (by_term quantified (by_term bound (this (this (this (by_type product_alone (by_type product (by_type functor (this nothing) (by_type product_end nothing nothing)) nothing) (this (by_term alone (by_term disjunction (by_term conjunction (by_term compared (by_term equal (by_term application (by_term named (this nothing) (by_term application_end nothing nothing)) (this (by_term application (by_term named (this nothing) (by_term application_end nothing nothing)) nothing))) nothing) (by_term conjunction_end nothing nothing)) (by_term (disjunction_more refl) (this (by_term conjunction (by_term compared (by_term uncompared (by_term application (by_term named (this nothing) (by_term application_end nothing nothing)) nothing) nothing) (by_term conjunction_end nothing nothing)) (by_term disjunction_end nothing nothing))) nothing)) nothing) nothing)))))) nothing) (by_term conjunction_end nothing nothing)) (by_term disjunction_end nothing nothing)) nothing) nothing))) nothing

-- Where a binder's body goes on with `or`, no derivation ends the body before it: no list of tokens gives a disjunction with a bare binder on its left.
is_or : TermTree → Bool
is_or (tree.Or t u) = true
is_or _ = false

no_or_in_application : {s t : TermTree} {toks : List Token} → Derives (term (MoreArguments s t) ∷ []) toks → is_or t ≡ true → is_or s ≡ true
unfolding is_or
no_or_in_application (by_term application_end nothing nothing) h = h
no_or_in_application (by_term application_more (by_term c d (by_term m k nothing)) nothing) h = let bad : false ≡ true = no_or_in_application (by_term m k nothing) h in absurd cc

no_or_in_parentheses : {t : TermTree} {toks : List Token} → Derives (term (Parentheses t) ∷ []) toks → is_or t ≡ true → ⊥
unfolding is_or
no_or_in_parentheses (by_term unit d nothing) h = absurd cc
no_or_in_parentheses (by_term group d nothing) h = absurd cc
no_or_in_parentheses (by_term pair d nothing) h = absurd cc

no_or_in_atom : {t : TermTree} {toks : List Token} → Derives (term (Atom t) ∷ []) toks → is_or t ≡ true → ⊥
unfolding is_or
no_or_in_atom (by_term named d nothing) h = absurd cc
no_or_in_atom (by_term truth d nothing) h = absurd cc
no_or_in_atom (by_term falsity d nothing) h = absurd cc
no_or_in_atom (by_term in_parentheses (by_term c d nothing) nothing) h = no_or_in_parentheses (by_term c d nothing) h
no_or_in_atom (by_term subset d nothing) h = absurd cc
no_or_in_atom (by_term first d nothing) h = absurd cc
no_or_in_atom (by_term second d nothing) h = absurd cc

no_or_in_comparison : {t : TermTree} {toks : List Token} → Derives (term (Comparison t) ∷ []) toks → is_or t ≡ true → ⊥
unfolding is_or
no_or_in_comparison (by_term uncompared (by_term application (by_term c d (by_term m k nothing)) nothing) nothing) h =
    no_or_in_atom (by_term c d nothing) (no_or_in_application (by_term m k nothing) h)
no_or_in_comparison (by_term equal d nothing) h = absurd cc
no_or_in_comparison (by_term member d nothing) h = absurd cc

no_or_in_negation : {t : TermTree} {toks : List Token} → Derives (term (Negation t) ∷ []) toks → is_or t ≡ true → ⊥
unfolding is_or
no_or_in_negation (by_term negation d nothing) h = absurd cc
no_or_in_negation (by_term quantified (by_term bound d nothing) nothing) h = absurd cc
no_or_in_negation (by_term compared (by_term c d nothing) nothing) h = no_or_in_comparison (by_term c d nothing) h

no_or_behind : {s t : TermTree} {toks : List Token} → Derives (term (MoreConjuncts s t) ∷ []) toks → is_or t ≡ true → is_or s ≡ true
unfolding is_or
no_or_behind (by_term conjunction_end nothing nothing) h = h
no_or_behind (by_term (conjunction_more closed) (this (by_term c d (by_term m k nothing))) nothing) h = let bad : false ≡ true = no_or_behind (by_term m k nothing) h in absurd cc

no_or_in_conjunction : {t : TermTree} {toks : List Token} → Derives (term (Conjunction t) ∷ []) toks → is_or t ≡ true → ⊥
no_or_in_conjunction (by_term conjunction (by_term c d (by_term m k nothing)) nothing) h = no_or_in_negation (by_term c d nothing) (no_or_behind (by_term m k nothing) h)

left_side : TermTree → TermTree
left_side (tree.Or t u) = t
left_side t = t

-- the tree so far is the whole one, or the left side of the whole one does not end with the body of a binder
left_of_or : {s t u : TermTree} {toks : List Token} → Derives (term (MoreDisjuncts s (tree.Or t u)) ∷ []) toks → (s ≡ tree.Or t u) ⊎ (ends_with_body t ≡ false)
unfolding left_side
left_of_or (by_term disjunction_end nothing nothing) = inl refl
left_of_or (by_term (disjunction_more closed) (this (by_term c d (by_term m k nothing))) nothing) =
    elim (left_of_or (by_term m k nothing)) [ inl e ↦ inr (subst (λ z. ends_with_body z ≡ false) (ap left_side e) closed) | inr e ↦ inr e ]

closed_before_or : {t u : TermTree} {toks : List Token} → Derives (term (Disjunction (tree.Or t u)) ∷ []) toks → ends_with_body t ≡ false
unfolding is_or
closed_before_or (by_term disjunction (by_term c d (by_term m k nothing)) nothing) =
    elim (left_of_or (by_term m k nothing)) [ inl e ↦ absurd (no_or_in_conjunction (by_term c d nothing) (ap is_or e)) | inr e ↦ e ]

no_binder_before_or : (b : Binding) (t u : TermTree) (toks : List Token) → Derives (term (AnyTerm (tree.Or (tree.Bound tree.Forall b t) u)) ∷ []) toks → ⊥
unfolding ends_with_body
no_binder_before_or b t u toks (by_term alone (by_term c d nothing) nothing) = let closed : true ≡ false = closed_before_or (by_term c d nothing) in absurd cc
