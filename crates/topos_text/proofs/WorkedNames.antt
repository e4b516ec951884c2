-- Worked examples, by computation: what the names of a graph and of terms stand for. The examples begin with tokens: that a token is the longest one is shown by trying all longer
-- fronts of the text, which is too much for a text of this length.
use Rattle.std.specs.Prelude.{◌≡◌, Bool, true, false, cond, List, [], ◌∷◌, codes, refl, Some, None, Ok, Err}
use Rattle.topos_model.specs.declared.doc.Doc.{Doc}
use Rattle.topos_model.specs.declared.ty.Ty.{Base}
use Rattle.topos_model.specs.declared.term.Term.{Var, App, Eval, Exists, Eq}
use Rattle.topos_model.specs.declared.stmt.Stmt.TheVariants.{Presheaf, Valid}
use Rattle.topos_model.specs.declared.fault.Fault.TheVariants.{TooMany, NameTwice, NameUnknown}
use Rattle.topos_model.specs.declared.fault.Kind.{Kind}
use Rattle.topos_model.specs.declared.fault.Kind.TheVariants as kind
use Rattle.topos_text.specs.declared.word.Word.TheVariants as word
use Rattle.topos_text.specs.declared.symbol.Symbol.TheVariants as symbol
use Rattle.topos_text.specs.Tokens.{Token, Written, Name, Reserved, Sign}
use Rattle.topos_text.specs.Trees as tree
use Rattle.topos_text.specs.Trees.{TermTree, MapAtTree, DocumentTree}
use Rattle.topos_text.specs.Phrases.{commas, each}
use Rattle.topos_text.specs.Types.{product_alone, product, product_end, functor}
use Rattle.topos_text.specs.Terms.{ends_with_body, alone, disjunction, disjunction_end, conjunction, conjunction_end, quantified, compared, bound, equal, application, application_end, named, variables}
use Rattle.topos_text.specs.SiteStatements.{objects, arrows, no_cover}
use Rattle.topos_text.specs.Statements.{at, along, not_under, presheaf, valid}
use Rattle.topos_text.specs.Documents.{nothing, this, by_type, by_term, by_site, by_statement, IsDocument, first_version}
use Rattle.topos_text.specs.Names.{Scope}
use Rattle.topos_text.specs.TermNames.{term_of, context_of}
use Rattle.topos_text.specs.StatementNames.{with_map_at}
use Rattle.topos_text.specs.Resolving.{resolved, Resolves, first_scope}
use Rattle.topos_text.proofs.WorkedTokens.{x}
use Rattle.topos_text.proofs.WorkedDerivations.{binding, entry}
use Rattle.topos_text.proofs.WorkedDocuments.{opened}

-- object V, E; arrow s, t : V -> E; presheaf G { at V : p, q; at E : e; along s : e -> p; along t : e -> q; }; valid a : G | exists b : G . a = b;
abbrev graph_tokens : List Token
graph_tokens = Reserved word.Object ∷ Name (x (codes "V") 2) ∷ Sign symbol.Comma ∷ Name (x (codes "E") 4) ∷ Sign symbol.Semicolon ∷ Reserved word.Arrow ∷ Name (x (codes "s") 7) ∷ Sign symbol.Comma ∷ Name (x (codes "t") 9) ∷ Sign symbol.Colon ∷ Name (x (codes "V") 11) ∷ Sign symbol.Arrow ∷ Name (x (codes "E") 13) ∷ Sign symbol.Semicolon ∷ Reserved word.Presheaf ∷ Name (x (codes "G") 16) ∷ Sign symbol.OpenBrace ∷ Reserved word.At ∷ Name (x (codes "V") 19) ∷ Sign symbol.Colon ∷ Name (x (codes "p") 21) ∷ Sign symbol.Comma ∷ Name (x (codes "q") 23) ∷ Sign symbol.Semicolon ∷ Reserved word.At ∷ Name (x (codes "E") 26) ∷ Sign symbol.Colon ∷ Name (x (codes "e") 28) ∷ Sign symbol.Semicolon ∷ Reserved word.Along ∷ Name (x (codes "s") 31) ∷ Sign symbol.Colon ∷ Name (x (codes "e") 33) ∷ Sign symbol.Arrow ∷ Name (x (codes "p") 35) ∷ Sign symbol.Semicolon ∷ Reserved word.Along ∷ Name (x (codes "t") 38) ∷ Sign symbol.Colon ∷ Name (x (codes "e") 40) ∷ Sign symbol.Arrow ∷ Name (x (codes "q") 42) ∷ Sign symbol.Semicolon ∷ Sign symbol.CloseBrace ∷ Sign symbol.Semicolon ∷ Reserved word.Valid ∷ Name (x (codes "a") 47) ∷ Sign symbol.Colon ∷ Name (x (codes "G") 49) ∷ Sign symbol.Bar ∷ Reserved word.Exists ∷ Name (x (codes "b") 52) ∷ Sign symbol.Colon ∷ Name (x (codes "G") 54) ∷ Sign symbol.Dot ∷ Name (x (codes "a") 56) ∷ Sign symbol.Equals ∷ Name (x (codes "b") 58) ∷ Sign symbol.Semicolon ∷ []

-- its tree
abbrev graph_tree : DocumentTree
graph_tree = tree.FirstVersion (tree.Objects (x (codes "V") 2 ∷ x (codes "E") 4 ∷ []) ∷ tree.Arrows (x (codes "s") 7 ∷ x (codes "t") 9 ∷ []) (x (codes "V") 11) (x (codes "E") 13) ∷ []) (tree.Listed []) (tree.Presheaf (x (codes "G") 16) (tree.At (x (codes "V") 19) (x (codes "p") 21 ∷ x (codes "q") 23 ∷ []) ∷ tree.At (x (codes "E") 26) (x (codes "e") 28 ∷ []) ∷ tree.Along (x (codes "s") 31) (entry (x (codes "e") 33) (x (codes "p") 35) ∷ []) ∷ tree.Along (x (codes "t") 38) (entry (x (codes "e") 40) (x (codes "q") 42) ∷ []) ∷ []) ∷ tree.Ask tree.Valid (None) (binding (x (codes "a") 47) (tree.Functor (x (codes "G") 49)) ∷ []) (tree.Bound tree.Exists (binding (x (codes "b") 52) (tree.Functor (x (codes "G") 54))) (tree.Equal (tree.Named (x (codes "a") 56)) (tree.Named (x (codes "b") 58)))) ∷ [])

graph_document : IsDocument graph_tokens graph_tree
unfolding commas each ends_with_body
graph_document = record { side = _; right_side = first_version; derives = by_site objects (this (this (this (this nothing)))) (this (by_site arrows (this (this (this (this (this (this (this (this nothing)))))))) (this (by_site no_cover nothing (by_statement presheaf (this (this (this (by_statement at (this (this (this (this (this (this nothing)))))) (this (by_statement at (this (this (this (this nothing)))) (this (by_statement along (this (this (this (this (this (this nothing)))))) (this (by_statement along (this (this (this (this (this (this nothing)))))) (this (this nothing)))))))))))) (this (by_statement valid (this (by_statement not_under nothing (by_term variables (this (this (by_type product_alone (by_type product (by_type functor (this nothing) (by_type product_end nothing nothing)) nothing) nothing))) (this (by_term alone (by_term disjunction (by_term conjunction (by_term quantified (by_term bound (this (this (this (by_type product_alone (by_type product (by_type functor (this nothing) (by_type product_end nothing nothing)) nothing) (this (by_term alone (by_term disjunction (by_term conjunction (by_term compared (by_term equal (by_term application (by_term named (this nothing) (by_term application_end nothing nothing)) (this (by_term application (by_term named (this nothing) (by_term application_end nothing nothing)) nothing))) nothing) (by_term conjunction_end nothing nothing)) (by_term disjunction_end nothing nothing)) nothing) nothing)))))) nothing) (by_term conjunction_end nothing nothing)) (by_term disjunction_end nothing nothing)) nothing) nothing))))) (this nothing)))))))) }

-- objects and arrows by their numbers, the arrows behind the identities; the variable a is the outer one
abbrev graph_doc : Doc
graph_doc = record {
  version = 1;
  objects = codes "V" ∷ codes "E" ∷ [];
  arrows = codes "s" ∷ codes "t" ∷ [];
  cat = record { objects = 2; ends = (0, 1) ∷ (0, 1) ∷ []; listed = [] };
  tops = record { name = None; dense = false; covers = [] } ∷ [];
  site_len = 2;
  functors = record { name = codes "G"; elements = Some ((codes "p" ∷ codes "q" ∷ []) ∷ (codes "e" ∷ []) ∷ []) } ∷ [];
  maps = [];
  stmts =
      Presheaf 0 (record { sizes = 2 ∷ 1 ∷ []; along = record { arrow = 2; entries = (0, 0) ∷ [] } ∷ record { arrow = 3; entries = (0, 1) ∷ [] } ∷ [] }) ∷
      Valid 0 (record { types = Base 0 ∷ [] }) (Exists (Base 0) (Eq (Var 1) (Var 0))) ∷
      [];
  cats = [];
  cat_functors = [];
  on_functors = [];
  on_maps = [];
}

graph_resolves : Resolves graph_tree graph_doc
unfolding opened
graph_resolves = refl

is_elements : Kind → Bool
is_elements kind.Elements = true
is_elements _ = false

-- the second element at V is one too many, where one is the limit
too_many_elements : resolved (λ k. cond (is_elements k) (Some 1) None) graph_tree ≡ Err (TooMany kind.Elements 1)
unfolding opened is_elements
too_many_elements = refl

-- a scope with the functor G of two elements at its one object, and the map m
abbrev scope : Scope
scope = record (first_scope (record { total = 1; objects = codes "U" ∷ []; arrows = []; ends = []; listed = [] }) []) {
  functors = record { name = codes "G"; elements = Some ((codes "a" ∷ codes "b" ∷ []) ∷ []) } ∷ [];
  maps = codes "m" ∷ [];
}

abbrev m : Written
m = x (codes "m") 1

abbrev a : TermTree
a = tree.Named (x (codes "a") 3)

-- m(a) is the map m at the variable a
map_applied : term_of scope (codes "a" ∷ []) (tree.Applied (tree.Named m) a) ≡ Ok (App 0 (Var 0))
unfolding opened
map_applied = refl

-- a variable hides a map of its name
variable_applied : term_of scope (codes "m" ∷ codes "a" ∷ []) (tree.Applied (tree.Named m) a) ≡ Ok (Eval (Var 0) (Var 1))
unfolding opened
variable_applied = refl

-- (m)(a): a map's name stands alone nowhere
map_in_parentheses : term_of scope (codes "a" ∷ []) (tree.Applied (tree.Grouped (tree.Named m)) a) ≡ Err (NameUnknown 1 (codes "m"))
unfolding opened
map_in_parentheses = refl

variable_twice : context_of scope [] (binding (x (codes "y") 1) tree.Omega ∷ binding (x (codes "y") 5) tree.Omega ∷ []) ≡ Err (NameTwice 5 (codes "y"))
unfolding opened
variable_twice = refl

-- at U : a -> a, #00 -> b: the element number 0 is a
abbrev entries : MapAtTree
entries = record {
  object = x (codes "U") 2;
  entries =
      record { from = tree.ByName (x (codes "a") 4); to = tree.ByName (x (codes "a") 6) } ∷
      record { from = tree.ByPlace 0 (x (codes "#00") 8); to = tree.ByName (x (codes "b") 10) } ∷
      [];
}

place_twice : with_map_at scope 0 0 ([], []) entries ≡ Err (NameTwice 8 (codes "#00"))
unfolding opened
place_twice = refl
