-- Worked examples, by computation: second categories, derivations, certificates and products.
use Rattle.std.specs.Prelude.{◌≡◌, ℕ, false, List, [], ◌∷◌, codes, refl, Option, Some, None, Ok, Err}
use Rattle.topos_model.specs.declared.ty.Ty.{One, Omega, Two}
use Rattle.topos_model.specs.declared.term.Term.{Var, Star, Fst, Snd, Eq, Truth, And, Exists}
use Rattle.topos_model.specs.declared.stmt.Stmt.{Stmt}
use Rattle.topos_model.specs.declared.stmt.Stmt.TheVariants.{Category, CatFunctor, PresheafOf, Lan, Along, Derive, Why, Valid}
use Rattle.topos_model.specs.declared.fault.Fault.TheVariants.{NameUnknown}
use Rattle.topos_text.specs.declared.word.Word.TheVariants as word
use Rattle.topos_text.specs.declared.symbol.Symbol.TheVariants as symbol
use Rattle.topos_text.specs.Tokens.{Token, Written, Name, Place, Reserved, Sign}
use Rattle.topos_text.specs.Trees as tree
use Rattle.topos_text.specs.Trees.{TermTree, Binding, PlaceTree, StepTree, DocumentTree}
use Rattle.topos_text.specs.Phrases.{commas, each}
use Rattle.topos_text.specs.Types.{product_alone, product, product_end, product_more, one, omega}
use Rattle.topos_text.specs.Types.{group as type_group}
use Rattle.topos_text.specs.Terms.{ends_with_body, alone, disjunction, disjunction_end, conjunction, conjunction_end, conjunction_more, quantified, compared, bound, uncompared, equal, application, application_end, named, truth, in_parentheses, first, second, unit, no_variable, variables}
use Rattle.topos_text.specs.SiteStatements.{objects, no_cover}
use Rattle.topos_text.specs.Statements.{at, not_under, step, object_to, sheaf, valid, why, derive, category, category_functor, restricted, presheaf_on, extended}
use Rattle.topos_text.specs.Documents.{nothing, this, by_type, by_term, by_site, by_statement, IsDocument, first_version}
use Rattle.topos_text.specs.StatementNames.{space_of, with_sent, on_functor_of, step_of}
use Rattle.topos_text.specs.Resolving.{resolved, Resolves}
use Rattle.topos_text.proofs.WorkedTokens.{x}
use Rattle.topos_text.proofs.WorkedDerivations.{binding}
use Rattle.topos_text.proofs.WorkedDocuments.{opened}

later_opened : Unit {0}
unfolding opened space_of with_sent on_functor_of step_of
later_opened = tt

abbrev place_tree : ℕ → Written → PlaceTree
place_tree n w = record { number = n; written = w }

abbrev step_tree : Written → List PlaceTree → List Binding → List TermTree → TermTree → Option TermTree → StepTree
step_tree rule places Γ hyps concl t = record { rule = rule; from = places; context = Γ; hypotheses = hyps; conclusion = concl; with_term = t }

-- the statements behind the site, where there is no fault
abbrev resolved_stmts : DocumentTree → List Stmt
resolved_stmts t = elim (resolved (λ k. None) t) [ Ok doc ↦ doc.stmts | Err fault ↦ [] ]

-- object E; category D { object d; }; functor F : D { at d : E; }; presheaf P of D { at d : p; }; lan F P as L with e; functor F L as Y;
abbrev extension_tokens : List Token
extension_tokens = Reserved word.Object ∷ Name (x (codes "E") 2) ∷ Sign symbol.Semicolon ∷ Reserved word.Category ∷ Name (x (codes "D") 5) ∷ Sign symbol.OpenBrace ∷ Reserved word.Object ∷ Name (x (codes "d") 8) ∷ Sign symbol.Semicolon ∷ Sign symbol.CloseBrace ∷ Sign symbol.Semicolon ∷ Reserved word.Functor ∷ Name (x (codes "F") 13) ∷ Sign symbol.Colon ∷ Name (x (codes "D") 15) ∷ Sign symbol.OpenBrace ∷ Reserved word.At ∷ Name (x (codes "d") 18) ∷ Sign symbol.Colon ∷ Name (x (codes "E") 20) ∷ Sign symbol.Semicolon ∷ Sign symbol.CloseBrace ∷ Sign symbol.Semicolon ∷ Reserved word.Presheaf ∷ Name (x (codes "P") 25) ∷ Reserved word.Of ∷ Name (x (codes "D") 27) ∷ Sign symbol.OpenBrace ∷ Reserved word.At ∷ Name (x (codes "d") 30) ∷ Sign symbol.Colon ∷ Name (x (codes "p") 32) ∷ Sign symbol.Semicolon ∷ Sign symbol.CloseBrace ∷ Sign symbol.Semicolon ∷ Reserved word.Lan ∷ Name (x (codes "F") 37) ∷ Name (x (codes "P") 38) ∷ Reserved word.As ∷ Name (x (codes "L") 40) ∷ Reserved word.With ∷ Name (x (codes "e") 42) ∷ Sign symbol.Semicolon ∷ Reserved word.Functor ∷ Name (x (codes "F") 45) ∷ Name (x (codes "L") 46) ∷ Reserved word.As ∷ Name (x (codes "Y") 48) ∷ Sign symbol.Semicolon ∷ []

abbrev extension_tree : DocumentTree
extension_tree = tree.FirstVersion (tree.Objects (x (codes "E") 2 ∷ []) ∷ []) (tree.Listed []) (tree.Category (x (codes "D") 5) ((tree.Objects (x (codes "d") 8 ∷ [])) ∷ []) ∷ tree.CategoryFunctor (x (codes "F") 13) (x (codes "D") 15) (tree.ObjectTo (x (codes "d") 18) (x (codes "E") 20) ∷ []) ∷ tree.PresheafOn (x (codes "P") 25) (x (codes "D") 27) (tree.At (x (codes "d") 30) (x (codes "p") 32 ∷ []) ∷ []) ∷ tree.Extended tree.Lan (x (codes "F") 37) (x (codes "P") 38) (x (codes "L") 40) (x (codes "e") 42) ∷ tree.Restricted (x (codes "F") 45) (x (codes "L") 46) (x (codes "Y") 48) ∷ [])

extension_document : IsDocument extension_tokens extension_tree
unfolding commas each ends_with_body
extension_document = record { side = _; right_side = first_version; derives = by_site objects (this (this nothing)) (this (by_site no_cover nothing (by_statement category (this (this (this (by_site objects (this (this nothing)) (this (this nothing)))))) (this (by_statement category_functor (this (this (this (this (this (by_statement object_to (this (this (this (this nothing)))) (this (this nothing)))))))) (this (by_statement presheaf_on (this (this (this (this (this (by_statement at (this (this (this (this nothing)))) (this (this nothing)))))))) (this (by_statement extended (this (this (this (this (this (this (this nothing))))))) (this (by_statement restricted (this (this (this (this (this nothing))))) (this nothing)))))))))))) }

-- the names of a second category, of a functor from it, of presheaves on it and of their maps are each numbered by themselves
extension_resolves : Resolves extension_tree (record {
  version = 1;
  objects = codes "E" ∷ [];
  arrows = [];
  cat = record { objects = 1; ends = []; listed = [] };
  tops = record { name = None; dense = false; covers = [] } ∷ [];
  site_len = 1;
  functors = record { name = codes "L"; elements = None } ∷ [];
  maps = [];
  stmts =
      Category 0 ∷
      CatFunctor 0 0 (record { at = (0, 0) ∷ []; along = [] }) ∷
      PresheafOf 0 0 (record { sizes = 1 ∷ []; along = [] }) ∷
      Lan 0 0 0 0 ∷
      Along 0 0 1 ∷
      [];
  cats = record { name = codes "D"; objects = codes "d" ∷ []; arrows = []; cat = record { objects = 1; ends = []; listed = [] } } ∷ [];
  cat_functors = codes "F" ∷ [];
  on_functors = record { name = codes "P"; cat = 0; elements = Some ((codes "p" ∷ []) ∷ []) } ∷ record { name = codes "Y"; cat = 0; elements = None } ∷ [];
  on_maps = codes "e" ∷ [];
})
unfolding later_opened
extension_resolves = refl

-- object E; category D { object d; }; functor F : D { at d : E; }; presheaf P of D { at d : p; }; lan F P as L with e; functor F L as Y; sheaf P;
abbrev elsewhere_tokens : List Token
elsewhere_tokens = Reserved word.Object ∷ Name (x (codes "E") 2) ∷ Sign symbol.Semicolon ∷ Reserved word.Category ∷ Name (x (codes "D") 5) ∷ Sign symbol.OpenBrace ∷ Reserved word.Object ∷ Name (x (codes "d") 8) ∷ Sign symbol.Semicolon ∷ Sign symbol.CloseBrace ∷ Sign symbol.Semicolon ∷ Reserved word.Functor ∷ Name (x (codes "F") 13) ∷ Sign symbol.Colon ∷ Name (x (codes "D") 15) ∷ Sign symbol.OpenBrace ∷ Reserved word.At ∷ Name (x (codes "d") 18) ∷ Sign symbol.Colon ∷ Name (x (codes "E") 20) ∷ Sign symbol.Semicolon ∷ Sign symbol.CloseBrace ∷ Sign symbol.Semicolon ∷ Reserved word.Presheaf ∷ Name (x (codes "P") 25) ∷ Reserved word.Of ∷ Name (x (codes "D") 27) ∷ Sign symbol.OpenBrace ∷ Reserved word.At ∷ Name (x (codes "d") 30) ∷ Sign symbol.Colon ∷ Name (x (codes "p") 32) ∷ Sign symbol.Semicolon ∷ Sign symbol.CloseBrace ∷ Sign symbol.Semicolon ∷ Reserved word.Lan ∷ Name (x (codes "F") 37) ∷ Name (x (codes "P") 38) ∷ Reserved word.As ∷ Name (x (codes "L") 40) ∷ Reserved word.With ∷ Name (x (codes "e") 42) ∷ Sign symbol.Semicolon ∷ Reserved word.Functor ∷ Name (x (codes "F") 45) ∷ Name (x (codes "L") 46) ∷ Reserved word.As ∷ Name (x (codes "Y") 48) ∷ Sign symbol.Semicolon ∷ Reserved word.Sheaf ∷ Name (x (codes "P") 51) ∷ Sign symbol.Semicolon ∷ []

abbrev elsewhere_tree : DocumentTree
elsewhere_tree = tree.FirstVersion (tree.Objects (x (codes "E") 2 ∷ []) ∷ []) (tree.Listed []) (tree.Category (x (codes "D") 5) ((tree.Objects (x (codes "d") 8 ∷ [])) ∷ []) ∷ tree.CategoryFunctor (x (codes "F") 13) (x (codes "D") 15) (tree.ObjectTo (x (codes "d") 18) (x (codes "E") 20) ∷ []) ∷ tree.PresheafOn (x (codes "P") 25) (x (codes "D") 27) (tree.At (x (codes "d") 30) (x (codes "p") 32 ∷ []) ∷ []) ∷ tree.Extended tree.Lan (x (codes "F") 37) (x (codes "P") 38) (x (codes "L") 40) (x (codes "e") 42) ∷ tree.Restricted (x (codes "F") 45) (x (codes "L") 46) (x (codes "Y") 48) ∷ tree.Sheaf (None) (x (codes "P") 51) ∷ [])

elsewhere_document : IsDocument elsewhere_tokens elsewhere_tree
unfolding commas each ends_with_body
elsewhere_document = record { side = _; right_side = first_version; derives = by_site objects (this (this nothing)) (this (by_site no_cover nothing (by_statement category (this (this (this (by_site objects (this (this nothing)) (this (this nothing)))))) (this (by_statement category_functor (this (this (this (this (this (by_statement object_to (this (this (this (this nothing)))) (this (this nothing)))))))) (this (by_statement presheaf_on (this (this (this (this (this (by_statement at (this (this (this (this nothing)))) (this (this nothing)))))))) (this (by_statement extended (this (this (this (this (this (this (this nothing))))))) (this (by_statement restricted (this (this (this (this (this nothing))))) (this (by_statement sheaf (this (by_statement not_under nothing (this nothing))) (this nothing)))))))))))))) }

-- a presheaf on a second category stands in no other statement
elsewhere_unknown : resolved (λ k. None) elsewhere_tree ≡ Err (NameUnknown 51 (codes "P"))
unfolding later_opened
elsewhere_unknown = refl

-- object U; derive { hyp : p : Omega | p -> p; weaken #0 : | true -> true; some #1 : | -> exists q : Omega . q with true; };
abbrev derivation_tokens : List Token
derivation_tokens = Reserved word.Object ∷ Name (x (codes "U") 2) ∷ Sign symbol.Semicolon ∷ Reserved word.Derive ∷ Sign symbol.OpenBrace ∷ Name (x (codes "hyp") 6) ∷ Sign symbol.Colon ∷ Name (x (codes "p") 8) ∷ Sign symbol.Colon ∷ Reserved word.Omega ∷ Sign symbol.Bar ∷ Name (x (codes "p") 12) ∷ Sign symbol.Arrow ∷ Name (x (codes "p") 14) ∷ Sign symbol.Semicolon ∷ Name (x (codes "weaken") 16) ∷ Place 0 (x (codes "#0") 17) ∷ Sign symbol.Colon ∷ Sign symbol.Bar ∷ Reserved word.True ∷ Sign symbol.Arrow ∷ Reserved word.True ∷ Sign symbol.Semicolon ∷ Name (x (codes "some") 24) ∷ Place 1 (x (codes "#1") 25) ∷ Sign symbol.Colon ∷ Sign symbol.Bar ∷ Sign symbol.Arrow ∷ Reserved word.Exists ∷ Name (x (codes "q") 30) ∷ Sign symbol.Colon ∷ Reserved word.Omega ∷ Sign symbol.Dot ∷ Name (x (codes "q") 34) ∷ Reserved word.With ∷ Reserved word.True ∷ Sign symbol.Semicolon ∷ Sign symbol.CloseBrace ∷ Sign symbol.Semicolon ∷ []

abbrev derivation_tree : DocumentTree
derivation_tree = tree.FirstVersion (tree.Objects (x (codes "U") 2 ∷ []) ∷ []) (tree.Listed []) (tree.Derive (None) ((step_tree (x (codes "hyp") 6) ([]) (binding (x (codes "p") 8) (tree.Omega) ∷ []) ((tree.Named (x (codes "p") 12)) ∷ []) (tree.Named (x (codes "p") 14)) None) ∷ (step_tree (x (codes "weaken") 16) (place_tree 0 (x (codes "#0") 17) ∷ []) [] ((tree.Truth) ∷ []) (tree.Truth) None) ∷ (step_tree (x (codes "some") 24) (place_tree 1 (x (codes "#1") 25) ∷ []) [] ([]) (tree.Bound tree.Exists (binding (x (codes "q") 30) (tree.Omega)) (tree.Named (x (codes "q") 34))) (Some (tree.Truth))) ∷ []) ∷ [])

derivation_document : IsDocument derivation_tokens derivation_tree
unfolding commas each ends_with_body
derivation_document = record { side = _; right_side = first_version; derives = by_site objects (this (this nothing)) (this (by_site no_cover nothing (by_statement derive (this (by_statement not_under nothing (this (by_statement step (this (this (by_term variables (this (this (by_type product_alone (by_type product (by_type omega (this nothing) (by_type product_end nothing nothing)) nothing) nothing))) (this (by_term alone (by_term disjunction (by_term conjunction (by_term compared (by_term uncompared (by_term application (by_term named (this nothing) (by_term application_end nothing nothing)) nothing) nothing) (by_term conjunction_end nothing nothing)) (by_term disjunction_end nothing nothing)) nothing) (this (by_term alone (by_term disjunction (by_term conjunction (by_term compared (by_term uncompared (by_term application (by_term named (this nothing) (by_term application_end nothing nothing)) nothing) nothing) (by_term conjunction_end nothing nothing)) (by_term disjunction_end nothing nothing)) nothing) nothing))))))) (this (by_statement step (this (this (this (by_term no_variable nothing (this (by_term alone (by_term disjunction (by_term conjunction (by_term compared (by_term uncompared (by_term application (by_term truth (this nothing) (by_term application_end nothing nothing)) nothing) nothing) (by_term conjunction_end nothing nothing)) (by_term disjunction_end nothing nothing)) nothing) (this (by_term alone (by_term disjunction (by_term conjunction (by_term compared (by_term uncompared (by_term application (by_term truth (this nothing) (by_term application_end nothing nothing)) nothing) nothing) (by_term conjunction_end nothing nothing)) (by_term disjunction_end nothing nothing)) nothing) nothing)))))))) (this (by_statement step (this (this (this (by_term no_variable nothing (this (this (by_term alone (by_term disjunction (by_term conjunction (by_term quantified (by_term bound (this (this (this (by_type product_alone (by_type product (by_type omega (this nothing) (by_type product_end nothing nothing)) nothing) (this (by_term alone (by_term disjunction (by_term conjunction (by_term compared (by_term uncompared (by_term application (by_term named (this nothing) (by_term application_end nothing nothing)) nothing) nothing) (by_term conjunction_end nothing nothing)) (by_term disjunction_end nothing nothing)) nothing) nothing)))))) nothing) (by_term conjunction_end nothing nothing)) (by_term disjunction_end nothing nothing)) nothing) (this (by_term alone (by_term disjunction (by_term conjunction (by_term compared (by_term uncompared (by_term application (by_term truth (this nothing) (by_term application_end nothing nothing)) nothing) nothing) (by_term conjunction_end nothing nothing)) (by_term disjunction_end nothing nothing)) nothing) nothing))))))))) (this (this nothing)))))))))) (this nothing)))) }

derivation_resolves : resolved_stmts derivation_tree ≡
    Derive 0 (record {
      steps =
          record { rule = codes "hyp"; from = []; ctx = record { types = Omega ∷ [] }; hyps = Var 0 ∷ []; concl = Var 0; with_term = None } ∷
          record { rule = codes "weaken"; from = 0 ∷ []; ctx = record { types = [] }; hyps = Truth ∷ []; concl = Truth; with_term = None } ∷
          record { rule = codes "some"; from = 1 ∷ []; ctx = record { types = [] }; hyps = []; concl = Exists Omega (Var 0); with_term = Some Truth } ∷
          [];
    }) ∷ []
unfolding later_opened
derivation_resolves = refl

-- object U; why U #0 of { | true };
abbrev certificate_tokens : List Token
certificate_tokens = Reserved word.Object ∷ Name (x (codes "U") 2) ∷ Sign symbol.Semicolon ∷ Reserved word.Why ∷ Name (x (codes "U") 5) ∷ Place 0 (x (codes "#0") 6) ∷ Reserved word.Of ∷ Sign symbol.OpenBrace ∷ Sign symbol.Bar ∷ Reserved word.True ∷ Sign symbol.CloseBrace ∷ Sign symbol.Semicolon ∷ []

abbrev certificate_tree : DocumentTree
certificate_tree = tree.FirstVersion (tree.Objects (x (codes "U") 2 ∷ []) ∷ []) (tree.Listed []) (tree.Why (None) (x (codes "U") 5) (place_tree 0 (x (codes "#0") 6)) [] (tree.Truth) ∷ [])

certificate_document : IsDocument certificate_tokens certificate_tree
unfolding commas each ends_with_body
certificate_document = record { side = _; right_side = first_version; derives = by_site objects (this (this nothing)) (this (by_site no_cover nothing (by_statement why (this (by_statement not_under nothing (this (this (this (this (by_term no_variable nothing (this (by_term alone (by_term disjunction (by_term conjunction (by_term compared (by_term uncompared (by_term application (by_term truth (this nothing) (by_term application_end nothing nothing)) nothing) nothing) (by_term conjunction_end nothing nothing)) (by_term disjunction_end nothing nothing)) nothing) (this nothing)))))))))) (this nothing)))) }

certificate_resolves : resolved_stmts certificate_tree ≡ Why 0 0 0 (record { types = [] }) Truth ∷ []
unfolding later_opened
certificate_resolves = refl

-- object U; valid z : (One * Omega) * One | snd(z) = () and snd(fst(z));
abbrev products_tokens : List Token
products_tokens = Reserved word.Object ∷ Name (x (codes "U") 2) ∷ Sign symbol.Semicolon ∷ Reserved word.Valid ∷ Name (x (codes "z") 5) ∷ Sign symbol.Colon ∷ Sign symbol.OpenParenthesis ∷ Reserved word.One ∷ Sign symbol.Star ∷ Reserved word.Omega ∷ Sign symbol.CloseParenthesis ∷ Sign symbol.Star ∷ Reserved word.One ∷ Sign symbol.Bar ∷ Reserved word.Snd ∷ Sign symbol.OpenParenthesis ∷ Name (x (codes "z") 17) ∷ Sign symbol.CloseParenthesis ∷ Sign symbol.Equals ∷ Sign symbol.OpenParenthesis ∷ Sign symbol.CloseParenthesis ∷ Reserved word.And ∷ Reserved word.Snd ∷ Sign symbol.OpenParenthesis ∷ Reserved word.Fst ∷ Sign symbol.OpenParenthesis ∷ Name (x (codes "z") 27) ∷ Sign symbol.CloseParenthesis ∷ Sign symbol.CloseParenthesis ∷ Sign symbol.Semicolon ∷ []

abbrev products_tree : DocumentTree
products_tree = tree.FirstVersion (tree.Objects (x (codes "U") 2 ∷ []) ∷ []) (tree.Listed []) (tree.Ask tree.Valid (None) (binding (x (codes "z") 5) (tree.Product (tree.Product (tree.One) (tree.Omega)) (tree.One)) ∷ []) (tree.And (tree.Equal (tree.Second (tree.Named (x (codes "z") 17))) (tree.Unit)) (tree.Second (tree.First (tree.Named (x (codes "z") 27))))) ∷ [])

products_document : IsDocument products_tokens products_tree
unfolding commas each ends_with_body
products_document = record { side = _; right_side = first_version; derives = by_site objects (this (this nothing)) (this (by_site no_cover nothing (by_statement valid (this (by_statement not_under nothing (by_term variables (this (this (by_type product_alone (by_type product (by_type type_group (this (by_type product_alone (by_type product (by_type one (this nothing) (by_type product_more (this (by_type omega (this nothing) (by_type product_end nothing nothing))) nothing)) nothing) (this nothing))) (by_type product_more (this (by_type one (this nothing) (by_type product_end nothing nothing))) nothing)) nothing) nothing))) (this (by_term alone (by_term disjunction (by_term conjunction (by_term compared (by_term equal (by_term application (by_term second (this (this (by_term alone (by_term disjunction (by_term conjunction (by_term compared (by_term uncompared (by_term application (by_term named (this nothing) (by_term application_end nothing nothing)) nothing) nothing) (by_term conjunction_end nothing nothing)) (by_term disjunction_end nothing nothing)) nothing) (this nothing)))) (by_term application_end nothing nothing)) (this (by_term application (by_term in_parentheses (by_term unit (this (this nothing)) nothing) (by_term application_end nothing nothing)) nothing))) nothing) (by_term (conjunction_more refl) (this (by_term compared (by_term uncompared (by_term application (by_term second (this (this (by_term alone (by_term disjunction (by_term conjunction (by_term compared (by_term uncompared (by_term application (by_term first (this (this (by_term alone (by_term disjunction (by_term conjunction (by_term compared (by_term uncompared (by_term application (by_term named (this nothing) (by_term application_end nothing nothing)) nothing) nothing) (by_term conjunction_end nothing nothing)) (by_term disjunction_end nothing nothing)) nothing) (this nothing)))) (by_term application_end nothing nothing)) nothing) nothing) (by_term conjunction_end nothing nothing)) (by_term disjunction_end nothing nothing)) nothing) (this nothing)))) (by_term application_end nothing nothing)) nothing) nothing) (by_term conjunction_end nothing nothing))) nothing)) (by_term disjunction_end nothing nothing)) nothing) nothing))))) (this nothing)))) }

products_resolve : resolved_stmts products_tree ≡ Valid 0 (record { types = Two (Two One Omega) One ∷ [] }) (And (Eq (Snd (Var 0)) Star) (Snd (Fst (Var 0)))) ∷ []
unfolding later_opened
products_resolve = refl
