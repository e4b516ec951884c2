-- The document of a tree where a part of it fails, and where none does.
use Rattle.std.proofs.Common.{◌≡◌, ℕ, ◌+◌, List, [], ◌∷◌, length, None, Result, Ok, Err, refl, sym, ap, ◌∙◌}
use Rattle.std.specs.Prelude.{IfOk, IfErr}
use Rattle.topos_model.specs.declared.doc.Doc.{Doc}
use Rattle.topos_model.specs.declared.fault.Fault.{Fault}
use Rattle.topos_model.specs.declared.doc.TopDecl.{TopDecl}
use Rattle.topos_model.specs.declared.stmt.Stmt.{Stmt}
use Rattle.topos_text.specs.Trees.{SiteTree, CoversTree, TopologyTree, StatementTree, FirstVersion, SecondVersion}
use Rattle.topos_text.specs.Names.{Name, Checked, Space, Scope}
use Rattle.topos_text.specs.Resolving.{site_of, only_topology, covers_len, in_turn, with_statement, with_topology, listed_declared, document_with, resolved}
use Rattle.topos_names.specs.Spaces.{limits}
use Rattle.topos_names.specs.Stops.{Stops}
use Rattle.topos_names.specs.declared.stop.NameStop.{NameStop}
use Rattle.topos_names.specs.DocumentParts.{in_scope, behind, first_behind, second_behind}

module _ (version before : ℕ) (scope : Scope) (tops : List TopDecl) (rest : List StatementTree) where
  pub statements_fail : (fault : Fault) → in_turn limits (with_statement limits) before (scope, []) rest ≡ Err fault → in_scope version before scope tops rest ≡ Err fault
  unfolding in_scope
  statements_fail fault e = rw e refl

  pub statements_given : (last : Scope) (stmts : List Stmt) → in_turn limits (with_statement limits) before (scope, []) rest ≡ Ok (last, stmts) → in_scope version before scope tops rest ≡ Ok (document_with limits version before (last, stmts) tops)
  unfolding in_scope
  statements_given last stmts e = rw e refl

module _ (n : ℕ) (site : Space) (rest : List StatementTree) where
  pub topology_fails : (covers : CoversTree) (fault : Fault) → only_topology limits n site covers ≡ Err fault → first_behind n site covers rest ≡ Err fault
  unfolding first_behind
  topology_fails covers fault e = rw e refl

  pub topology_given : (covers : CoversTree) (top : TopDecl) (m : ℕ) → only_topology limits n site covers ≡ Ok top → m ≡ n + covers_len limits covers → first_behind n site covers rest ≡ behind 1 m site [] (top ∷ []) rest
  unfolding first_behind
  topology_given covers top m e is = rw (e, is) refl

  pub topologies_fail : (topologies : List TopologyTree) (fault : Fault) → in_turn limits (with_topology limits site) n ([], listed_declared None [] ∷ []) topologies ≡ Err fault → second_behind n site topologies rest ≡ Err fault
  unfolding second_behind
  topologies_fail topologies fault e = rw e refl

  pub topologies_given : (topologies : List TopologyTree) (names : List Name) (tops : List TopDecl) (m : ℕ) → in_turn limits (with_topology limits site) n ([], listed_declared None [] ∷ []) topologies ≡ Ok (names, tops) → m ≡ n + length topologies →
      second_behind n site topologies rest ≡ behind 2 m site names tops rest
  unfolding second_behind
  topologies_given topologies names tops m e is = rw (e, is) refl

module _ (statements : List SiteTree) (rest : List StatementTree) where
  pub site_fails : (covers : CoversTree) (fault : Fault) → site_of limits 0 statements ≡ Err fault → resolved limits (FirstVersion statements covers rest) ≡ Err fault
  unfolding resolved
  site_fails covers fault e = rw e refl

  pub site_given : (covers : CoversTree) (site : Space) (m : ℕ) → site_of limits 0 statements ≡ Ok site → m ≡ length statements → resolved limits (FirstVersion statements covers rest) ≡ first_behind m site covers rest
  unfolding resolved first_behind in_scope
  site_given covers site m e is = rw (e, is) refl

  pub second_site_fails : (topologies : List TopologyTree) (fault : Fault) → site_of limits 1 statements ≡ Err fault → resolved limits (SecondVersion statements topologies rest) ≡ Err fault
  unfolding resolved
  second_site_fails topologies fault e = rw e refl

  pub second_site_given : (topologies : List TopologyTree) (site : Space) (m : ℕ) → site_of limits 1 statements ≡ Ok site → m ≡ 1 + length statements → resolved limits (SecondVersion statements topologies rest) ≡ second_behind m site topologies rest
  unfolding resolved second_behind in_scope
  second_site_given topologies site m e is = rw (e, is) refl

-- what is found goes through
pub ok_through : {X E : Type 0} (value : X → Doc) (found : Checked Doc) (doc : Doc) (r : Result X E) → found ≡ Ok doc → IfOk r (λ x. value x ≡ doc) → IfOk r (λ x. found ≡ Ok (value x))
ok_through value found doc (Ok x) e h = e ∙ ap Ok (sym h)
ok_through value found doc (Err s) e h = h

pub same_through : {X E : Type 0} (value : X → Doc) (found other : Checked Doc) (r : Result X E) → other ≡ found → IfOk r (λ x. found ≡ Ok (value x)) → IfOk r (λ x. other ≡ Ok (value x))
same_through value found other (Ok x) e h = e ∙ h
same_through value found other (Err s) e h = h

pub stops_through : {X : Type 0} (found other : Checked Doc) (r : Result X NameStop) → other ≡ found → IfErr r (λ s. Stops found s) → IfErr r (λ s. Stops other s)
stops_through found other (Ok x) e h = h
stops_through found other (Err s) e h = λ fault is. e ∙ h fault is
