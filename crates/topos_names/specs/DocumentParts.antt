-- What stands in a document behind its site, and behind its topologies.
use Rattle.std.specs.Prelude.{ℕ, ◌+◌, List, [], ◌∷◌, length, None, Ok}
use Rattle.topos_model.specs.declared.doc.Doc.{Doc}
use Rattle.topos_model.specs.declared.doc.TopDecl.{TopDecl}
use Rattle.topos_text.specs.Trees.{CoversTree, TopologyTree, StatementTree}
use Rattle.topos_text.specs.Names.{Name, Checked, ◌>>=◌, Space, Scope}
use Rattle.topos_text.specs.Resolving.{only_topology, covers_len, in_turn, with_statement, with_topology, listed_declared, first_scope, document_with}
use Rattle.topos_names.specs.Spaces.{limits}

-- the statements that may name what is in a scope, of which there are so many before them
unfoldable pub in_scope : ℕ → ℕ → Scope → List TopDecl → List StatementTree → Checked Doc
in_scope version before scope tops rest = do
  last ← in_turn limits (with_statement limits) before (scope, []) rest
  Ok (document_with limits version before last tops)

-- those behind a site, its topologies and their names
abbrev pub behind : ℕ → ℕ → Space → List Name → List TopDecl → List StatementTree → Checked Doc
behind version before site names tops rest = in_scope version before (first_scope site names) tops rest

-- the covers and the statements
unfoldable pub first_behind : ℕ → Space → CoversTree → List StatementTree → Checked Doc
first_behind n site covers rest = do
  top ← only_topology limits n site covers
  behind 1 (n + covers_len limits covers) site [] (top ∷ []) rest

-- the topologies and the statements
unfoldable pub second_behind : ℕ → Space → List TopologyTree → List StatementTree → Checked Doc
second_behind n site tops rest = do
  found ← in_turn limits (with_topology limits site) n ([], listed_declared None [] ∷ []) tops
  behind 2 (n + length tops) site found.0 found.1 rest
