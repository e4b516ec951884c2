-- Documents from their trees: names become numbers, in the order of the tokens.
use Rattle.std.specs.Prelude.{◌≡◌, ℕ, ◌+◌, true, false, List, [], ◌∷◌, ◌++◌, map, length, Option, Some, None, Ok}
use Rattle.topos_model.specs.declared.doc.Doc.{Doc}
use Rattle.topos_model.specs.declared.doc.TopDecl.{TopDecl}
use Rattle.topos_model.specs.declared.raw.Family.{Family}
use Rattle.topos_model.specs.declared.stmt.Stmt.{Stmt}
use Rattle.topos_model.specs.declared.fault.Kind.TheVariants as kind
use Rattle.topos_text.specs.Trees.{SiteTree, CoverTree, CoversTree, Dense, Listed, TopologyTree, StatementTree, DocumentTree, FirstVersion, SecondVersion}
use Rattle.topos_text.specs.Names.{Name, Checked, ◌>>=◌, ◌>>◌, for_each, change_by, Limits, limit_fault, twice_fault, Space, Scope, names_of}
use Rattle.topos_text.specs.SiteNames.{empty_space, site_statement, raw_category, cover_of}
use Rattle.topos_text.specs.StatementNames.{statement_of}

-- each of a list with its number, from n on
unfoldable pub numbered : {A : Type 0} → ℕ → List A → List (ℕ × A)
numbered n [] = []
numbered n (a ∷ rest) = (n, a) ∷ numbered (n + 1) rest

abbrev pub dense_declared : Option Name → TopDecl
dense_declared j = record { name = j; dense = true; covers = [] }

abbrev pub listed_declared : Option Name → List Family → TopDecl
listed_declared j covers = record { name = j; dense = false; covers = covers }

-- the names after the site, without those of topologies
abbrev pub first_scope : Space → List Name → Scope
first_scope site topologies = record { site = site; topologies = topologies; functors = []; maps = []; cats = []; cat_functors = []; on_functors = []; on_maps = [] }

module _ (limits : Limits) where
  -- One statement after the other, each with the number of those before it: there may be no more of them than the limit.
  unfoldable pub in_turn : {S A : Type 0} → (S → A → Checked S) → ℕ → S → List A → Checked S
  in_turn change n s xs = change_by (λ t x. limit_fault kind.Statements (limits kind.Statements) x.0 >> change t x.1) s (numbered n xs)

  -- the site, n statements standing before it
  abbrev pub site_of : ℕ → List SiteTree → Checked Space
  site_of n statements = in_turn (site_statement limits) n (empty_space statements) statements

  unfoldable pub with_cover : Space → List Family → CoverTree → Checked (List Family)
  with_cover s covers c = do
    cover ← cover_of s c
    Ok (covers ++ cover ∷ [])

  -- the topology of a document of the first version: `topology dense` is a statement, and so is each cover
  unfoldable pub only_topology : ℕ → Space → CoversTree → Checked TopDecl
  only_topology n s Dense = do
    limit_fault kind.Statements (limits kind.Statements) n
    Ok (dense_declared None)
  only_topology n s (Listed cs) = do
    covers ← in_turn (with_cover s) n [] cs
    Ok (listed_declared None covers)

  -- how many statements the covers are in a document of the first version
  abbrev pub covers_len : CoversTree → ℕ
  covers_len Dense = 1
  covers_len (Listed cs) = length cs

  abbrev pub topology_of : Space → Name → CoversTree → Checked TopDecl
  topology_of s j Dense = Ok (dense_declared (Some j))
  topology_of s j (Listed cs) = do
    covers ← for_each (cover_of s) cs
    Ok (listed_declared (Some j) covers)

  -- a topology of a document of the second version, after those with these names
  unfoldable pub with_topology : Space → List Name × List TopDecl → TopologyTree → Checked (List Name × List TopDecl)
  with_topology s (names, tops) t = do
    limit_fault kind.Topologies (limits kind.Topologies) (length names)
    twice_fault (names_of s ++ names) t.name
    top ← topology_of s t.name.text t.covers
    Ok (names ++ t.name.text ∷ [], tops ++ top ∷ [])

  unfoldable pub with_statement : Scope × List Stmt → StatementTree → Checked (Scope × List Stmt)
  with_statement (s, stmts) x = do
    r ← statement_of limits s x
    Ok (r.0, stmts ++ r.1 ∷ [])

  abbrev pub document_with : ℕ → ℕ → Scope × List Stmt → List TopDecl → Doc
  document_with version site_len (s, stmts) tops = record {
    version = version;
    objects = s.site.objects;
    arrows = s.site.arrows;
    cat = raw_category s.site;
    tops = tops;
    site_len = site_len;
    functors = s.functors;
    maps = s.maps;
    stmts = stmts;
    cats = s.cats;
    cat_functors = map (λ f. f.0) s.cat_functors;
    on_functors = s.on_functors;
    on_maps = s.on_maps;
  }

  -- The document of a tree, or its first fault among a limit, a name that stands twice and a name that is unknown.
  unfoldable pub resolved : DocumentTree → Checked Doc
  resolved (FirstVersion statements covers rest) = do
    site ← site_of 0 statements
    top ← only_topology (length statements) site covers
    let n = length statements + covers_len covers
    last ← in_turn with_statement n (first_scope site [], []) rest
    Ok (document_with 1 n last (top ∷ []))
  resolved (SecondVersion statements tops rest) = do
    site ← site_of 1 statements
    found ← in_turn (with_topology site) (1 + length statements) ([], listed_declared None [] ∷ []) tops
    let n = 1 + length statements + length tops
    last ← in_turn with_statement n (first_scope site found.0, []) rest
    Ok (document_with 2 n last found.1)

-- the tree is the document, whatever its size
abbrev pub Resolves : DocumentTree → Doc → Type 0
Resolves tree doc = resolved (λ kind. None) tree ≡ Ok doc
