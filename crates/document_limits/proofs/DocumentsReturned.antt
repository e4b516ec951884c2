-- A document that is found without limits, and fits, is found within them.
use Rattle.std.proofs.Common.{◌≡◌, ◌≤◌, ℕ, ◌+◌, List, [], ◌∷◌, ◌++◌, length, None, refl, arith}
use Rattle.std.specs.Prelude.{Ok}
use Rattle.std.proofs.lemmas.List.{length-append}
use Rattle.topos_model.specs.declared.fault.Kind.TheVariants as kind
use Rattle.topos_model.specs.declared.doc.TopDecl.{TopDecl}
use Rattle.topos_model.specs.declared.stmt.Stmt.{Stmt}
use Rattle.topos_text.specs.Trees.{SiteTree, CoversTree, Dense, Listed, TopologyTree, StatementTree, DocumentTree, FirstVersion, SecondVersion}
use Rattle.topos_text.specs.Names.{Name, Checked, ◌>>=◌, limit_fault, twice_fault, names_of, Space, Scope}
use Rattle.topos_text.specs.SiteNames.{empty_space, site_statement}
use Rattle.topos_text.specs.Limits.{most, Fits}
use Rattle.topos_text.specs.Resolving.{in_turn, covers_len, only_topology, topology_of, with_topology, with_statement, first_scope, listed_declared, document_with, resolved}
use Rattle.document_limits.specs.Laws.{text_limits}
use Rattle.document_limits.proofs.Outcomes.{Always, always_ok, always_bind, always_guard, Returns, returns_itself, returns_bind, returns_guard, returns_limit}
use Rattle.document_limits.proofs.Dropped.{no_limits}
use Rattle.document_limits.proofs.DocumentsFit.{turns_count, next_counts}
use Rattle.document_limits.proofs.Fitting.{SpaceFits, ScopeFits}
use Rattle.document_limits.proofs.Returned.{passes, site_returns, site_back, IsWhole, sites_whole}
use Rattle.document_limits.proofs.StatementsReturned.{ScopeIsWhole, NextFits, NextIsWhole, next_returns, next_steps, turns_step, turns_return, turns_are_changes, only_returns}

-- the topologies of a document of the second version
abbrev TopologiesFit : List Name × List TopDecl → Type 0
TopologiesFit found = length found.0 ≤ most kind.Topologies

topology_longer : (s : Space) (found : List Name × List TopDecl) (t : TopologyTree) → Always (λ u. (length u.0 ≡ length found.0 + 1) × (length u.1 ≡ length found.1 + 1)) (with_topology no_limits s found t)
unfolding with_topology limit_fault
topology_longer s (names, tops) t =
    always_guard _ (twice_fault (names_of s ++ names) t.name) _ (λ _. always_bind _ (topology_of no_limits s t.name.text t.covers) _ (λ top _.
    always_ok (λ u. (length u.0 ≡ length names + 1) × (length u.1 ≡ length tops + 1)) (names ++ t.name.text ∷ [], tops ++ top ∷ []) (length-append names (t.name.text ∷ []), length-append tops (top ∷ []))))

topology_steps : (s : Space) (found : List Name × List TopDecl) (t : TopologyTree) → Always (λ u. (TopologiesFit u → TopologiesFit found) × (Unit {0} → Unit {0})) (with_topology no_limits s found t)
topology_steps s found t u e = let g = topology_longer s found t u e in (λ h. omega (arith, g.0, h), λ w. w)

topology_kept : {A : Type 0} (P : A → Type 0) (s : Space) (j : Name) (covers : CoversTree) (next : TopDecl → Checked A) → Returns P (topology_of text_limits s j covers >>= next) (topology_of no_limits s j covers >>= next)
topology_kept P s j Dense next = returns_itself P _
topology_kept P s j (Listed cs) next = returns_itself P _

topology_returns : (s : Space) (found : List Name × List TopDecl) → Unit {0} → (t : TopologyTree) → Returns TopologiesFit (with_topology text_limits s found t) (with_topology no_limits s found t)
unfolding with_topology limit_fault
topology_returns s (names, tops) w t =
    returns_limit TopologiesFit (limit_fault kind.Topologies (text_limits kind.Topologies) (length names)) _ _
    (λ u e h. passes kind.Topologies (length names) (omega (arith, (topology_longer s (names, tops) t u e).0, h)))
    (returns_guard TopologiesFit (twice_fault (names_of s ++ names) t.name) _ _ (topology_kept TopologiesFit s t.name.text t.covers (λ top. Ok (names ++ t.name.text ∷ [], tops ++ top ∷ []))))

-- the scope of a document that fits
fitting_scope : (version n : ℕ) (last : Scope × List Stmt) (tops : List TopDecl) → Fits (document_with text_limits version n last tops) → ScopeFits last.0
fitting_scope version n last tops h = record { site = h.site; functors = h.functors; cats = h.cats; on_functors = h.on_functors }

first_whole : (site : Space) (topologies : List Name) → IsWhole site → ScopeIsWhole (first_scope site topologies)
first_whole site topologies w = record { site = w; cats = λ d i. absurd i }

sites_step : (s : Space) (x : SiteTree) → Always (λ t. (SpaceFits t → SpaceFits s) × (Unit {0} → Unit {0})) (site_statement no_limits s x)
sites_step s x t e = (site_back s x t e, λ w. w)

site_found : (n : ℕ) (statements : List SiteTree) → Returns (λ site. SpaceFits site × (n + length statements ≤ most kind.Statements)) (in_turn text_limits (site_statement text_limits) n (empty_space statements) statements) (in_turn no_limits (site_statement no_limits) n (empty_space statements) statements)
site_found n statements site e h =
    turns_return SpaceFits (λ s. Unit {0}) (site_statement text_limits) (site_statement no_limits) (λ s w x. site_returns s x) sites_step n (empty_space statements) statements h.1 tt site e h.0

last_found : (n : ℕ) (first : Scope × List Stmt) (rest : List StatementTree) → NextIsWhole first → Returns (λ last. NextFits last × (n + length rest ≤ most kind.Statements)) (in_turn text_limits (with_statement text_limits) n first rest) (in_turn no_limits (with_statement no_limits) n first rest)
last_found n first rest w last e h =
    turns_return NextFits NextIsWhole (with_statement text_limits) (with_statement no_limits) next_returns next_steps n first rest h.1 w last e h.0

-- what a whole document that fits says of its statements
last_fits : (version n : ℕ) (first : Scope × List Stmt) (rest : List StatementTree) (tops : List TopDecl) (last : Scope × List Stmt) → length first.1 ≡ 0 → in_turn no_limits (with_statement no_limits) n first rest ≡ Ok last
    → Fits (document_with text_limits version n last tops) → ScopeFits first.0 × (n + length rest ≤ most kind.Statements)
last_fits version n first rest tops last none e h =
    let count = turns_count no_limits (λ t. length t.1) (with_statement no_limits) (next_counts no_limits) n first rest last e in
    ((turns_step NextFits NextIsWhole (with_statement no_limits) next_steps n first rest last e).0 (fitting_scope version n last tops h), omega (arith, h.statements, count, none))

pub document_returns : (tree : DocumentTree) → Returns Fits (resolved text_limits tree) (resolved no_limits tree)
unfolding resolved
document_returns (FirstVersion statements covers rest) =
    let n = length statements + covers_len text_limits covers in
    returns_bind Fits (λ site. SpaceFits site × (0 + length statements ≤ most kind.Statements)) _ (in_turn no_limits (site_statement no_limits) 0 (empty_space statements) statements) _ _ (site_found 0 statements)
    (λ site e. always_bind _ (only_topology no_limits (length statements) site covers) _ (λ top f. always_bind _ (in_turn no_limits (with_statement no_limits) n (first_scope site [], []) rest) _ (λ last g.
    always_ok (λ doc. Fits doc → SpaceFits site × (0 + length statements ≤ most kind.Statements)) _ (λ h.
    let a = last_fits 1 n (first_scope site [], []) rest (top ∷ []) last refl g h in (a.0.site, omega (arith, a.1))))))
    (λ site e.
    let whole = turns_are_changes IsWhole (site_statement no_limits) 0 (empty_space statements) statements (sites_whole statements) site e in
    returns_bind Fits (λ top. n ≤ most kind.Statements) _ (only_topology no_limits (length statements) site covers) _ _ (λ top f h. only_returns (length statements) site covers h top f tt)
    (λ top f. always_bind _ (in_turn no_limits (with_statement no_limits) n (first_scope site [], []) rest) _ (λ last g.
    always_ok (λ doc. Fits doc → n ≤ most kind.Statements) _ (λ h. let a = last_fits 1 n (first_scope site [], []) rest (top ∷ []) last refl g h in omega (arith, a.1))))
    (λ top f. returns_bind Fits (λ last. NextFits last × (n + length rest ≤ most kind.Statements)) _ (in_turn no_limits (with_statement no_limits) n (first_scope site [], []) rest) _ _
    (last_found n (first_scope site [], []) rest (first_whole site [] whole))
    (λ last g. always_ok (λ doc. Fits doc → NextFits last × (n + length rest ≤ most kind.Statements)) _ (λ h. (fitting_scope 1 n last (top ∷ []) h, (last_fits 1 n (first_scope site [], []) rest (top ∷ []) last refl g h).1)))
    (λ last g. returns_itself Fits _)))
document_returns (SecondVersion statements tops rest) =
    let n = 1 + length statements + length tops in
    returns_bind Fits (λ site. SpaceFits site × (1 + length statements ≤ most kind.Statements)) _ (in_turn no_limits (site_statement no_limits) 1 (empty_space statements) statements) _ _ (site_found 1 statements)
    (λ site e. always_bind _ (in_turn no_limits (with_topology no_limits site) (1 + length statements) ([], listed_declared None [] ∷ []) tops) _ (λ found f.
    always_bind _ (in_turn no_limits (with_statement no_limits) n (first_scope site found.0, []) rest) _ (λ last g.
    always_ok (λ doc. Fits doc → SpaceFits site × (1 + length statements ≤ most kind.Statements)) _ (λ h.
    let a = last_fits 2 n (first_scope site found.0, []) rest found.1 last refl g h in (a.0.site, omega (arith, a.1))))))
    (λ site e.
    let whole = turns_are_changes IsWhole (site_statement no_limits) 1 (empty_space statements) statements (sites_whole statements) site e in
    returns_bind Fits (λ found. TopologiesFit found × (n ≤ most kind.Statements)) _ (in_turn no_limits (with_topology no_limits site) (1 + length statements) ([], listed_declared None [] ∷ []) tops) _ _
    (λ found f h. turns_return TopologiesFit (λ s. Unit {0}) (with_topology text_limits site) (with_topology no_limits site) (topology_returns site) (topology_steps site) (1 + length statements) ([], listed_declared None [] ∷ []) tops (omega (arith, h.1)) tt found f h.0)
    (λ found f. always_bind _ (in_turn no_limits (with_statement no_limits) n (first_scope site found.0, []) rest) _ (λ last g.
    always_ok (λ doc. Fits doc → TopologiesFit found × (n ≤ most kind.Statements)) _ (λ h.
    let a = last_fits 2 n (first_scope site found.0, []) rest found.1 last refl g h in
    let names = turns_count no_limits (λ t. length t.0) (with_topology no_limits site) (λ s t u e. (topology_longer site s t u e).0) (1 + length statements) ([], listed_declared None [] ∷ []) tops found f in
    let decls = turns_count no_limits (λ t. length t.1) (with_topology no_limits site) (λ s t u e. (topology_longer site s t u e).1) (1 + length statements) ([], listed_declared None [] ∷ []) tops found f in
    (omega (arith, h.topologies, names, decls), omega (arith, a.1)))))
    (λ found f. returns_bind Fits (λ last. NextFits last × (n + length rest ≤ most kind.Statements)) _ (in_turn no_limits (with_statement no_limits) n (first_scope site found.0, []) rest) _ _
    (last_found n (first_scope site found.0, []) rest (first_whole site found.0 whole))
    (λ last g. always_ok (λ doc. Fits doc → NextFits last × (n + length rest ≤ most kind.Statements)) _ (λ h. (fitting_scope 2 n last found.1 h, (last_fits 2 n (first_scope site found.0, []) rest found.1 last refl g h).1)))
    (λ last g. returns_itself Fits _)))
