-- A document that is found within the limits fits.
use Rattle.std.proofs.Common.{◌≡◌, ◌≤◌, ◌<◌, ℕ, ◌+◌, List, [], ◌∷◌, ◌++◌, length, None, refl, arith}
use Rattle.std.proofs.lemmas.List.{length-append}
use Rattle.topos_model.specs.declared.doc.TopDecl.{TopDecl}
use Rattle.topos_model.specs.declared.fault.Kind.TheVariants as kind
use Rattle.topos_model.specs.declared.stmt.Stmt.{Stmt}
use Rattle.topos_text.specs.Trees.{CoversTree, Dense, Listed, TopologyTree, StatementTree, DocumentTree, FirstVersion, SecondVersion}
use Rattle.topos_text.specs.Names.{Name, Checked, ◌>>◌, change_by, limit_fault, twice_fault, names_of, Limits, Space, Scope}
use Rattle.topos_text.specs.SiteNames.{empty_space, site_statement}
use Rattle.topos_text.specs.StatementNames.{statement_of}
use Rattle.topos_text.specs.Resolving.{numbered, in_turn, with_cover, covers_len, only_topology, topology_of, with_topology, with_statement, first_scope, listed_declared, dense_declared, document_with, resolved}
use Rattle.topos_text.specs.Limits.{most, Fits}
use Rattle.document_limits.specs.Laws.{text_limits}
use Rattle.document_limits.proofs.Outcomes.{Always, always_ok, always_bind, always_guard}
use Rattle.document_limits.proofs.Fitting.{below, SpaceFits, site_fits, empty_fits, ScopeFits, statement_fits}

-- Statements in turn keep what each keeps, and there are no more of them than the limit.
abbrev Turned : {S : Type 0} → (S → Type 0) → ℕ → S → Type 0
Turned P n s = P s × (n ≤ most kind.Statements)

turns_fit : {S A : Type 0} (P : S → Type 0) (change : S → A → Checked S) → ((s : S) (a : A) → P s → Always P (change s a))
    → (n : ℕ) (s : S) (xs : List A) → n ≤ most kind.Statements → P s → Always (Turned P (n + length xs)) (in_turn text_limits change n s xs)
unfolding in_turn change_by numbered
turns_fit P change keeps n s [] few h = always_ok (Turned P (n + 0)) s (h, omega (arith, few))
turns_fit P change keeps n s (x ∷ xs) few h =
    always_bind _ (limit_fault kind.Statements (text_limits kind.Statements) n >> change s x) _ (λ t e.
    let kept : P t × (n < most kind.Statements) = one t e in
    let rest = turns_fit P change keeps (n + 1) t xs (omega (arith, kept.1)) kept.0 in
    λ u g. let r = rest u g in (r.0, omega (arith, r.1)))
  where
    one : Always (λ t. P t × (n < most kind.Statements)) (limit_fault kind.Statements (text_limits kind.Statements) n >> change s x)
    one = always_guard _ (limit_fault kind.Statements (text_limits kind.Statements) n) (change s x) (λ a t e. (keeps s x h t e, below kind.Statements n a))

-- what each makes one longer
pub turns_count : {S A : Type 0} (limits : Limits) (m : S → ℕ) (change : S → A → Checked S) → ((s : S) (a : A) → Always (λ t. m t ≡ m s + 1) (change s a))
    → (n : ℕ) (s : S) (xs : List A) → Always (λ t. m t ≡ m s + length xs) (in_turn limits change n s xs)
unfolding in_turn change_by numbered
turns_count limits m change one n s [] = always_ok (λ t. m t ≡ m s + 0) s (omega arith)
turns_count limits m change one n s (x ∷ xs) =
    always_bind _ (limit_fault kind.Statements (limits kind.Statements) n >> change s x) _ (λ t e.
    let step = always_guard (λ t. m t ≡ m s + 1) (limit_fault kind.Statements (limits kind.Statements) n) (change s x) (λ _. one s x) t e in
    λ u g. let r = turns_count limits m change one (n + 1) t xs u g in omega (arith, r, step))

-- the covers of a document of the first version count as statements
covers_fit : (n : ℕ) (s : Space) (covers : CoversTree) → n ≤ most kind.Statements → Always (λ top. n + covers_len text_limits covers ≤ most kind.Statements) (only_topology text_limits n s covers)
unfolding only_topology
covers_fit n s Dense few =
    always_guard _ (limit_fault kind.Statements (text_limits kind.Statements) n) _ (λ a. always_ok (λ top. n + 1 ≤ most kind.Statements) (dense_declared None) (omega (arith, below kind.Statements n a)))
covers_fit n s (Listed cs) few =
    always_bind _ (in_turn text_limits (with_cover text_limits s) n [] cs) _ (λ covers e.
    let r = turns_fit (λ covers. Unit {0}) (with_cover text_limits s) (λ covers c _ t _. tt) n [] cs few tt covers e in
    always_ok (λ top. n + length cs ≤ most kind.Statements) (listed_declared None covers) r.1)

-- the topologies of a document of the second version
abbrev TopologiesFit : List Name × List TopDecl → Type 0
TopologiesFit found = (length found.1 ≡ length found.0 + 1) × (length found.0 ≤ most kind.Topologies)

topology_fits : (s : Space) (found : List Name × List TopDecl) (t : TopologyTree) → TopologiesFit found → Always TopologiesFit (with_topology text_limits s found t)
unfolding with_topology
topology_fits s (names, tops) t h =
    always_guard _ (limit_fault kind.Topologies (text_limits kind.Topologies) (length names)) _ (λ a. always_guard _ (twice_fault (names_of s ++ names) t.name) _ (λ _.
    always_bind _ (topology_of text_limits s t.name.text t.covers) _ (λ top _.
    let same : length (tops ++ top ∷ []) ≡ length (names ++ t.name.text ∷ []) + 1 = omega (arith, h.0, length-append tops (top ∷ []), length-append names (t.name.text ∷ [])) in
    let few : length (names ++ t.name.text ∷ []) ≤ most kind.Topologies = omega (arith, below kind.Topologies (length names) a, length-append names (t.name.text ∷ [])) in
    always_ok TopologiesFit (names ++ t.name.text ∷ [], tops ++ top ∷ []) (same, few))))

abbrev NextFits : Scope × List Stmt → Type 0
NextFits found = ScopeFits found.0

next_fits : (found : Scope × List Stmt) (x : StatementTree) → NextFits found → Always NextFits (with_statement text_limits found x)
unfolding with_statement
next_fits (s, stmts) x h = always_bind _ (statement_of text_limits s x) _ (λ r e. always_ok NextFits (r.0, stmts ++ r.1 ∷ []) (statement_fits s x h r e))

pub next_counts : (limits : Limits) (found : Scope × List Stmt) (x : StatementTree) → Always (λ t. length t.1 ≡ length found.1 + 1) (with_statement limits found x)
unfolding with_statement
next_counts limits (s, stmts) x =
    always_bind _ (statement_of limits s x) _ (λ r e. always_ok (λ t. length t.1 ≡ length stmts + 1) (r.0, stmts ++ r.1 ∷ []) (length-append stmts (r.1 ∷ [])))

first_fits : (site : Space) (topologies : List Name) → SpaceFits site → ScopeFits (first_scope site topologies)
first_fits site topologies h = record { site = h; functors = λ x i. absurd i; cats = λ d i. absurd i; on_functors = λ p i. absurd i }

fits_whole : (version n : ℕ) (last : Scope × List Stmt) (tops : List TopDecl) → ScopeFits last.0 → n + length last.1 ≤ most kind.Statements → length tops ≤ most kind.Topologies + 1 → Fits (document_with text_limits version n last tops)
fits_whole version n last tops h few topologies = record {
  statements = few;
  site = h.site;
  topologies = topologies;
  functors = h.functors;
  cats = h.cats;
  on_functors = h.on_functors;
}

pub document_fits : (tree : DocumentTree) → Always Fits (resolved text_limits tree)
unfolding resolved
document_fits (FirstVersion statements covers rest) =
    always_bind _ (in_turn text_limits (site_statement text_limits) 0 (empty_space statements) statements) _ (λ site e.
    let a = turns_fit SpaceFits (site_statement text_limits) site_fits 0 (empty_space statements) statements (omega arith) (empty_fits statements) site e in
    always_bind _ (only_topology text_limits (length statements) site covers) _ (λ top f.
    let b = covers_fit (length statements) site covers (omega (arith, a.1)) top f in
    let n = length statements + covers_len text_limits covers in
    always_bind _ (in_turn text_limits (with_statement text_limits) n (first_scope site [], []) rest) _ (λ last g.
    let c = turns_fit NextFits (with_statement text_limits) next_fits n (first_scope site [], []) rest b (first_fits site [] a.0) last g in
    let d = turns_count text_limits (λ t. length t.1) (with_statement text_limits) (next_counts text_limits) n (first_scope site [], []) rest last g in
    always_ok Fits _ (fits_whole 1 n last (top ∷ []) c.0 (omega (arith, c.1, d)) (omega arith)))))
document_fits (SecondVersion statements tops rest) =
    always_bind _ (in_turn text_limits (site_statement text_limits) 1 (empty_space statements) statements) _ (λ site e.
    let a = turns_fit SpaceFits (site_statement text_limits) site_fits 1 (empty_space statements) statements (omega arith) (empty_fits statements) site e in
    always_bind _ (in_turn text_limits (with_topology text_limits site) (1 + length statements) ([], listed_declared None [] ∷ []) tops) _ (λ found f.
    let b = turns_fit TopologiesFit (with_topology text_limits site) (topology_fits site) (1 + length statements) ([], listed_declared None [] ∷ []) tops a.1 (refl, omega arith) found f in
    let n = 1 + length statements + length tops in
    always_bind _ (in_turn text_limits (with_statement text_limits) n (first_scope site found.0, []) rest) _ (λ last g.
    let c = turns_fit NextFits (with_statement text_limits) next_fits n (first_scope site found.0, []) rest b.1 (first_fits site found.0 a.0) last g in
    let d = turns_count text_limits (λ t. length t.1) (with_statement text_limits) (next_counts text_limits) n (first_scope site found.0, []) rest last g in
    always_ok Fits _ (fits_whole 2 n last found.1 c.0 (omega (arith, c.1, d)) (omega (arith, b.0.0, b.0.1))))))
