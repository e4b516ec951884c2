-- What is found within the limits is found without them.
use Rattle.std.proofs.Common.{ℕ, List, [], ◌∷◌, ◌++◌, length, None}
use Rattle.std.specs.Prelude.{Ok}
use Rattle.topos_model.specs.declared.fault.Kind.TheVariants as kind
use Rattle.topos_model.specs.declared.doc.TopDecl.{TopDecl}
use Rattle.topos_model.specs.declared.raw.Family.{Family}
use Rattle.topos_model.specs.declared.stmt.Stmt.{Stmt}
use Rattle.topos_text.specs.Tokens.{Written}
use Rattle.topos_text.specs.Trees as tree
use Rattle.topos_text.specs.Trees.{SiteTree, Objects, Arrows, Composite, CoverTree, CoversTree, Dense, Listed, TopologyTree, EntryTree, SectionTree, At, Along, StatementTree, DocumentTree, FirstVersion, SecondVersion}
use Rattle.topos_text.specs.Names.{Name, Limits, Checked, ◌>>=◌, limit_fault, twice_fault, look_up, Space, Scope, names_of, category_names}
use Rattle.topos_text.specs.SiteNames.{empty_space, object_of, with_object, with_arrow, site_statement}
use Rattle.topos_text.specs.StatementNames.{Sections, with_element, with_entry, with_section, sections_of, stages_of, raw_functor, space_of, statement_of}
use Rattle.topos_text.specs.Resolving.{numbered, in_turn, with_cover, only_topology, topology_of, with_topology, with_statement, resolved}
use Rattle.document_limits.specs.Laws.{text_limits}
use Rattle.document_limits.proofs.Outcomes.{Keeps, keeps_itself, keeps_bind, keeps_guard, keeps_unguarded, keeps_change}

abbrev pub no_limits : Limits
no_limits kind = None

pub object_kept : (s : Space) (x : Written) → Keeps (with_object text_limits s x) (with_object no_limits s x)
unfolding with_object limit_fault
object_kept s x = keeps_unguarded _ _ _ (keeps_unguarded _ _ _ (keeps_itself _))

pub arrow_kept : (s : Space) (x : Written) → Keeps (with_arrow text_limits s x) (with_arrow no_limits s x)
unfolding with_arrow limit_fault
arrow_kept s x = keeps_unguarded _ _ _ (keeps_itself _)

pub site_kept : (s : Space) (x : SiteTree) → Keeps (site_statement text_limits s x) (site_statement no_limits s x)
unfolding site_statement
site_kept s (Objects xs) = keeps_change (with_object text_limits) (with_object no_limits) object_kept s xs
site_kept s (Arrows fs dom cod) = keeps_bind _ _ _ _ (keeps_change (with_arrow text_limits) (with_arrow no_limits) arrow_kept s fs) (λ t. keeps_itself _)
site_kept s (Composite g f h) = keeps_itself _

pub element_kept : (s : Space) (names : List Name) (x : Written) → Keeps (with_element text_limits s names x) (with_element no_limits s names x)
unfolding with_element limit_fault
element_kept s names x = keeps_unguarded _ _ _ (keeps_itself _)

pub entry_kept : (s : Space) (cod dom : List Name) (entries : List (ℕ × ℕ)) (e : EntryTree) → Keeps (with_entry text_limits s cod dom entries e) (with_entry no_limits s cod dom entries e)
unfolding with_entry
entry_kept s cod dom entries e = keeps_itself _

pub section_kept : (s : Space) (sections : Sections) (x : SectionTree) → Keeps (with_section text_limits s sections x) (with_section no_limits s sections x)
unfolding with_section
section_kept s sections (At u xs) =
    keeps_bind _ _ _ _ (keeps_itself (object_of s u)) (λ U. keeps_guard _ _ _ (keeps_bind _ _ _ _ (keeps_change (with_element text_limits s) (with_element no_limits s) (element_kept s) [] xs) (λ names. keeps_itself _)))
section_kept s sections (Along x es) =
    keeps_bind _ _ _ _ (keeps_itself (look_up s.arrows x)) (λ k. keeps_guard _ _ _ (keeps_bind _ _ _ _ (keeps_change (with_entry text_limits s _ _) (with_entry no_limits s _ _) (entry_kept s _ _) [] es) (λ entries. keeps_itself _)))

pub sections_kept : (s : Space) (parts : List SectionTree) → Keeps (sections_of text_limits s parts) (sections_of no_limits s parts)
sections_kept s parts = keeps_change (with_section text_limits s) (with_section no_limits s) (section_kept s) (record { at = []; along = [] }) parts

pub statement_kept : (s : Scope) (x : StatementTree) → Keeps (statement_of text_limits s x) (statement_of no_limits s x)
unfolding statement_of stages_of raw_functor
statement_kept s (tree.Presheaf x parts) = keeps_guard _ _ _ (keeps_bind _ _ _ _ (sections_kept s.site parts) (λ sections. keeps_itself _))
statement_kept s (tree.Category d statements) =
    keeps_guard _ _ _ (keeps_bind _ _ _ _ (keeps_change (site_statement text_limits) (site_statement no_limits) site_kept (empty_space statements) statements) (λ D. keeps_itself _))
statement_kept s (tree.PresheafOn p d parts) =
    keeps_guard _ _ _ (keeps_bind _ _ _ _ (keeps_itself (look_up (category_names s) d)) (λ D. keeps_bind _ _ _ _ (sections_kept (space_of s D) parts) (λ sections. keeps_itself _)))
statement_kept s _ = keeps_itself _

-- one statement after the other
pub turns_kept : {S A : Type 0} (change other : S → A → Checked S) → ((s : S) (a : A) → Keeps (change s a) (other s a)) → (n : ℕ) (s : S) (xs : List A) → Keeps (in_turn text_limits change n s xs) (in_turn no_limits other n s xs)
unfolding in_turn limit_fault
turns_kept change other each n s xs = keeps_change _ _ (λ t x. keeps_unguarded _ _ _ (each t x.1)) s (numbered n xs)

pub cover_kept : (s : Space) (covers : List Family) (c : CoverTree) → Keeps (with_cover text_limits s covers c) (with_cover no_limits s covers c)
unfolding with_cover
cover_kept s covers c = keeps_itself _

pub only_kept : (n : ℕ) (s : Space) (covers : CoversTree) → Keeps (only_topology text_limits n s covers) (only_topology no_limits n s covers)
unfolding only_topology limit_fault
only_kept n s Dense = keeps_unguarded _ _ _ (keeps_itself _)
only_kept n s (Listed cs) = keeps_bind _ _ _ _ (turns_kept (with_cover text_limits s) (with_cover no_limits s) (cover_kept s) n [] cs) (λ covers. keeps_itself _)

topology_of_kept : {A : Type 0} (s : Space) (j : Name) (covers : CoversTree) (next : TopDecl → Checked A) → Keeps (topology_of text_limits s j covers >>= next) (topology_of no_limits s j covers >>= next)
topology_of_kept s j Dense next = keeps_itself _
topology_of_kept s j (Listed cs) next = keeps_itself _

pub topology_kept : (s : Space) (found : List Name × List TopDecl) (t : TopologyTree) → Keeps (with_topology text_limits s found t) (with_topology no_limits s found t)
unfolding with_topology limit_fault
topology_kept s (names, tops) t =
    keeps_unguarded (limit_fault kind.Topologies (text_limits kind.Topologies) (length names)) _ _ (keeps_guard (twice_fault (names_of s ++ names) t.name) _ _ (topology_of_kept s t.name.text t.covers (λ top. Ok (names ++ t.name.text ∷ [], tops ++ top ∷ []))))

pub next_kept : (found : Scope × List Stmt) (x : StatementTree) → Keeps (with_statement text_limits found x) (with_statement no_limits found x)
unfolding with_statement
next_kept (s, stmts) x = keeps_bind _ _ _ _ (statement_kept s x) (λ r. keeps_itself _)

pub resolved_kept : (tree : DocumentTree) → Keeps (resolved text_limits tree) (resolved no_limits tree)
unfolding resolved
resolved_kept (FirstVersion statements covers rest) =
    keeps_bind _ _ _ _ (turns_kept (site_statement text_limits) (site_statement no_limits) site_kept 0 (empty_space statements) statements) (λ site.
    keeps_bind _ _ _ _ (only_kept (length statements) site covers) (λ top.
    keeps_bind _ _ _ _ (turns_kept (with_statement text_limits) (with_statement no_limits) next_kept _ _ rest) (λ last. keeps_itself _)))
resolved_kept (SecondVersion statements tops rest) =
    keeps_bind _ _ _ _ (turns_kept (site_statement text_limits) (site_statement no_limits) site_kept 1 (empty_space statements) statements) (λ site.
    keeps_bind _ _ _ _ (turns_kept (with_topology text_limits site) (with_topology no_limits site) (topology_kept site) _ _ tops) (λ found.
    keeps_bind _ _ _ _ (turns_kept (with_statement text_limits) (with_statement no_limits) next_kept _ _ rest) (λ last. keeps_itself _)))
