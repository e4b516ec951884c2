-- Statements and documents that are found without limits, and fit, are found within them.
use Rattle.std.proofs.Common.{◌≡◌, ◌≤◌, inl, inr, ℕ, ◌+◌, zero, suc, List, [], ◌∷◌, ◌++◌, length, get_or, Option, Some, None, refl, sym, subst, arith}
use Rattle.std.specs.Prelude.{Ok}
use Rattle.finite_lists.specs.Members.{In}
use Rattle.finite_lists.proofs.Lists.{In-append_left, In-append_right}
use Rattle.topos_model.specs.declared.fault.Kind.TheVariants as kind
use Rattle.topos_model.specs.declared.doc.FunctorName.{FunctorName}
use Rattle.topos_model.specs.declared.doc.OnName.{OnName}
use Rattle.topos_model.specs.declared.doc.CatDecl.{CatDecl}
use Rattle.topos_model.specs.declared.stmt.Stmt.{Stmt}
use Rattle.topos_text.specs.Tokens.{Written}
use Rattle.topos_text.specs.Trees as tree
use Rattle.topos_text.specs.Trees.{SiteTree, CoverTree, CoversTree, Dense, Listed, TopologyTree, StatementTree, DocumentTree, FirstVersion, SecondVersion}
use Rattle.topos_text.specs.Names.{Name, Checked, ◌>>=◌, change_by, limit_fault, new_fault, for_each, look_up, known, category_names, category_functor_names, functor_of, map_of, topology_of, under_of, Space, Scope, with_functor, with_maps}
use Rattle.topos_text.specs.TermNames.{type_of, context_of}
use Rattle.topos_text.specs.SiteNames.{empty_space, object_of, site_statement, raw_category}
use Rattle.topos_text.specs.StatementNames.{sections_of, stages_of, raw_functor, with_map_at, given_to, body_of, step_of, with_sent, space_of, source_of, on_functor_of, with_on_functor, made, statement_of}
use Rattle.topos_text.specs.Limits.{most, ElementsFit, CategoryFits}
use Rattle.topos_text.specs.Resolving.{numbered, in_turn, with_cover, covers_len, only_topology, with_statement}
use Rattle.document_limits.specs.Laws.{text_limits}
use Rattle.document_limits.proofs.Outcomes.{Always, always_ok, always_bind, always_guard, Returns, returns_itself, returns_bind, returns_after, returns_guard, returns_limit, returns_change}
use Rattle.document_limits.proofs.Dropped.{no_limits}
use Rattle.document_limits.proofs.Fitting.{SpaceFits, ScopeFits}
use Rattle.document_limits.proofs.Returned.{passes, site_returns, site_back, IsWhole, sites_whole, StagesFit, sections_return}

-- each category has as many objects as its statements declare
pub record ScopeIsWhole (s : Scope) : Type 0 where
  pub site : IsWhole s.site
  pub cats : (d : CatDecl) → In s.cats d → length d.objects ≤ d.cat.objects

-- where what is found fits, what was there fits, and each category stays whole
abbrev Step : Scope → Scope → Type 0
Step s t = (ScopeFits t → ScopeFits s) × (ScopeIsWhole s → ScopeIsWhole t)

other_step : (s t : Scope) → t.site ≡ s.site → t.functors ≡ s.functors → t.cats ≡ s.cats → t.on_functors ≡ s.on_functors → Step s (t)
other_step s t a b c d = (
  λ h. record { site = subst SpaceFits a h.site; functors = subst (λ xs. (y : FunctorName) → In xs y → ElementsFit y.elements) b h.functors; cats = subst (λ xs. (y : CatDecl) → In xs y → CategoryFits y.objects y.arrows) c h.cats; on_functors = subst (λ xs. (y : OnName) → In xs y → ElementsFit y.elements) d h.on_functors },
  λ w. record { site = subst IsWhole (sym a) w.site; cats = subst (λ xs. (y : CatDecl) → In xs y → length y.objects ≤ y.cat.objects) (sym c) w.cats },
)

same_step : (s : Scope) → Step s s
same_step s = (λ h. h, λ w. w)

functor_step : (s : Scope) (z : Written) (elements : Option (List (List Name))) → Step s (with_functor s z elements)
functor_step s z elements = (
  λ h. record { site = h.site; functors = λ y i. h.functors y (In-append_left s.functors (record { name = z.text; elements = elements } ∷ []) y i); cats = h.cats; on_functors = h.on_functors },
  λ w. record { site = w.site; cats = w.cats },
)

maps_step : (s : Scope) (ms : List Written) → Step s (with_maps s ms)
maps_step s ms = (λ h. record { site = h.site; functors = h.functors; cats = h.cats; on_functors = h.on_functors }, λ w. record { site = w.site; cats = w.cats })

made_step : (s : Scope) (z : Written) (ms : List Written) → Step s (made s z ms)
made_step s z ms =
    let a = functor_step s z None in
    let b = maps_step (with_functor s z None) ms in
    (λ h. a.0 (b.0 h), λ w. b.1 (a.1 w))

extended_step : (s : Scope) (l e : Written) → Step s (record (with_functor s l None) { on_maps = s.on_maps ++ e.text ∷ [] })
extended_step s l e =
    let a = functor_step s l None in
    let b = other_step (with_functor s l None) (record (with_functor s l None) { on_maps = s.on_maps ++ e.text ∷ [] }) refl refl refl refl in
    (λ h. a.0 (b.0 h), λ w. b.1 (a.1 w))

on_functor_step : (s : Scope) (p : Written) (d : ℕ) (elements : Option (List (List Name))) → Step s (with_on_functor s p d elements)
on_functor_step s p d elements = (
  λ h. record { site = h.site; functors = h.functors; cats = h.cats; on_functors = λ y i. h.on_functors y (In-append_left s.on_functors (record { name = p.text; cat = d; elements = elements } ∷ []) y i) },
  λ w. record { site = w.site; cats = w.cats },
)

last_whole : (xs : List CatDecl) (d : CatDecl) → ((y : CatDecl) → In xs y → length y.objects ≤ y.cat.objects) → length d.objects ≤ d.cat.objects → (y : CatDecl) → In (xs ++ d ∷ []) y → length y.objects ≤ y.cat.objects
last_whole [] d h k y (inl e) = subst (λ y. length y.objects ≤ y.cat.objects) e k
last_whole [] d h k y (inr i) = absurd i
last_whole (x ∷ xs) d h k y (inl e) = h y (inl e)
last_whole (x ∷ xs) d h k y (inr i) = last_whole xs d (λ z j. h z (inr j)) k y i

category_step : (s : Scope) (d : CatDecl) → length d.objects ≤ d.cat.objects → Step s (record s { cats = s.cats ++ d ∷ [] })
category_step s d whole = (
  λ h. record { site = h.site; functors = h.functors; cats = λ y i. h.cats y (In-append_left s.cats (d ∷ []) y i); on_functors = h.on_functors },
  λ w. record { site = w.site; cats = last_whole s.cats d w.cats whole },
)

statement_steps : (s : Scope) (x : StatementTree) → Always (λ r. Step s r.0) (statement_of no_limits s x)
unfolding statement_of
statement_steps s (tree.Presheaf x parts) =
    always_guard _ (new_fault (known s) (x ∷ [])) _ (λ _. always_bind _ (sections_of no_limits s.site parts) _ (λ sections _.
    always_ok (λ r. Step s r.0) _ (functor_step s x (Some (stages_of no_limits s.site sections)))))
statement_steps s (tree.Map m x y parts) =
    always_guard _ (new_fault (known s) (m ∷ [])) _ (λ _. always_bind _ (functor_of s x) _ (λ X _. always_bind _ (functor_of s y) _ (λ Y _.
    always_bind _ (change_by (with_map_at s X Y) ([], []) parts) _ (λ entries _. always_ok (λ r. Step s r.0) _ (maps_step s (m ∷ []))))))
statement_steps s (tree.Construct of x y z p q) =
    always_bind _ (given_to s of x) _ (λ X _. always_bind _ (given_to s of y) _ (λ Y _. always_guard _ (new_fault (known s) (z ∷ p ∷ q ∷ [])) _ (λ _. always_ok (λ r. Step s r.0) _ (made_step s z (p ∷ q ∷ [])))))
statement_steps s (tree.Forked of m n z i) =
    always_bind _ (map_of s m) _ (λ M _. always_bind _ (map_of s n) _ (λ N _. always_guard _ (new_fault (known s) (z ∷ i ∷ [])) _ (λ _. always_ok (λ r. Step s r.0) _ (made_step s z (i ∷ [])))))
statement_steps s (tree.Image m z e i) =
    always_bind _ (map_of s m) _ (λ M _. always_guard _ (new_fault (known s) (z ∷ e ∷ i ∷ [])) _ (λ _. always_ok (λ r. Step s r.0) _ (made_step s z (e ∷ i ∷ []))))
statement_steps s (tree.Empty z) = always_guard _ (new_fault (known s) (z ∷ [])) _ (λ _. always_ok (λ r. Step s r.0) _ (made_step s z []))
statement_steps s (tree.Sheafify j x a e) =
    always_bind _ (under_of s j) _ (λ J _. always_bind _ (functor_of s x) _ (λ X _. always_guard _ (new_fault (known s) (a ∷ e ∷ [])) _ (λ _. always_ok (λ r. Step s r.0) _ (made_step s a (e ∷ [])))))
statement_steps s (tree.Sheaf j x) = always_bind _ (under_of s j) _ (λ J _. always_bind _ (functor_of s x) _ (λ X _. always_ok (λ r. Step s r.0) _ (same_step s)))
statement_steps s (tree.Hom x y) = always_bind _ (functor_of s x) _ (λ X _. always_bind _ (functor_of s y) _ (λ Y _. always_ok (λ r. Step s r.0) _ (same_step s)))
statement_steps s (tree.Build j e T u v) =
    always_bind _ (under_of s j) _ (λ J _. always_guard _ (new_fault (known s) (e ∷ [])) _ (λ _. always_bind _ (type_of s T) _ (λ S _.
    always_guard _ (new_fault (e.text ∷ known s) (u ∷ v ∷ [])) _ (λ _. always_ok (λ r. Step s r.0) _ (made_step s e (u ∷ v ∷ []))))))
statement_steps s (tree.Sub j z b t i) =
    always_bind _ (under_of s j) _ (λ J _. always_guard _ (new_fault (known s) (z ∷ [])) _ (λ _. always_bind _ (type_of s b.type) _ (λ T _. always_bind _ (body_of s (b ∷ []) t) _ (λ φ _.
    always_guard _ (new_fault (z.text ∷ known s) (i ∷ [])) _ (λ _. always_ok (λ r. Step s r.0) _ (made_step s z (i ∷ [])))))))
statement_steps s (tree.Let j m b t) =
    always_bind _ (under_of s j) _ (λ J _. always_guard _ (new_fault (known s) (m ∷ [])) _ (λ _. always_bind _ (type_of s b.type) _ (λ T _. always_bind _ (body_of s (b ∷ []) t) _ (λ u _.
    always_ok (λ r. Step s r.0) _ (maps_step s (m ∷ []))))))
statement_steps s (tree.Ask question j Γ t) =
    always_bind _ (under_of s j) _ (λ J _. always_bind _ (context_of s [] Γ) _ (λ Ts _. always_bind _ (body_of s Γ t) _ (λ φ _. always_ok (λ r. Step s r.0) _ (same_step s))))
statement_steps s (tree.Why j u k Γ t) =
    always_bind _ (under_of s j) _ (λ J _. always_bind _ (object_of s.site u) _ (λ U _. always_bind _ (context_of s [] Γ) _ (λ Ts _. always_bind _ (body_of s Γ t) _ (λ φ _. always_ok (λ r. Step s r.0) _ (same_step s)))))
statement_steps s (tree.Derive j steps) = always_bind _ (under_of s j) _ (λ J _. always_bind _ (for_each (step_of s) steps) _ (λ xs _. always_ok (λ r. Step s r.0) _ (same_step s)))
statement_steps s (tree.Local m) = always_bind _ (map_of s m) _ (λ M _. always_ok (λ r. Step s r.0) _ (same_step s))
statement_steps s (tree.LocalAs j m) =
    always_bind _ (topology_of s j) _ (λ J _. always_guard _ (new_fault (known s) (m ∷ [])) _ (λ _. always_ok (λ r. Step s r.0) _ (maps_step s (m ∷ []))))
statement_steps s (tree.Category d statements) =
    always_guard _ (new_fault (known s) (d ∷ [])) _ (λ _. always_bind _ (change_by (site_statement no_limits) (empty_space statements) statements) _ (λ D e.
    always_ok (λ r. Step s r.0) _ (category_step s (record { name = d.text; objects = D.objects; arrows = D.arrows; cat = raw_category D }) (sites_whole statements D e))))
statement_steps s (tree.CategoryFunctor f d sent) =
    always_guard _ (new_fault (known s) (f ∷ [])) _ (λ _. always_bind _ (look_up (category_names s) d) _ (λ D _.
    always_bind _ (change_by (with_sent s (space_of s D)) (record { at = []; along = [] }) sent) _ (λ raw _.
    always_ok (λ r. Step s r.0) _ (other_step s (record s { cat_functors = s.cat_functors ++ (f.text, D) ∷ [] }) refl refl refl refl))))
statement_steps s (tree.Restricted f x y) =
    always_bind _ (look_up (category_functor_names s) f) _ (λ F _. always_bind _ (functor_of s x) _ (λ X _. always_guard _ (new_fault (known s) (y ∷ [])) _ (λ _.
    always_ok (λ r. Step s r.0) _ (on_functor_step s y (source_of s F) None))))
statement_steps s (tree.PresheafOn p d parts) =
    always_guard _ (new_fault (known s) (p ∷ [])) _ (λ _. always_bind _ (look_up (category_names s) d) _ (λ D _. always_bind _ (sections_of no_limits (space_of s D) parts) _ (λ sections _.
    always_ok (λ r. Step s r.0) _ (on_functor_step s p D (Some (stages_of no_limits (space_of s D) sections))))))
statement_steps s (tree.Extended of f p l e) =
    always_bind _ (look_up (category_functor_names s) f) _ (λ F _. always_bind _ (on_functor_of s (source_of s F) p) _ (λ P _. always_guard _ (new_fault (known s) (l ∷ e ∷ [])) _ (λ _.
    always_ok (λ r. Step s r.0) _ (extended_step s l e))))

-- the names of a second category that is whole
whole_cat : (xs : List CatDecl) (k : ℕ) (d : CatDecl) → ((y : CatDecl) → In xs y → length y.objects ≤ y.cat.objects) → length d.objects ≤ d.cat.objects → length (get_or xs k d).objects ≤ (get_or xs k d).cat.objects
whole_cat [] k d h e = e
whole_cat (x ∷ xs) zero d h e = h x (inl refl)
whole_cat (x ∷ xs) (suc k) d h e = whole_cat xs k d (λ y i. h y (inr i)) e

whole_space : (s : Scope) (D : ℕ) → ScopeIsWhole s → IsWhole (space_of s D)
unfolding space_of
whole_space s D w = whole_cat s.cats D (record { name = []; objects = []; arrows = []; cat = record { objects = 0; ends = []; listed = [] } }) w.cats (omega arith)

abbrev FoundFits : Scope × Stmt → Type 0
FoundFits found = ScopeFits found.0

statement_returns : (s : Scope) → ScopeIsWhole s → (x : StatementTree) → Returns FoundFits (statement_of text_limits s x) (statement_of no_limits s x)
unfolding statement_of stages_of raw_functor
statement_returns s w (tree.Presheaf x parts) =
    returns_guard FoundFits (new_fault (known s) (x ∷ [])) _ _ (returns_bind FoundFits (StagesFit s.site) _ (sections_of no_limits s.site parts) _ _ (sections_return s.site w.site parts)
    (λ sections e. always_ok (λ t. FoundFits t → StagesFit s.site sections) _
    (λ h. h.functors (record { name = x.text; elements = Some (stages_of no_limits s.site sections) }) (In-append_right s.functors (record { name = x.text; elements = Some (stages_of no_limits s.site sections) } ∷ []) _ (inl refl))))
    (λ sections e. returns_itself FoundFits _))
statement_returns s w (tree.Category d statements) =
    returns_guard FoundFits (new_fault (known s) (d ∷ [])) _ _ (returns_bind FoundFits SpaceFits _ (change_by (site_statement no_limits) (empty_space statements) statements) _ _
    (returns_change SpaceFits (site_statement text_limits) (site_statement no_limits) site_returns site_back (empty_space statements) statements)
    (λ D e. always_ok (λ t. FoundFits t → SpaceFits D) _
    (λ h. h.cats (record { name = d.text; objects = D.objects; arrows = D.arrows; cat = raw_category D }) (In-append_right s.cats (record { name = d.text; objects = D.objects; arrows = D.arrows; cat = raw_category D } ∷ []) _ (inl refl))))
    (λ D e. returns_itself FoundFits _))
statement_returns s w (tree.PresheafOn p d parts) =
    returns_guard FoundFits (new_fault (known s) (p ∷ [])) _ _ (returns_after FoundFits (look_up (category_names s) d) _ _ (λ D _.
    returns_bind FoundFits (StagesFit (space_of s D)) _ (sections_of no_limits (space_of s D) parts) _ _ (sections_return (space_of s D) (whole_space s D w) parts)
    (λ sections e. always_ok (λ t. FoundFits t → StagesFit (space_of s D) sections) _
    (λ h. h.on_functors (record { name = p.text; cat = D; elements = Some (stages_of no_limits (space_of s D) sections) }) (In-append_right s.on_functors (record { name = p.text; cat = D; elements = Some (stages_of no_limits (space_of s D) sections) } ∷ []) _ (inl refl))))
    (λ sections e. returns_itself FoundFits _)))
statement_returns s w _ = returns_itself FoundFits _

abbrev pub NextFits : Scope × List Stmt → Type 0
NextFits found = ScopeFits found.0

abbrev pub NextIsWhole : Scope × List Stmt → Type 0
NextIsWhole found = ScopeIsWhole found.0

pub next_returns : (found : Scope × List Stmt) → NextIsWhole found → (x : StatementTree) → Returns NextFits (with_statement text_limits found x) (with_statement no_limits found x)
unfolding with_statement
next_returns (s, stmts) w x =
    returns_bind NextFits FoundFits _ (statement_of no_limits s x) _ _ (statement_returns s w x)
    (λ r e. always_ok (λ t. NextFits t → FoundFits r) (r.0, stmts ++ r.1 ∷ []) (λ h. h)) (λ r e. returns_itself NextFits _)

pub next_steps : (found : Scope × List Stmt) (x : StatementTree) → Always (λ t. (NextFits t → NextFits found) × (NextIsWhole found → NextIsWhole t)) (with_statement no_limits found x)
unfolding with_statement
next_steps (s, stmts) x =
    always_bind _ (statement_of no_limits s x) _ (λ r e. always_ok (λ t. (NextFits t → ScopeFits s) × (ScopeIsWhole s → NextIsWhole t)) (r.0, stmts ++ r.1 ∷ []) (statement_steps s x r e))

-- statements in turn

pub turns_step : {S A : Type 0} (P W : S → Type 0) (change : S → A → Checked S) → ((s : S) (a : A) → Always (λ t. (P t → P s) × (W s → W t)) (change s a))
    → (n : ℕ) (s : S) (xs : List A) → Always (λ t. (P t → P s) × (W s → W t)) (in_turn no_limits change n s xs)
unfolding in_turn change_by numbered limit_fault
turns_step P W change step n s [] = always_ok (λ t. (P t → P s) × (W s → W t)) s (λ p. p, λ w. w)
turns_step P W change step n s (x ∷ xs) =
    always_bind _ (change s x) _ (λ t e u g.
    let a = step s x t e in
    let b = turns_step P W change step (n + 1) t xs u g in
    (λ p. a.0 (b.0 p), λ w. b.1 (a.1 w)))

pub turns_return : {S A : Type 0} (P W : S → Type 0) (change other : S → A → Checked S) → ((s : S) → W s → (a : A) → Returns P (change s a) (other s a))
    → ((s : S) (a : A) → Always (λ t. (P t → P s) × (W s → W t)) (other s a))
    → (n : ℕ) (s : S) (xs : List A) → n + length xs ≤ most kind.Statements → W s → Returns P (in_turn text_limits change n s xs) (in_turn no_limits other n s xs)
unfolding in_turn change_by numbered limit_fault
turns_return P W change other each step n s [] few w = returns_itself P _
turns_return P W change other each step n s (x ∷ xs) few w =
    returns_bind P P _ (other s x) _ _
    (returns_limit P (limit_fault kind.Statements (text_limits kind.Statements) n) (change s x) (other s x) (λ t e h. passes kind.Statements n (omega (arith, few))) (each s w x))
    (λ t e u g p. (turns_step P W other step (n + 1) t xs u g).0 p)
    (λ t e. turns_return P W change other each step (n + 1) t xs (omega (arith, few)) ((step s x t e).1 w))

-- whatever holds of a change by each of a list holds of the changes in turn
pub turns_are_changes : {S A : Type 0} (P : S → Type 0) (change : S → A → Checked S) (n : ℕ) (s : S) (xs : List A) → Always P (change_by change s xs) → Always P (in_turn no_limits change n s xs)
unfolding in_turn change_by numbered limit_fault
turns_are_changes P change n s [] h = h
turns_are_changes P change n s (x ∷ xs) h = always_bind P (change s x) _ (λ t e. turns_are_changes P change (n + 1) t xs (λ u g. h u (rest (change s x) t e u g)))
  where
    rest : (c : Checked _) (t : _) → c ≡ Ok t → (u : _) → change_by change t xs ≡ Ok u → (c >>= λ t. change_by change t xs) ≡ Ok u
    rest c t e u g = rw e g

-- the topologies

cover_returns : (s : Space) (covers : _) → Unit {0} → (c : CoverTree) → Returns (λ t. Unit {0}) (with_cover text_limits s covers c) (with_cover no_limits s covers c)
unfolding with_cover
cover_returns s covers _ c = returns_itself (λ t. Unit {0}) _

pub only_returns : (n : ℕ) (s : Space) (covers : CoversTree) → n + covers_len text_limits covers ≤ most kind.Statements → Returns (λ top. Unit {0}) (only_topology text_limits n s covers) (only_topology no_limits n s covers)
unfolding only_topology limit_fault
only_returns n s Dense few = returns_limit (λ top. Unit {0}) (limit_fault kind.Statements (text_limits kind.Statements) n) _ _ (λ top e h. passes kind.Statements n (omega (arith, few))) (returns_itself (λ top. Unit {0}) _)
only_returns n s (Listed cs) few =
    returns_bind (λ top. Unit {0}) (λ covers. Unit {0}) _ (in_turn no_limits (with_cover no_limits s) n [] cs) _ _
    (turns_return (λ covers. Unit {0}) (λ covers. Unit {0}) (with_cover text_limits s) (with_cover no_limits s) (cover_returns s) (λ covers c t e. (λ p. tt, λ w. tt)) n [] cs few tt)
    (λ covers e top g h. tt) (λ covers e. returns_itself (λ top. Unit {0}) _)
