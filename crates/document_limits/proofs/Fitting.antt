-- What is found within the limits fits.
use Rattle.std.proofs.Common.{◌≡◌, ◌≤◌, ◌<◌, ◌⊎◌, inl, inr, ℕ, ◌+◌, Bool, ◌||◌, true, false, cond, eqb, leb, List, [], ◌∷◌, ◌++◌, map, length, flat_map, Option, Some, None, refl, sym, subst, arith}
use Rattle.std.specs.List.{list_any, range_with_len}
use Rattle.std.proofs.lemmas.Bool.{leb-false, eqb-true}
use Rattle.std.proofs.lemmas.List.{length-append, append-nil}
use Rattle.std.proofs.lemmas.Grind.{flat_map-append}
use Rattle.finite_lists.specs.Members.{In}
use Rattle.finite_lists.specs.First.{some_if}
use Rattle.finite_lists.proofs.Lists.{In-append_cases, In-map_from}
use Rattle.topos_model.specs.declared.fault.Fault.{Fault}
use Rattle.topos_model.specs.declared.fault.Kind.{Kind}
use Rattle.topos_model.specs.declared.fault.Kind.TheVariants as kind
use Rattle.topos_model.specs.declared.doc.FunctorName.{FunctorName}
use Rattle.topos_model.specs.declared.doc.OnName.{OnName}
use Rattle.topos_model.specs.declared.stmt.Stmt.{Stmt}
use Rattle.topos_model.specs.declared.doc.CatDecl.{CatDecl}
use Rattle.topos_text.specs.Tokens.{Written}
use Rattle.topos_text.specs.Trees as tree
use Rattle.topos_text.specs.Trees.{SiteTree, Objects, Arrows, Composite, SectionTree, At, Along, StatementTree}
use Rattle.topos_text.specs.Names.{Name, change_by, limit_fault, twice_fault, again_fault, new_fault, for_each, look_up, names_of, known, category_names, category_functor_names, functor_of, map_of, topology_of, under_of, Space, Scope, with_functor, with_maps}
use Rattle.topos_text.specs.TermNames.{type_of, context_of}
use Rattle.topos_text.specs.SiteNames.{empty_space, object_of, arrow_of, arrow_or_identity, with_object, with_arrow, site_statement, end_of, raw_category}
use Rattle.topos_text.specs.StatementNames.{Sections, elements_at, with_element, with_entry, with_section, sections_of, stages_of, with_map_at, given_to, body_of, step_of, with_sent, space_of, source_of, on_functor_of, with_on_functor, made, statement_of}
use Rattle.topos_text.specs.Limits.{most, ElementsFit, CategoryFits}
use Rattle.document_limits.specs.Laws.{text_limits}
use Rattle.document_limits.proofs.Outcomes.{Always, always_ok, always_bind, always_guard, always_change}

-- a test that finds no fault
untrue : (a : Fault) (b : Bool) → some_if b a ≡ None → b ≡ false
untrue a false h = refl
untrue a true h = absurd (cc)

-- the test for a limit lets pass what is below it
pub below : (k : Kind) (n : ℕ) → limit_fault k (text_limits k) n ≡ None → n < most k
unfolding limit_fault
below k n h = leb-false (most k) n (untrue _ (leb (most k) n) h)

-- categories

abbrev pub SpaceFits : Space → Type 0
SpaceFits s = CategoryFits s.objects s.arrows

pub object_fits : (s : Space) (x : Written) → SpaceFits s → Always SpaceFits (with_object text_limits s x)
unfolding with_object
object_fits s x h =
    always_guard _ (limit_fault kind.Objects (text_limits kind.Objects) (length s.objects)) _ (λ a. always_guard _ (limit_fault kind.Arrows (text_limits kind.Arrows) (length s.objects + length s.arrows)) _ (λ b. always_guard _ (twice_fault (names_of s) x) _ (λ _.
    let objects : length (s.objects ++ x.text ∷ []) ≤ most kind.Objects = omega (arith, below kind.Objects (length s.objects) a, length-append s.objects (x.text ∷ [])) in
    let arrows : length (s.objects ++ x.text ∷ []) + length s.arrows ≤ most kind.Arrows = omega (arith, below kind.Arrows (length s.objects + length s.arrows) b, length-append s.objects (x.text ∷ [])) in
    always_ok SpaceFits _ (objects, arrows))))

pub arrow_fits : (s : Space) (x : Written) → SpaceFits s → Always SpaceFits (with_arrow text_limits s x)
unfolding with_arrow
arrow_fits s x h =
    always_guard _ (limit_fault kind.Arrows (text_limits kind.Arrows) (length s.objects + length s.arrows)) _ (λ b. always_guard _ (twice_fault (names_of s) x) _ (λ _.
    let arrows : length s.objects + length (s.arrows ++ x.text ∷ []) ≤ most kind.Arrows = omega (arith, below kind.Arrows (length s.objects + length s.arrows) b, length-append s.arrows (x.text ∷ [])) in
    always_ok SpaceFits _ (h.0, arrows)))

pub site_fits : (s : Space) (x : SiteTree) → SpaceFits s → Always SpaceFits (site_statement text_limits s x)
unfolding site_statement
site_fits s (Objects xs) h = always_change SpaceFits (with_object text_limits) object_fits s xs h
site_fits s (Arrows fs dom cod) h =
    always_bind _ (change_by (with_arrow text_limits) s fs) _ (λ t e. always_bind _ (object_of s dom) _ (λ A _. always_bind _ (object_of s cod) _ (λ B _. always_ok SpaceFits _ (always_change SpaceFits (with_arrow text_limits) arrow_fits s fs h t e))))
site_fits s (Composite g f h) k =
    always_bind _ (arrow_of s g) _ (λ m _. always_bind _ (arrow_of s f) _ (λ n _. always_bind _ (arrow_or_identity s h) _ (λ p _. always_ok SpaceFits _ k)))

pub empty_fits : (statements : List SiteTree) → SpaceFits (empty_space statements)
empty_fits statements = (omega arith, omega arith)

-- elements

abbrev pub StageFits : List Name → Type 0
StageFits names = length names ≤ most kind.Elements

element_fits : (s : Space) (names : List Name) (x : Written) → StageFits names → Always StageFits (with_element text_limits s names x)
unfolding with_element
element_fits s names x h =
    always_guard _ (limit_fault kind.Elements (text_limits kind.Elements) (length names)) _ (λ a. always_guard _ (twice_fault names x) _ (λ _.
    let few : StageFits (names ++ x.text ∷ []) = omega (arith, below kind.Elements (length names) a, length-append names (x.text ∷ [])) in
    always_ok StageFits _ few))

abbrev pub SectionsFit : Sections → Type 0
SectionsFit sections = (U : ℕ) → StageFits (elements_at sections.at U)

-- an object without elements so far
none_there : (stages : List (ℕ × List Name)) (U : ℕ) → list_any (λ n. eqb n U) (map (λ stage. stage.0) stages) ≡ false → elements_at stages U ≡ []
unfolding elements_at
none_there [] U h = refl
none_there ((V, names) ∷ stages) U h = at (eqb V U) (none_there stages U) h
  where
    at : (b : Bool) → (list_any (λ n. eqb n U) (map (λ stage. stage.0) stages) ≡ false → elements_at stages U ≡ []) → (b || list_any (λ n. eqb n U) (map (λ stage. stage.0) stages)) ≡ false → cond b names [] ++ elements_at stages U ≡ []
    at false rest k = rest k
    at true rest k = absurd (cc)

not_again : (numbers : List ℕ) (k : ℕ) (x : Written) → again_fault numbers k x ≡ None → list_any (λ n. eqb n k) numbers ≡ false
unfolding again_fault
not_again numbers k x h = untrue _ (list_any (λ n. eqb n k) numbers) h

stage_fits : (stages : List (ℕ × List Name)) (U V : ℕ) (names : List Name) → list_any (λ n. eqb n U) (map (λ stage. stage.0) stages) ≡ false → StageFits (elements_at stages V) → StageFits names → StageFits (elements_at (stages ++ (U, names) ∷ []) V)
unfolding elements_at
stage_fits stages U V names new h k =
    subst StageFits (sym (flat_map-append (λ stage. cond (eqb stage.0 V) stage.1 []) stages ((U, names) ∷ []))) (at (eqb U V) refl)
  where
    at : (b : Bool) → eqb U V ≡ b → StageFits (flat_map (λ stage. cond (eqb stage.0 V) stage.1 []) stages ++ (cond b names [] ++ []))
    at false e = subst (λ more. StageFits (elements_at stages V ++ more)) (sym (append-nil (cond false names []))) (subst StageFits (sym (append-nil (elements_at stages V))) h)
    at true e = rw (none_there stages V (subst (λ W. list_any (λ n. eqb n W) (map (λ stage. stage.0) stages) ≡ false) (eqb-true U V e) new)) (omega (arith, k, length-append names []))

section_fits : (s : Space) (sections : Sections) (x : SectionTree) → SectionsFit sections → Always SectionsFit (with_section text_limits s sections x)
unfolding with_section
section_fits s sections (At u xs) h =
    always_bind _ (object_of s u) _ (λ U _. always_guard _ (again_fault (map (λ stage. stage.0) sections.at) U u) _ (λ new.
    always_bind _ (change_by (with_element text_limits s) [] xs) _ (λ names e. always_ok SectionsFit _
    (λ V. stage_fits sections.at U V names (not_again (map (λ stage. stage.0) sections.at) U u new) (h V) (always_change StageFits (with_element text_limits s) (element_fits s) [] xs (omega arith) names e)))))
section_fits s sections (Along x es) h =
    always_bind _ (look_up s.arrows x) _ (λ k _. always_guard _ (again_fault (map (λ a. a.arrow) sections.along) (s.total + k) x) _ (λ _.
    always_bind _ (change_by (with_entry text_limits s (elements_at sections.at (end_of s k).1) (elements_at sections.at (end_of s k).0)) [] es) _ (λ entries _. always_ok SectionsFit _ h)))

no_sections : SectionsFit (record { at = []; along = [] })
unfolding elements_at
no_sections U = omega arith

sections_fit : (s : Space) (parts : List SectionTree) → Always SectionsFit (sections_of text_limits s parts)
sections_fit s parts = always_change SectionsFit (with_section text_limits s) (section_fits s) (record { at = []; along = [] }) parts no_sections

-- the stages of a presheaf
stages_fit : (s : Space) (sections : Sections) → SectionsFit sections → ElementsFit (Some (stages_of text_limits s sections))
unfolding stages_of
stages_fit s sections h names inside =
    let p = In-map_from (elements_at sections.at) (range_with_len 0 s.total) names inside in
    subst StageFits p.2 (h p.0)

-- what a statement may name

pub record ScopeFits (s : Scope) : Type 0 where
  pub site : SpaceFits s.site
  pub functors : (x : FunctorName) → In s.functors x → ElementsFit x.elements
  pub cats : (d : CatDecl) → In s.cats d → CategoryFits d.objects d.arrows
  pub on_functors : (p : OnName) → In s.on_functors p → ElementsFit p.elements

-- one more at the end of a list of which each has the property
one_more : {A : Type 0} (P : A → Type 0) (xs : List A) (y : A) → ((x : A) → In xs x → P x) → P y → (x : A) → In (xs ++ y ∷ []) x → P x
one_more P xs y h k x inside = last (In-append_cases xs (y ∷ []) x inside)
  where
    last : In xs x ⊎ In (y ∷ []) x → P x
    last (inl i) = h x i
    last (inr (inl e)) = subst P e k
    last (inr (inr i)) = absurd i

functor_fits : (s : Scope) (x : Written) (elements : Option (List (List Name))) → ScopeFits s → ElementsFit elements → ScopeFits (with_functor s x elements)
functor_fits s x elements h k = record {
  site = h.site;
  functors = one_more (λ x. ElementsFit x.elements) s.functors (record { name = x.text; elements = elements }) h.functors k;
  cats = h.cats;
  on_functors = h.on_functors;
}

maps_fit : (s : Scope) (ms : List Written) → ScopeFits s → ScopeFits (with_maps s ms)
maps_fit s ms h = record { site = h.site; functors = h.functors; cats = h.cats; on_functors = h.on_functors }

made_fits : (s : Scope) (z : Written) (ms : List Written) → ScopeFits s → ScopeFits (made s z ms)
made_fits s z ms h = maps_fit (with_functor s z None) ms (functor_fits s z None h tt)

on_functor_fits : (s : Scope) (p : Written) (d : ℕ) (elements : Option (List (List Name))) → ScopeFits s → ElementsFit elements → ScopeFits (with_on_functor s p d elements)
on_functor_fits s p d elements h k = record {
  site = h.site;
  functors = h.functors;
  cats = h.cats;
  on_functors = one_more (λ p. ElementsFit p.elements) s.on_functors (record { name = p.text; cat = d; elements = elements }) h.on_functors k;
}

abbrev FoundFits : Scope × Stmt → Type 0
FoundFits found = ScopeFits found.0

pub statement_fits : (s : Scope) (x : StatementTree) → ScopeFits s → Always FoundFits (statement_of text_limits s x)
unfolding statement_of
statement_fits s (tree.Presheaf x parts) h =
    always_guard _ (new_fault (known s) (x ∷ [])) _ (λ _. always_bind _ (sections_of text_limits s.site parts) _ (λ sections e.
    always_ok FoundFits _ (functor_fits s x (Some (stages_of text_limits s.site sections)) h (stages_fit s.site sections (sections_fit s.site parts sections e)))))
statement_fits s (tree.Map m x y parts) h =
    always_guard _ (new_fault (known s) (m ∷ [])) _ (λ _. always_bind _ (functor_of s x) _ (λ X _. always_bind _ (functor_of s y) _ (λ Y _.
    always_bind _ (change_by (with_map_at s X Y) ([], []) parts) _ (λ entries _. always_ok FoundFits _ (maps_fit s (m ∷ []) h)))))
statement_fits s (tree.Construct of x y z p q) h =
    always_bind _ (given_to s of x) _ (λ X _. always_bind _ (given_to s of y) _ (λ Y _. always_guard _ (new_fault (known s) (z ∷ p ∷ q ∷ [])) _ (λ _. always_ok FoundFits _ (made_fits s z (p ∷ q ∷ []) h))))
statement_fits s (tree.Forked of m n z i) h =
    always_bind _ (map_of s m) _ (λ M _. always_bind _ (map_of s n) _ (λ N _. always_guard _ (new_fault (known s) (z ∷ i ∷ [])) _ (λ _. always_ok FoundFits _ (made_fits s z (i ∷ []) h))))
statement_fits s (tree.Image m z e i) h =
    always_bind _ (map_of s m) _ (λ M _. always_guard _ (new_fault (known s) (z ∷ e ∷ i ∷ [])) _ (λ _. always_ok FoundFits _ (made_fits s z (e ∷ i ∷ []) h)))
statement_fits s (tree.Empty z) h = always_guard _ (new_fault (known s) (z ∷ [])) _ (λ _. always_ok FoundFits _ (made_fits s z [] h))
statement_fits s (tree.Sheafify j x a e) h =
    always_bind _ (under_of s j) _ (λ J _. always_bind _ (functor_of s x) _ (λ X _. always_guard _ (new_fault (known s) (a ∷ e ∷ [])) _ (λ _. always_ok FoundFits _ (made_fits s a (e ∷ []) h))))
statement_fits s (tree.Sheaf j x) h = always_bind _ (under_of s j) _ (λ J _. always_bind _ (functor_of s x) _ (λ X _. always_ok FoundFits _ h))
statement_fits s (tree.Hom x y) h = always_bind _ (functor_of s x) _ (λ X _. always_bind _ (functor_of s y) _ (λ Y _. always_ok FoundFits _ h))
statement_fits s (tree.Build j e T u v) h =
    always_bind _ (under_of s j) _ (λ J _. always_guard _ (new_fault (known s) (e ∷ [])) _ (λ _. always_bind _ (type_of s T) _ (λ S _.
    always_guard _ (new_fault (e.text ∷ known s) (u ∷ v ∷ [])) _ (λ _. always_ok FoundFits _ (made_fits s e (u ∷ v ∷ []) h)))))
statement_fits s (tree.Sub j z b t i) h =
    always_bind _ (under_of s j) _ (λ J _. always_guard _ (new_fault (known s) (z ∷ [])) _ (λ _. always_bind _ (type_of s b.type) _ (λ T _. always_bind _ (body_of s (b ∷ []) t) _ (λ φ _.
    always_guard _ (new_fault (z.text ∷ known s) (i ∷ [])) _ (λ _. always_ok FoundFits _ (made_fits s z (i ∷ []) h))))))
statement_fits s (tree.Let j m b t) h =
    always_bind _ (under_of s j) _ (λ J _. always_guard _ (new_fault (known s) (m ∷ [])) _ (λ _. always_bind _ (type_of s b.type) _ (λ T _. always_bind _ (body_of s (b ∷ []) t) _ (λ u _.
    always_ok FoundFits _ (maps_fit s (m ∷ []) h)))))
statement_fits s (tree.Ask question j Γ t) h =
    always_bind _ (under_of s j) _ (λ J _. always_bind _ (context_of s [] Γ) _ (λ Ts _. always_bind _ (body_of s Γ t) _ (λ φ _. always_ok FoundFits _ h)))
statement_fits s (tree.Why j u k Γ t) h =
    always_bind _ (under_of s j) _ (λ J _. always_bind _ (object_of s.site u) _ (λ U _. always_bind _ (context_of s [] Γ) _ (λ Ts _. always_bind _ (body_of s Γ t) _ (λ φ _. always_ok FoundFits _ h))))
statement_fits s (tree.Derive j steps) h = always_bind _ (under_of s j) _ (λ J _. always_bind _ (for_each (step_of s) steps) _ (λ xs _. always_ok FoundFits _ h))
statement_fits s (tree.Local m) h = always_bind _ (map_of s m) _ (λ M _. always_ok FoundFits _ h)
statement_fits s (tree.LocalAs j m) h =
    always_bind _ (topology_of s j) _ (λ J _. always_guard _ (new_fault (known s) (m ∷ [])) _ (λ _. always_ok FoundFits _ (maps_fit s (m ∷ []) h)))
statement_fits s (tree.Category d statements) h =
    always_guard _ (new_fault (known s) (d ∷ [])) _ (λ _. always_bind _ (change_by (site_statement text_limits) (empty_space statements) statements) _ (λ D e.
    let fits : CategoryFits D.objects D.arrows = always_change SpaceFits (site_statement text_limits) site_fits (empty_space statements) statements (empty_fits statements) D e in
    always_ok FoundFits _ (record {
      site = h.site;
      functors = h.functors;
      cats = one_more (λ d. CategoryFits d.objects d.arrows) s.cats (record { name = d.text; objects = D.objects; arrows = D.arrows; cat = raw_category D }) h.cats fits;
      on_functors = h.on_functors;
    })))
statement_fits s (tree.CategoryFunctor f d sent) h =
    always_guard _ (new_fault (known s) (f ∷ [])) _ (λ _. always_bind _ (look_up (category_names s) d) _ (λ D _.
    always_bind _ (change_by (with_sent s (space_of s D)) (record { at = []; along = [] }) sent) _ (λ raw _.
    always_ok FoundFits _ (record { site = h.site; functors = h.functors; cats = h.cats; on_functors = h.on_functors }))))
statement_fits s (tree.Restricted f x y) h =
    always_bind _ (look_up (category_functor_names s) f) _ (λ F _. always_bind _ (functor_of s x) _ (λ X _. always_guard _ (new_fault (known s) (y ∷ [])) _ (λ _.
    always_ok FoundFits _ (on_functor_fits s y (source_of s F) None h tt))))
statement_fits s (tree.PresheafOn p d parts) h =
    always_guard _ (new_fault (known s) (p ∷ [])) _ (λ _. always_bind _ (look_up (category_names s) d) _ (λ D _. always_bind _ (sections_of text_limits (space_of s D) parts) _ (λ sections e.
    always_ok FoundFits _ (on_functor_fits s p D (Some (stages_of text_limits (space_of s D) sections)) h (stages_fit (space_of s D) sections (sections_fit (space_of s D) parts sections e))))))
statement_fits s (tree.Extended of f p l e) h =
    always_bind _ (look_up (category_functor_names s) f) _ (λ F _. always_bind _ (on_functor_of s (source_of s F) p) _ (λ P _. always_guard _ (new_fault (known s) (l ∷ e ∷ [])) _ (λ _.
    let made_functor = functor_fits s l None h tt in
    always_ok FoundFits _ (record { site = made_functor.site; functors = made_functor.functors; cats = made_functor.cats; on_functors = made_functor.on_functors }))))
