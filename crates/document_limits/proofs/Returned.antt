-- A document that is found without limits, and fits, is found within them.
use Rattle.std.proofs.Common.{◌≡◌, ◌≤◌, ◌<◌, ℕ, ◌+◌, Bool, true, false, cond, eqb, List, [], ◌∷◌, ◌++◌, map, length, Some, None, refl, ap, ◌∙◌, subst, arith}
use Rattle.std.specs.Prelude.{Ok}
use Rattle.std.specs.List.{range_with_len}
use Rattle.std.proofs.lemmas.Bool.{lt-leb, ltb-true, eq-eqb}
use Rattle.std.proofs.lemmas.List.{length-append}
use Rattle.std.proofs.lemmas.Grind.{flat_map-append}
use Rattle.finite_lists.proofs.Lists.{In-map}
use Rattle.finite_lists.proofs.DistinctLists.{In-range}
use Rattle.topos_model.specs.declared.fault.Kind.{Kind}
use Rattle.topos_model.specs.declared.fault.Kind.TheVariants as kind
use Rattle.topos_text.specs.Tokens.{Written}
use Rattle.topos_text.specs.Trees.{SiteTree, Objects, Arrows, Composite, EntryTree, SectionTree, At, Along}
use Rattle.topos_text.specs.Names.{Name, Checked, ◌>>=◌, change_by, limit_fault, twice_fault, again_fault, found, number_in, look_up, names_of, Space}
use Rattle.topos_text.specs.SiteNames.{empty_space, objects_in, object_of, arrow_of, arrow_or_identity, with_object, with_arrow, site_statement, end_of}
use Rattle.topos_text.specs.StatementNames.{Sections, elements_at, with_element, with_entry, with_section, sections_of, stages_of}
use Rattle.topos_text.specs.Limits.{most, ElementsFit}
use Rattle.document_limits.specs.Laws.{text_limits}
use Rattle.document_limits.proofs.Outcomes.{Always, always_ok, always_bind, always_guard, Returns, returns_itself, returns_bind, returns_after, returns_guard, returns_limit, returns_change}
use Rattle.document_limits.proofs.Dropped.{no_limits}
use Rattle.document_limits.proofs.Fitting.{SpaceFits, StageFits}

-- what is below a limit passes its test
pub passes : (k : Kind) (n : ℕ) → n < most k → limit_fault k (text_limits k) n ≡ None
unfolding limit_fault
passes k n h = rw (lt-leb (most k) n h) refl

-- categories

-- what a statement adds to a category
record Grows (s t : Space) (more : ℕ) : Type 0 where
  pub total : t.total ≡ s.total
  pub objects : length t.objects ≡ length s.objects + more
  pub arrows : length s.arrows ≤ length t.arrows

object_grows : (s : Space) (x : Written) → Always (λ t. Grows s t 1) (with_object no_limits s x)
unfolding with_object limit_fault
object_grows s x =
    always_guard _ (twice_fault (names_of s) x) _ (λ _. always_ok (λ t. Grows s t 1) (record s { objects = s.objects ++ x.text ∷ [] })
    (record { total = refl; objects = length-append s.objects (x.text ∷ []); arrows = omega arith }))

arrow_grows : (s : Space) (x : Written) → Always (λ t. Grows s t 0) (with_arrow no_limits s x)
unfolding with_arrow limit_fault
arrow_grows s x =
    always_guard _ (twice_fault (names_of s) x) _ (λ _. always_ok (λ t. Grows s t 0) (record s { arrows = s.arrows ++ x.text ∷ [] })
    (record { total = refl; objects = omega arith; arrows = omega (arith, length-append s.arrows (x.text ∷ [])) }))

grown_back : (s t : Space) (more : ℕ) → Grows s t more → SpaceFits t → SpaceFits s
grown_back s t more g h = (omega (arith, g.objects, h.0), omega (arith, g.objects, g.arrows, h.1))

object_returns : (s : Space) (x : Written) → Returns SpaceFits (with_object text_limits s x) (with_object no_limits s x)
unfolding with_object limit_fault
object_returns s x =
    returns_limit SpaceFits (limit_fault kind.Objects (text_limits kind.Objects) (length s.objects)) _ _
    (λ t e h. let g = object_grows s x t e in passes kind.Objects (length s.objects) (omega (arith, g.objects, h.0)))
    (returns_limit SpaceFits (limit_fault kind.Arrows (text_limits kind.Arrows) (length s.objects + length s.arrows)) _ _
    (λ t e h. let g = object_grows s x t e in passes kind.Arrows (length s.objects + length s.arrows) (omega (arith, g.objects, g.arrows, h.1)))
    (returns_itself SpaceFits _))

arrow_longer : (s : Space) (x : Written) → Always (λ t. (length t.objects ≡ length s.objects) × (length t.arrows ≡ length s.arrows + 1)) (with_arrow no_limits s x)
unfolding with_arrow limit_fault
arrow_longer s x =
    always_guard _ (twice_fault (names_of s) x) _ (λ _. always_ok (λ t. (length t.objects ≡ length s.objects) × (length t.arrows ≡ length s.arrows + 1)) (record s { arrows = s.arrows ++ x.text ∷ [] }) (refl, length-append s.arrows (x.text ∷ [])))

arrow_returns : (s : Space) (x : Written) → Returns SpaceFits (with_arrow text_limits s x) (with_arrow no_limits s x)
unfolding with_arrow limit_fault
arrow_returns s x =
    returns_limit SpaceFits (limit_fault kind.Arrows (text_limits kind.Arrows) (length s.objects + length s.arrows)) _ _
    (λ t e h. let g = arrow_longer s x t e in passes kind.Arrows (length s.objects + length s.arrows) (omega (arith, g.0, g.1, h.1)))
    (returns_itself SpaceFits _)

objects_grow : (s : Space) (xs : List Written) → Always (λ t. Grows s t (length xs)) (change_by (with_object no_limits) s xs)
unfolding change_by
objects_grow s [] = always_ok (λ t. Grows s t 0) s (record { total = refl; objects = omega arith; arrows = omega arith })
objects_grow s (x ∷ xs) =
    always_bind (λ t. Grows s t (length (x ∷ xs))) (with_object no_limits s x) (λ t. change_by (with_object no_limits) t xs) (λ t e u f.
    let g = object_grows s x t e in
    let h = objects_grow t xs u f in
    record { total = h.total ∙ g.total; objects = omega (arith, h.objects, g.objects); arrows = omega (arith, h.arrows, g.arrows) })

arrows_grow : (s : Space) (xs : List Written) → Always (λ t. Grows s t 0) (change_by (with_arrow no_limits) s xs)
unfolding change_by
arrows_grow s [] = always_ok (λ t. Grows s t 0) s (record { total = refl; objects = omega arith; arrows = omega arith })
arrows_grow s (x ∷ xs) =
    always_bind (λ t. Grows s t 0) (with_arrow no_limits s x) (λ t. change_by (with_arrow no_limits) t xs) (λ t e u f.
    let g = arrow_grows s x t e in
    let h = arrows_grow t xs u f in
    record { total = h.total ∙ g.total; objects = omega (arith, h.objects, g.objects); arrows = omega (arith, h.arrows, g.arrows) })

site_grows : (s : Space) (x : SiteTree) → Always (λ t. Grows s t (objects_in (x ∷ []))) (site_statement no_limits s x)
unfolding site_statement objects_in
site_grows s (Objects xs) = λ t e. let g = objects_grow s xs t e in record { total = g.total; objects = omega (arith, g.objects); arrows = g.arrows }
site_grows s (Arrows fs dom cod) =
    always_bind _ (change_by (with_arrow no_limits) s fs) _ (λ t e. always_bind _ (object_of s dom) _ (λ A _. always_bind _ (object_of s cod) _ (λ B _.
    let g = arrows_grow s fs t e in
    always_ok (λ u. Grows s u 0) (record t { ends = t.ends ++ map (λ f. (A, B)) fs }) (record { total = g.total; objects = g.objects; arrows = g.arrows }))))
site_grows s (Composite g f h) =
    always_bind _ (arrow_of s g) _ (λ m _. always_bind _ (arrow_of s f) _ (λ n _. always_bind _ (arrow_or_identity s h) _ (λ p _.
    always_ok (λ u. Grows s u 0) (record s { listed = s.listed ++ (m, n, p) ∷ [] }) (record { total = refl; objects = omega arith; arrows = omega arith }))))

pub site_returns : (s : Space) (x : SiteTree) → Returns SpaceFits (site_statement text_limits s x) (site_statement no_limits s x)
unfolding site_statement
site_returns s (Objects xs) = returns_change SpaceFits (with_object text_limits) (with_object no_limits) object_returns (λ s x t e. grown_back s t 1 (object_grows s x t e)) s xs
site_returns s (Arrows fs dom cod) =
    returns_bind SpaceFits SpaceFits _ (change_by (with_arrow no_limits) s fs) _ _ (returns_change SpaceFits (with_arrow text_limits) (with_arrow no_limits) arrow_returns (λ s x t e. grown_back s t 0 (arrow_grows s x t e)) s fs)
    (λ t e. always_bind _ (object_of s dom) _ (λ A _. always_bind _ (object_of s cod) _ (λ B _. always_ok (λ u. SpaceFits u → SpaceFits t) (record t { ends = t.ends ++ map (λ f. (A, B)) fs }) (λ h. h))))
    (λ t e. returns_itself SpaceFits _)
site_returns s (Composite g f h) = returns_itself SpaceFits _

pub site_back : (s : Space) (x : SiteTree) → Always (λ t. SpaceFits t → SpaceFits s) (site_statement no_limits s x)
site_back s x t e = grown_back s t (objects_in (x ∷ [])) (site_grows s x t e)

-- A category has as many objects as its statements declare.
abbrev pub IsWhole : Space → Type 0
IsWhole s = length s.objects ≤ s.total

declared : (x : SiteTree) (xs : List SiteTree) → objects_in (x ∷ xs) ≡ objects_in (x ∷ []) + objects_in xs
unfolding objects_in
declared (Objects ys) xs = omega arith
declared (Arrows fs dom cod) xs = omega arith
declared (Composite g f h) xs = omega arith

none_declared : objects_in [] ≡ 0
unfolding objects_in
none_declared = refl

sites_grow : (s : Space) (xs : List SiteTree) → Always (λ t. (t.total ≡ s.total) × (length t.objects ≡ length s.objects + objects_in xs)) (change_by (site_statement no_limits) s xs)
unfolding change_by
sites_grow s [] = always_ok (λ t. (t.total ≡ s.total) × (length t.objects ≡ length s.objects + objects_in [])) s (refl, omega (arith, none_declared))
sites_grow s (x ∷ xs) =
    always_bind _ (site_statement no_limits s x) (λ t. change_by (site_statement no_limits) t xs) (λ t e u f.
    let g = site_grows s x t e in
    let h = sites_grow t xs u f in
    (h.0 ∙ g.total, omega (arith, h.1, g.objects, declared x xs)))

pub sites_whole : (statements : List SiteTree) → Always IsWhole (change_by (site_statement no_limits) (empty_space statements) statements)
sites_whole statements t e = let h = sites_grow (empty_space statements) statements t e in omega (arith, h.1, h.0)

-- elements

element_longer : (s : Space) (names : List Name) (x : Written) → Always (λ t. length t ≡ length names + 1) (with_element no_limits s names x)
unfolding with_element limit_fault
element_longer s names x = always_guard _ (twice_fault names x) _ (λ _. always_ok (λ t. length t ≡ length names + 1) (names ++ x.text ∷ []) (length-append names (x.text ∷ [])))

element_returns : (s : Space) (names : List Name) (x : Written) → Returns StageFits (with_element text_limits s names x) (with_element no_limits s names x)
unfolding with_element limit_fault
element_returns s names x =
    returns_limit StageFits (limit_fault kind.Elements (text_limits kind.Elements) (length names)) _ _
    (λ t e h. let g = element_longer s names x t e in passes kind.Elements (length names) (omega (arith, g, h))) (returns_itself StageFits _)

element_back : (s : Space) (names : List Name) (x : Written) → Always (λ t. StageFits t → StageFits names) (with_element no_limits s names x)
element_back s names x t e h = let g = element_longer s names x t e in omega (arith, g, h)

-- a name that is found stands at a place of the list
at_place : (x : Written) (b : Bool) (m k n : ℕ) → (b ≡ true → m < n) → found x (cond b (Some m) None) ≡ Ok k → k < n
at_place x true m k n h e = subst (λ i. i < n) (cc) (h refl)
at_place x false m k n h e = absurd (cc)

pub found_within : (names : List Name) (x : Written) (k : ℕ) → look_up names x ≡ Ok k → k < length names
unfolding look_up number_in
found_within names x k e = at_place x _ _ k (length names) (λ t. ltb-true _ _ t) e

-- the elements at the objects fit
abbrev SectionsFit : Space → Sections → Type 0
SectionsFit s sections = (U : ℕ) → U < s.total → StageFits (elements_at sections.at U)

stage_back : (stages : List (ℕ × List Name)) (U V : ℕ) (names : List Name) → StageFits (elements_at (stages ++ (U, names) ∷ []) V) → StageFits (elements_at stages V)
unfolding elements_at
stage_back stages U V names h =
    omega (arith, h, ap length (flat_map-append (λ stage. cond (eqb stage.0 V) stage.1 []) stages ((U, names) ∷ [])), length-append (elements_at stages V) (elements_at ((U, names) ∷ []) V))

-- an object's own elements
own_stage : (stages : List (ℕ × List Name)) (U : ℕ) (names : List Name) → StageFits (elements_at (stages ++ (U, names) ∷ []) U) → StageFits names
unfolding elements_at
own_stage stages U names h =
    omega (arith, h, ap length (flat_map-append (λ stage. cond (eqb stage.0 U) stage.1 []) stages ((U, names) ∷ [])), length-append (elements_at stages U) (elements_at ((U, names) ∷ []) U), ap length (alone (eqb U U) (eq-eqb U U refl)), length-append names [])
  where
    alone : (b : Bool) → b ≡ true → cond b names [] ++ [] ≡ names ++ []
    alone true e = refl
    alone false e = absurd (cc)

object_within : (s : Space) (u : Written) (U : ℕ) → object_of s u ≡ Ok U → U < length s.objects
unfolding object_of
object_within s u U e = found_within s.objects u U e

-- entries do not depend on the limits
returns_same : {A : Type 0} (P : A → Type 0) (s : Space) (cod dom : List Name) (es : List EntryTree) (next : List (ℕ × ℕ) → Checked A)
    → Returns P (change_by (with_entry text_limits s cod dom) [] es >>= next) (change_by (with_entry no_limits s cod dom) [] es >>= next)
unfolding with_entry
returns_same P s cod dom es next = returns_itself P _

section_returns : (s : Space) → IsWhole s → (sections : Sections) (x : SectionTree) → Returns (SectionsFit s) (with_section text_limits s sections x) (with_section no_limits s sections x)
unfolding with_section
section_returns s whole sections (At u xs) =
    returns_after (SectionsFit s) (object_of s u) _ _ (λ U inside. returns_guard (SectionsFit s) (again_fault (map (λ stage. stage.0) sections.at) U u) _ _
    (returns_bind (SectionsFit s) StageFits _ (change_by (with_element no_limits s) [] xs) _ _
    (returns_change StageFits (with_element text_limits s) (with_element no_limits s) (element_returns s) (element_back s) [] xs)
    (λ names e. always_ok (λ t. SectionsFit s t → StageFits names) (record sections { at = sections.at ++ (U, names) ∷ [] }) (λ h. own_stage sections.at U names (h U (omega (arith, whole, object_within s u U inside)))))
    (λ names e. returns_itself (SectionsFit s) _)))
section_returns s whole sections (Along x es) =
    returns_after (SectionsFit s) (look_up s.arrows x) _ _ (λ k _. returns_guard (SectionsFit s) (again_fault (map (λ a. a.arrow) sections.along) (s.total + k) x) _ _
    (returns_same (SectionsFit s) s (elements_at sections.at (end_of s k).1) (elements_at sections.at (end_of s k).0) es _))

section_back : (s : Space) (sections : Sections) (x : SectionTree) → Always (λ t. SectionsFit s t → SectionsFit s sections) (with_section no_limits s sections x)
unfolding with_section
section_back s sections (At u xs) =
    always_bind _ (object_of s u) _ (λ U _. always_guard _ (again_fault (map (λ stage. stage.0) sections.at) U u) _ (λ _. always_bind _ (change_by (with_element no_limits s) [] xs) _ (λ names _.
    always_ok (λ t. SectionsFit s t → SectionsFit s sections) (record sections { at = sections.at ++ (U, names) ∷ [] }) (λ h V low. stage_back sections.at U V names (h V low)))))
section_back s sections (Along x es) =
    always_bind _ (look_up s.arrows x) _ (λ k _. always_guard _ (again_fault (map (λ a. a.arrow) sections.along) (s.total + k) x) _ (λ _.
    always_bind _ (change_by (with_entry no_limits s (elements_at sections.at (end_of s k).1) (elements_at sections.at (end_of s k).0)) [] es) _ (λ entries _.
    always_ok (λ t. SectionsFit s t → SectionsFit s sections) (record sections { along = sections.along ++ record { arrow = s.total + k; entries = entries } ∷ [] }) (λ h. h))))

abbrev pub StagesFit : Space → Sections → Type 0
StagesFit s sections = ElementsFit (Some (stages_of no_limits s sections))

each_stage : (s : Space) (sections : Sections) → StagesFit s sections → SectionsFit s sections
unfolding stages_of
each_stage s sections h U low = h (elements_at sections.at U) (In-map (elements_at sections.at) (range_with_len 0 s.total) U (In-range 0 s.total U (omega arith) (omega (arith, low))))

pub sections_return : (s : Space) → IsWhole s → (parts : List SectionTree) → Returns (StagesFit s) (sections_of text_limits s parts) (sections_of no_limits s parts)
sections_return s whole parts sections e h =
    returns_change (SectionsFit s) (with_section text_limits s) (with_section no_limits s) (section_returns s whole) (section_back s) (record { at = []; along = [] }) parts sections e (each_stage s sections h)
