-- The statements behind the site from their trees, each with the names after it.
use Rattle.std.specs.Prelude.{ℕ, ◌+◌, cond, List, [], ◌∷◌, ◌++◌, map, length, get_or, eqb, flat_map, unwrap_or, Option, Some, None, Ok}
use Rattle.std.specs.List.{range_with_len}
use Rattle.topos_model.specs.declared.context.Ctx.{Ctx}
use Rattle.topos_model.specs.declared.raw.RawAlong.{RawAlong}
use Rattle.topos_model.specs.declared.raw.RawFunctor.{RawFunctor}
use Rattle.topos_model.specs.declared.raw.RawEntry.{RawEntry}
use Rattle.topos_model.specs.declared.raw.RawCatFunctor.{RawCatFunctor}
use Rattle.topos_model.specs.declared.term.Term.{Term}
use Rattle.topos_model.specs.declared.derivation.Step.{Step}
use Rattle.topos_model.specs.declared.stmt.Stmt.{Stmt}
use Rattle.topos_model.specs.declared.stmt.Stmt.TheVariants as stmt
use Rattle.topos_model.specs.declared.fault.Kind.TheVariants as kind
use Rattle.topos_text.specs.Tokens.{Written}
use Rattle.topos_text.specs.Trees as tree
use Rattle.topos_text.specs.Trees.{ElementTree, ByName, ByPlace, EntryTree, MappingTree, MapAtTree, SectionTree, At, Along, SentTree, ObjectTo, ArrowTo, StepTree, Construction, ProductOf, CoproductOf, PullbackOf, PushoutOf, Fork, EqualizerOf, CoequalizerOf, Question, Extension, Lan, Ran, Binding, TermTree, StatementTree}
use Rattle.topos_text.specs.Names.{Name, Checked, ◌>>=◌, ◌>>◌, for_each, change_by, Limits, limit_fault, twice_fault, new_fault, again_fault, look_up, unknown, Space, Scope, known, category_names, category_functor_names, on_functor_names, with_functor, with_maps, next_functor, next_map, functor_of, map_of, topology_of, under_of}
use Rattle.topos_text.specs.TermNames.{type_of, term_of, context_of, variables}
use Rattle.topos_text.specs.SiteNames.{empty_space, object_of, arrow_of, arrow_or_identity, end_of, site_statement, raw_category}

-- The sections of a presheaf: the elements at each object that has some, and the restrictions.
pub record Sections : Type 0 where
  pub at : List (ℕ × List Name)
  pub along : List RawAlong

-- the elements at an object
unfoldable pub elements_at : List (ℕ × List Name) → ℕ → List Name
elements_at stages U = flat_map (λ stage. cond (eqb stage.0 U) stage.1 []) stages

module _ (limits : Limits) (s : Space) where
  unfoldable pub with_element : List Name → Written → Checked (List Name)
  with_element names x = do
    limit_fault kind.Elements (limits kind.Elements) (length names)
    twice_fault names x
    Ok (names ++ x.text ∷ [])

  -- from an element at the codomain to one at the domain; each has one entry
  unfoldable pub with_entry : List Name → List Name → List (ℕ × ℕ) → EntryTree → Checked (List (ℕ × ℕ))
  with_entry cod dom entries e = do
    x ← look_up cod e.from
    again_fault (map (λ p. p.0) entries) x e.from
    y ← look_up dom e.to
    Ok (entries ++ (x, y) ∷ [])

  -- each object has one `at`, and each arrow one `along`
  unfoldable pub with_section : Sections → SectionTree → Checked Sections
  with_section sections (At u xs) = do
    U ← object_of s u
    again_fault (map (λ stage. stage.0) sections.at) U u
    names ← change_by with_element [] xs
    Ok (record sections { at = sections.at ++ (U, names) ∷ [] })
  with_section sections (Along x es) = do
    k ← look_up s.arrows x
    again_fault (map (λ a. a.arrow) sections.along) (s.total + k) x
    entries ← change_by (with_entry (elements_at sections.at (end_of s k).1) (elements_at sections.at (end_of s k).0)) [] es
    Ok (record sections { along = sections.along ++ record { arrow = s.total + k; entries = entries } ∷ [] })

  abbrev pub sections_of : List SectionTree → Checked Sections
  sections_of parts = change_by with_section (record { at = []; along = [] }) parts

  -- the names of the elements at each object
  unfoldable pub stages_of : Sections → List (List Name)
  stages_of sections = map (elements_at sections.at) (range_with_len 0 s.total)

  unfoldable pub raw_functor : Sections → RawFunctor
  raw_functor sections = record { sizes = map length (stages_of sections); along = sections.along }

-- The names of a functor's elements at an object: a functor that a construction made has none.
unfoldable pub element_names : Scope → ℕ → ℕ → List Name
element_names s X U = get_or (unwrap_or (get_or s.functors X (record { name = []; elements = None })).elements []) U []

abbrev pub written_of : ElementTree → Written
written_of (ByName x) = x
written_of (ByPlace n x) = x

-- a declared element by its name, or any element by its number
unfoldable pub element_of : List Name → ElementTree → Checked ℕ
element_of names (ByName x) = look_up names x
element_of names (ByPlace n x) = Ok n

module _ (s : Scope) where
  -- a map's entries at an object, from the elements of X to those of Y; each element of X has one
  unfoldable pub with_mapping : ℕ → List Name → List Name → List RawEntry → MappingTree → Checked (List RawEntry)
  with_mapping U X Y entries e = do
    x ← element_of X e.from
    again_fault (map (λ r. r.from) entries) x (written_of e.from)
    y ← element_of Y e.to
    Ok (entries ++ record { at = U; from = x; to = y } ∷ [])

  -- each object has one `at`; with the objects and the entries so far
  unfoldable pub with_map_at : ℕ → ℕ → List ℕ × List RawEntry → MapAtTree → Checked (List ℕ × List RawEntry)
  with_map_at X Y (objects, entries) part = do
    U ← object_of s.site part.object
    again_fault objects U part.object
    more ← change_by (with_mapping U (element_names s X U) (element_names s Y U)) [] part.entries
    Ok (objects ++ U ∷ [], entries ++ more)

  abbrev pub category_of : Written → Checked ℕ
  category_of d = look_up (category_names s) d

  -- the names of the second category number d
  unfoldable pub space_of : ℕ → Space
  space_of d =
      let D = get_or s.cats d (record { name = []; objects = []; arrows = []; cat = record { objects = 0; ends = []; listed = [] } }) in
      record { total = D.cat.objects; objects = D.objects; arrows = D.arrows; ends = D.cat.ends; listed = D.cat.listed }

  -- each object and each arrow of the category D is sent once
  unfoldable pub with_sent : Space → RawCatFunctor → SentTree → Checked RawCatFunctor
  with_sent D raw (ObjectTo d c) = do
    k ← object_of D d
    again_fault (map (λ p. p.0) raw.at) k d
    U ← object_of s.site c
    Ok (record raw { at = raw.at ++ (k, U) ∷ [] })
  with_sent D raw (ArrowTo u f) = do
    k ← arrow_of D u
    again_fault (map (λ p. p.0) raw.along) k u
    g ← arrow_or_identity s.site f
    Ok (record raw { along = raw.along ++ (k, g) ∷ [] })

  -- a functor of categories, and the category that it goes from
  abbrev pub category_functor_of : Written → Checked ℕ
  category_functor_of f = look_up (category_functor_names s) f

  abbrev pub source_of : ℕ → ℕ
  source_of f = (get_or s.cat_functors f ([], 0)).1

  -- a presheaf on the second category number d
  unfoldable pub on_functor_of : ℕ → Written → Checked ℕ
  on_functor_of d p = do
    k ← look_up (on_functor_names s) p
    cond (eqb (get_or s.on_functors k (record { name = []; cat = 0; elements = None })).cat d) (Ok k) (unknown p)

  abbrev pub with_on_functor : Written → ℕ → Option (List (List Name)) → Scope
  with_on_functor p d elements = record s { on_functors = s.on_functors ++ record { name = p.text; cat = d; elements = elements } ∷ [] }

  -- a term in the context of its variables
  abbrev pub body_of : List Binding → TermTree → Checked Term
  body_of bs t = term_of s (variables bs) t

  abbrev pub with_term_of : List Binding → Option TermTree → Checked (Option Term)
  with_term_of bs None = Ok None
  with_term_of bs (Some t) = do
    u ← body_of bs t
    Ok (Some u)

  unfoldable pub step_of : StepTree → Checked Step
  step_of x = do
    Ts ← context_of s [] x.context
    hyps ← for_each (body_of x.context) x.hypotheses
    concl ← body_of x.context x.conclusion
    t ← with_term_of x.context x.with_term
    Ok (record { rule = x.rule.text; from = map (λ p. p.number) x.from; ctx = record { types = Ts }; hyps = hyps; concl = concl; with_term = t })

  -- what is constructed from two functors or maps: the functor z and the maps p and q
  abbrev pub constructed : Construction → ℕ → ℕ → Stmt
  constructed ProductOf x y = stmt.Product x y (next_functor s) (next_map s) (next_map s + 1)
  constructed CoproductOf x y = stmt.Coproduct x y (next_functor s) (next_map s) (next_map s + 1)
  constructed PullbackOf m n = stmt.Pullback m n (next_functor s) (next_map s) (next_map s + 1)
  constructed PushoutOf m n = stmt.Pushout m n (next_functor s) (next_map s) (next_map s + 1)

  abbrev pub given_to : Construction → Written → Checked ℕ
  given_to ProductOf = functor_of s
  given_to CoproductOf = functor_of s
  given_to PullbackOf = map_of s
  given_to PushoutOf = map_of s

  abbrev pub forked : Fork → ℕ → ℕ → Stmt
  forked EqualizerOf m n = stmt.Equalizer m n (next_functor s) (next_map s)
  forked CoequalizerOf m n = stmt.Coequalizer m n (next_functor s) (next_map s)

  abbrev pub asked : Question → ℕ → Ctx → Term → Stmt
  asked tree.Show = stmt.Show
  asked tree.Classify = stmt.Classify
  asked tree.Valid = stmt.Valid

  abbrev pub extended : Extension → ℕ → ℕ → Stmt
  extended Lan f p = stmt.Lan f p (next_functor s) (length s.on_maps)
  extended Ran f p = stmt.Ran f p (next_functor s) (length s.on_maps)

  -- A functor and maps that a statement makes, with what else it declares.
  abbrev pub made : Written → List Written → Scope
  made z ms = with_maps (with_functor s z None) ms

module _ (limits : Limits) where
  -- A statement, and the names after it.
  unfoldable pub statement_of : Scope → StatementTree → Checked (Scope × Stmt)
  statement_of s (tree.Presheaf x parts) = do
    new_fault (known s) (x ∷ [])
    sections ← sections_of limits s.site parts
    Ok (with_functor s x (Some (stages_of limits s.site sections)), stmt.Presheaf (next_functor s) (raw_functor limits s.site sections))
  statement_of s (tree.Map m x y parts) = do
    new_fault (known s) (m ∷ [])
    X ← functor_of s x
    Y ← functor_of s y
    entries ← change_by (with_map_at s X Y) ([], []) parts
    Ok (with_maps s (m ∷ []), stmt.Map (next_map s) X Y (record { entries = entries.1 }))
  statement_of s (tree.Construct of x y z p q) = do
    X ← given_to s of x
    Y ← given_to s of y
    new_fault (known s) (z ∷ p ∷ q ∷ [])
    Ok (made s z (p ∷ q ∷ []), constructed s of X Y)
  statement_of s (tree.Forked of m n z i) = do
    M ← map_of s m
    N ← map_of s n
    new_fault (known s) (z ∷ i ∷ [])
    Ok (made s z (i ∷ []), forked s of M N)
  statement_of s (tree.Image m z e i) = do
    M ← map_of s m
    new_fault (known s) (z ∷ e ∷ i ∷ [])
    Ok (made s z (e ∷ i ∷ []), stmt.Image M (next_functor s) (next_map s) (next_map s + 1))
  statement_of s (tree.Empty z) = do
    new_fault (known s) (z ∷ [])
    Ok (made s z [], stmt.Empty (next_functor s))
  statement_of s (tree.Sheafify j x a e) = do
    J ← under_of s j
    X ← functor_of s x
    new_fault (known s) (a ∷ e ∷ [])
    Ok (made s a (e ∷ []), stmt.Sheafify J X (next_functor s) (next_map s))
  statement_of s (tree.Sheaf j x) = do
    J ← under_of s j
    X ← functor_of s x
    Ok (s, stmt.Sheaf J X)
  statement_of s (tree.Hom x y) = do
    X ← functor_of s x
    Y ← functor_of s y
    Ok (s, stmt.Hom X Y)
  statement_of s (tree.Build j e T u v) = do
    J ← under_of s j
    new_fault (known s) (e ∷ [])
    S ← type_of s T
    new_fault (e.text ∷ known s) (u ∷ v ∷ [])
    Ok (made s e (u ∷ v ∷ []), stmt.Build J (next_functor s) S (next_map s) (next_map s + 1))
  statement_of s (tree.Sub j z b t i) = do
    J ← under_of s j
    new_fault (known s) (z ∷ [])
    T ← type_of s b.type
    φ ← body_of s (b ∷ []) t
    new_fault (z.text ∷ known s) (i ∷ [])
    Ok (made s z (i ∷ []), stmt.Sub J (next_functor s) T φ (next_map s))
  statement_of s (tree.Let j m b t) = do
    J ← under_of s j
    new_fault (known s) (m ∷ [])
    T ← type_of s b.type
    u ← body_of s (b ∷ []) t
    Ok (with_maps s (m ∷ []), stmt.Let J (next_map s) T u)
  statement_of s (tree.Ask question j Γ t) = do
    J ← under_of s j
    Ts ← context_of s [] Γ
    φ ← body_of s Γ t
    Ok (s, asked s question J (record { types = Ts }) φ)
  statement_of s (tree.Why j u k Γ t) = do
    J ← under_of s j
    U ← object_of s.site u
    Ts ← context_of s [] Γ
    φ ← body_of s Γ t
    Ok (s, stmt.Why J U k.number (record { types = Ts }) φ)
  statement_of s (tree.Derive j steps) = do
    J ← under_of s j
    xs ← for_each (step_of s) steps
    Ok (s, stmt.Derive J (record { steps = xs }))
  statement_of s (tree.Local m) = do
    M ← map_of s m
    Ok (s, stmt.Local M)
  statement_of s (tree.LocalAs j m) = do
    J ← topology_of s j
    new_fault (known s) (m ∷ [])
    Ok (with_maps s (m ∷ []), stmt.LocalAs J (next_map s))
  statement_of s (tree.Category d statements) = do
    new_fault (known s) (d ∷ [])
    D ← change_by (site_statement limits) (empty_space statements) statements
    Ok (record s { cats = s.cats ++ record { name = d.text; objects = D.objects; arrows = D.arrows; cat = raw_category D } ∷ [] }, stmt.Category (length s.cats))
  statement_of s (tree.CategoryFunctor f d sent) = do
    new_fault (known s) (f ∷ [])
    D ← category_of s d
    raw ← change_by (with_sent s (space_of s D)) (record { at = []; along = [] }) sent
    Ok (record s { cat_functors = s.cat_functors ++ (f.text, D) ∷ [] }, stmt.CatFunctor (length s.cat_functors) D raw)
  statement_of s (tree.Restricted f x y) = do
    F ← category_functor_of s f
    X ← functor_of s x
    new_fault (known s) (y ∷ [])
    Ok (with_on_functor s y (source_of s F) None, stmt.Along F X (length s.on_functors))
  statement_of s (tree.PresheafOn p d parts) = do
    new_fault (known s) (p ∷ [])
    D ← category_of s d
    sections ← sections_of limits (space_of s D) parts
    Ok (with_on_functor s p D (Some (stages_of limits (space_of s D) sections)), stmt.PresheafOf D (length s.on_functors) (raw_functor limits (space_of s D) sections))
  statement_of s (tree.Extended of f p l e) = do
    F ← category_functor_of s f
    P ← on_functor_of s (source_of s F) p
    new_fault (known s) (l ∷ e ∷ [])
    let t = with_functor s l None
    Ok (record t { on_maps = s.on_maps ++ e.text ∷ [] }, extended s of F P)
