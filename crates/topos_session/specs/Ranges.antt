-- Documents whose numbers are in range, as far as the statements need it that are run.
use Rattle.std.specs.Prelude.{ℕ, ◌+◌, Bool, true, false, cond, ◌&&◌, List, [], ◌∷◌, length, get_or, eqb, ltb, leb, Option, Some, None}
use Rattle.std.specs.List.{list_all}
use Rattle.topos_model.specs.declared.context.Ctx.{Ctx}
use Rattle.topos_model.specs.declared.term.Term.{Term}
use Rattle.topos_model.specs.declared.stmt.Stmt.{Stmt}
use Rattle.topos_model.specs.declared.stmt.Stmt.TheVariants.{Presheaf, Map, Product, Coproduct, Equalizer, Coequalizer, Pullback, Pushout, Image, Empty, Sheaf, Hom, Build, Sub, Let, Show, Classify, Valid}
use Rattle.topos_model.specs.declared.raw.Family.{Family}
use Rattle.topos_model.specs.declared.doc.TopDecl.{TopDecl}
use Rattle.topos_model.specs.declared.doc.Doc.{Doc}
use Rattle.topos_model.specs.categories.Listed.{all_ends}
use Rattle.term_ranges.specs.Ranges.{is_type_in_range, is_term_in_range}
use Rattle.topos_model.specs.statements.Form.{is_category_listing, is_presheaf_listing, is_map_listing}

-- how many functors and maps a statement declares, where it is of a kind that is run
unfoldable pub declares : Stmt → Option (ℕ × ℕ)
declares (Presheaf functor raw) = Some (1, 0)
declares (Map m x y raw) = Some (0, 1)
declares (Product x y z p q) = Some (1, 2)
declares (Coproduct x y z p q) = Some (1, 2)
declares (Equalizer m n z i) = Some (1, 1)
declares (Coequalizer m n z q) = Some (1, 1)
declares (Pullback m n z p q) = Some (1, 2)
declares (Pushout m n z i j) = Some (1, 2)
declares (Image m z e j) = Some (1, 2)
declares (Empty z) = Some (1, 0)
declares (Sheaf under x) = Some (0, 0)
declares (Hom x y) = Some (0, 0)
declares (Show under ctx φ) = Some (0, 0)
declares (Classify under ctx φ) = Some (0, 0)
declares (Valid under ctx φ) = Some (0, 0)
declares (Build under z T u v) = Some (1, 2)
declares (Sub under z T φ i) = Some (1, 1)
declares (Let under m T t) = Some (0, 1)
declares _ = None

-- the functors that a formula and its context name are among the first n, and the maps that it applies among the first l
unfoldable pub is_formula_in_range : ℕ → ℕ → Ctx → Term → Bool
is_formula_in_range n l ctx φ = list_all (is_type_in_range n) ctx.types && is_term_in_range n l φ

-- the numbers that a statement of such a kind uses are in range, where n functors and l maps are declared before it; a functor is declared behind them
unfoldable pub is_in_range : ℕ → List (ℕ × ℕ) → ℕ → ℕ → Stmt → Bool
is_in_range objects ends n l (Presheaf functor raw) = eqb functor n && is_presheaf_listing objects ends raw
is_in_range objects ends n l (Map m x y raw) = ltb x n && ltb y n && is_map_listing objects raw.entries
is_in_range objects ends n l (Product x y z p q) = eqb z n && ltb x n && ltb y n
is_in_range objects ends n l (Coproduct x y z p q) = eqb z n && ltb x n && ltb y n
is_in_range objects ends n l (Equalizer m m' z i) = eqb z n && ltb m l && ltb m' l
is_in_range objects ends n l (Coequalizer m m' z q) = eqb z n && ltb m l && ltb m' l
is_in_range objects ends n l (Pullback m m' z p q) = eqb z n && ltb m l && ltb m' l
is_in_range objects ends n l (Pushout m m' z i j) = eqb z n && ltb m l && ltb m' l
is_in_range objects ends n l (Image m z e j) = eqb z n && ltb m l
is_in_range objects ends n l (Sheaf under x) = ltb x n
is_in_range objects ends n l (Hom x y) = ltb x n && ltb y n
is_in_range objects ends n l (Show under ctx φ) = is_formula_in_range n l ctx φ
is_in_range objects ends n l (Classify under ctx φ) = is_formula_in_range n l ctx φ
is_in_range objects ends n l (Valid under ctx φ) = is_formula_in_range n l ctx φ
is_in_range objects ends n l (Build under z T u v) = eqb z n && is_type_in_range n T
is_in_range objects ends n l (Sub under z T φ i) = eqb z n && is_type_in_range n T && is_term_in_range n l φ
is_in_range objects ends n l (Let under m T t) = is_type_in_range n T && is_term_in_range n l t
is_in_range objects ends n l _ = true

-- the same of statements in order, up to the first of a kind that is not run
unfoldable pub are_in_range : ℕ → List (ℕ × ℕ) → ℕ → ℕ → List Stmt → Bool
are_in_range objects ends n l [] = true
are_in_range objects ends n l (stmt ∷ rest) =
    elim (declares stmt) [ Some made ↦ is_in_range objects ends n l stmt && are_in_range objects ends (n + made.0) (l + made.1) rest | None ↦ true ]

-- there is one topology
abbrev pub is_single : List TopDecl → Bool
is_single (top ∷ []) = true
is_single _ = false

-- the arrows of a listed family go into its object
abbrev pub goes_into : List (ℕ × ℕ) → ℕ → ℕ → Bool
goes_into ends c f = ltb f (length ends) && eqb (get_or ends f (0, 0)).1 c

abbrev pub is_family_in_range : List (ℕ × ℕ) → Family → Bool
is_family_in_range ends family = list_all (goes_into ends family.at) family.arrows

-- those of a topology do, and beside the dense topology none is listed
unfoldable pub is_topology_in_range : List (ℕ × ℕ) → TopDecl → Bool
is_topology_in_range ends top = cond top.dense (eqb (length top.covers) 0) (list_all (is_family_in_range ends) top.covers)

-- how many statements a document may have, those of its site among them
abbrev pub max_statements : ℕ
max_statements = 10000

-- of a whole document
unfoldable pub has_range : Doc → Bool
has_range doc =
    leb (doc.site_len + length doc.stmts) max_statements && is_category_listing doc.cat && list_all (is_topology_in_range (all_ends doc.cat)) doc.tops
    && are_in_range doc.cat.objects (all_ends doc.cat) 0 0 doc.stmts
