-- The parts of the range of a document.
use Rattle.std.proofs.Common.{◌≡◌, ℕ, ◌+◌, ◌<◌, ◌≤◌, Bool, true, false, ◌&&◌, leb, List, [], ◌∷◌, length, get_or, drop, Option, Some, None, refl, ap, ◌∙◌, subst, add-one, arith}
use Rattle.std.specs.List.{list_all}
use Rattle.std.proofs.lemmas.Bool.{and_parts, leb-true}
use Rattle.std.proofs.Math.Seq.{drop-cons}
use Rattle.topos_model.specs.declared.stmt.Stmt.{Stmt}
use Rattle.topos_model.specs.declared.stmt.Stmt.TheVariants.{Presheaf, Map, Product, Coproduct, Equalizer, Coequalizer, Pullback, Pushout, Image, Empty, Sheaf, Hom, Build, Sub, Let, Show, Classify, Valid}
use Rattle.topos_model.specs.declared.doc.Doc.{Doc}
use Rattle.topos_model.specs.categories.Listed.{all_ends}
use Rattle.topos_model.specs.statements.Form.{is_category_listing}
use Rattle.topos_session.specs.Ranges.{max_statements, is_topology_in_range, is_in_range, declares, are_in_range, has_range}

no_right : (a b : Bool) → b ≡ false → (a && b) ≡ false
no_right true b e = e
no_right false b e = refl

no_left : (a b : Bool) → a ≡ false → (a && b) ≡ false
no_left a b e = rw e refl

pub many_fail : (doc : Doc) → leb (doc.site_len + length doc.stmts) max_statements ≡ false → has_range doc ≡ false
unfolding has_range
many_fail doc many = no_left _ _ (no_left _ _ (no_left _ _ many))

pub category_fails : (doc : Doc) → is_category_listing doc.cat ≡ false → has_range doc ≡ false
unfolding has_range
category_fails doc category = no_left _ _ (no_left _ _ (no_right _ _ category))

pub topologies_fail : (doc : Doc) → list_all (is_topology_in_range (all_ends doc.cat)) doc.tops ≡ false → has_range doc ≡ false
unfolding has_range
topologies_fail doc topologies = no_left _ _ (no_right _ _ topologies)

-- the statements decide where all else is in range
pub statements_decide : (doc : Doc) → leb (doc.site_len + length doc.stmts) max_statements ≡ true → is_category_listing doc.cat ≡ true → list_all (is_topology_in_range (all_ends doc.cat)) doc.tops ≡ true →
    are_in_range doc.cat.objects (all_ends doc.cat) 0 0 doc.stmts ≡ has_range doc
unfolding has_range
statements_decide doc few category topologies = rw (few, category, topologies) refl

-- what is in range
pub record HasRange (doc : Doc) : Type 0 where
  pub few : doc.site_len + length doc.stmts ≤ max_statements
  pub category : is_category_listing doc.cat ≡ true
  pub topologies : list_all (is_topology_in_range (all_ends doc.cat)) doc.tops ≡ true
  pub statements : are_in_range doc.cat.objects (all_ends doc.cat) 0 0 doc.stmts ≡ true

pub ranges : (doc : Doc) → has_range doc ≡ true → HasRange doc
unfolding has_range
ranges doc range =
    let (site, statements) = and_parts _ _ range in
    let (listed, topologies) = and_parts _ _ site in
    let (few, category) = and_parts _ _ listed in
    record { few = leb-true _ _ few; category = category; topologies = topologies; statements = statements }

pub are_in_range-empty : (objects : ℕ) (ends : List (ℕ × ℕ)) (n l : ℕ) → are_in_range objects ends n l [] ≡ true
unfolding are_in_range
are_in_range-empty objects ends n l = refl

-- of a first statement and the others
abbrev pub first_in_range : ℕ → List (ℕ × ℕ) → ℕ → ℕ → Stmt → List Stmt → Option (ℕ × ℕ) → Bool
first_in_range objects ends n l stmt rest o =
    elim o [ Some made ↦ is_in_range objects ends n l stmt && are_in_range objects ends (n + made.0) (l + made.1) rest | None ↦ true ]

are_in_range-cons : (objects : ℕ) (ends : List (ℕ × ℕ)) (n l : ℕ) (stmt : Stmt) (rest : List Stmt) →
    are_in_range objects ends n l (stmt ∷ rest) ≡ first_in_range objects ends n l stmt rest (declares stmt)
unfolding are_in_range
are_in_range-cons objects ends n l stmt rest = refl

-- the statements from place i on
module _ (objects : ℕ) (ends : List (ℕ × ℕ)) (n l : ℕ) (stmts : List Stmt) (i : ℕ) (stmt : Stmt) (low : i < length stmts) (at : get_or stmts i stmt ≡ stmt) where
  from_here : (o : Option (ℕ × ℕ)) → declares stmt ≡ o → are_in_range objects ends n l (drop i stmts) ≡ first_in_range objects ends n l stmt (drop (i + 1) stmts) o
  from_here o e = rw (drop-cons stmts i stmt low, at, add-one, are_in_range-cons, e) refl

  pub are_in_range-from : (made : ℕ × ℕ) → declares stmt ≡ Some made →
      are_in_range objects ends n l (drop i stmts) ≡ (is_in_range objects ends n l stmt && are_in_range objects ends (n + made.0) (l + made.1) (drop (i + 1) stmts))
  are_in_range-from made e = from_here (Some made) e

  pub statement_fails : (made : ℕ × ℕ) → declares stmt ≡ Some made → is_in_range objects ends n l stmt ≡ false → are_in_range objects ends n l (drop i stmts) ≡ false
  statement_fails made e fails = are_in_range-from made e ∙ no_left _ _ fails

  pub statement_passes : (made : ℕ × ℕ) → declares stmt ≡ Some made → is_in_range objects ends n l stmt ≡ true →
      are_in_range objects ends (n + made.0) (l + made.1) (drop (i + 1) stmts) ≡ are_in_range objects ends n l (drop i stmts)
  statement_passes made e passes = rw (are_in_range-from made e, passes) refl

  -- behind a statement that is not run nothing is asked
  pub statement_ends : declares stmt ≡ None → are_in_range objects ends n l (drop i stmts) ≡ true
  statement_ends e = from_here None e

few : (a b : ℕ) (made : ℕ × ℕ) → Some (a, b) ≡ Some made → a ≤ 1 → b ≤ 2 → (made.0 ≤ 1) × (made.1 ≤ 2)
few a b made e low high =
    let same : (a, b) ≡ made = ap (λ (o : Option (ℕ × ℕ)). elim o [ Some m ↦ m | None ↦ (a, b) ]) e in
    subst (λ (m : ℕ × ℕ). (m.0 ≤ 1) × (m.1 ≤ 2)) same (low, high)

-- a statement declares at most one functor and two maps
pub declares_few : (stmt : Stmt) (made : ℕ × ℕ) → declares stmt ≡ Some made → (made.0 ≤ 1) × (made.1 ≤ 2)
unfolding declares
declares_few (Presheaf functor raw) made e = few 1 0 made e (omega arith) (omega arith)
declares_few (Map m x y raw) made e = few 0 1 made e (omega arith) (omega arith)
declares_few (Product x y z p q) made e = few 1 2 made e (omega arith) (omega arith)
declares_few (Coproduct x y z p q) made e = few 1 2 made e (omega arith) (omega arith)
declares_few (Equalizer m n z i) made e = few 1 1 made e (omega arith) (omega arith)
declares_few (Coequalizer m n z q) made e = few 1 1 made e (omega arith) (omega arith)
declares_few (Pullback m n z p q) made e = few 1 2 made e (omega arith) (omega arith)
declares_few (Pushout m n z i j) made e = few 1 2 made e (omega arith) (omega arith)
declares_few (Image m z i j) made e = few 1 2 made e (omega arith) (omega arith)
declares_few (Empty z) made e = few 1 0 made e (omega arith) (omega arith)
declares_few (Sheaf under x) made e = few 0 0 made e (omega arith) (omega arith)
declares_few (Hom x y) made e = few 0 0 made e (omega arith) (omega arith)
declares_few (Show under ctx φ) made e = few 0 0 made e (omega arith) (omega arith)
declares_few (Classify under ctx φ) made e = few 0 0 made e (omega arith) (omega arith)
declares_few (Valid under ctx φ) made e = few 0 0 made e (omega arith) (omega arith)
declares_few (Let under m T t) made e = few 0 1 made e (omega arith) (omega arith)
declares_few (Build under z T u v) made e = few 1 2 made e (omega arith) (omega arith)
declares_few (Sub under z T φ i) made e = few 1 1 made e (omega arith) (omega arith)
declares_few _ made e = cc

-- a statement of a kind that is not run asks for nothing
pub unasked : (objects : ℕ) (ends : List (ℕ × ℕ)) (n l : ℕ) (stmt : Stmt) → declares stmt ≡ None → is_in_range objects ends n l stmt ≡ true
unfolding declares is_in_range
unasked objects ends n l (Presheaf functor raw) e = cc
unasked objects ends n l (Map m x y raw) e = cc
unasked objects ends n l (Product x y z p q) e = cc
unasked objects ends n l (Coproduct x y z p q) e = cc
unasked objects ends n l (Equalizer m m' z i) e = cc
unasked objects ends n l (Coequalizer m m' z q) e = cc
unasked objects ends n l (Pullback m m' z p q) e = cc
unasked objects ends n l (Pushout m m' z i j) e = cc
unasked objects ends n l (Image m z i j) e = cc
unasked objects ends n l (Sheaf under x) e = cc
unasked objects ends n l (Hom x y) e = cc
unasked objects ends n l (Show under ctx φ) e = cc
unasked objects ends n l (Classify under ctx φ) e = cc
unasked objects ends n l (Valid under ctx φ) e = cc
unasked objects ends n l (Let under m T t) e = cc
unasked objects ends n l (Build under z T u v) e = cc
unasked objects ends n l (Sub under z T φ i) e = cc
unasked objects ends n l _ e = refl
