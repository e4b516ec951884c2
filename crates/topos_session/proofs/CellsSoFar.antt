-- The cells so far are those of the world in which the types that are counted are sealed.
use Rattle.std.proofs.Common.{◌≡◌, ℕ, ◌+◌, ◌*◌, Bool, false, eqb, inl, inr, List, [], ◌∷◌, ◌++◌, length, map, filter, take, sum, slice_get, Some, sym, ap, subst, ◌∙◌, arith}
use Rattle.std.specs.List.{flat_map, range_with_len}
use Rattle.std.proofs.lemmas.Option.{get_or_from_slice_get, slice_get_within}
use Rattle.std.proofs.lemmas.Grind.{flat_map-append}
use Rattle.std.proofs.lemmas.List.{take_more, map-append, append-nil}
use Rattle.std.proofs.lemmas.List.Elements.{filter-append}
use Rattle.finite_lists.specs.Members.{In}
use Rattle.finite_lists.proofs.Lists.{In-append_left, In-append_right, In-append_cases}
use Rattle.topos_model.specs.declared.ty.Ty.{Ty}
use Rattle.topos_model.specs.declared.context.MapTy.{MapTy}
use Rattle.topos_model.specs.declared.doc.Doc.{Doc}
use Rattle.topos_model.specs.declared.stmt.Stmt.{Stmt}
use Rattle.topos_model.specs.topologies.Cover.{Site}
use Rattle.topos_model.specs.statements.Needs.{under, needs}
use Rattle.topos_model.specs.statements.Cells.{is_named, presheaf_cells, types_cells, types_under, cells}
use Rattle.topos_model.specs.statements.Declarations.{category_of, site_of, cells_so_far}
use Rattle.sealed_world.specs.SealedWorlds.{CountedWorld, counted_cells, IsGrownBy}
use Rattle.sealed_world.proofs.CountedCells.{types_within}
use Rattle.sealed_world.proofs.Growing.{grown_keeps, grown_only}
use Rattle.topos_session.specs.declared.declarations.Declarations.{Declarations}
use Rattle.topos_session.specs.Declarations.{with_counted}
use Rattle.topos_session.specs.Progress.{types_by, AreCounted}

-- two lists have the same types other than presheaves
abbrev pub SameTypes : List Ty → List Ty → Type 0
SameTypes l m = (T : Ty) → is_named T ≡ false → (In l T → In m T) × (In m T → In l T)

same_cells : (s : Site) (functors : List _) (l m : List Ty) → SameTypes l m → types_cells s functors l ≡ types_cells s functors m
same_cells s functors l m same =
    let a = types_within s functors l m (λ T i u. (same T u).0 i) in
    let b = types_within s functors m l (λ T i u. (same T u).1 i) in
    omega (arith, a, b)

-- the cells that are counted are those of the presheaves and of any list with the same types
pub cells_counted : (doc : Doc) (so : Declarations) (types : List (ℕ × List Ty)) (l : List Ty) → length doc.tops ≡ 1 → so.world.site ≡ site_of doc 0 → SameTypes (types_under 0 types) l →
    cells_so_far doc (with_counted so types) ≡ counted_cells so.world.site so.world.functors l so.world.charges
unfolding cells_so_far cells counted_cells site_of
cells_counted doc so types l one site same =
    let fs = so.world.functors in
    let S = sum (map (presheaf_cells (category_of doc)) fs) in
    let presheaves : sum (map (presheaf_cells so.world.site.category) fs) ≡ S = ap (λ (s : Site). sum (map (presheaf_cells s.category) fs)) site in
    let sealed : types_cells (site_of doc 0) fs (types_under 0 types) ≡ types_cells so.world.site fs l = same_cells (site_of doc 0) fs (types_under 0 types) l same ∙ ap (λ (s : Site). types_cells s fs l) (sym site) in
    ap (λ n. n * S + sum (map (λ j. types_cells (site_of doc j) fs (types_under j types)) (range_with_len 0 n)) + so.world.charges) one
    ∙ alone S (types_cells (site_of doc 0) fs (types_under 0 types)) so.world.charges ∙ omega (arith, presheaves, sealed)
  where
    alone : (a b c : ℕ) → 1 * a + sum (b ∷ []) + c ≡ a + b + c
    alone a b c = omega arith

-- the types that the first statements count, with those of one more
pub next_types : (doc : Doc) (maps : List MapTy) (i : ℕ) (stmt : Stmt) → slice_get doc.stmts i ≡ Some stmt → types_by doc maps (i + 1) ≡ types_by doc maps i ++ (under stmt, needs maps stmt) ∷ []
next_types doc maps i stmt next =
    let counted : Stmt → ℕ × List Ty = λ stmt. (under stmt, needs maps stmt) in
    ap (map counted) (take_more doc.stmts i stmt (slice_get_within doc.stmts i stmt next) ∙ ap (λ (s : Stmt). take i doc.stmts ++ s ∷ []) (get_or_from_slice_get doc.stmts i stmt stmt next))
    ∙ map-append counted (take i doc.stmts) (stmt ∷ [])

-- one statement more, with maps of these ends
pub types_more : (doc : Doc) (maps : List MapTy) (i : ℕ) (stmt : Stmt) → slice_get doc.stmts i ≡ Some stmt → under stmt ≡ 0 → types_under 0 (types_by doc maps (i + 1)) ≡ types_under 0 (types_by doc maps i) ++ needs maps stmt
unfolding types_under
types_more doc maps i stmt next first =
    let counted : Stmt → ℕ × List Ty = λ stmt. (under stmt, needs maps stmt) in
    let types : ℕ × List Ty → List Ty = λ entry. entry.1 in
    let here : ℕ × List Ty → Bool = λ entry. eqb entry.0 0 in
    ap (λ l. flat_map types (filter here l)) (next_types doc maps i stmt next)
    ∙ ap (flat_map types) (filter-append here (map counted (take i doc.stmts)) ((under stmt, needs maps stmt) ∷ []))
    ∙ flat_map-append types (filter here (map counted (take i doc.stmts))) (filter here ((under stmt, needs maps stmt) ∷ []))
    ∙ ap (λ l. flat_map types (filter here (map counted (take i doc.stmts))) ++ l) (ap (λ j. flat_map types (filter here ((j, needs maps stmt) ∷ []))) first ∙ append-nil (needs maps stmt))

module _ (doc : Doc) (w : CountedWorld) (maps : List MapTy) (i : ℕ) (stmt : Stmt) (next : slice_get doc.stmts i ≡ Some stmt) (first : under stmt ≡ 0) (counted : AreCounted (types_under 0 (types_by doc maps i)) w) where
  abbrev before : List Ty
  before = types_under 0 (types_by doc maps i)

  abbrev both : List Ty
  both = before ++ needs maps stmt

  -- the types with those of the statement
  pub types_with : SameTypes (types_under 0 (types_by doc maps (i + 1))) (w.types ++ needs maps stmt)
  types_with T u =
      let e = types_more doc maps i stmt next first in (
        λ j. elim (In-append_cases before (needs maps stmt) T (subst (λ l. In l T) e j)) [
          | inl a ↦ In-append_left w.types (needs maps stmt) T (counted.sealed T a u)
          | inr b ↦ In-append_right w.types (needs maps stmt) T b
        ],
        λ j. subst (λ l. In l T) (sym e) (elim (In-append_cases w.types (needs maps stmt) T j) [
          | inl a ↦ In-append_left before (needs maps stmt) T (counted.only T a)
          | inr b ↦ In-append_right before (needs maps stmt) T b
        ]),
      )

  -- where these are sealed, exactly those that are counted then are
  pub counted_next : (mid : CountedWorld) → IsGrownBy (needs maps stmt) w mid → AreCounted (types_under 0 (types_by doc maps (i + 1))) mid
  counted_next mid h =
      let e = types_more doc maps i stmt next first in
      record {
        sealed = λ T j u. elim (In-append_cases before (needs maps stmt) T (subst (λ l. In l T) e j)) [
          | inl a ↦ grown_keeps (needs maps stmt) w mid h.grown T (counted.sealed T a u)
          | inr b ↦ h.all T b u
        ];
        only = λ T j. subst (λ l. In l T) (sym e) (elim (grown_only (needs maps stmt) w mid h.grown T j) [
          | inl a ↦ In-append_left before (needs maps stmt) T (counted.only T a)
          | inr b ↦ In-append_right before (needs maps stmt) T b
        ]);
      }

-- the types that are counted are those that are sealed
pub counted_same : (types : List Ty) (w : CountedWorld) → AreCounted types w → SameTypes types w.types
counted_same types w h T u = (λ i. h.sealed T i u, h.only T)
