-- What holds of a session when it begins, and behind each statement.
use Rattle.std.proofs.Common.{◌≡◌, ℕ, ◌+◌, ◌-◌, ◌<◌, ◌≤◌, Bool, true, false, eqb, List, [], ◌∷◌, ◌++◌, map, filter, length, get_or, take, drop, slice_get, Option, Some, None, refl, sym, ap, ap₂, ◌∙◌, subst, inl, inr, length-append, append_assoc, arith}
use Rattle.std.specs.List.{flat_map}
use Rattle.std.proofs.Math.Nat.{eq-or-lt_of_le}
use Rattle.std.proofs.lemmas.List.{map-append, length-map}
use Rattle.finite_lists.specs.Members.{In}
use Rattle.std.proofs.Math.ListN.{get_or-append}
use Rattle.std.proofs.Math.Seq.{get_or-append_seam}
use Rattle.std.proofs.lemmas.Bool.{and_parts, true≢false}
use Rattle.std.proofs.lemmas.Option.{get_or_from_slice_get, slice_get_within}
use Rattle.topos_model.specs.declared.doc.Doc.{Doc}
use Rattle.topos_model.specs.declared.stmt.Stmt.{Stmt}
use Rattle.topos_model.specs.categories.Category.{Category}
use Rattle.topos_model.specs.types.Types.{Presheaf}
use Rattle.topos_model.specs.Laws.{IsFunctor}
use Rattle.topos_model.specs.categories.Listed.{all_ends}
use Rattle.topos_model.specs.categories.Filling.{filled_category}
use Rattle.topos_model.specs.categories.CategoryFaults.{category_fault}
use Rattle.topos_session.specs.Ranges.{is_in_range, declares, are_in_range, has_range, is_single}
use Rattle.topos_model.specs.declared.ty.Ty.{Ty}
use Rattle.topos_model.specs.topologies.Cover.{Site}
use Rattle.topos_model.specs.statements.Needs.{under, needs}
use Rattle.topos_model.specs.statements.Cells.{types_under}
use Rattle.topos_model.specs.statements.Declarations.{category_of, site_of}
use Rattle.sealed_world.specs.SealedWorlds.{CountedWorld, bare_world, world_cells}
use Rattle.topos_model.specs.declared.context.MapTy.{MapTy}
use Rattle.topos_model.specs.declared.context.MapTable.{MapTable}
use Rattle.formula_answers.specs.MapTables.{ends_of}
use Rattle.topos_session.specs.Built.{is_built}
use Rattle.topos_session.specs.declared.declarations.Declarations.{Declarations}
use Rattle.topos_session.specs.Functors.{AreFunctors, none}
use Rattle.topos_session.specs.Declarations.{AreLawful, IsKept, none_declared}
use Rattle.topos_session.specs.Progress.{types_by, AreCounted, IsUnderWay}
use Rattle.topos_session.proofs.StatementForms.{declares_few}
use Rattle.topos_session.proofs.FormulaStatements.{needs_settled}
use Rattle.topos_session.proofs.CellsSoFar.{next_types}
use Rattle.topos_session.proofs.DocumentRanges.{ranges, are_in_range-from, unasked}

-- nothing that is declared breaks the laws
none_lawful : (s : Site) (budget : ℕ) → AreLawful s.category (none_declared s budget)
none_lawful s budget = record { category = refl; functors = λ n low. absurd (none_below n low); maps = λ n low. absurd (none_below n low) }
  where
    none_below : (n : ℕ) → n < 0 → ⊥
    none_below n low = omega arith

take_none : (l : List Stmt) → take 0 l ≡ []
take_none [] = refl
take_none (x ∷ l) = refl

-- nothing is counted yet
no_types : (doc : Doc) (maps : List MapTy) → types_under 0 (types_by doc maps 0) ≡ []
unfolding types_under
no_types doc maps = ap (λ (l : List Stmt). flat_map (λ (entry : ℕ × List Ty). entry.1) (filter (λ (entry : ℕ × List Ty). eqb entry.0 0) (map (λ stmt. (under stmt, needs maps stmt)) l))) (take_none doc.stmts)

pub begins : (doc : Doc) (budget : ℕ) (world : CountedWorld) (maps : List MapTable) → has_range doc ≡ true → category_fault doc.cat ≡ None → is_single doc.tops ≡ true →
    world ≡ bare_world (site_of doc 0) budget → maps ≡ [] → world_cells world ≤ world.budget → IsUnderWay doc (record { world = world; maps = maps }) 0 true
begins doc budget world maps range faultless single bare none fits =
    let so = none_declared (site_of doc 0) budget in
    let is : ◌≡◌ {A = Declarations} (record { world = world; maps = maps }) so = rw (bare, none) refl in
    subst (λ (x : Declarations). IsUnderWay doc x 0 true) (sym is) (record {
      range = range;
      faultless = faultless;
      single = single;
      site = refl;
      lawful = none_lawful (site_of doc 0) budget;
      within = omega arith;
      few = omega arith;
      fits = λ live. subst (λ (w : CountedWorld). world_cells w ≤ w.budget) bare fits;
      counted = λ live. record { sealed = λ T i u. subst (λ l. In l T) (no_types doc []) i; only = λ T i. absurd i };
      settled = λ more. ap (map (λ stmt. (under stmt, needs more stmt))) (take_none doc.stmts) ∙ sym (ap (map (λ stmt. (under stmt, needs [] stmt))) (take_none doc.stmts));
      rest = (ranges doc range).statements;
    })

-- the category of the site
pub category_is : (doc : Doc) (so : Declarations) (i : ℕ) (live : Bool) → IsUnderWay doc so i live → so.world.site.category ≡ filled_category doc.cat
unfolding site_of category_of
category_is doc so i live way = ap (λ (s : Site). s.category) way.site

module _ (doc : Doc) (so : Declarations) (i : ℕ) (live : Bool) (stmt : Stmt) (way : IsUnderWay doc so i live) (next : slice_get doc.stmts i ≡ Some stmt) where
  abbrev n : ℕ
  n = length so.world.functors

  abbrev l : ℕ
  l = length so.maps

  low : i < length doc.stmts
  low = slice_get_within doc.stmts i stmt next

  -- the statement that is next, and those behind it
  next_and_rest : (made : ℕ × ℕ) → declares stmt ≡ Some made →
      (is_in_range doc.cat.objects (all_ends doc.cat) n l stmt ≡ true) × (are_in_range doc.cat.objects (all_ends doc.cat) (n + made.0) (l + made.1) (drop (i + 1) doc.stmts) ≡ true)
  next_and_rest made e =
      and_parts _ _ (sym (are_in_range-from doc.cat.objects (all_ends doc.cat) n l doc.stmts i stmt low (get_or_from_slice_get doc.stmts i stmt stmt next) made e) ∙ way.rest)

  next_listed : is_in_range doc.cat.objects (all_ends doc.cat) n l stmt ≡ true
  next_listed = at (declares stmt) refl
    where
      at : (o : Option (ℕ × ℕ)) → declares stmt ≡ o → is_in_range doc.cat.objects (all_ends doc.cat) n l stmt ≡ true
      at (Some made) e = (next_and_rest made e).0
      at None e = unasked doc.cat.objects (all_ends doc.cat) n l stmt e

  pub next_in_range : is_in_range so.world.site.category.objects so.world.site.category.ends n l stmt ≡ true
  unfolding filled_category
  next_in_range = subst (λ (k : Category). is_in_range k.objects k.ends n l stmt ≡ true) (sym (category_is doc so i live way)) (at_filled next_listed)
    where
      at_filled : is_in_range doc.cat.objects (all_ends doc.cat) n l stmt ≡ true → is_in_range (filled_category doc.cat).objects (filled_category doc.cat).ends n l stmt ≡ true
      at_filled e = e

  -- the types of one statement more, with more maps
  ends_range : is_in_range doc.cat.objects (all_ends doc.cat) n (length (ends_of so.maps)) stmt ≡ true
  ends_range = subst (λ m. is_in_range doc.cat.objects (all_ends doc.cat) n m stmt ≡ true) (sym (length-map so.maps (λ m. m.ends))) next_listed

  settled_next : is_built stmt ≡ true → (more : List MapTy) → types_by doc (ends_of so.maps ++ more) (i + 1) ≡ types_by doc (ends_of so.maps) (i + 1)
  settled_next built more =
      next_types doc (ends_of so.maps ++ more) i stmt next
      ∙ ap₂ (λ (types : List (ℕ × List Ty)) (needed : List Ty). types ++ (under stmt, needed) ∷ []) (way.settled more) (needs_settled (ends_of so.maps) more doc.cat.objects (all_ends doc.cat) n stmt ends_range built)
      ∙ sym (next_types doc (ends_of so.maps) i stmt next)

  pub types_settled : is_built stmt ≡ true → (more : List MapTable) (maps : List MapTable) → maps ≡ so.maps ++ more → types_by doc (ends_of maps) (i + 1) ≡ types_by doc (ends_of so.maps) (i + 1)
  types_settled built more maps e = ap (λ m. types_by doc m (i + 1)) (ap ends_of e ∙ map-append (λ m. m.ends) so.maps more) ∙ settled_next built (ends_of more)

  settled_behind : is_built stmt ≡ true → (more : List MapTable) (maps : List MapTable) → maps ≡ so.maps ++ more → (later : List MapTy) → types_by doc (ends_of maps ++ later) (i + 1) ≡ types_by doc (ends_of maps) (i + 1)
  settled_behind built more maps e later =
      ap (λ m. types_by doc (m ++ later) (i + 1)) (ap ends_of e ∙ map-append (λ m. m.ends) so.maps more)
      ∙ ap (λ m. types_by doc m (i + 1)) (append_assoc (ends_of so.maps) (ends_of more) later) ∙ settled_next built (ends_of more ++ later) ∙ sym (types_settled built more maps e)

  pub goes_on : (after : Declarations) → after.world.site ≡ so.world.site → AreLawful so.world.site.category after → declares stmt ≡ Some (length after.world.functors - n, length after.maps - l)
      → n ≤ length after.world.functors → (more : List MapTable) → after.maps ≡ so.maps ++ more → is_built stmt ≡ true → world_cells after.world ≤ after.world.budget
      → AreCounted (types_under 0 (types_by doc (ends_of after.maps) (i + 1))) after.world → IsUnderWay doc after (i + 1) live
  goes_on after site lawful declared functors more maps built fits counted =
      let longer : length after.maps ≡ l + length more = ap length maps ∙ length-append so.maps more in
      let same : (n + (length after.world.functors - n) ≡ length after.world.functors) × (l + (length after.maps - l) ≡ length after.maps) = (omega arith, omega (arith, longer)) in
      record {
        range = way.range;
        faultless = way.faultless;
        single = way.single;
        site = site ∙ way.site;
        lawful = subst (λ (s : Site). AreLawful s.category after) (sym site) lawful;
        within = omega (arith, low);
        few = let few = way.few in let one = declares_few stmt _ _ declared in omega (arith, few, one, functors);
        fits = λ live. fits;
        counted = λ live. counted;
        settled = λ later. settled_behind built more after.maps maps later;
        rest = rw (same.0, same.1) at (next_and_rest (length after.world.functors - n, length after.maps - l) declared).1;
      }

  -- where the run stops, types may have been sealed
  pub stops : (after : Declarations) → IsKept so after → IsUnderWay doc after i false
  stops after kept =
      subst (λ (x : Declarations). IsUnderWay doc x i false) (sym kept.is) (record {
        range = way.range;
        faultless = way.faultless;
        single = way.single;
        site = way.site;
        lawful = record { category = way.lawful.category; functors = way.lawful.functors; maps = way.lawful.maps };
        within = way.within;
        few = way.few;
        fits = λ live. absurd (true≢false (sym live));
        counted = λ live. absurd (true≢false (sym live));
        settled = way.settled;
        rest = way.rest;
      })

-- one more behind others
pub one_more_of : {A : Type 0} (P : A → Type 0) (d : A) (xs : List A) (x : A) → ((n : ℕ) → n < length xs → P (get_or xs n d)) → P x → (n : ℕ) → n < length (xs ++ x ∷ []) → P (get_or (xs ++ x ∷ []) n d)
one_more_of {A} P d xs x before here n low =
    elim (eq-or-lt_of_le within) [
      | inl last ↦ subst (λ n. P (get_or (xs ++ x ∷ []) n d)) (sym last) (subst P (sym (get_or-append_seam xs x [] d)) here)
      | inr earlier ↦ subst P (sym (get_or-append xs (x ∷ []) d n earlier)) (before n earlier)
    ]
  where
    within : n ≤ length xs
    within = let bound : n < length xs + length (x ∷ []) = simp length-append at low in omega arith

-- one functor more
pub one_more : (k : Category) (functors : List Presheaf) (X : Presheaf) → AreFunctors k functors → IsFunctor k X → AreFunctors k (functors ++ X ∷ [])
one_more k functors X lawful here = one_more_of (IsFunctor k) none functors X lawful here
