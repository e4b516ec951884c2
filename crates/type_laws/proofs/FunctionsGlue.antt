-- The natural assignments into a sheaf of values are a sheaf.
use Rattle.std.proofs.Common.{◌≡◌, ℕ, List, sym, ◌∙◌, ap, subst}
use Rattle.topos_model.specs.declared.value.Val.{Val, Fn}
use Rattle.topos_model.specs.declared.value.Entry.{Entry}
use Rattle.topos_model.specs.declared.value.Assign.{Assign}
use Rattle.finite_lists.specs.Members.{In, Distinct}
use Rattle.topos_model.specs.categories.Category.{Category, dom, compose}
use Rattle.topos_model.specs.topologies.Cover.{Site}
use Rattle.topos_model.specs.Laws.{IsCategory, IsInto}
use Rattle.topos_model.specs.types.Types.{places, assignments, fun_elements, fun_along}
use Rattle.topos_model.specs.types.Values.{assigns_of}
use Rattle.topos_model.proofs.ValueEquations.{assigns_of-Fn}
use Rattle.type_laws.proofs.Selectors.{Fn-equal}
use Rattle.finite_lists.proofs.Lists.{map_same}
use Rattle.type_laws.proofs.Places.{IsPresheaf, entry, entry_equal, moved, under, places_In, In_places, Distinct-places, moved_place, under_place, under_source}
use Rattle.type_laws.proofs.Tables.{row, at_entry, at_within, assignment_table, choose}
use Rattle.type_laws.proofs.Functions.{IsNaturalTable, fun_In, In_fun, shifted, fun_along_Fn}
use Rattle.type_laws.proofs.Readings.{read_function}
use Rattle.type_laws.proofs.LeastCovers.{IsLeast, IsValueSheaf, arrow, source, unit}

module _ (s : Site) (laws : IsCategory s.category) (M : ℕ → List ℕ) (least : IsLeast s M)
    (values : ℕ → List Val) (restrict : ℕ → Val → Val) (presheaf : IsPresheaf s.category values restrict) (distinct : (d : ℕ) → Distinct (values d))
    (values' : ℕ → List Val) (restrict' : ℕ → Val → Val) (presheaf' : IsPresheaf s.category values' restrict') (sheaf' : IsValueSheaf s.category M values' restrict') where
  abbrev k : Category
  k = s.category

  abbrev choices : ℕ → List Val
  choices f = values' (dom k f)

  abbrev Natural : ℕ → List Assign → Type 0
  Natural c l = IsNaturalTable s values restrict values' restrict' c l

  abbrev shift : ℕ → List Assign → List Assign
  shift f l = shifted s values restrict values' restrict' f l

  -- the value at (h, w), restricted along g, is read at the identity after a restriction along h.g
  read_moved : (c : ℕ) (l : List Assign) (e : Entry) (g : ℕ) → Natural c l → In (places s values c) e → IsInto k (dom k e.arrow) g →
      restrict' g (at_entry l e) ≡ at_entry (shift (compose k e.arrow g) l) (entry (dom k (compose k e.arrow g)) (restrict g e.val))
  read_moved c l e g natural i j =
      let a = In_places s values c e i in
      let q = laws.composite c e.arrow g a.0 j in
      let w' : In (values (dom k (compose k e.arrow g))) (restrict g e.val) = subst (λ d. In (values d) (restrict g e.val)) (sym q.1) (presheaf.within (dom k e.arrow) g e.val j a.1) in
      natural.natural e g i j
      ∙ sym (read_function s values restrict values' restrict' c (compose k e.arrow g) (restrict g e.val) l laws (source s laws M least c (compose k e.arrow g) q.0) q.0 w')

  -- the value at a place lies in the values at its stage
  value_within : (c : ℕ) (l : List Assign) (e : Entry) → Natural c l → In (places s values c) e → In (values' (dom k e.arrow)) (at_entry l e)
  value_within c l e natural i = at_within choices (places s values c) l e natural.member i

  pub fun_separated : (c : ℕ) (l m : List Assign) → Natural c l → Natural c m → ((f : ℕ) → In (M c) f → shift f l ≡ shift f m) → l ≡ m
  fun_separated c l m p q same =
      sym (assignment_table choices (places s values c) l (Distinct-places s values c distinct) p.member)
      ∙ map_same (row (at_entry l)) (row (at_entry m)) (places s values c) (λ e i.
      let a = In_places s values c e i in
      ap (λ v. row (λ x. v) e)
      (sheaf'.separated (dom k e.arrow) (at_entry l e) (at_entry m e) (source s laws M least c e.arrow a.0) (value_within c l e p i) (value_within c m e q i) (λ g n.
      let j = arrow s laws M least (dom k e.arrow) g n in
      read_moved c l e g p i j
      ∙ ap (λ x. at_entry x (entry (dom k (compose k e.arrow g)) (restrict g e.val))) (same (compose k e.arrow g) (least.sink c e.arrow g a.0 n))
      ∙ sym (read_moved c m e g q i j))))
      ∙ assignment_table choices (places s values c) m (Distinct-places s values c distinct) q.member

  module _ (c : ℕ) (σ : ℕ → List Assign) (each : (f : ℕ) → In (M c) f → Natural (dom k f) (σ f))
      (matching : (f g : ℕ) → In (M c) f → IsInto k (dom k f) g → shift g (σ f) ≡ σ (compose k f g)) where
    -- what is read along g at (h, w): the value of σ (h.g) at (identity, w.g)
    abbrev read : Entry → ℕ → Val
    read e g = at_entry (σ (compose k e.arrow g)) (entry (dom k g) (restrict g e.val))

    read_place : (e : Entry) (g : ℕ) → In (places s values c) e → IsInto k (dom k e.arrow) g → In (places s values (dom k g)) (entry (dom k g) (restrict g e.val))
    read_place e g i j =
        let a = In_places s values c e i in
        let u = unit s laws M least (dom k e.arrow) g j in
        places_In s values (dom k g) (entry (dom k g) (restrict g e.val)) u.0 (subst (λ d. In (values d) (restrict g e.val)) (sym u.1) (presheaf.within (dom k e.arrow) g e.val j a.1))

    -- the assignment that is read along g, at the source of g
    read_table : (e : Entry) (g : ℕ) → In (places s values c) e → In (M (dom k e.arrow)) g → Natural (dom k g) (σ (compose k e.arrow g))
    read_table e g i n =
        let a = In_places s values c e i in
        let j = arrow s laws M least (dom k e.arrow) g n in
        subst (λ d. Natural d (σ (compose k e.arrow g))) (laws.composite c e.arrow g a.0 j).1 (each (compose k e.arrow g) (least.sink c e.arrow g a.0 n))

    read_within : (e : Entry) (g : ℕ) → In (places s values c) e → In (M (dom k e.arrow)) g → In (values' (dom k g)) (read e g)
    read_within e g i n =
        let j = arrow s laws M least (dom k e.arrow) g n in
        subst (λ d. In (values' d) (read e g)) (unit s laws M least (dom k e.arrow) g j).1
        (value_within (dom k g) (σ (compose k e.arrow g)) (entry (dom k g) (restrict g e.val)) (read_table e g i n) (read_place e g i j))

    read_matching : (e : Entry) (g l : ℕ) → In (places s values c) e → In (M (dom k e.arrow)) g → IsInto k (dom k g) l → restrict' l (read e g) ≡ read e (compose k g l)
    read_matching e g l i n p =
        let a = In_places s values c e i in
        let j = arrow s laws M least (dom k e.arrow) g n in
        let u = unit s laws M least (dom k e.arrow) g j in
        let q = laws.composite c e.arrow g a.0 j in
        let x = entry (dom k g) (restrict g e.val) in
        let p' : IsInto k (dom k (dom k g)) l = subst (λ d. IsInto k d l) (sym u.1) p in
        let left : compose k (dom k g) l ≡ l = laws.left_neutral (dom k g) l p in
        let shifted_is : shift l (σ (compose k e.arrow g)) ≡ σ (compose k e.arrow (compose k g l)) =
        matching (compose k e.arrow g) l (least.sink c e.arrow g a.0 n) (subst (λ d. IsInto k d l) (sym q.1) p) ∙ ap σ (sym (laws.associative c e.arrow g l a.0 j p)) in
        read_moved (dom k g) (σ (compose k e.arrow g)) x l (read_table e g i n) (read_place e g i j) p'
        ∙ ap (λ f. at_entry (shift f (σ (compose k e.arrow g))) (entry (dom k f) (restrict l (restrict g e.val)))) left
        ∙ ap (λ t. at_entry t (entry (dom k l) (restrict l (restrict g e.val)))) shifted_is
        ∙ ap (at_entry (σ (compose k e.arrow (compose k g l)))) (entry_equal _ _ _ _ (sym (laws.composite (dom k e.arrow) g l j p).1) (presheaf.composite (dom k e.arrow) g l e.val j p a.1))

    -- the value at (h, w) restricts to what is read along each g of the least cover
    abbrev IsGlued : Entry → Val → Type 0
    IsGlued e v = In (choices e.arrow) v × ((g : ℕ) → In (M (dom k e.arrow)) g → restrict' g v ≡ read e g)

    pub glued_table : (l : List Assign) × In (assignments choices (places s values c)) l × ((e : Entry) → In (places s values c) e → IsGlued e (at_entry l e))
    glued_table =
        choose choices (places s values c) IsGlued (λ e i.
        let a = In_places s values c e i in
        let m = sheaf'.amalgam (dom k e.arrow) (read e) (source s laws M least c e.arrow a.0) (λ g n. read_within e g i n) (λ g l n p. read_matching e g l i n p) in
        (m.0, m.1, (m.1, m.2)))

    -- what is read at (h.g, w.g) along l is what is read at (h, w) along g.l
    read_again : (e : Entry) (g l : ℕ) → In (places s values c) e → IsInto k (dom k e.arrow) g → IsInto k (dom k g) l → read (moved s restrict e g) l ≡ read e (compose k g l)
    read_again e g l i j p =
        let a = In_places s values c e i in
        ap (λ t. at_entry t (entry (dom k l) (restrict l (restrict g e.val)))) (ap σ (sym (laws.associative c e.arrow g l a.0 j p)))
        ∙ ap (at_entry (σ (compose k e.arrow (compose k g l)))) (entry_equal _ _ _ _ (sym (laws.composite (dom k e.arrow) g l j p).1) (presheaf.composite (dom k e.arrow) g l e.val j p a.1))

    pub glued_natural : Natural c glued_table.0
    glued_natural = record {
      member = glued_table.1;
      natural = λ e g i j.
          let a = In_places s values c e i in
          let q = laws.composite c e.arrow g a.0 j in
          let v = glued_table.2 e i in
          let i' = moved_place s laws values restrict c e g presheaf i j in
          let w = glued_table.2 (moved s restrict e g) i' in
          sheaf'.separated (dom k g) _ _ (source s laws M least (dom k e.arrow) g j) (presheaf'.within (dom k e.arrow) g (at_entry glued_table.0 e) j v.0)
          (subst (λ d. In (values' d) (at_entry glued_table.0 (moved s restrict e g))) q.1 w.0)
          (λ l n.
          let p = arrow s laws M least (dom k g) l n in
          presheaf'.composite (dom k e.arrow) g l (at_entry glued_table.0 e) j p v.0
          ∙ v.1 (compose k g l) (least.sink (dom k e.arrow) g l j n)
          ∙ sym (read_again e g l i j p)
          ∙ sym (w.1 l (subst (λ d. In (M d) l) (sym q.1) n)));
    }

    pub glued_shifted : (f : ℕ) → In (M c) f → shift f glued_table.0 ≡ σ f
    glued_shifted f n =
        let i = arrow s laws M least c f n in
        map_same (row (λ e. at_entry glued_table.0 (under s f e))) (row (at_entry (σ f))) (places s values (dom k f)) (λ e p.
        let a = In_places s values (dom k f) e p in
        let d : dom k (compose k f e.arrow) ≡ dom k e.arrow = under_source s laws values restrict c f e i p in
        let v = glued_table.2 (under s f e) (under_place s laws values restrict c f e i p) in
        ap (λ x. row (λ y. x) e)
        (sheaf'.separated (dom k e.arrow) _ _ (source s laws M least (dom k f) e.arrow a.0)
        (subst (λ d. In (values' d) (at_entry glued_table.0 (under s f e))) d v.0)
        (value_within (dom k f) (σ f) e (each f n) p)
        (λ g m.
        let j = arrow s laws M least (dom k e.arrow) g m in
        let h = compose k e.arrow g in
        let q = laws.composite (dom k f) e.arrow g a.0 j in
        v.1 g (subst (λ d. In (M d) g) (sym d) m)
        ∙ ap (λ t. at_entry t (entry (dom k g) (restrict g e.val))) (sym (matching f h n q.0 ∙ ap σ (laws.associative c f e.arrow g i a.0 j)))
        ∙ ap (λ d. at_entry (shift h (σ f)) (entry d (restrict g e.val))) (sym q.1)
        ∙ sym (read_moved (dom k f) (σ f) e g (each f n) p j))))
        ∙ assignment_table choices (places s values (dom k f)) (σ f) (Distinct-places s values (dom k f) distinct) (each f n).member

  pub fun_sheaf : IsValueSheaf k M (fun_elements s values restrict values' restrict') (fun_along s values)
  fun_sheaf = record {
    separated = λ c u v low h j same.
        let m = In_fun s values restrict values' restrict' distinct c u h in
        let n = In_fun s values restrict values' restrict' distinct c v j in
        sym m.2
        ∙ ap Fn (fun_separated c m.0 n.0 m.1 n.1 (λ f i.
        Fn-equal _ _ (sym (fun_along_Fn s values restrict values' restrict' f m.0) ∙ ap (fun_along s values f) m.2 ∙ same f i ∙ ap (fun_along s values f) (sym n.2) ∙ fun_along_Fn s values restrict values' restrict' f n.0)))
        ∙ n.2;
    amalgam = λ c t low h matching.
        let known : (f : ℕ) → In (M c) f → Natural (dom k f) (assigns_of (t f)) × (Fn (assigns_of (t f)) ≡ t f) =
        λ f i.
        let m = In_fun s values restrict values' restrict' distinct (dom k f) (t f) (h f i) in
        let e : m.0 ≡ assigns_of (t f) = sym (assigns_of-Fn m.0) ∙ ap assigns_of m.2 in
        (subst (λ l. Natural (dom k f) l) e m.1, subst (λ l. Fn l ≡ t f) e m.2) in
        let σ : ℕ → List Assign = λ f. assigns_of (t f) in
        let each : (f : ℕ) → In (M c) f → Natural (dom k f) (σ f) = λ f i. (known f i).0 in
        let agree : (f g : ℕ) → In (M c) f → IsInto k (dom k f) g → shift g (σ f) ≡ σ (compose k f g) =
        λ f g i j. sym (assigns_of-Fn _) ∙ ap assigns_of (sym (fun_along_Fn s values restrict values' restrict' g (σ f)) ∙ ap (fun_along s values g) (known f i).1 ∙ matching f g i j) in (
          Fn (glued_table c σ each agree).0,
          fun_In s values restrict values' restrict' distinct c _ (glued_natural c σ each agree),
          λ f i. fun_along_Fn s values restrict values' restrict' f _ ∙ ap Fn (glued_shifted c σ each agree f i) ∙ (known f i).1,
        );
  }
