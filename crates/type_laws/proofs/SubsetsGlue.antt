-- The closed subsets of a presheaf of values are a sheaf.
use Rattle.std.proofs.Common.{◌≡◌, ℕ, List, filter, sym, ◌∙◌, ap, subst}
use Rattle.std.specs.List.{list_all}
use Rattle.topos_model.specs.declared.value.Val.{Val, Sub}
use Rattle.topos_model.specs.declared.value.Entry.{Entry}
use Rattle.finite_lists.specs.Members.{In, Distinct}
use Rattle.finite_lists.specs.Sublists.{sublists}
use Rattle.topos_model.specs.categories.Category.{Category, dom, compose}
use Rattle.topos_model.specs.topologies.Cover.{Site}
use Rattle.topos_model.specs.Laws.{IsCategory, IsInto}
use Rattle.topos_model.specs.types.Types.{places, in_entries, pow_elements, pow_along}
use Rattle.topos_model.specs.types.Values.{entries_of}
use Rattle.topos_model.proofs.ValueEquations.{entries_of-Sub}
use Rattle.type_laws.proofs.Selectors.{Sub-equal}
use Rattle.finite_lists.proofs.Lists.{In-filter, In-filter_from, all_each, each_all, filter_sublist, sublist_within, sublist_kept}
use Rattle.type_laws.proofs.Places.{IsPresheaf, entry, entry_equal, entries_In, In_entries, moved, under, In_places, Distinct-places, moved_place, under_place}
use Rattle.type_laws.proofs.Subsets.{IsClosedSubset, pow_In, In_pow, narrowed, narrowed_In, In_narrowed, pow_along_Sub}
use Rattle.type_laws.proofs.Readings.{read_subset, subset_read}
use Rattle.type_laws.proofs.LeastCovers.{IsLeast, IsValueSheaf, arrow, source, closed_subset_least}

-- two sublists of the places with the same members are equal
pub same_entries_in : (s : Site) (values : ℕ → List Val) (c : ℕ) (l m : List Entry) → ((d : ℕ) → Distinct (values d)) →
    In (sublists (places s values c)) l → In (sublists (places s values c)) m → ((e : Entry) → In l e → In m e) → ((e : Entry) → In m e → In l e) → l ≡ m
same_entries_in s values c l m distinct i j to back =
    sym (sublist_kept (λ e. in_entries e.arrow e.val l) (places s values c) l (Distinct-places s values c distinct) i (λ e h. entries_In e.arrow e.val l) (λ e. In_entries e.arrow e.val l))
    ∙ sublist_kept (λ e. in_entries e.arrow e.val l) (places s values c) m (Distinct-places s values c distinct) j
    (λ e h p. to e (entries_In e.arrow e.val l p)) (λ e h. In_entries e.arrow e.val l (back e h))

module _ (s : Site) (laws : IsCategory s.category) (M : ℕ → List ℕ) (least : IsLeast s M)
    (values : ℕ → List Val) (restrict : ℕ → Val → Val) (presheaf : IsPresheaf s.category values restrict) (distinct : (d : ℕ) → Distinct (values d)) where
  abbrev k : Category
  k = s.category

  pow_included : (c : ℕ) (l m : List Entry) → IsClosedSubset s values restrict c l → IsClosedSubset s values restrict c m →
      ((f : ℕ) → In (M c) f → narrowed s values restrict f l ≡ narrowed s values restrict f m) → (e : Entry) → In l e → In m e
  pow_included c l m p q same e h =
      let i = sublist_within (places s values c) l e p.member h in
      let a = In_places s values c e i in
      closed_subset_least s laws M least values restrict c e m q i (λ g n.
      let j = arrow s laws M least (dom k e.arrow) g n in
      let b = laws.composite c e.arrow g a.0 j in
      let f = compose k e.arrow g in
      let w = restrict g e.val in
      let w' : In (values (dom k f)) w = subst (λ d. In (values d) w) (sym b.1) (presheaf.within (dom k e.arrow) g e.val j a.1) in
      read_subset s values restrict c f w m laws b.0
      (subst (λ x. In x (entry (dom k f) w)) (same f (least.sink c e.arrow g a.0 n))
      (subset_read s values restrict c f w l laws (source s laws M least c f b.0) b.0 w' (p.downward e g h j))))

  pub pow_separated : (c : ℕ) (l m : List Entry) → IsClosedSubset s values restrict c l → IsClosedSubset s values restrict c m →
      ((f : ℕ) → In (M c) f → narrowed s values restrict f l ≡ narrowed s values restrict f m) → l ≡ m
  pow_separated c l m p q same =
      same_entries_in s values c l m distinct p.member q.member (pow_included c l m p q same) (pow_included c m l q p (λ f i. sym (same f i)))

  module _ (c : ℕ) (σ : ℕ → List Entry) (each : (f : ℕ) → In (M c) f → IsClosedSubset s values restrict (dom k f) (σ f))
      (matching : (f g : ℕ) → In (M c) f → IsInto k (dom k f) g → narrowed s values restrict g (σ f) ≡ σ (compose k f g)) where
    -- (identity, w.g) in σ (h.g)
    abbrev pub IsRead : Entry → ℕ → Type 0
    IsRead e g = In (σ (compose k e.arrow g)) (entry (dom k g) (restrict g e.val))

    -- the (h, w) with (identity, w.g) in σ (h.g) for each g of the least cover
    abbrev pub glued_subset : List Entry
    glued_subset = filter (λ e. list_all (λ g. in_entries (dom k g) (restrict g e.val) (σ (compose k e.arrow g))) (M (dom k e.arrow))) (places s values c)

    glued_In : (e : Entry) → In (places s values c) e → ((g : ℕ) → In (M (dom k e.arrow)) g → IsRead e g) → In glued_subset e
    glued_In e i m = In-filter _ _ e i (each_all _ (M (dom k e.arrow)) (λ g n. In_entries _ _ _ (m g n)))

    In_glued : (e : Entry) → In glued_subset e → In (places s values c) e × ((g : ℕ) → In (M (dom k e.arrow)) g → IsRead e g)
    In_glued e m =
        let n = In-filter_from (λ e. list_all (λ g. in_entries (dom k g) (restrict g e.val) (σ (compose k e.arrow g))) (M (dom k e.arrow))) (places s values c) e m in
        (n.0, λ g j. entries_In _ _ _ (all_each (λ g. in_entries (dom k g) (restrict g e.val) (σ (compose k e.arrow g))) (M (dom k e.arrow)) g n.1 j))

    -- what is read at (h.g, w.g) along l is what is read at (h, w) along g.l
    read_along : (e : Entry) (g l : ℕ) → In (places s values c) e → IsInto k (dom k e.arrow) g → IsInto k (dom k g) l →
        (IsRead e (compose k g l) → IsRead (moved s restrict e g) l) × (IsRead (moved s restrict e g) l → IsRead e (compose k g l))
    read_along e g l i j p =
        let a = In_places s values c e i in
        let f : σ (compose k e.arrow (compose k g l)) ≡ σ (compose k (compose k e.arrow g) l) = ap σ (laws.associative c e.arrow g l a.0 j p) in
        let w : entry (dom k (compose k g l)) (restrict (compose k g l) e.val) ≡ entry (dom k l) (restrict l (restrict g e.val)) =
        entry_equal _ _ _ _ (laws.composite (dom k e.arrow) g l j p).1 (sym (presheaf.composite (dom k e.arrow) g l e.val j p a.1)) in (
          λ m. subst (λ x. In x (entry (dom k l) (restrict l (restrict g e.val)))) f (subst (λ x. In (σ (compose k e.arrow (compose k g l))) x) w m),
          λ m. subst (λ x. In (σ (compose k e.arrow (compose k g l))) x) (sym w) (subst (λ x. In x (entry (dom k l) (restrict l (restrict g e.val)))) (sym f) m),
        )

    glued_downward : (e : Entry) (g : ℕ) → In glued_subset e → IsInto k (dom k e.arrow) g → In glued_subset (moved s restrict e g)
    glued_downward e g m j =
        let n = In_glued e m in
        let a = In_places s values c e n.0 in
        let q = laws.composite c e.arrow g a.0 j in
        glued_In (moved s restrict e g) (moved_place s laws values restrict c e g presheaf n.0 j) (λ l p.
        let p' : In (M (dom k g)) l = subst (λ d. In (M d) l) q.1 p in
        (read_along e g l n.0 j (arrow s laws M least (dom k g) l p')).0 (n.1 (compose k g l) (least.sink (dom k e.arrow) g l j p')))

    glued_closed : (e : Entry) → In (places s values c) e → ((g : ℕ) → In (M (dom k e.arrow)) g → In glued_subset (moved s restrict e g)) → In glued_subset e
    glued_closed e i m =
        let a = In_places s values c e i in
        glued_In e i (λ f n.
        let parts = least.split (dom k e.arrow) f n in
        let g = parts.0 in
        let l = parts.1 in
        let g' = arrow s laws M least (dom k e.arrow) g parts.2 in
        let q = laws.composite c e.arrow g a.0 g' in
        subst (λ f. IsRead e f) parts.4
        ((read_along e g l i g' (arrow s laws M least (dom k g) l parts.3)).1
        ((In_glued (moved s restrict e g) (m g parts.2)).1 l (subst (λ d. In (M d) l) (sym q.1) parts.3))))

    pub glued_is_closed : IsClosedSubset s values restrict c glued_subset
    glued_is_closed = record {
      member = filter_sublist _ (places s values c);
      downward = glued_downward;
      closed = λ e R i r m. glued_closed e i (λ g n. m g (least.within (dom k e.arrow) g R r n));
    }

    -- what is read at (f.h, w) along g, against (h.g, w.g) in σ f
    read_below : (f : ℕ) (e : Entry) (g : ℕ) → In (M c) f → In (places s values (dom k f)) e → In (M (dom k e.arrow)) g →
        (IsRead (under s f e) g → In (σ f) (moved s restrict e g)) × (In (σ f) (moved s restrict e g) → IsRead (under s f e) g)
    read_below f e g n i j =
        let a = In_places s values (dom k f) e i in
        let g' = arrow s laws M least (dom k e.arrow) g j in
        let q = laws.composite (dom k f) e.arrow g a.0 g' in
        let h = compose k e.arrow g in
        let w = restrict g e.val in
        let same : narrowed s values restrict h (σ f) ≡ σ (compose k (compose k f e.arrow) g) =
        matching f h n q.0 ∙ ap σ (laws.associative c f e.arrow g (arrow s laws M least c f n) a.0 g') in
        let w' : In (values (dom k h)) w = subst (λ d. In (values d) w) (sym q.1) (presheaf.within (dom k e.arrow) g e.val g' a.1) in (
          λ m.
              read_subset s values restrict (dom k f) h w (σ f) laws q.0
              (subst (λ x. In x (entry (dom k h) w)) (sym same) (subst (λ d. In (σ (compose k (compose k f e.arrow) g)) (entry d w)) (sym q.1) m)),
          λ m.
              subst (λ d. In (σ (compose k (compose k f e.arrow) g)) (entry d w)) q.1
              (subst (λ x. In x (entry (dom k h) w)) same
              (subset_read s values restrict (dom k f) h w (σ f) laws (source s laws M least (dom k f) h q.0) q.0 w' m)),
        )

    pub glued_narrowed : (f : ℕ) → In (M c) f → narrowed s values restrict f glued_subset ≡ σ f
    glued_narrowed f n =
        let i = arrow s laws M least c f n in
        same_entries_in s values (dom k f) _ (σ f) distinct (filter_sublist _ (places s values (dom k f))) (each f n).member
        (λ e m.
        let p = In_narrowed s values restrict f glued_subset e m in
        let q = laws.composite c f e.arrow i (In_places s values (dom k f) e p.0).0 in
        closed_subset_least s laws M least values restrict (dom k f) e (σ f) (each f n) p.0 (λ g j.
        (read_below f e g n p.0 j).0 ((In_glued (under s f e) p.1).1 g (subst (λ d. In (M d) g) (sym q.1) j))))
        (λ e m.
        let p = sublist_within (places s values (dom k f)) (σ f) e (each f n).member m in
        let q = laws.composite c f e.arrow i (In_places s values (dom k f) e p).0 in
        narrowed_In s values restrict f glued_subset e p
        (glued_In (under s f e) (under_place s laws values restrict c f e i p) (λ g j.
        let j' : In (M (dom k e.arrow)) g = subst (λ d. In (M d) g) q.1 j in
        (read_below f e g n p j').1 ((each f n).downward e g m (arrow s laws M least (dom k e.arrow) g j')))))

  pub pow_sheaf : IsValueSheaf k M (pow_elements s values restrict) (pow_along s values)
  pow_sheaf = record {
    separated = λ c u v low h j same.
        let m = In_pow s values restrict c u h in
        let n = In_pow s values restrict c v j in
        sym m.2
        ∙ ap Sub (pow_separated c m.0 n.0 m.1 n.1 (λ f i.
        Sub-equal _ _ (sym (pow_along_Sub s values restrict f m.0) ∙ ap (pow_along s values f) m.2 ∙ same f i ∙ ap (pow_along s values f) (sym n.2) ∙ pow_along_Sub s values restrict f n.0)))
        ∙ n.2;
    amalgam = λ c t low h matching.
        let known : (f : ℕ) → In (M c) f → IsClosedSubset s values restrict (dom k f) (entries_of (t f)) × (Sub (entries_of (t f)) ≡ t f) =
        λ f i.
        let m = In_pow s values restrict (dom k f) (t f) (h f i) in
        let e : m.0 ≡ entries_of (t f) = sym (entries_of-Sub m.0) ∙ ap entries_of m.2 in
        (subst (λ l. IsClosedSubset s values restrict (dom k f) l) e m.1, subst (λ l. Sub l ≡ t f) e m.2) in
        let σ : ℕ → List Entry = λ f. entries_of (t f) in
        let each : (f : ℕ) → In (M c) f → IsClosedSubset s values restrict (dom k f) (σ f) = λ f i. (known f i).0 in
        let agree : (f g : ℕ) → In (M c) f → IsInto k (dom k f) g → narrowed s values restrict g (σ f) ≡ σ (compose k f g) =
        λ f g i j. sym (entries_of-Sub _) ∙ ap entries_of (sym (pow_along_Sub s values restrict g (σ f)) ∙ ap (pow_along s values g) (known f i).1 ∙ matching f g i j) in (
          Sub (glued_subset c σ each agree),
          pow_In s values restrict c _ (glued_is_closed c σ each agree),
          λ f i. pow_along_Sub s values restrict f _ ∙ ap Sub (glued_narrowed c σ each agree f i) ∙ (known f i).1,
        );
  }
