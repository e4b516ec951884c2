-- The places of a type: pairs of an arrow and a value, as members of lists, moved along an arrow and taken under one.
use Rattle.std.proofs.Common.{◌≡◌, ℕ, ◌<◌, true, ◌&&◌, List, map, refl, sym, ◌∙◌, ap, subst, eqb}
use Rattle.std.proofs.lemmas.Bool.{eqb-true, eq-eqb, and_parts, and_from}
use Rattle.topos_model.specs.declared.value.Val.{Val}
use Rattle.topos_model.specs.declared.value.Entry.{Entry}
use Rattle.finite_lists.specs.Members.{In, Distinct}
use Rattle.topos_model.specs.categories.Category.{Category, into, dom, compose}
use Rattle.topos_model.specs.topologies.Cover.{Site}
use Rattle.topos_model.specs.Laws.{IsCategory, IsInto}
use Rattle.topos_model.specs.types.Types.{places, in_entries}
use Rattle.topos_model.specs.types.Values.{same}
use Rattle.type_laws.proofs.Same.{same_equal, same_self}
use Rattle.finite_lists.proofs.Lists.{In-map, In-map_from, In-flat_map, In-flat_map_from, any_some, some_any}
use Rattle.finite_lists.proofs.DistinctLists.{Distinct-map, Distinct-flat_map}
use Rattle.topos_model.proofs.ArrowsInto.{In-into, In-into_from}
use Rattle.sieve_table.proofs.SieveMembers.{Distinct-into}

abbrev pub entry : ℕ → Val → Entry
entry f w = record { arrow = f; val = w }

pub entry_equal : (f g : ℕ) (u w : Val) → f ≡ g → u ≡ w → entry f u ≡ entry g w
entry_equal f g u w p q = ap (λ h. entry h u) p ∙ ap (entry g) q

pub entries_In : (f : ℕ) (w : Val) (l : List Entry) → in_entries f w l ≡ true → In l (entry f w)
unfolding in_entries
entries_In f w l h =
    let m = any_some (λ e. eqb e.arrow f && same e.val w) l h in
    let b = and_parts _ _ m.2 in
    subst (λ e. In l e) (entry_equal m.0.arrow f m.0.val w (eqb-true _ _ b.0) (same_equal _ _ b.1)) m.1

pub In_entries : (f : ℕ) (w : Val) (l : List Entry) → In l (entry f w) → in_entries f w l ≡ true
unfolding in_entries
In_entries f w l h = some_any (λ e. eqb e.arrow f && same e.val w) l (entry f w) h (and_from _ _ (eq-eqb f f refl) (same_self w))

-- a presheaf of values: its elements at each object, and their restrictions
pub record IsPresheaf (k : Category) (values : ℕ → List Val) (restrict : ℕ → Val → Val) : Type 0 where
  pub within : (c f : ℕ) (v : Val) → IsInto k c f → In (values c) v → In (values (dom k f)) (restrict f v)
  pub identity : (c : ℕ) (v : Val) → c < k.objects → In (values c) v → restrict c v ≡ v
  pub composite : (c f g : ℕ) (v : Val) → IsInto k c f → IsInto k (dom k f) g → In (values c) v → restrict g (restrict f v) ≡ restrict (compose k f g) v

module _ (s : Site) where
  abbrev k : Category
  k = s.category

  -- (f.g, w.g)
  abbrev pub moved : (ℕ → Val → Val) → Entry → ℕ → Entry
  moved restrict e g = entry (compose k e.arrow g) (restrict g e.val)

  -- (f.h, w) for (h, w)
  abbrev pub under : ℕ → Entry → Entry
  under f e = entry (compose k f e.arrow) e.val

  pub places_In : (values : ℕ → List Val) (c : ℕ) (e : Entry) → IsInto k c e.arrow → In (values (dom k e.arrow)) e.val → In (places s values c) e
  unfolding places
  places_In values c e i h = In-flat_map _ (into k c) e.arrow e (In-into k c e.arrow i) (In-map (entry e.arrow) (values (dom k e.arrow)) e.val h)

  pub In_places : (values : ℕ → List Val) (c : ℕ) (e : Entry) → In (places s values c) e → IsInto k c e.arrow × In (values (dom k e.arrow)) e.val
  unfolding places
  In_places values c e h =
      let m = In-flat_map_from (λ f. map (entry f) (values (dom k f))) (into k c) e h in
      let n = In-map_from (entry m.0) (values (dom k m.0)) e m.2 in
      subst (λ e. IsInto k c e.arrow × In (values (dom k e.arrow)) e.val) n.2 (In-into_from k c m.0 m.1, n.1)

  pub Distinct-places : (values : ℕ → List Val) (c : ℕ) → ((d : ℕ) → Distinct (values d)) → Distinct (places s values c)
  unfolding places
  Distinct-places values c d =
      Distinct-flat_map _ (into k c) (Distinct-into k c)
      (λ f i. Distinct-map (entry f) (values (dom k f)) (λ u w e. ap (λ x. x.val) e) (d (dom k f)))
      (λ f g e h j.
      let m = In-map_from (entry f) (values (dom k f)) e h in
      let n = In-map_from (entry g) (values (dom k g)) e j in
      ap (λ x. x.arrow) (m.2 ∙ sym n.2))

  module _ (laws : IsCategory k) (values : ℕ → List Val) (restrict : ℕ → Val → Val) where
    pub moved_place : (c : ℕ) (e : Entry) (g : ℕ) → IsPresheaf k values restrict → In (places s values c) e → IsInto k (dom k e.arrow) g → In (places s values c) (moved restrict e g)
    moved_place c e g p h j =
        let m = In_places values c e h in
        let q = laws.composite c e.arrow g m.0 j in
        places_In values c (moved restrict e g) q.0 (subst (λ d. In (values d) (restrict g e.val)) (sym q.1) (p.within (dom k e.arrow) g e.val j m.1))

    pub under_place : (c f : ℕ) (e : Entry) → IsInto k c f → In (places s values (dom k f)) e → In (places s values c) (under f e)
    under_place c f e i h =
        let m = In_places values (dom k f) e h in
        let q = laws.composite c f e.arrow i m.0 in
        places_In values c (under f e) q.0 (subst (λ d. In (values d) e.val) (sym q.1) m.1)

    pub under_source : (c f : ℕ) (e : Entry) → IsInto k c f → In (places s values (dom k f)) e → dom k (under f e).arrow ≡ dom k e.arrow
    under_source c f e i h = (laws.composite c f e.arrow i (In_places values (dom k f) e h).0).1

    pub moved_under : (c f : ℕ) (e : Entry) (g : ℕ) → IsInto k c f → In (places s values (dom k f)) e → IsInto k (dom k e.arrow) g →
        under f (moved restrict e g) ≡ moved restrict (under f e) g
    moved_under c f e g i h j = entry_equal _ _ _ _ (laws.associative c f e.arrow g i (In_places values (dom k f) e h).0 j) refl

    pub under_under : (c f g : ℕ) (e : Entry) → IsInto k c f → IsInto k (dom k f) g → In (places s values (dom k g)) e →
        under f (under g e) ≡ under (compose k f g) e
    under_under c f g e i j h = entry_equal _ _ _ _ (laws.associative c f g e.arrow i j (In_places values (dom k g) e h).0) refl

    pub under_identity : (c : ℕ) (e : Entry) → c < k.objects → In (places s values c) e → under c e ≡ e
    under_identity c e low h = entry_equal _ _ _ _ (laws.left_neutral c e.arrow (In_places values c e h).0) refl
