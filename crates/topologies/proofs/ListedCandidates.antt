-- The candidate tests over sieves as they are kept are those of the definition.
use Rattle.std.proofs.Common.{◌≡◌, ℕ, ◌<◌, Bool, true, false, cond, not, ◌&&◌, ◌⊎◌, inl, inr, List, [], ◌∷◌, get_or, map, eqb, Option, Some, None, refl, sym, ap, subst, ◌∙◌, arith}
use Rattle.std.specs.List.{list_any, range_with_len}
use Rattle.std.specs.Option.{option_map}
use Rattle.std.proofs.lemmas.Bool.{eqb-true, eq-eqb, ne_eqb, cases_eq, or_cases, or_left, or_right, and_parts, and_from}
use Rattle.std.proofs.lemmas.List.FromFn.{get_or-map-range_with_len}
use Rattle.finite_lists.specs.Members.{In}
use Rattle.finite_lists.specs.First.{first, some_if}
use Rattle.finite_lists.proofs.Lists.{same_tests, In-map, In-map_from, In-flat_map, In-flat_map_from, some_any, any_some}
use Rattle.finite_lists.proofs.DistinctLists.{In-range, In-range_from}
use Rattle.finite_lists.proofs.FirstAnswers.{first_same, first_none}
use Rattle.topos_model.specs.declared.raw.Family.{Family}
use Rattle.topos_model.specs.declared.fault.Fault.{Fault}
use Rattle.topos_model.specs.declared.fault.Fault.TheVariants.{NotStable, NotTransitive}
use Rattle.topos_model.specs.categories.Category.{Category, into, dom, pull}
use Rattle.topos_model.specs.topologies.Cover.{Site, contains}
use Rattle.topos_model.specs.Laws.{IsCategory}
use Rattle.topos_model.specs.topologies.LeastCovers.{is_among_covers, least}
use Rattle.topos_model.specs.topologies.TopologyFaults.{intersection, listed_sieves, least_twice, stability_fault, intersection_fault, least_twice_fault, IsListed}
use Rattle.topos_model.proofs.ArrowsInto.{In-into, In-into_from}
use Rattle.fin_category.specs.declared.mask.ArrowMask.{ArrowMask}
use Rattle.fin_category.specs.ArrowSets.{arrows_in}
use Rattle.fin_category.proofs.ArrowLists.{contains-each, each-contains, Rises, Rises-into, Rises-intersection, same_members, In-intersection, In-intersection_from}
use Rattle.sieve_table.specs.declared.sieve.Sieve.{Sieve}
use Rattle.sieve_table.specs.Composites.{composites}
use Rattle.sieve_table.specs.Sieves.{sieve_arrows}
use Rattle.sieve_table.proofs.SieveMembers.{IsSieve, of_sieve, pull-sieve, intersection-sieve, goes, domain}
use Rattle.sieve_table.proofs.SieveComposites.{In-composites, In-composites_from, Rises-composites}
use Rattle.topologies.specs.Candidates.{listed_site, kept_as, listed_at, listed_rows, AreSieves, common_arrows, covered, unstable_along, unstable, narrow_with, narrow, taken_twice, thin}
use Rattle.topologies.proofs.LeastCovers.{among_covers, covers_among, least-sieve, least-into, least-below, In-least, least_twice_sieve}
use Rattle.topologies.proofs.CandidateTests.{listed_sieve, all_covers, above_listed, listed_covers, cover_shape}
use Rattle.topologies.proofs.FirstRows.{first-flat_map, first-map, option_map-first, option_map-some_if, first-one}

-- the arrows that all sieves have
pub In-common_from : (c : ℕ) (S : List ℕ) (ls : List Sieve) (f : ℕ) → In (common_arrows c S ls) f → In S f × ((l : Sieve) → In ls l → l.at ≡ c → In (sieve_arrows l) f)
unfolding common_arrows
In-common_from c S [] f i = (i, λ l j e. absurd j)
In-common_from c S (m ∷ ls) f i =
    let r = In-common_from c (cond (eqb m.at c) (intersection S (sieve_arrows m)) S) ls f i in
    let q = at (eqb m.at c) refl r.0 in
    (q.0, λ l j e. elim j [ inl s ↦ subst (λ (x : Sieve). In (sieve_arrows x) f) s (q.1 (ap (λ (x : Sieve). x.at) s ∙ e)) | inr n ↦ r.1 l n e ])
  where
    at : (b : Bool) → eqb m.at c ≡ b → In (cond b (intersection S (sieve_arrows m)) S) f → In S f × (m.at ≡ c → In (sieve_arrows m) f)
    at true e i = let r = In-intersection_from S (sieve_arrows m) f i in (r.0, λ _. r.1)
    at false e i = (i, λ s. let t : eqb m.at c ≡ true = eq-eqb m.at c s in absurd (cc))

pub In-common : (c : ℕ) (S : List ℕ) (ls : List Sieve) (f : ℕ) → In S f → ((l : Sieve) → In ls l → l.at ≡ c → In (sieve_arrows l) f) → In (common_arrows c S ls) f
unfolding common_arrows
In-common c S [] f i all = i
In-common c S (m ∷ ls) f i all = In-common c (cond (eqb m.at c) (intersection S (sieve_arrows m)) S) ls f (at (eqb m.at c) refl) (λ l j. all l (inr j))
  where
    at : (b : Bool) → eqb m.at c ≡ b → In (cond b (intersection S (sieve_arrows m)) S) f
    at true e = In-intersection S (sieve_arrows m) f i (all m (inl refl) (eqb-true m.at c e))
    at false e = i

pub Rises-common : (c : ℕ) (S : List ℕ) (ls : List Sieve) → Rises S → Rises (common_arrows c S ls)
unfolding common_arrows
Rises-common c S [] r = r
Rises-common c S (m ∷ ls) r = Rises-common c (cond (eqb m.at c) (intersection S (sieve_arrows m)) S) ls (at (eqb m.at c))
  where
    at : (b : Bool) → Rises (cond b (intersection S (sieve_arrows m)) S)
    at true = Rises-intersection S (sieve_arrows m) r
    at false = r

module _ (k : Category) (laws : IsCategory k) (families : List Family) (given : IsListed (listed_site k families)) (sieves : List Sieve) (kept : map kept_as sieves ≡ listed_rows k families) where
  abbrev s : Site
  s = listed_site k families

  abbrev objects : List ℕ
  objects = range_with_len 0 k.objects

  -- each kept sieve is a listed one, and each listed one is kept
  pub kept_In : (l : Sieve) → In sieves l → (l.at < k.objects) × In (listed_sieves s l.at) (sieve_arrows l)
  kept_In l i =
      let F : ℕ → List (ℕ × List ℕ) = listed_at k families in
      let r = In-flat_map_from F objects (kept_as l) (subst (λ xs. In xs (kept_as l)) kept (In-map kept_as sieves l i)) in
      let m = In-map_from (λ (S : List ℕ). (r.0, S)) (listed_sieves s r.0) (kept_as l) r.2 in
      let low = In-range_from 0 k.objects r.0 r.1 in
      let a : r.0 ≡ l.at = ap (λ (p : ℕ × List ℕ). p.0) m.2 in
      let b : m.0 ≡ sieve_arrows l = ap (λ (p : ℕ × List ℕ). p.1) m.2 in
      (omega (arith, low.1, a), subst (λ d. In (listed_sieves s d) (sieve_arrows l)) a (subst (λ S. In (listed_sieves s r.0) S) b m.1))

  pub In_kept : (c : ℕ) (S : List ℕ) → c < k.objects → In (listed_sieves s c) S → (l : Sieve) × In sieves l × (l.at ≡ c) × (sieve_arrows l ≡ S)
  In_kept c S low i =
      let row : In (listed_rows k families) (c, S) =
      In-flat_map (listed_at k families) objects c (c, S) (In-range 0 k.objects c (omega arith) (omega arith)) (In-map (λ (S : List ℕ). (c, S)) (listed_sieves s c) S i) in
      let r = In-map_from kept_as sieves (c, S) (subst (λ xs. In xs (c, S)) (sym kept) row) in
      (r.0, r.1, ap (λ (p : ℕ × List ℕ). p.0) r.2, ap (λ (p : ℕ × List ℕ). p.1) r.2)

  pub kept_sieve : (l : Sieve) → In sieves l → IsSieve k l.at (sieve_arrows l)
  kept_sieve l i = listed_sieve s laws refl given l.at (sieve_arrows l) (kept_In l i).1

  pub are_sieves : AreSieves k sieves
  are_sieves l i = (of_sieve k l.at (sieve_arrows l) (kept_sieve l i), (kept_In l i).0)

  -- the test for covers
  pub covered-among : (c : ℕ) (S : List ℕ) → c < k.objects → IsSieve k c S → covered k sieves c S ≡ is_among_covers s c S
  covered-among c S low sieve = same_tests _ _ to from
    where
      to : covered k sieves c S ≡ true → is_among_covers s c S ≡ true
      to h =
          covers_among s c S
          (elim (or_cases (contains (into k c) S) (list_any (λ l. eqb l.at c && contains (sieve_arrows l) S) sieves) h) [
            | inl all ↦ all_covers s laws refl given c S sieve (λ f i. contains-each (into k c) S all f (In-into k c f i))
            | inr any ↦
                let r = any_some (λ (l : Sieve). eqb l.at c && contains (sieve_arrows l) S) sieves any in
                let q = and_parts (eqb r.0.at c) (contains (sieve_arrows r.0) S) r.2 in
                let listed : In (listed_sieves s c) (sieve_arrows r.0) = subst (λ d. In (listed_sieves s d) (sieve_arrows r.0)) (eqb-true r.0.at c q.0) (kept_In r.0 r.1).1 in
                above_listed s laws refl given c (sieve_arrows r.0) S sieve listed (contains-each (sieve_arrows r.0) S q.1)
          ])

      from : is_among_covers s c S ≡ true → covered k sieves c S ≡ true
      from h =
          elim (cover_shape s laws refl given c S (among_covers s c S h)) [
            | inl all ↦ or_left _ _ (each-contains (into k c) S (λ f i. all f (In-into_from k c f i)))
            | inr shape ↦
                let (l, i, at, arrows) = In_kept c shape.0 low shape.1 in
                or_right (contains (into k c) S) _
                (some_any (λ (l : Sieve). eqb l.at c && contains (sieve_arrows l) S) sieves l i
                (and_from _ _ (eq-eqb l.at c at) (each-contains (sieve_arrows l) S (λ f j. shape.2 f (subst (λ T. In T f) arrows j)))))
          ]

  -- the least cover
  pub common-least : (c : ℕ) → c < k.objects → common_arrows c (into k c) sieves ≡ least s c
  common-least c low =
      same_members (common_arrows c (into k c) sieves) (least s c) (Rises-common c (into k c) sieves (Rises-into k c)) (least-sieve s laws c).rises
      (λ f i.
      let r = In-common_from c (into k c) sieves f i in
      let a = In-into_from k c f r.0 in
      In-least s c f a (λ S cover.
      elim (cover_shape s laws refl given c S cover) [
        | inl all ↦ all f a
        | inr shape ↦
            let (l, j, at, arrows) = In_kept c shape.0 low shape.1 in
            shape.2 f (subst (λ T. In T f) arrows (r.1 l j at))
      ]))
      (λ f i.
      In-common c (into k c) sieves f (In-into k c f (least-into s laws c f i)) (λ l j at.
      least-below s c f (sieve_arrows l) (listed_covers s laws refl given c (sieve_arrows l) (subst (λ d. In (listed_sieves s d) (sieve_arrows l)) at (kept_In l j).1)) i))

  -- a search over the listed sieves of each object is one over the kept sieves
  along_rows : {B : Type 0} (t : ℕ → List ℕ → Option B) → first (λ c. first (t c) (listed_sieves s c)) objects ≡ first (λ (l : Sieve). t l.at (sieve_arrows l)) sieves
  along_rows t =
      first_same (λ c. first (t c) (listed_sieves s c)) (λ c. first (λ (p : ℕ × List ℕ). t p.0 p.1) (listed_at k families c)) objects
      (λ c i. sym (first-map (λ (p : ℕ × List ℕ). t p.0 p.1) (λ (S : List ℕ). (c, S)) (listed_sieves s c)))
      ∙ sym (first-flat_map (λ (p : ℕ × List ℕ). t p.0 p.1) (listed_at k families) objects)
      ∙ ap (first (λ (p : ℕ × List ℕ). t p.0 p.1)) (sym kept)
      ∙ first-map (λ (p : ℕ × List ℕ). t p.0 p.1) kept_as sieves

  -- and one over those of one object is one over the kept sieves that are on it
  along_object : {B : Type 0} (c : ℕ) (t : List ℕ → Option B) → c < k.objects → first t (listed_sieves s c) ≡ first (λ (l : Sieve). cond (eqb l.at c) (t (sieve_arrows l)) None) sieves
  along_object {B} c t low = here ∙ along_rows (λ d S. cond (eqb d c) (t S) None)
    where
      X : ℕ → Option B
      X d = first (λ S. cond (eqb d c) (t S) None) (listed_sieves s d)

      other : (d : ℕ) → (d ≡ c) ⊎ (first (λ S. cond (eqb d c) (t S) None) (listed_sieves s d) ≡ None)
      other d = elim (cases_eq d c) [ inl e ↦ inl e | inr n ↦ inr (first_none (λ S. cond (eqb d c) (t S) None) (listed_sieves s d) (λ S i. ap (λ b. cond b (t S) None) (ne_eqb d c n))) ]

      here : first t (listed_sieves s c) ≡ first (λ d. first (λ S. cond (eqb d c) (t S) None) (listed_sieves s d)) objects
      here =
          first_same t (λ S. cond (eqb c c) (t S) None) (listed_sieves s c) (λ S i. ap (λ b. cond b (t S) None) (sym (eq-eqb c c refl)))
          ∙ sym (first-one (λ d. first (λ S. cond (eqb d c) (t S) None) (listed_sieves s d)) objects c (In-range 0 k.objects c (omega arith) (omega arith)) other)

  pub stability : (j : ℕ) → stability_fault s j ≡ option_map (λ (p : Sieve × ℕ). NotStable j p.0.at (sieve_arrows p.0) p.1) (unstable k sieves)
  unfolding stability_fault
  stability j =
      along_rows (λ c S. first (λ f. some_if (not (is_among_covers s (dom k f) (pull k f S))) (NotStable j c S f)) (into k c))
      ∙ first_same _ _ sieves (λ l i. each l i)
      ∙ sym (option_map-first (λ (p : Sieve × ℕ). NotStable j p.0.at (sieve_arrows p.0) p.1) (λ (l : Sieve). option_map (λ (f : ℕ). (l, f)) (unstable_along k sieves l)) sieves)
    where
      G : Sieve × ℕ → Fault
      G p = NotStable j p.0.at (sieve_arrows p.0) p.1

      each : (l : Sieve) → In sieves l →
          first (λ f. some_if (not (is_among_covers s (dom k f) (pull k f (sieve_arrows l)))) (NotStable j l.at (sieve_arrows l) f)) (into k l.at)
          ≡ option_map (λ (p : Sieve × ℕ). NotStable j p.0.at (sieve_arrows p.0) p.1) (option_map (λ (f : ℕ). (l, f)) (unstable_along k sieves l))
      each l i =
          first_same _ _ (into k l.at) (λ f m.
          let a = In-into_from k l.at f m in
          ap (λ b. some_if (not b) (NotStable j l.at (sieve_arrows l) f)) (sym (covered-among (dom k f) (pull k f (sieve_arrows l)) (domain k laws a) (pull-sieve k laws l.at f (sieve_arrows l) (kept_sieve l i) a)))
          ∙ sym (option_map-some_if (λ (f : ℕ). NotStable j l.at (sieve_arrows l) f) (not (covered k sieves (dom k f) (pull k f (sieve_arrows l)))) f))
          ∙ sym (option_map-first (λ (f : ℕ). NotStable j l.at (sieve_arrows l) f) (λ f. some_if (not (covered k sieves (dom k f) (pull k f (sieve_arrows l)))) f) (into k l.at))
          ∙ twice l (unstable_along k sieves l)
        where
          twice : (l : Sieve) (o : Option ℕ) → option_map (λ (f : ℕ). NotStable j l.at (sieve_arrows l) f) o ≡ option_map (λ (p : Sieve × ℕ). NotStable j p.0.at (sieve_arrows p.0) p.1) (option_map (λ (f : ℕ). (l, f)) o)
          twice l (Some f) = refl
          twice l None = refl

  pub intersections : (j : ℕ) → intersection_fault s j ≡ option_map (λ (p : Sieve × Sieve). NotTransitive j p.0.at (sieve_arrows p.0) (intersection (sieve_arrows p.0) (sieve_arrows p.1))) (narrow k sieves)
  unfolding intersection_fault
  intersections j =
      along_rows (λ c S. first (λ T. some_if (not (is_among_covers s c (intersection S T))) (NotTransitive j c S (intersection S T))) (listed_sieves s c))
      ∙ first_same _ _ sieves (λ l i. each l i)
      ∙ sym (option_map-first (λ (p : Sieve × Sieve). NotTransitive j p.0.at (sieve_arrows p.0) (intersection (sieve_arrows p.0) (sieve_arrows p.1))) (λ (l : Sieve). option_map (λ (m : Sieve). (l, m)) (narrow_with k sieves l)) sieves)
    where
      one : (l : Sieve) → In sieves l → (m : Sieve) → In sieves m → (b : Bool) → eqb m.at l.at ≡ b →
          cond b (some_if (not (is_among_covers s l.at (intersection (sieve_arrows l) (sieve_arrows m)))) (NotTransitive j l.at (sieve_arrows l) (intersection (sieve_arrows l) (sieve_arrows m)))) None
          ≡ option_map (λ (m : Sieve). NotTransitive j l.at (sieve_arrows l) (intersection (sieve_arrows l) (sieve_arrows m)))
          (some_if (b && not (covered k sieves l.at (intersection (sieve_arrows l) (sieve_arrows m)))) m)
      one l i m n true e =
          ap (λ b. some_if (not b) (NotTransitive j l.at (sieve_arrows l) (intersection (sieve_arrows l) (sieve_arrows m))))
          (sym (covered-among l.at (intersection (sieve_arrows l) (sieve_arrows m)) (kept_In l i).0
          (intersection-sieve k l.at (sieve_arrows l) (sieve_arrows m) (kept_sieve l i) (subst (λ d. IsSieve k d (sieve_arrows m)) (eqb-true m.at l.at e) (kept_sieve m n)))))
          ∙ sym (option_map-some_if (λ (m : Sieve). NotTransitive j l.at (sieve_arrows l) (intersection (sieve_arrows l) (sieve_arrows m))) (not (covered k sieves l.at (intersection (sieve_arrows l) (sieve_arrows m)))) m)
      one l i m n false e = refl

      pair : (l : Sieve) (o : Option Sieve) → option_map (λ (m : Sieve). NotTransitive j l.at (sieve_arrows l) (intersection (sieve_arrows l) (sieve_arrows m))) o
          ≡ option_map (λ (p : Sieve × Sieve). NotTransitive j p.0.at (sieve_arrows p.0) (intersection (sieve_arrows p.0) (sieve_arrows p.1))) (option_map (λ (m : Sieve). (l, m)) o)
      pair l (Some m) = refl
      pair l None = refl

      each : (l : Sieve) → In sieves l →
          first (λ T. some_if (not (is_among_covers s l.at (intersection (sieve_arrows l) T))) (NotTransitive j l.at (sieve_arrows l) (intersection (sieve_arrows l) T))) (listed_sieves s l.at)
          ≡ option_map (λ (p : Sieve × Sieve). NotTransitive j p.0.at (sieve_arrows p.0) (intersection (sieve_arrows p.0) (sieve_arrows p.1))) (option_map (λ (m : Sieve). (l, m)) (narrow_with k sieves l))
      each l i =
          along_object l.at (λ T. some_if (not (is_among_covers s l.at (intersection (sieve_arrows l) T))) (NotTransitive j l.at (sieve_arrows l) (intersection (sieve_arrows l) T))) (kept_In l i).0
          ∙ first_same _ _ sieves (λ m n. one l i m n (eqb m.at l.at) refl)
          ∙ sym (option_map-first (λ (m : Sieve). NotTransitive j l.at (sieve_arrows l) (intersection (sieve_arrows l) (sieve_arrows m)))
          (λ (m : Sieve). some_if (eqb m.at l.at && not (covered k sieves l.at (intersection (sieve_arrows l) (sieve_arrows m)))) m) sieves)
          ∙ pair l (narrow_with k sieves l)

  module _ (row : List ArrowMask) (least_row : map arrows_in row ≡ map (least s) objects) where
    pub row-at : (c : ℕ) → c < k.objects → get_or (map arrows_in row) c [] ≡ least s c
    row-at c low = ap (λ xs. get_or xs c []) least_row ∙ get_or-map-range_with_len (least s) 0 k.objects c c [] low (omega arith)

    pub taken_twice-is : (c : ℕ) → c < k.objects → taken_twice k row c ≡ least_twice s c
    unfolding least_twice
    taken_twice-is c low =
        same_members _ _ (Rises-composites k (λ d. get_or (map arrows_in row) d []) c (get_or (map arrows_in row) c []))
        (Rises-composites k (least s) c (least s c))
        (λ h i.
        let (f, g, a, b, e) = In-composites_from k (λ d. get_or (map arrows_in row) d []) c (get_or (map arrows_in row) c []) h i in
        let a' : In (least s c) f = subst (λ S. In S f) (row-at c low) a in
        let j = least-into s laws c f a' in
        let b' : In (least s (dom k f)) g = subst (λ S. In S g) (row-at (dom k f) (domain k laws j)) b in
        subst (λ h. In (composites k (least s) c (least s c)) h) e
        (In-composites k (least s) c (least s c) f g (goes k laws j (least-into s laws _ g b')) a' b'))
        (λ h i.
        let (f, g, a, b, e) = In-composites_from k (least s) c (least s c) h i in
        let j = least-into s laws c f a in
        subst (λ h. In (composites k (λ d. get_or (map arrows_in row) d []) c (get_or (map arrows_in row) c [])) h) e
        (In-composites k (λ d. get_or (map arrows_in row) d []) c (get_or (map arrows_in row) c []) f g (goes k laws j (least-into s laws _ g b))
        (subst (λ S. In S f) (sym (row-at c low)) a) (subst (λ S. In S g) (sym (row-at (dom k f) (domain k laws j))) b)))

    pub twice : (j : ℕ) → least_twice_fault s j ≡ option_map (λ c. NotTransitive j c (least s c) (least_twice s c)) (thin k sieves row)
    unfolding least_twice_fault
    twice j =
        first_same _ _ objects (λ c i.
        let r = In-range_from 0 k.objects c i in
        let low : c < k.objects = omega (arith, r.1) in
        ap (λ b. some_if (not b) (NotTransitive j c (least s c) (least_twice s c)))
        (sym (ap (covered k sieves c) (taken_twice-is c low) ∙ covered-among c (least_twice s c) low (least_twice_sieve s laws c)))
        ∙ sym (option_map-some_if (λ (c : ℕ). NotTransitive j c (least s c) (least_twice s c)) (not (covered k sieves c (taken_twice k row c))) c))
        ∙ sym (option_map-first (λ (c : ℕ). NotTransitive j c (least s c) (least_twice s c)) (λ c. some_if (not (covered k sieves c (taken_twice k row c))) c) objects)
