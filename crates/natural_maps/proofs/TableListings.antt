-- Presheaves and maps that are listed by tables are in range, and nothing is listed twice.
use Rattle.std.proofs.Common.{◌≡◌, ℕ, ◌+◌, ◌<◌, ◌≤◌, List, [], map, length, get_or, sym, ap, subst, ◌∙◌, arith}
use Rattle.std.specs.List.{range_with_len}
use Rattle.finite_lists.specs.Members.{In, Distinct}
use Rattle.finite_lists.proofs.Lists.{In-map_from, In-flat_map_from}
use Rattle.finite_lists.proofs.DistinctLists.{Distinct-map, Distinct-flat_map, Distinct-range, In-range_from}
use Rattle.topos_model.specs.declared.raw.RawAlong.{RawAlong}
use Rattle.topos_model.specs.declared.raw.RawEntry.{RawEntry}
use Rattle.topos_model.specs.categories.Category.{Category, dom, cod}
use Rattle.topos_model.specs.presheaves.PresheafFaults.{IsPresheafListing}
use Rattle.topos_model.specs.presheaves.MapFaults.{IsMapListing}
use Rattle.natural_maps.specs.Tables.{along_at, table_along, row_images, table_images, AreRestrictions}
use Rattle.std.proofs.lemmas.Simd.{map-map}
use Rattle.natural_maps.proofs.FlatMaps.{map_joined}

once : {A B : Type 0} (key : A → B) (f : ℕ → A) → ((i j : ℕ) → key (f i) ≡ key (f j) → i ≡ j) → (a n : ℕ) → Distinct (map key (map f (range_with_len a n)))
once key f apart a n = subst Distinct (sym (map-map key f (range_with_len a n))) (Distinct-map (λ i. key (f i)) (range_with_len a n) apart (Distinct-range a n))

pub presheaf_listing : (k : Category) (sizes : List ℕ) (rows : List (List ℕ)) → length sizes ≡ k.objects → AreRestrictions k sizes rows → IsPresheafListing k (record { sizes = sizes; along = table_along k.objects rows })
presheaf_listing k sizes rows sized are = record {
  sizes = sized;
  arrows = λ a i.
      let r = In-map_from (along_at k.objects rows) (range_with_len 0 (length rows)) a i in
      let low = (In-range_from 0 (length rows) r.0 r.1).1 in
      let e : k.objects + r.0 ≡ a.arrow = ap (λ (b : RawAlong). b.arrow) r.2 in
      (omega (arith, e), omega (arith, e, low, are.arrows));
  arrows_once = once (λ a. a.arrow) (along_at k.objects rows) (λ i j e. omega (arith, e)) 0 (length rows);
  entries = λ a i.
      let r = In-map_from (along_at k.objects rows) (range_with_len 0 (length rows)) a i in
      let low = (In-range_from 0 (length rows) r.0 r.1).1 in
      subst (λ (b : RawAlong). (e : ℕ × ℕ) → In b.entries e → (e.0 < get_or sizes (cod k b.arrow) 0) × (e.1 < get_or sizes (dom k b.arrow) 0)) r.2
      (λ e j.
      let row = get_or rows r.0 [] in
      let x = In-map_from (λ x. (x, get_or row x 0)) (range_with_len 0 (length row)) e j in
      let within = are.each r.0 (omega (arith, low)) in
      let inside : x.0 < length row = omega (arith, (In-range_from 0 (length row) x.0 x.1).1) in
      subst (λ (e : ℕ × ℕ). (e.0 < get_or sizes (cod k (k.objects + r.0)) 0) × (e.1 < get_or sizes (dom k (k.objects + r.0)) 0)) x.2 (omega (arith, inside, within.0), within.1 x.0 inside));
  entries_once = λ a i.
      let r = In-map_from (along_at k.objects rows) (range_with_len 0 (length rows)) a i in
      subst (λ (b : RawAlong). Distinct (map (λ e. e.0) b.entries)) r.2 (once (λ e. e.0) (λ x. (x, get_or (get_or rows r.0 []) x 0)) (λ i j e. e) 0 (length (get_or rows r.0 [])));
}

abbrev key : RawEntry → ℕ × ℕ
key e = (e.at, e.from)

pub map_listing : (k : Category) (rows : List (List ℕ)) → length rows ≤ k.objects → IsMapListing k (record { entries = table_images rows })
map_listing k rows few = record {
  objects = λ e i.
      let c = In-flat_map_from (λ c. row_images c (get_or rows c [])) (range_with_len 0 (length rows)) e i in
      let x = In-map_from (λ x. record { at = c.0; from = x; to = get_or (get_or rows c.0 []) x 0 }) (range_with_len 0 (length (get_or rows c.0 []))) e c.2 in
      let low = (In-range_from 0 (length rows) c.0 c.1).1 in
      let same : c.0 ≡ e.at = ap (λ (d : RawEntry). d.at) x.2 in
      omega (arith, low, same, few);
  once =
      subst Distinct (sym (map_joined key (λ c. row_images c (get_or rows c [])) (range_with_len 0 (length rows))))
      (Distinct-flat_map (λ c. map key (row_images c (get_or rows c []))) (range_with_len 0 (length rows)) (Distinct-range 0 (length rows))
      (λ c i. once key (λ x. record { at = c; from = x; to = get_or (get_or rows c []) x 0 }) (λ i j e. ap (λ (p : ℕ × ℕ). p.1) e) 0 (length (get_or rows c [])))
      (λ c d p u v. apart c d p u v));
}
  where
    first_is : (c : ℕ) (p : ℕ × ℕ) → In (map key (row_images c (get_or rows c []))) p → p.0 ≡ c
    first_is c p i =
        let e = In-map_from key (row_images c (get_or rows c [])) p i in
        let x = In-map_from (λ x. record { at = c; from = x; to = get_or (get_or rows c []) x 0 }) (range_with_len 0 (length (get_or rows c []))) e.0 e.1 in
        sym (ap (λ (p : ℕ × ℕ). p.0) e.2) ∙ sym (ap (λ (d : RawEntry). d.at) x.2)

    apart : (c d : ℕ) (p : ℕ × ℕ) → In (map key (row_images c (get_or rows c []))) p → In (map key (row_images d (get_or rows d []))) p → c ≡ d
    apart c d p i j = sym (first_is c p i) ∙ first_is d p j
