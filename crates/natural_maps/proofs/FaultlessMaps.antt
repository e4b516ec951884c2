-- A listing has no fault exactly if some natural map has its entries, and then that map is the listed one.
use Rattle.std.proofs.Common.{◌≡◌, ℕ, ◌<◌, Bool, true, false, cond, not, ◌&&◌, eqb, inl, inr, List, [], ◌∷◌, map, None, refl, sym, ap, subst, ◌∙◌, arith}
use Rattle.std.specs.List.{range_with_len}
use Rattle.std.proofs.lemmas.Bool.{and_from, and_parts, eqb-true, eq-eqb}
use Rattle.std.proofs.lemmas.List.{ext_get_or}
use Rattle.finite_lists.specs.Members.{In, Distinct}
use Rattle.finite_lists.specs.First.{first, or_else, some_if}
use Rattle.finite_lists.proofs.Lists.{In-map, some_any}
use Rattle.finite_lists.proofs.DistinctLists.{In-range_from}
use Rattle.finite_lists.proofs.FirstAnswers.{first_none, or_else_none}
use Rattle.topos_model.specs.declared.raw.RawEntry.{RawEntry}
use Rattle.topos_model.specs.declared.raw.RawMap.{RawMap}
use Rattle.topos_model.specs.declared.fault.Fault.TheVariants.{MapNotTotal}
use Rattle.topos_model.specs.categories.Category.{Category}
use Rattle.topos_model.specs.types.Types.{Presheaf}
use Rattle.topos_model.specs.Laws.{size}
use Rattle.topos_model.specs.presheaves.Maps.{Components, component, apply, IsNatural}
use Rattle.topos_model.specs.presheaves.MapFaults.{has_image, listed_image, listed_map, entry_fault, map_total_fault, naturality_fault, map_fault, IsMapListing, HasEntries, FaultlessListingsAreOneMap}
use Rattle.natural_maps.proofs.ListedImages.{both_known}
use Rattle.natural_maps.proofs.ListedComponents.{listed_at, length-listed_map, length-listed_component, entry_of, known_at, are_components}
use Rattle.natural_maps.proofs.FailingSquares.{natural_from, no_naturality_fault}

-- the place of an entry
abbrev place : RawEntry → ℕ × ℕ
place e = (e.at, e.from)

-- an entry whose place stands once gives the image there
image_once : (entries : List RawEntry) (e : RawEntry) → Distinct {A = ℕ × ℕ} (map place entries) → In entries e → listed_image entries e.at e.from ≡ e.to
image_once [] e d i = absurd i
image_once (a ∷ rest) e d (inl same) =
    ap (λ (e : RawEntry). listed_image (a ∷ rest) e.at e.from) (sym same) ∙ ap (λ b. cond b a.to (listed_image rest a.at a.from)) (and_from _ _ (eq-eqb a.at a.at refl) (eq-eqb a.from a.from refl)) ∙ ap (λ (e : RawEntry). e.to) same
image_once (a ∷ rest) e d (inr i) = at (eqb a.at e.at && eqb a.from e.from) refl (image_once rest e d.1 i)
  where
    at : (b : Bool) → (eqb a.at e.at && eqb a.from e.from) ≡ b → listed_image rest e.at e.from ≡ e.to → cond b a.to (listed_image rest e.at e.from) ≡ e.to
    at true t ih =
        let both = and_parts _ _ t in
        let same : ◌≡◌ {A = ℕ × ℕ} (place e) (place a) = ap (λ c. (c, e.from)) (sym (eqb-true a.at e.at both.0)) ∙ ap (λ x. (a.at, x)) (sym (eqb-true a.from e.from both.1)) in
        absurd (d.0 (subst (λ (p : ℕ × ℕ). In (map place rest) p) same (In-map place rest e i)))
    at false t ih = ih

has_image_from : (entries : List RawEntry) (e : RawEntry) → In entries e → has_image entries e.at e.from ≡ true
unfolding has_image
has_image_from entries e i = some_any (λ (a : RawEntry). eqb a.at e.at && eqb a.from e.from) entries e i (and_from _ _ (eq-eqb e.at e.at refl) (eq-eqb e.from e.from refl))

same_entry : (e : RawEntry) (c x y : ℕ) → e.at ≡ c → e.from ≡ x → e.to ≡ y → e ≡ record { at = c; from = x; to = y }
same_entry e c x y p q r = ap (λ n. record { at = n; from = e.from; to = e.to }) p ∙ ap (λ n. record { at = c; from = n; to = e.to }) q ∙ ap (λ n. record { at = c; from = x; to = n }) r

module _ (k : Category) (P Q : Presheaf) (raw : RawMap) (ok : IsMapListing k raw) where
  faultless_is_map : map_fault k P Q raw ≡ None → HasEntries k P raw (listed_map k P raw) × IsNatural k P Q (listed_map k P raw)
  unfolding map_fault
  faultless_is_map none =
      let one = or_else_none (first (entry_fault P Q) raw.entries) (or_else (map_total_fault k P raw) (naturality_fault k P Q (listed_map k P raw))) none in
      let two = or_else_none (map_total_fault k P raw) (naturality_fault k P Q (listed_map k P raw)) one.1 in (
        record {
          listed = λ e i.
              let known = known_at k P Q raw one.0 two.0 e i in
              (known.0, listed_at k P Q raw e.at e.from (ok.objects e i) known.0 ∙ image_once raw.entries e ok.once i);
          total = λ c x low within.
              let e = entry_of k P Q raw one.0 two.0 c x low within in
              subst (λ (d : RawEntry). In raw.entries d) (same_entry e.0 c x (apply (listed_map k P raw) c x) e.2 e.3 (sym e.4 ∙ sym (listed_at k P Q raw c x low within))) e.1;
        },
        natural_from k P Q (listed_map k P raw) (are_components k P Q raw one.0 two.0) two.1,
      )

  module _ (m : Components) (has : HasEntries k P raw m) (natural : IsNatural k P Q m) where
    map_is_listed : m ≡ listed_map k P raw
    map_is_listed =
        ext_get_or [] m (listed_map k P raw) (natural.objects ∙ sym (length-listed_map k P Q raw)) (λ c low.
        let o : c < k.objects = omega (arith, low, natural.objects) in
        ext_get_or 0 (component m c) (component (listed_map k P raw) c) (natural.total c o ∙ sym (length-listed_component k P Q raw c o)) (λ x there.
        let within : x < size P c = omega (arith, there, natural.total c o) in
        sym (image_once raw.entries (record { at = c; from = x; to = apply m c x }) ok.once (has.total c x o within)) ∙ sym (listed_at k P Q raw c x o within)))

    no_entry_fault : first (entry_fault P Q) raw.entries ≡ None
    no_entry_fault =
        first_none (entry_fault P Q) raw.entries (λ e i.
        let is = has.listed e i in
        let to : apply m e.at e.from < size Q e.at = natural.within e.at e.from (ok.objects e i) is.0 in
        both_known P Q e is.0 (omega (arith, to, is.1)))

    no_total_fault : map_total_fault k P raw ≡ None
    unfolding map_total_fault
    no_total_fault =
        first_none _ (range_with_len 0 k.objects) (λ c i. first_none _ (range_with_len 0 (size P c)) (λ x j.
        let o : c < k.objects = omega (arith, (In-range_from 0 k.objects c i).1) in
        let within : x < size P c = omega (arith, (In-range_from 0 (size P c) x j).1) in
        ap (λ b. some_if (not b) (MapNotTotal c x)) (has_image_from raw.entries (record { at = c; from = x; to = apply m c x }) (has.total c x o within))))

    map_has_no_fault : map_fault k P Q raw ≡ None
    unfolding map_fault
    map_has_no_fault =
        ap (λ o. or_else o (or_else (map_total_fault k P raw) (naturality_fault k P Q (listed_map k P raw)))) no_entry_fault
        ∙ ap (λ o. or_else o (naturality_fault k P Q (listed_map k P raw))) no_total_fault
        ∙ ap (naturality_fault k P Q) (sym map_is_listed) ∙ no_naturality_fault k P Q m natural

pub one_map : FaultlessListingsAreOneMap
one_map k P Q raw law domain codomain ok = (
  λ none. faultless_is_map k P Q raw ok none,
  λ m has natural. (map_has_no_fault k P Q raw ok m has natural, map_is_listed k P Q raw ok m has natural),
)
