-- The first instance at which a map does not commute with a restriction is the fault of naturality.
use Rattle.std.proofs.Common.{◌≡◌, ℕ, ◌<◌, not, List, [], length, slice_get, Option, Some, None, refl, sym, ap, subst, ◌∙◌, arith}
use Rattle.std.specs.List.{range_with_len}
use Rattle.std.specs.Option.{option_map}
use Rattle.std.proofs.lemmas.Bool.{eqb-true, eq-eqb, ne_eqb, not-false}
use Rattle.std.proofs.lemmas.Option.{get_or_from_slice_get}
use Rattle.finite_lists.specs.First.{first, some_if}
use Rattle.finite_lists.proofs.DistinctLists.{In-range, In-range_from}
use Rattle.finite_lists.proofs.FirstAnswers.{first_none, first_same, first_none_each, some_if-false, option_map-first, option_map-some_if}
use Rattle.topos_model.specs.declared.fault.Fault.{Fault}
use Rattle.topos_model.specs.declared.fault.Fault.TheVariants.{NotNatural}
use Rattle.topos_model.specs.categories.Category.{Category, dom, cod, arrows}
use Rattle.topos_model.specs.types.Types.{Presheaf}
use Rattle.topos_model.specs.Laws.{act, size}
use Rattle.topos_model.specs.presheaves.Maps.{Components, component, apply, IsNatural}
use Rattle.topos_model.specs.presheaves.NaturalMaps.{commutes_at}
use Rattle.topos_model.specs.presheaves.MapFaults.{naturality_fault}
use Rattle.natural_maps.specs.Components.{AreComponents, square_at, square_from, pair_from, failing_square}

pub lent_component : (m : Components) (c d : ℕ) (r s : List ℕ) → r ≡ s → slice_get m d ≡ Some s → d ≡ c → r ≡ component m c
lent_component m c d r s is got e = is ∙ sym (get_or_from_slice_get m d s [] got) ∙ ap (component m) e

-- the fault of a failing square
abbrev pub square_fault : ℕ × ℕ → Fault
square_fault p = NotNatural p.0 p.1

module _ (k : Category) (P Q : Presheaf) (m : Components) where
  pub square_holds : (f x : ℕ) → apply m (dom k f) (act P f x) ≡ act Q f (apply m (cod k f) x) → square_at k P Q m f x ≡ None
  unfolding commutes_at
  square_holds f x e = ap (λ b. some_if (not b) x) (eq-eqb _ _ e)

  pub square_fails : (f x : ℕ) → (apply m (dom k f) (act P f x) ≡ act Q f (apply m (cod k f) x) → ⊥) → square_at k P Q m f x ≡ Some x
  unfolding commutes_at
  square_fails f x e = ap (λ b. some_if (not b) x) (ne_eqb _ _ e)

  pub naturality_is : option_map square_fault (failing_square k P Q m) ≡ naturality_fault k P Q m
  unfolding square_from failing_square naturality_fault
  naturality_is =
      option_map-first square_fault (pair_from k P Q m) (arrows k)
      ∙ first_same _ _ (arrows k) (λ f i. twice f (square_from k P Q m f)
      ∙ option_map-first (λ x. NotNatural f x) (square_at k P Q m f) (range_with_len 0 (size P (cod k f)))
      ∙ first_same _ _ (range_with_len 0 (size P (cod k f))) (λ x j. option_map-some_if (λ x. NotNatural f x) (not (commutes_at k P Q m f x)) x))
    where
      twice : (f : ℕ) (o : Option ℕ) → option_map square_fault (option_map (λ x. (f, x)) o) ≡ option_map (λ x. NotNatural f x) o
      twice f (Some x) = refl
      twice f None = refl

  pub commutes_from : naturality_fault k P Q m ≡ None → (f x : ℕ) → f < length k.ends → x < size P (cod k f) → apply m (dom k f) (act P f x) ≡ act Q f (apply m (cod k f) x)
  unfolding naturality_fault commutes_at
  commutes_from none f x low within =
      let at_f = first_none_each (λ f. first (λ x. some_if (not (commutes_at k P Q m f x)) (NotNatural f x)) (range_with_len 0 (size P (cod k f)))) (arrows k) f none (In-range 0 (length k.ends) f (omega arith) (omega (arith, low))) in
      let at_x = first_none_each (λ x. some_if (not (commutes_at k P Q m f x)) (NotNatural f x)) (range_with_len 0 (size P (cod k f))) x at_f (In-range 0 (size P (cod k f)) x (omega arith) (omega (arith, within))) in
      eqb-true _ _ (not-false _ (some_if-false _ _ at_x))

  pub natural_from : AreComponents k P Q m → naturality_fault k P Q m ≡ None → IsNatural k P Q m
  natural_from are none = record {
    objects = are.objects;
    total = are.total;
    within = are.within;
    commutes = λ c f x i low. subst (λ d. apply m (dom k f) (act P f x) ≡ act Q f (apply m d x)) i.1 (commutes_from none f x i.0 (subst (λ d. x < size P d) (sym i.1) low));
  }

  pub no_naturality_fault : IsNatural k P Q m → naturality_fault k P Q m ≡ None
  unfolding naturality_fault commutes_at
  no_naturality_fault natural =
      first_none _ (arrows k) (λ f i. first_none _ (range_with_len 0 (size P (cod k f))) (λ x j.
      let low : f < length k.ends = omega (arith, (In-range_from 0 (length k.ends) f i).1) in
      let within : x < size P (cod k f) = omega (arith, (In-range_from 0 (size P (cod k f)) x j).1) in
      ap (λ b. some_if (not b) (NotNatural f x)) (eq-eqb _ _ (natural.commutes (cod k f) f x (low, refl) within))))
