-- A functor from the rows of the elements of a type has the elements of the type.
use Rattle.std.proofs.Common.{◌≡◌, ℕ, ◌+◌, ◌*◌, ◌<◌, inl, List, [], ◌∷◌, ◌++◌, length, get_or, refl, sym, ap, subst, ◌∙◌, arith}
use Rattle.std.proofs.lemmas.List.{length-map}
use Rattle.topos_model.specs.declared.ty.Ty.{Ty, Base}
use Rattle.finite_lists.specs.Members.{In}
use Rattle.topos_model.specs.categories.Category.{Category, into, dom, cod}
use Rattle.topos_model.specs.topologies.Cover.{Site}
use Rattle.topos_model.specs.Laws.{IsCategory}
use Rattle.topos_model.specs.types.Types.{Presheaf, restr}
use Rattle.topos_model.specs.statements.Cells.{cells_of}
use Rattle.topos_model.specs.statements.Needs.{parts}
use Rattle.functor_store.specs.Store as store
use Rattle.functor_store.specs.Store.{Functor, Store, place, size_at, element_at, restriction_along, cost, IsFreeKey}
use Rattle.functor_store.specs.Faithful.{Stands, IsRow, HasElements, IsFaithful}
use Rattle.functor_store.proofs.Costs.{arrows_into, cost_is}
use Rattle.functor_store.proofs.Faithful.{held_before, faithful_sealed}
use Rattle.sealed_functors.specs.declared.rows.ElementRows.{ElementRows}
use Rattle.sealed_functors.specs.Rows.{part, element_rows, restriction_rows, functor_from, rows_at, AreShaped}
use Rattle.sealed_functors.proofs.Groups.{length-parts, part_at, mapped_at}
use Rattle.type_rows.specs.TypeRows.{HoldsNamed, AreTypeRows, value_at}
use Rattle.type_rows.proofs.ArrowPlaces.{place_is, part_entry}

-- a functor's name is a part of itself
named_part : (n : ℕ) → In (parts (Base n)) (Base n)
unfolding parts
named_part n = inl refl

module _ (s : Site) (functors : List Presheaf) (laws : IsCategory s.category) (T : Ty) (at : List ElementRows) (h : AreTypeRows s functors T at) where
  abbrev k : Category
  k = s.category

  size_is : (c : ℕ) → c < k.objects → size_at (functor_from T at) c ≡ (rows_at at c).count
  unfolding functor_from
  size_is c low = ap length (mapped_at element_rows at c (omega (arith, low, h.objects))) ∙ length-parts _ _ _

  row_is : (c n : ℕ) → c < k.objects → n < (rows_at at c).count → element_at (functor_from T at) c n ≡ part (rows_at at c).width (rows_at at c).rows n
  unfolding functor_from
  row_is c n low inside =
      let r = rows_at at c in
      ap (λ g. get_or g n []) (mapped_at element_rows at c (omega (arith, low, h.objects))) ∙ part_at r.width r.count r.rows n inside

  number_is : (f n : ℕ) → f < length k.ends → n < (rows_at at (cod k f)).count →
      Stands s functors T (dom k f) (restriction_along k.ends (functor_from T at) f n) (restr s functors T f (value_at s functors T (cod k f) n))
  unfolding functor_from
  number_is f n low inside =
      let c = cod k f in
      let object : c < k.objects = (laws.ends f low).1 in
      let r = rows_at at c in
      let w = length (into k c) in
      let p = place_is k f low in
      let e : restriction_along k.ends (functor_from T at) f n ≡ get_or r.restrictions (n * w + place k.ends f) 0 =
      ap (λ g. get_or (get_or g n []) (place k.ends f) 0) (mapped_at restriction_rows at c (omega (arith, object, h.objects)))
      ∙ ap (λ row. get_or row (place k.ends f) 0) (part_at r.arrows r.count r.restrictions n inside ∙ ap (λ v. part v r.restrictions n) (h.rows c object).arrows)
      ∙ part_entry w r.restrictions n (place k.ends f) p.0 in
      let m = (h.rows c object).numbers n (place k.ends f) inside p.0 in
      subst (λ x. Stands s functors T (dom k f) x (restr s functors T f (value_at s functors T c n))) (sym e)
      (subst (λ g. Stands s functors T (dom k g) (get_or r.restrictions (n * w + place k.ends f) 0) (restr s functors T g (value_at s functors T c n))) p.1 m)

  objects_are : length (functor_from T at).rows ≡ k.objects
  unfolding functor_from
  objects_are = length-map at element_rows ∙ h.objects

  pub type_elements : HasElements s functors T (functor_from T at)
  type_elements = record {
    objects = objects_are;
    sizes = λ c low. size_is c low ∙ (h.rows c low).count;
    restrictions = λ f n low inside. let e = size_is (cod k f) (laws.ends f low).1 in number_is f n low (omega (arith, inside, e));
    rows = λ c n low inside.
        let inside' : n < (rows_at at c).count = omega (arith, inside, size_is c low) in
        subst (λ row. IsRow s functors T c (value_at s functors T c n) row) (sym (row_is c n low inside')) ((h.rows c low).rows n inside');
  }

  pub rows_shaped : (ends : List (ℕ × ℕ)) → ends ≡ k.ends → AreShaped ends at
  rows_shaped ends e = record {
    arrows = λ c low. (h.rows c (omega (arith, low, h.objects))).arrows ∙ sym (ap (λ l. store.into l c) e ∙ arrows_into k c);
    rows = λ c low. (h.rows c (omega (arith, low, h.objects))).rows_long;
    restrictions = λ c low. (h.rows c (omega (arith, low, h.objects))).restrictions_long;
  }

  pub rows_cost : (ends : List (ℕ × ℕ)) → ends ≡ k.ends → cost ends (functor_from T at) ≡ cells_of s functors T
  rows_cost ends e = ap (λ l. cost l (functor_from T at)) e ∙ cost_is s functors T (functor_from T at) type_elements

  pub rows_faithful : (old : Store) → IsFaithful s functors old → IsFreeKey old.sealed T → HoldsNamed old T →
      IsFaithful s functors (record old { sealed = old.sealed ++ functor_from T at ∷ [] })
  unfolding functor_from
  rows_faithful old faithful free named =
      faithful_sealed s functors old (functor_from T at) faithful type_elements
      (λ n e. let there = named n (subst (λ U. In (parts U) (Base n)) (sym e) (named_part n)) in absurd (free there.0 there.1 (there.2 ∙ sym e)))
      (λ n i. held_before s functors old (functor_from T at) (Base n) (named n i))
