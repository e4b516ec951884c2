-- The elements of a presheaf by number are those of the type that names it.
use Rattle.std.proofs.Common.{◌≡◌, ℕ, ◌+◌, ◌*◌, ◌<◌, List, [], ◌∷◌, ◌++◌, length, get_or, sum, inl, inr, refl, sym, ap, subst, ◌∙◌, arith}
use Rattle.std.specs.List.{range_with_len}
use Rattle.std.proofs.lemmas.List.{length-map, get_or-map, get_or_push, length_push}
use Rattle.std.proofs.lemmas.List.FromFn.{get_or-range_with_len, length-range_with_len}
use Rattle.finite_lists.specs.Members.{In}
use Rattle.finite_lists.proofs.Lists.{In_at, map_same}
use Rattle.topos_model.specs.declared.ty.Ty.{Base}
use Rattle.topos_model.specs.declared.value.Val.{El, Star}
use Rattle.topos_model.specs.categories.Category.{Category, into, dom}
use Rattle.topos_model.specs.topologies.Cover.{Site}
use Rattle.topos_model.specs.Laws.{IsCategory, IsFunctor, IsInto, size, act}
use Rattle.topos_model.specs.types.Types.{Presheaf, functor, elements, restr, base_elements, base_along}
use Rattle.topos_model.proofs.TypeEquations.{restr-Base}
use Rattle.topos_model.proofs.ValueEquations.{number_of-El}
use Rattle.topos_model.proofs.ArrowsInto.{In-into_from}
use Rattle.topos_model.specs.statements.Cells.{cells_of, presheaf_cells, width, objects_of}
use Rattle.topos_model.specs.statements.Needs.{named}
use Rattle.topos_model.proofs.FormEquations.{named-Base}
use Rattle.topos_model.proofs.NeedsEquations.{parts-Base}
use Rattle.functor_store.specs.Store.{Store, cost, IsFreeKey}
use Rattle.functor_store.specs.Faithful.{Stands, Holds, IsFaithful}
use Rattle.functor_store.proofs.Faithful.{held_last, faithful_sealed}
use Rattle.sealed_functors.specs.declared.rows.ElementRows.{ElementRows}
use Rattle.sealed_functors.specs.Rows.{functor_from, rows_at}
use Rattle.type_rows.specs.TypeRows.{AreRowsAt, AreTypeRows, value_at}
use Rattle.type_rows.proofs.FlatRows.{no_part, length-rows, rows_at as entry_at}
use Rattle.type_rows.proofs.TypeRows.{type_elements, rows_cost}
use Rattle.named_functors.specs.NamedRows.{restriction_row, named_rows}
use Rattle.named_functors.proofs.MoreFunctors.{faithful_later}

module _ (s : Site) (functors : List Presheaf) (n : ℕ) where
  abbrev k : Category
  k = s.category

  abbrev X : Presheaf
  X = functor s functors n

  base_count : (c : ℕ) → length (elements s functors (Base n) c) ≡ size X c
  unfolding elements base_elements
  base_count c = length-map (range_with_len 0 (size X c)) El ∙ length-range_with_len 0 (size X c)

  base_value : (c x : ℕ) → x < size X c → value_at s functors (Base n) c x ≡ El x
  unfolding elements base_elements
  base_value c x low =
      let z : 0 + x ≡ x = omega arith in
      get_or-map El (range_with_len 0 (size X c)) x 0 Star (omega (arith, low, length-range_with_len 0 (size X c))) ∙ ap El (get_or-range_with_len 0 (size X c) x 0 low ∙ z)

  base_restriction : (f x : ℕ) → restr s functors (Base n) f (El x) ≡ El (act X f x)
  unfolding base_along
  base_restriction f x = restr-Base s functors n f (El x) ∙ ap (λ m. El (get_or (get_or X.along f []) m 0)) (number_of-El x)

  -- the cells of the type are those of the presheaf
  pub base_cells : cells_of s functors (Base n) ≡ presheaf_cells k X
  unfolding cells_of presheaf_cells width
  base_cells = ap sum (map_same _ _ (objects_of k) (λ c i. let m = base_count c in ap (λ l. l * (1 + length (into k c) + 0)) m ∙ ap (λ w. size X c * w) (let e : 1 + length (into k c) + 0 ≡ 1 + length (into k c) = omega arith in e)))

  module _ (laws : IsCategory s.category) (lawful : IsFunctor s.category (functor s functors n)) where
    length-row : (c x : ℕ) → length (restriction_row k X c x) ≡ length (into k c)
    unfolding restriction_row
    length-row c x = length-map (into k c) _

    row_at : (c x i : ℕ) → i < length (into k c) → get_or (restriction_row k X c x) i 0 ≡ act X (get_or (into k c) i 0) x
    unfolding restriction_row
    row_at c x i low = get_or-map (λ f. act X f x) (into k c) i 0 0 low

    pub named_elements : (c : ℕ) → c < s.category.objects → AreRowsAt s functors (Base n) c (named_rows s.category (functor s functors n) c)
    unfolding named_rows
    named_elements c object =
        let w = length (into k c) in
        record {
          count = sym (base_count c);
          arrows = refl;
          rows_long = omega arith;
          restrictions_long = length-rows (restriction_row k X c) w (size X c) (λ x low. length-row c x);
          rows = λ x low. no_part [] x refl;
          numbers = λ x i low inside.
              let f = get_or (into k c) i 0 in
              let arrow : IsInto k c f = In-into_from k c f (In_at (into k c) i 0 inside) in
              let at : get_or (named_rows k X c).restrictions (x * w + i) 0 ≡ act X f x =
              entry_at (restriction_row k X c) w (size X c) (λ x low. length-row c x) x i 0 low inside ∙ row_at c x i inside in
              let within = lawful.within c f x arrow low in
              let is : value_at s functors (Base n) (dom k f) (act X f x) ≡ restr s functors (Base n) f (value_at s functors (Base n) c x) =
              base_value (dom k f) (act X f x) within ∙ sym (base_restriction f x) ∙ ap (restr s functors (Base n) f) (sym (base_value c x low)) in
              subst (λ y. Stands s functors (Base n) (dom k f) y (restr s functors (Base n) f (value_at s functors (Base n) c x))) (sym at)
              (record { within = omega (arith, within, base_count (dom k f)); is = is });
        }

-- the next presheaf, under the number of those before it
module _ (s : Site) (functors : List Presheaf) (X : Presheaf) (laws : IsCategory s.category) (lawful : IsFunctor s.category X) where
  abbrev all : List Presheaf
  all = functors ++ X ∷ []

  abbrev n : ℕ
  n = length functors

  next_is : functor s all n ≡ X
  next_is = get_or_push functors X _ n refl

  next_lawful : IsFunctor s.category (functor s all n)
  next_lawful = subst (IsFunctor s.category) (sym next_is) lawful

  pub next_free : (old : Store) → IsFaithful s functors old → IsFreeKey old.sealed (Base (length functors))
  next_free old h i low e = let r = h.named n (i, low, e) in omega (arith, r.0)

  module _ (at : List ElementRows) (k : Category) (e : k ≡ s.category) (long : length at ≡ k.objects) (rows : (c : ℕ) → c < k.objects → rows_at at c ≡ named_rows k X c) where
    pub next_rows : AreTypeRows s (functors ++ X ∷ []) (Base (length functors)) at
    next_rows = record {
      objects = long ∙ ap (λ (x : Category). x.objects) e;
      rows = λ c low.
          let here : rows_at at c ≡ named_rows s.category X c = rows c (subst (λ (x : Category). c < x.objects) (sym e) low) ∙ ap (λ (x : Category). named_rows x X c) e in
          subst (AreRowsAt s all (Base n) c) (ap (λ Y. named_rows s.category Y c) next_is ∙ sym here) (named_elements s all n laws next_lawful c low);
    }

    pub next_cost : (ends : List (ℕ × ℕ)) → ends ≡ s.category.ends → cost ends (functor_from (Base (length functors)) at) ≡ presheaf_cells s.category X
    next_cost ends is = rows_cost s all laws (Base n) at next_rows ends is ∙ base_cells s all n ∙ ap (presheaf_cells s.category) next_is

    pub next_faithful : (old : Store) → IsFaithful s functors old →
        IsFaithful s (functors ++ X ∷ []) (record old { sealed = old.sealed ++ functor_from (Base (length functors)) at ∷ [] })
    unfolding functor_from
    next_faithful old h =
        let F = functor_from (Base n) at in
        faithful_sealed s all old F (faithful_later s functors (X ∷ []) old h) (type_elements s all laws (Base n) at next_rows)
        (λ m same.
        let number : n ≡ m = sym (named-Base n) ∙ ap named same ∙ named-Base m in
        subst (λ j. (j < length all) × IsFunctor s.category (functor s all j)) number (omega (arith, length_push functors X), next_lawful))
        (λ m i.
        let i' = subst (λ l. In l (Base m)) (parts-Base n) i in
        elim i' [
          | inl same ↦ subst (Holds (record old { sealed = old.sealed ++ F ∷ [] })) same (held_last s all old F)
          | inr none ↦ absurd none
        ])
