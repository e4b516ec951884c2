-- One element at each object is the one element of One.
use Rattle.std.proofs.Common.{◌≡◌, ℕ, ◌+◌, ◌*◌, inl, inr, List, [], ◌∷◌, length, get_or, replicate, refl, sym, ap, subst, ◌∙◌, arith}
use Rattle.std.proofs.lemmas.List.{length-replicate, get_or-replicate}
use Rattle.topos_model.specs.declared.ty.Ty.{One}
use Rattle.topos_model.specs.declared.value.Val.{Star}
use Rattle.topos_model.specs.categories.Category.{into, dom}
use Rattle.topos_model.specs.topologies.Cover.{Site}
use Rattle.topos_model.specs.types.Types.{Presheaf, elements, restr}
use Rattle.topos_model.specs.statements.Needs.{parts}
use Rattle.functor_store.specs.Store.{Store}
use Rattle.functor_store.specs.Faithful.{Stands}
use Rattle.sealed_functors.specs.declared.rows.ElementRows.{ElementRows}
use Rattle.type_rows.specs.TypeRows.{AreRowsAt, HoldsNamed}
use Rattle.type_rows.proofs.FlatRows.{no_part}

abbrev pub one_row : ℕ → ElementRows
one_row n = record { count = 1; width = 0; arrows = n; rows = []; restrictions = replicate n 0 }

module _ (s : Site) (functors : List Presheaf) where
  only_stands : (c k : ℕ) (f : ℕ) → k ≡ 0 → Stands s functors One c k (restr s functors One f Star)
  unfolding elements restr
  only_stands c k f e = record { within = omega (arith, e); is = ap (λ x. get_or (Star ∷ []) x Star) e }

  one_count : (c : ℕ) → 1 ≡ length (elements s functors One c)
  unfolding elements
  one_count c = refl

  one_along : (c k f : ℕ) → restr s functors One f (get_or (elements s functors One c) k Star) ≡ restr s functors One f Star
  unfolding restr
  one_along c k f = refl

  pub one_rows_at : (c : ℕ) (r : ElementRows) → r ≡ one_row (length (into s.category c)) → AreRowsAt s functors One c r
  one_rows_at c r e = subst (AreRowsAt s functors One c) (sym e) (record {
    count = one_count c;
    arrows = refl;
    rows_long = omega arith;
    restrictions_long = length-replicate (length (into s.category c)) 0 ∙ omega arith;
    rows = λ k low. no_part [] k refl;
    numbers = λ k i low inside.
        let w = length (into s.category c) in
        let f = get_or (into s.category c) i 0 in
        let z : k * w + i ≡ i = let e : k ≡ 0 = omega (arith, low) in ap (λ m. m * w + i) e ∙ omega arith in
        subst (Stands s functors One (dom s.category f) (get_or (replicate w 0) (k * w + i) 0)) (sym (one_along c k f))
        (only_stands (dom s.category f) (get_or (replicate w 0) (k * w + i) 0) f (ap (λ m. get_or (replicate w 0) m 0) z ∙ get_or-replicate w i 0 0 inside));
  })

pub one_named : (store : Store) → HoldsNamed store One
unfolding parts
one_named store n i = elim i [ inl e ↦ absurd (cc) | inr m ↦ absurd m ]
