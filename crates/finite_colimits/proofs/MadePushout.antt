-- Pushouts from the coequalizer that is made.
use Rattle.std.proofs.Common.{◌≡◌, ℕ, ◌+◌, ◌<◌, sym, subst}
use Rattle.topos_model.specs.categories.Category.{Category}
use Rattle.topos_model.specs.types.Types.{Presheaf}
use Rattle.topos_model.specs.Laws.{IsCategory, size, IsFunctor}
use Rattle.topos_model.specs.presheaves.Maps.{Components, IsNatural, after}
use Rattle.topos_model.specs.statements.Cells.{presheaf_cells}
use Rattle.topos_model.specs.presheaves.Colimits.{IsCoproduct, IsCoequalizer, IsPushout}
use Rattle.natural_maps.specs.declared.made.Made1.{Made1}
use Rattle.natural_maps.specs.declared.made.Made1.TheVariants as one
use Rattle.natural_maps.specs.Made.{IfOver1}
use Rattle.natural_maps.specs.Room.{IsOverRoom}
use Rattle.finite_colimits.proofs.PushoutByClasses.{pushout_by_classes}
use Rattle.finite_colimits.proofs.OneColimit.{one_pushout}

module _ (k : Category) (lk : IsCategory k) (A X Y C : Presheaf) (la : IsFunctor k A) (lx : IsFunctor k X) (ly : IsFunctor k Y) (m n i j : Components)
    (nm : IsNatural k A X m) (nn : IsNatural k A Y n) (sum : IsCoproduct k X Y C i j) (sizes : (c : ℕ) → c < k.objects → size C c ≡ size X c + size Y c)
    (f s : Components) (fe : f ≡ after i m) (se : s ≡ after j n) where
  whole : (Z : Presheaf) (q : Components) → IsCoequalizer k A C f s Z q → IsPushout k A X Y m n Z (after q i) (after q j)
  whole Z q co =
      pushout_by_classes k lk A X Y C Z la lx ly m n i j q nm nn sum sizes
      (subst (λ (r : Components). IsCoequalizer k A C (after i m) r Z q) se (subst (λ (l : Components). IsCoequalizer k A C l s Z q) fe co))

  pub made_pushout : (Z : Presheaf) (q l r : Components) → IsCoequalizer k A C f s Z q → l ≡ after q i → r ≡ after q j → IsPushout k A X Y m n Z l r
  made_pushout Z q l r co le re =
      subst (λ (t : Components). IsPushout k A X Y m n Z l t) (sym re) (subst (λ (t : Components). IsPushout k A X Y m n Z t (after q j)) (sym le) (whole Z q co))

  pub pushout_exists : (made : Made1) → made ≡ one.Over → IfOver1 made ((Z : Presheaf) × (q : Components) × IsCoequalizer k A C f s Z q) →
      (W : Presheaf) × (l : Components) × (r : Components) × IsPushout k A X Y m n W l r
  pushout_exists made e some =
      let w : (Z : Presheaf) × (q : Components) × IsCoequalizer k A C f s Z q = subst (λ (d : Made1). IfOver1 d ((Z : Presheaf) × (q : Components) × IsCoequalizer k A C f s Z q)) e some in
      (w.0, after w.1 i, after w.1 j, whole w.0 w.1 w.2)

  pub pushout_over : (room : ℕ) (made : Made1) → made ≡ one.Over → IfOver1 made ((Z : Presheaf) × (q : Components) × IsCoequalizer k A C f s Z q) →
      IfOver1 made ((Z : Presheaf) (q : Components) → IsCoequalizer k A C f s Z q → IsOverRoom k room Z) →
      (W : Presheaf) (l r : Components) → IsPushout k A X Y m n W l r → IsOverRoom k room W
  pushout_over room made e some over W l r po =
      let w : (Z : Presheaf) × (q : Components) × IsCoequalizer k A C f s Z q = subst (λ (d : Made1). IfOver1 d ((Z : Presheaf) × (q : Components) × IsCoequalizer k A C f s Z q)) e some in
      let h : (Z : Presheaf) (q : Components) → IsCoequalizer k A C f s Z q → IsOverRoom k room Z = subst (λ (d : Made1). IfOver1 d ((Z : Presheaf) (q : Components) → IsCoequalizer k A C f s Z q → IsOverRoom k room Z)) e over in
      let same : w.0 ≡ W = (one_pushout k A X Y m n w.0 W (after w.1 i) (after w.1 j) l r lk (whole w.0 w.1 w.2) po).0 in
      subst (λ (Z : Presheaf). room < presheaf_cells k Z) same (h w.0 w.1 w.2)
