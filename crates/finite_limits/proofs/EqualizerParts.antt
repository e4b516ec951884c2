-- The elements at which two maps agree are the equalizer.
use Rattle.std.proofs.Common.{◌≡◌, ℕ, ◌<◌, sym, ap, subst, ◌∙◌}
use Rattle.topos_model.specs.categories.Category.{Category}
use Rattle.topos_model.specs.types.Types.{Presheaf}
use Rattle.topos_model.specs.Laws.{IsCategory, act, IsFunctor}
use Rattle.topos_model.specs.presheaves.Maps.{Components, component, apply, IsNatural}
use Rattle.topos_model.specs.presheaves.Limits.{IsEqualizer}
use Rattle.topos_model.specs.statements.Cells.{presheaf_cells}
use Rattle.natural_maps.specs.Room.{IsOverRoom}
use Rattle.finite_limits.specs.Kept.{IsPlace, AreKeptRows}
use Rattle.finite_limits.specs.Parts.{IsPart, part_presheaf}
use Rattle.finite_limits.proofs.Universal as universal
use Rattle.finite_limits.proofs.OneLimit.{one_equalizer}
use Rattle.finite_limits.proofs.PartPresheaf.{part_of_kept, part_size, part_carried}

module _ (k : Category) (lk : IsCategory k) (X Y : Presheaf) (lx : IsFunctor k X) (m n : Components) (nm : IsNatural k X Y m) (nn : IsNatural k X Y n) (i r : Components)
    (rows : AreKeptRows (λ c x. apply m c x ≡ apply n c x) k.objects X.sizes i r) where
  pub equalizer_part : IsPart k X i r
  equalizer_part =
      part_of_kept k lk X lx (λ c x. apply m c x ≡ apply n c x) i r rows
      (λ c f x a l e. nm.commutes c f x a l ∙ ap (λ (y : ℕ). act Y f y) e ∙ sym (nn.commutes c f x a l))

  pub part_equalizer : IsEqualizer k X Y m n (part_presheaf k X i r) i
  part_equalizer =
      universal.equalizer k lk X (part_presheaf k X i r) lx i (part_carried k lk X i r equalizer_part) Y m n nm nn
      (λ c t h l. (rows.each c h).kept t (subst (λ (s : ℕ). t < s) (part_size k lk X i r equalizer_part c h) l))
      (λ c x h l e.
      let place : IsPlace (component i c) (apply r c x) x = (rows.each c h).rank x l e in (
        apply r c x,
        record {
          within = subst (λ (s : ℕ). apply r c x < s) (sym (part_size k lk X i r equalizer_part c h)) place.within;
          first = place.is;
          second = place.is;
        },
      ))

  -- each equalizer has as many cells
  pub equalizer_over : (room : ℕ) → room < presheaf_cells k (part_presheaf k X i r) → (Z : Presheaf) (j : Components) → IsEqualizer k X Y m n Z j → IsOverRoom k room Z
  equalizer_over room h Z j eq =
      subst (λ (W : Presheaf). room < presheaf_cells k W) (one_equalizer k X Y m n (part_presheaf k X i r) Z i j lk part_equalizer eq).0 h
