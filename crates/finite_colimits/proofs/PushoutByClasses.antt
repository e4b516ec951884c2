-- The coequalizer of two maps into a coproduct is a pushout.
use Rattle.std.proofs.Common.{◌≡◌, ℕ, ◌+◌, ◌<◌, List, ◌++◌, length, sym, ap, subst, ◌∙◌, arith, inl, inr}
use Rattle.std.proofs.lemmas.List.{ext_get_or, length-append, get_or_append_left}
use Rattle.topos_model.specs.categories.Category.{Category}
use Rattle.topos_model.specs.types.Types.{Presheaf}
use Rattle.topos_model.specs.Laws.{IsCategory, size, IsFunctor}
use Rattle.topos_model.specs.presheaves.Maps.{Components, component, apply, IsNatural, after}
use Rattle.topos_model.specs.presheaves.Colimits.{LeastPlacesRise, IsCoproduct, IsCoequalizer, IsPushout}
use Rattle.topos_model.proofs.MapEquations.{composites_natural}
use Rattle.natural_maps.proofs.Triangles.{value_after, after_associates}
use Rattle.finite_colimits.proofs.SumPresheaf.{parted, later_entry}

module _ (k : Category) (lk : IsCategory k) (A X Y C Z : Presheaf) (la : IsFunctor k A) (lx : IsFunctor k X) (ly : IsFunctor k Y) (m n i j q : Components)
    (nm : IsNatural k A X m) (nn : IsNatural k A Y n) (sum : IsCoproduct k X Y C i j) (sizes : (c : ℕ) → c < k.objects → size C c ≡ size X c + size Y c)
    (co : IsCoequalizer k A C (after i m) (after j n) Z q) where
  in_order : (c : ℕ) → c < k.objects → component (after q i) c ++ component (after q j) c ≡ component q c
  in_order c h =
      let ni : IsNatural k X Z (after q i) = composites_natural k X C Z q i lk lx co.quotient sum.first in
      let nj : IsNatural k Y Z (after q j) = composites_natural k Y C Z q j lk ly co.quotient sum.second in
      let a : length (component (after q i) c) ≡ size X c = ni.total c h in
      let b : length (component (after q j) c) ≡ size Y c = nj.total c h in
      let e : length (component (after q i) c ++ component (after q j) c) ≡ size X c + size Y c = length-append (component (after q i) c) (component (after q j) c) ∙ (omega arith) in
      let s : length (component q c) ≡ size C c = co.quotient.total c h in
      let t : size C c ≡ size X c + size Y c = sizes c h in
      ext_get_or 0 (component (after q i) c ++ component (after q j) c) (component q c) (omega arith) (λ y l.
      elim (parted (size X c) (size Y c) y (omega arith)) [
        | inl d ↦
            get_or_append_left (component (after q i) c) (component (after q j) c) 0 y (omega arith)
            ∙ value_after k X C Z q i co.quotient sum.first c y h d
            ∙ ap (λ (v : ℕ). apply q c v) (sum.first_order c y h d)
        | inr d ↦
            let v : y ≡ size X c + d.element = d.is in
            later_entry (component (after q i) c) (component (after q j) c) y d.element (omega arith)
            ∙ value_after k Y C Z q j co.quotient sum.second c d.element h d.within
            ∙ ap (λ (v : ℕ). apply q c v) (sum.second_order c d.element h d.within ∙ sym d.is)
      ])

  pub pushout_by_classes : IsPushout k A X Y m n Z (after q i) (after q j)
  pushout_by_classes = record {
    functor = co.functor;
    first = composites_natural k X C Z q i lk lx co.quotient sum.first;
    second = composites_natural k Y C Z q j lk ly co.quotient sum.second;
    equal =
        sym (after_associates k A X C Z q i m lk la lx co.quotient sum.first nm) ∙ co.equal
        ∙ after_associates k A Y C Z q j n lk la ly co.quotient sum.second nn;
    factors = λ F l r lf nl nr e.
        let s = sum.factors F l r lf nl nr in
        let ns : IsNatural k C F s.0 = s.1.0 in
        let el : after s.0 i ≡ l = s.1.1 in
        let er : after s.0 j ≡ r = s.1.2 in
        let t = co.factors F s.0 lf ns
        (after_associates k A X C F s.0 i m lk la lx ns sum.first nm
        ∙ ap (λ (a : Components). after a m) el ∙ e ∙ ap (λ (a : Components). after a n) (sym er)
        ∙ sym (after_associates k A Y C F s.0 j n lk la ly ns sum.second nn)) in
        let nt : IsNatural k Z F t.0 = t.1.0 in (
          t.0,
          (
            nt,
            after_associates k X C Z F t.0 q i lk lx sum.functor nt co.quotient sum.first ∙ ap (λ (a : Components). after a i) t.1.1 ∙ el,
            after_associates k Y C Z F t.0 q j lk ly sum.functor nt co.quotient sum.second ∙ ap (λ (a : Components). after a j) t.1.1 ∙ er,
          ),
          λ v h. t.2 v (
            h.0,
            s.2 (after v q) (
              composites_natural k C Z F v q lk sum.functor h.0 co.quotient,
              sym (after_associates k X C Z F v q i lk lx sum.functor h.0 co.quotient sum.first) ∙ h.1,
              sym (after_associates k Y C Z F v q j lk ly sum.functor h.0 co.quotient sum.second) ∙ h.2,
            ),
          ),
        );
    order = λ c h. subst (λ (s : List ℕ). LeastPlacesRise (size Z c) s) (sym (in_order c h)) (co.order c h);
  }
