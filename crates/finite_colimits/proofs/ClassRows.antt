-- The presheaf of the classes, arrow by arrow.
use Rattle.std.proofs.Common.{◌≡◌, ℕ, ◌+◌, ◌<◌, List, [], ◌∷◌, ◌++◌, map, length, get_or, refl, sym, ap, subst, ◌∙◌, arith, inl, inr}
use Rattle.std.proofs.lemmas.List.{length-map, get_or-map, length_push, get_or_append_left, get_or_push}
use Rattle.std.proofs.lemmas.List.FromFn.{length-map-range_with_len, get_or-map-range_with_len}
use Rattle.topos_model.specs.categories.Category.{Category, dom, cod}
use Rattle.topos_model.specs.types.Types.{Presheaf}
use Rattle.topos_model.specs.Laws.{IsCategory, act, IsFunctor}
use Rattle.topos_model.specs.presheaves.Maps.{Components, component, apply, IsNatural}
use Rattle.topos_model.specs.presheaves.Colimits.{IsCoequalizer}
use Rattle.topos_model.specs.statements.Cells.{presheaf_cells}
use Rattle.natural_maps.specs.Room.{sized_cells, IsOverRoom}
use Rattle.natural_maps.proofs.CellSums.{cells_by_sizes}
use Rattle.finite_colimits.specs.Classes.{IsClasses, AreClassRows, IsOfClasses, class_row, class_presheaf}
use Rattle.finite_colimits.proofs.LabelSteps.{pushed_cases}
use Rattle.finite_colimits.proofs.ClassPresheaf.{coequalizer_by_classes}
use Rattle.finite_colimits.proofs.OneColimit.{one_coequalizer}

pub no_class_rows : (sizes : List ℕ) (m n : Components) → AreClassRows 0 sizes m n [] []
no_class_rows sizes m n = record { numbers = refl; least = refl; each = λ c h. absurd (omega arith) }

pub one_more_row : (c : ℕ) (sizes : List ℕ) (m n q r : Components) (s t : List ℕ) → AreClassRows c sizes m n q r →
    IsClasses (component m c) (component n c) (get_or sizes c 0) s t → AreClassRows (c + 1) sizes m n (q ++ s ∷ []) (r ++ t ∷ [])
one_more_row c sizes m n q r s t rows here =
    let lq : length q ≡ c = rows.numbers in
    let lr : length r ≡ c = rows.least in
    record {
      numbers = length_push q s ∙ (omega arith);
      least = length_push r t ∙ (omega arith);
      each = λ d h. elim (pushed_cases c d h) [
        | inl b ↦
            subst (λ (v : List ℕ). IsClasses (component m d) (component n d) (get_or sizes d 0) (component (q ++ s ∷ []) d) v) (sym (get_or_append_left r (t ∷ []) [] d (omega arith)))
            (subst (λ (v : List ℕ). IsClasses (component m d) (component n d) (get_or sizes d 0) v (component r d)) (sym (get_or_append_left q (s ∷ []) [] d (omega arith))) (rows.each d b))
        | inr b ↦
            subst (λ (e : ℕ). IsClasses (component m e) (component n e) (get_or sizes e 0) (component (q ++ s ∷ []) e) (component (r ++ t ∷ []) e)) (sym b)
            (subst (λ (v : List ℕ). IsClasses (component m c) (component n c) (get_or sizes c 0) (component (q ++ s ∷ []) c) v) (sym (get_or_push r t [] c lr))
            (subst (λ (v : List ℕ). IsClasses (component m c) (component n c) (get_or sizes c 0) v t) (sym (get_or_push q s [] c lq)) here))
      ];
    }

module _ (k : Category) (lk : IsCategory k) (Y : Presheaf) (m n q r : Components) (rows : AreClassRows k.objects Y.sizes m n q r) where
  row_at : (f : ℕ) → f < length k.ends → get_or (class_presheaf k Y q r).along f [] ≡ class_row k Y q r f
  row_at f h = get_or-map-range_with_len (class_row k Y q r) 0 (length k.ends) f f [] h (omega arith)

  pub of_classes : IsOfClasses k Y q r (class_presheaf k Y q r)
  of_classes = record {
    objects = length-map r length ∙ rows.least;
    arrows = length-map-range_with_len (class_row k Y q r) 0 (length k.ends);
    sizes = λ c h. get_or-map length r c [] 0 (subst (λ (t : ℕ). c < t) (sym rows.least) h);
    total = λ c f i.
        ap length (row_at f i.0) ∙ length-map (component r (cod k f)) (λ y. apply q (dom k f) (act Y f y)) ∙ ap (λ (d : ℕ). length (component r d)) i.1;
    is = λ c f t i l.
        ap (λ (s : List ℕ). get_or s t 0) (row_at f i.0)
        ∙ get_or-map (λ y. apply q (dom k f) (act Y f y)) (component r (cod k f)) t 0 0 (subst (λ (d : ℕ). t < length (component r d)) (sym i.1) l)
        ∙ ap (λ (d : ℕ). apply q (dom k f) (act Y f (apply r d t))) i.1;
  }

module _ (k : Category) (lk : IsCategory k) (X Y : Presheaf) (lx : IsFunctor k X) (ly : IsFunctor k Y) (m n q r : Components) (nm : IsNatural k X Y m) (nn : IsNatural k X Y n)
    (rows : AreClassRows k.objects Y.sizes m n q r) where
  pub class_coequalizer : IsCoequalizer k X Y m n (class_presheaf k Y q r) q
  class_coequalizer = coequalizer_by_classes k lk X Y m n q r lx ly nm nn rows.numbers rows.each (class_presheaf k Y q r) (of_classes k lk Y m n q r rows)

  -- each coequalizer has as many cells as the classes
  pub coequalizer_over : (room : ℕ) → room < sized_cells k (map length r) → (Z : Presheaf) (p : Components) → IsCoequalizer k X Y m n Z p → IsOverRoom k room Z
  coequalizer_over room h Z p co =
      let e : class_presheaf k Y q r ≡ Z = (one_coequalizer k X Y m n (class_presheaf k Y q r) Z q p lk ly class_coequalizer co).0 in
      subst (λ (W : Presheaf). room < presheaf_cells k W) e (subst (λ (s : ℕ). room < s) (sym (cells_by_sizes k (class_presheaf k Y q r))) h)

pub classes_moved : (m n a b : List ℕ) (count many : ℕ) (q r : List ℕ) → m ≡ a → n ≡ b → count ≡ many → IsClasses m n count q r → IsClasses a b many q r
classes_moved m n a b count many q r e d f c =
    subst (λ (s : ℕ). IsClasses a b s q r) f (subst (λ (s : List ℕ). IsClasses a s count q r) d (subst (λ (s : List ℕ). IsClasses s n count q r) e c))

pub rows_moved : (count : ℕ) (sizes : List ℕ) (m n q r s t : Components) → q ≡ s → r ≡ t → AreClassRows count sizes m n q r → AreClassRows count sizes m n s t
rows_moved count sizes m n q r s t e d c = subst (λ (v : Components). AreClassRows count sizes m n s v) d (subst (λ (v : Components). AreClassRows count sizes m n v r) e c)
