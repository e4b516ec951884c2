-- What is kept of a presheaf, object by object, is a presheaf with an inclusion.
use Rattle.std.proofs.Common.{◌≡◌, ℕ, ◌+◌, ◌<◌, ◌≤◌, List, [], ◌∷◌, ◌++◌, map, length, get_or, Option, Some, None, refl, sym, ap, subst, ◌∙◌, arith, inl, inr}
use Rattle.std.proofs.lemmas.Bool.{cases_lt}
use Rattle.std.proofs.lemmas.List.{length-map, get_or-map, length_push, get_or_append_left, get_or_push}
use Rattle.std.proofs.lemmas.List.FromFn.{length-map-range_with_len, get_or-map-range_with_len}
use Rattle.topos_model.specs.categories.Category.{Category, dom}
use Rattle.topos_model.specs.types.Types.{Presheaf}
use Rattle.topos_model.specs.Laws.{IsInto, IsCategory, act, size, IsFunctor}
use Rattle.topos_model.specs.presheaves.Maps.{Components, component, apply}
use Rattle.topos_model.specs.statements.Cells.{presheaf_cells}
use Rattle.natural_maps.proofs.Triangles.{codomain_object}
use Rattle.finite_limits.specs.Carried.{IsCarried}
use Rattle.finite_limits.specs.Kept.{AreKept, AreKeptRows}
use Rattle.finite_limits.specs.Parts.{IsPart, part_row, part_presheaf, IsPartWithin}

pub no_kept_rows : (P : ℕ → ℕ → Type 0) (sizes : List ℕ) → AreKeptRows P 0 sizes [] []
no_kept_rows P sizes = record { elements = refl; ranks = refl; each = λ c h. absurd (omega arith) }

pub one_more_kept_row : (P : ℕ → ℕ → Type 0) (c : ℕ) (sizes : List ℕ) (i r : Components) (s t : List ℕ) → AreKeptRows P c sizes i r →
    AreKept (P c) (get_or sizes c 0) s t → AreKeptRows P (c + 1) sizes (i ++ s ∷ []) (r ++ t ∷ [])
one_more_kept_row P c sizes i r s t rows here =
    let li : length i ≡ c = rows.elements in
    let lr : length r ≡ c = rows.ranks in
    record {
      elements = length_push i s ∙ (omega arith);
      ranks = length_push r t ∙ (omega arith);
      each = λ d h. elim (cases_lt d c) [
        | inl b ↦
            subst (λ (v : List ℕ). AreKept (P d) (get_or sizes d 0) (component (i ++ s ∷ []) d) v) (sym (get_or_append_left r (t ∷ []) [] d (omega arith)))
            (subst (λ (v : List ℕ). AreKept (P d) (get_or sizes d 0) v (component r d)) (sym (get_or_append_left i (s ∷ []) [] d (omega arith))) (rows.each d b))
        | inr b ↦
            let same : d ≡ c = omega arith in
            subst (λ (e : ℕ). AreKept (P e) (get_or sizes e 0) (component (i ++ s ∷ []) e) (component (r ++ t ∷ []) e)) (sym same)
            (subst (λ (v : List ℕ). AreKept (P c) (get_or sizes c 0) (component (i ++ s ∷ []) c) v) (sym (get_or_push r t [] c lr))
            (subst (λ (v : List ℕ). AreKept (P c) (get_or sizes c 0) v t) (sym (get_or_push i s [] c li)) here))
      ];
    }

pub kept_rows_moved : (P : ℕ → ℕ → Type 0) (count : ℕ) (sizes : List ℕ) (i r j s : Components) → i ≡ j → r ≡ s → AreKeptRows P count sizes i r → AreKeptRows P count sizes j s
kept_rows_moved P count sizes i r j s e d a = subst (λ (v : Components). AreKeptRows P count sizes j v) d (subst (λ (v : Components). AreKeptRows P count sizes v r) e a)

-- a property that is kept by restriction
pub part_of_kept : (k : Category) (lk : IsCategory k) (X : Presheaf) (lx : IsFunctor k X) (P : ℕ → ℕ → Type 0) (i r : Components) → AreKeptRows P k.objects X.sizes i r →
    ((c f x : ℕ) → IsInto k c f → x < size X c → P c x → P (dom k f) (act X f x)) → IsPart k X i r
part_of_kept k lk X lx P i r rows moves = record {
  elements = rows.elements;
  ranks = rows.ranks;
  table = λ c h. (rows.each c h).ranks;
  within = λ c t h. (rows.each c h).within t;
  rise = λ c s t h. (rows.each c h).rise s t;
  closed = λ c f t a l.
      let here = rows.each c (codomain_object k lk c f a) in
      let w : apply i c t < size X c = here.within t l in
      (rows.each (dom k f) (lk.ends f a.0).0).rank (act X f (apply i c t)) (lx.within c f (apply i c t) a w) (moves c f (apply i c t) a w (here.kept t l));
}

module _ (k : Category) (lk : IsCategory k) (X : Presheaf) (i r : Components) (part : IsPart k X i r) where
  pub part_size : (c : ℕ) → c < k.objects → size (part_presheaf k X i r) c ≡ length (component i c)
  part_size c h = get_or-map length i c [] 0 (subst (λ (t : ℕ). c < t) (sym part.elements) h)

  row_at : (c f : ℕ) → IsInto k c f → get_or (part_presheaf k X i r).along f [] ≡ map (λ x. apply r (dom k f) (act X f x)) (component i c)
  row_at c f a =
      get_or-map-range_with_len (part_row k X i r) 0 (length k.ends) f f [] a.0 (omega arith)
      ∙ ap (λ (d : ℕ). map (λ x. apply r (dom k f) (act X f x)) (component i d)) a.1

  act_at : (c f t : ℕ) → IsInto k c f → t < length (component i c) → act (part_presheaf k X i r) f t ≡ apply r (dom k f) (act X f (apply i c t))
  act_at c f t a l = ap (λ (s : List ℕ). get_or s t 0) (row_at c f a) ∙ get_or-map (λ x. apply r (dom k f) (act X f x)) (component i c) t 0 0 l

  sized : (c t : ℕ) → c < k.objects → t < size (part_presheaf k X i r) c → t < length (component i c)
  sized c t h l = subst (λ (s : ℕ). t < s) (part_size c h) l

  restricted : (c f t : ℕ) → IsInto k c f → t < size (part_presheaf k X i r) c → apply i (dom k f) (act (part_presheaf k X i r) f t) ≡ act X f (apply i c t)
  restricted c f t a l =
      let b : t < length (component i c) = sized c t (codomain_object k lk c f a) l in
      ap (λ (s : ℕ). apply i (dom k f) s) (act_at c f t a b) ∙ (part.closed c f t a b).is

  pub part_carried : IsCarried k X X (part_presheaf k X i r) i i
  part_carried = record {
    objects = length-map i length ∙ part.elements;
    arrows = length-map-range_with_len (part_row k X i r) 0 (length k.ends);
    total = λ c f a.
        ap length (row_at c f a) ∙ length-map (component i c) (λ x. apply r (dom k f) (act X f x)) ∙ sym (part_size c (codomain_object k lk c f a));
    within = λ c f t a l.
        let b : t < length (component i c) = sized c t (codomain_object k lk c f a) l in
        subst (λ (s : ℕ). act (part_presheaf k X i r) f t < s) (sym (part_size (dom k f) (lk.ends f a.0).0))
        (subst (λ (s : ℕ). s < length (component i (dom k f))) (sym (act_at c f t a b)) (part.closed c f t a b).within);
    first_objects = part.elements;
    second_objects = part.elements;
    first_total = λ c h. sym (part_size c h);
    second_total = λ c h. sym (part_size c h);
    first_within = λ c t h l. part.within c t h (sized c t h l);
    second_within = λ c t h l. part.within c t h (sized c t h l);
    first = restricted;
    second = restricted;
    order = λ c a b h l m. inl (part.rise c a b h l (sized c b h m));
  }

-- what is made within the room, or is over it
pub part_is : (k : Category) (X : Presheaf) (i r : Components) (room : ℕ) (found : Option Presheaf) (Z : Presheaf) → found ≡ Some Z → IsPartWithin k X i r room found →
    (Z ≡ part_presheaf k X i r) × (presheaf_cells k Z ≤ room)
part_is k X i r room found Z e a = subst (IsPartWithin k X i r room) e a

pub part_over : (k : Category) (X : Presheaf) (i r : Components) (room : ℕ) (found : Option Presheaf) → found ≡ None → IsPartWithin k X i r room found → room < presheaf_cells k (part_presheaf k X i r)
part_over k X i r room found e a = subst (IsPartWithin k X i r room) e a
