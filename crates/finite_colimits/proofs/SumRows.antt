-- The sum of two presheaves, arrow by arrow.
use Rattle.std.proofs.Common.{◌≡◌, ℕ, zero, suc, ◌+◌, ◌<◌, ◌≤◌, ◌^◌, List, [], ◌∷◌, ◌++◌, map, length, get_or, replicate, refl, sym, ap, subst, ◌∙◌, arith}
use Rattle.std.specs.List.{range_with_len}
use Rattle.std.proofs.lemmas.List.{length-map, length-append, get_or-map, get_or_append_left}
use Rattle.std.proofs.lemmas.List.FromFn.{length-map-range_with_len, get_or-map-range_with_len, length-range_with_len, get_or-range_with_len}
use Rattle.topos_model.specs.categories.Category.{Category, dom}
use Rattle.topos_model.specs.types.Types.{Presheaf}
use Rattle.topos_model.specs.Laws.{IsCategory, size, IsFunctor}
use Rattle.topos_model.specs.presheaves.Maps.{Components, component, apply, IsNatural}
use Rattle.topos_model.specs.presheaves.Colimits.{IsInitial, IsCoproduct}
use Rattle.topos_model.specs.statements.Cells.{presheaf_cells}
use Rattle.natural_maps.specs.Room.{sized_cells, IsOverRoom}
use Rattle.natural_maps.proofs.CellSums.{cells_by_sizes, size_within}
use Rattle.finite_colimits.specs.Sums.{IsSum, IsGivenBy, sum_sizes, sum_row, sum_presheaf, first_inclusion, second_inclusion}
use Rattle.finite_colimits.proofs.SumPresheaf.{later_entry, initial_by_empty, coproduct_by_sum, IsStandardSum}
use Rattle.finite_colimits.proofs.OneColimit.{coproduct_is_sum}

module _ (k : Category) (lk : IsCategory k) (X Y : Presheaf) (lx : IsFunctor k X) (ly : IsFunctor k Y) where
  row_at : (f : ℕ) → f < length k.ends → get_or (sum_presheaf k X Y).along f [] ≡ sum_row k X Y f
  row_at f h = get_or-map-range_with_len (sum_row k X Y) 0 (length k.ends) f f [] h (omega arith)

  of_sum : IsSum k X Y (sum_presheaf k X Y)
  of_sum = record {
    objects = length-map-range_with_len (λ c. size X c + size Y c) 0 k.objects;
    arrows = length-map-range_with_len (sum_row k X Y) 0 (length k.ends);
    sizes = λ c h. get_or-map-range_with_len (λ c. size X c + size Y c) 0 k.objects c c 0 h (omega arith);
    total = λ c f i.
        let a : length (get_or X.along f []) ≡ size X c = lx.total c f i in
        let b : length (get_or Y.along f []) ≡ size Y c = ly.total c f i in
        let d : length (map (λ y. size X (dom k f) + y) (get_or Y.along f [])) ≡ length (get_or Y.along f []) = length-map (get_or Y.along f []) (λ y. size X (dom k f) + y) in
        ap length (row_at f i.0) ∙ length-append (get_or X.along f []) (map (λ y. size X (dom k f) + y) (get_or Y.along f [])) ∙ (omega arith);
    first = λ c f x i l.
        let a : length (get_or X.along f []) ≡ size X c = lx.total c f i in
        ap (λ (s : List ℕ). get_or s x 0) (row_at f i.0)
        ∙ get_or_append_left (get_or X.along f []) (map (λ y. size X (dom k f) + y) (get_or Y.along f [])) 0 x (omega arith);
    second = λ c f y i l.
        let a : length (get_or X.along f []) ≡ size X c = lx.total c f i in
        ap (λ (s : List ℕ). get_or s (size X c + y) 0) (row_at f i.0)
        ∙ later_entry (get_or X.along f []) (map (λ y. size X (dom k f) + y) (get_or Y.along f [])) (size X c + y) y (omega arith)
        ∙ get_or-map (λ y. size X (dom k f) + y) (get_or Y.along f []) y 0 0 (subst (λ (n : ℕ). y < n) (sym (ly.total c f i)) l);
  }

  of_first : IsGivenBy k X (λ _ x. x) (first_inclusion k X)
  of_first =
      let at : (c : ℕ) → c < k.objects → component (first_inclusion k X) c ≡ range_with_len 0 (size X c) = λ c h. get_or-map-range_with_len (λ c. range_with_len 0 (size X c)) 0 k.objects c c [] h (omega arith) in
      record {
        objects = length-map-range_with_len (λ c. range_with_len 0 (size X c)) 0 k.objects;
        total = λ c h. ap length (at c h) ∙ length-range_with_len 0 (size X c);
        is = λ c x h l. ap (λ (s : List ℕ). get_or s x 0) (at c h) ∙ get_or-range_with_len 0 (size X c) x 0 l ∙ (omega arith);
      }

  of_second : IsGivenBy k Y (λ c y. size X c + y) (second_inclusion k X Y)
  of_second =
      let at : (c : ℕ) → c < k.objects → component (second_inclusion k X Y) c ≡ range_with_len (size X c) (size Y c) =
      λ c h. get_or-map-range_with_len (λ c. range_with_len (size X c) (size Y c)) 0 k.objects c c [] h (omega arith) in
      record {
        objects = length-map-range_with_len (λ c. range_with_len (size X c) (size Y c)) 0 k.objects;
        total = λ c h. ap length (at c h) ∙ length-range_with_len (size X c) (size Y c);
        is = λ c y h l. ap (λ (s : List ℕ). get_or s y 0) (at c h) ∙ get_or-range_with_len (size X c) (size Y c) y 0 l;
      }

  pub standard : IsStandardSum k X Y (sum_presheaf k X Y) (first_inclusion k X) (second_inclusion k X Y)
  standard = record { sum = of_sum; first = of_first; second = of_second }

  pub sum_coproduct : IsCoproduct k X Y (sum_presheaf k X Y) (first_inclusion k X) (second_inclusion k X Y)
  sum_coproduct = coproduct_by_sum k lk X Y (sum_presheaf k X Y) lx ly of_sum (first_inclusion k X) (second_inclusion k X Y) of_first of_second

  -- each coproduct has as many cells as the sum
  pub coproduct_over : (room : ℕ) → room < sized_cells k (sum_sizes k X Y) → (Z : Presheaf) (i j : Components) → IsCoproduct k X Y Z i j → IsOverRoom k room Z
  coproduct_over room h Z i j co =
      let e : sum_presheaf k X Y ≡ Z = (coproduct_is_sum k X Y (sum_presheaf k X Y) Z (first_inclusion k X) (second_inclusion k X Y) i j lk lx ly standard co).0 in
      subst (λ (W : Presheaf). room < presheaf_cells k W) e (subst (λ (s : ℕ). room < s) (sym (cells_by_sizes k (sum_presheaf k X Y))) h)

-- a sum within the room has numbers of 32 bits
pub few_within : (k : Category) (X Y : Presheaf) (room : ℕ) → room ≤ 64000000 → sized_cells k (sum_sizes k X Y) ≤ room → (c : ℕ) → c < k.objects → size X c + size Y c < 2 ^ 32
few_within k X Y room r h c l =
    let e : get_or (sum_sizes k X Y) c 0 ≡ size X c + size Y c = get_or-map-range_with_len (λ c. size X c + size Y c) 0 k.objects c c 0 l (omega arith) in
    let w : get_or (sum_sizes k X Y) c 0 ≤ sized_cells k (sum_sizes k X Y) = size_within k (sum_sizes k X Y) c l in
    omega arith

zero_at : (n c : ℕ) → let zeros : List ℕ = replicate n 0 in get_or zeros c 0 ≡ 0
zero_at zero c = refl
zero_at (suc n) zero = refl
zero_at (suc n) (suc c) = zero_at n c

empty_at : (n f : ℕ) → let rows : List (List ℕ) = replicate n [] in length (get_or rows f []) ≡ 0
empty_at zero f = refl
empty_at (suc n) zero = refl
empty_at (suc n) (suc f) = empty_at n f

length_of : {A : Type 0} (a : A) (n : ℕ) → length (replicate n a) ≡ n
length_of a zero = refl
length_of a (suc n) = ap suc (length_of a n)

pub empty_initial : (k : Category) (lk : IsCategory k) (n m : ℕ) (Z : Presheaf) → n ≡ k.objects → m ≡ length k.ends → Z.sizes ≡ replicate n 0 → Z.along ≡ replicate m [] → IsInitial k Z
empty_initial k lk n m Z o a s r = initial_by_empty k Z lk (record {
  objects = ap length s ∙ length_of 0 n ∙ o;
  arrows = ap length r ∙ length_of [] m ∙ a;
  sizes = λ c h. ap (λ (t : List ℕ). get_or t c 0) s ∙ zero_at n c;
  total = λ f h. ap (λ (t : List (List ℕ)). length (get_or t f [])) r ∙ empty_at m f;
})

module _ (k : Category) (lk : IsCategory k) (X Y : Presheaf) (lx : IsFunctor k X) (ly : IsFunctor k Y) (S : Presheaf) (i j : Components)
    (sum : S ≡ sum_presheaf k X Y) (first : i ≡ first_inclusion k X) (second : j ≡ second_inclusion k X Y) where
  pub made_coproduct : IsCoproduct k X Y S i j
  made_coproduct =
      subst (λ (Z : Presheaf). IsCoproduct k X Y Z i j) (sym sum)
      (subst (λ (l : Components). IsCoproduct k X Y (sum_presheaf k X Y) l j) (sym first)
      (subst (λ (r : Components). IsCoproduct k X Y (sum_presheaf k X Y) (first_inclusion k X) r) (sym second) (sum_coproduct k lk X Y lx ly)))

  pub made_sizes : (c : ℕ) → c < k.objects → size S c ≡ size X c + size Y c
  made_sizes c h = ap (λ (Z : Presheaf). size Z c) sum ∙ (of_sum k lk X Y lx ly).sizes c h

-- the values of the first map are elements of the domain of the second
pub composable : (k : Category) (A X Z : Presheaf) (m i : Components) → IsNatural k A X m → IsNatural k X Z i → (c x : ℕ) → c < length m → x < length (component m c) → apply m c x < length (component i c)
composable k A X Z m i nm ni c x h l =
    let o : c < k.objects = subst (λ (n : ℕ). c < n) nm.objects h in
    subst (λ (n : ℕ). apply m c x < n) (sym (ni.total c o)) (nm.within c x o (subst (λ (n : ℕ). x < n) (nm.total c o) l))
