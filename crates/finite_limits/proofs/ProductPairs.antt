-- All pairs of elements are the product.
use Rattle.std.proofs.Common.{◌≡◌, ℕ, zero, suc, ◌+◌, ◌*◌, ◌<◌, ◌≤◌, ◌^◌, List, map, length, get_or, sym, ap, subst, ◌∙◌, arith}
use Rattle.std.specs.List.{range_with_len}
use Rattle.std.proofs.lemmas.Simd.{map-map}
use Rattle.std.proofs.lemmas.List.{length-append}
use Rattle.std.proofs.lemmas.List.FromFn.{length-range_with_len, get_or-range_with_len, get_or-map-range_with_len}
use Rattle.finite_lists.proofs.Lists.{map_same}
use Rattle.topos_model.specs.categories.Category.{Category}
use Rattle.topos_model.specs.types.Types.{Presheaf}
use Rattle.topos_model.specs.Laws.{IsCategory, size, IsFunctor}
use Rattle.topos_model.specs.presheaves.Maps.{Components}
use Rattle.topos_model.specs.presheaves.Limits.{IsProduct}
use Rattle.topos_model.specs.statements.Cells.{presheaf_cells}
use Rattle.natural_maps.specs.Room.{sized_cells, IsOverRoom}
use Rattle.natural_maps.proofs.CellSums.{cells_by_sizes, size_within}
use Rattle.finite_limits.specs.Pairs.{AreFibres, firsts, seconds, first_parts, second_parts, start_rows, place_rows, IsPaired, pair_presheaf, AreFewPairs, whole_fibres, whole_places, product_sizes}
use Rattle.finite_limits.proofs.Universal as universal
use Rattle.finite_limits.proofs.OneLimit.{one_product}
use Rattle.finite_limits.proofs.PairNumbers.{seconds_more, firsts_long}
use Rattle.finite_limits.proofs.PairPresheaf.{pair_carried, few_pairs, fibres_paired, pair_hit, paired_moved, presheaf_moved}

-- there are as many pairs as second parts
pub pairs_counted : (k : Category) (X : Presheaf) (fibres : ℕ → ℕ → List ℕ) (count : ℕ → ℕ) → ((c : ℕ) → length (seconds (fibres c) (size X c)) ≡ count c) →
    map length (first_parts k X fibres) ≡ map count (range_with_len 0 k.objects)
pairs_counted k X fibres count is =
    map-map length (λ c. firsts (fibres c) (size X c)) (range_with_len 0 k.objects)
    ∙ map_same (λ c. length (firsts (fibres c) (size X c))) count (range_with_len 0 k.objects) (λ c _. firsts_long (fibres c) (size X c) ∙ is c)

-- a numbers with b members each
pub whole_long : (b a : ℕ) → length (seconds (λ _. range_with_len 0 b) a) ≡ a * b
whole_long b zero = omega arith
whole_long b (suc a) =
    let one : a + 1 ≡ suc a = omega arith in
    let rest : length (seconds (λ _. range_with_len 0 b) a) ≡ a * b = whole_long b a in
    let more : length (seconds (λ _. range_with_len 0 b) (a + 1)) ≡ length (seconds (λ _. range_with_len 0 b) a) + length (range_with_len 0 b) =
    ap length (seconds_more (λ _. range_with_len 0 b) a) ∙ length-append (seconds (λ _. range_with_len 0 b) a) (range_with_len 0 b) in
    let long : length (range_with_len 0 b) ≡ b = length-range_with_len 0 b in
    subst (λ (m : ℕ). length (seconds (λ _. range_with_len 0 b) m) ≡ m * b) one (omega arith)

whole_are : (a b : ℕ) → AreFibres (λ _ _. Unit {0}) a b (λ _. range_with_len 0 b) (range_with_len 0 b)
whole_are a b =
    let at : (i : ℕ) → i < length (range_with_len 0 b) → get_or (range_with_len 0 b) i 0 ≡ i = λ i l. get_or-range_with_len 0 b i 0 (subst (λ (n : ℕ). i < n) (length-range_with_len 0 b) l) ∙ (omega arith) in
    let long : length (range_with_len 0 b) ≡ b = length-range_with_len 0 b in
    record {
      places = long;
      within = λ x i _ l. let e : get_or (range_with_len 0 b) i 0 ≡ i = at i l in omega arith;
      are_related = λ _ _ _ _. tt;
      rise = λ x i j _ below l.
          let e : get_or (range_with_len 0 b) i 0 ≡ i = at i (omega arith) in
          let d : get_or (range_with_len 0 b) j 0 ≡ j = at j l in
          omega arith;
      place = λ x y _ ly _.
          let e : get_or (range_with_len 0 b) y 0 ≡ y = at y (omega arith) in
          record { within = omega arith; is = ap (λ (n : ℕ). get_or (range_with_len 0 b) n 0) e ∙ e };
    }

module _ (k : Category) (lk : IsCategory k) (X Y : Presheaf) (lx : IsFunctor k X) (ly : IsFunctor k Y) where
  abbrev p : Components
  p = first_parts k X (whole_fibres Y)

  abbrev q : Components
  q = second_parts k X (whole_fibres Y)

  abbrev s : Components
  s = start_rows k X (whole_fibres Y)

  abbrev l : Components
  l = place_rows k (whole_places Y)

  pub whole_paired : IsPaired k X Y p q s l
  whole_paired =
      fibres_paired k lk X Y lx ly (λ _ _ _. Unit {0}) (whole_fibres Y) (whole_places Y) (λ c h. whole_are (size X c) (size Y c)) (λ _ _ _ _ _ _ _ _. tt)

  pub whole_sizes : map length p ≡ product_sizes k X Y
  whole_sizes = pairs_counted k X (whole_fibres Y) (λ c. size X c * size Y c) (λ c. whole_long (size Y c) (size X c))

  pub whole_few : (room : ℕ) → room ≤ 64000000 → sized_cells k (product_sizes k X Y) ≤ room → AreFewPairs k p
  whole_few room r h = few_pairs k lk X Y lx ly p q s l whole_paired room r (subst (λ (n : List ℕ). sized_cells k n ≤ room) (sym whole_sizes) h)

  pub pair_product : IsProduct k X Y (pair_presheaf k X Y p q s l) p q
  pair_product =
      universal.product k lk X Y (pair_presheaf k X Y p q s l) lx ly p q (pair_carried k lk X Y lx ly p q s l whole_paired)
      (λ c x y h a b.
      pair_hit k lk X Y lx ly (λ _ _ _. Unit {0}) (whole_fibres Y) (whole_places Y) (λ c h. whole_are (size X c) (size Y c)) (λ _ _ _ _ _ _ _ _. tt) c x y h a b tt)

  -- each product has as many cells
  pub product_over : (room : ℕ) → room < sized_cells k (product_sizes k X Y) → (Z : Presheaf) (r t : Components) → IsProduct k X Y Z r t → IsOverRoom k room Z
  product_over room h Z r t pr =
      let e : pair_presheaf k X Y p q s l ≡ Z = (one_product k X Y (pair_presheaf k X Y p q s l) Z p q r t lk pair_product pr).0 in
      subst (λ (W : Presheaf). room < presheaf_cells k W) e
      (subst (λ (n : ℕ). room < n) (sym (cells_by_sizes k (pair_presheaf k X Y p q s l))) (subst (λ (n : List ℕ). room < sized_cells k n) (sym whole_sizes) h))

-- a product within the room has numbers of 32 bits
pub product_few : (k : Category) (X Y : Presheaf) (room : ℕ) → room ≤ 64000000 → sized_cells k (product_sizes k X Y) ≤ room → (c : ℕ) → c < k.objects → size X c * size Y c < 2 ^ 32
product_few k X Y room r h c b =
    let e : get_or (product_sizes k X Y) c 0 ≡ size X c * size Y c = get_or-map-range_with_len (λ c. size X c * size Y c) 0 k.objects c c 0 b (omega arith) in
    let w : get_or (product_sizes k X Y) c 0 ≤ sized_cells k (product_sizes k X Y) = size_within k (product_sizes k X Y) c b in
    omega arith

-- the rows that were made
module _ (k : Category) (lk : IsCategory k) (X Y : Presheaf) (lx : IsFunctor k X) (ly : IsFunctor k Y) (a b d e : Components) (first : a ≡ first_parts k X (whole_fibres Y))
    (second : b ≡ second_parts k X (whole_fibres Y)) (starts : d ≡ start_rows k X (whole_fibres Y)) (places : e ≡ place_rows k (whole_places Y)) where
  pub made_paired : IsPaired k X Y a b d e
  made_paired =
      paired_moved k X Y (first_parts k X (whole_fibres Y)) (second_parts k X (whole_fibres Y)) (start_rows k X (whole_fibres Y)) (place_rows k (whole_places Y)) a b d e first second starts places
      (whole_paired k lk X Y lx ly)

  pub made_few : (room : ℕ) → room ≤ 64000000 → sized_cells k (product_sizes k X Y) ≤ room → AreFewPairs k a
  made_few room r h = subst (AreFewPairs k) (sym first) (whole_few k lk X Y lx ly room r h)

  pub made_sizes : product_sizes k X Y ≡ map length a
  made_sizes = sym (whole_sizes k lk X Y lx ly) ∙ ap (map length) (sym first)

  pub made_product : (Z : Presheaf) (u v : Components) → Z ≡ pair_presheaf k X Y a b d e → u ≡ a → v ≡ b → IsProduct k X Y Z u v
  made_product Z u v is iu iv =
      product_moved Z u v
      (is
      ∙ presheaf_moved k X Y (first_parts k X (whole_fibres Y)) (second_parts k X (whole_fibres Y)) (start_rows k X (whole_fibres Y)) (place_rows k (whole_places Y)) a b d e first second starts places)
      (iu ∙ first) (iv ∙ second) (pair_product k lk X Y lx ly)
    where
      product_moved : {W : Presheaf} {f g : Components} (Z : Presheaf) (u v : Components) → Z ≡ W → u ≡ f → v ≡ g → IsProduct k X Y W f g → IsProduct k X Y Z u v
      product_moved Z u v h i j pr = rw (h, i, j) pr
