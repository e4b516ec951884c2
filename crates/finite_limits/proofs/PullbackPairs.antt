-- The pairs of elements that two maps take to one element are the pullback.
use Rattle.std.proofs.Common.{◌≡◌, ℕ, ◌<◌, ◌≤◌, ◌^◌, List, map, length, get_or, eqb, Bool, refl, sym, ap, subst, ◌∙◌, arith, eq-eqb}
use Rattle.std.specs.List.{range_with_len, sum_by}
use Rattle.std.proofs.lemmas.Bool.{eqb-true}
use Rattle.std.proofs.lemmas.List.FromFn.{length-map-range_with_len, get_or-map-range_with_len}
use Rattle.topos_model.specs.categories.Category.{Category, dom}
use Rattle.topos_model.specs.types.Types.{Presheaf}
use Rattle.topos_model.specs.Laws.{IsInto, IsCategory, act, size, IsFunctor}
use Rattle.topos_model.specs.presheaves.Maps.{Components, component, apply, IsNatural}
use Rattle.topos_model.specs.presheaves.Limits.{IsPullback}
use Rattle.topos_model.specs.statements.Cells.{presheaf_cells}
use Rattle.natural_maps.specs.Room.{sized_cells, IsOverRoom}
use Rattle.natural_maps.proofs.CellSums.{cells_by_sizes, size_within}
use Rattle.finite_limits.specs.Kept.{passing, IsPlace}
use Rattle.finite_limits.specs.Pairs.{AreFibres, seconds, first_parts, second_parts, start_rows, place_rows, IsPaired, pair_presheaf, AreFewPairs}
use Rattle.finite_limits.specs.Matches.{places_by_value, matching, match_fibres, match_places, match_sizes, AreThreads}
use Rattle.finite_limits.proofs.Universal as universal
use Rattle.finite_limits.proofs.OneLimit.{one_pullback}
use Rattle.finite_limits.proofs.KeptNumbers.{passing_within, passing_passes, passing_rise, passing_rank}
use Rattle.finite_limits.proofs.PairPresheaf.{pair_carried, few_pairs, fibres_paired, pair_hit, pair_related, paired_moved, presheaf_moved}
use Rattle.finite_limits.proofs.ProductPairs.{pairs_counted}

-- whether n takes y to v
abbrev takes : List ℕ → ℕ → ℕ → Bool
takes n v y = eqb (get_or n y 0) v

matches_are : (m n : List ℕ) (a : ℕ) → AreFibres (λ x y. get_or m x 0 ≡ get_or n y 0) a (length n) (matching m n) (places_by_value n)
matches_are m n a = record {
  places = length-map-range_with_len (λ y. length (passing (takes n (get_or n y 0)) y)) 0 (length n);
  within = λ x i _. passing_within (takes n (get_or m x 0)) (length n) i;
  are_related = λ x i _ l. sym (eqb-true (get_or n (get_or (matching m n x) i 0) 0) (get_or m x 0) (passing_passes (takes n (get_or m x 0)) (length n) i l));
  rise = λ x i j _. passing_rise (takes n (get_or m x 0)) (length n) i j;
  place = λ x y _ l e.
      let at : get_or (places_by_value n) y 0 ≡ length (passing (takes n (get_or n y 0)) y) = get_or-map-range_with_len (λ y. length (passing (takes n (get_or n y 0)) y)) 0 (length n) y y 0 l (omega arith) in
      subst (λ (t : ℕ). IsPlace (matching m n x) t y) (sym (at ∙ ap (λ v. length (passing (takes n v) y)) (sym e)))
      (passing_rank (takes n (get_or m x 0)) (length n) y l (eq-eqb (get_or n y 0) (get_or m x 0) (sym e)));
}

module _ (k : Category) (lk : IsCategory k) (X Y B : Presheaf) (lx : IsFunctor k X) (ly : IsFunctor k Y) (m n : Components) (nm : IsNatural k X B m) (nn : IsNatural k Y B n) where
  abbrev related : ℕ → ℕ → ℕ → Type 0
  related c x y = apply m c x ≡ apply n c y

  abbrev p : Components
  p = first_parts k X (match_fibres m n)

  abbrev q : Components
  q = second_parts k X (match_fibres m n)

  abbrev s : Components
  s = start_rows k X (match_fibres m n)

  abbrev l : Components
  l = place_rows k (match_places n)

  each : (c : ℕ) → c < k.objects → AreFibres (related c) (size X c) (size Y c) (match_fibres m n c) (match_places n c)
  each c h = subst (λ (b : ℕ). AreFibres (related c) (size X c) b (match_fibres m n c) (match_places n c)) (nn.total c h) (matches_are (component m c) (component n c) (size X c))

  moves : (c f x y : ℕ) → IsInto k c f → x < size X c → y < size Y c → related c x y → related (dom k f) (act X f x) (act Y f y)
  moves c f x y a bx by e = nm.commutes c f x a bx ∙ ap (λ (z : ℕ). act B f z) e ∙ sym (nn.commutes c f y a by)

  pub matches_paired : IsPaired k X Y p q s l
  matches_paired = fibres_paired k lk X Y lx ly related (match_fibres m n) (match_places n) each moves

  pub matches_sizes : map length p ≡ match_sizes k X m n
  matches_sizes = pairs_counted k X (match_fibres m n) (λ c. length (seconds (match_fibres m n c) (size X c))) (λ _. refl)

  pub pair_pullback : IsPullback k X Y B m n (pair_presheaf k X Y p q s l) p q
  pair_pullback =
      universal.pullback k lk X Y (pair_presheaf k X Y p q s l) lx ly p q (pair_carried k lk X Y lx ly p q s l matches_paired) B m n nm nn
      (pair_related k lk X Y lx ly related (match_fibres m n) (match_places n) each moves)
      (pair_hit k lk X Y lx ly related (match_fibres m n) (match_places n) each moves)

  -- each pullback has as many cells
  pub pullback_over : (room : ℕ) → room < sized_cells k (match_sizes k X m n) → (Z : Presheaf) (r t : Components) → IsPullback k X Y B m n Z r t → IsOverRoom k room Z
  pullback_over room h Z r t pb =
      let e : pair_presheaf k X Y p q s l ≡ Z = (one_pullback k X Y B m n (pair_presheaf k X Y p q s l) Z p q r t lk pair_pullback pb).0 in
      subst (λ (W : Presheaf). room < presheaf_cells k W) e
      (subst (λ (v : ℕ). room < v) (sym (cells_by_sizes k (pair_presheaf k X Y p q s l))) (subst (λ (v : List ℕ). room < sized_cells k v) (sym matches_sizes) h))

-- a pullback within the room has numbers of 32 bits
pub matches_few : (k : Category) (X : Presheaf) (m n : Components) (room : ℕ) → room ≤ 64000000 → sized_cells k (match_sizes k X m n) ≤ room →
    (c : ℕ) → c < k.objects → length (seconds (match_fibres m n c) (size X c)) < 2 ^ 32
matches_few k X m n room r h c b =
    let e : get_or (match_sizes k X m n) c 0 ≡ length (seconds (match_fibres m n c) (size X c)) =
    get_or-map-range_with_len (λ c. length (seconds (match_fibres m n c) (size X c))) 0 k.objects c c 0 b (omega arith) in
    let w : get_or (match_sizes k X m n) c 0 ≤ sized_cells k (match_sizes k X m n) = size_within k (match_sizes k X m n) c b in
    omega arith

-- the rows that were made
module _ (k : Category) (lk : IsCategory k) (X Y B : Presheaf) (lx : IsFunctor k X) (ly : IsFunctor k Y) (m n : Components) (nm : IsNatural k X B m) (nn : IsNatural k Y B n)
    (a b d e : Components) (first : a ≡ first_parts k X (match_fibres m n)) (second : b ≡ second_parts k X (match_fibres m n)) (starts : d ≡ start_rows k X (match_fibres m n))
    (places : e ≡ place_rows k (match_places n)) where
  pub made_paired : IsPaired k X Y a b d e
  made_paired =
      paired_moved k X Y (first_parts k X (match_fibres m n)) (second_parts k X (match_fibres m n)) (start_rows k X (match_fibres m n)) (place_rows k (match_places n)) a b d e first second starts places
      (matches_paired k lk X Y B lx ly m n nm nn)

  pub made_sizes : match_sizes k X m n ≡ map length a
  made_sizes = sym (matches_sizes k lk X Y B lx ly m n nm nn) ∙ ap (map length) (sym first)

  pub made_few : (room : ℕ) → room ≤ 64000000 → sized_cells k (match_sizes k X m n) ≤ room → AreFewPairs k a
  made_few room r h = few_pairs k lk X Y lx ly a b d e made_paired room r (subst (λ (v : List ℕ). sized_cells k v ≤ room) made_sizes h)

  pub made_pullback : (Z : Presheaf) (u v : Components) → Z ≡ pair_presheaf k X Y a b d e → u ≡ a → v ≡ b → IsPullback k X Y B m n Z u v
  made_pullback Z u v is iu iv =
      pullback_moved Z u v
      (is
      ∙ presheaf_moved k X Y (first_parts k X (match_fibres m n)) (second_parts k X (match_fibres m n)) (start_rows k X (match_fibres m n)) (place_rows k (match_places n)) a b d e first second starts places)
      (iu ∙ first) (iv ∙ second) (pair_pullback k lk X Y B lx ly m n nm nn)
    where
      pullback_moved : {W : Presheaf} {f g : Components} (Z : Presheaf) (u v : Components) → Z ≡ W → u ≡ f → v ≡ g → IsPullback k X Y B m n W f g → IsPullback k X Y B m n Z u v
      pullback_moved Z u v h i j pb = rw (h, i, j) pb

-- the rows that were read
pub values_within : (k : Category) (X B : Presheaf) (m : Components) → IsNatural k X B m → (c : ℕ) → c < k.objects → (row : List ℕ) (values : ℕ) → row ≡ component m c → values ≡ size B c →
    (x : ℕ) → x < length row → get_or row x 0 < values
values_within k X B m nm c h row values e d x l =
    let low : x < size X c = subst (λ (s : ℕ). x < s) (ap length e ∙ nm.total c h) l in
    subst (λ (s : List ℕ). get_or s x 0 < values) (sym e) (subst (λ (b : ℕ). apply m c x < b) (sym d) (nm.within c x h low))

pub counted_moved : (r s : List ℕ) (a : ℕ) (m counts : List ℕ) (b : ℕ) → r ≡ m → s ≡ counts → a ≡ b →
    sum_by (λ x. get_or s (get_or r x 0) 0) (range_with_len 0 a) ≡ sum_by (λ x. get_or counts (get_or m x 0) 0) (range_with_len 0 b)
counted_moved r s a m counts b e d f = rw (e, d, f) refl

pub threads_moved : (n : List ℕ) (values : ℕ) (heads next a b : List ℕ) → a ≡ heads → b ≡ next → AreThreads n values 0 heads next → AreThreads n (length a) 0 a b
threads_moved n values heads next a b e d t =
    let long : values ≡ length a = sym (ap length e ∙ t.heads_long) in
    subst (λ (v : ℕ). AreThreads n v 0 a b) long (subst (λ (r : List ℕ). AreThreads n values 0 r b) (sym e) (subst (λ (r : List ℕ). AreThreads n values 0 heads r) (sym d) t))

pub matching_moved : {A : Type 0} (parts : (ℕ → List ℕ) → ℕ → A) (r s : List ℕ) (a : ℕ) (m n : List ℕ) (b : ℕ) → r ≡ m → s ≡ n → a ≡ b → parts (matching r s) a ≡ parts (matching m n) b
matching_moved parts r s a m n b e d f = rw (e, d, f) refl
