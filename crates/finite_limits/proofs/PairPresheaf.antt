-- Pairs of elements of two presheaves, object by object, are a presheaf with two maps.
use Rattle.std.proofs.Common.{◌≡◌, ℕ, ◌+◌, ◌<◌, ◌≤◌, ◌^◌, List, [], map, length, get_or, refl, sym, ap, subst, ◌∙◌, arith}
use Rattle.std.specs.List.{range_with_len}
use Rattle.std.proofs.lemmas.List.{length-map, get_or-map}
use Rattle.std.proofs.lemmas.List.FromFn.{length-map-range_with_len, get_or-map-range_with_len}
use Rattle.topos_model.specs.categories.Category.{Category, dom}
use Rattle.topos_model.specs.types.Types.{Presheaf}
use Rattle.topos_model.specs.Laws.{IsInto, IsCategory, act, size, IsFunctor}
use Rattle.topos_model.specs.presheaves.Maps.{Components, component, apply}
use Rattle.natural_maps.specs.Room.{sized_cells}
use Rattle.natural_maps.proofs.CellSums.{size_within}
use Rattle.natural_maps.proofs.Triangles.{codomain_object}
use Rattle.natural_maps.proofs.Lifts.{HasValues}
use Rattle.finite_limits.specs.Carried.{IsCarried}
use Rattle.finite_limits.specs.Pairs.{ArePairs, AreFibres, firsts, seconds, starts, first_parts, second_parts, start_rows, place_rows, IsPaired, restricted_pair, pair_row, pair_presheaf, AreFewPairs, AreRestricted}
use Rattle.finite_limits.proofs.PairNumbers.{fibre_pairs}

module _ (k : Category) (lk : IsCategory k) (X Y : Presheaf) (lx : IsFunctor k X) (ly : IsFunctor k Y) (p q s l : Components) (paired : IsPaired k X Y p q s l) where
  pub pair_size : (c : ℕ) → c < k.objects → size (pair_presheaf k X Y p q s l) c ≡ length (component p c)
  pair_size c h = get_or-map length p c [] 0 (subst (λ (t : ℕ). c < t) (sym paired.first_rows) h)

  abbrev pair_at : ℕ → ℕ → ℕ → ℕ
  pair_at f c t = restricted_pair (component p c) (component q c) (get_or X.along f []) (get_or Y.along f []) (component s (dom k f)) (component l (dom k f)) t

  row_at : (c f : ℕ) → IsInto k c f → get_or (pair_presheaf k X Y p q s l).along f [] ≡ map (pair_at f c) (range_with_len 0 (length (component p c)))
  row_at c f a =
      get_or-map-range_with_len (pair_row k X Y p q s l) 0 (length k.ends) f f [] a.0 (omega arith)
      ∙ ap (λ (d : ℕ). map (pair_at f d) (range_with_len 0 (length (component p d)))) a.1

  act_at : (c f t : ℕ) → IsInto k c f → t < length (component p c) → act (pair_presheaf k X Y p q s l) f t ≡ pair_at f c t
  act_at c f t a h = ap (λ (r : List ℕ). get_or r t 0) (row_at c f a) ∙ get_or-map-range_with_len (pair_at f c) 0 (length (component p c)) t t 0 h (omega arith)

  sized : (c t : ℕ) → c < k.objects → t < size (pair_presheaf k X Y p q s l) c → t < length (component p c)
  sized c t h b = subst (λ (n : ℕ). t < n) (pair_size c h) b

  pub pair_carried : IsCarried k X Y (pair_presheaf k X Y p q s l) p q
  pair_carried = record {
    objects = length-map p length ∙ paired.first_rows;
    arrows = length-map-range_with_len (pair_row k X Y p q s l) 0 (length k.ends);
    total = λ c f a.
        ap length (row_at c f a) ∙ length-map-range_with_len (pair_at f c) 0 (length (component p c)) ∙ sym (pair_size c (codomain_object k lk c f a));
    within = λ c f t a h.
        let b : t < length (component p c) = sized c t (codomain_object k lk c f a) h in
        subst (λ (n : ℕ). act (pair_presheaf k X Y p q s l) f t < n) (sym (pair_size (dom k f) (lk.ends f a.0).0))
        (subst (λ (n : ℕ). n < length (component p (dom k f))) (sym (act_at c f t a b)) (paired.closed c f t a b).within);
    first_objects = paired.first_rows;
    second_objects = paired.second_rows;
    first_total = λ c h. sym (pair_size c h);
    second_total = λ c h. paired.seconds c h ∙ sym (pair_size c h);
    first_within = λ c t h b. paired.first_within c t h (sized c t h b);
    second_within = λ c t h b. paired.second_within c t h (sized c t h b);
    first = λ c f t a h.
        let b : t < length (component p c) = sized c t (codomain_object k lk c f a) h in
        ap (λ (n : ℕ). apply p (dom k f) n) (act_at c f t a b) ∙ (paired.closed c f t a b).first;
    second = λ c f t a h.
        let b : t < length (component p c) = sized c t (codomain_object k lk c f a) h in
        ap (λ (n : ℕ). apply q (dom k f) n) (act_at c f t a b) ∙ (paired.closed c f t a b).second;
    order = λ c t u h below b. paired.rise c t u h below (sized c u h b);
  }

  -- what is needed to restrict the pairs along f
  pub pairs_restricted : AreFewPairs k p → (c f : ℕ) → IsInto k c f →
      AreRestricted (component p c) (component q c) (get_or X.along f []) (get_or Y.along f []) (component s (dom k f)) (component l (dom k f))
  pairs_restricted few c f a =
      let h : c < k.objects = codomain_object k lk c f a in
      let d : dom k f < k.objects = (lk.ends f a.0).0 in
      record {
        seconds = paired.seconds c h;
        first = λ t b. subst (λ (n : ℕ). apply p c t < n) (sym (lx.total c f a)) (paired.first_within c t h b);
        second = λ t b. subst (λ (n : ℕ). apply q c t < n) (sym (ly.total c f a)) (paired.second_within c t h b);
        start = λ t b. subst (λ (n : ℕ). act X f (apply p c t) < n) (sym (paired.starts (dom k f) d)) (lx.within c f (apply p c t) a (paired.first_within c t h b));
        place = λ t b. subst (λ (n : ℕ). act Y f (apply q c t) < n) (sym (paired.places (dom k f) d)) (ly.within c f (apply q c t) a (paired.second_within c t h b));
        few = λ t b.
            let w : pair_at f c t < length (component p (dom k f)) = (paired.closed c f t a b).within in
            let v : length (component p (dom k f)) < 2 ^ 32 = few (dom k f) d in
            omega arith;
      }

  -- pairs within the room have numbers of 32 bits
  pub few_pairs : (room : ℕ) → room ≤ 64000000 → sized_cells k (map length p) ≤ room → AreFewPairs k p
  few_pairs room r h c b =
      let e : get_or (map length p) c 0 ≡ length (component p c) = pair_size c b in
      let w : get_or (map length p) c 0 ≤ sized_cells k (map length p) = size_within k (map length p) c b in
      omega arith

-- the pairs of the elements and the members of their fibres, where related elements are restricted to related ones
module _ (k : Category) (lk : IsCategory k) (X Y : Presheaf) (lx : IsFunctor k X) (ly : IsFunctor k Y) (related : ℕ → ℕ → ℕ → Type 0) (fibres : ℕ → ℕ → List ℕ) (places : ℕ → List ℕ)
    (each : (c : ℕ) → c < k.objects → AreFibres (related c) (size X c) (size Y c) (fibres c) (places c))
    (moves : (c f x y : ℕ) → IsInto k c f → x < size X c → y < size Y c → related c x y → related (dom k f) (act X f x) (act Y f y)) where
  abbrev p : Components
  p = first_parts k X fibres

  abbrev q : Components
  q = second_parts k X fibres

  abbrev s : Components
  s = start_rows k X fibres

  abbrev l : Components
  l = place_rows k places

  first_at : (c : ℕ) → c < k.objects → firsts (fibres c) (size X c) ≡ component p c
  first_at c h = sym (get_or-map-range_with_len (λ c. firsts (fibres c) (size X c)) 0 k.objects c c [] h (omega arith))

  second_at : (c : ℕ) → c < k.objects → seconds (fibres c) (size X c) ≡ component q c
  second_at c h = sym (get_or-map-range_with_len (λ c. seconds (fibres c) (size X c)) 0 k.objects c c [] h (omega arith))

  start_at : (c : ℕ) → c < k.objects → starts (fibres c) (size X c) ≡ component s c
  start_at c h = sym (get_or-map-range_with_len (λ c. starts (fibres c) (size X c)) 0 k.objects c c [] h (omega arith))

  place_at : (c : ℕ) → c < k.objects → places c ≡ component l c
  place_at c h = sym (get_or-map-range_with_len places 0 k.objects c c [] h (omega arith))

  pub pairs_at : (c : ℕ) → c < k.objects → ArePairs (related c) (size X c) (size Y c) (component p c) (component q c) (component s c) (component l c)
  pairs_at c h =
      subst (λ (r : List ℕ). ArePairs (related c) (size X c) (size Y c) r (component q c) (component s c) (component l c)) (first_at c h)
      (subst (λ (r : List ℕ). ArePairs (related c) (size X c) (size Y c) (firsts (fibres c) (size X c)) r (component s c) (component l c)) (second_at c h)
      (subst (λ (r : List ℕ). ArePairs (related c) (size X c) (size Y c) (firsts (fibres c) (size X c)) (seconds (fibres c) (size X c)) r (component l c)) (start_at c h)
      (subst (λ (r : List ℕ). ArePairs (related c) (size X c) (size Y c) (firsts (fibres c) (size X c)) (seconds (fibres c) (size X c)) (starts (fibres c) (size X c)) r) (place_at c h)
      (fibre_pairs (related c) (size X c) (size Y c) (fibres c) (places c) (each c h)))))

  pub fibres_paired : IsPaired k X Y p q s l
  fibres_paired = record {
    first_rows = length-map-range_with_len (λ c. firsts (fibres c) (size X c)) 0 k.objects;
    second_rows = length-map-range_with_len (λ c. seconds (fibres c) (size X c)) 0 k.objects;
    start_rows = length-map-range_with_len (λ c. starts (fibres c) (size X c)) 0 k.objects;
    place_rows = length-map-range_with_len places 0 k.objects;
    seconds = λ c h. (pairs_at c h).seconds;
    starts = λ c h. (pairs_at c h).starts;
    places = λ c h. (pairs_at c h).places;
    first_within = λ c t h. (pairs_at c h).first_within t;
    second_within = λ c t h. (pairs_at c h).second_within t;
    rise = λ c t u h. (pairs_at c h).rise t u;
    closed = λ c f t a b.
        let h : c < k.objects = codomain_object k lk c f a in
        let d : dom k f < k.objects = (lk.ends f a.0).0 in
        let here = pairs_at c h in
        let x : apply p c t < size X c = here.first_within t b in
        let y : apply q c t < size Y c = here.second_within t b in
        (pairs_at (dom k f) d).number (act X f (apply p c t)) (act Y f (apply q c t)) (lx.within c f (apply p c t) a x) (ly.within c f (apply q c t) a y)
        (moves c f (apply p c t) (apply q c t) a x y (here.are_related t b));
  }

  -- each related pair is listed
  pub pair_hit : (c x y : ℕ) → c < k.objects → x < size X c → y < size Y c → related c x y → (t : ℕ) × HasValues (pair_presheaf k X Y p q s l) p q c x y t
  pair_hit c x y h lx' ly' r =
      let at = (pairs_at c h).number x y lx' ly' r in (
        apply s c x + apply l c y,
        record {
          within = subst (λ (n : ℕ). apply s c x + apply l c y < n) (sym (pair_size k lk X Y lx ly p q s l fibres_paired c h)) at.within;
          first = at.first;
          second = at.second;
        },
      )

  pub pair_related : (c t : ℕ) → c < k.objects → t < size (pair_presheaf k X Y p q s l) c → related c (apply p c t) (apply q c t)
  pair_related c t h b = (pairs_at c h).are_related t (subst (λ (n : ℕ). t < n) (pair_size k lk X Y lx ly p q s l fibres_paired c h) b)

pub paired_moved : (k : Category) (X Y : Presheaf) (p q s l a b d e : Components) → a ≡ p → b ≡ q → d ≡ s → e ≡ l → IsPaired k X Y p q s l → IsPaired k X Y a b d e
paired_moved k X Y p q s l a b d e ap_ aq as_ al paired = rw (ap_, aq, as_, al) paired

pub presheaf_moved : (k : Category) (X Y : Presheaf) (p q s l a b d e : Components) → a ≡ p → b ≡ q → d ≡ s → e ≡ l → pair_presheaf k X Y a b d e ≡ pair_presheaf k X Y p q s l
presheaf_moved k X Y p q s l a b d e ap_ aq as_ al = rw (ap_, aq, as_, al) refl

-- the rows that were read
pub restricted_moved : (p q x y s l a b d e f g : List ℕ) → a ≡ p → b ≡ q → d ≡ x → e ≡ y → f ≡ s → g ≡ l → AreRestricted p q x y s l → AreRestricted a b d e f g
restricted_moved p q x y s l a b d e f g ha hb hd he hf hg r = rw (ha, hb, hd, he, hf, hg) r

pub row_moved : (p q x y s l a b d e f g : List ℕ) → a ≡ p → b ≡ q → d ≡ x → e ≡ y → f ≡ s → g ≡ l →
    map (restricted_pair a b d e f g) (range_with_len 0 (length a)) ≡ map (restricted_pair p q x y s l) (range_with_len 0 (length p))
row_moved p q x y s l a b d e f g ha hb hd he hf hg = rw (ha, hb, hd, he, hf, hg) refl
