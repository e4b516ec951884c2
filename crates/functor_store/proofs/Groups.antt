-- A list in groups.
use Rattle.std.proofs.Common.{◌≡◌, ℕ, zero, suc, ◌+◌, ◌-◌, ◌<◌, ◌≤◌, min, List, [], ◌∷◌, ◌++◌, length, get_or, take, drop, replicate, slice_range, refl, sym, ap, subst, ◌∙◌, arith, length-append, length-drop, inl, inr, ◌⊎◌}
use Rattle.std.proofs.lemmas.List.{take-append-le, drop-append-le, take_all, take-take, drop-take, length-take, drop_all, get_or-take, get_or-drop, get_or_past, length_push}
use Rattle.std.proofs.lemmas.Bool.{cases_lt}
use Rattle.std.proofs.lemmas.Grind.{same_number_lists}
use Rattle.functor_store.specs.Groups.{groups, IsCutTo, start, last, raised, IsFilled}
use Rattle.functor_store.specs.Store.{push_at}

-- ranges
pub range_front : {X : Type 0} (a b : List X) (i j : ℕ) → i ≤ j → j ≤ length a → slice_range (a ++ b) i j ≡ slice_range a i j
range_front a b i j l m =
    ap (take (j - i)) (drop-append-le i a b (omega arith))
    ∙ take-append-le (j - i) (drop i a) b (simp length-drop (omega arith))

-- a range that ends with the list, one more at its end
pub range_push : {X : Type 0} (a : List X) (x : X) (i : ℕ) → i ≤ length a → slice_range (a ++ x ∷ []) i (length a + 1) ≡ slice_range a i (length a) ++ x ∷ []
range_push a x i l =
    let d : drop i (a ++ x ∷ []) ≡ drop i a ++ x ∷ [] = drop-append-le i a (x ∷ []) l in
    let n : length (drop i a ++ x ∷ []) ≤ length a + 1 - i = simp (length-append, length-drop) (omega arith) in
    let m : length (drop i a) ≤ length a - i = simp length-drop (omega arith) in
    ap (take (length a + 1 - i)) d ∙ take_all (length a + 1 - i) (drop i a ++ x ∷ []) n ∙ ap (λ y. y ++ x ∷ []) (sym (take_all (length a - i) (drop i a) m))

-- the same where the range goes on past the end
pub range_open : {X : Type 0} (a : List X) (x : X) (i j : ℕ) → i ≤ length a → length a < j → slice_range (a ++ x ∷ []) i j ≡ slice_range a i j ++ x ∷ []
range_open a x i j l h =
    let d : drop i (a ++ x ∷ []) ≡ drop i a ++ x ∷ [] = drop-append-le i a (x ∷ []) l in
    let n : length (drop i a ++ x ∷ []) ≤ j - i = simp (length-append, length-drop) (omega arith) in
    let m : length (drop i a) ≤ j - i = simp length-drop (omega arith) in
    ap (take (j - i)) d ∙ take_all (j - i) (drop i a ++ x ∷ []) n ∙ ap (λ y. y ++ x ∷ []) (sym (take_all (j - i) (drop i a) m))

pub range_cut : {X : Type 0} (a : List X) (i j m : ℕ) → i ≤ j → j ≤ m → slice_range (take m a) i j ≡ slice_range a i j
range_cut a i j m l k =
    let e : i + (m - i) ≡ m = omega arith in
    ap (λ x. take (j - i) (drop i (take x a))) (sym e) ∙ ap (take (j - i)) (drop-take i (m - i) a) ∙ take-take (j - i) (m - i) (drop i a) (omega arith)

pub range_past : {X : Type 0} (a : List X) (i j : ℕ) → length a ≤ i → slice_range a i j ≡ []
range_past a i j l = ap (take (j - i)) (drop_all i a l) ∙ take_all (j - i) [] (omega arith)

pub range_none : {X : Type 0} (a : List X) (i : ℕ) → slice_range a i i ≡ []
range_none a i = let e : i - i ≡ 0 = omega arith in ap (λ n. take n (drop i a)) e

pub length-range : {X : Type 0} (a : List X) (i j : ℕ) → length (slice_range a i j) ≡ min (j - i) (length a - i)
length-range a i j = length-take (j - i) (drop i a) ∙ ap (min (j - i)) (length-drop i a)

-- bounds
pub cut_end : (from n : ℕ) (es : List ℕ) → IsCutTo from es n → from ≤ n
unfolding IsCutTo
cut_end from n [] h = h
cut_end from n (e ∷ es) h = let l = cut_end e n es h.1 in let k : from ≤ e = h.0 in omega arith

pub cut_more : (from n m : ℕ) (es : List ℕ) → IsCutTo from es n → n ≤ m → IsCutTo from es m
unfolding IsCutTo
cut_more from n m [] h l = let k : from ≤ n = h in omega arith
cut_more from n m (e ∷ es) h l = (h.0, cut_more e n m es h.1 l)

pub cut_none : (m n : ℕ) → IsCutTo n (replicate m n) n
unfolding IsCutTo
cut_none zero n = omega arith
cut_none (suc m) n = (omega arith, cut_none m n)

pub cut_rises : (from n c : ℕ) (es : List ℕ) → IsCutTo from es n → c < length es → start from es c ≤ get_or es c 0
unfolding IsCutTo
cut_rises from n c [] h l = absurd (omega arith)
cut_rises from n zero (e ∷ es) h l = h.0
cut_rises from n (suc c) (e ∷ es) h l = cut_rises e n c es h.1 (omega arith)

pub cut_within : (from n c : ℕ) (es : List ℕ) → IsCutTo from es n → c < length es → get_or es c 0 ≤ n
unfolding IsCutTo
cut_within from n c [] h l = absurd (omega arith)
cut_within from n zero (e ∷ es) h l = cut_end e n es h.1
cut_within from n (suc c) (e ∷ es) h l = cut_within e n c es h.1 (omega arith)

pub length-groups : {X : Type 0} (from : ℕ) (es : List ℕ) (xs : List X) → length (groups from es xs) ≡ length es
unfolding groups
length-groups from [] xs = refl
length-groups from (e ∷ es) xs = ap suc (length-groups e es xs)

-- what comes after the last group does not matter
pub groups_front : {X : Type 0} (from : ℕ) (es : List ℕ) (xs ys : List X) → IsCutTo from es (length xs) → groups from es (xs ++ ys) ≡ groups from es xs
unfolding groups IsCutTo
groups_front from [] xs ys h = refl
groups_front from (e ∷ es) xs ys h =
    let r = range_front xs ys from e h.0 (cut_end e (length xs) es h.1) in
    let i = groups_front e es xs ys h.1 in
    cc

pub groups_take : {X : Type 0} (from n : ℕ) (es : List ℕ) (xs : List X) → IsCutTo from es n → groups from es (take n xs) ≡ groups from es xs
unfolding groups IsCutTo
groups_take from n [] xs h = refl
groups_take from n (e ∷ es) xs h =
    let r = range_cut xs from e n h.0 (cut_end e n es h.1) in
    let i = groups_take e n es xs h.1 in
    cc

-- groups with nothing in them
pub groups_none : {X : Type 0} (m n : ℕ) (xs : List X) → groups n (replicate m n) xs ≡ replicate m []
unfolding groups
groups_none zero n xs = refl
groups_none (suc m) n xs = let r = range_none xs n in let i = groups_none m n xs in cc

pub groups_past : {X : Type 0} (from n : ℕ) (es : List ℕ) (xs : List X) → IsCutTo from es n → length xs ≤ from → groups from es xs ≡ replicate (length es) []
unfolding groups IsCutTo
groups_past from n [] xs h l = refl
groups_past from n (e ∷ es) xs h l =
    let k : from ≤ e = h.0 in
    let r = range_past xs from e l in
    let i = groups_past e n es xs h.1 (omega arith) in
    cc

pub group_at : {X : Type 0} (from c : ℕ) (es : List ℕ) (xs : List X) → c < length es → get_or (groups from es xs) c [] ≡ slice_range xs (start from es c) (get_or es c 0)
unfolding groups
group_at from c [] xs l = absurd (omega arith)
group_at from zero (e ∷ es) xs l = refl
group_at from (suc c) (e ∷ es) xs l = group_at e c es xs (omega arith)

-- the element k of the group c
pub item_at : {X : Type 0} (from n c k : ℕ) (es : List ℕ) (xs : List X) (d : X) → IsCutTo from es (length xs) → c < length es → k < length (get_or (groups from es xs) c []) → (get_or (get_or (groups from es xs) c []) k d ≡ get_or xs (start from es c + k) d) × (start from es c + k < length xs)
item_at from n c k es xs d h l m =
    let e = group_at from c es xs l in
    let s : k < length (slice_range xs (start from es c) (get_or es c 0)) = (let P : List _ → Type 0 = λ g. k < length g in subst P e m) in
    let t = length-range xs (start from es c) (get_or es c 0) in
    let w = cut_within from (length xs) c es h l in
    (ap (λ g. get_or g k d) e ∙ get_or-take (get_or es c 0 - start from es c) (drop (start from es c) xs) k d (omega arith) ∙ get_or-drop (start from es c) xs k d, omega arith)

pub length-group : {X : Type 0} (from c : ℕ) (es : List ℕ) (xs : List X) → IsCutTo from es (length xs) → c < length es → start from es c + length (get_or (groups from es xs) c []) ≡ get_or es c 0
length-group from c es xs h l =
    let e = ap length (group_at from c es xs l) in
    let t = length-range xs (start from es c) (get_or es c 0) in
    let w = cut_within from (length xs) c es h l in
    let r = cut_rises from (length xs) c es h l in
    omega arith

-- one more in the group c, after which nothing has come
all_none : {X : Type 0} (gs : List (List X)) → ((o : ℕ) → get_or gs o [] ≡ []) → gs ≡ replicate (length gs) []
all_none [] h = refl
all_none (g ∷ gs) h = let e : g ≡ [] = h 0 in let r = all_none gs (λ o. h (suc o)) in cc

flat : {X : Type 0} (from : ℕ) (es : List ℕ) (xs : List X) → IsCutTo from es (length xs) → last from es ≡ length xs → ((o : ℕ) → get_or (groups from es xs) o [] ≡ []) → from ≡ length xs
unfolding groups IsCutTo last
flat from [] xs h e n = e
flat from (f ∷ es) xs h e n =
    let r : f ≡ length xs = flat f es xs h.1 e (λ o. n (suc o)) in
    let g : slice_range xs from f ≡ [] = n 0 in
    let s = ap length g in
    let t = length-range xs from f in
    let l : from ≤ f = h.0 in
    omega arith

groups_raised : {X : Type 0} (es : List ℕ) (n : ℕ) (xs : List X) → groups n (raised zero es n) xs ≡ replicate (length es) []
unfolding groups raised
groups_raised [] n xs = refl
groups_raised (e ∷ es) n xs = let r = range_none xs n in let i = groups_raised es n xs in cc

pub groups_push : {X : Type 0} (c from : ℕ) (es : List ℕ) (xs : List X) (x : X) → IsCutTo from es (length xs) → last from es ≡ length xs → c < length es → ((o : ℕ) → c < o → get_or (groups from es xs) o [] ≡ []) → groups from (raised c es (length xs + 1)) (xs ++ x ∷ []) ≡ push_at (groups from es xs) c x
unfolding groups IsCutTo last push_at raised
groups_push c from [] xs x h e l n = absurd (omega arith)
groups_push zero from (f ∷ es) xs x h e l n =
    let after : (o : ℕ) → get_or (groups f es xs) o [] ≡ [] = λ o. n (suc o) (omega arith) in
    let r : f ≡ length xs = flat f es xs h.1 e after in
    let k : from ≤ f = h.0 in
    let a = range_push xs x from (omega arith) in
    let b = groups_raised es (length xs + 1) (xs ++ x ∷ []) in
    let g = all_none (groups f es xs) after in
    let z : replicate (length (groups f es xs)) [] ≡ replicate (length es) [] = ap (λ m. replicate m []) (length-groups f es xs) in
    let y : slice_range xs from f ≡ slice_range xs from (length xs) = ap (slice_range xs from) r in
    let head : slice_range (xs ++ x ∷ []) from (length xs + 1) ≡ slice_range xs from f ++ x ∷ [] = a ∙ ap (λ w. w ++ x ∷ []) (sym y) in
    let tail : groups (length xs + 1) (raised zero es (length xs + 1)) (xs ++ x ∷ []) ≡ groups f es xs = b ∙ sym z ∙ sym g in
    cc
groups_push (suc c) from (f ∷ es) xs x h e l n =
    let r = range_front xs (x ∷ []) from f h.0 (cut_end f (length xs) es h.1) in
    let i = groups_push c f es xs x h.1 e (omega arith) (λ o p. n (suc o) (omega arith)) in
    cc

pub cut_push : (c from n : ℕ) (es : List ℕ) → IsCutTo from es n → c < length es → IsCutTo from (raised c es (n + 1)) (n + 1) × (last from (raised c es (n + 1)) ≡ n + 1)
unfolding IsCutTo last raised
cut_push c from n [] h l = absurd (omega arith)
cut_push zero from n (e ∷ es) h l =
    let k : from ≤ e = h.0 in
    let w = cut_end e n es h.1 in
    ((omega arith, cut_raised es), last_raised es)
  where
    cut_raised : (es : List ℕ) → IsCutTo (n + 1) (raised zero es (n + 1)) (n + 1)
    cut_raised [] = omega arith
    cut_raised (e ∷ es) = (omega arith, cut_raised es)

    last_raised : (es : List ℕ) → last (n + 1) (raised zero es (n + 1)) ≡ n + 1
    last_raised [] = refl
    last_raised (e ∷ es) = last_raised es
cut_push (suc c) from n (e ∷ es) h l = let r = cut_push c e n es h.1 (omega arith) in ((h.0, r.0), r.1)

pub length-raised : (c n : ℕ) (es : List ℕ) → length (raised c es n) ≡ length es
unfolding raised
length-raised c n [] = refl
length-raised zero n (e ∷ es) = ap suc (length-raised zero n es)
length-raised (suc c) n (e ∷ es) = ap suc (length-raised c n es)

raised_at : (c n k : ℕ) (es : List ℕ) → k < length es → (k < c → get_or (raised c es n) k 0 ≡ get_or es k 0) × (c ≤ k → get_or (raised c es n) k 0 ≡ n)
unfolding raised
raised_at c n k [] l = absurd (omega arith)
raised_at zero n zero (e ∷ es) l = (λ h. absurd (omega arith), λ h. refl)
raised_at zero n (suc k) (e ∷ es) l = let r = raised_at zero n k es (omega arith) in (λ h. absurd (omega arith), λ h. r.1 (omega arith))
raised_at (suc c) n zero (e ∷ es) l = (λ h. refl, λ h. absurd (omega arith))
raised_at (suc c) n (suc k) (e ∷ es) l = let r = raised_at c n k es (omega arith) in (λ h. r.0 (omega arith), λ h. r.1 (omega arith))

-- a list that reads so is it
raised_from_reads : (c n : ℕ) (es ys : List ℕ) → length ys ≡ length es → ((k : ℕ) → k < c → get_or ys k 0 ≡ get_or es k 0) → ((k : ℕ) → c ≤ k → k < length es → get_or ys k 0 ≡ n) → ys ≡ raised c es n
raised_from_reads c n es ys e below above =
    same_number_lists ys (raised c es n) (e ∙ sym (length-raised c n es)) (λ k l.
    let l' : k < length es = omega arith in
    elim (cases_lt k c) [
      | inl h ↦ below k h ∙ sym ((raised_at c n k es l').0 h)
      | inr h ↦ above k h l' ∙ sym ((raised_at c n k es l').1 h)
    ])

-- all places from the first to the end
pub filled_to_end : (from n : ℕ) (old new : List ℕ) → IsFilled from (length old) n old new → new ≡ raised from old n
filled_to_end from n old new h = raised_from_reads from n old new h.length_is h.below (λ k l m. h.between k l m)

-- all places from a first one on, up to which others were filled
pub raised_twice : (from c n m : ℕ) (old new : List ℕ) → IsFilled from c n old new → raised c new m ≡ raised c (raised from old n) m
raised_twice from c n m old new h =
    let length_is : length new ≡ length (raised from old n) = h.length_is ∙ sym (length-raised from n old) in
    sym (raised_from_reads c m new (raised c (raised from old n) m) (length-raised c m (raised from old n) ∙ sym length_is)
    (λ k l. reads k l (cases_lt k (length old)))
    (λ k l t. (raised_at c m k (raised from old n) (omega arith)).1 l))
  where
    within : (k : ℕ) → k < c → k < length old → get_or (raised c (raised from old n) m) k 0 ≡ get_or new k 0
    within k l t =
        let same : length (raised from old n) ≡ length old = length-raised from n old in
        let left = (raised_at c m k (raised from old n) (omega arith)).0 l in
        elim (cases_lt k from) [
          | inl b ↦ left ∙ (raised_at from n k old t).0 b ∙ sym (h.below k b)
          | inr b ↦ left ∙ (raised_at from n k old t).1 b ∙ sym (h.between k b l)
        ]

    reads : (k : ℕ) → k < c → k < length old ⊎ length old ≤ k → get_or (raised c (raised from old n) m) k 0 ≡ get_or new k 0
    reads k l (inl t) = within k l t
    reads k l (inr t) =
        let length_is = h.length_is in
        let one = length-raised c m (raised from old n) in
        let two = length-raised from n old in
        get_or_past (raised c (raised from old n) m) k 0 (omega arith) ∙ sym (get_or_past new k 0 (omega arith))

pub raised_all : (m x n : ℕ) → raised zero (replicate m x) n ≡ replicate m n
unfolding raised
raised_all zero x n = refl
raised_all (suc m) x n = ap (λ es. n ∷ es) (raised_all m x n)

-- one more in a list that is not yet as long as its groups
pub groups_open : {X : Type 0} (c from n : ℕ) (es : List ℕ) (xs : List X) (x : X) → IsCutTo from es n → c < length es → start from es c ≤ length xs → length xs < get_or es c 0 → groups from es (xs ++ x ∷ []) ≡ push_at (groups from es xs) c x
unfolding groups IsCutTo push_at
groups_open c from n [] xs x h l s t = absurd (omega arith)
groups_open zero from n (e ∷ es) xs x h l s t =
    let r = range_open xs x from e s t in
    let a = groups_past e n es (xs ++ x ∷ []) h.1 (simp length_push (omega arith)) in
    let b = groups_past e n es xs h.1 (omega arith) in
    cc
groups_open (suc c) from n (e ∷ es) xs x h l s t =
    let u = start_after e n c es h.1 (omega arith) in
    let r = range_front xs (x ∷ []) from e h.0 (omega arith) in
    let i = groups_open c e n es xs x h.1 (omega arith) s t in
    cc
  where
    start_after : (from n c : ℕ) (es : List ℕ) → IsCutTo from es n → c ≤ length es → from ≤ start from es c
    start_after from n zero es h l = omega arith
    start_after from n (suc c) [] h l = absurd (omega arith)
    start_after from n (suc c) (e ∷ es) h l = let r = start_after e n c es h.1 (omega arith) in let s : from ≤ e = h.0 in omega arith

-- the groups before c are full, and the group c has k: the list is as long as what stands before
pub open_at : {X Y : Type 0} (c k from : ℕ) (es : List ℕ) (rows : List Y) (xs : List X) → IsCutTo from es (length rows) → c < length es → from ≤ length xs → ((o : ℕ) → o < c → length (get_or (groups from es xs) o []) ≡ length (get_or (groups from es rows) o [])) → length (get_or (groups from es xs) c []) ≡ k → k < length (get_or (groups from es rows) c []) → (start from es c + k ≡ length xs) × (start from es c + k < get_or es c 0)
unfolding groups IsCutTo
open_at c k from [] rows xs h l b f g o = absurd (omega arith)
open_at zero k from (e ∷ es) rows xs h l b f g o =
    let s = length-range xs from e in
    let t = length-range rows from e in
    let w = cut_end e (length rows) es h.1 in
    let r : from ≤ e = h.0 in
    (omega arith, omega arith)
open_at (suc c) k from (e ∷ es) rows xs h l b f g o =
    let s = length-range xs from e in
    let t = length-range rows from e in
    let w = cut_end e (length rows) es h.1 in
    let r : from ≤ e = h.0 in
    let q : length (slice_range xs from e) ≡ length (slice_range rows from e) = f 0 (omega arith) in
    open_at c k e es rows xs h.1 (omega arith) (omega arith) (λ i p. f (suc i) (omega arith)) g o

-- where all groups are full the lists have one length
pub full : {X Y : Type 0} (from : ℕ) (es : List ℕ) (rows : List Y) (xs : List X) → IsCutTo from es (length rows) → last from es ≡ length rows → from ≤ length xs → ((o : ℕ) → length (get_or (groups from es xs) o []) ≡ length (get_or (groups from es rows) o [])) → length rows ≤ length xs
unfolding groups IsCutTo last
full from [] rows xs h e b f = omega arith
full from (g ∷ es) rows xs h e b f =
    let s = length-range xs from g in
    let t = length-range rows from g in
    let w = cut_end g (length rows) es h.1 in
    let r : from ≤ g = h.0 in
    let q : length (slice_range xs from g) ≡ length (slice_range rows from g) = f 0 in
    full g es rows xs h.1 e (omega arith) (λ o. f (suc o))

-- where no group has anything the list ends before the first
pub none_there : {X : Type 0} (from n : ℕ) (es : List ℕ) (xs : List X) → IsCutTo from es n → last from es ≡ n → length xs ≤ n → ((o : ℕ) → get_or (groups from es xs) o [] ≡ []) → length xs ≤ from
unfolding groups IsCutTo last
none_there from n [] xs h e l g = omega arith
none_there from n (f ∷ es) xs h e l g =
    let i : length xs ≤ f = none_there f n es xs h.1 e l (λ o. g (suc o)) in
    let s : slice_range xs from f ≡ [] = g 0 in
    let t = ap length s in
    let u = length-range xs from f in
    let k : from ≤ f = h.0 in
    omega arith

pub last_none : (m n : ℕ) → last n (replicate m n) ≡ n
unfolding last
last_none zero n = refl
last_none (suc m) n = last_none m n
