-- Lists of truth values: equality, places, and the closed lists as a filter.
use Rattle.std.proofs.Common.{◌≡◌, ℕ, zero, suc, ◌+◌, ◌-◌, ◌<◌, ◌≤◌, Bool, true, false, cond, ◌&&◌, List, [], ◌∷◌, ◌++◌, length, get_or, take, map, replicate, filter, refl, sym, ap, ◌∙◌, arith, rules, append_assoc}
use Rattle.std.proofs.lemmas.Bool.{false≢true, and_parts, and_from}
use Rattle.std.proofs.lemmas.List.{append-nil, map-append, same_lists, get_or_default}
use Rattle.std.proofs.lemmas.List.Elements.{filter-append}
use Rattle.closed_sets.specs.Closed.{IsBelow, bits, same_bit, same_bits, is_closed, closed_lists}
use Rattle.closed_sets.specs.Later.{closed_from}

same_bit_is : (x y : Bool) → same_bit x y ≡ true → x ≡ y
same_bit_is true y h = sym h
same_bit_is false true h = absurd (false≢true h)
same_bit_is false false h = refl

same_bit_self : (x : Bool) → same_bit x x ≡ true
same_bit_self true = refl
same_bit_self false = refl

pub same_bits_is : (a b : List Bool) → same_bits a b ≡ true → a ≡ b
unfolding same_bits
same_bits_is [] [] h = refl
same_bits_is [] (y ∷ b) h = absurd (false≢true h)
same_bits_is (x ∷ a) [] h = absurd (false≢true h)
same_bits_is (x ∷ a) (y ∷ b) h =
    let e = and_parts (same_bit x y) (same_bits a b) h in
    let s : x ≡ y = same_bit_is x y e.0 in
    let t : a ≡ b = same_bits_is a b e.1 in
    cc

pub same_bits_self : (a : List Bool) → same_bits a a ≡ true
unfolding same_bits
same_bits_self [] = refl
same_bits_self (x ∷ a) = and_from (same_bit x x) (same_bits a a) (same_bit_self x) (same_bits_self a)

pub closed_is : (closure : List Bool → List Bool) (a : List Bool) → is_closed closure a ≡ true → closure a ≡ a
unfolding is_closed
closed_is closure a h = same_bits_is (closure a) a h

pub is_closed_from : (closure : List Bool → List Bool) (a : List Bool) → closure a ≡ a → is_closed closure a ≡ true
unfolding is_closed
is_closed_from closure a e = let P : List Bool → Type 0 = λ c. same_bits c a ≡ true in Rattle.std.proofs.Common.subst P (sym e) (same_bits_self a)

pub same_value : (x y : Bool) → (x ≡ true → y ≡ true) → (y ≡ true → x ≡ true) → x ≡ y
same_value true y f g = sym (f refl)
same_value false true f g = absurd (false≢true (g refl))
same_value false false f g = refl

-- two lists with the same places are one
pub same_places : (a b : List Bool) → length a ≡ length b → IsBelow a b → IsBelow b a → a ≡ b
same_places a b l ab ba =
    same_lists a b l (λ k d h.
    let h' : k < length b = omega arith in
    get_or_default a k d false h ∙ same_value (get_or a k false) (get_or b k false) (ab k) (ba k) ∙ get_or_default b k false d h')

onto_more : (p : List Bool) (x : Bool) (rs : List (List Bool)) → map (λ r. p ++ r) (map (λ r. x ∷ r) rs) ≡ map (λ r. (p ++ x ∷ []) ++ r) rs
onto_more p x [] = refl
onto_more p x (r ∷ rs) =
    let e : (p ++ x ∷ []) ++ r ≡ p ++ (x ∷ r) = append_assoc p (x ∷ []) r in
    let f = onto_more p x rs in
    cc

-- the recursion gives the closed ones of all lists that begin with p
pub closed_from_is : (closure : List Bool → List Bool) (m : ℕ) (p : List Bool) → closed_from closure p m ≡ filter (is_closed closure) (map (λ r. p ++ r) (bits m))
unfolding closed_from bits
closed_from_is closure zero p = rw append-nil refl
closed_from_is closure (suc m) p =
    let P : List Bool → List (List Bool) = λ q. filter (is_closed closure) (map (λ r. q ++ r) (bits m)) in
    let e : closed_from closure (p ++ false ∷ []) m ≡ P (p ++ false ∷ []) = closed_from_is closure m (p ++ false ∷ []) in
    let f : closed_from closure (p ++ true ∷ []) m ≡ P (p ++ true ∷ []) = closed_from_is closure m (p ++ true ∷ []) in
    let g = onto_more p false (bits m) in
    let h = onto_more p true (bits m) in
    let i = map-append (λ r. p ++ r) (map (λ r. false ∷ r) (bits m)) (map (λ r. true ∷ r) (bits m)) in
    let j = filter-append (is_closed closure) (map (λ r. p ++ r) (map (λ r. false ∷ r) (bits m))) (map (λ r. p ++ r) (map (λ r. true ∷ r) (bits m))) in
    ap (λ x. x ++ closed_from closure (p ++ true ∷ []) m) (e ∙ sym (ap (filter (is_closed closure)) g))
    ∙ ap (λ x. filter (is_closed closure) (map (λ r. p ++ r) (map (λ r. false ∷ r) (bits m))) ++ x) (f ∙ sym (ap (filter (is_closed closure)) h))
    ∙ sym j ∙ sym (ap (filter (is_closed closure)) i)

nothing_more : (rs : List (List Bool)) → map (λ r. let e : List Bool = [] in e ++ r) rs ≡ rs
nothing_more [] = refl
nothing_more (r ∷ rs) = ap (λ x. r ∷ x) (nothing_more rs)

pub closed_lists_are : (n : ℕ) (closure : List Bool → List Bool) → closed_lists n closure ≡ closed_from closure [] n
unfolding closed_lists
closed_lists_are n closure = sym (closed_from_is closure n [] ∙ ap (filter (is_closed closure)) (nothing_more (bits n)))
