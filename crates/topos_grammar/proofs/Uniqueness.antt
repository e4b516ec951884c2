-- Reading gives one thing, and looks at no token behind the one at which it stops.
use Rattle.std.proofs.Common.{◌≡◌, ◌⊎◌, inl, inr, Bool, true, false, List, [], ◌∷◌, ◌++◌, length, refl, sym, ap, subst, ◌∙◌, arith, append_assoc, length-append, ℕ}
use Rattle.std.proofs.lemmas.List.{append_cancel_right}
use Rattle.topos_text.specs.Tokens.{Token, Written, Name, Place}
use Rattle.topos_grammar.specs.Kinds.{Sort, Tree, Kind}
use Rattle.topos_grammar.specs.Codes.{Class, This, AnyName, Either, Is, Code, give, eat, name, call, peek, loop, code, place, AnyPlace, Numbered, Any, numbered}
use Rattle.topos_grammar.specs.Reading.{Read, Whole, Stops, Reading, gives, eats, eats_not, names, names_not, calls, calls_not, peeks, peeks_not, loops, loops_not, loops_end, places, places_not, numbers, numbers_not}
use Rattle.topos_grammar.proofs.Meaning.{meaning}

-- how the code was read
abbrev Inverts : {s : Sort} → Code s → List Token → Read s → Type 0
Inverts (give v) toks r = r ≡ Whole v toks
Inverts {s} (eat u k) toks r = ((ts : List Token) × (toks ≡ u ∷ ts) × Reading s k ts r) ⊎ ((Is (This u) toks → ⊥) × (r ≡ Stops toks))
Inverts {s} (name k) toks r = ((x : Written) × (ts : List Token) × (toks ≡ Name x ∷ ts) × Reading s (k x) ts r) ⊎ ((Is AnyName toks → ⊥) × (r ≡ Stops toks))
Inverts {s} (place k) toks r = ((n : ℕ) × (x : Written) × (ts : List Token) × (toks ≡ Place n x ∷ ts) × Reading s (k n x) ts r) ⊎ ((Is AnyPlace toks → ⊥) × (r ≡ Stops toks))
Inverts {s} (numbered n k) toks r = ((x : Written) × (ts : List Token) × (toks ≡ Place n x ∷ ts) × Reading s (k x) ts r) ⊎ ((Is (Numbered n) toks → ⊥) × (r ≡ Stops toks))
Inverts {s} (call {u = u} K k) toks r = ((v : Tree u) × (rest : List Token) × Reading u (code K) toks (Whole v rest) × Reading s (k v) rest r) ⊎ ((rest : List Token) × Reading u (code K) toks (Stops rest) × (r ≡ Stops rest))
Inverts {s} (peek C a b) toks r = (Is C toks × Reading s a toks r) ⊎ ((Is C toks → ⊥) × Reading s b toks r)
Inverts {s} (loop {u = u} C item k) toks r =
    ((v : Tree u) × (rest : List Token) × Is C toks × Reading u item toks (Whole v rest) × Reading s (loop C item (λ vs. k (v ∷ vs))) rest r)
    ⊎ (((rest : List Token) × Is C toks × Reading u item toks (Stops rest) × (r ≡ Stops rest)) ⊎ ((Is C toks → ⊥) × Reading s (k []) toks r))

inverts : {s : Sort} {c : Code s} {toks : List Token} {r : Read s} → Reading s c toks r → Inverts c toks r
inverts gives = refl
inverts (eats {toks = toks} d) = inl (toks, refl, d)
inverts (eats_not other) = inr (other, refl)
inverts (names {x = x} {toks = toks} d) = inl (x, toks, refl, d)
inverts (names_not other) = inr (other, refl)
inverts (places {n = n} {x = x} {toks = toks} d) = inl (n, x, toks, refl, d)
inverts (places_not other) = inr (other, refl)
inverts (numbers {x = x} {toks = toks} d) = inl (x, toks, refl, d)
inverts (numbers_not other) = inr (other, refl)
inverts (calls {v = v} {rest = rest} d e) = inl (v, rest, d, e)
inverts (calls_not {rest = rest} d) = inr (rest, d, refl)
inverts (peeks is d) = inl (is, d)
inverts (peeks_not other d) = inr (other, d)
inverts (loops {v = v} {rest = rest} is d e) = inl (v, rest, is, d, e)
inverts (loops_not {rest = rest} is d) = inr (inl (rest, is, d, refl))
inverts (loops_end other d) = inr (inr (other, d))

tree_of : {s : Sort} → Read s → Tree s → Tree s
tree_of (Whole v rest) d = v
tree_of (Stops rest) d = d

rest_of : {s : Sort} → Read s → List Token
rest_of (Whole v rest) = rest
rest_of (Stops rest) = rest

is_whole : {s : Sort} → Read s → Bool
is_whole (Whole v rest) = true
is_whole (Stops rest) = false

same_tree : {s : Sort} (v t : Tree s) (x y : List Token) → Whole v x ≡ Whole t y → v ≡ t
unfolding tree_of
same_tree v t x y e = ap (λ r. tree_of r v) e

same_rest : {s : Sort} (v t : Tree s) (x y : List Token) → Whole v x ≡ Whole t y → x ≡ y
unfolding rest_of
same_rest v t x y e = ap rest_of e

same_stop : (s : Sort) (x y : List Token) → Stops {s = s} x ≡ Stops y → x ≡ y
unfolding rest_of
same_stop s x y e = ap rest_of e

pub whole_not_stop : {s : Sort} (v : Tree s) (x y : List Token) → Whole v x ≡ Stops y → ⊥
unfolding is_whole
whole_not_stop v x y e = let bad : true ≡ false = ap is_whole e in absurd cc

tail_same : (t u : Token) (x y : List Token) → t ∷ x ≡ u ∷ y → x ≡ y
tail_same t u x y e = cc

head_same : (t u : Token) (x y : List Token) → t ∷ x ≡ u ∷ y → t ≡ u
head_same t u x y e = cc

name_same : (x y : Written) (ts us : List Token) → Name x ∷ ts ≡ Name y ∷ us → x ≡ y
name_same x y ts us e = cc

place_same : (n m : ℕ) (x y : Written) (ts us : List Token) → Place n x ∷ ts ≡ Place m y ∷ us → (n ≡ m) × (x ≡ y)
place_same n m x y ts us e = (cc, cc)

-- reading gives one thing
pub unique : {s : Sort} {c : Code s} {toks : List Token} {r : Read s} → Reading s c toks r → (q : Read s) → Reading s c toks q → r ≡ q
unique gives q e = sym (inverts e)
unique {s} (eats {u = u} {k = k} {toks = toks} d) q e = elim (inverts e) [
  | inl (ts, is, f) ↦ unique d q (subst (λ z. Reading s k z q) (sym (tail_same u u toks ts is)) f)
  | inr (other, is) ↦ absurd (other (toks, refl))
]
unique (eats_not other) q e = elim (inverts e) [
  | inl (ts, is, f) ↦ absurd (other (ts, is))
  | inr (no_more, is) ↦ sym is
]
unique {s} (names {x = x} {k = k} {toks = toks} d) q e = elim (inverts e) [
  | inl (y, ts, is, f) ↦ unique d q (subst (λ z. Reading s (k z) toks q) (sym (name_same x y toks ts is)) (subst (λ z. Reading s (k y) z q) (sym (tail_same (Name x) (Name y) toks ts is)) f))
  | inr (other, is) ↦ absurd (other (x, toks, refl))
]
unique (names_not other) q e = elim (inverts e) [
  | inl (y, ts, is, f) ↦ absurd (other (y, ts, is))
  | inr (no_more, is) ↦ sym is
]
unique {s} (places {n = n} {x = x} {k = k} {toks = toks} d) q e = elim (inverts e) [
  | inl (m, y, ts, is, f) ↦ (let w = place_same n m x y toks ts is in
      unique d q (subst (λ z. Reading s (k z x) toks q) (sym w.0) (subst (λ z. Reading s (k m z) toks q) (sym w.1) (subst (λ z. Reading s (k m y) z q) (sym (tail_same (Place n x) (Place m y) toks ts is)) f))))
  | inr (other, is) ↦ absurd (other (n, x, toks, refl))
]
unique (places_not other) q e = elim (inverts e) [
  | inl (m, y, ts, is, f) ↦ absurd (other (m, y, ts, is))
  | inr (no_more, is) ↦ sym is
]
unique {s} (numbers {n = n} {x = x} {k = k} {toks = toks} d) q e = elim (inverts e) [
  | inl (y, ts, is, f) ↦ (let w = place_same n n x y toks ts is in unique d q (subst (λ z. Reading s (k z) toks q) (sym w.1) (subst (λ z. Reading s (k y) z q) (sym (tail_same (Place n x) (Place n y) toks ts is)) f)))
  | inr (other, is) ↦ absurd (other (x, toks, refl))
]
unique (numbers_not other) q e = elim (inverts e) [
  | inl (y, ts, is, f) ↦ absurd (other (y, ts, is))
  | inr (no_more, is) ↦ sym is
]
unique {s} (calls {K = K} {k = k} {v = v} {toks = toks} {rest = rest} d f) q e = elim (inverts e) [
  | inl (t, mid, g, h) ↦ (let w = unique d (Whole t mid) g in unique f q (subst (λ z. Reading s (k z) rest q) (sym (same_tree v t rest mid w)) (subst (λ z. Reading s (k t) z q) (sym (same_rest v t rest mid w)) h)))
  | inr (mid, g, is) ↦ absurd (whole_not_stop v rest mid (unique d (Stops mid) g))
]
unique {s} (calls_not {u = w} {rest = rest} d) q e = elim (inverts e) [
  | inl (t, mid, g, h) ↦ absurd (whole_not_stop t mid rest (sym (unique d (Whole t mid) g)))
  | inr (mid, g, is) ↦ ap (λ z. Stops {s = s} z) (same_stop w rest mid (unique d (Stops mid) g)) ∙ sym is
]
unique (peeks is d) q e = elim (inverts e) [
  | inl (is_too, f) ↦ unique d q f
  | inr (other, f) ↦ absurd (other is)
]
unique (peeks_not other d) q e = elim (inverts e) [
  | inl (is, f) ↦ absurd (other is)
  | inr (no_more, f) ↦ unique d q f
]
unique {s} (loops {C = C} {item = item} {k = k} {v = v} {rest = rest} is d f) q e = elim (inverts e) [
  | inl (t, mid, is_too, g, h) ↦ (let w = unique d (Whole t mid) g in unique f q (subst (λ z. Reading s (loop C item (λ vs. k (z ∷ vs))) rest q) (sym (same_tree v t rest mid w)) (subst (λ z. Reading s (loop C item (λ vs. k (t ∷ vs))) z q) (sym (same_rest v t rest mid w)) h)))
  | inr (inl (mid, is_too, g, is_stop)) ↦ absurd (whole_not_stop v rest mid (unique d (Stops mid) g))
  | inr (inr (other, g)) ↦ absurd (other is)
]
unique {s} (loops_not {u = w} {rest = rest} is d) q e = elim (inverts e) [
  | inl (t, mid, is_too, g, h) ↦ absurd (whole_not_stop t mid rest (sym (unique d (Whole t mid) g)))
  | inr (inl (mid, is_too, g, is_stop)) ↦ ap (λ z. Stops {s = s} z) (same_stop w rest mid (unique d (Stops mid) g)) ∙ sym is_stop
  | inr (inr (other, g)) ↦ absurd (other is)
]
unique (loops_end other d) q e = elim (inverts e) [
  | inl (t, mid, is, g, h) ↦ absurd (other is)
  | inr (inl (mid, is, g, is_stop)) ↦ absurd (other is)
  | inr (inr (no_more, g)) ↦ unique d q g
]

-- ---- what stands behind a token does not matter until the token is passed

-- The same is read where behind the token u there stands q in place of r.
abbrev Again : {s : Sort} → Token → List Token → List Token → Code s → List Token → Read s → Type 0
Again {s} u r q c b (Whole v rest) = (d : List Token) → rest ≡ d ++ u ∷ r → Reading s c (b ++ u ∷ q) (Whole v (d ++ u ∷ q))
Again {s} u r q c b (Stops rest) = rest ≡ u ∷ r → Reading s c (b ++ u ∷ q) (Stops (u ∷ q))

same_class : (C : Class) (u : Token) (r q b : List Token) → Is C (b ++ u ∷ r) → Is C (b ++ u ∷ q)
same_class (This t) u r q [] (ts, e) = (q, ap (λ z. z ∷ q) (head_same u t r ts e))
same_class (This t) u r q (w ∷ b) (ts, e) = (b ++ u ∷ q, ap (λ z. z ∷ b ++ u ∷ q) (head_same w t (b ++ u ∷ r) ts e))
same_class AnyName u r q [] (x, ts, e) = (x, q, ap (λ z. z ∷ q) (head_same u (Name x) r ts e))
same_class AnyName u r q (w ∷ b) (x, ts, e) = (x, b ++ u ∷ q, ap (λ z. z ∷ b ++ u ∷ q) (head_same w (Name x) (b ++ u ∷ r) ts e))
same_class AnyPlace u r q [] (n, x, ts, e) = (n, x, q, ap (λ z. z ∷ q) (head_same u (Place n x) r ts e))
same_class AnyPlace u r q (w ∷ b) (n, x, ts, e) = (n, x, b ++ u ∷ q, ap (λ z. z ∷ b ++ u ∷ q) (head_same w (Place n x) (b ++ u ∷ r) ts e))
same_class (Numbered n) u r q [] (x, ts, e) = (x, q, ap (λ z. z ∷ q) (head_same u (Place n x) r ts e))
same_class (Numbered n) u r q (w ∷ b) (x, ts, e) = (x, b ++ u ∷ q, ap (λ z. z ∷ b ++ u ∷ q) (head_same w (Place n x) (b ++ u ∷ r) ts e))
same_class Any u r q [] (t, ts, e) = (u, q, refl)
same_class Any u r q (w ∷ b) (t, ts, e) = (w, b ++ u ∷ q, refl)
same_class (Either C D) u r q b (inl is) = inl (same_class C u r q b is)
same_class (Either C D) u r q b (inr is) = inr (same_class D u r q b is)

no_room : (u : Token) (r front rest d : List Token) → r ≡ front ++ rest → rest ≡ d ++ u ∷ r → ⊥
no_room u r front rest d e f = omega (arith, ap length e, ap length f, length-append front rest, length-append d (u ∷ r))

no_front : (u : Token) (r b : List Token) → b ++ u ∷ r ≡ u ∷ r → b ≡ []
no_front u r [] e = refl
no_front u r (t ∷ b) e = absurd (omega (arith, ap length e, length-append b (u ∷ r)))

again_eat : {s : Sort} (u : Token) (r q : List Token) (w : Token) (k : Code s) (b : List Token) (x : Read s) → Again u r q k b x → Again u r q (eat w k) (w ∷ b) x
again_eat u r q w k b (Whole v rest) h = λ d e. eats (h d e)
again_eat u r q w k b (Stops rest) h = λ e. eats (h e)

again_name : {s : Sort} (u : Token) (r q : List Token) (x : Written) (k : Written → Code s) (b : List Token) (z : Read s) → Again u r q (k x) b z → Again u r q (name k) (Name x ∷ b) z
again_name u r q x k b (Whole v rest) h = λ d e. names (h d e)
again_name u r q x k b (Stops rest) h = λ e. names (h e)

again_place : {s : Sort} (u : Token) (r q : List Token) (n : ℕ) (x : Written) (k : ℕ → Written → Code s) (b : List Token) (z : Read s) → Again u r q (k n x) b z → Again u r q (place k) (Place n x ∷ b) z
again_place u r q n x k b (Whole v rest) h = λ d e. places (h d e)
again_place u r q n x k b (Stops rest) h = λ e. places (h e)

again_number : {s : Sort} (u : Token) (r q : List Token) (n : ℕ) (x : Written) (k : Written → Code s) (b : List Token) (z : Read s) → Again u r q (k x) b z → Again u r q (numbered n k) (Place n x ∷ b) z
again_number u r q n x k b (Whole v rest) h = λ d e. numbers (h d e)
again_number u r q n x k b (Stops rest) h = λ e. numbers (h e)

-- a token that was passed
passed : {s : Sort} (u : Token) (r q : List Token) (c : Code s) (b : List Token) (k : Code s) (toks : List Token) (x : Read s) → toks ≡ r → Reading s k toks x → Again u r q c b x
passed u r q c b k toks (Whole v rest) e d = λ f is. (let m = meaning d in absurd (no_room u r m.front rest f (sym e ∙ m.parts) is))
passed u r q c b k toks (Stops rest) e d = λ is. (let m = meaning d in absurd (no_room u r m.front rest [] (sym e ∙ m.parts) is))

again_head : {s : Sort} (u : Token) (r q : List Token) (c : Code s) (b : List Token) (t w : Token) (x : Read s) → t ≡ w → Again u r q c (w ∷ b) x → Again u r q c (t ∷ b) x
again_head u r q c b t w x e h = subst (λ z. Again u r q c (z ∷ b) x) (sym e) h

again_call : {s o : Sort} (u : Token) (r q : List Token) (K : Kind o) (k : Tree o → Code s) (v : Tree o) (b toks mid : List Token) (x : Read s) → Reading s (k v) mid x → Again u r q (code K) b (Whole v mid)
    → ((d : List Token) → mid ≡ d ++ u ∷ r → Again u r q (k v) d x) → Again u r q (call K k) b x
again_call u r q K k v b toks mid (Whole t rest) e h g = λ d is.
    let m = meaning e in
    let at : mid ≡ (m.front ++ d) ++ u ∷ r = m.parts ∙ ap (λ z. m.front ++ z) is ∙ sym (append_assoc m.front d (u ∷ r)) in
    calls (h (m.front ++ d) at) (g (m.front ++ d) at d is)
again_call u r q K k v b toks mid (Stops rest) e h g = λ is.
    let m = meaning e in
    let at : mid ≡ m.front ++ u ∷ r = m.parts ∙ ap (λ z. m.front ++ z) is in
    calls (h m.front at) (g m.front at is)

again_loop : {s o : Sort} (u : Token) (r q : List Token) (C : Class) (item : Code o) (k : List (Tree o) → Code s) (v : Tree o) (b mid : List Token) (x : Read s) → Is C (b ++ u ∷ q) → Reading s (loop C item (λ vs. k (v ∷ vs))) mid x → Again u r q item b (Whole v mid)
    → ((d : List Token) → mid ≡ d ++ u ∷ r → Again u r q (loop C item (λ vs. k (v ∷ vs))) d x) → Again u r q (loop C item k) b x
again_loop u r q C item k v b mid (Whole t rest) in_class e h g = λ d is.
    let m = meaning e in
    let at : mid ≡ (m.front ++ d) ++ u ∷ r = m.parts ∙ ap (λ z. m.front ++ z) is ∙ sym (append_assoc m.front d (u ∷ r)) in
    loops in_class (h (m.front ++ d) at) (g (m.front ++ d) at d is)
again_loop u r q C item k v b mid (Stops rest) in_class e h g = λ is.
    let m = meaning e in
    let at : mid ≡ m.front ++ u ∷ r = m.parts ∙ ap (λ z. m.front ++ z) is in
    loops in_class (h m.front at) (g m.front at is)

again_peek : {s : Sort} (u : Token) (r q : List Token) (C : Class) (a c : Code s) (b : List Token) (x : Read s) → Is C (b ++ u ∷ q) → Again u r q a b x → Again u r q (peek C a c) b x
again_peek u r q C a c b (Whole v rest) is h = λ d e. peeks is (h d e)
again_peek u r q C a c b (Stops rest) is h = λ e. peeks is (h e)

again_other : {s : Sort} (u : Token) (r q : List Token) (C : Class) (a c : Code s) (b : List Token) (x : Read s) → (Is C (b ++ u ∷ q) → ⊥) → Again u r q c b x → Again u r q (peek C a c) b x
again_other u r q C a c b (Whole v rest) other h = λ d e. peeks_not other (h d e)
again_other u r q C a c b (Stops rest) other h = λ e. peeks_not other (h e)

again_end : {s o : Sort} (u : Token) (r q : List Token) (C : Class) (item : Code o) (k : List (Tree o) → Code s) (b : List Token) (x : Read s) → (Is C (b ++ u ∷ q) → ⊥) → Again u r q (k []) b x → Again u r q (loop C item k) b x
again_end u r q C item k b (Whole v rest) other h = λ d e. loops_end other (h d e)
again_end u r q C item k b (Stops rest) other h = λ e. loops_end other (h e)

pub again : {s : Sort} {c : Code s} {toks : List Token} {x : Read s} (u : Token) (r q b : List Token) → Reading s c toks x → toks ≡ b ++ u ∷ r → Again u r q c b x
again {s} u r q b (gives {v = v} {toks = toks}) e = λ d is. subst (λ z. Reading s (give v) (b ++ u ∷ q) (Whole v (z ++ u ∷ q))) (append_cancel_right b d (u ∷ r) (sym e ∙ is)) gives
again u r q [] (eats {u = w} {k = k} {toks = toks} {r = x} d) e = passed u r q (eat w k) [] k toks x (tail_same w u toks r e) d
again u r q (t ∷ b) (eats {u = w} {k = k} {toks = toks} {r = x} d) e =
    again_head u r q (eat w k) b t w x (sym (head_same w t toks (b ++ u ∷ r) e)) (again_eat u r q w k b x (again u r q b d (tail_same w t toks (b ++ u ∷ r) e)))
again {s} u r q b (eats_not {u = w} {k = k} {toks = toks} other) e = λ is.
    subst (λ z. Reading s (eat w k) (z ++ u ∷ q) (Stops (u ∷ q))) (sym (no_front u r b (sym e ∙ is))) (eats_not (λ h. other (subst (λ z. Is (This w) z) (sym is) (same_class (This w) u q r [] h))))
again u r q [] (names {x = y} {k = k} {toks = toks} {r = x} d) e = passed u r q (name k) [] (k y) toks x (tail_same (Name y) u toks r e) d
again u r q (t ∷ b) (names {x = y} {k = k} {toks = toks} {r = x} d) e =
    again_head u r q (name k) b t (Name y) x (sym (head_same (Name y) t toks (b ++ u ∷ r) e)) (again_name u r q y k b x (again u r q b d (tail_same (Name y) t toks (b ++ u ∷ r) e)))
again {s} u r q b (names_not {k = k} {toks = toks} other) e = λ is.
    subst (λ z. Reading s (name k) (z ++ u ∷ q) (Stops (u ∷ q))) (sym (no_front u r b (sym e ∙ is))) (names_not (λ h. other (subst (λ z. Is AnyName z) (sym is) (same_class AnyName u q r [] h))))
again u r q [] (places {n = i} {x = y} {k = k} {toks = toks} {r = x} d) e = passed u r q (place k) [] (k i y) toks x (tail_same (Place i y) u toks r e) d
again u r q (t ∷ b) (places {n = i} {x = y} {k = k} {toks = toks} {r = x} d) e =
    again_head u r q (place k) b t (Place i y) x (sym (head_same (Place i y) t toks (b ++ u ∷ r) e)) (again_place u r q i y k b x (again u r q b d (tail_same (Place i y) t toks (b ++ u ∷ r) e)))
again {s} u r q b (places_not {k = k} {toks = toks} other) e = λ is.
    subst (λ z. Reading s (place k) (z ++ u ∷ q) (Stops (u ∷ q))) (sym (no_front u r b (sym e ∙ is))) (places_not (λ h. other (subst (λ z. Is AnyPlace z) (sym is) (same_class AnyPlace u q r [] h))))
again u r q [] (numbers {n = i} {x = y} {k = k} {toks = toks} {r = x} d) e = passed u r q (numbered i k) [] (k y) toks x (tail_same (Place i y) u toks r e) d
again u r q (t ∷ b) (numbers {n = i} {x = y} {k = k} {toks = toks} {r = x} d) e =
    again_head u r q (numbered i k) b t (Place i y) x (sym (head_same (Place i y) t toks (b ++ u ∷ r) e)) (again_number u r q i y k b x (again u r q b d (tail_same (Place i y) t toks (b ++ u ∷ r) e)))
again {s} u r q b (numbers_not {n = i} {k = k} {toks = toks} other) e = λ is.
    subst (λ z. Reading s (numbered i k) (z ++ u ∷ q) (Stops (u ∷ q))) (sym (no_front u r b (sym e ∙ is))) (numbers_not (λ h. other (subst (λ z. Is (Numbered i) z) (sym is) (same_class (Numbered i) u q r [] h))))
again u r q b (calls {K = K} {k = k} {v = v} {toks = toks} {rest = mid} {r = x} d f) e = again_call u r q K k v b toks mid x f (again u r q b d e) (λ p at. again u r q p f at)
again u r q b (calls_not d) e = λ is. calls_not (again u r q b d e is)
again u r q b (peeks {C = C} {a = a} {b = c} {r = x} is d) e = again_peek u r q C a c b x (same_class C u r q b (subst (λ z. Is C z) e is)) (again u r q b d e)
again u r q b (peeks_not {C = C} {a = a} {b = c} {r = x} other d) e = again_other u r q C a c b x (λ h. other (subst (λ z. Is C z) (sym e) (same_class C u q r b h))) (again u r q b d e)
again u r q b (loops {C = C} {item = item} {k = k} {v = v} {rest = mid} {r = x} is d f) e = again_loop u r q C item k v b mid x (same_class C u r q b (subst (λ z. Is C z) e is)) f (again u r q b d e) (λ p at. again u r q p f at)
again u r q b (loops_not {C = C} is d) e = λ at. loops_not (same_class C u r q b (subst (λ z. Is C z) e is)) (again u r q b d e at)
again u r q b (loops_end {C = C} {item = item} {k = k} {r = x} other d) e = again_end u r q C item k b x (λ h. other (subst (λ z. Is C z) (sym e) (same_class C u q r b h))) (again u r q b d e)
