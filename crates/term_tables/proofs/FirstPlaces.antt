-- The identity stands first among the arrows into an object, and its places first among the places of a type.
use Rattle.std.proofs.Common.{◌≡◌, ℕ, zero, suc, ◌+◌, ◌<◌, ◌≤◌, Bool, true, false, cond, eqb, List, ◌∷◌, ◌++◌, length, get_or, map, filter, sym, ap, subst, ◌∙◌, arith}
use Rattle.std.specs.List.{flat_map, range_with_len}
use Rattle.std.proofs.lemmas.Bool.{eq-eqb, ne_eqb}
use Rattle.std.proofs.lemmas.List.{length-map, length-append, get_or_append_left}
use Rattle.topos_model.specs.declared.value.Val.{Val, Star}
use Rattle.topos_model.specs.declared.value.Entry.{Entry}
use Rattle.topos_model.specs.categories.Category.{Category, into, cod, dom}
use Rattle.topos_model.specs.topologies.Cover.{Site}
use Rattle.topos_model.specs.Laws.{IsCategory}
use Rattle.topos_model.specs.types.Types.{places}
use Rattle.omega_object.proofs.Precedence.{mapped_at}
use Rattle.type_laws.proofs.Places.{entry}

-- the first number that passes a test
first_kept : (p : ℕ → Bool) (m a n : ℕ) → ((x : ℕ) → a ≤ x → x < a + m → p x ≡ false) → p (a + m) ≡ true → m < n → (rest : List ℕ) × (filter p (range_with_len a n) ≡ (a + m) ∷ rest)
first_kept p m a zero fails passes low = absurd (omega (arith, low))
first_kept p zero a (suc n) fails passes low =
    let z : a + zero ≡ a = omega arith in
    let here : p a ≡ true = ap p (sym z) ∙ passes in
    (filter p (range_with_len (a + 1) n), ap (λ b. cond b (a ∷ filter p (range_with_len (a + 1) n)) (filter p (range_with_len (a + 1) n))) here ∙ ap (λ x. x ∷ filter p (range_with_len (a + 1) n)) (sym z))
first_kept p (suc m) a (suc n) fails passes low =
    let e : a + suc m ≡ a + 1 + m = omega arith in
    let here : p a ≡ false = fails a (omega arith) (omega arith) in
    let (rest, is) = first_kept p m (a + 1) n (λ x l h. fails x (omega (arith, l)) (omega (arith, h))) (ap p (sym e) ∙ passes) (omega (arith, low)) in
    (rest, ap (λ b. cond b (a ∷ filter p (range_with_len (a + 1) n)) (filter p (range_with_len (a + 1) n))) here ∙ is ∙ ap (λ x. x ∷ rest) (sym e))

pub identity_first : (k : Category) (c : ℕ) → IsCategory k → c < k.objects → (rest : List ℕ) × (into k c ≡ c ∷ rest)
unfolding into
identity_first k c laws low =
    let id = laws.identity c low in
    let z : 0 + c ≡ c = omega arith in
    let (rest, is) =
    first_kept (λ f. eqb (cod k f) c) c 0 (length k.ends)
    (λ x l h. let h' : x < c = omega (arith, h) in let e = (laws.identity x (omega (arith, h', low))).0.1 in ne_eqb (cod k x) c (λ same. let s : x ≡ c = sym e ∙ same in omega (arith, s, h')))
    (ap (λ f. eqb (cod k f) c) z ∙ eq-eqb (cod k c) c id.0.1) id.0.0 in
    (rest, is ∙ ap (λ x. x ∷ rest) z)

module _ (s : Site) (values : ℕ → List Val) (c : ℕ) (laws : IsCategory s.category) (low : c < s.category.objects) where
  abbrev at_arrow : ℕ → List Entry
  at_arrow f = map (λ w. record { arrow = f; val = w }) (values (dom s.category f))

  places_split : (rest : List ℕ) → into s.category c ≡ c ∷ rest → places s values c ≡ at_arrow c ++ flat_map at_arrow rest
  unfolding places
  places_split rest e = ap (flat_map at_arrow) e

  first_long : length (at_arrow c) ≡ length (values c)
  first_long = length-map (values (dom s.category c)) _ ∙ ap (λ d. length (values d)) (laws.identity c low).1

  pub few_first : length (values c) ≤ length (places s values c)
  few_first =
      let (rest, e) = identity_first s.category c laws low in
      omega (arith, ap length (places_split rest e), length-append (at_arrow c) (flat_map at_arrow rest), first_long)

  pub place_first : (j : ℕ) (d : Entry) → j < length (values c) → get_or (places s values c) j d ≡ entry c (get_or (values c) j Star)
  place_first j d inside =
      let (rest, e) = identity_first s.category c laws low in
      let o = (laws.identity c low).1 in
      ap (λ l. get_or l j d) (places_split rest e) ∙ get_or_append_left (at_arrow c) (flat_map at_arrow rest) d j (omega (arith, inside, first_long))
      ∙ mapped_at (λ w. entry c w) (values (dom s.category c)) j Star d (subst (λ o. j < length (values o)) (sym o) inside) ∙ ap (λ o. entry c (get_or (values o) j Star)) o
