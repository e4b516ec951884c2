-- A worked example: the vertices a, b, c, d and an edge from a to c; a coequalizer that makes a, b and c one class, and lists that break a part of its property.
use Rattle.std.proofs.Common.{◌≡◌, ℕ, zero, suc, ◌<◌, List, [], ◌∷◌, length, refl, sym, ap, subst, ◌∙◌, arith}
use Rattle.topos_model.specs.categories.Category.{dom, cod, into}
use Rattle.topos_model.specs.types.Types.{Presheaf}
use Rattle.topos_model.specs.Laws.{act, size, IsFunctor}
use Rattle.topos_model.specs.presheaves.Maps.{Components, component, apply, IsNatural, after, ExactlyOne}
use Rattle.topos_model.specs.presheaves.Colimits.{LeastPlacesRise, IsCoequalizer}
use Rattle.topos_model.proofs.ShortLists.{two_components, one_entry, two_entries, four_entries}
use Rattle.topos_model.proofs.LawTests.{lawful_functor, natural_map, least_place, least_places_rise}
use Rattle.topos_model.proofs.SmallCategories.{graph}

-- a map that turns the vertices of an edge round and leaves the edge commutes with no end
turned : IsNatural graph (record { sizes = 2 ∷ 1 ∷ []; along = (0 ∷ 1 ∷ []) ∷ (0 ∷ []) ∷ (0 ∷ []) ∷ (1 ∷ []) ∷ [] }) (record { sizes = 2 ∷ 1 ∷ []; along = (0 ∷ 1 ∷ []) ∷ (0 ∷ []) ∷ (0 ∷ []) ∷ (1 ∷ []) ∷ [] })
    ((1 ∷ 0 ∷ []) ∷ (0 ∷ []) ∷ []) → ⊥
turned h = let e : 1 ≡ 0 = h.commutes 1 2 0 (omega arith, refl) (omega arith) in omega (arith, e)

-- two vertices i and j
abbrev X : Presheaf
X = record { sizes = 2 ∷ 0 ∷ []; along = (0 ∷ 1 ∷ []) ∷ [] ∷ [] ∷ [] ∷ [] }

abbrev Y : Presheaf
Y = record { sizes = 4 ∷ 1 ∷ []; along = (0 ∷ 1 ∷ 2 ∷ 3 ∷ []) ∷ (0 ∷ []) ∷ (0 ∷ []) ∷ (2 ∷ []) ∷ [] }

-- i to a and j to b
abbrev m : Components
m = (0 ∷ 1 ∷ []) ∷ [] ∷ []

-- i to b and j to c
abbrev n : Components
n = (1 ∷ 2 ∷ []) ∷ [] ∷ []

-- the classes {a, b, c} and {d}, and the edge as a loop
abbrev Z : Presheaf
Z = record { sizes = 2 ∷ 1 ∷ []; along = (0 ∷ 1 ∷ []) ∷ (0 ∷ []) ∷ (0 ∷ []) ∷ (0 ∷ []) ∷ [] }

abbrev q : Components
q = (0 ∷ 0 ∷ 0 ∷ 1 ∷ []) ∷ (0 ∷ []) ∷ []

-- what the example computes with
opened : Unit {0}
unfolding into after
opened = tt

classes_lawful : IsFunctor graph Z
unfolding opened
classes_lawful = lawful_functor graph Z refl refl refl refl refl refl

classes_natural : IsNatural graph Y Z q
unfolding opened
classes_natural = natural_map graph Y Z q refl refl refl refl

classes_equal : after q m ≡ after q n
unfolding opened
classes_equal = refl

classes_rise : (c : ℕ) → c < 2 → LeastPlacesRise (size Z c) (component q c)
classes_rise zero h = least_places_rise 2 (0 ∷ 0 ∷ 0 ∷ 1 ∷ []) (0 ∷ 3 ∷ []) refl refl refl refl
classes_rise (suc zero) h = least_places_rise 1 (0 ∷ []) (0 ∷ []) refl refl refl refl
classes_rise (suc (suc c)) h = absurd (omega arith)

-- a natural map from Y that takes a, b and c to one vertex
module _ (F : Presheaf) (l : Components) (lawful : IsFunctor graph F) (natural : IsNatural graph Y F l) (equal : after l m ≡ after l n) where
  in_parts : l ≡ component l 0 ∷ component l 1 ∷ []
  in_parts = two_components l natural.objects

  joined : (x : ℕ) → apply (after (component l 0 ∷ component l 1 ∷ []) m) 0 x ≡ apply (after (component l 0 ∷ component l 1 ∷ []) n) 0 x
  joined x =
      ap (λ (k : Components). apply k 0 x)
      (ap (λ (k : Components). after k m) (sym in_parts) ∙ equal ∙ ap (λ (k : Components). after k n) in_parts)

  a_with_b : apply l 0 0 ≡ apply l 0 1
  unfolding opened
  a_with_b = joined 0

  b_with_c : apply l 0 1 ≡ apply l 0 2
  unfolding opened
  b_with_c = joined 1

  -- the values at the least members
  abbrev u : Components
  u = (apply l 0 0 ∷ apply l 0 3 ∷ []) ∷ (apply l 1 0 ∷ []) ∷ []

  u_total : (c : ℕ) → c < 2 → length (component u c) ≡ size Z c
  u_total zero h = refl
  u_total (suc zero) h = refl
  u_total (suc (suc c)) h = absurd (omega arith)

  u_within : (c x : ℕ) → c < 2 → x < size Z c → apply u c x < size F c
  u_within zero zero h k = natural.within 0 0 (omega arith) (omega arith)
  u_within zero (suc zero) h k = natural.within 0 3 (omega arith) (omega arith)
  u_within zero (suc (suc x)) h k = absurd (omega arith)
  u_within (suc zero) zero h k = natural.within 1 0 (omega arith) (omega arith)
  u_within (suc zero) (suc x) h k = absurd (omega arith)
  u_within (suc (suc c)) x h k = absurd (omega arith)

  u_commutes : (f x : ℕ) → f < 4 → x < size Z (cod graph f) → apply u (dom graph f) (act Z f x) ≡ act F f (apply u (cod graph f) x)
  u_commutes zero zero h k = sym (lawful.identity 0 (apply l 0 0) (omega arith) (natural.within 0 0 (omega arith) (omega arith)))
  u_commutes zero (suc zero) h k = sym (lawful.identity 0 (apply l 0 3) (omega arith) (natural.within 0 3 (omega arith) (omega arith)))
  u_commutes zero (suc (suc x)) h k = absurd (omega arith)
  u_commutes (suc zero) zero h k = sym (lawful.identity 1 (apply l 1 0) (omega arith) (natural.within 1 0 (omega arith) (omega arith)))
  u_commutes (suc zero) (suc x) h k = absurd (omega arith)
  u_commutes (suc (suc zero)) zero h k = natural.commutes 1 2 0 (omega arith, refl) (omega arith)
  u_commutes (suc (suc zero)) (suc x) h k = absurd (omega arith)
  u_commutes (suc (suc (suc zero))) zero h k = a_with_b ∙ b_with_c ∙ natural.commutes 1 3 0 (omega arith, refl) (omega arith)
  u_commutes (suc (suc (suc zero))) (suc x) h k = absurd (omega arith)
  u_commutes (suc (suc (suc (suc f)))) x h k = absurd (omega arith)

  u_natural : IsNatural graph Z F u
  u_natural = record {
    objects = refl;
    total = u_total;
    within = u_within;
    commutes = λ c f x i h.
        subst (λ (v : ℕ). apply u (dom graph f) (act Z f x) ≡ act F f (apply u v x)) i.1
        (u_commutes f x i.0 (subst (λ (v : ℕ). x < size Z v) (sym i.1) h));
  }

  u_after : after u q ≡ l
  unfolding opened
  u_after =
      ap (λ (x : ℕ). (apply l 0 0 ∷ x ∷ apply l 0 0 ∷ apply l 0 3 ∷ []) ∷ (apply l 1 0 ∷ []) ∷ []) a_with_b
      ∙ ap (λ (x : ℕ). (apply l 0 0 ∷ apply l 0 1 ∷ x ∷ apply l 0 3 ∷ []) ∷ (apply l 1 0 ∷ []) ∷ []) (a_with_b ∙ b_with_c)
      ∙ ap (λ (r : List ℕ). r ∷ (apply l 1 0 ∷ []) ∷ []) (sym (four_entries (component l 0) (natural.total 0 (omega arith))))
      ∙ ap (λ (r : List ℕ). component l 0 ∷ r ∷ []) (sym (one_entry (component l 1) (natural.total 1 (omega arith))))
      ∙ sym in_parts

  u_only : (v : Components) → IsNatural graph Z F v → after v q ≡ l → v ≡ u
  unfolding opened
  u_only v nat e =
      let parts : v ≡ component v 0 ∷ component v 1 ∷ [] = two_components v nat.objects in
      let d : after (component v 0 ∷ component v 1 ∷ []) q ≡ l = ap (λ (k : Components). after k q) (sym parts) ∙ e in
      parts
      ∙ ap (λ (r : List ℕ). r ∷ component v 1 ∷ []) (two_entries (component v 0) (nat.total 0 (omega arith)))
      ∙ ap (λ (r : List ℕ). (apply v 0 0 ∷ apply v 0 1 ∷ []) ∷ r ∷ []) (one_entry (component v 1) (nat.total 1 (omega arith)))
      ∙ ap (λ (x : ℕ). (x ∷ apply v 0 1 ∷ []) ∷ (apply v 1 0 ∷ []) ∷ []) (ap (λ (k : Components). apply k 0 0) d)
      ∙ ap (λ (x : ℕ). (apply l 0 0 ∷ x ∷ []) ∷ (apply v 1 0 ∷ []) ∷ []) (ap (λ (k : Components). apply k 0 3) d)
      ∙ ap (λ (x : ℕ). (apply l 0 0 ∷ apply l 0 3 ∷ []) ∷ (x ∷ []) ∷ []) (ap (λ (k : Components). apply k 1 0) d)

  factors_once : ExactlyOne (λ (v : Components). IsNatural graph Z F v × (after v q ≡ l))
  factors_once = (u, (u_natural, u_after), λ v p. u_only v p.0 p.1)

classes_coequalizer : IsCoequalizer graph X Y m n Z q
classes_coequalizer = record {
  functor = classes_lawful;
  quotient = classes_natural;
  equal = classes_equal;
  factors = λ F l lawful natural equal. factors_once F l lawful natural equal;
  order = classes_rise;
}

-- c, which only a second step makes one with a, stays apart
one_step : IsCoequalizer graph X Y m n (record { sizes = 3 ∷ 1 ∷ []; along = (0 ∷ 1 ∷ 2 ∷ []) ∷ (0 ∷ []) ∷ (0 ∷ []) ∷ (1 ∷ []) ∷ [] }) ((0 ∷ 0 ∷ 1 ∷ 2 ∷ []) ∷ (0 ∷ []) ∷ []) → ⊥
unfolding opened
one_step h = let e : 0 ≡ 1 = ap (λ (k : Components). apply k 0 1) h.equal in omega (arith, e)

-- all vertices as one class: the map to the classes does not factor
one_class : IsCoequalizer graph X Y m n (record { sizes = 1 ∷ 1 ∷ []; along = (0 ∷ []) ∷ (0 ∷ []) ∷ (0 ∷ []) ∷ (0 ∷ []) ∷ [] }) ((0 ∷ 0 ∷ 0 ∷ 0 ∷ []) ∷ (0 ∷ []) ∷ []) → ⊥
unfolding opened
one_class h =
    let v = h.factors Z q classes_lawful classes_natural refl in
    let d : after (component v.0 0 ∷ component v.0 1 ∷ []) ((0 ∷ 0 ∷ 0 ∷ 0 ∷ []) ∷ (0 ∷ []) ∷ []) ≡ q =
    ap (λ (k : Components). after k ((0 ∷ 0 ∷ 0 ∷ 0 ∷ []) ∷ (0 ∷ []) ∷ [])) (sym (two_components v.0 v.1.0.objects)) ∙ v.1.1 in
    let a : apply v.0 0 0 ≡ 0 = ap (λ (k : Components). apply k 0 0) d in
    let b : apply v.0 0 0 ≡ 1 = ap (λ (k : Components). apply k 0 3) d in
    omega (arith, a, b)

-- the class of d first
out_of_order : IsCoequalizer graph X Y m n (record { sizes = 2 ∷ 1 ∷ []; along = (0 ∷ 1 ∷ []) ∷ (0 ∷ []) ∷ (1 ∷ []) ∷ (1 ∷ []) ∷ [] }) ((1 ∷ 1 ∷ 1 ∷ 0 ∷ []) ∷ (0 ∷ []) ∷ []) → ⊥
out_of_order h =
    let r = h.order 0 (omega arith) in
    let w : 3 < 0 = r.rise 0 1 3 0 (omega arith) (omega arith) (least_place (1 ∷ 1 ∷ 1 ∷ 0 ∷ []) 0 3 refl refl refl) (least_place (1 ∷ 1 ∷ 1 ∷ 0 ∷ []) 1 0 refl refl refl) in
    omega arith
