-- A worked example: the graph with one edge from each of two vertices to each, as the right Kan extension of the set of two elements along the vertex.
use Rattle.std.proofs.Common.{◌≡◌, ℕ, zero, suc, ◌<◌, inl, inr, List, [], ◌∷◌, length, get_or, refl, sym, ap, subst, ◌∙◌, arith}
use Rattle.std.specs.Prelude.{map}
use Rattle.std.specs.List.{range_with_len}
use Rattle.std.proofs.lemmas.List.{ext_get_or}
use Rattle.std.proofs.lemmas.List.FromFn.{length-map-range_with_len, get_or-map-range_with_len}
use Rattle.finite_lists.specs.Rising.{NumbersBelow}
use Rattle.topos_model.specs.categories.Category.{dom, cod, into}
use Rattle.topos_model.specs.types.Types.{Presheaf}
use Rattle.topos_model.specs.Laws.{act, size, IsFunctor}
use Rattle.topos_model.specs.presheaves.Maps.{Components, component, apply, IsNatural, after_component, after, ExactlyOne}
use Rattle.topos_model.specs.categories.CategoryFunctors.{restricted, restricted_map}
use Rattle.topos_model.specs.presheaves.KanExtensions.{arrows_between, family_of, IsRan}
use Rattle.topos_model.proofs.ShortLists.{one_component, two_components}
use Rattle.topos_model.proofs.LawTests.{lawful_functor, natural_map}
use Rattle.topos_model.proofs.WorkedKanExtensions.{to_vertex, P, same_elements, R}
use Rattle.topos_model.proofs.SmallCategories.{point, graph}

-- what the example computes with
opened : Unit {0}
unfolding into after restricted restricted_map arrows_between family_of
opened = tt

edges_lawful : IsFunctor graph R
unfolding opened
edges_lawful = lawful_functor graph R refl refl refl refl refl refl

edges_counit : IsNatural point (restricted point to_vertex R) P same_elements
unfolding opened
edges_counit = natural_map point (restricted point to_vertex R) P same_elements refl refl refl refl

-- the edge from a to b
edge_from : ℕ → ℕ → ℕ
edge_from zero b = b
edge_from (suc a) b = suc (suc b)

source_is : (a b : ℕ) → a < 2 → b < 2 → act R 2 (edge_from a b) ≡ a
unfolding edge_from
source_is zero zero h k = refl
source_is zero (suc zero) h k = refl
source_is (suc zero) zero h k = refl
source_is (suc zero) (suc zero) h k = refl
source_is (suc (suc a)) b h k = absurd (omega arith)
source_is a (suc (suc b)) h k = absurd (omega arith)

target_is : (a b : ℕ) → a < 2 → b < 2 → act R 3 (edge_from a b) ≡ b
unfolding edge_from
target_is zero zero h k = refl
target_is zero (suc zero) h k = refl
target_is (suc zero) zero h k = refl
target_is (suc zero) (suc zero) h k = refl
target_is (suc (suc a)) b h k = absurd (omega arith)
target_is a (suc (suc b)) h k = absurd (omega arith)

edge_within : (a b : ℕ) → a < 2 → b < 2 → edge_from a b < 4
unfolding edge_from
edge_within zero b h k = omega arith
edge_within (suc a) b h k = omega arith

edge_is : (y : ℕ) → y < 4 → edge_from (act R 2 y) (act R 3 y) ≡ y
unfolding edge_from
edge_is zero h = refl
edge_is (suc zero) h = refl
edge_is (suc (suc zero)) h = refl
edge_is (suc (suc (suc zero))) h = refl
edge_is (suc (suc (suc (suc y)))) h = absurd (omega arith)

-- values below 2
to_same : (r : List ℕ) → ((x : ℕ) → x < length r → get_or r x 0 < 2) → after_component (0 ∷ 1 ∷ []) r ≡ r
to_same [] below = refl
to_same (zero ∷ r) below = ap (λ (s : List ℕ). 0 ∷ s) (to_same r (λ x h. below (suc x) (omega arith)))
to_same (suc zero ∷ r) below = ap (λ (s : List ℕ). 1 ∷ s) (to_same r (λ x h. below (suc x) (omega arith)))
to_same (suc (suc y) ∷ r) below = absurd (let h : suc (suc y) < 2 = below 0 (omega arith) in omega arith)

edges_rise : (y z : ℕ) → y < z → z < 4 → NumbersBelow (family_of point graph to_vertex R same_elements 1 y) (family_of point graph to_vertex R same_elements 1 z)
unfolding opened
edges_rise y zero h k = absurd (omega arith)
edges_rise zero (suc zero) h k = inr (refl, inl (omega arith))
edges_rise (suc y) (suc zero) h k = absurd (omega arith)
edges_rise zero (suc (suc zero)) h k = inl (omega arith)
edges_rise (suc zero) (suc (suc zero)) h k = inl (omega arith)
edges_rise (suc (suc y)) (suc (suc zero)) h k = absurd (omega arith)
edges_rise zero (suc (suc (suc zero))) h k = inl (omega arith)
edges_rise (suc zero) (suc (suc (suc zero))) h k = inl (omega arith)
edges_rise (suc (suc zero)) (suc (suc (suc zero))) h k = inr (refl, inl (omega arith))
edges_rise (suc (suc (suc y))) (suc (suc (suc zero))) h k = absurd (omega arith)
edges_rise y (suc (suc (suc (suc z)))) h k = absurd (omega arith)

families_rise : (c y z : ℕ) → c < 2 → y < z → z < size R c → NumbersBelow (family_of point graph to_vertex R same_elements c y) (family_of point graph to_vertex R same_elements c z)
unfolding opened
families_rise zero zero (suc zero) h k l = inl (omega arith)
families_rise zero y zero h k l = absurd (omega arith)
families_rise zero (suc y) (suc zero) h k l = absurd (omega arith)
families_rise zero y (suc (suc z)) h k l = absurd (omega arith)
families_rise (suc zero) y z h k l = edges_rise y z k l
families_rise (suc (suc c)) y z h k l = absurd (omega arith)

-- a map from the vertices of a graph to P
module _ (Z : Presheaf) (m : Components) (lawful : IsFunctor graph Z) (natural : IsNatural point (restricted point to_vertex Z) P m) where
  m_total : length (component m 0) ≡ size Z 0
  unfolding opened
  m_total = natural.total 0 (omega arith)

  m_within : (x : ℕ) → x < size Z 0 → apply m 0 x < 2
  unfolding opened
  m_within x h = natural.within 0 x (omega arith) h

  source_within : (z : ℕ) → z < size Z 1 → apply m 0 (act Z 2 z) < 2
  source_within z h = m_within (act Z 2 z) (lawful.within 1 2 z (omega arith, refl) h)

  target_within : (z : ℕ) → z < size Z 1 → apply m 0 (act Z 3 z) < 2
  target_within z h = m_within (act Z 3 z) (lawful.within 1 3 z (omega arith, refl) h)

  between : ℕ → ℕ
  between z = edge_from (apply m 0 (act Z 2 z)) (apply m 0 (act Z 3 z))

  abbrev n : Components
  n = component m 0 ∷ map between (range_with_len 0 (size Z 1)) ∷ []

  n_is : (z : ℕ) → z < size Z 1 → apply n 1 z ≡ edge_from (apply m 0 (act Z 2 z)) (apply m 0 (act Z 3 z))
  unfolding between
  n_is z h = get_or-map-range_with_len between 0 (size Z 1) z z 0 h (omega arith)

  n_total : (c : ℕ) → c < 2 → length (component n c) ≡ size Z c
  n_total zero h = m_total
  n_total (suc zero) h = length-map-range_with_len between 0 (size Z 1)
  n_total (suc (suc c)) h = absurd (omega arith)

  n_within : (c x : ℕ) → c < 2 → x < size Z c → apply n c x < size R c
  n_within zero x h k = m_within x k
  n_within (suc zero) x h k = subst (λ (y : ℕ). y < 4) (sym (n_is x k)) (edge_within _ _ (source_within x k) (target_within x k))
  n_within (suc (suc c)) x h k = absurd (omega arith)

  n_commutes : (f x : ℕ) → f < 4 → x < size Z (cod graph f) → apply n (dom graph f) (act Z f x) ≡ act R f (apply n (cod graph f) x)
  n_commutes zero x h k =
      ap (λ (v : ℕ). apply n 0 v) (lawful.identity 0 x (omega arith) k) ∙ sym (edges_lawful.identity 0 (apply n 0 x) (omega arith) (n_within 0 x (omega arith) k))
  n_commutes (suc zero) x h k =
      ap (λ (v : ℕ). apply n 1 v) (lawful.identity 1 x (omega arith) k) ∙ sym (edges_lawful.identity 1 (apply n 1 x) (omega arith) (n_within 1 x (omega arith) k))
  n_commutes (suc (suc zero)) x h k = sym (ap (λ (y : ℕ). act R 2 y) (n_is x k) ∙ source_is _ _ (source_within x k) (target_within x k))
  n_commutes (suc (suc (suc zero))) x h k = sym (ap (λ (y : ℕ). act R 3 y) (n_is x k) ∙ target_is _ _ (source_within x k) (target_within x k))
  n_commutes (suc (suc (suc (suc f)))) x h k = absurd (omega arith)

  n_natural : IsNatural graph Z R n
  n_natural = record {
    objects = refl;
    total = n_total;
    within = n_within;
    commutes = λ c f x i h.
        subst (λ (v : ℕ). apply n (dom graph f) (act Z f x) ≡ act R f (apply n v x)) i.1
        (n_commutes f x i.0 (subst (λ (v : ℕ). x < size Z v) (sym i.1) h));
  }

  n_after : after same_elements (restricted_map point to_vertex n) ≡ m
  unfolding opened
  n_after =
      ap (λ (r : List ℕ). r ∷ []) (to_same (component m 0) (λ x h. m_within x (subst (λ (v : ℕ). x < v) m_total h)))
      ∙ sym (one_component m natural.objects)

  module _ (v : Components) (nat : IsNatural graph Z R v) (same : after same_elements (restricted_map point to_vertex v) ≡ m) where
    vertices_same : component v 0 ≡ component m 0
    unfolding opened
    vertices_same =
        sym (to_same (component v 0) (λ x h. nat.within 0 x (omega arith) (subst (λ (l : ℕ). x < l) (nat.total 0 (omega arith)) h)))
        ∙ ap (λ (k : Components). component k 0) same

    edge_same : (z : ℕ) → z < size Z 1 → apply v 1 z ≡ apply n 1 z
    edge_same z h =
        sym (edge_is (apply v 1 z) (nat.within 1 z (omega arith) h))
        ∙ ap (λ (a : ℕ). edge_from a (act R 3 (apply v 1 z))) (sym (nat.commutes 1 2 z (omega arith, refl) h) ∙ ap (λ (r : List ℕ). get_or r (act Z 2 z) 0) vertices_same)
        ∙ ap (λ (b : ℕ). edge_from (apply m 0 (act Z 2 z)) b) (sym (nat.commutes 1 3 z (omega arith, refl) h) ∙ ap (λ (r : List ℕ). get_or r (act Z 3 z) 0) vertices_same)
        ∙ sym (n_is z h)

    n_only : v ≡ n
    n_only =
        two_components v nat.objects
        ∙ ap (λ (r : List ℕ). r ∷ component v 1 ∷ []) vertices_same
        ∙ ap (λ (r : List ℕ). component m 0 ∷ r ∷ [])
        (ext_get_or 0 (component v 1) (component n 1) (nat.total 1 (omega arith) ∙ sym (n_total 1 (omega arith)))
        (λ z h. edge_same z (subst (λ (l : ℕ). z < l) (nat.total 1 (omega arith)) h)))

  factors_once : ExactlyOne (λ (v : Components). IsNatural graph Z R v × (after same_elements (restricted_map point to_vertex v) ≡ m))
  factors_once = (n, (n_natural, n_after), λ v p. n_only v p.0 p.1)

edges_ran : IsRan point graph to_vertex P R same_elements
edges_ran = record {
  functor = edges_lawful;
  counit = edges_counit;
  factors = λ Z m lawful natural. factors_once Z m lawful natural;
  order = families_rise;
}

-- without the edge from the second vertex to itself, a loop at that vertex does not factor
abbrev fewer : Presheaf
fewer = record { sizes = 2 ∷ 3 ∷ []; along = (0 ∷ 1 ∷ []) ∷ (0 ∷ 1 ∷ 2 ∷ []) ∷ (0 ∷ 0 ∷ 1 ∷ []) ∷ (0 ∷ 1 ∷ 0 ∷ []) ∷ [] }

abbrev loop : Presheaf
loop = record { sizes = 1 ∷ 1 ∷ []; along = (0 ∷ []) ∷ (0 ∷ []) ∷ (0 ∷ []) ∷ (0 ∷ []) ∷ [] }

loop_lawful : IsFunctor graph loop
unfolding opened
loop_lawful = lawful_functor graph loop refl refl refl refl refl refl

loop_vertex : IsNatural point (restricted point to_vertex loop) P ((1 ∷ []) ∷ [])
unfolding opened
loop_vertex = natural_map point (restricted point to_vertex loop) P ((1 ∷ []) ∷ []) refl refl refl refl

first_vertex : (w : ℕ) → w ≡ 0 → apply same_elements 0 w ≡ 1 → ⊥
first_vertex w e f = let g : 0 ≡ 1 = subst (λ (x : ℕ). apply same_elements 0 x ≡ 1) e f in omega (arith, g)

no_loop : (w y : ℕ) → y < 3 → w ≡ act fewer 2 y → w ≡ act fewer 3 y → apply same_elements 0 w ≡ 1 → ⊥
no_loop w zero h s t e = first_vertex w s e
no_loop w (suc zero) h s t e = first_vertex w s e
no_loop w (suc (suc zero)) h s t e = first_vertex w t e
no_loop w (suc (suc (suc y))) h s t e = omega arith

vertex_value : (r : List ℕ) → length r ≡ 1 → after same_elements (r ∷ []) ≡ (1 ∷ []) ∷ [] → apply same_elements 0 (get_or r 0 0) ≡ 1
unfolding after
vertex_value [] l e = absurd (omega arith)
vertex_value (x ∷ r) l e = ap (λ (k : Components). apply k 0 0) e

ran_too_small : IsRan point graph to_vertex P fewer same_elements → ⊥
unfolding opened
ran_too_small h =
    let v = h.factors loop ((1 ∷ []) ∷ []) loop_lawful loop_vertex in
    let nat = v.1.0 in
    no_loop (apply v.0 0 0) (apply v.0 1 0) (nat.within 1 0 (omega arith) (omega arith))
    (nat.commutes 1 2 0 (omega arith, refl) (omega arith)) (nat.commutes 1 3 0 (omega arith, refl) (omega arith))
    (vertex_value (component v.0 0) (nat.total 0 (omega arith)) v.1.1)
