-- Worked examples, by computation: functors of categories with their faults, presheaves restricted along them, and the orders of Kan extensions.
use Rattle.std.proofs.Common.{◌≡◌, ℕ, zero, suc, ◌<◌, inl, inr, true, false, List, [], ◌∷◌, length, refl, sym, ap, subst, ◌∙◌, arith}
use Rattle.std.specs.Prelude.{map, Some, None}
use Rattle.topos_model.specs.declared.fault.Fault.TheVariants.{NotSent, FunctorEnds, FunctorLaw}
use Rattle.topos_model.specs.categories.Category.{dom, cod, into}
use Rattle.topos_model.specs.types.Types.{Presheaf}
use Rattle.topos_model.specs.Laws.{act, size, IsFunctor}
use Rattle.topos_model.specs.presheaves.Maps.{Components, component, apply, IsNatural, after, ExactlyOne}
use Rattle.topos_model.specs.categories.CategoryFunctors.{CatFunctor, IsCatFunctor, listed_functor, sending_fault, ends_fault, composite_fault, functor_fault, restricted, restricted_map}
use Rattle.topos_model.specs.presheaves.KanExtensions.{arrows_between, generated_elements, family_of, IsLan, IsRan}
use Rattle.topos_model.specs.presheaves.Colimits.{IsLeastPlace, LeastPlacesRise}
use Rattle.topos_model.proofs.ShortLists.{one_component, two_components, two_entries, no_entries}
use Rattle.topos_model.proofs.LawTests.{lawful_functor, natural_map, least_places_rise}
use Rattle.topos_model.proofs.SmallCategories.{point, graph, idempotent, involution}

-- what the examples compute with
opened : Unit {0}
unfolding into after listed_functor sending_fault ends_fault composite_fault functor_fault restricted restricted_map arrows_between generated_elements family_of
opened = tt

abbrev pub to_vertex : CatFunctor
to_vertex = record { at = 0 ∷ []; along = 0 ∷ [] }

abbrev to_edge : CatFunctor
to_edge = record { at = 1 ∷ []; along = 1 ∷ [] }

vertex_listed : listed_functor point (record { at = (0, 0) ∷ []; along = [] }) ≡ to_vertex
unfolding opened
vertex_listed = refl

edge_listed : listed_functor point (record { at = (0, 1) ∷ []; along = [] }) ≡ to_edge
unfolding opened
edge_listed = refl

edge_lawful : functor_fault point graph (record { at = (0, 1) ∷ []; along = [] }) ≡ None
unfolding opened
edge_lawful = refl

object_not_sent : functor_fault point graph (record { at = []; along = [] }) ≡ Some (NotSent false 0)
unfolding opened
object_not_sent = refl

arrow_not_sent : functor_fault idempotent graph (record { at = (0, 0) ∷ []; along = [] }) ≡ Some (NotSent true 1)
unfolding opened
arrow_not_sent = refl

-- u goes from the object to itself, and s does not
wrong_ends : functor_fault idempotent graph (record { at = (0, 0) ∷ []; along = (1, 2) ∷ [] }) ≡ Some (FunctorEnds 1)
unfolding opened
wrong_ends = refl

-- u.u is u, and r.r is not r
composite_lost : functor_fault idempotent involution (record { at = (0, 0) ∷ []; along = (1, 1) ∷ [] }) ≡ Some (FunctorLaw 1 1)
unfolding opened
composite_lost = refl

idempotent_lawful : functor_fault idempotent idempotent (record { at = (0, 0) ∷ []; along = (1, 1) ∷ [] }) ≡ None
unfolding opened
idempotent_lawful = refl

-- and what is no functor breaks the law that its fault names
ends_broken : IsCatFunctor idempotent graph (record { at = 0 ∷ []; along = 0 ∷ 2 ∷ [] }) → ⊥
unfolding opened
ends_broken h = let e : 1 ≡ 0 = (h.ends 1 (omega arith)).1 in omega (arith, e)

composite_broken : IsCatFunctor idempotent involution (record { at = 0 ∷ []; along = 0 ∷ 1 ∷ [] }) → ⊥
unfolding opened
composite_broken h = let e : 1 ≡ 0 = h.composite 1 1 (omega arith, (omega arith, refl)) in omega (arith, e)

-- composites are kept, and the identity goes to another arrow
identity_broken : IsCatFunctor idempotent idempotent (record { at = 0 ∷ []; along = 1 ∷ 1 ∷ [] }) → ⊥
unfolding opened
identity_broken h = let e : 1 ≡ 0 = h.identity 0 (omega arith) in omega (arith, e)

-- two vertices with three edges: 0 -> 1, 0 -> 1, 1 -> 0
abbrev G : Presheaf
G = record { sizes = 2 ∷ 3 ∷ []; along = (0 ∷ 1 ∷ []) ∷ (0 ∷ 1 ∷ 2 ∷ []) ∷ (0 ∷ 0 ∷ 1 ∷ []) ∷ (1 ∷ 1 ∷ 0 ∷ []) ∷ [] }

vertices : restricted point to_vertex G ≡ record { sizes = 2 ∷ []; along = (0 ∷ 1 ∷ []) ∷ [] }
unfolding opened
vertices = refl

edges : restricted point to_edge G ≡ record { sizes = 3 ∷ []; along = (0 ∷ 1 ∷ 2 ∷ []) ∷ [] }
unfolding opened
edges = refl

-- both edges 0 -> 1 go to the first
edges_map : restricted_map point to_edge ((0 ∷ 1 ∷ []) ∷ (0 ∷ 0 ∷ 2 ∷ []) ∷ []) ≡ (0 ∷ 0 ∷ 2 ∷ []) ∷ []
unfolding opened
edges_map = refl

-- two elements p and q, over the point
abbrev pub P : Presheaf
P = record { sizes = 2 ∷ []; along = (0 ∷ 1 ∷ []) ∷ [] }

abbrev pub same_elements : Components
same_elements = (0 ∷ 1 ∷ []) ∷ []

-- two vertices and no edge: the left extension of P along the vertex
abbrev L : Presheaf
L = record { sizes = 2 ∷ 0 ∷ []; along = (0 ∷ 1 ∷ []) ∷ [] ∷ [] ∷ [] ∷ [] }

vertices_generated : map (generated_elements point graph to_vertex P L same_elements) (0 ∷ 1 ∷ []) ≡ (0 ∷ 1 ∷ []) ∷ [] ∷ []
unfolding opened
vertices_generated = refl

-- an edge from each vertex to each: the right extension of P along the vertex
abbrev pub R : Presheaf
R = record { sizes = 2 ∷ 4 ∷ []; along = (0 ∷ 1 ∷ []) ∷ (0 ∷ 1 ∷ 2 ∷ 3 ∷ []) ∷ (0 ∷ 0 ∷ 1 ∷ 1 ∷ []) ∷ (0 ∷ 1 ∷ 0 ∷ 1 ∷ []) ∷ [] }

vertex_families : map (family_of point graph to_vertex R same_elements 0) (0 ∷ 1 ∷ []) ≡ (0 ∷ []) ∷ (1 ∷ []) ∷ []
unfolding opened
vertex_families = refl

edge_families : map (family_of point graph to_vertex R same_elements 1) (0 ∷ 1 ∷ 2 ∷ 3 ∷ []) ≡ (0 ∷ 0 ∷ []) ∷ (0 ∷ 1 ∷ []) ∷ (1 ∷ 0 ∷ []) ∷ (1 ∷ 1 ∷ []) ∷ []
unfolding opened
edge_families = refl

-- one edge with two ends: the left extension of one element along the edge, whose ends are e.s and e.t
abbrev edge : Presheaf
edge = record { sizes = 2 ∷ 1 ∷ []; along = (0 ∷ 1 ∷ []) ∷ (0 ∷ []) ∷ (0 ∷ []) ∷ (1 ∷ []) ∷ [] }

edge_generated : map (generated_elements point graph to_edge (record { sizes = 1 ∷ []; along = (0 ∷ []) ∷ [] }) edge ((0 ∷ []) ∷ [])) (0 ∷ 1 ∷ []) ≡ (0 ∷ 1 ∷ []) ∷ (0 ∷ []) ∷ []
unfolding opened
edge_generated = refl

edge_restricted : restricted point to_edge edge ≡ record { sizes = 1 ∷ []; along = (0 ∷ []) ∷ [] }
unfolding opened
edge_restricted = refl

vertices_lawful : IsFunctor graph L
unfolding opened
vertices_lawful = lawful_functor graph L refl refl refl refl refl refl

vertices_unit : IsNatural point P (restricted point to_vertex L) same_elements
unfolding opened
vertices_unit = natural_map point P (restricted point to_vertex L) same_elements refl refl refl refl

vertices_rise : (c : ℕ) → c < 2 → LeastPlacesRise (size L c) (generated_elements point graph to_vertex P L same_elements c)
unfolding opened
vertices_rise zero h = least_places_rise 2 (0 ∷ 1 ∷ []) (0 ∷ 1 ∷ []) refl refl refl refl
vertices_rise (suc zero) h = least_places_rise 0 [] [] refl refl refl refl
vertices_rise (suc (suc c)) h = absurd (omega arith)

-- a map from P to the vertices of a graph
module _ (Z : Presheaf) (m : Components) (lawful : IsFunctor graph Z) (natural : IsNatural point P (restricted point to_vertex Z) m) where
  abbrev n : Components
  n = component m 0 ∷ [] ∷ []

  m_within : (x : ℕ) → x < 2 → apply m 0 x < size Z 0
  unfolding opened
  m_within x h = natural.within 0 x (omega arith) h

  n_total : (c : ℕ) → c < 2 → length (component n c) ≡ size L c
  n_total zero h = natural.total 0 (omega arith)
  n_total (suc zero) h = refl
  n_total (suc (suc c)) h = absurd (omega arith)

  n_within : (c x : ℕ) → c < 2 → x < size L c → apply n c x < size Z c
  n_within zero x h k = m_within x k
  n_within (suc zero) x h k = absurd (omega arith)
  n_within (suc (suc c)) x h k = absurd (omega arith)

  n_commutes : (f x : ℕ) → f < 4 → x < size L (cod graph f) → apply n (dom graph f) (act L f x) ≡ act Z f (apply n (cod graph f) x)
  n_commutes zero zero h k = sym (lawful.identity 0 (apply m 0 0) (omega arith) (m_within 0 (omega arith)))
  n_commutes zero (suc zero) h k = sym (lawful.identity 0 (apply m 0 1) (omega arith) (m_within 1 (omega arith)))
  n_commutes zero (suc (suc x)) h k = absurd (omega arith)
  n_commutes (suc zero) x h k = absurd (omega arith)
  n_commutes (suc (suc zero)) x h k = absurd (omega arith)
  n_commutes (suc (suc (suc zero))) x h k = absurd (omega arith)
  n_commutes (suc (suc (suc (suc f)))) x h k = absurd (omega arith)

  n_natural : IsNatural graph L Z n
  n_natural = record {
    objects = refl;
    total = n_total;
    within = n_within;
    commutes = λ c f x i h.
        subst (λ (v : ℕ). apply n (dom graph f) (act L f x) ≡ act Z f (apply n v x)) i.1
        (n_commutes f x i.0 (subst (λ (v : ℕ). x < size L v) (sym i.1) h));
  }

  n_after : after (restricted_map point to_vertex n) same_elements ≡ m
  unfolding opened
  n_after = ap (λ (r : List ℕ). r ∷ []) (sym (two_entries (component m 0) (natural.total 0 (omega arith)))) ∙ sym (one_component m natural.objects)

  n_only : (v : Components) → IsNatural graph L Z v → after (restricted_map point to_vertex v) same_elements ≡ m → v ≡ n
  unfolding opened
  n_only v nat e =
      two_components v nat.objects
      ∙ ap (λ (r : List ℕ). r ∷ component v 1 ∷ []) (two_entries (component v 0) (nat.total 0 (omega arith)) ∙ ap (λ (k : Components). component k 0) e)
      ∙ ap (λ (r : List ℕ). component m 0 ∷ r ∷ []) (no_entries (component v 1) (nat.total 1 (omega arith)))

  factors_once : ExactlyOne (λ (v : Components). IsNatural graph L Z v × (after (restricted_map point to_vertex v) same_elements ≡ m))
  factors_once = (n, (n_natural, n_after), λ v p. n_only v p.0 p.1)

vertices_lan : IsLan point graph to_vertex P L same_elements
vertices_lan = record {
  functor = vertices_lawful;
  unit = vertices_unit;
  factors = λ Z m lawful natural. factors_once Z m lawful natural;
  order = vertices_rise;
}

-- a third vertex, which comes from no element
no_third : (y : ℕ) → IsLeastPlace (0 ∷ 1 ∷ []) 2 y → ⊥
no_third zero l = let e : 0 ≡ 2 = l.is in omega (arith, e)
no_third (suc zero) l = let e : 1 ≡ 2 = l.is in omega (arith, e)
no_third (suc (suc y)) l = let h : suc (suc y) < 2 = l.within in omega arith

lan_too_large : IsLan point graph to_vertex P (record { sizes = 3 ∷ 0 ∷ []; along = (0 ∷ 1 ∷ 2 ∷ []) ∷ [] ∷ [] ∷ [] ∷ [] }) same_elements → ⊥
unfolding opened
lan_too_large h = let l = (h.order 0 (omega arith)).found 2 (omega arith) in no_third l.0 l.1

-- the edge from p to q before the one from p to p
ran_out_of_order : IsRan point graph to_vertex P (record { sizes = 2 ∷ 4 ∷ []; along = (0 ∷ 1 ∷ []) ∷ (0 ∷ 1 ∷ 2 ∷ 3 ∷ []) ∷ (0 ∷ 0 ∷ 1 ∷ 1 ∷ []) ∷ (1 ∷ 0 ∷ 0 ∷ 1 ∷ []) ∷ [] }) same_elements → ⊥
unfolding opened
ran_out_of_order h =
    elim (h.order 1 0 1 (omega arith) (omega arith) (omega arith)) [
      | inl less ↦ omega (arith, less)
      | inr same ↦ elim same.1 [ inl less ↦ omega (arith, less) | inr equal ↦ equal.1 ]
    ]
