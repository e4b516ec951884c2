-- Worked examples, by computation: certificates of forcing, and local operators.
use Rattle.std.specs.Prelude.{◌≡◌, ℕ, Bool, true, false, ◌&&◌, List, [], ◌∷◌, map, refl, Some, None}
use Rattle.std.specs.List.{list_all}
use Rattle.topos_model.specs.declared.ty.Ty.{Ty, Base, Omega}
use Rattle.topos_model.specs.declared.term.Term.{Term, Var, Eq, Truth, Falsity, And, Or, Implies, Not, Forall, Exists, Unique, Compr}
use Rattle.topos_model.specs.declared.value.Val.{out-Val, El, Sv}
use Rattle.topos_model.specs.declared.answer.WhyNode.{WhyNode, out-WhyNode, roll-WhyNode}
use Rattle.topos_model.specs.declared.answer.Answer.TheVariants.{NotLocal}
use Rattle.topos_model.specs.categories.Category.{Category, into, is_sieve, sieves, generated, pull}
use Rattle.finite_lists.specs.Sublists.{sublists}
use Rattle.topos_model.specs.topologies.Cover.{Site, is_cover, is_dense, is_listed, covers}
use Rattle.topos_model.specs.types.Types.{Presheaf, elements, places, closed_below, closed_under_covers, is_closed_sieve, at_place, in_entries, base_elements, base_along, omega_elements, omega_along, two_elements, two_along, pow_elements, pow_along}
use Rattle.topos_model.specs.formulas.Forcing.{World, Assigned, meaning, value, forces, values, along, and_forced, or_forced, implies_forced, not_forced, exists_forced, forall_forced, unique_forced, locally, always, falsity_forced, image_of}
use Rattle.topos_model.specs.types.Values.{same, number_of, first_of, second_of, arrows_of, entries_of}
use Rattle.topos_model.specs.topologies.LeastCovers.{is_among_covers, least, closure}
use Rattle.topos_model.specs.formulas.Plain.{is_simple, is_plain}
use Rattle.topos_model.specs.certificates.CertificateNodes.{same_truth, side_of, arrow_of, extra_of, verdict, kids_of, agrees, count_yes}
use Rattle.topos_model.specs.certificates.Certificates.{inhabited, on_part, on_element, and_shown, or_shown, implies_shown, not_shown, exists_shown, forall_shown, unique_shown, shows, is_cert}
use Rattle.topos_model.specs.certificates.FirstCertificate.{node, and_children, or_children, implies_children, not_children, exists_children, forall_children, unique_children, part_of, first_cert}
use Rattle.topos_model.specs.topologies.LocalOperators.{Operator, operated, maximal_fault, idempotence_fault, meet_fault, local_fault, operator_covers, top_of, op_of}
use denote.Hole.Carrier
use Rattle.topos_model.specs.declared.answer.WhyNode.TheBlock.{shown-the_row-WhyNode-0}
use Rattle.topos_model.specs.declared.term.Term.TheBlock.{hidden-the_row-Term-0}
use Rattle.topos_model.specs.declared.ty.Ty.TheBlock.{hidden-the_row-Ty-0}
use Rattle.topos_model.specs.declared.value.Val.TheBlock.{hidden-the_row-Val-0, hidden-the_row-Entry-1, hidden-the_row-Assign-2, shown-the_row-Val-0, shown-the_row-Entry-1, shown-the_row-Assign-2}

abbrev graph : Category
graph = record {
  objects = 2;
  ends = (0, 0) ∷ (1, 1) ∷ (0, 1) ∷ (0, 1) ∷ [];
  table = (0, 0, 0) ∷ (1, 1, 1) ∷ (2, 0, 2) ∷ (3, 0, 3) ∷ (1, 2, 2) ∷ (1, 3, 3) ∷ [];
}

abbrev site : Site
site = record { category = graph; dense = false; families = [] }

abbrev dense : Site
dense = record { category = graph; dense = true; families = [] }

-- one edge k from a to b
abbrev K : Presheaf
K = record { sizes = 2 ∷ 1 ∷ []; along = (0 ∷ 1 ∷ []) ∷ (0 ∷ []) ∷ (0 ∷ []) ∷ (1 ∷ []) ∷ [] }

-- what the examples compute with
opened : Unit {0}
unfolding sublists into is_sieve sieves pull generated is_cover is_dense is_listed covers places closed_below closed_under_covers is_closed_sieve at_place in_entries along and_forced or_forced implies_forced not_forced exists_forced forall_forced unique_forced locally always falsity_forced image_of elements base_elements base_along omega_elements omega_along two_elements two_along pow_elements pow_along meaning same number_of first_of second_of arrows_of entries_of out-Val hidden-the_row-Term-0 hidden-the_row-Ty-0 hidden-the_row-Val-0 hidden-the_row-Entry-1 hidden-the_row-Assign-2 Carrier.hidden Carrier.shown Carrier.out shown-the_row-Val-0 shown-the_row-Entry-1 shown-the_row-Assign-2 least is_simple is_plain side_of arrow_of extra_of verdict kids_of agrees count_yes inhabited on_part on_element and_shown or_shown implies_shown not_shown exists_shown forall_shown unique_shown shows is_cert node and_children or_children implies_children not_children exists_children forall_children unique_children part_of first_cert operated maximal_fault idempotence_fault meet_fault local_fault operator_covers top_of is_among_covers closure op_of out-WhyNode roll-WhyNode Carrier.roll shown-the_row-WhyNode-0
opened = tt

abbrev X : Ty
X = Base 0

-- a side of this equation is a set
abbrev singleton : Term
singleton = Exists X (Eq (Var 1) (Compr X (Eq (Var 0) (Var 1))))

singleton_not_plain : is_plain singleton ≡ false
unfolding opened
singleton_not_plain = refl

-- an edge is other than some edge along its two ends alone
abbrev world : World
world = record { site = site; functors = K ∷ []; maps = [] }

abbrev other : Term
other = Exists X (Not (Eq (Var 1) (Var 0)))

other_plain : is_plain other ≡ true
unfolding opened
other_plain = refl

at_edge : Assigned
at_edge = (X, El 0) ∷ []

at_end : Assigned
at_end = (X, El 1) ∷ []

least_edge : least site 1 ≡ 1 ∷ 2 ∷ 3 ∷ []
unfolding opened
least_edge = refl

least_dense_edge : least dense 1 ≡ 2 ∷ 3 ∷ []
unfolding opened
least_dense_edge = refl

-- at the edge k along the identity: k is the only edge, and equal to k
edge_certificate : WhyNode
edge_certificate = roll-WhyNode (record {
  side = None;
  arrow = 1;
  extra = None;
  yes = false;
  kids =
      roll-WhyNode (record {
        side = None;
        arrow = 1;
        extra = Some (El 0);
        yes = false;
        kids =
            roll-WhyNode (record { side = None; arrow = 1; extra = None; yes = true; kids = [] }) ∷ [];
      }) ∷ [];
})

first_edge_certificate : first_cert world other 1 at_edge ≡ edge_certificate
unfolding opened at_edge edge_certificate
first_edge_certificate = refl

edge_certificate_right : is_cert world other 1 at_edge edge_certificate ≡ true
unfolding opened at_edge edge_certificate
edge_certificate_right = refl

-- at the end b: a is other than b
end_certificate : WhyNode
end_certificate = roll-WhyNode (record {
  side = None;
  arrow = 0;
  extra = None;
  yes = true;
  kids =
      roll-WhyNode (record {
        side = None;
        arrow = 0;
        extra = Some (El 0);
        yes = true;
        kids =
            roll-WhyNode (record { side = None; arrow = 0; extra = None; yes = false; kids = [] }) ∷ [];
      }) ∷ [];
})

first_end_certificate : first_cert world other 0 at_end ≡ end_certificate
unfolding opened at_end end_certificate
first_end_certificate = refl

end_certificate_right : is_cert world other 0 at_end end_certificate ≡ true
unfolding opened at_end end_certificate
end_certificate_right = refl

-- with another verdict in the middle it is none
changed_certificate : WhyNode
changed_certificate = roll-WhyNode (record {
  side = None;
  arrow = 0;
  extra = None;
  yes = true;
  kids =
      roll-WhyNode (record {
        side = None;
        arrow = 0;
        extra = Some (El 0);
        yes = false;
        kids =
            roll-WhyNode (record { side = None; arrow = 0; extra = None; yes = false; kids = [] }) ∷ [];
      }) ∷ [];
})

changed_certificate_wrong : is_cert world other 0 at_end changed_certificate ≡ false
unfolding opened at_end changed_certificate
changed_certificate_wrong = refl

-- each form has a first certificate that is one: at the edge and at its end, under both topologies
abbrev equals : Term
equals = Eq (Var 0) (Var 0)

abbrev forms : List Term
forms = Truth ∷ Falsity ∷ And equals Truth ∷ And Truth Falsity ∷ Or equals (Not equals) ∷ Or Falsity Falsity ∷ Implies equals Falsity ∷ Implies equals equals
    ∷ Not equals ∷ Not Falsity ∷ other ∷ Exists X Truth ∷ Forall X equals ∷ Forall X Truth ∷ Unique X equals ∷ Unique X Truth ∷ []

abbrev dense_world : World
dense_world = record { site = dense; functors = K ∷ []; maps = [] }

abbrev are_right : World → ℕ → Assigned → Bool
are_right w c a = list_all (λ φ. is_cert w φ c a (first_cert w φ c a) && same_truth (verdict (first_cert w φ c a)) (forces w φ c a)) forms

edge_right : are_right world 1 at_edge ≡ true
unfolding opened at_edge
edge_right = refl

end_right : are_right world 0 at_end ≡ true
unfolding opened at_end
end_right = refl

dense_edge_right : are_right dense_world 1 at_edge ≡ true
unfolding opened at_edge
dense_edge_right = refl

-- the map of truth values that a formula in one truth value gives
abbrev operator_of : Term → Operator
operator_of φ = map (λ c. map (λ v. (v, value world φ c ((Omega, v) ∷ []))) (values world Omega c)) (0 ∷ 1 ∷ [])

double_negation_local : local_fault graph (operator_of (Not (Not (Var 0)))) ≡ None
unfolding opened
double_negation_local = refl

double_negation_covers : map (least (top_of graph (operator_of (Not (Not (Var 0)))))) (0 ∷ 1 ∷ []) ≡ (0 ∷ []) ∷ (2 ∷ 3 ∷ []) ∷ []
unfolding opened
double_negation_covers = refl

dense_operator : op_of dense ≡ operator_of (Not (Not (Var 0)))
unfolding opened
dense_operator = refl

negation_not_local : local_fault graph (operator_of (Not (Var 0))) ≡ Some (NotLocal 1 0 [])
unfolding opened
negation_not_local = refl

abbrev zip_with : {A B C : Type 0} → (A → B → C) → List A → List B → List C
zip_with f (a ∷ rest) (b ∷ others) = f a b ∷ zip_with f rest others
zip_with f _ _ = []

-- the sieves on the vertex stay, and those on the edge go where the list says
abbrev on_edge : List (List ℕ) → Operator
on_edge images = map (λ S. (Sv S, Sv S)) (sieves graph 0) ∷ zip_with (λ S T. (Sv S, Sv T)) (sieves graph 1) images ∷ []

-- {t} and {s} change places
swap_not_idempotent : local_fault graph (on_edge ([] ∷ (2 ∷ []) ∷ (3 ∷ []) ∷ (2 ∷ 3 ∷ []) ∷ (1 ∷ 2 ∷ 3 ∷ []) ∷ [])) ≡ Some (NotLocal 2 1 ((3 ∷ []) ∷ []))
unfolding opened
swap_not_idempotent = refl

-- {t} and {s} go to {s, t}, and their meet stays empty
meet_not_kept : local_fault graph (on_edge ([] ∷ (2 ∷ 3 ∷ []) ∷ (2 ∷ 3 ∷ []) ∷ (2 ∷ 3 ∷ []) ∷ (1 ∷ 2 ∷ 3 ∷ []) ∷ [])) ≡ Some (NotLocal 3 1 ((3 ∷ []) ∷ (2 ∷ []) ∷ []))
unfolding opened
meet_not_kept = refl
