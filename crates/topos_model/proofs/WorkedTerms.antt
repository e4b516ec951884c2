-- Worked examples, by computation: types and faults of terms, what statements count, and why they are refused for their terms.
use Rattle.std.specs.Prelude.{◌≡◌, ℕ, ◌+◌, ◌*◌, zero, true, false, List, [], ◌∷◌, refl, Ok, Err, Some, None}
use Rattle.topos_model.specs.declared.ty.Ty.{Ty, out-Ty, Base, One, Omega, Two, Pow, Fun}
use Rattle.topos_model.specs.declared.term.Term.{Term, Var, Star, Pair, Fst, Member, Eq, Or, Not, Forall, Exists, Compr, Lam, Eval, App}
use Rattle.topos_model.specs.declared.value.Val.{out-Val}
use Rattle.topos_model.specs.declared.stmt.Stmt.TheVariants.{Show, Valid, Why, Let}
use Rattle.topos_model.specs.declared.fault.Fault.TheVariants.{Expected, NotAFunction, NotAPower, NotAPair, NotASheaf, WrongTopology}
use Rattle.topos_model.specs.categories.Category.{Category, into, is_sieve, sieves, generated, pull}
use Rattle.finite_lists.specs.Sublists.{sublists}
use Rattle.topos_model.specs.topologies.Cover.{Site, is_cover, is_dense, is_listed, covers}
use Rattle.topos_model.specs.types.Types.{Presheaf, elements, places, closed_below, closed_under_covers, is_closed_sieve, at_place, in_entries, base_elements, base_along, omega_elements, omega_along, two_elements, two_along, pow_elements, pow_along}
use Rattle.topos_model.specs.types.Values.{same, number_of, first_of, second_of, arrows_of, entries_of}
use Rattle.topos_model.specs.types.SameType.{same_type}
use Rattle.topos_model.specs.formulas.Typing.{typed}
use Rattle.topos_model.specs.statements.Needs.{parts, inner, step_terms, terms_of, term_needs, types_of, needs, first_no_sheaf, under}
use Rattle.topos_model.specs.statements.Cells.{presheaf_cells, hom_cells, without_repeats, width, cells_of, types_cells, types_under, cells, is_named}
use Rattle.topos_model.specs.types.Nodes.{nodes}
use Rattle.topos_model.specs.statements.StatementFaults.{applied, depends_on_covers, foreign_map_fault, formula_fault, term_fault, step_fault, typing_fault}
use denote.Hole.Carrier
use Rattle.topos_model.specs.declared.term.Term.TheBlock.{hidden-the_row-Term-0}
use Rattle.topos_model.specs.declared.ty.Ty.TheBlock.{hidden-the_row-Ty-0, shown-the_row-Ty-0}
use Rattle.topos_model.specs.declared.value.Val.TheBlock.{hidden-the_row-Val-0, hidden-the_row-Entry-1, hidden-the_row-Assign-2, shown-the_row-Entry-1}

abbrev graph : Category
graph = record {
  objects = 2;
  ends = (0, 0) ∷ (1, 1) ∷ (0, 1) ∷ (0, 1) ∷ [];
  table = (0, 0, 0) ∷ (1, 1, 1) ∷ (2, 0, 2) ∷ (3, 0, 3) ∷ (1, 2, 2) ∷ (1, 3, 3) ∷ [];
}

abbrev site : Site
site = record { category = graph; dense = false; families = [] }

abbrev dense : Site
dense = record { category = graph; dense = true; families = [] }

abbrev G : Presheaf
G = record { sizes = 2 ∷ 3 ∷ []; along = (0 ∷ 1 ∷ []) ∷ (0 ∷ 1 ∷ 2 ∷ []) ∷ (0 ∷ 0 ∷ 1 ∷ []) ∷ (1 ∷ 1 ∷ 0 ∷ []) ∷ [] }

-- what the examples compute with
opened : Unit {0}
unfolding sublists into is_sieve sieves pull generated is_cover is_dense is_listed covers places closed_below closed_under_covers is_closed_sieve at_place in_entries elements base_elements base_along omega_elements omega_along two_elements two_along pow_elements pow_along same number_of first_of second_of arrows_of entries_of out-Val out-Ty hidden-the_row-Term-0 hidden-the_row-Ty-0 shown-the_row-Ty-0 hidden-the_row-Val-0 hidden-the_row-Entry-1 hidden-the_row-Assign-2 Carrier.hidden Carrier.shown Carrier.out shown-the_row-Entry-1 same_type typed parts inner step_terms terms_of term_needs types_of needs under presheaf_cells hom_cells is_named without_repeats width cells_of types_cells types_under cells nodes applied depends_on_covers foreign_map_fault formula_fault term_fault step_fault typing_fault
opened = tt

-- the functor number 0
abbrev X : Ty
X = Base 0

element_typed : typed [] (X ∷ []) (Var 0) ≡ Ok X
unfolding opened
element_typed = refl

subset_typed : typed [] [] (Compr X (Eq (Var 0) (Var 0))) ≡ Ok (Pow X)
unfolding opened
subset_typed = refl

function_typed : typed [] [] (Lam X (Pair (Var 0) Star)) ≡ Ok (Fun X (Two X One))
unfolding opened
function_typed = refl

applied_typed : typed [] (X ∷ Fun X Omega ∷ []) (Eval (Var 1) (Var 0)) ≡ Ok Omega
unfolding opened
applied_typed = refl

map_typed : typed (record { dom = X; cod = Omega } ∷ []) (X ∷ []) (Not (App 0 (Var 0))) ≡ Ok Omega
unfolding opened
map_typed = refl

element_as_formula : typed [] (X ∷ []) (Not (Var 0)) ≡ Err (Expected Omega X)
unfolding opened
element_as_formula = refl

pair_equal_to_element : typed [] (X ∷ []) (Eq (Pair (Var 0) (Var 0)) (Var 0)) ≡ Err (Expected (Two X X) X)
unfolding opened
pair_equal_to_element = refl

element_applied : typed [] (X ∷ []) (Eval (Var 0) (Var 0)) ≡ Err (NotAFunction X)
unfolding opened
element_applied = refl

member_of_element : typed [] (X ∷ []) (Member (Var 0) (Var 0)) ≡ Err (NotAPower X)
unfolding opened
member_of_element = refl

part_of_element : typed [] (X ∷ []) (Fst (Var 0)) ≡ Err (NotAPair X)
unfolding opened
part_of_element = refl

-- the left operand is tested before the right one is typed
left_fault_first : typed [] (X ∷ []) (Or (Var 0) (Eval (Var 0) (Var 0))) ≡ Err (Expected Omega X)
unfolding opened
left_fault_first = refl

-- both parts of an application are typed before the application is
argument_fault_first : typed [] (X ∷ []) (Eval (Var 0) (Fst (Var 0))) ≡ Err (NotAPair X)
unfolding opened
argument_fault_first = refl

abbrev equal : Term
equal = Eq (Var 1) (Var 0)

equation_needs : without_repeats (needs [] (Show 0 (record { types = X ∷ X ∷ [] }) equal)) ≡ Omega ∷ Two X X ∷ X ∷ []
unfolding opened
equation_needs = refl

closed_needs : without_repeats (needs [] (Valid 0 (record { types = [] }) (Forall Omega (Or (Var 0) (Not (Var 0)))))) ≡ One ∷ Omega ∷ []
unfolding opened
closed_needs = refl

-- the subsets of G: 4 at the vertices and 35 at the edges, with 2 and 7 places
subset_cells : cells_of site (G ∷ []) (Pow X) ≡ 4 * 4 + 35 * 11
unfolding opened
subset_cells = refl

-- the cells of G, of Omega and of G * G
graph_cells : presheaf_cells graph G ≡ 16
unfolding opened
graph_cells = refl

truth_cells : cells_of site [] Omega ≡ 24
unfolding opened
truth_cells = refl

dense_truth_cells : cells_of dense [] Omega ≡ 20
unfolding opened
dense_truth_cells = refl

unit_cells : cells_of site [] One ≡ 6
unfolding opened
unit_cells = refl

pair_cells : cells_of site (G ∷ []) (Two X X) ≡ 44
unfolding opened
pair_cells = refl

equation_cells : cells graph (λ j. site) 1 (record { functors = G ∷ []; types = (0, needs [] (Show 0 (record { types = X ∷ X ∷ [] }) equal)) ∷ []; others = 0 }) ≡ 84
unfolding opened
equation_cells = refl

-- an edge, a formula on it, and a certificate of three nodes
abbrev K : Presheaf
K = record { sizes = 2 ∷ 1 ∷ []; along = (0 ∷ 1 ∷ []) ∷ (0 ∷ []) ∷ (0 ∷ []) ∷ (1 ∷ []) ∷ [] }

certificate_cells : cells graph (λ j. site) 1 (record { functors = K ∷ []; types = (0, needs [] (Why 0 1 0 (record { types = X ∷ [] }) (Exists X (Not (Eq (Var 1) (Var 0)))))) ∷ []; others = 3 }) ≡ 47
unfolding opened
certificate_cells = refl

-- the truth values under two topologies, each time with the empty product
abbrev excluded : Term
excluded = Forall Omega (Or (Var 0) (Not (Var 0)))

abbrev excluded_types : List Ty
excluded_types = needs [] (Valid 0 (record { types = [] }) excluded)

abbrev two_sites : ℕ → Site
two_sites zero = site
two_sites _ = dense

two_topologies_cells : cells graph two_sites 2 (record { functors = []; types = (0, excluded_types) ∷ (1, excluded_types) ∷ []; others = 0 }) ≡ 56
unfolding opened
two_topologies_cells = refl

-- a type that two statements count costs once
repeated_cells : cells graph (λ j. site) 1 (record { functors = []; types = (0, excluded_types) ∷ (0, excluded_types) ∷ []; others = 0 }) ≡ 30
unfolding opened
repeated_cells = refl

-- three maps listed from G
listed_maps_cells : hom_cells 3 G ≡ 18
unfolding opened
listed_maps_cells = refl

-- a set of two elements, and its subsets with exactly one
abbrev point : Category
point = record { objects = 1; ends = (0, 0) ∷ []; table = (0, 0, 0) ∷ [] }

abbrev pair : Presheaf
pair = record { sizes = 2 ∷ []; along = (0 ∷ 1 ∷ []) ∷ [] }

abbrev singleton : Term
singleton = Exists X (Eq (Var 1) (Compr X (Eq (Var 0) (Var 1))))

singleton_cells : cells point (λ j. record { category = point; dense = false; families = [] }) 1
    (record { functors = pair ∷ []; types = (0, needs [] (Show 0 (record { types = Pow X ∷ [] }) singleton)) ∷ []; others = 0 }) ≡ 72
unfolding opened
singleton_cells = refl

-- G is a functor that the types of x = y name
not_a_sheaf : first_no_sheaf (λ n. false) 1 (types_of [] (Show 0 (record { types = X ∷ X ∷ [] }) equal)) ≡ Some (NotASheaf 0)
unfolding opened
not_a_sheaf = refl

-- a map of truth values that was made under topology 1
foreign_map : foreign_map_fault (record { ends = record { dom = Omega; cod = Omega }; under = 1 } ∷ []) (Valid 0 (record { types = Omega ∷ [] }) (App 0 (Var 0))) ≡ Some (WrongTopology 0)
unfolding opened
foreign_map = refl

map_at_home : foreign_map_fault (record { ends = record { dom = Omega; cod = Omega }; under = 1 } ∷ []) (Valid 1 (record { types = Omega ∷ [] }) (App 0 (Var 0))) ≡ None
unfolding opened
map_at_home = refl

-- a formula is wanted of `valid`, and any term of `let`
element_shown : typing_fault [] (Valid 0 (record { types = X ∷ [] }) (Var 0)) ≡ Some (Expected Omega X)
unfolding opened
element_shown = refl

element_named : typing_fault [] (Let 0 0 X (Var 0)) ≡ None
unfolding opened
element_named = refl
