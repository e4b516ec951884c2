-- Worked examples, by computation: graphs as presheaves on two parallel arrows, under the maximal covers and the dense ones, and sets.
use Rattle.std.specs.Prelude.{◌≡◌, ℕ, true, false, [], ◌∷◌, map, refl, length}
use Rattle.topos_model.specs.declared.ty.Ty.{Base, Omega, Pow, Fun}
use Rattle.topos_model.specs.declared.term.Term.{Term, Member, Var, Eq, Implies, Falsity, Forall, Exists, Or, Not, Compr, Eval}
use Rattle.topos_model.specs.declared.value.Val.{out-Val, El, Sv, Sub}
use Rattle.topos_model.specs.categories.Category.{Category, into, is_sieve, sieves, pull}
use Rattle.finite_lists.specs.Sublists.{sublists}
use Rattle.topos_model.specs.topologies.Cover.{Site, is_cover, is_dense, is_listed, covers}
use Rattle.topos_model.specs.types.Types.{Presheaf, elements, assignments, places, closed_below, closed_under_covers, is_closed_sieve, is_natural, at_place, in_entries, base_elements, base_along, omega_elements, omega_along, two_elements, two_along, pow_elements, pow_along, fun_elements, fun_along}
use Rattle.topos_model.specs.formulas.Forcing.{World, Assigned, meaning, forces, value, values, along, and_forced, or_forced, implies_forced, not_forced, exists_forced, forall_forced, unique_forced, tuples, shown, locally, always, falsity_forced, image_of}
use Rattle.topos_model.specs.types.Values.{same, number_of, first_of, second_of, arrows_of, entries_of, assigns_of}
use denote.Hole.Carrier
use Rattle.std.specs.Prelude.{Some, None}
use Rattle.topos_model.specs.declared.fault.Fault.TheVariants.{NotAssociative, NotFunctorial}
use Rattle.topos_model.specs.categories.Listed.{all_ends, composable, listed_composite, listed_category, listed_row, listed_presheaf}
use Rattle.topos_model.specs.Faults.{associativity_fault, functoriality_fault}
use Rattle.topos_model.specs.declared.term.Term.TheBlock.{hidden-the_row-Term-0}
use Rattle.topos_model.specs.declared.ty.Ty.TheBlock.{hidden-the_row-Ty-0}
use Rattle.topos_model.specs.declared.value.Val.TheBlock.{hidden-the_row-Val-0, hidden-the_row-Entry-1, hidden-the_row-Assign-2, shown-the_row-Val-0, shown-the_row-Entry-1, shown-the_row-Assign-2}

abbrev graph : Category
graph = record {
  objects = 2;
  ends = (0, 0) ∷ (1, 1) ∷ (0, 1) ∷ (0, 1) ∷ [];
  table = (0, 0, 0) ∷ (1, 1, 1) ∷ (2, 0, 2) ∷ (3, 0, 3) ∷ (1, 2, 2) ∷ (1, 3, 3) ∷ [];
}

abbrev site : Site
site = record { category = graph; dense = false; families = [] }

abbrev G : Presheaf
G = record { sizes = 2 ∷ 3 ∷ []; along = (0 ∷ 1 ∷ []) ∷ (0 ∷ 1 ∷ 2 ∷ []) ∷ (0 ∷ 0 ∷ 1 ∷ []) ∷ (1 ∷ 1 ∷ 0 ∷ []) ∷ [] }

abbrev world : World
world = record { site = site; functors = G ∷ []; maps = [] }

-- what the examples compute with
opened : Unit {0}
unfolding sublists into is_sieve sieves all_ends composable listed_composite listed_category listed_row listed_presheaf associativity_fault functoriality_fault pull is_cover is_dense is_listed covers assignments places closed_below closed_under_covers is_closed_sieve is_natural at_place in_entries along and_forced or_forced implies_forced not_forced exists_forced forall_forced unique_forced tuples shown locally always falsity_forced image_of elements base_elements base_along omega_elements omega_along two_elements two_along pow_elements pow_along fun_elements fun_along meaning same number_of first_of second_of arrows_of entries_of assigns_of out-Val hidden-the_row-Term-0 hidden-the_row-Ty-0 hidden-the_row-Val-0 hidden-the_row-Entry-1 hidden-the_row-Assign-2 Carrier.hidden Carrier.shown Carrier.out shown-the_row-Val-0 shown-the_row-Entry-1 shown-the_row-Assign-2
opened = tt

into_edge : into graph 1 ≡ 1 ∷ 2 ∷ 3 ∷ []
unfolding opened
into_edge = refl

sieves_edge : sieves graph 1 ≡ [] ∷ (3 ∷ []) ∷ (2 ∷ []) ∷ (2 ∷ 3 ∷ []) ∷ (1 ∷ 2 ∷ 3 ∷ []) ∷ []
unfolding opened
sieves_edge = refl

covers_edge : covers site 1 ≡ (1 ∷ 2 ∷ 3 ∷ []) ∷ []
unfolding opened
covers_edge = refl

-- the truth values of graphs: two at a vertex, five at an edge
omega_vertex : values world Omega 0 ≡ map Sv ([] ∷ (0 ∷ []) ∷ [])
unfolding opened
omega_vertex = refl

omega_edge : values world Omega 1 ≡ map Sv ([] ∷ (3 ∷ []) ∷ (2 ∷ []) ∷ (2 ∷ 3 ∷ []) ∷ (1 ∷ 2 ∷ 3 ∷ []) ∷ [])
unfolding opened
omega_edge = refl

-- x = y => false
abbrev unequal : Term
unequal = Implies (Eq (Var 1) (Var 0)) Falsity

abbrev equal : Term
equal = Eq (Var 1) (Var 0)

abbrev pair : ℕ → ℕ → Assigned
pair m n = (Base 0, El n) ∷ (Base 0, El m) ∷ []

equal_vertex : shown world (Base 0 ∷ Base 0 ∷ []) equal 0 ≡ pair 0 0 ∷ pair 1 1 ∷ []
unfolding opened
equal_vertex = refl

equal_edge : shown world (Base 0 ∷ Base 0 ∷ []) equal 1 ≡ pair 0 0 ∷ pair 1 1 ∷ pair 2 2 ∷ []
unfolding opened
equal_edge = refl

unequal_vertex : shown world (Base 0 ∷ Base 0 ∷ []) unequal 0 ≡ pair 0 1 ∷ pair 1 0 ∷ []
unfolding opened
unequal_vertex = refl

unequal_edge : shown world (Base 0 ∷ Base 0 ∷ []) unequal 1 ≡ pair 0 2 ∷ pair 1 2 ∷ pair 2 0 ∷ pair 2 1 ∷ []
unfolding opened
unequal_edge = refl

-- the law of excluded middle: forced at the vertices and not at the edges
excluded : Term
excluded = Forall Omega (Or (Var 0) (Not (Var 0)))

excluded_edge : forces world excluded 1 [] ≡ false
unfolding opened excluded
excluded_edge = refl

excluded_vertex : forces world excluded 0 [] ≡ true
unfolding opened excluded
excluded_vertex = refl

-- and forced where the dense sieves cover
dense : World
dense = record { site = record { category = graph; dense = true; families = [] }; functors = G ∷ []; maps = [] }

excluded_dense : forces dense excluded 1 [] ≡ true
unfolding opened excluded dense
excluded_dense = refl

-- an edge is other than some edge along its two ends alone
K : Presheaf
K = record { sizes = 2 ∷ 1 ∷ []; along = (0 ∷ 1 ∷ []) ∷ (0 ∷ []) ∷ (0 ∷ []) ∷ (1 ∷ []) ∷ [] }

other : Term
other = Exists (Base 0) (Not (Eq (Var 1) (Var 0)))

classified : value (record { site = site; functors = K ∷ []; maps = [] }) other 1 ((Base 0, El 0) ∷ []) ≡ Sv (2 ∷ 3 ∷ [])
unfolding opened K other
classified = refl

classified_first : value (record { site = site; functors = K ∷ []; maps = [] }) other 0 ((Base 0, El 0) ∷ []) ≡ Sv (0 ∷ [])
unfolding opened K other
classified_first = refl

classified_second : value (record { site = site; functors = K ∷ []; maps = [] }) other 0 ((Base 0, El 1) ∷ []) ≡ Sv (0 ∷ [])
unfolding opened K other
classified_second = refl

-- sets: a category with one arrow
point : World
point = record { site = record { category = record { objects = 1; ends = (0, 0) ∷ []; table = (0, 0, 0) ∷ [] }; dense = false; families = [] }; functors = record { sizes = 2 ∷ []; along = (0 ∷ 1 ∷ []) ∷ [] } ∷ []; maps = [] }

-- the sets with exactly one element
singleton : Term
singleton = Exists (Base 0) (Eq (Var 1) (Compr (Base 0) (Eq (Var 0) (Var 1))))

singletons : shown point (Pow (Base 0) ∷ []) singleton 0 ≡ ((Pow (Base 0), Sub (record { arrow = 0; val = El 1 } ∷ [])) ∷ []) ∷ ((Pow (Base 0), Sub (record { arrow = 0; val = El 0 } ∷ [])) ∷ []) ∷ []
unfolding opened point singleton
singletons = refl

-- an onto function of a finite set to itself is one-to-one
onto : Term
onto = Implies (Forall (Base 0) (Exists (Base 0) (Eq (Eval (Var 2) (Var 0)) (Var 1))))
    (Forall (Base 0) (Forall (Base 0) (Implies (Eq (Eval (Var 2) (Var 1)) (Eval (Var 2) (Var 0))) (Eq (Var 1) (Var 0)))))

injective : map (forces point onto 0) (map (λ v. (Fun (Base 0) (Base 0), v) ∷ []) (values point (Fun (Base 0) (Base 0)) 0)) ≡ true ∷ true ∷ true ∷ true ∷ []
unfolding opened point onto
injective = refl

subsets : length (values world (Pow (Base 0)) 1) ≡ 35
unfolding opened
subsets = refl

functions : length (values world (Fun (Base 0) (Base 0)) 1) ≡ 15
unfolding opened
functions = refl

-- two elements that multiply as no monoid does
first_triple : associativity_fault (listed_category (record { objects = 1; ends = (0, 0) ∷ (0, 0) ∷ []; listed = (1, 1, 2) ∷ (1, 2, 1) ∷ (2, 1, 2) ∷ (2, 2, 2) ∷ [] })) ≡ Some (NotAssociative 1 1 1)
unfolding opened
first_triple = refl

-- an idempotent that would act as a swap
abbrev idempotent : Category
idempotent = listed_category (record { objects = 1; ends = (0, 0) ∷ []; listed = (1, 1, 1) ∷ [] })

lawful : associativity_fault idempotent ≡ None
unfolding opened
lawful = refl

swap : functoriality_fault idempotent (listed_presheaf idempotent (record { sizes = 2 ∷ []; along = record { arrow = 1; entries = (0, 1) ∷ (1, 0) ∷ [] } ∷ [] })) ≡ Some (NotFunctorial 1 1 0)
unfolding opened
swap = refl

undecided : Term
undecided = Forall (Pow (Base 0)) (Forall (Base 0) (Or (Member (Var 0) (Var 1)) (Not (Member (Var 0) (Var 1)))))

subsets_undecided : forces world undecided 1 [] ≡ false
unfolding opened undecided
subsets_undecided = refl

subsets_dense : forces dense undecided 1 [] ≡ true
unfolding opened undecided dense
subsets_dense = refl
