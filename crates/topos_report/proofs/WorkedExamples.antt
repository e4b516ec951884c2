-- Worked examples, by computation.
use Rattle.std.specs.Prelude.{◌≡◌, ℕ, List, [], ◌∷◌, Some, None, codes, refl}
use Rattle.std.specs.Fmt.{digits}
use denote.Hole.Carrier
use Rattle.topos_model.specs.declared.ty.Ty.{Base, Omega, Two, Pow, Fun}
use Rattle.topos_model.specs.declared.ty.Ty.TheBlock.{hidden-the_row-Ty-0}
use Rattle.topos_model.specs.declared.value.Val.{Val, out-Val, El, Sv, Two as Both, Sub, Fn}
use Rattle.topos_model.specs.declared.value.Val.TheBlock.{hidden-the_row-Val-0, hidden-the_row-Entry-1, hidden-the_row-Assign-2, shown-the_row-Val-0, shown-the_row-Entry-1, shown-the_row-Assign-2}
use Rattle.topos_model.specs.declared.answer.Answer.{Answer}
use Rattle.topos_model.specs.declared.answer.Answer.TheVariants.{Quiet, Shown}
use Rattle.topos_model.specs.declared.answer.End.TheVariants.{Whole, Refused}
use Rattle.topos_model.specs.declared.answer.Tuple.{Tuple}
use Rattle.topos_model.specs.declared.fault.Fault.TheVariants.{NotBuilt, CompositeEnds, NotAssociative, NotStable, NotTotal, NotFunctorial, Expected}
use Rattle.topos_model.specs.declared.stmt.Stmt.{Stmt}
use Rattle.topos_model.specs.declared.stmt.Stmt.TheVariants.{Presheaf, Empty}
use Rattle.topos_model.specs.declared.doc.Doc.{Doc}
use Rattle.topos_model.specs.categories.Listed.{all_ends}
use Rattle.topos_model.specs.types.Values.{number_of, first_of, second_of, arrows_of, entries_of, assigns_of}
use Rattle.topos_report.specs.Names.{name_or_number, arrow_name, element_name}
use Rattle.topos_report.specs.Values.{ends_of, pair_text, sieve_text, entry_text, subset_text, assign_text, function_text, value_text, typed_text, tuple_text}
use Rattle.topos_report.specs.Stages.{tuples_line, tuples_line_at, tuples_list}
use Rattle.topos_report.specs.Refusals.{functor_of, number_prefix, topology_prefix, topology_text, declared_functor, element_of, element_along_text, tested_of, tested_at, refusal_line}
use Rattle.topos_report.specs.TypeTexts.{type_text}
use Rattle.topos_report.specs.Report.{answer_lines, lines_from, cells_line, end_line, report}
use Rattle.topos_report.specs.EmptyDocument.{empty_document}
use Rattle.topos_report.specs.AnswerLines.{heading}

-- what the examples compute with
opened : Unit {0}
unfolding digits number_of first_of second_of arrows_of entries_of assigns_of out-Val hidden-the_row-Ty-0 hidden-the_row-Val-0 hidden-the_row-Entry-1 hidden-the_row-Assign-2 shown-the_row-Val-0 shown-the_row-Entry-1 shown-the_row-Assign-2 Carrier.hidden Carrier.shown Carrier.out all_ends name_or_number arrow_name element_name ends_of pair_text sieve_text entry_text subset_text assign_text function_text value_text typed_text tuple_text tuples_line tuples_line_at tuples_list type_text functor_of number_prefix topology_prefix topology_text declared_functor element_of element_along_text tested_of tested_at refusal_line heading answer_lines lines_from cells_line end_line report empty_document
opened = tt

tuple : List Val → Tuple
tuple vals = record { vals = vals }

-- pairs of elements of a functor
pair : ℕ → ℕ → Tuple
unfolding tuple
pair m n = tuple (El m ∷ El n ∷ [])

-- a statement that no line of these examples depends on
anything : Stmt
anything = Empty 0

-- graphs, with a loop l and two edges e and f from p to q
graphs : Doc
unfolding opened
graphs = record empty_document {
  objects = codes "V" ∷ codes "E" ∷ [];
  arrows = codes "s" ∷ codes "t" ∷ [];
  cat = record { objects = 2; ends = (0, 1) ∷ (0, 1) ∷ []; listed = [] };
  site_len = 2;
  functors = record { name = codes "G"; elements = Some ((codes "p" ∷ codes "q" ∷ []) ∷ (codes "e" ∷ codes "f" ∷ codes "l" ∷ []) ∷ []) } ∷ [];
  stmts = anything ∷ anything ∷ anything ∷ [];
}

of_pairs : List (List Tuple) → Answer
of_pairs stages = Shown (record { types = Base 0 ∷ Base 0 ∷ [] }) stages

equal_edges : report graphs
    (Quiet
    ∷ of_pairs ((pair 0 0 ∷ pair 1 1 ∷ []) ∷ (pair 0 0 ∷ pair 1 1 ∷ pair 2 2 ∷ []) ∷ [])
    ∷ of_pairs ((pair 0 1 ∷ pair 1 0 ∷ []) ∷ (pair 0 2 ∷ pair 1 2 ∷ pair 2 0 ∷ pair 2 1 ∷ []) ∷ []) ∷ []) (Whole 84)
    ≡ codes "4 show\nV: (p, p) (q, q)\nE: (e, e) (f, f) (l, l)\n5 show\nV: (p, q) (q, p)\nE: (e, l) (f, l) (l, e) (l, f)\ncells 84\n"
unfolding opened tuple pair graphs of_pairs
equal_edges = refl

-- sieves, and no space behind the colon where there is no item
sieves : report graphs (Shown (record { types = Omega ∷ [] }) ([] ∷ (tuple (Sv [] ∷ []) ∷ tuple (Sv (1 ∷ 2 ∷ 3 ∷ []) ∷ []) ∷ []) ∷ []) ∷ []) (Whole 24)
    ≡ codes "3 show\nV:\nE: ({}) ({id E, s, t})\ncells 24\n"
unfolding opened tuple graphs
sieves = refl

-- sets with an idempotent r, and functors X with elements a and b, and Y without names
monoid : Doc
unfolding opened
monoid = record empty_document {
  objects = codes "U" ∷ [];
  arrows = codes "r" ∷ [];
  cat = record { objects = 1; ends = (0, 0) ∷ []; listed = (1, 1, 1) ∷ [] };
  site_len = 3;
  functors = record { name = codes "X"; elements = Some ((codes "a" ∷ codes "b" ∷ []) ∷ []) } ∷ record { name = codes "Y"; elements = None } ∷ [];
  stmts = Presheaf 0 (record { sizes = 2 ∷ []; along = [] }) ∷ [];
}

singletons : value_text monoid (Pow (Base 0)) 0 (Sub (record { arrow = 0; val = El 1 } ∷ record { arrow = 1; val = El 0 } ∷ [])) ≡ codes "{id U: b, r: a}"
unfolding opened monoid
singletons = refl

functions : value_text monoid (Fun (Base 0) (Base 1)) 0 (Fn (record { arrow = 0; val = El 0; to = El 1 } ∷ record { arrow = 1; val = El 1; to = El 0 } ∷ [])) ≡ codes "{id U: a -> #1, r: b -> #0}"
unfolding opened monoid
functions = refl

pairs : value_text monoid (Two (Base 0) (Base 1)) 0 (Both (El 0) (El 1)) ≡ codes "(a, #1)"
unfolding opened monoid
pairs = refl

no_variables : tuple_text monoid [] 0 (record { vals = [] }) ≡ codes "()"
unfolding opened
no_variables = refl

swap_refused : report monoid [] (Refused (Some 4) (NotFunctorial 1 1 0)) ≡ codes "4 refused 52 not functorial: r, r, a\n"
unfolding opened monoid
swap_refused = refl

site_refused : report graphs [] (Refused None (NotAssociative 2 2 3)) ≡ codes "refused 33 not associative: s, s, t\n"
unfolding opened graphs
site_refused = refl

cover_refused : report graphs [] (Refused None (NotStable 0 1 (2 ∷ []) 3)) ≡ codes "refused 40 not stable: E, {s}, t\n"
unfolding opened graphs
cover_refused = refl

type_refused : report monoid [] (Refused (Some 4) (Expected (Two (Base 0) (Pow Omega)) (Fun (Base 1) (Base 0)))) ≡ codes "4 refused 60 expected: (X * Pow Omega), found: (Y -> X)\n"
unfolding opened monoid
type_refused = refl

partial_refused : report monoid [] (Refused (Some 4) (NotTotal 1 1)) ≡ codes "4 refused 51 not total: r, b\n"
unfolding opened monoid
partial_refused = refl

ends_refused : report monoid [] (Refused None (CompositeEnds 1 1 0)) ≡ codes "refused 32 composite ends: r, r, id U\n"
unfolding opened monoid
ends_refused = refl

text_refused : report empty_document [] (Refused None NotBuilt) ≡ codes "refused 11 not built\n"
unfolding opened
text_refused = refl
