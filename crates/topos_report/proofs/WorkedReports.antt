-- Worked examples, by computation: the lines of each answer, of refusals and of ends.
use Rattle.std.specs.Prelude.{◌≡◌, true, false, List, [], ◌∷◌, Some, None, codes, refl}
use Rattle.std.specs.Fmt.{digits}
use denote.Hole.Carrier
use Rattle.topos_model.specs.declared.ty.Ty.{Base, One, Omega, Two, Pow, Fun}
use Rattle.topos_model.specs.declared.ty.Ty.TheBlock.{hidden-the_row-Ty-0}
use Rattle.topos_model.specs.declared.term.Term.{Term, Var, Eq, Not, Truth, Exists}
use Rattle.topos_model.specs.declared.term.Term.TheBlock.{hidden-the_row-Term-0}
use Rattle.topos_model.specs.declared.value.Val.{out-Val, El}
use Rattle.topos_model.specs.declared.value.Val.TheBlock.{hidden-the_row-Val-0, hidden-the_row-Entry-1, hidden-the_row-Assign-2, shown-the_row-Val-0, shown-the_row-Entry-1, shown-the_row-Assign-2}
use Rattle.topos_model.specs.declared.answer.WhyNode.{WhyNode, out-WhyNode, roll-WhyNode}
use Rattle.topos_model.specs.declared.answer.WhyNode.TheBlock.{hidden-the_row-WhyNode-0, shown-the_row-WhyNode-0}
use Rattle.topos_model.specs.declared.answer.Answer.TheVariants.{Built, Classified, Verdict, NotSheaf, Maps, Why, Derived, Local, NotLocal, Kan}
use Rattle.topos_model.specs.declared.answer.End.TheVariants.{Whole, Checked, Refused, Budget}
use Rattle.topos_model.specs.declared.answer.MapShape.{MapShape}
use Rattle.topos_model.specs.declared.answer.Tuple.{Tuple}
use Rattle.topos_model.specs.declared.fault.Kind.TheVariants as kind
use Rattle.topos_model.specs.declared.fault.Fault.TheVariants.{Syntax, TooMany, NameTwice, CompositeMissing, NotAssociative, NotStable, NotTotal, NotNatural, NoElement, NoTuple, Expected, NotASheaf, NotParallel, BadStep, NotSent, FunctorLaw}
use Rattle.topos_model.specs.declared.stmt.Stmt.{Stmt}
use Rattle.topos_model.specs.declared.stmt.Stmt.TheVariants as statement
use Rattle.topos_model.specs.declared.doc.Doc.{Doc}
use Rattle.topos_model.specs.categories.Listed.{all_ends}
use Rattle.topos_model.specs.types.Values.{number_of, first_of, second_of, arrows_of, entries_of, assigns_of}
use Rattle.topos_model.specs.certificates.CertificateNodes.{side_of, arrow_of, extra_of, verdict, kids_of}
use Rattle.topos_report.specs.Names.{name_or_number, arrow_name, element_name, arrow_in, place_text, second_naming}
use Rattle.topos_report.specs.Values.{ends_of, pair_text, sieve_text, entry_text, subset_text, assign_text, function_text, value_text, typed_text, tuple_text}
use Rattle.topos_report.specs.Stages.{tuples_line, tuples_line_at, tuples_list}
use Rattle.topos_report.specs.Refusals.{number_prefix, kind_text, token_text, topology_prefix, topology_text}
use Rattle.topos_report.specs.TypeTexts.{type_text}
use Rattle.topos_report.specs.Statements.{word_of, made_maps, tested_maps, statement_at, made_name, naming_of, elements_of}
use Rattle.topos_report.specs.Tables.{arrow_text, numbers_line, along_line, shape_lines, pair_entry, map_line, map_lines}
use Rattle.topos_report.specs.CertificateLines.{verdict_text, side_text, extra_text, child_text, node_line, node_lines}
use Rattle.topos_report.specs.FaultTexts.{subject_of, subject_at, element_along_text, sent_text, fault_text, fault_line}
use Rattle.topos_report.specs.AnswerLines.{heading, why_formula, unforced_line, verdict_lines, classified_line, classified_at, member_text, failing_family, made_heading, built_lines, listed_map_lines, unit_line, from_names, to_names, unit_lines, kan_lines, cover_line, why_heading, answer_text}
use Rattle.topos_report.specs.Report.{cells_line}
use Rattle.topos_report.specs.WholeReport.{texts_from, ending, whole_report}
use Rattle.topos_report.specs.EmptyDocument.{empty_document}

-- what the examples compute with
opened : Unit {0}
unfolding digits number_of first_of second_of arrows_of entries_of assigns_of out-Val out-WhyNode roll-WhyNode hidden-the_row-Ty-0 hidden-the_row-Term-0 hidden-the_row-Val-0 hidden-the_row-Entry-1 hidden-the_row-Assign-2 shown-the_row-Val-0 shown-the_row-Entry-1 shown-the_row-Assign-2 hidden-the_row-WhyNode-0 shown-the_row-WhyNode-0 Carrier.hidden Carrier.shown Carrier.out all_ends side_of arrow_of extra_of verdict kids_of name_or_number arrow_name element_name arrow_in place_text second_naming ends_of pair_text sieve_text entry_text subset_text assign_text function_text value_text typed_text tuple_text tuples_line tuples_line_at tuples_list number_prefix type_text word_of made_maps tested_maps statement_at made_name naming_of elements_of arrow_text numbers_line along_line shape_lines pair_entry map_line map_lines verdict_text side_text extra_text child_text node_line node_lines kind_text token_text topology_prefix subject_of subject_at topology_text element_along_text sent_text fault_text fault_line heading why_formula unforced_line verdict_lines classified_line classified_at member_text failing_family made_heading built_lines listed_map_lines unit_line from_names to_names unit_lines kan_lines cover_line why_heading answer_text cells_line texts_from ending whole_report empty_document
opened = tt

-- on two parallel arrows: K with one edge k from a to b, and L that some statement made
abbrev graphs : List Stmt → Doc
unfolding empty_document
graphs stmts = record empty_document {
  objects = codes "V" ∷ codes "E" ∷ [];
  arrows = codes "s" ∷ codes "t" ∷ [];
  cat = record { objects = 2; ends = (0, 1) ∷ (0, 1) ∷ []; listed = [] };
  site_len = 2;
  functors = record { name = codes "K"; elements = Some ((codes "a" ∷ codes "b" ∷ []) ∷ (codes "k" ∷ []) ∷ []) } ∷ record { name = codes "L"; elements = None } ∷ [];
  maps = codes "i" ∷ codes "m" ∷ [];
  stmts = stmts;
}

abbrev no_variables : List (List Tuple)
no_variables = [] ∷ (record { vals = [] } ∷ []) ∷ []

-- verdicts name the objects with tuples that are not forced
valid : whole_report (graphs (statement.Valid 0 (record { types = [] }) Truth ∷ [])) (Verdict (record { types = [] }) ([] ∷ [] ∷ []) ∷ []) (Whole 30)
    ≡ codes "3 valid\ncells 30\n"
unfolding opened
valid = refl

not_valid : whole_report (graphs (statement.Valid 0 (record { types = [] }) Truth ∷ [])) (Verdict (record { types = [] }) no_variables ∷ []) (Whole 30)
    ≡ codes "3 not valid\nE: ()\ncells 30\n"
unfolding opened
not_valid = refl

classified : whole_report (graphs (statement.Classify 0 (record { types = Base 0 ∷ [] }) Truth ∷ []))
    (Classified (record { types = Base 0 ∷ [] }) (((record { vals = El 1 ∷ [] }, 0 ∷ []) ∷ []) ∷ ((record { vals = El 0 ∷ [] }, 2 ∷ 3 ∷ []) ∷ []) ∷ []) ∷ []) (Whole 60)
    ≡ codes "3 classify\nV (b): {id V}\nE (k): {s, t}\ncells 60\n"
unfolding opened
classified = refl

-- a functor that a statement made has its elements by number
built : whole_report (graphs (statement.Sub 0 1 (Base 0) Truth 0 ∷ []))
    (Built (record { sizes = 2 ∷ 0 ∷ []; along = [] ∷ [] ∷ [] })
    (record { ends = record { dom = Base 1; cod = Base 0 }; stages = ((El 0, El 0) ∷ (El 1, El 1) ∷ []) ∷ [] ∷ [] } ∷ []) ∷ []) (Whole 60)
    ≡ codes "3 sub L\nV: #0 #1\nE:\nalong s:\nalong t:\nmap i\nV: #0 -> a, #1 -> b\nE:\ncells 60\n"
unfolding opened
built = refl

abbrev onto_edge : MapShape
onto_edge = record { ends = record { dom = Base 0; cod = Base 1 }; stages = ((El 0, El 0) ∷ (El 1, El 1) ∷ []) ∷ ((El 0, El 0) ∷ []) ∷ [] }

listed_maps : whole_report (graphs (statement.Hom 0 1 ∷ [])) (Maps (onto_edge ∷ []) ∷ []) (Whole 36)
    ≡ codes "3 hom 1\nmap #0\nV: a -> #0, b -> #1\nE: k -> #0\ncells 36\n"
unfolding opened
listed_maps = refl

not_separated : whole_report (graphs (statement.Sheaf 0 0 ∷ [])) (NotSheaf 0 0 [] [] (Some (0, 1)) ∷ []) (Budget 4)
    ≡ codes "3 not a sheaf\nat V cover {} family {} found a, b\n4 budget\n"
unfolding opened
not_separated = refl

no_amalgamation : whole_report (graphs (statement.Sheaf 0 0 ∷ [])) (NotSheaf 0 1 (2 ∷ 3 ∷ []) (0 ∷ 0 ∷ []) None ∷ []) (Refused (Some 4) (NotASheaf 0))
    ≡ codes "3 not a sheaf\nat E cover {s, t} family {s: a, t: a} found none\n4 refused 62 not a sheaf: K\n"
unfolding opened
no_amalgamation = refl

local : whole_report (graphs (statement.Local 1 ∷ [])) (Local ((0 ∷ []) ∷ (2 ∷ 3 ∷ []) ∷ []) ∷ []) (Whole 24)
    ≡ codes "3 local\nV: {id V}\nE: {s, t}\ncells 24\n"
unfolding opened
local = refl

not_local : whole_report (graphs (statement.Local 1 ∷ [])) (NotLocal 1 0 [] ∷ []) (Whole 24) ≡ codes "3 not local\nlaw 1 at V\ncells 24\n"
unfolding opened
not_local = refl

no_meet : whole_report (graphs (statement.Local 1 ∷ [])) (NotLocal 3 1 ((2 ∷ []) ∷ (3 ∷ []) ∷ []) ∷ []) (Whole 24) ≡ codes "3 not local\nlaw 3 at E: {s}, {t}\ncells 24\n"
unfolding opened
no_meet = refl

derived : whole_report (graphs (statement.Derive 0 (record { steps = [] }) ∷ [])) (Derived 3 ∷ []) (Whole 4) ≡ codes "3 derived 3\ncells 4\n"
unfolding opened
derived = refl

-- why no element is other than k
abbrev other : Term
other = Exists (Base 0) (Not (Eq (Var 1) (Var 0)))

leaf : WhyNode
leaf = roll-WhyNode (record { side = None; arrow = 1; extra = None; yes = true; kids = [] })

below : WhyNode
unfolding leaf
below = roll-WhyNode (record { side = None; arrow = 1; extra = Some (El 0); yes = false; kids = leaf ∷ [] })

reason : WhyNode
unfolding below
reason = roll-WhyNode (record { side = None; arrow = 1; extra = None; yes = false; kids = below ∷ [] })

why : whole_report (graphs (statement.Why 0 1 0 (record { types = Base 0 ∷ [] }) other ∷ [])) (Why reason ∷ []) (Whole 47)
    ≡ codes "3 why not forced\n0 no\n1 id E with k no\n2 id E yes\ncells 47\n"
unfolding opened reason below leaf Carrier.roll
why = refl

-- a second category with one object d, and a presheaf P on it with elements p and q
abbrev with_point : List Stmt → Doc
unfolding empty_document
with_point stmts = record (graphs stmts) {
  cats = record { name = codes "D"; objects = codes "d" ∷ []; arrows = codes "u" ∷ []; cat = record { objects = 1; ends = (0, 0) ∷ []; listed = [] } } ∷ [];
  on_functors = record { name = codes "P"; cat = 0; elements = Some ((codes "p" ∷ codes "q" ∷ []) ∷ []) } ∷ record { name = codes "Y"; cat = 0; elements = None } ∷ [];
  on_maps = codes "e" ∷ [];
}

extended : whole_report (with_point (statement.Lan 0 0 1 0 ∷ [])) (Kan (record { sizes = 2 ∷ 0 ∷ []; along = [] ∷ [] ∷ [] }) (Some ((0 ∷ 1 ∷ []) ∷ [])) ∷ []) (Whole 28)
    ≡ codes "3 lan L\nV: #0 #1\nE:\nalong s:\nalong t:\nmap e\nd: p -> #0, q -> #1\ncells 28\n"
unfolding opened
extended = refl

extended_right : whole_report (with_point (statement.Ran 0 0 1 0 ∷ [])) (Kan (record { sizes = 2 ∷ 1 ∷ []; along = (1 ∷ []) ∷ (0 ∷ []) ∷ [] }) (Some ((0 ∷ 1 ∷ []) ∷ [])) ∷ []) (Whole 28)
    ≡ codes "3 ran L\nV: #0 #1\nE: #0\nalong s: #0 -> #1\nalong t: #0 -> #0\nmap e\nd: #0 -> p, #1 -> q\ncells 28\n"
unfolding opened
extended_right = refl

restricted : whole_report (with_point (statement.Along 0 1 1 ∷ [])) (Kan (record { sizes = 1 ∷ []; along = (0 ∷ []) ∷ [] }) None ∷ []) (Whole 12)
    ≡ codes "3 functor Y\nd: #0\nalong u: #0 -> #0\ncells 12\n"
unfolding opened
restricted = refl

-- a check has two lines
checked : whole_report (graphs []) [] (Checked 3 16) ≡ codes "checked 3\ncells 16\n"
unfolding opened
checked = refl

-- refusals of texts
syntax : ending empty_document (Refused None (Syntax 3)) ≡ codes "refused 13 syntax: token 3\n"
unfolding opened
syntax = refl

too_many : ending empty_document (Refused None (TooMany kind.Document 1048576)) ≡ codes "refused 14 too many: document 1048576\n"
unfolding opened
too_many = refl

name_twice : ending empty_document (Refused None (NameTwice 4 (codes "U"))) ≡ codes "refused 20 name twice: token 4 U\n"
unfolding opened
name_twice = refl

-- of sites
composite_missing : ending (graphs []) (Refused None (CompositeMissing 3 2)) ≡ codes "refused 30 composite missing: t, s\n"
unfolding opened
composite_missing = refl

not_stable : ending (graphs []) (Refused None (NotStable 0 1 [] 2)) ≡ codes "refused 40 not stable: E, {}, s\n"
unfolding opened
not_stable = refl

-- with the topology's name, where it has one
not_stable_under : ending (record (graphs []) { tops = record { name = None; dense = false; covers = [] } ∷ record { name = Some (codes "J"); dense = false; covers = [] } ∷ [] })
    (Refused None (NotStable 1 1 [] 2)) ≡ codes "refused 40 not stable: J, E, {}, s\n"
unfolding opened
not_stable_under = refl

-- of statements: elements by the names of the presheaf or of the map's domain, arrows by those of the statement's category
not_total : ending (graphs (statement.Presheaf 0 (record { sizes = []; along = [] }) ∷ [])) (Refused (Some 3) (NotTotal 2 0)) ≡ codes "3 refused 51 not total: s, k\n"
unfolding opened
not_total = refl

not_natural : ending (graphs (statement.Map 1 0 0 (record { entries = [] }) ∷ [])) (Refused (Some 3) (NotNatural 3 0)) ≡ codes "3 refused 54 not natural: t, k\n"
unfolding opened
not_natural = refl

no_element : ending (graphs (statement.Map 1 0 0 (record { entries = [] }) ∷ [])) (Refused (Some 3) (NoElement 0 1)) ≡ codes "3 refused 55 no such element: V, #1\n"
unfolding opened
no_element = refl

no_tuple : ending (graphs []) (Refused (Some 4) (NoTuple 0 2)) ≡ codes "4 refused 56 no such tuple: V, #2\n"
unfolding opened
no_tuple = refl

expected : ending (graphs []) (Refused (Some 3) (Expected (Two (Base 0) (Pow Omega)) (Fun (Base 1) One))) ≡ codes "3 refused 60 expected: (K * Pow Omega), found: (L -> One)\n"
unfolding opened
expected = refl

not_parallel : ending (graphs (statement.Equalizer 1 0 1 0 ∷ [])) (Refused (Some 3) NotParallel) ≡ codes "3 refused 70 ends: m, i\n"
unfolding opened
not_parallel = refl

one_map : ending (graphs (statement.Image 1 1 0 0 ∷ [])) (Refused (Some 3) NotParallel) ≡ codes "3 refused 70 ends: m\n"
unfolding opened
one_map = refl

second_category : ending (with_point (statement.Category 0 ∷ [])) (Refused (Some 3) (NotAssociative 1 1 1)) ≡ codes "3 refused 33 not associative: u, u, u\n"
unfolding opened
second_category = refl

not_sent : ending (with_point (statement.CatFunctor 0 0 (record { at = []; along = [] }) ∷ [])) (Refused (Some 3) (NotSent false 0)) ≡ codes "3 refused 81 not sent: d\n"
unfolding opened
not_sent = refl

functor_law : ending (with_point (statement.CatFunctor 0 0 (record { at = []; along = [] }) ∷ [])) (Refused (Some 3) (FunctorLaw 1 1)) ≡ codes "3 refused 83 functor law: u, u\n"
unfolding opened
functor_law = refl

bad_step : ending (graphs []) (Refused (Some 2) (BadStep 0)) ≡ codes "2 refused 80 bad step: #0\n"
unfolding opened
bad_step = refl
