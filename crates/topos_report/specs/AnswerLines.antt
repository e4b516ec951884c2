-- The lines of each answer.
use Rattle.std.specs.Prelude.{ℕ, Bool, true, false, cond, List, [], ◌∷◌, ◌++◌, map, length, get_or, codes, decimal, flat_map, Option, Some, None}
use Rattle.std.specs.List.{list_all, slice_get, zip, range_with_len}
use Rattle.topos_model.specs.declared.ty.Ty.{Ty}
use Rattle.topos_model.specs.declared.term.Term.{Term, Truth}
use Rattle.topos_model.specs.declared.doc.Doc.{Doc}
use Rattle.topos_model.specs.declared.stmt.Stmt.{Stmt}
use Rattle.topos_model.specs.declared.stmt.Stmt.TheVariants as statement
use Rattle.topos_model.specs.declared.answer.Answer.{Answer}
use Rattle.topos_model.specs.declared.answer.Answer.TheVariants.{Quiet, Built, Shown, Classified, Verdict, Sheaf, NotSheaf, Maps, Why, Derived, Local, NotLocal, Kan}
use Rattle.topos_model.specs.declared.answer.Shape.{Shape}
use Rattle.topos_model.specs.declared.answer.MapShape.{MapShape}
use Rattle.topos_model.specs.declared.answer.Tuple.{Tuple}
use Rattle.topos_model.specs.certificates.CertificateNodes.{verdict}
use Rattle.topos_report.specs.Lists.{comma_separated}
use Rattle.topos_report.specs.Names.{Naming, naming, second_naming, object_in, object_name, arrow_name, element_name, name_or_number, place_text, map_name, on_map_name, on_functor}
use Rattle.topos_report.specs.Values.{ends_of, sieve_text, tuple_text}
use Rattle.topos_report.specs.Stages.{tuples_line, tuples_list}
use Rattle.topos_report.specs.Statements.{word_of, made_maps, made_name}
use Rattle.topos_report.specs.Tables.{entries_line, with_places, shape_lines, map_lines}
use Rattle.topos_report.specs.CertificateLines.{node_lines}

-- the statement's number and a text
unfoldable pub heading : ℕ → List ℕ → List ℕ
heading k text = decimal k ++ codes " " ++ text ++ codes "\n"

abbrev pub is_empty : {A : Type 0} → List A → Bool
is_empty [] = true
is_empty (a ∷ rest) = false

-- the two amalgamations that were found at c, or none
abbrev pub found_text : (ℕ → List ℕ) → Option (ℕ × ℕ) → List ℕ
found_text spelling None = codes "none"
found_text spelling (Some p) = spelling p.0 ++ codes ", " ++ spelling p.1

-- the formula of a statement that asks why
unfoldable pub why_formula : Stmt → Term
why_formula (statement.Why j at n ctx φ) = φ
why_formula _ = Truth

-- the rows of a map, where there is one
abbrev pub rows_of : Option (List (List ℕ)) → List (List ℕ)
rows_of None = []
rows_of (Some rows) = rows

module _ (doc : Doc) where
  -- the tuples of an object that has some
  unfoldable pub unforced_line : List Ty → List (List Tuple) → ℕ → List ℕ
  unforced_line types stages c = elim (get_or stages c []) [ [] ↦ [] | t ∷ rest ↦ tuples_line doc types c (t ∷ rest) ]

  -- valid, or the objects at which it is not
  unfoldable pub verdict_lines : ℕ → List Ty → List (List Tuple) → List ℕ
  verdict_lines k types stages =
      cond (list_all is_empty stages) (heading k (codes "valid"))
      (heading k (codes "not valid") ++ flat_map (unforced_line types stages) (range_with_len 0 doc.cat.objects))

  -- a tuple at c and the arrows along which the formula is forced
  unfoldable pub classified_line : List Ty → ℕ → Tuple × List ℕ → List ℕ
  classified_line types c p = object_name doc c ++ codes " " ++ tuple_text doc types c p.0 ++ codes ": " ++ sieve_text doc p.1 ++ codes "\n"

  unfoldable pub classified_at : List Ty → List (List (Tuple × List ℕ)) → ℕ → List ℕ
  classified_at types stages c = flat_map (classified_line types c) (get_or stages c [])

  -- an arrow of a family, and its element
  unfoldable pub member_text : ℕ → ℕ × ℕ → List ℕ
  member_text functor p = arrow_name doc p.0 ++ codes ": " ++ element_name doc functor (ends_of doc p.0).0 p.1

  -- a matching family on a cover of c, and how it fails
  unfoldable pub failing_family : ℕ → ℕ → List ℕ → List ℕ → Option (ℕ × ℕ) → List ℕ
  failing_family functor c cover family found =
      codes "at " ++ object_name doc c ++ codes " cover " ++ sieve_text doc cover ++ codes " family {" ++ comma_separated (member_text functor) (zip cover family)
      ++ codes "} found " ++ found_text (element_name doc functor c) found ++ codes "\n"

  -- a functor that the statement makes, and its maps
  unfoldable pub made_heading : ℕ → Stmt → List ℕ
  made_heading k stmt = heading k (word_of stmt ++ codes " " ++ made_name doc stmt)

  -- the functor's elements and restrictions, and its maps
  unfoldable pub built_lines : ℕ → Stmt → Shape → List MapShape → List ℕ
  built_lines k stmt shape maps =
      made_heading k stmt ++ shape_lines (naming doc) shape ++ flat_map (map_lines doc) (zip (map (map_name doc) (made_maps stmt)) maps)

  -- the map number i of a list
  unfoldable pub listed_map_lines : List MapShape → ℕ → List ℕ
  listed_map_lines maps i = elim (slice_get maps i) [ None ↦ [] | Some m ↦ map_lines doc (place_text i, m) ]

  -- the line of an object of a second category
  unfoldable pub unit_line : Naming → (ℕ → ℕ × ℕ → List ℕ) → List (List ℕ) → ℕ → List ℕ
  unit_line names spelling rows d = entries_line (object_in names d) (spelling d) (with_places (get_or rows d []))

  -- from elements of a presheaf on a second category to numbers, and back
  unfoldable pub from_names : ℕ → ℕ → ℕ × ℕ → List ℕ
  from_names on d p = name_or_number (on_functor doc on).elements d p.0 ++ codes " -> " ++ place_text p.1

  unfoldable pub to_names : ℕ → ℕ → ℕ × ℕ → List ℕ
  to_names on d p = place_text p.0 ++ codes " -> " ++ name_or_number (on_functor doc on).elements d p.1

  -- a map from or to a presheaf on a second category: its name, and a line for each object of that category
  unfoldable pub unit_lines : ℕ → ℕ → (ℕ → ℕ × ℕ → List ℕ) → List (List ℕ) → List ℕ
  unit_lines on e spelling rows =
      let names = second_naming doc (on_functor doc on).cat in
      codes "map " ++ on_map_name doc e ++ codes "\n" ++ flat_map (unit_line names spelling rows) (range_with_len 0 names.cat.objects)

  -- a functor along a functor of categories, and its map where there is one
  unfoldable pub kan_lines : ℕ → Stmt → Shape → List (List ℕ) → List ℕ
  kan_lines k (statement.Along f x on) shape rows = made_heading k (statement.Along f x on) ++ shape_lines (second_naming doc (on_functor doc on).cat) shape
  kan_lines k (statement.Lan f on z e) shape rows = made_heading k (statement.Lan f on z e) ++ shape_lines (naming doc) shape ++ unit_lines on e (from_names on) rows
  kan_lines k (statement.Ran f on z e) shape rows = made_heading k (statement.Ran f on z e) ++ shape_lines (naming doc) shape ++ unit_lines on e (to_names on) rows
  kan_lines k stmt shape rows = []

  -- the least covers of a topology
  unfoldable pub cover_line : List (List ℕ) → ℕ → List ℕ
  cover_line least c = object_name doc c ++ codes ": " ++ sieve_text doc (get_or least c []) ++ codes "\n"

  -- sieves behind a colon, where there are some
  abbrev pub sieves_text : List (List ℕ) → List ℕ
  sieves_text [] = []
  sieves_text (S ∷ rest) = codes ": " ++ comma_separated (sieve_text doc) (S ∷ rest)

  -- the verdict of a certificate
  unfoldable pub why_heading : Bool → List ℕ
  why_heading true = codes "why forced"
  why_heading false = codes "why not forced"

  -- the lines of the answer to a statement, its number being k
  unfoldable pub answer_text : ℕ → Stmt → Answer → List ℕ
  answer_text k stmt Quiet = []
  answer_text k stmt (Built shape maps) = built_lines k stmt shape maps
  answer_text k stmt (Shown ctx stages) = heading k (codes "show") ++ tuples_list doc ctx.types stages
  answer_text k stmt (Classified ctx stages) = heading k (codes "classify") ++ flat_map (classified_at ctx.types stages) (range_with_len 0 doc.cat.objects)
  answer_text k stmt (Verdict ctx stages) = verdict_lines k ctx.types stages
  answer_text k stmt Sheaf = heading k (codes "sheaf")
  answer_text k stmt (NotSheaf functor c cover family found) = heading k (codes "not a sheaf") ++ failing_family functor c cover family found
  answer_text k stmt (Maps maps) =
      heading k (codes "hom " ++ decimal (length maps)) ++ flat_map (listed_map_lines maps) (range_with_len 0 (length maps))
  answer_text k stmt (Why root) = heading k (why_heading (verdict root)) ++ node_lines doc (why_formula stmt) 0 [] root
  answer_text k stmt (Derived n) = heading k (codes "derived " ++ decimal n)
  answer_text k stmt (Local least) = heading k (codes "local") ++ flat_map (cover_line least) (range_with_len 0 doc.cat.objects)
  answer_text k stmt (NotLocal law c sieves) =
      heading k (codes "not local") ++ codes "law " ++ decimal law ++ codes " at " ++ object_name doc c ++ sieves_text sieves ++ codes "\n"
  answer_text k stmt (Kan shape rows) = kan_lines k stmt shape (rows_of rows)
