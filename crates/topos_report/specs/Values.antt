-- How the elements of a type at an object are spelled.
use Rattle.std.specs.Prelude.{ℕ, List, ◌++◌, codes, get_or}
use Rattle.std.specs.List.{zip}
use Rattle.topos_model.specs.declared.ty.Ty.{Ty, Base, One, Omega, Two', Pow', Fun', more_of-Ty as only, end_of-Ty as end}
use Rattle.topos_model.specs.declared.value.Val.{Val}
use Rattle.topos_model.specs.declared.value.Entry.{Entry}
use Rattle.topos_model.specs.declared.value.Assign.{Assign}
use Rattle.topos_model.specs.declared.answer.Tuple.{Tuple}
use Rattle.topos_model.specs.declared.doc.Doc.{Doc}
use Rattle.topos_model.specs.categories.Listed.{all_ends}
use Rattle.topos_model.specs.types.Values.{number_of, first_of, second_of, arrows_of, entries_of, assigns_of}
use Rattle.topos_report.specs.Lists.{comma_separated}
use Rattle.topos_report.specs.Names.{arrow_name, element_name}

module _ (doc : Doc) where
  -- the domain and the codomain of an arrow
  unfoldable pub ends_of : ℕ → ℕ × ℕ
  ends_of f = get_or (all_ends doc.cat) f (0, 0)

  -- each former, from the spelling of its parts; a value beside an arrow stands at the arrow's domain
  unfoldable pub pair_text : (Val → List ℕ) → (Val → List ℕ) → Val → List ℕ
  pair_text left right v = codes "(" ++ left (first_of v) ++ codes ", " ++ right (second_of v) ++ codes ")"

  unfoldable pub sieve_text : List ℕ → List ℕ
  sieve_text arrows = codes "{" ++ comma_separated (arrow_name doc) arrows ++ codes "}"

  unfoldable pub entry_text : (ℕ → Val → List ℕ) → Entry → List ℕ
  entry_text of e = arrow_name doc e.arrow ++ codes ": " ++ of (ends_of e.arrow).0 e.val

  unfoldable pub subset_text : (ℕ → Val → List ℕ) → List Entry → List ℕ
  subset_text of entries = codes "{" ++ comma_separated (entry_text of) entries ++ codes "}"

  unfoldable pub assign_text : (ℕ → Val → List ℕ) → (ℕ → Val → List ℕ) → Assign → List ℕ
  assign_text from to a = arrow_name doc a.arrow ++ codes ": " ++ from (ends_of a.arrow).0 a.val ++ codes " -> " ++ to (ends_of a.arrow).0 a.to

  unfoldable pub function_text : (ℕ → Val → List ℕ) → (ℕ → Val → List ℕ) → List Assign → List ℕ
  function_text from to assigns = codes "{" ++ comma_separated (assign_text from to) assigns ++ codes "}"

  -- the value v of the type at the object c
  unfoldable pub value_text : Ty → ℕ → Val → List ℕ
  value_text (Base n) c v = element_name doc n c (number_of v)
  value_text One c v = codes "()"
  value_text Omega c v = sieve_text (arrows_of v)
  value_text (Two' _ (only S end) _ (only T end)) c v = pair_text (value_text S c) (value_text T c) v
  value_text (Pow' _ (only T end)) c v = subset_text (value_text T) (entries_of v)
  value_text (Fun' _ (only S end) _ (only T end)) c v = function_text (value_text S) (value_text T) (assigns_of v)

  -- a value beside its type
  unfoldable pub typed_text : ℕ → Ty × Val → List ℕ
  typed_text c p = value_text p.0 c p.1

  -- the values of variables of these types
  unfoldable pub tuple_text : List Ty → ℕ → Tuple → List ℕ
  tuple_text types c tuple = codes "(" ++ comma_separated (typed_text c) (zip types tuple.vals) ++ codes ")"
