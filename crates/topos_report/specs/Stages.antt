-- Lists of tuples at each object.
use Rattle.std.specs.Prelude.{ℕ, List, [], ◌++◌, get_or, codes, flat_map}
use Rattle.std.specs.List.{range_with_len}
use Rattle.topos_model.specs.declared.ty.Ty.{Ty}
use Rattle.topos_model.specs.declared.answer.Tuple.{Tuple}
use Rattle.topos_model.specs.declared.doc.Doc.{Doc}
use Rattle.topos_report.specs.Names.{object_name}
use Rattle.topos_report.specs.Values.{tuple_text}

module _ (doc : Doc) (types : List Ty) where
  -- the object's name, and behind a space each tuple
  unfoldable pub tuples_line : ℕ → List Tuple → List ℕ
  tuples_line c tuples = object_name doc c ++ codes ":" ++ flat_map (λ t. codes " " ++ tuple_text doc types c t) tuples ++ codes "\n"

  unfoldable pub tuples_line_at : List (List Tuple) → ℕ → List ℕ
  tuples_line_at stages c = tuples_line c (get_or stages c [])

  -- a line for each object
  unfoldable pub tuples_list : List (List Tuple) → List ℕ
  tuples_list stages = flat_map (tuples_line_at stages) (range_with_len 0 doc.cat.objects)
