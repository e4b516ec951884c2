-- Worked examples, by computation: the documents that short texts spell, and the first faults of others.
use Rattle.std.specs.Prelude.{◌≡◌, true, false, [], ◌∷◌, codes, refl, Some, None, Err}
use Rattle.std.proofs.Common.{arith}
use Rattle.std.specs.Char.{encode_utf8}
use Rattle.topos_model.specs.declared.doc.Doc.{Doc}
use Rattle.topos_model.specs.declared.term.Term.{Truth}
use Rattle.topos_model.specs.declared.stmt.Stmt.TheVariants.{Valid}
use Rattle.topos_model.specs.declared.fault.Fault.TheVariants.{TooMany, BadToken, Syntax, NameTwice, NameUnknown}
use Rattle.topos_model.specs.declared.fault.Kind.TheVariants as kind
use Rattle.topos_text.specs.Names.{for_each, change_by, limit_fault, twice_fault, new_fault, again_fault, number_in, look_up, known, topology_of}
use Rattle.topos_text.specs.TermNames.{type_of, term_of, context_of}
use Rattle.topos_text.specs.SiteNames.{objects_in, object_of, arrow_of, arrow_into, with_object, with_arrow, site_statement, cover_of}
use Rattle.topos_text.specs.StatementNames.{elements_at, with_element, with_entry, with_section, stages_of, raw_functor, statement_of, with_map_at, element_names, element_of, with_mapping}
use Rattle.topos_text.specs.Resolving.{numbered, in_turn, with_cover, only_topology, with_topology, with_statement, resolved, Resolves}
use Rattle.topos_text.specs.Limits.{begins_limited, is_limited, run_fault, name_len_fault, run_after, token_fault}
use Rattle.topos_text.specs.TextFaults.{Spells, TextFault, bad_token, no_document, at_name}
use Rattle.topos_text.proofs.WorkedTokens.{one_object, one_object_tokens, one_object_lex, twice, twice_lex, unknown, unknown_lex, two_topologies, two_topologies_tokens, two_topologies_lex, unfinished, unfinished_lex, unopened, unopened_lex, dollar, dollar_is_bad}
use Rattle.topos_text.proofs.WorkedPlaces.{unfinished_place, unopened_place}
use Rattle.topos_text.proofs.WorkedDerivations.{one_object_tree, one_object_document, twice_tree, twice_document, unknown_document, two_topologies_tree, two_topologies_document}

unfoldable pub opened : Unit {0}
unfolding for_each change_by limit_fault twice_fault new_fault again_fault number_in look_up known topology_of type_of term_of context_of objects_in object_of arrow_of arrow_into with_object with_arrow site_statement cover_of elements_at with_element with_entry with_section stages_of raw_functor statement_of numbered in_turn with_cover only_topology with_topology with_statement resolved with_map_at element_names element_of with_mapping begins_limited is_limited run_fault name_len_fault run_after token_fault
opened = tt

-- a document with one object, and without statements behind its site
abbrev one_object_doc : Doc
one_object_doc = record {
  version = 1;
  objects = codes "U" ∷ [];
  arrows = [];
  cat = record { objects = 1; ends = []; listed = [] };
  tops = record { name = None; dense = false; covers = [] } ∷ [];
  site_len = 1;
  functors = [];
  maps = [];
  stmts = [];
  cats = [];
  cat_functors = [];
  on_functors = [];
  on_maps = [];
}

one_object_resolves : Resolves one_object_tree one_object_doc
unfolding opened
one_object_resolves = refl

one_object_spells : Spells one_object one_object_doc
one_object_spells = record { tokens = one_object_tokens; tree = one_object_tree; lex = one_object_lex; derives = one_object_document; resolves = one_object_resolves }

abbrev two_topologies_doc : Doc
two_topologies_doc = record one_object_doc {
  version = 2;
  tops = record { name = None; dense = false; covers = [] } ∷ record { name = Some (codes "J"); dense = true; covers = [] } ∷ [];
  site_len = 3;
  stmts = Valid 1 (record { types = [] }) Truth ∷ [];
}

two_topologies_resolves : Resolves two_topologies_tree two_topologies_doc
unfolding opened
two_topologies_resolves = refl

two_topologies_spells : Spells two_topologies two_topologies_doc
two_topologies_spells =
    record { tokens = two_topologies_tokens; tree = two_topologies_tree; lex = two_topologies_lex; derives = two_topologies_document; resolves = two_topologies_resolves }

-- the second U is token 4
twice_fault_at : TextFault twice (NameTwice 4 (codes "U"))
unfolding opened
twice_fault_at = at_name (omega arith) twice_lex refl twice_document refl

-- A is token 4, and the first name that is not there
unknown_fault_at : TextFault unknown (NameUnknown 4 (codes "A"))
unfolding opened
unknown_fault_at = at_name (omega arith) unknown_lex refl unknown_document refl

unfinished_fault : TextFault unfinished (Syntax 3)
unfolding opened
unfinished_fault = no_document (omega arith) unfinished_lex refl unfinished_place

unopened_fault : TextFault unopened (Syntax 4)
unfolding opened
unopened_fault = no_document (omega arith) unopened_lex refl unopened_place

dollar_fault : TextFault dollar (BadToken 10)
unfolding encode_utf8
dollar_fault = bad_token (omega arith) (codes "object U; $", (refl, refl)) dollar_is_bad

-- a second object, where one is the limit
too_many_objects : resolved (λ k. Some 1) twice_tree ≡ Err (TooMany kind.Objects 1)
unfolding opened
too_many_objects = refl
