use Rattle.std.proofs.Common.{◌≤◌, map, length}
use Rattle.std.proofs.lemmas.List.{length-map}
use Rattle.std.proofs.lemmas.Result.{err_from_is_err_and}
use Rattle.topos_text.specs.Tokens.{token_of}
use Rattle.topos_text.specs.Views as view
use Rattle.topos_reader.proofs.Readings.{few_tokens, refused_for_tokens, refused_for_names, spelled, tree_of_tokens, only_spelled}
use Rattle.topos_reader.proofs.reading.read.Goals as goal

pub tree_of-requires : goal.tree_of-requires
tree_of-requires c = record { few = rw c.deref.ensures.value (rw length-map at (few_tokens c.args.bytes.now (map token_of c.in_ok-tokens.tokens.items) c.in_ok-tokens.ensures.tokens)) }

pub returns-in_err-tree-clause-refused : goal.returns-in_err-tree-clause-refused
returns-in_err-tree-clause-refused c =
    let p = err_from_is_err_and c.from_residual-in_err-tree.result c.from_residual-in_err-tree.ensures.1 in
    rw (p.1, p.2) (refused_for_tokens c.args.bytes.now (map token_of c.in_ok-tokens.tokens.items) c.in_err-tree.field-0.0 c.in_ok-tokens.ensures.tokens (rw c.deref.ensures.value at c.in_err-tree.ensures.refused))

pub returns-in_err-tree-clause-only : goal.returns-in_err-tree-clause-only
returns-in_err-tree-clause-only c = λ doc h.
    let p = err_from_is_err_and c.from_residual-in_err-tree.result c.from_residual-in_err-tree.ensures.1 in
    rw (p.1, p.2) ((rw c.deref.ensures.value at c.in_err-tree.ensures.only) h.spells.tree (tree_of_tokens c.args.bytes.now (map token_of c.in_ok-tokens.tokens.items) doc h c.in_ok-tokens.ensures.tokens))

pub returns-clause-spells : goal.returns-clause-spells
returns-clause-spells c =
    spelled c.args.bytes.now (map token_of c.in_ok-tokens.tokens.items) (view.document_of c.in_ok-tree.tree.value) c.document_of.result c.limit_laws.ensures.fit c.in_ok-tokens.ensures.tokens (rw c.deref.ensures.value at c.in_ok-tree.ensures.is_document) (rw c.deref-2.ensures at c.document_of.ensures.ok)

pub returns-clause-refused : goal.returns-clause-refused
returns-clause-refused c =
    refused_for_names c.args.bytes.now (map token_of c.in_ok-tokens.tokens.items) (view.document_of c.in_ok-tree.tree.value) c.document_of.result c.in_ok-tokens.ensures.tokens (rw c.deref.ensures.value at c.in_ok-tree.ensures.is_document) (rw c.deref-2.ensures at c.document_of.ensures.refused)

pub returns-clause-only : goal.returns-clause-only
returns-clause-only c = λ doc h.
    only_spelled c.args.bytes.now (map token_of c.in_ok-tokens.tokens.items) (view.document_of c.in_ok-tree.tree.value) c.document_of.result doc h c.limit_laws.ensures.fit
    ((rw c.deref.ensures.value at c.in_ok-tree.ensures.only) h.spells.tree (tree_of_tokens c.args.bytes.now (map token_of c.in_ok-tokens.tokens.items) doc h c.in_ok-tokens.ensures.tokens))
    (rw c.deref-2.ensures at c.document_of.ensures.ok) (rw c.deref-2.ensures at c.document_of.ensures.refused)
