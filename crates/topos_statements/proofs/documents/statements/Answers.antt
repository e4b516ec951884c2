use Rattle.std.proofs.Common.{map, subst, arith}
use Rattle.std.proofs.lemmas.List.{map_push}
use Rattle.std.proofs.lemmas.Result.{err_from_is_err_and}
use Rattle.topos_text.specs.Tokens.{token_of}
use Rattle.topos_text.specs.Views.{statement_of}
use Rattle.topos_grammar.specs.Kinds.{OfStatement, Statement}
use Rattle.topos_grammar.specs.Codes.{Any, code}
use Rattle.topos_statements.specs.Passages.{Passes, each}
use Rattle.topos_statements.specs.Views.{version_of}
use Rattle.topos_statements.proofs.Lists.{no_item_yet, item_read, item_halts, item_unclosed, items_end, behind_shorter}
use Rattle.topos_statements.proofs.Exits.{called, passes_phrase, halts_phrase, shorter_by}
use Rattle.topos_statements.proofs.Branches.{statement_starts}
use Rattle.topos_statements.proofs.DocumentEnds.{some_token, at_end, none_left}
use Rattle.topos_statements.proofs.documents.statements.Goals as goal

pub loop-rest-init : goal.loop-rest-init
loop-rest-init c = rw (c.new-statements.ensures.items, c.split_at.ensures.back) (no_item_yet OfStatement Any (called (Statement (version_of c.args.version))) (map token_of c.args.tokens.now))

pub returns-in_err-next : goal.returns-in_err-next
returns-in_err-next c =
    let p = err_from_is_err_and c.from_residual.result c.from_residual.ensures.1 in
    rw (p.1, p.2) (item_halts OfStatement Any (called (Statement (version_of c.args.version))) (map token_of c.args.tokens.now) (map token_of c.loop-rest.rest.now) (map statement_of c.loop-rest.statements.items) c.in_err-next.field-0.0 c.loop-rest.invariant (some_token c.loop-rest.rest.now c.loop-rest-test.ensures)
    (halts_phrase (Statement (version_of c.args.version)) (map token_of c.loop-rest.rest.now) c.in_err-next.field-0.0 c.in_err-next.ensures))

pub returns-in_err-after : goal.returns-in_err-after
returns-in_err-after c =
    let p = err_from_is_err_and c.from_residual-in_err-after.result c.from_residual-in_err-after.ensures.1 in
    rw (p.1, p.2) (item_unclosed OfStatement Any (called (Statement (version_of c.args.version))) (map token_of c.args.tokens.now) (map token_of c.loop-rest.rest.now) (map token_of c.in_ok-next.behind.now) (map statement_of c.loop-rest.statements.items) (statement_of c.in_ok-next.next.value) c.in_err-after.field-0.0 c.loop-rest.invariant (some_token c.loop-rest.rest.now c.loop-rest-test.ensures)
    (passes_phrase (Statement (version_of c.args.version)) (map token_of c.loop-rest.rest.now) (map token_of c.in_ok-next.behind.now) (statement_of c.in_ok-next.next.value) c.in_ok-next.ensures) c.in_err-after.ensures)

pub loop-rest-smaller : goal.loop-rest-smaller
loop-rest-smaller c = omega (arith, behind_shorter c.in_ok-next.behind.now c.in_ok-after.after.now _ c.in_ok-after.ensures, shorter_by (code (Statement (version_of c.args.version))) c.loop-rest.rest.now c.in_ok-next.behind.now (statement_of c.in_ok-next.next.value) (statement_starts (version_of c.args.version)) c.in_ok-next.ensures)

pub loop-rest-preserved : goal.loop-rest-preserved
loop-rest-preserved c = rw (c.in_ok-push.ensures.items, map_push statement_of c.loop-rest.statements.items c.into_inner.result, c.into_inner.ensures)
    (item_read OfStatement Any (called (Statement (version_of c.args.version))) (map token_of c.args.tokens.now) (map token_of c.loop-rest.rest.now) (map token_of c.in_ok-next.behind.now) (map token_of c.in_ok-after.after.now) (map statement_of c.loop-rest.statements.items) (statement_of c.in_ok-next.next.value) c.loop-rest.invariant (some_token c.loop-rest.rest.now c.loop-rest-test.ensures)
    (passes_phrase (Statement (version_of c.args.version)) (map token_of c.loop-rest.rest.now) (map token_of c.in_ok-next.behind.now) (statement_of c.in_ok-next.next.value) c.in_ok-next.ensures) c.in_ok-after.ensures)

pub returns : goal.returns
returns c = subst (λ z. Passes (each OfStatement Any (called (Statement (version_of c.args.version)))) (map token_of c.args.tokens.now) (map statement_of c.loop-rest.statements.items) z) (at_end c.loop-rest.rest.now c.loop-rest-test.ensures)
    (items_end OfStatement Any (called (Statement (version_of c.args.version))) (map token_of c.args.tokens.now) (map token_of c.loop-rest.rest.now) (map statement_of c.loop-rest.statements.items) c.loop-rest.invariant (none_left c.loop-rest.rest.now c.loop-rest-test.ensures))
