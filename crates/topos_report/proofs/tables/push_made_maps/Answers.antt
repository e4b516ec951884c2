use Rattle.std.proofs.Common.{◌++◌, sym, ap, ◌∙◌, append_assoc, append-nil, arith}
use Rattle.topos_report.specs.Names.{map_name}
use Rattle.topos_report.specs.Statements.{made_maps}
use Rattle.topos_report.specs.Tables.{map_lines}
use Rattle.topos_report.proofs.Entries.{one_named, none_named, all_named}
use Rattle.topos_report.proofs.tables.push_made_maps.Goals as goal

pub returns-in-None : goal.returns-in-None
returns-in-None c =
    let doc = c.args.doc.now in
    sym (append-nil c.loop-i.out.items)
    ∙ ap (λ l. c.loop-i.out.items ++ l) (sym (none_named (map_name doc) (map_lines doc) (made_maps c.args.stmt.now) c.args.maps.now c.loop-i.i (sym c.in-None.ensures)))
    ∙ c.loop-i.invariant

pub loop-i-preserved : goal.loop-i-preserved
loop-i-preserved c =
    let doc = c.args.doc.now in
    rw c.in_ok-push_named_map-in-Some.ensures
    (append_assoc c.loop-i.out.items (map_lines doc (map_name doc c.in-Some.number, c.index-maps-i.result)) _
    ∙ ap (λ l. c.loop-i.out.items ++ l) (sym (one_named (map_name doc) (map_lines doc) (made_maps c.args.stmt.now) c.args.maps.now c.loop-i.i c.in-Some.number c.index-maps-i.result (sym c.in-Some.ensures) (omega arith) (sym c.index-maps-i.is)))
    ∙ c.loop-i.invariant)

pub returns : goal.returns
returns c =
    let doc = c.args.doc.now in
    sym (append-nil c.loop-i.out.items)
    ∙ ap (λ l. c.loop-i.out.items ++ l) (sym (all_named (map_name doc) (map_lines doc) (made_maps c.args.stmt.now) c.args.maps.now c.loop-i.i (omega arith)))
    ∙ c.loop-i.invariant
