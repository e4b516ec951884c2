use Rattle.std.proofs.Common.{get_or, sym, ◌∙◌, arith, inl, inr}
use Rattle.std.proofs.lemmas.Bool.{cases_eq, eq-eqb, ne_eqb}
use Rattle.std.proofs.lemmas.List.{get_or_default}
use Rattle.natural_search.proofs.FreeCounts.{links_say}
use Rattle.natural_search.proofs.free_places.is_free.Goals as goal

pub returns-then-index-eq0 : goal.returns-then-index-eq0
returns-then-index-eq0 c =
    let above = c.index-then-index-eq0.result.now in
    let is = links_say c.args.places c.args.squares.now c.args.links.now c.args.place c.index.result.now above c.requires.links c.requires.place c.index.ensures c.index-then-index-eq0.ensures in
    elim (cases_eq above 0) [
      | inl e ↦ eq-eqb above 0 e ∙ sym (is.free c.if-index-eq0.true e)
      | inr ne ↦ ne_eqb above 0 ne ∙ sym (is.has_restricted ne)
    ]

pub returns-else-index-eq0 : goal.returns-else-index-eq0
returns-else-index-eq0 c =
    let below = c.index.result.now in
    let heads = c.args.links.now.above.heads.items in
    let above = get_or heads c.args.place 0 in
    let is =
    links_say c.args.places c.args.squares.now c.args.links.now c.args.place below above c.requires.links c.requires.place c.index.ensures (get_or_default heads c.args.place 0 above (omega (arith, c.requires.place, c.requires.links.above.first_places))) in
    ne_eqb below 0 c.if-index-eq0.false ∙ sym (is.has_element c.if-index-eq0.false)
