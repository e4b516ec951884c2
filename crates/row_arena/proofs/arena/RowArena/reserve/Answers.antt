use Rattle.std.specs.List.{sum_by}
use Rattle.std.proofs.lemmas.List.{length-map}
use Rattle.std.proofs.Common.{◌≡◌, ◌<◌, ◌^◌, ◌+◌, ◌-◌, arith, length, All, subst, sym, ◌++◌, ◌∷◌, [], ap, ◌∙◌, rules}
use Rattle.std.proofs.lemmas.Grind.{common_steps}
use Rattle.row_arena.specs.Arena.{row_at, rows_at, pages_of, Fits}
use Rattle.row_arena.proofs.Keeping.{rows_kept, page_added, page_added_grows, all_fits_kept, cells_are}
use Rattle.row_arena.proofs.arena.RowArena.reserve.Goals as goal

pub returns-in_ok-reserve-2-clause-rows : goal.returns-in_ok-reserve-2-clause-rows
returns-in_ok-reserve-2-clause-rows c =
    let a = c.self.inside in
    let pages : pages_of c.push.new.self.items c.replace-old.new.dest ≡ pages_of a.full.items a.last ++ c.in_ok-page.page ∷ [] = search (rules, common_steps) in
    let places : c.reserve.new.self.items ≡ a.places.items = search rules in
    ap (λ p. rows_at p c.reserve.new.self.items) pages ∙ ap (rows_at (pages_of a.full.items a.last ++ c.in_ok-page.page ∷ [])) places
    ∙ rows_kept _ _ (page_added (pages_of a.full.items a.last) c.in_ok-page.page) a.places.items c.self.invariant.fit
    ∙ ap (λ rows. rows.rows) c.self.view_is

pub invariant_of-self-then-spare-cells : goal.invariant_of-self-then-spare-cells
invariant_of-self-then-spare-cells c =
    let a = c.self.inside in
    let old = pages_of a.full.items a.last in
    let new = pages_of c.push.new.self.items c.replace-old.new.dest in
    let pages : new ≡ old ++ c.in_ok-page.page ∷ [] = search (rules, common_steps) in
    let places : c.reserve.new.self.items ≡ a.places.items = search rules in
    let kept : All (λ place. Fits (old ++ c.in_ok-page.page ∷ []) place) a.places.items =
    all_fits_kept old (old ++ c.in_ok-page.page ∷ []) (page_added_grows old c.in_ok-page.page) a.places.items c.self.invariant.fit in
    let fit : All (λ place. Fits new place) c.reserve.new.self.items =
    subst (λ places. All (λ place. Fits new place) places) (sym places) (subst (λ pages. All (λ place. Fits pages place) a.places.items) (sym pages) kept) in
    let rows : length a.places.items ≡ length c.args.self.now.rows = sym (length-map a.places.items (row_at old)) ∙ ap (λ rows. length rows.rows) c.self.view_is in
    let cells : a.cells ≡ sum_by length c.args.self.now.rows =
    c.self.invariant.counted ∙ sym (cells_are old a.places.items c.self.invariant.fit) ∙ ap (λ rows. sum_by length rows.rows) c.self.view_is in
    let few_rows : c.max-self-inside.result < 2 ^ 32 = omega (arith, c.max-self-inside.ensures, c.len.ensures, rows, c.requires.few_rows, c.self.invariant.few_rows, c.self.inside.places.ok) in
    let empty : length c.replace-old.new.dest.items ≡ 0 = search rules in
    let room : c.replace-old.new.dest.room ≡ c.max.result = search rules in
    let few_cells : a.cells + (c.replace-old.new.dest.room - length c.replace-old.new.dest.items) < 2 ^ 40 + 4096 = omega (arith, c.max.ensures, cells, empty, room, c.requires.few_cells) in
    record { fit = fit; within = search rules; taken = search rules; few_rows = few_rows; counted = search rules; few_cells = few_cells }
