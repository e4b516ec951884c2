use Rattle.std.proofs.Common.{◌≡◌, ◌<◌, ◌^◌, ◌+◌, ◌-◌, All, subst, length-append, ◌++◌, ◌∷◌, [], sym, ap, ◌∙◌, arith, length, refl, rules}
use Rattle.row_arena.specs.declared.arena.Place.{Place}
use Rattle.std.specs.List.{sum_by}
use Rattle.row_arena.specs.Arena.{rows_at, pages_of, place_length, Fits}
use Rattle.row_arena.proofs.Keeping.{appended, appended_fit, cells_appended}
use Rattle.row_arena.proofs.arena.RowArena.append.Goals as goal

pub returns-clause-rows : goal.returns-clause-rows
returns-clause-rows c =
    let a = c.self.inside in
    let place : Place = record { page = c.len.result; at = c.len-2.result; len = length c.args.row.now } in
    let pushed : c.push.new.self.items ≡ a.places.items ++ place ∷ [] = search rules in
    ap (rows_at (pages_of a.full.items c.write.new.self)) pushed
    ∙ appended a.full.items a.last c.write.new.self c.args.row.now a.places.items place c.write.ensures.items (omega (arith, c.len.ensures, a.full.ok.0)) c.len-2.ensures.written refl c.self.invariant.fit
    ∙ ap (λ rows. rows.rows ++ c.args.row.now ∷ []) c.self.view_is

pub invariant_of-self : goal.invariant_of-self
invariant_of-self c =
    let a = c.self.inside in
    let place : Place = record { page = c.len.result; at = c.len-2.result; len = length c.args.row.now } in
    let pushed : c.push.new.self.items ≡ a.places.items ++ place ∷ [] = search rules in
    let fit : All (λ place. Fits (pages_of a.full.items c.write.new.self) place) c.push.new.self.items =
    subst (λ places. All (λ place. Fits (pages_of a.full.items c.write.new.self) place) places) (sym pushed)
    (appended_fit a.full.items a.last c.write.new.self c.args.row.now a.places.items place c.write.ensures.items (omega (arith, c.len.ensures, a.full.ok.0)) c.len-2.ensures.written refl c.self.invariant.fit) in
    let counted : a.cells + length c.args.row.now ≡ sum_by place_length c.push.new.self.items =
    ap (λ n. n + length c.args.row.now) c.self.invariant.counted ∙ sym (cells_appended a.places.items place) ∙ ap (sum_by place_length) (sym pushed) in
    let written : length c.write.new.self.items ≡ length a.last.items + length c.args.row.now = ap length c.write.ensures.items ∙ length-append a.last.items c.args.row.now in
    let spare : a.last.room - length a.last.items ≡ c.args.self.now.spare_cells = ap (λ rows. rows.spare_cells) c.self.view_is in
    let few_cells : a.cells + length c.args.row.now + (c.write.new.self.room - length c.write.new.self.items) < 2 ^ 40 + 4096 = omega (arith, c.self.invariant.few_cells, c.write.ensures.room, written, spare, c.requires.spare_cells) in
    record { fit = fit; within = search rules; taken = search rules; few_rows = c.self.invariant.few_rows; counted = counted; few_cells = few_cells }
