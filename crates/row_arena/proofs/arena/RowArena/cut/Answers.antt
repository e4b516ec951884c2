use Rattle.std.proofs.Common.{◌≡◌, ℕ, ◌+◌, ◌-◌, All, subst, List, length, drop, take, sym, ap, ◌∙◌, arith, rules, take_all, length-drop}
use Rattle.std.proofs.lemmas.List.{take-map}
use Rattle.std.proofs.lemmas.List.Elements.{All-take}
use Rattle.std.specs.List.{sum_by}
use Rattle.row_arena.specs.Arena.{row_at, rows_at, pages_of, place_length, Fits}
use Rattle.row_arena.specs.declared.arena.Place.{Place}
use Rattle.row_arena.proofs.Keeping.{cells_cut}
use Rattle.row_arena.proofs.arena.RowArena.cut.Goals as goal

pub returns-clause-rows : goal.returns-clause-rows
returns-clause-rows c =
    let pages = pages_of c.self.inside.full.items c.self.inside.last in
    ap (rows_at pages) c.truncate.ensures.items ∙ sym (take-map (row_at pages) c.args.rows c.self.inside.places.items)
    ∙ ap (λ rows. take c.args.rows rows.rows) c.self.view_is

-- what is cut off
cut_off : {A : Type 0} (n : ℕ) (xs : List A) → take (length xs - n) (drop n xs) ≡ drop n xs
cut_off n xs = take_all (length xs - n) (drop n xs) (omega (arith, length-drop n xs))

-- the numbers of the rows that are cut off and of those that are kept
parted : (places cells_of : List Place) (n cells : ℕ) → cells_of ≡ places → cells ≡ sum_by place_length places
    → sum_by place_length (take n places) + sum_by place_length (take (length cells_of - n) (drop n cells_of)) ≡ cells
parted places cells_of n cells same counted =
    ap (λ xs. sum_by place_length (take n places) + sum_by place_length (take (length xs - n) (drop n xs))) same
    ∙ ap (λ xs. sum_by place_length (take n places) + sum_by place_length xs) (cut_off n places) ∙ cells_cut places n ∙ sym counted

pub total-requires : goal.total-requires
total-requires c =
    let a = c.self.inside in
    let same : c.deref.result.now ≡ a.places.items = search rules in
    record { few = omega (arith, parted a.places.items c.deref.result.now c.args.rows a.cells same c.self.invariant.counted, c.self.invariant.few_cells) }

pub overflow_sub-self : goal.overflow_sub-self
overflow_sub-self c =
    let a = c.self.inside in
    let same : c.deref.result.now ≡ a.places.items = search rules in
    omega (arith, parted a.places.items c.deref.result.now c.args.rows a.cells same c.self.invariant.counted, c.total.ensures.total)

pub invariant_of-self : goal.invariant_of-self
invariant_of-self c =
    let a = c.self.inside in
    let pages = pages_of a.full.items a.last in
    let same : c.deref.result.now ≡ a.places.items = search rules in
    let kept : c.truncate.new.self.items ≡ take c.args.rows a.places.items = search rules in
    let fit : All (λ place. Fits pages place) c.truncate.new.self.items =
    subst (λ places. All (λ place. Fits pages place) places) (sym kept) (All-take (λ place. Fits pages place) c.args.rows a.places.items c.self.invariant.fit) in
    let parts = parted a.places.items c.deref.result.now c.args.rows a.cells same c.self.invariant.counted in
    let counted : a.cells - c.total.result ≡ sum_by place_length c.truncate.new.self.items = omega (arith, parts, c.total.ensures.total, ap (sum_by place_length) kept) in
    record { fit = fit; within = search rules; taken = search rules; few_rows = c.self.invariant.few_rows; counted = counted; few_cells = omega (arith, c.self.invariant.few_cells) }
