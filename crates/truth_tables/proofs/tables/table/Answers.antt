use Rattle.std.proofs.Common.{◌≡◌, length, get_or, refl, ap, ◌∙◌, arith}
use Rattle.truth_tables.specs.Tables.{row, table}
use Rattle.truth_tables.proofs.Rows.{row-more}
use Rattle.truth_tables.proofs.tables.table.Goals as goal

pub loop-c-preserved : goal.loop-c-preserved
loop-c-preserved g c = λ f h.
    row-more _ c.loop-c.c c.loop-c.rows _ (row (get_or c.args.sizes.now c.loop-c.c 0) (f c.loop-c.c)) (c.loop-c.invariant f h)
    (c.in_ok-push_entries.ensures (f c.loop-c.c) (λ i x low p. h c.loop-c.c i x (omega (arith, c.loop-c-test.true)) low p)) refl

pub returns : goal.returns
unfolding table
returns g c = λ f h.
    let all : c.loop-c.c ≡ length c.args.sizes.now = omega (arith, c.loop-c-test.false, c.loop-c.auto.c-end) in
    c.loop-c.invariant f h ∙ ap (λ n. row n (λ c'. row (get_or c.args.sizes.now c' 0) (f c'))) all
