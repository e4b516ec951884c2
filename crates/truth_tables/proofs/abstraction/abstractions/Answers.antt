use Rattle.std.proofs.Common.{◌≡◌, ◌<◌, ℕ, List, [], ◌∷◌, ◌++◌, length, get_or, ap, subst, ◌∙◌}
use Rattle.functor_store.specs.Store.{functor_at, restrictions_at}
use Rattle.truth_tables.specs.Abstraction.{row_of, IsNumbered}
use Rattle.truth_tables.proofs.Rows.{each-more}
use Rattle.truth_tables.proofs.abstraction.abstractions.Goals as goal

pub loop-c-preserved : goal.loop-c-preserved
loop-c-preserved c =
    let a = c.args in
    let F = functor_at a.store.now.sealed a.id in
    let G = functor_at a.store.now.sealed a.context in
    let IsNumber : ℕ → List ℕ → ℕ → ℕ → Type 0 = λ o sources i k. IsNumbered F o (row_of sources (restrictions_at G o i) a.widths.now a.body.now) k in
    let o = c.loop-c.c in
    each-more (λ o numbers. (length numbers ≡ get_or a.sizes.now o 0) × ((i : ℕ) → i < get_or a.sizes.now o 0 → IsNumber o (get_or a.sources.now o []) i (get_or numbers i 0)))
    [] o c.loop-c.numbers c.push_numbers.new.self c.numbers_at.new.numbers c.loop-c.invariant.0 c.loop-c.invariant.1
    (c.in_ok-push_numbers.ensures ∙ ap (λ l. c.loop-c.numbers ++ l ∷ []) c.as_slice.ensures)
    (c.in_ok-numbers_at.ensures.size, λ i low. subst (λ (sources : List ℕ). IsNumber o sources i (get_or c.numbers_at.new.numbers i 0)) c.row_at.ensures (c.in_ok-numbers_at.ensures.numbers i low))
