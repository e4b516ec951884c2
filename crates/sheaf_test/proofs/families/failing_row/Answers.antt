use Rattle.std.proofs.Common.{◌≡◌, ℕ, ◌+◌, ◌*◌, ◌<◌, List, [], length, get_or, take, drop, Some, sym, ap, ◌∙◌, arith}
use Rattle.finite_lists.proofs.Lists.{In_at}
use Rattle.finite_lists.proofs.FirstAnswers.{first_left-none, first_left-some}
use Rattle.topos_model.specs.Laws.{size}
use Rattle.topos_model.specs.topologies.Sheaves.{matching_families}
use Rattle.sieve_table.proofs.SieveMembers.{sieve_of}
use Rattle.natural_search.specs.declared.rows.FoundRows.{FoundRows}
use Rattle.natural_search.specs.Rows.{AreLong, AreRows}
use Rattle.natural_search.proofs.JoinedRows.{row_at, row_within}
use Rattle.sheaf_test.specs.Amalgamations.{fault_of, fault_with}
use Rattle.sheaf_test.proofs.FirstFamilies.{some_long}
use Rattle.sheaf_test.proofs.families.failing_row.Goals as goal

-- a row that is read is the family with its number
read : (all : List (List ℕ)) (w i : ℕ) (found : FoundRows) (row : List ℕ) → AreRows all found → AreLong w all → i < length all → row ≡ take w (drop (i * w) found.numbers) → row ≡ get_or all i []
read all w i found row are long low e = e ∙ ap (λ (l : List ℕ). take w (drop (i * w) l)) are.numbers ∙ row_at all w i long low

pub row-family-requires : goal.row-family-requires
row-family-requires c =
    let S = c.args.arrows.now in
    let all = take (size c.args.x.now c.args.c + 1) (matching_families c.args.cat.now c.args.x.now S) in
    let within = row_within all (length S) c.loop-i.i (some_long c.args.cat.now c.args.x.now c.args.c S) (omega (arith, c.loop-i-test.true, c.requires.families.count)) in
    omega (arith, within, ap length c.requires.families.numbers)

pub unless_one-requires-clause-arrows : goal.unless_one-requires-clause-arrows
unless_one-requires-clause-arrows c = λ y low f i.
    let a = (sieve_of c.args.cat.now c.args.c c.args.arrows.now c.requires.sieve).within f i in
    let total = c.requires.functor.total c.args.c f a in
    (omega (arith, a.0, c.requires.functor.arrows), omega (arith, total, low))

pub unless_one-requires-clause-rises : goal.unless_one-requires-clause-rises
unless_one-requires-clause-rises c = (sieve_of c.args.cat.now c.args.c c.args.arrows.now c.requires.sieve).rises

pub unless_one-requires-clause-family : goal.unless_one-requires-clause-family
unless_one-requires-clause-family c =
    let S = c.args.arrows.now in
    let all = take (size c.args.x.now c.args.c + 1) (matching_families c.args.cat.now c.args.x.now S) in
    let long : AreLong (length S) all = some_long c.args.cat.now c.args.x.now c.args.c S in
    let low : c.loop-i.i < length all = omega (arith, c.loop-i-test.true, c.requires.families.count) in
    ap length (read all (length S) c.loop-i.i c.args.families.now c.row-family.result.now c.requires.families long low c.row-family.ensures) ∙ long _ (In_at all c.loop-i.i [] low)

pub returns-in-Some : goal.returns-in-Some
returns-in-Some c =
    let X = c.args.x.now in
    let S = c.args.arrows.now in
    let all = take (size X c.args.c + 1) (matching_families c.args.cat.now X S) in
    let low : c.loop-i.i < length all = omega (arith, c.loop-i-test.true, c.requires.families.count) in
    let is = read all (length S) c.loop-i.i c.args.families.now c.row-family.result.now c.requires.families (some_long c.args.cat.now X c.args.c S) low c.row-family.ensures in
    let here : fault_of X c.args.c S (get_or all c.loop-i.i []) ≡ Some (fault_with c.args.c S c.in_ok-family.family c.in-Some.found) =
    ap (fault_of X c.args.c S) (sym is) ∙ sym c.in-Some.ensures ∙ ap (λ (l : List ℕ). Some (fault_with c.args.c S l c.in-Some.found)) (sym c.in_ok-family.ensures) in
    sym (first_left-some (fault_of X c.args.c S) all c.loop-i.i [] _ low here) ∙ c.loop-i.invariant

pub loop-i-preserved : goal.loop-i-preserved
loop-i-preserved c =
    let X = c.args.x.now in
    let S = c.args.arrows.now in
    let all = take (size X c.args.c + 1) (matching_families c.args.cat.now X S) in
    let low : c.loop-i.i < length all = omega (arith, c.loop-i-test.true, c.requires.families.count) in
    let is = read all (length S) c.loop-i.i c.args.families.now c.row-family.result.now c.requires.families (some_long c.args.cat.now X c.args.c S) low c.row-family.ensures in
    sym (first_left-none (fault_of X c.args.c S) all c.loop-i.i [] low (ap (fault_of X c.args.c S) (sym is) ∙ sym c.in_default.ensures)) ∙ c.loop-i.invariant
