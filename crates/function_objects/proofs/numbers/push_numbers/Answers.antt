use Rattle.std.proofs.Common.{◌≡◌, ◌<◌, ◌+◌, ◌≤◌, ◌*◌, ℕ, List, [], ◌∷◌, ◌++◌, inl, inr, length, get_or, take, sym, ap, subst, ◌∙◌, arith}
use Rattle.std.proofs.lemmas.Bool.{cases_lt}
use Rattle.std.proofs.lemmas.List.{length_push, get_or_append_left, get_or_push, get_or_default}
use Rattle.finite_lists.specs.Members.{In}
use Rattle.finite_lists.proofs.Lists.{In_at}
use Rattle.topos_model.specs.categories.Category.{Category, into, dom}
use Rattle.topos_model.specs.Laws.{IsCategory, IsInto}
use Rattle.topos_model.proofs.ArrowsInto.{In-into_from}
use Rattle.sieve_table.proofs.SieveMembers.{domain}
use Rattle.sealed_types.specs.Sealed.{sizes_in, restrictions_in}
use Rattle.function_objects.specs.declared.listing.Listed.{Listed}
use Rattle.function_objects.specs.Functions.{function_rows, under_row, AreClosed, IsRowNumber}
use Rattle.function_objects.specs.Listed.{IsListed, AreListed, listed_at}
use Rattle.function_objects.proofs.NumberRows.{read_within, read_is, row_pairs, found_within, found_number, found_few}
use Rattle.function_objects.proofs.numbers.push_numbers.Goals as goal

-- the listing that is read
listing : (all : List Listed) (c : ℕ) (l : Listed) → c < length all → l ≡ get_or all c l → l ≡ listed_at all c
listing all c l low e = e ∙ get_or_default all c l _ low

nothing : (xs : List ℕ) → take 0 xs ≡ []
nothing [] = Rattle.std.proofs.Common.refl
nothing (x ∷ xs) = Rattle.std.proofs.Common.refl

pub row-row-requires : goal.row-row-requires
row-row-requires c =
    let k = c.args.cat.now in
    let size = sizes_in c.args.store.now c.args.s in
    let move = restrictions_in c.args.store.now c.args.s in
    let size' = sizes_in c.args.store.now c.args.t in
    let move' = restrictions_in c.args.store.now c.args.t in
    let l = c.index-listed-c.result in
    let e = listing c.args.listed.now c.args.c l (omega (arith, c.requires.object, c.requires.listed.objects)) c.index-listed-c.is in
    read_within k c.laws.ensures.lawful size move size' move' c.requires.domain.restricts c.args.c c.args.n l (subst (IsListed k size move size' move' c.args.c) (sym e) (c.requires.listed.each c.args.c c.requires.object)) c.requires.number

pub push_under-requires-clause-long : goal.push_under-requires-clause-long
push_under-requires-clause-long c =
    let k = c.args.cat.now in
    let size = sizes_in c.args.store.now c.args.s in
    let move = restrictions_in c.args.store.now c.args.s in
    let size' = sizes_in c.args.store.now c.args.t in
    let move' = restrictions_in c.args.store.now c.args.t in
    let l = c.index-listed-c.result in
    let e = listing c.args.listed.now c.args.c l (omega (arith, c.requires.object, c.requires.listed.objects)) c.index-listed-c.is in
    let is = subst (IsListed k size move size' move' c.args.c) (sym e) (c.requires.listed.each c.args.c c.requires.object) in
    ap length (read_is k c.laws.ensures.lawful size move size' move' c.requires.domain.restricts c.args.c c.args.n l is c.requires.number c.row-row.result.now c.row-row.ensures)
    ∙ row_pairs k c.laws.ensures.lawful size move size' move' c.requires.domain.restricts c.args.c c.args.n l is c.requires.number

-- the row under an arrow, as it is made
under_is : (k : Category) (size : ℕ → ℕ) (move : ℕ → ℕ → ℕ) (c h : ℕ) (scratch made slice row row' : List ℕ) → made ≡ take 0 scratch ++ under_row k size move c h row' → slice ≡ made → row' ≡ row → slice ≡ under_row k size move c h row
under_is k size move c h scratch made slice row row' e s r = s ∙ e ∙ ap (λ l. l ++ under_row k size move c h row') (nothing scratch) ∙ ap (under_row k size move c h) r

pub number_of-requires : goal.number_of-requires
number_of-requires c =
    let k = c.args.cat.now in
    let laws = c.laws.ensures.lawful in
    let size = sizes_in c.args.store.now c.args.s in
    let move = restrictions_in c.args.store.now c.args.s in
    let size' = sizes_in c.args.store.now c.args.t in
    let move' = restrictions_in c.args.store.now c.args.t in
    let l = c.index-listed-c.result in
    let e = listing c.args.listed.now c.args.c l (omega (arith, c.requires.object, c.requires.listed.objects)) c.index-listed-c.is in
    let is = subst (IsListed k size move size' move' c.args.c) (sym e) (c.requires.listed.each c.args.c c.requires.object) in
    let items = c.arrows_into-h-items.result.now in
    let h = get_or items c.loop-h.h-index 0 in
    let a : IsInto k c.args.c h = In-into_from k c.args.c h (subst (λ l. In l h) c.arrows_into-h-items.ensures.value (In_at items c.loop-h.h-index 0 c.loop-h-test.true)) in
    let row = get_or (function_rows k size move size' move' c.args.c) c.args.n [] in
    let read = read_is k laws size move size' move' c.requires.domain.restricts c.args.c c.args.n l is c.requires.number c.row-row.result.now c.row-row.ensures in
    let under = under_is k size move c.args.c h c.loop-h.scratch c.push_under.new.out c.as_slice.result.now row c.row-row.result.now (c.in_ok-push_under.ensures ∙ ap (λ (x : List ℕ). x ++ under_row k size move c.args.c h c.row-row.result.now) c.truncate.ensures) c.as_slice.ensures read in
    let inside = c.requires.closed c.args.c h row a (In_at (function_rows k size move size' move' c.args.c) c.args.n [] c.requires.number) in
    let low = domain k laws a in
    let there = c.index-listed-dom.result in
    let d : there ≡ listed_at c.args.listed.now (dom k h) = listing c.args.listed.now c.dom.result there (omega (arith, low, c.dom.ensures.value, c.requires.listed.objects)) c.index-listed-dom.is ∙ ap (listed_at c.args.listed.now) c.dom.ensures.value in
    record {
      long =
          subst (λ (r : List ℕ). there.rows.count * length r ≤ length there.rows.numbers) (sym under)
          (found_within k laws size move size' move' c.requires.domain.restricts c.args.room (dom k h) c.args.listed.now c.requires.listed low there d (under_row k size move c.args.c h row) inside);
    }

pub overflow_cast-number_of : goal.overflow_cast-number_of
overflow_cast-number_of c =
    let k = c.args.cat.now in
    let laws = c.laws.ensures.lawful in
    let size = sizes_in c.args.store.now c.args.s in
    let move = restrictions_in c.args.store.now c.args.s in
    let size' = sizes_in c.args.store.now c.args.t in
    let move' = restrictions_in c.args.store.now c.args.t in
    let l = c.index-listed-c.result in
    let e = listing c.args.listed.now c.args.c l (omega (arith, c.requires.object, c.requires.listed.objects)) c.index-listed-c.is in
    let is = subst (IsListed k size move size' move' c.args.c) (sym e) (c.requires.listed.each c.args.c c.requires.object) in
    let items = c.arrows_into-h-items.result.now in
    let h = get_or items c.loop-h.h-index 0 in
    let a : IsInto k c.args.c h = In-into_from k c.args.c h (subst (λ l. In l h) c.arrows_into-h-items.ensures.value (In_at items c.loop-h.h-index 0 c.loop-h-test.true)) in
    let row = get_or (function_rows k size move size' move' c.args.c) c.args.n [] in
    let read = read_is k laws size move size' move' c.requires.domain.restricts c.args.c c.args.n l is c.requires.number c.row-row.result.now c.row-row.ensures in
    let under = under_is k size move c.args.c h c.loop-h.scratch c.push_under.new.out c.as_slice.result.now row c.row-row.result.now (c.in_ok-push_under.ensures ∙ ap (λ (x : List ℕ). x ++ under_row k size move c.args.c h c.row-row.result.now) c.truncate.ensures) c.as_slice.ensures read in
    let inside = c.requires.closed c.args.c h row a (In_at (function_rows k size move size' move' c.args.c) c.args.n [] c.requires.number) in
    let low = domain k laws a in
    let there = c.index-listed-dom.result in
    let d : there ≡ listed_at c.args.listed.now (dom k h) = listing c.args.listed.now c.dom.result there (omega (arith, low, c.dom.ensures.value, c.requires.listed.objects)) c.index-listed-dom.is ∙ ap (listed_at c.args.listed.now) c.dom.ensures.value in
    let is_number = found_number k laws size move size' move' c.requires.domain.restricts c.args.room (dom k h) c.args.listed.now c.requires.listed low there d (under_row k size move c.args.c h row) inside c.number_of.result
    (subst (λ (r : List ℕ). (all : List (List ℕ)) → Rattle.natural_search.specs.Rows.AreRows all there.rows → Rattle.natural_search.specs.Rows.AreLong (length r) all → Rattle.finite_lists.specs.Rising.Rising Rattle.finite_lists.specs.Rising.NumbersBelow all → In all r → (c.number_of.result < length all) × (get_or all c.number_of.result [] ≡ r)) under c.number_of.ensures.found) in
    let f = found_few k laws size move size' move' c.requires.domain.restricts c.args.room (dom k h) c.args.listed.now c.requires.listed low there d (under_row k size move c.args.c h row) inside c.number_of.result is_number in
    omega (arith, f, c.requires.room)

pub loop-h-preserved : goal.loop-h-preserved
loop-h-preserved c =
    let k = c.args.cat.now in
    let laws = c.laws.ensures.lawful in
    let size = sizes_in c.args.store.now c.args.s in
    let move = restrictions_in c.args.store.now c.args.s in
    let size' = sizes_in c.args.store.now c.args.t in
    let move' = restrictions_in c.args.store.now c.args.t in
    let l = c.index-listed-c.result in
    let e = listing c.args.listed.now c.args.c l (omega (arith, c.requires.object, c.requires.listed.objects)) c.index-listed-c.is in
    let is = subst (IsListed k size move size' move' c.args.c) (sym e) (c.requires.listed.each c.args.c c.requires.object) in
    let items = c.arrows_into-h-items.result.now in
    let h = get_or items c.loop-h.h-index 0 in
    let a : IsInto k c.args.c h = In-into_from k c.args.c h (subst (λ l. In l h) c.arrows_into-h-items.ensures.value (In_at items c.loop-h.h-index 0 c.loop-h-test.true)) in
    let row = get_or (function_rows k size move size' move' c.args.c) c.args.n [] in
    let read = read_is k laws size move size' move' c.requires.domain.restricts c.args.c c.args.n l is c.requires.number c.row-row.result.now c.row-row.ensures in
    let under = under_is k size move c.args.c h c.loop-h.scratch c.push_under.new.out c.as_slice.result.now row c.row-row.result.now (c.in_ok-push_under.ensures ∙ ap (λ (x : List ℕ). x ++ under_row k size move c.args.c h c.row-row.result.now) c.truncate.ensures) c.as_slice.ensures read in
    let inside = c.requires.closed c.args.c h row a (In_at (function_rows k size move size' move' c.args.c) c.args.n [] c.requires.number) in
    let low = domain k laws a in
    let there = c.index-listed-dom.result in
    let d : there ≡ listed_at c.args.listed.now (dom k h) = listing c.args.listed.now c.dom.result there (omega (arith, low, c.dom.ensures.value, c.requires.listed.objects)) c.index-listed-dom.is ∙ ap (listed_at c.args.listed.now) c.dom.ensures.value in
    let number : IsRowNumber k size move size' move' (dom k h) c.number_of.result (under_row k size move c.args.c h row) =
    found_number k laws size move size' move' c.requires.domain.restricts c.args.room (dom k h) c.args.listed.now c.requires.listed low there d (under_row k size move c.args.c h row) inside c.number_of.result
    (subst (λ (r : List ℕ). (all : List (List ℕ)) → Rattle.natural_search.specs.Rows.AreRows all there.rows → Rattle.natural_search.specs.Rows.AreLong (length r) all → Rattle.finite_lists.specs.Rising.Rising Rattle.finite_lists.specs.Rising.NumbersBelow all → In all r → (c.number_of.result < length all) × (get_or all c.number_of.result [] ≡ r)) under c.number_of.ensures.found) in
    let new = c.push.new.self in
    let pushed : new ≡ c.loop-h.out ++ c.number_of.result ∷ [] = c.in_ok-push.ensures.ok in
    let i = c.loop-h.invariant in
    record {
      length_is = ap length pushed ∙ omega (arith, length_push c.loop-h.out c.number_of.result, i.length_is);
      kept = λ j low. ap (λ l. get_or l j 0) pushed ∙ get_or_append_left c.loop-h.out (c.number_of.result ∷ []) 0 j (omega (arith, low, i.length_is)) ∙ i.kept j low;
      numbers = λ j low.
          elim (cases_lt j c.loop-h.h-index) [
            | inl b ↦
                subst (λ n. IsRowNumber k size move size' move' (dom k (get_or items j 0)) n (under_row k size move c.args.c (get_or items j 0) row))
                (sym (ap (λ l. get_or l (length c.args.out.now + j) 0) pushed ∙ get_or_append_left c.loop-h.out (c.number_of.result ∷ []) 0 (length c.args.out.now + j) (omega (arith, b, i.length_is)))) (i.numbers j b)
            | inr q ↦
                let same : j ≡ c.loop-h.h-index = omega (arith, low, q) in
                let last : get_or new (length c.args.out.now + j) 0 ≡ c.number_of.result = ap (λ l. get_or l (length c.args.out.now + j) 0) pushed ∙ get_or_push c.loop-h.out c.number_of.result 0 (length c.args.out.now + j) (omega (arith, same, i.length_is)) in
                subst (λ n. IsRowNumber k size move size' move' (dom k (get_or items j 0)) n (under_row k size move c.args.c (get_or items j 0) row)) (sym last)
                (subst (λ m. IsRowNumber k size move size' move' (dom k (get_or items m 0)) c.number_of.result (under_row k size move c.args.c (get_or items m 0) row)) (sym same) number)
          ];
    }
