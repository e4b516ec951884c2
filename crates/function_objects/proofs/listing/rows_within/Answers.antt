use Rattle.std.proofs.Common.{◌≡◌, ℕ, ◌+◌, ◌*◌, ◌/◌, ◌<◌, ◌≤◌, List, [], ◌∷◌, ◌++◌, length, Option, None, Some, inl, inr, sym, ap, subst, ◌∙◌, refl, arith}
use Rattle.std.proofs.lemmas.Bool.{cases_lt}
use Rattle.std.proofs.lemmas.List.{length_push, get_or_append_left, get_or_push}
use Rattle.topos_model.specs.categories.Category.{Category, into}
use Rattle.functor_store.specs.Store.{Store}
use Rattle.natural_search.specs.declared.rows.FoundRows.{FoundRows}
use Rattle.natural_search.specs.Rows.{AreRows, AreAll}
use Rattle.sealed_types.specs.Sealed.{sizes_in, restrictions_in}
use Rattle.type_rows.proofs.CellSums.{cells_below, cells_none, cells_more, over_all, over_room, within_room}
use Rattle.function_objects.specs.declared.listing.Listed.{Listed}
use Rattle.function_objects.specs.Functions.{function_rows, function_bounds, function_cells}
use Rattle.function_objects.specs.Listed.{IsListed, listed_at}
use Rattle.function_objects.proofs.FunctionSquares.{table_arrows}
use Rattle.function_objects.proofs.listing.rows_within.Goals as goal

all_over : (room : ℕ) (all : List (List ℕ)) (found : Option FoundRows) → AreAll room all found → found ≡ None → room < length all
all_over room all None are e = are
all_over room all (Some rows) are e = absurd (cc e)

all_found : (room : ℕ) (all : List (List ℕ)) (found : Option FoundRows) (rows : FoundRows) → AreAll room all found → found ≡ Some rows → AreRows all rows × (length all ≤ room)
all_found room all found rows are e = subst (AreAll room all) e are

module _ (k : Category) (store : Store) (s t : ℕ) where
  abbrev rows : ℕ → List (List ℕ)
  rows c = function_rows k (sizes_in store s) (restrictions_in store s) (sizes_in store t) (restrictions_in store t) c

  abbrev count : ℕ → ℕ
  count c = length (rows c)

  abbrev cost : ℕ → ℕ
  cost c = 1 + length (into k c) + length (function_bounds k (sizes_in store s) (restrictions_in store s) (sizes_in store t) c)

  abbrev Here : ℕ → Listed → Type 0
  Here c listed = IsListed k (sizes_in store s) (restrictions_in store s) (sizes_in store t) (restrictions_in store t) c listed

  cells_are : function_cells k (sizes_in store s) (restrictions_in store s) (sizes_in store t) (restrictions_in store t) ≡ cells_below count cost k.objects
  unfolding function_cells cells_below
  cells_are = refl

  each_more : (all new : List Listed) (row : Listed) (c : ℕ) → new ≡ all ++ row ∷ [] → length all ≡ c → ((x : ℕ) → x < c → Here x (listed_at all x)) → Here c row → (x : ℕ) → x < c + 1 → Here x (listed_at new x)
  each_more all new row c is long before here x low =
      subst (λ (l : List Listed). Here x (listed_at l x)) (sym is) (elim (cases_lt x c) [
        | inl b ↦ subst (Here x) (sym (get_or_append_left all (row ∷ []) _ x (omega (arith, b, long)))) (before x b)
        | inr h ↦
            let same : x ≡ c = omega (arith, low, h) in
            subst (Here x) (sym (get_or_push all row _ x (omega (arith, same, long)))) (subst (λ y. Here y row) (sym same) here)
      ])

pub of-requires : goal.of-requires
of-requires c =
    let store = c.args.store.now in
    let n = table_arrows c.args.cat.now c.laws.ensures.lawful (sizes_in store c.args.s) (restrictions_in store c.args.s) (sizes_in store c.args.t) (restrictions_in store c.args.t) c.requires.domain.restricts in
    record { few = omega (arith, ap length c.as_slice.ensures, ap length c.in_ok-table.ensures, n, c.laws.ensures.few) }

pub loop-c-init : goal.loop-c-init
loop-c-init c = record {
  spent = omega (arith, cells_none (count c.args.cat.now c.args.store.now c.args.s c.args.t) (cost c.args.cat.now c.args.store.now c.args.s c.args.t));
  objects = ap length c.new-all.ensures;
  each = λ x low. absurd (omega (arith, low));
}

pub returns-in-None : goal.returns-in-None
returns-in-None c =
    let k = c.args.cat.now in
    let store = c.args.store.now in
    let n = count k store c.args.s c.args.t c.loop-c.c in
    let price = 1 + length c.arrows_into.result.now + c.len-places.result in
    let over : c.loop-c.left / price < n = all_over (c.loop-c.left / price) (rows k store c.args.s c.args.t c.loop-c.c) c.in_ok-rows_on.field-0 c.in_ok-rows_on.ensures c.in-None.is in
    let more = over_room n c.loop-c.left price (omega arith) over in
    let same : price ≡ cost k store c.args.s c.args.t c.loop-c.c = omega (arith, ap length c.arrows_into.ensures.value, c.len-places.ensures, ap length c.in_ok-bounds.ensures) in
    let low : c.loop-c.c < k.objects = omega (arith, c.loop-c-test.true, c.objects-c-end.ensures.count) in
    let whole = over_all (count k store c.args.s c.args.t) (cost k store c.args.s c.args.t) c.args.room c.loop-c.left c.loop-c.c k.objects c.loop-c.invariant.spent low (omega (arith, more, ap (λ p. n * p) same)) in
    omega (arith, whole, cells_are k store c.args.s c.args.t)

pub loop-c-preserved : goal.loop-c-preserved
loop-c-preserved c =
    let k = c.args.cat.now in
    let store = c.args.store.now in
    let n = count k store c.args.s c.args.t c.loop-c.c in
    let price = 1 + length c.arrows_into.result.now + c.len-places.result in
    let listed = all_found (c.loop-c.left / price) (rows k store c.args.s c.args.t c.loop-c.c) c.in_ok-rows_on.field-0 c.in-Some.rows c.in_ok-rows_on.ensures c.in-Some.is in
    let same : price ≡ cost k store c.args.s c.args.t c.loop-c.c = omega (arith, ap length c.arrows_into.ensures.value, c.len-places.ensures, ap length c.in_ok-bounds.ensures) in
    let within : c.in-Some.rows.count * price ≤ c.loop-c.left = let w = listed.1 in within_room c.in-Some.rows.count c.loop-c.left price (omega (arith, w, listed.0.count)) in
    let spent : c.in-Some.rows.count * price ≡ n * cost k store c.args.s c.args.t c.loop-c.c = ap (λ m. m * price) listed.0.count ∙ ap (λ p. n * p) same in
    record {
      spent = omega (arith, within, spent, c.loop-c.invariant.spent, cells_more (count k store c.args.s c.args.t) (cost k store c.args.s c.args.t) c.loop-c.c);
      objects = ap length c.in_ok-push-in-Some.ensures.ok ∙ omega (arith, length_push c.loop-c.all (record { rows = c.in-Some.rows; places = c.len-places.result }), c.loop-c.invariant.objects);
      each = each_more k store c.args.s c.args.t c.loop-c.all c.push.new.self (record { rows = c.in-Some.rows; places = c.len-places.result }) c.loop-c.c c.in_ok-push-in-Some.ensures.ok c.loop-c.invariant.objects c.loop-c.invariant.each
          (record { rows = listed.0; places = c.len-places.ensures ∙ ap length c.in_ok-bounds.ensures });
    }

pub returns : goal.returns
returns c =
    let k = c.args.cat.now in
    let store = c.args.store.now in
    let n : c.loop-c.c ≡ k.objects = omega (arith, c.loop-c-test.false, c.loop-c.auto.c-end, c.objects-c-end.ensures.count) in
    record {
      objects = c.loop-c.invariant.objects ∙ n;
      each = λ x low. c.loop-c.invariant.each x (omega (arith, low, n));
      within = omega (arith, c.loop-c.invariant.spent, ap (cells_below (count k store c.args.s c.args.t) (cost k store c.args.s c.args.t)) n, cells_are k store c.args.s c.args.t);
    }
