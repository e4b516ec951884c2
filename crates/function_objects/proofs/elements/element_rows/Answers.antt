use Rattle.std.proofs.Common.{◌≡◌, ◌<◌, ◌≤◌, ◌+◌, ◌*◌, suc, ℕ, [], inl, inr, length, get_or, sym, ap, subst, ◌∙◌, arith}
use Rattle.std.proofs.Math.Nat.{mul-le-mul_right}
use Rattle.std.proofs.lemmas.Bool.{cases_lt}
use Rattle.std.proofs.lemmas.List.{get_or_default}
use Rattle.topos_model.specs.categories.Category.{Category, into, dom}
use Rattle.topos_model.specs.Laws.{IsCategory}
use Rattle.sealed_types.specs.Sealed.{sizes_in, restrictions_in}
use Rattle.place_closures.specs.Pairs.{AreRestricted}
use Rattle.function_objects.specs.declared.listing.Listed.{Listed}
use Rattle.function_objects.specs.Functions.{function_rows, under_row, IsRowNumber}
use Rattle.function_objects.specs.Listed.{IsListed, AreListed, listed_at}
use Rattle.function_objects.proofs.NumberRows.{few_rows, few_places}
use Rattle.function_objects.proofs.elements.element_rows.Goals as goal

-- the listing that is read
listing : (k : Category) (size : ℕ → ℕ) (move : ℕ → ℕ → ℕ) (size' : ℕ → ℕ) (move' : ℕ → ℕ → ℕ) (room c : ℕ) (all : _) (l : Listed) → AreListed k size move size' move' room all → c < k.objects → l ≡ get_or all c l → IsListed k size move size' move' c l
listing k size move size' move' room c all l are low e = subst (IsListed k size move size' move' c) (sym (e ∙ get_or_default all c l _ (omega (arith, low, are.objects)))) (are.each c low)

pub loop-n-preserved : goal.loop-n-preserved
loop-n-preserved c =
    let k = c.args.cat.now in
    let size = sizes_in c.args.store.now c.args.s in
    let move = restrictions_in c.args.store.now c.args.s in
    let size' = sizes_in c.args.store.now c.args.t in
    let move' = restrictions_in c.args.store.now c.args.t in
    let x = c.args.c in
    let w = length (into k x) in
    let old = c.loop-n.restrictions in
    let new = c.push_numbers.new.out in
    let p = c.in_ok-push_numbers.ensures.pushed in
    let i = c.loop-n.invariant in
    record {
      length_is = let e : (c.loop-n.n + 1) * w ≡ c.loop-n.n * w + w = omega arith in omega (arith, e, p.length_is, i.length_is);
      numbers = λ n j low inside.
          let f = get_or (into k x) j 0 in
          elim (cases_lt n c.loop-n.n) [
            | inl b ↦
                let m : suc n * w ≤ c.loop-n.n * w = mul-le-mul_right w (omega arith) in
                let e : suc n * w ≡ n * w + w = omega arith in
                subst (λ y. IsRowNumber k size move size' move' (dom k f) y (under_row k size move x f (get_or (function_rows k size move size' move' x) n []))) (sym (p.kept (n * w + j) (omega (arith, m, e, inside, i.length_is)))) (i.numbers n j b inside)
            | inr h ↦
                let same : n ≡ c.loop-n.n = omega (arith, low, h) in
                let place : length old + j ≡ n * w + j = omega (arith, i.length_is, ap (λ y. y * w) same) in
                subst (λ y. IsRowNumber k size move size' move' (dom k f) (get_or new y 0) (under_row k size move x f (get_or (function_rows k size move size' move' x) n []))) place
                (subst (λ m. IsRowNumber k size move size' move' (dom k f) (get_or new (length old + j) 0) (under_row k size move x f (get_or (function_rows k size move size' move' x) m []))) (sym same) (p.numbers j inside))
          ];
    }

pub overflow_cast-result : goal.overflow_cast-result
overflow_cast-result c =
    let k = c.args.cat.now in
    let size = sizes_in c.args.store.now c.args.s in
    let move = restrictions_in c.args.store.now c.args.s in
    let size' = sizes_in c.args.store.now c.args.t in
    let move' = restrictions_in c.args.store.now c.args.t in
    let is = listing k size move size' move' c.args.room c.args.c c.args.listed.now c.index-listed-c.result c.requires.listed c.requires.object c.index-listed-c.is in
    omega (arith, is.rows.count, few_rows k c.laws.ensures.lawful size move size' move' c.requires.domain.restricts c.args.c c.requires.object, c.requires.listed.within, c.requires.room)

pub width_of-requires : goal.width_of-requires
width_of-requires c =
    let k = c.args.cat.now in
    let size = sizes_in c.args.store.now c.args.s in
    let move = restrictions_in c.args.store.now c.args.s in
    let size' = sizes_in c.args.store.now c.args.t in
    let move' = restrictions_in c.args.store.now c.args.t in
    let is = listing k size move size' move' c.args.room c.args.c c.args.listed.now c.index-listed-c.result c.requires.listed c.requires.object c.index-listed-c.is in
    record {
      few = λ some. omega (arith, is.places, few_places k c.laws.ensures.lawful size move size' move' c.requires.domain.restricts c.args.c c.requires.object (omega (arith, some, is.rows.count)), c.requires.listed.within, c.requires.room);
    }

pub returns : goal.returns
returns c =
    let k = c.args.cat.now in
    let size = sizes_in c.args.store.now c.args.s in
    let move = restrictions_in c.args.store.now c.args.s in
    let size' = sizes_in c.args.store.now c.args.t in
    let move' = restrictions_in c.args.store.now c.args.t in
    let is = listing k size move size' move' c.args.room c.args.c c.args.listed.now c.index-listed-c.result c.requires.listed c.requires.object c.index-listed-c.is in
    let all : c.loop-n.n ≡ c.index-listed-c.result.rows.count = omega (arith, c.loop-n-test.false, c.loop-n.auto) in
    record {
      count = is.rows.count;
      width = λ some. c.width_of.ensures some ∙ is.places;
      arrows = ap length c.arrows_into.ensures.value;
      rows = c.in_ok-copy.ensures ∙ is.rows.numbers;
      length_is = c.loop-n.invariant.length_is ∙ ap (λ n. n * length (into k c.args.c)) all;
      numbers = λ n i low inside. c.loop-n.invariant.numbers n i (omega (arith, low, all)) inside;
    }
