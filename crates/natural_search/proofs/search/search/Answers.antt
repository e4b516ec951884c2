use Rattle.std.proofs.Common.{◌≡◌, ℕ, suc, ◌+◌, ◌-◌, ◌<◌, true, false, List, ◌++◌, length, get_or, set, map, sym, ap, subst, ◌∙◌, refl, arith}
use Rattle.std.proofs.lemmas.List.{length-replicate, get_or-replicate, get_or_default}
use Rattle.natural_search.specs.declared.squares.Square.{Square}
use Rattle.natural_search.specs.Search.{fitting, left, steps_left}
use Rattle.natural_search.specs.Squares.{Fits, later_place, AreSquares, AreElements, AreChains, is_fitting}
use Rattle.natural_search.specs.Domains.{AreLinks}
use Rattle.natural_search.proofs.RowsSoFar.{some_left, none_left, one_more, taken, whole_taken}
use Rattle.natural_search.proofs.SearchMeasure.{steps_set, steps_passed, steps_back}
use Rattle.natural_search.proofs.PlaceSearch.{IsState, are_elements, now_whole, now_below, state_start, state_passed, state_set, state_found, found_next, state_back, state_end}
use Rattle.natural_search.proofs.GuardedSearch.{IsGuarded, guarded_start, guarded_now, guarded_set, set_allowed, guarded_deeper, guarded_back, state_refused}
use Rattle.natural_search.proofs.search.search.Goals as goal

-- what is read at a place
before_read : (xs : List ℕ) (i v : ℕ) → i < length xs → v ≡ get_or xs i v → v ≡ get_or xs i 0
before_read xs i v low e = e ∙ get_or_default xs i v 0 low

pub places-init : goal.places-init
places-init c = record {
  state = state_start c.args.along.now c.args.squares.now c.args.bounds.now c.requires.squares c.requires.bounded c.in_ok-values.values.items c.in_ok-values.ensures c.requires.some;
  guarded =
      guarded_start c.args.along.now c.args.squares.now c.args.bounds.now c.in_ok-domains.domains c.in_ok-levels.levels.items c.in_ok-values.values.items c.in_ok-domains.ensures.trail c.in_ok-domains.ensures.places
      (ap length c.in_ok-levels.ensures ∙ length-replicate (length c.args.bounds.now) 0)
      (ap (λ (l : List ℕ). get_or l 0 0) c.in_ok-levels.ensures ∙ get_or-replicate (length c.args.bounds.now) 0 0 0 c.requires.some)
      c.in_ok-domains.ensures.all;
  numbers = c.new-numbers.ensures;
  within = omega arith;
  room = omega arith;
}

pub bounds-bounds-place : goal.bounds-bounds-place
bounds-bounds-place c = c.places.invariant.state.low

pub index_mut-requires : goal.index_mut-requires
index_mut-requires c = omega (arith, c.places.invariant.state.low, c.places.invariant.state.whole)

pub rewind-requires-clause-level : goal.rewind-requires-clause-level
rewind-requires-clause-level c =
    let at = before_read c.places.levels.items c.places.place c.index.result.now (omega (arith, c.places.invariant.state.low, c.places.invariant.guarded.marks_whole)) c.index.ensures in
    omega (arith, at, c.places.invariant.guarded.top)

pub assign-requires-clause-place : goal.assign-requires-clause-place
assign-requires-clause-place c =
    let now = guarded_now c.args.along.now c.args.squares.now c.args.bounds.now c.places.domains c.places.levels.items c.places.values.items c.places.place c.places.invariant.guarded c.rewind.new.self c.index.result.now c.places.invariant.state.low c.index.ensures c.rewind.ensures.trail c.rewind.ensures.masks c.rewind.ensures.whole in
    omega (arith, now.guarded.masks, c.places.invariant.state.low)

pub assign-requires-clause-squares : goal.assign-requires-clause-squares
assign-requires-clause-squares c =
    let now = guarded_now c.args.along.now c.args.squares.now c.args.bounds.now c.places.domains c.places.levels.items c.places.values.items c.places.place c.places.invariant.guarded c.rewind.new.self c.index.result.now c.places.invariant.state.low c.index.ensures c.rewind.ensures.trail c.rewind.ensures.masks c.rewind.ensures.whole in
    subst (λ n. AreSquares c.args.along.now n c.args.squares.now) (sym now.guarded.masks) c.requires.squares

pub assign-requires-clause-links : goal.assign-requires-clause-links
assign-requires-clause-links c =
    let now = guarded_now c.args.along.now c.args.squares.now c.args.bounds.now c.places.domains c.places.levels.items c.places.values.items c.places.place c.places.invariant.guarded c.rewind.new.self c.index.result.now c.places.invariant.state.low c.index.ensures c.rewind.ensures.trail c.rewind.ensures.masks c.rewind.ensures.whole in
    subst (λ n. AreLinks n c.args.squares.now c.args.links.now) (sym now.guarded.masks) c.requires.links

pub places-smaller-then-not-branch : goal.places-smaller-then-not-branch
places-smaller-then-not-branch c = steps_passed c.args.bounds.now c.places.values.items c.places.place c.places.next c.if-next-bounds.true

pub places-preserved-then-not-branch : goal.places-preserved-then-not-branch
places-preserved-then-not-branch c =
    let now = guarded_now c.args.along.now c.args.squares.now c.args.bounds.now c.places.domains c.places.levels.items c.places.values.items c.places.place c.places.invariant.guarded c.rewind.new.self c.index.result.now c.places.invariant.state.low c.index.ensures c.rewind.ensures.trail c.rewind.ensures.masks c.rewind.ensures.whole in
    record {
      state =
          state_refused c.args.along.now c.args.squares.now c.args.bounds.now c.requires.bounded c.requires.squares c.places.count c.places.values.items c.places.place c.places.next c.places.invariant.state c.if-next-bounds.true
          (λ ys solution same.
          let allowed = set_allowed c.args.along.now c.args.squares.now c.args.bounds.now c.rewind.new.self c.places.levels.items c.places.values.items c.places.place now.guarded c.assign.new.self c.places.next c.in_ok-assign.field-0 c.in_ok-assign.ensures now.used (omega (arith, c.places.invariant.state.low, c.places.invariant.state.whole)) ys solution same in
          let clash : true ≡ false = sym allowed.0 ∙ c.if-not-branch.true in
          absurd cc);
      guarded = guarded_set c.args.along.now c.args.squares.now c.args.bounds.now c.rewind.new.self c.places.levels.items c.places.values.items c.places.place now.guarded c.assign.new.self c.places.next c.in_ok-assign.field-0 c.in_ok-assign.ensures;
      numbers = c.places.invariant.numbers;
      within = c.places.invariant.within;
      room = c.places.invariant.room;
    }

pub all_fit-requires-clause-squares : goal.all_fit-requires-clause-squares
all_fit-requires-clause-squares c =
    let n = ap length c.deref.ensures.value ∙ now_whole c.args.along.now c.args.squares.now c.args.bounds.now c.requires.squares c.requires.bounded c.places.count c.places.values.items c.places.place c.places.next c.places.invariant.state c.if-next-bounds.true in
    subst (λ n. AreSquares c.args.along.now n c.args.squares.now) (sym n) c.requires.squares

pub all_fit-requires-clause-chains : goal.all_fit-requires-clause-chains
all_fit-requires-clause-chains c =
    let n = ap length c.deref.ensures.value ∙ now_whole c.args.along.now c.args.squares.now c.args.bounds.now c.requires.squares c.requires.bounded c.places.count c.places.values.items c.places.place c.places.next c.places.invariant.state c.if-next-bounds.true in
    subst (λ n. AreChains n (map later_place c.args.squares.now) c.args.chains.now.heads.items c.args.chains.now.links) (sym n) c.requires.chains

pub all_fit-requires-clause-place : goal.all_fit-requires-clause-place
all_fit-requires-clause-place c =
    omega (arith, ap length c.deref.ensures.value ∙ now_whole c.args.along.now c.args.squares.now c.args.bounds.now c.requires.squares c.requires.bounded c.places.count c.places.values.items c.places.place c.places.next c.places.invariant.state c.if-next-bounds.true, c.places.invariant.state.low)

pub all_fit-requires-clause-within : goal.all_fit-requires-clause-within
all_fit-requires-clause-within c =
    subst (λ (v : List ℕ). AreElements c.args.along.now c.args.squares.now v c.places.place) (sym c.deref.ensures.value)
    (are_elements c.args.along.now c.args.squares.now c.args.bounds.now c.requires.squares c.requires.bounded (set c.places.values.items c.places.place c.places.next) c.places.place (now_below c.args.along.now c.args.squares.now c.args.bounds.now c.requires.squares c.requires.bounded c.places.count c.places.values.items c.places.place c.places.next c.places.invariant.state c.if-next-bounds.true))

pub places-smaller-then-not-all_fit : goal.places-smaller-then-not-all_fit
places-smaller-then-not-all_fit c = steps_passed c.args.bounds.now c.places.values.items c.places.place c.places.next c.if-next-bounds.true

pub places-preserved-then-not-all_fit : goal.places-preserved-then-not-all_fit
places-preserved-then-not-all_fit c =
    let now = guarded_now c.args.along.now c.args.squares.now c.args.bounds.now c.places.domains c.places.levels.items c.places.values.items c.places.place c.places.invariant.guarded c.rewind.new.self c.index.result.now c.places.invariant.state.low c.index.ensures c.rewind.ensures.trail c.rewind.ensures.masks c.rewind.ensures.whole in
    let broken = c.if-not-all_fit.ensures.broken refl in
    record {
      state =
          state_passed c.args.along.now c.args.squares.now c.args.bounds.now c.requires.squares c.requires.bounded c.places.count c.places.values.items c.places.place c.places.next c.places.invariant.state c.if-next-bounds.true broken.0 broken.1
          (λ d. let b = broken.2 d in (b.0, λ fit. b.1 (subst (λ (v : List ℕ). Fits c.args.along.now v (get_or c.args.squares.now broken.0 d)) (sym c.deref.ensures.value) fit)));
      guarded = guarded_set c.args.along.now c.args.squares.now c.args.bounds.now c.rewind.new.self c.places.levels.items c.places.values.items c.places.place now.guarded c.assign.new.self c.places.next c.in_ok-assign.field-0 c.in_ok-assign.ensures;
      numbers = c.places.invariant.numbers;
      within = c.places.invariant.within;
      room = c.places.invariant.room;
    }

pub places-smaller-then-place-bounds : goal.places-smaller-then-place-bounds
places-smaller-then-place-bounds c =
    let e : suc c.places.place ≡ c.places.place + 1 = omega arith in
    subst (λ n. steps_left c.args.bounds.now (set c.places.values.items c.places.place c.places.next) n 0 < steps_left c.args.bounds.now c.places.values.items c.places.place c.places.next) e
    (steps_set c.args.bounds.now c.places.values.items c.places.place c.places.next (omega (arith, c.places.invariant.state.low, c.places.invariant.state.whole)) c.if-place-bounds.true c.if-next-bounds.true)

pub places-preserved-then-place-bounds : goal.places-preserved-then-place-bounds
places-preserved-then-place-bounds c =
    let now = guarded_now c.args.along.now c.args.squares.now c.args.bounds.now c.places.domains c.places.levels.items c.places.values.items c.places.place c.places.invariant.guarded c.rewind.new.self c.index.result.now c.places.invariant.state.low c.index.ensures c.rewind.ensures.trail c.rewind.ensures.masks c.rewind.ensures.whole in
    let fits : (s : ℕ) (d : Square) → s < length c.args.squares.now → later_place (get_or c.args.squares.now s d) ≡ c.places.place → Fits c.args.along.now (set c.places.values.items c.places.place c.places.next) (get_or c.args.squares.now s d) =
    subst (λ (v : List ℕ). (s : ℕ) (d : Square) → s < length c.args.squares.now → later_place (get_or c.args.squares.now s d) ≡ c.places.place → Fits c.args.along.now v (get_or c.args.squares.now s d)) c.deref.ensures.value (c.if-not-all_fit.ensures.fit refl) in
    record {
      state = state_set c.args.along.now c.args.squares.now c.args.bounds.now c.requires.squares c.requires.bounded c.places.count c.places.values.items c.places.place c.places.next c.places.invariant.state c.if-next-bounds.true fits c.if-place-bounds.true;
      guarded =
          subst (λ n. IsGuarded c.args.along.now c.args.squares.now c.args.bounds.now c.assign.new.self (set c.places.levels.items (c.places.place + 1) n) (set c.places.values.items c.places.place c.places.next) (c.places.place + 1)) (sym c.level.ensures)
          (guarded_deeper c.args.along.now c.args.squares.now c.args.bounds.now c.assign.new.self c.places.levels.items (set c.places.values.items c.places.place c.places.next) c.places.place (guarded_set c.args.along.now c.args.squares.now c.args.bounds.now c.rewind.new.self c.places.levels.items c.places.values.items c.places.place now.guarded c.assign.new.self c.places.next c.in_ok-assign.field-0 c.in_ok-assign.ensures) c.if-place-bounds.true
          (λ ys solution same. (set_allowed c.args.along.now c.args.squares.now c.args.bounds.now c.rewind.new.self c.places.levels.items c.places.values.items c.places.place now.guarded c.assign.new.self c.places.next c.in_ok-assign.field-0 c.in_ok-assign.ensures now.used (omega (arith, c.places.invariant.state.low, c.places.invariant.state.whole)) ys solution same).1));
      numbers = c.places.invariant.numbers;
      within = c.places.invariant.within;
      room = c.places.invariant.room;
    }

pub returns-then-count-room : goal.returns-then-count-room
returns-then-count-room c =
    let fits : (s : ℕ) (d : Square) → s < length c.args.squares.now → later_place (get_or c.args.squares.now s d) ≡ c.places.place → Fits c.args.along.now (set c.places.values.items c.places.place c.places.next) (get_or c.args.squares.now s d) =
    subst (λ (v : List ℕ). (s : ℕ) (d : Square) → s < length c.args.squares.now → later_place (get_or c.args.squares.now s d) ≡ c.places.place → Fits c.args.along.now v (get_or c.args.squares.now s d)) c.deref.ensures.value (c.if-not-all_fit.ensures.fit refl) in
    let last : c.places.place + 1 ≡ length c.args.bounds.now = omega (arith, c.places.invariant.state.low, c.if-place-bounds.false) in
    let more = some_left (fitting c.args.along.now c.args.squares.now c.args.bounds.now) c.places.count (set c.places.values.items c.places.place c.places.next) (left (is_fitting c.args.along.now c.args.squares.now) c.args.bounds.now c.places.values.items c.places.place (c.places.next + 1)) (sym (found_next c.args.along.now c.args.squares.now c.args.bounds.now c.requires.squares c.requires.bounded c.places.count c.places.values.items c.places.place c.places.next c.places.invariant.state c.if-next-bounds.true fits last)) in
    record {
      rows = taken (fitting c.args.along.now c.args.squares.now c.args.bounds.now) c.args.room c.places.count c.places.numbers c.if-count-room.true (omega (arith, more)) c.places.invariant.numbers;
      more = λ e. omega (arith, more, c.if-count-room.true);
      no_more = λ e. cc;
    }

pub places-smaller-else-place-bounds : goal.places-smaller-else-place-bounds
places-smaller-else-place-bounds c = steps_passed c.args.bounds.now c.places.values.items c.places.place c.places.next c.if-next-bounds.true

pub places-preserved-else-place-bounds : goal.places-preserved-else-place-bounds
places-preserved-else-place-bounds c =
    let now = guarded_now c.args.along.now c.args.squares.now c.args.bounds.now c.places.domains c.places.levels.items c.places.values.items c.places.place c.places.invariant.guarded c.rewind.new.self c.index.result.now c.places.invariant.state.low c.index.ensures c.rewind.ensures.trail c.rewind.ensures.masks c.rewind.ensures.whole in
    let fits : (s : ℕ) (d : Square) → s < length c.args.squares.now → later_place (get_or c.args.squares.now s d) ≡ c.places.place → Fits c.args.along.now (set c.places.values.items c.places.place c.places.next) (get_or c.args.squares.now s d) =
    subst (λ (v : List ℕ). (s : ℕ) (d : Square) → s < length c.args.squares.now → later_place (get_or c.args.squares.now s d) ≡ c.places.place → Fits c.args.along.now v (get_or c.args.squares.now s d)) c.deref.ensures.value (c.if-not-all_fit.ensures.fit refl) in
    let last : c.places.place + 1 ≡ length c.args.bounds.now = omega (arith, c.places.invariant.state.low, c.if-place-bounds.false) in
    let next = sym (found_next c.args.along.now c.args.squares.now c.args.bounds.now c.requires.squares c.requires.bounded c.places.count c.places.values.items c.places.place c.places.next c.places.invariant.state c.if-next-bounds.true fits last) in
    record {
      state = state_found c.args.along.now c.args.squares.now c.args.bounds.now c.requires.squares c.requires.bounded c.places.count c.places.values.items c.places.place c.places.next c.places.invariant.state c.if-next-bounds.true fits last;
      guarded = guarded_set c.args.along.now c.args.squares.now c.args.bounds.now c.rewind.new.self c.places.levels.items c.places.values.items c.places.place now.guarded c.assign.new.self c.places.next c.in_ok-assign.field-0 c.in_ok-assign.ensures;
      numbers =
          c.in_ok-push_row.ensures ∙ ap (λ (l : List ℕ). c.places.numbers ++ l) c.deref-else-place-bounds.ensures.value ∙ ap (λ (l : List ℕ). l ++ set c.places.values.items c.places.place c.places.next) c.places.invariant.numbers
          ∙ one_more (fitting c.args.along.now c.args.squares.now c.args.bounds.now) c.places.count (set c.places.values.items c.places.place c.places.next) (left (is_fitting c.args.along.now c.args.squares.now) c.args.bounds.now c.places.values.items c.places.place (c.places.next + 1)) next;
      within = omega (arith, some_left (fitting c.args.along.now c.args.squares.now c.args.bounds.now) c.places.count (set c.places.values.items c.places.place c.places.next) (left (is_fitting c.args.along.now c.args.squares.now) c.args.bounds.now c.places.values.items c.places.place (c.places.next + 1)) next);
      room = omega (arith, c.places.invariant.room, c.if-count-room.false);
    }

pub returns-then-place-eq0 : goal.returns-then-place-eq0
returns-then-place-eq0 c =
    let none = none_left (fitting c.args.along.now c.args.squares.now c.args.bounds.now) c.places.count (state_end c.args.along.now c.args.squares.now c.args.bounds.now c.requires.squares c.requires.bounded c.places.count c.places.values.items c.places.place c.places.next c.places.invariant.state c.if-place-eq0.true (omega (arith, c.if-next-bounds.false))) in
    record {
      rows = whole_taken (fitting c.args.along.now c.args.squares.now c.args.bounds.now) c.args.room c.places.count c.places.numbers none c.places.invariant.within c.places.invariant.room c.places.invariant.numbers;
      more = λ e. cc;
      no_more = λ e. omega (arith, none, c.places.invariant.room);
    }

pub index-requires : goal.index-requires
index-requires c = omega (arith, c.places.invariant.state.low, c.places.invariant.state.whole)

pub overflow_add-next-else-place-eq0 : goal.overflow_add-next-else-place-eq0
overflow_add-next-else-place-eq0 c =
    let d = c.places.place - 1 in
    let low : d < c.places.place = omega (arith, c.if-place-eq0.false) in
    let read = before_read c.places.values.items d c.index-else-place-eq0.result.now (omega (arith, c.places.invariant.state.low, c.places.invariant.state.whole)) c.index-else-place-eq0.ensures in
    omega (arith, read, c.places.invariant.state.below d low, c.type_inv.bounds d)

pub places-smaller : goal.places-smaller
places-smaller c =
    let d = c.places.place - 1 in
    let read = before_read c.places.values.items d c.index-else-place-eq0.result.now (omega (arith, c.places.invariant.state.low, c.places.invariant.state.whole)) c.index-else-place-eq0.ensures in
    let e : suc d ≡ c.places.place = omega (arith, c.if-place-eq0.false) in
    subst (λ v. steps_left c.args.bounds.now c.places.values.items d (v + 1) < steps_left c.args.bounds.now c.places.values.items c.places.place c.places.next) (sym read)
    (subst (λ n. steps_left c.args.bounds.now c.places.values.items d (get_or c.places.values.items d 0 + 1) < steps_left c.args.bounds.now c.places.values.items n c.places.next) e
    (steps_back c.args.bounds.now c.places.values.items d c.places.next))

pub places-preserved : goal.places-preserved
places-preserved c =
    let now = guarded_now c.args.along.now c.args.squares.now c.args.bounds.now c.places.domains c.places.levels.items c.places.values.items c.places.place c.places.invariant.guarded c.rewind.new.self c.index.result.now c.places.invariant.state.low c.index.ensures c.rewind.ensures.trail c.rewind.ensures.masks c.rewind.ensures.whole in
    let d = c.places.place - 1 in
    let read = before_read c.places.values.items d c.index-else-place-eq0.result.now (omega (arith, c.places.invariant.state.low, c.places.invariant.state.whole)) c.index-else-place-eq0.ensures in
    let e : c.places.place ≡ suc d = omega (arith, c.if-place-eq0.false) in
    record {
      state =
          subst (λ v. IsState c.args.along.now c.args.squares.now c.args.bounds.now c.places.count c.places.values.items d (v + 1)) (sym read)
          (state_back c.args.along.now c.args.squares.now c.args.bounds.now c.requires.squares c.requires.bounded c.places.count c.places.values.items c.places.place c.places.next c.places.invariant.state d e (omega (arith, c.if-next-bounds.false)));
      guarded = guarded_back c.args.along.now c.args.squares.now c.args.bounds.now c.rewind.new.self c.places.levels.items c.places.values.items c.places.place now.guarded d e;
      numbers = c.places.invariant.numbers;
      within = c.places.invariant.within;
      room = c.places.invariant.room;
    }
