use Rattle.std.proofs.Common.{◌≡◌, ◌<◌, false, true, ℕ, length, get_or, take, sym, ◌∙◌, subst}
use Rattle.finite_lists.specs.Members.{In}
use Rattle.finite_lists.proofs.Lists.{In_at}
use Rattle.topos_model.specs.categories.Filling.{has_composite}
use Rattle.fin_category.proofs.Listings.{listed_at-none, listed_at-some, held_more, wrong_ends, twice, no_fault, search_ends, search_goes_on, search_done, has_ends_of, nothing_held, search_begins}
use Rattle.fin_category.proofs.listing.listed_composites.Goals as goal

pub loop-listed-init : goal.loop-listed-init
loop-listed-init c = record { held = nothing_held c.new-composites.result c.new-composites.ensures.empty; search = search_begins c.args.raw.now }

pub has_ends-requires-clause-second : goal.has_ends-requires-clause-second
has_ends-requires-clause-second c =
    let e : ℕ × ℕ × ℕ = get_or c.as_slice-listed-items.result.now c.loop-listed.listed-index (0, 0, 0) in
    let w = c.requires.within.listed e (subst (λ l. In l e) c.as_slice-listed-items.ensures (In_at c.as_slice-listed-items.result.now c.loop-listed.listed-index (0, 0, 0) c.loop-listed-test.true)) in
    rw c.requires.ends w.0.1

pub has_ends-requires-clause-first : goal.has_ends-requires-clause-first
has_ends-requires-clause-first c =
    let e : ℕ × ℕ × ℕ = get_or c.as_slice-listed-items.result.now c.loop-listed.listed-index (0, 0, 0) in
    let w = c.requires.within.listed e (subst (λ l. In l e) c.as_slice-listed-items.ensures (In_at c.as_slice-listed-items.result.now c.loop-listed.listed-index (0, 0, 0) c.loop-listed-test.true)) in
    rw c.requires.ends w.1.1

pub has_ends-requires-clause-composite : goal.has_ends-requires-clause-composite
has_ends-requires-clause-composite c =
    let e : ℕ × ℕ × ℕ = get_or c.as_slice-listed-items.result.now c.loop-listed.listed-index (0, 0, 0) in
    let w = c.requires.within.listed e (subst (λ l. In l e) c.as_slice-listed-items.ensures (In_at c.as_slice-listed-items.result.now c.loop-listed.listed-index (0, 0, 0) c.loop-listed-test.true)) in
    rw c.requires.ends w.2

pub returns-then-not-has_ends-clause-fault : goal.returns-then-not-has_ends-clause-fault
returns-then-not-has_ends-clause-fault c =
    let raw = c.args.raw.now in
    let i = c.loop-listed.listed-index in
    let low : i < length raw.listed = rw c.as_slice-listed-items.ensures at c.loop-listed-test.true in
    let ends = has_ends_of raw c.args.ends.now (get_or raw.listed i (0, 0, 0)).0 (get_or raw.listed i (0, 0, 0)).1 (get_or raw.listed i (0, 0, 0)).2 c.has_ends.result c.requires.ends (rw c.as_slice-listed-items.ensures at c.has_ends.ensures) in
    rw c.as_slice-listed-items.ensures (search_ends raw i low _ c.loop-listed.invariant.search (wrong_ends raw i (ends ∙ c.if-not-has_ends.true)))

pub returns-in-Ok-Some-clause-fault : goal.returns-in-Ok-Some-clause-fault
returns-in-Ok-Some-clause-fault c =
    let raw = c.args.raw.now in
    let i = c.loop-listed.listed-index in
    let low : i < length raw.listed = rw c.as_slice-listed-items.ensures at c.loop-listed-test.true in
    let e : ℕ × ℕ × ℕ = get_or raw.listed i (0, 0, 0) in
    let ends = has_ends_of raw c.args.ends.now e.0 e.1 e.2 c.has_ends.result c.requires.ends (rw c.as_slice-listed-items.ensures at c.has_ends.ensures) in
    let found = rw c.as_slice-listed-items.ensures at c.in-Ok-Some.ensures.old in
    let has : has_composite (take i raw.listed) e.0 e.1 ≡ true = listed_at-some (take i raw.listed) e.0 e.1 c.in-Ok-Some.field-0-0 (sym (c.loop-listed.invariant.held e.0 e.1) ∙ sym found ∙ c.in-Ok-Some.field-0-is) in
    rw c.as_slice-listed-items.ensures (search_ends raw i low _ c.loop-listed.invariant.search (twice raw i (ends ∙ c.if-not-has_ends.false) has))

pub loop-listed-preserved : goal.loop-listed-preserved
loop-listed-preserved c =
    let raw = c.args.raw.now in
    let i = c.loop-listed.listed-index in
    let low : i < length raw.listed = rw c.as_slice-listed-items.ensures at c.loop-listed-test.true in
    let e : ℕ × ℕ × ℕ = get_or raw.listed i (0, 0, 0) in
    let ends = has_ends_of raw c.args.ends.now e.0 e.1 e.2 c.has_ends.result c.requires.ends (rw c.as_slice-listed-items.ensures at c.has_ends.ensures) in
    let found = sym c.in-Ok-None.field-0-is ∙ (rw c.as_slice-listed-items.ensures at c.in-Ok-None.ensures.old) in
    let updates = rw c.as_slice-listed-items.ensures at c.in-Ok-None.ensures.updates in
    let none : has_composite (take i raw.listed) e.0 e.1 ≡ false = listed_at-none (take i raw.listed) e.0 e.1 (sym (c.loop-listed.invariant.held e.0 e.1) ∙ sym found) in
    record {
      held = held_more raw.listed i low c.loop-listed.composites c.insert.new.self c.loop-listed.invariant.held found updates;
      search = search_goes_on raw i low c.loop-listed.invariant.search (no_fault raw i (ends ∙ c.if-not-has_ends.false) none);
    }

pub returns-clause-faultless : goal.returns-clause-faultless
returns-clause-faultless c = search_done c.args.raw.now c.loop-listed.listed-index (rw c.as_slice-listed-items.ensures at c.loop-listed-test.false) c.loop-listed.invariant.search
