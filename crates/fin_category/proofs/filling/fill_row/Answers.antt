use Rattle.std.proofs.Common.{◌≡◌, ℕ, ◌+◌, ◌*◌, ◌<◌, List, length, get_or, set, take, refl, sym, ap, subst, ◌∙◌, arith}
use Rattle.std.proofs.lemmas.List.{take_more, take_all}
use Rattle.finite_lists.specs.Members.{In}
use Rattle.finite_lists.specs.First.{first}
use Rattle.finite_lists.proofs.Lists.{In_at, In_take}
use Rattle.finite_lists.proofs.FirstAnswers.{first_left-none, first_left-some}
use Rattle.std.proofs.lemmas.Bool.{eqb-true}
use Rattle.topos_model.specs.categories.Listed.{all_ends}
use Rattle.topos_model.specs.categories.Filling.{domain_of, filled_composite}
use Rattle.fin_category.specs.Tables.{entry}
use Rattle.fin_category.specs.Filling.{undetermined, first_undetermined}
use Rattle.fin_category.proofs.AllEnds.{ends_within}
use Rattle.fin_category.proofs.Fillings.{arrow_in, in_ending_at, row_of, count_rows, place_within, same_but_row, held_entry, determined_some, determined_none}
use Rattle.fin_category.proofs.filling.fill_row.Goals as goal

pub get-row-requires : goal.get-row-requires
get-row-requires c =
    let raw = c.args.raw.now in
    rw (c.as_slice-ends.ensures, c.requires.listing.ends, count_rows raw c.args.listing.now c.requires.listing) (ends_within raw c.requires.within.ends c.args.g c.requires.arrow).0

pub loop-f-init : goal.loop-f-init
unfolding first_undetermined
loop-f-init c =
    let raw = c.args.raw.now in
    let are = c.as_slice-ends.ensures ∙ c.requires.listing.ends in
    let row = row_of raw c.args.listing.now c.requires.listing (domain_of (all_ends raw) c.args.g) c.as_slice-f-items.result.now (ends_within raw c.requires.within.ends c.args.g c.requires.arrow).0 (rw (are, ← c.as_slice-f-items.ensures) at c.get-row.ensures) in
    record {
      search = ap (first (undetermined raw c.args.g)) (sym row);
      same = record { places = refl; entries = λ i j other low. refl };
      held = λ f i. absurd i;
    }

pub composite-requires-clause-first : goal.composite-requires-clause-first
composite-requires-clause-first c =
    let raw = c.args.raw.now in
    let are = c.as_slice-ends.ensures ∙ c.requires.listing.ends in
    let row = row_of raw c.args.listing.now c.requires.listing (domain_of (all_ends raw) c.args.g) c.as_slice-f-items.result.now (ends_within raw c.requires.within.ends c.args.g c.requires.arrow).0 (rw (are, ← c.as_slice-f-items.ensures) at c.get-row.ensures) in
    (arrow_in (all_ends raw) (domain_of (all_ends raw) c.args.g) _ (subst (λ (xs : List ℕ). In xs (get_or c.as_slice-f-items.result.now c.loop-f.f-index 0)) row (In_at c.as_slice-f-items.result.now c.loop-f.f-index 0 c.loop-f-test.true))).0

pub composite-requires-clause-objects : goal.composite-requires-clause-objects
composite-requires-clause-objects c = (ends_within c.args.raw.now c.requires.within.ends c.args.g c.requires.arrow).1

pub index_mut-requires : goal.index_mut-requires
index_mut-requires c =
    let raw = c.args.raw.now in
    let are = c.as_slice-ends.ensures ∙ c.requires.listing.ends in
    let row = row_of raw c.args.listing.now c.requires.listing (domain_of (all_ends raw) c.args.g) c.as_slice-f-items.result.now (ends_within raw c.requires.within.ends c.args.g c.requires.arrow).0 (rw (are, ← c.as_slice-f-items.ensures) at c.get-row.ensures) in
    let low = (arrow_in (all_ends raw) (domain_of (all_ends raw) c.args.g) _ (subst (λ (xs : List ℕ). In xs (get_or c.as_slice-f-items.result.now c.loop-f.f-index 0)) row (In_at c.as_slice-f-items.result.now c.loop-f.f-index 0 c.loop-f-test.true))).0 in
    let places : length c.loop-f.square.items ≡ length (all_ends raw) * length (all_ends raw) = omega (arith, c.loop-f.invariant.same.places, c.args.square.now.ok.0, c.requires.places) in
    rw are (omega (arith, place_within (length (all_ends raw)) c.loop-f.square.items c.args.g (get_or c.as_slice-f-items.result.now c.loop-f.f-index 0) places c.requires.arrow low, c.loop-f.square.ok.0))

pub returns-in-None-clause-missing : goal.returns-in-None-clause-missing
returns-in-None-clause-missing c =
    let raw = c.args.raw.now in
    let f : ℕ = get_or c.as_slice-f-items.result.now c.loop-f.f-index 0 in
    sym (c.loop-f.invariant.search ∙ first_left-some (undetermined raw c.args.g) c.as_slice-f-items.result.now c.loop-f.f-index 0 f c.loop-f-test.true (determined_none raw c.args.g f c.in-None.ensures))

pub loop-f-preserved : goal.loop-f-preserved
loop-f-preserved c =
    let raw = c.args.raw.now in
    let are = c.as_slice-ends.ensures ∙ c.requires.listing.ends in
    let f : ℕ = get_or c.as_slice-f-items.result.now c.loop-f.f-index 0 in
    let row = row_of raw c.args.listing.now c.requires.listing (domain_of (all_ends raw) c.args.g) c.as_slice-f-items.result.now (ends_within raw c.requires.within.ends c.args.g c.requires.arrow).0 (rw (are, ← c.as_slice-f-items.ensures) at c.get-row.ensures) in
    let each : (k : ℕ) → In c.as_slice-f-items.result.now k → k < length (all_ends raw) = λ k i. (arrow_in (all_ends raw) (domain_of (all_ends raw) c.args.g) k (subst (λ (xs : List ℕ). In xs k) row i)).0 in
    let low : f < length (all_ends raw) = each f (In_at c.as_slice-f-items.result.now c.loop-f.f-index 0 c.loop-f-test.true) in
    let places : length c.loop-f.square.items ≡ length (all_ends raw) * length (all_ends raw) = omega (arith, c.loop-f.invariant.same.places, c.args.square.now.ok.0, c.requires.places) in
    let found = determined_some raw c.args.g f c.in-Some.h c.in-Some.ensures in
    rw are (record {
      search = c.loop-f.invariant.search ∙ first_left-none (undetermined raw c.args.g) c.as_slice-f-items.result.now c.loop-f.f-index 0 c.loop-f-test.true found.0;
      same = same_but_row (length (all_ends raw)) c.args.g f c.in-Some.h c.loop-f.square.items places c.requires.arrow low c.args.square.now.items c.loop-f.invariant.same;
      held =
          subst (λ (xs : List ℕ). (k : ℕ) → In xs k → entry (set c.loop-f.square.items (c.args.g * length (all_ends raw) + f) c.in-Some.h) (length (all_ends raw)) c.args.g k ≡ filled_composite raw c.args.g k)
          (sym (take_more c.as_slice-f-items.result.now c.loop-f.f-index 0 c.loop-f-test.true))
          (held_entry (length (all_ends raw)) c.args.g f c.in-Some.h c.loop-f.square.items places c.requires.arrow low (filled_composite raw c.args.g) (take c.loop-f.f-index c.as_slice-f-items.result.now) found.1
          (λ k i. each k (In_take c.as_slice-f-items.result.now c.loop-f.f-index k i)) c.loop-f.invariant.held);
    })

pub returns-clause-row : goal.returns-clause-row
returns-clause-row c = λ none f low m.
    let raw = c.args.raw.now in
    let are = c.as_slice-ends.ensures ∙ c.requires.listing.ends in
    let row = row_of raw c.args.listing.now c.requires.listing (domain_of (all_ends raw) c.args.g) c.as_slice-f-items.result.now (ends_within raw c.requires.within.ends c.args.g c.requires.arrow).0 (rw (are, ← c.as_slice-f-items.ensures) at c.get-row.ensures) in
    let i : In c.as_slice-f-items.result.now f = subst (λ (xs : List ℕ). In xs f) (sym row) (in_ending_at (all_ends raw) (domain_of (all_ends raw) c.args.g) f low (eqb-true _ _ m)) in
    c.loop-f.invariant.held f (subst (λ (xs : List ℕ). In xs f) (sym (take_all c.loop-f.f-index c.as_slice-f-items.result.now c.loop-f-test.false)) i)
