use Rattle.std.proofs.Common.{◌≡◌, ◌*◌, ◌<◌, ◌≤◌, length, refl, sym, ap, ◌∙◌, arith}
use Rattle.std.specs.List.{range_with_len}
use Rattle.std.specs.Option.{option_map}
use Rattle.std.proofs.lemmas.List.FromFn.{length-range_with_len, get_or-range_with_len}
use Rattle.finite_lists.proofs.FirstAnswers.{first_left-none, first_left-some, first_left-end}
use Rattle.topos_model.specs.declared.fault.Fault.TheVariants.{CompositeMissing}
use Rattle.topos_model.specs.categories.Listed.{all_ends}
use Rattle.fin_category.proofs.Fillings.{missing_from, missing_by_rows, other_rows}
use Rattle.fin_category.proofs.filling.filled_square.Goals as goal

pub loop-g-init : goal.loop-g-init
loop-g-init c = record {
  search = missing_by_rows c.args.raw.now;
  places = c.in_ok-square.ensures ∙ ap (λ n. n * n) (c.len-side.ensures ∙ ap length c.requires.listing.ends);
  rows = λ g low. absurd (omega arith);
}

pub returns-in-Some-clause-fault : goal.returns-in-Some-clause-fault
returns-in-Some-clause-fault c =
    let raw = c.args.raw.now in
    let n : c.len-side.result ≡ length (all_ends raw) = c.len-side.ensures ∙ ap length c.requires.listing.ends in
    let low : c.loop-g.g < length (all_ends raw) = omega (arith, n) in
    c.loop-g.invariant.search
    ∙ first_left-some (missing_from raw) (range_with_len 0 (length (all_ends raw))) c.loop-g.g 0 (CompositeMissing c.loop-g.g c.in-Some.f) (rw length-range_with_len low)
    (ap (missing_from raw) (get_or-range_with_len 0 (length (all_ends raw)) c.loop-g.g 0 low ∙ omega arith) ∙ ap (option_map (λ f. CompositeMissing c.loop-g.g f)) (sym c.in-Some.ensures.missing))

pub loop-g-preserved : goal.loop-g-preserved
loop-g-preserved c =
    let raw = c.args.raw.now in
    let n : c.len-side.result ≡ length (all_ends raw) = c.len-side.ensures ∙ ap length c.requires.listing.ends in
    let low : c.loop-g.g < length (all_ends raw) = omega (arith, n) in
    record {
      search =
          c.loop-g.invariant.search
          ∙ first_left-none (missing_from raw) (range_with_len 0 (length (all_ends raw))) c.loop-g.g 0 (rw length-range_with_len low)
          (ap (missing_from raw) (get_or-range_with_len 0 (length (all_ends raw)) c.loop-g.g 0 low ∙ omega arith) ∙ ap (option_map (λ f. CompositeMissing c.loop-g.g f)) (sym c.in_default.ensures.missing));
      places = c.fill_row.ensures.others.places ∙ c.loop-g.invariant.places;
      rows = other_rows raw c.loop-g.g c.loop-g.square.items c.fill_row.new.square.items c.fill_row.ensures.others c.loop-g.invariant.rows (c.in_default.ensures.row refl);
    }

pub returns-clause-faultless : goal.returns-clause-faultless
returns-clause-faultless c =
    let raw = c.args.raw.now in
    let n : c.len-side.result ≡ length (all_ends raw) = c.len-side.ensures ∙ ap length c.requires.listing.ends in
    let high : length (all_ends raw) ≤ c.loop-g.g = omega (arith, n) in
    c.loop-g.invariant.search ∙ first_left-end (missing_from raw) (range_with_len 0 (length (all_ends raw))) c.loop-g.g (rw length-range_with_len high)
