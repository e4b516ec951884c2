use Rattle.std.proofs.Common.{◌≡◌, length, ap₂, ◌∙◌}
use Rattle.truth_tables.specs.Tables.{row}
use Rattle.term_objects.specs.KeptElements.{kept_along}
use Rattle.term_objects.proofs.PartNumbers.{truths_made, kept_made, lawful_made, part_made}
use Rattle.term_objects.proofs.subobjects.part.Goals as goal

pub kept_rows-requires : goal.kept_rows-requires
kept_rows-requires c =
    let (s, functors, T, p, h) = c.requires.known in
    record { truths = truths_made c.args.cat.now c.args.store.now c.args.id c.args.truths.now c.objects.ensures.lawful c.objects.result c.objects.ensures.count s functors T p h }

pub kept_restrictions-requires : goal.kept_restrictions-requires
kept_restrictions-requires c =
    let (s, functors, T, p, h) = c.requires.known in
    record {
      kept = kept_made c.args.cat.now c.args.store.now c.args.id c.args.truths.now c.objects.ensures.lawful c.objects.result c.objects.ensures.count s functors T p h c.as_slice.result.now
          c.as_slice-2.result.now (c.as_slice.ensures ∙ c.in_ok-kept.ensures.numbers) (c.as_slice-2.ensures ∙ c.in_ok-kept.ensures.places);
    }

pub from_rows-requires : goal.from_rows-requires
from_rows-requires c =
    let (s, functors, T, p, h) = c.requires.known in
    record {
      lawful = lawful_made c.args.cat.now c.args.store.now c.args.id c.args.truths.now c.objects.ensures.lawful c.objects.result c.objects.ensures.count s functors T p h c.as_slice.result.now
          c.as_slice-2.result.now (c.as_slice.ensures ∙ c.in_ok-kept.ensures.numbers) (c.as_slice-2.ensures ∙ c.in_ok-kept.ensures.places) c.in_ok-kept.kept.sizes c.in_ok-along.along
          c.in_ok-kept.ensures.sizes c.in_ok-along.ensures;
    }

pub returns : goal.returns
returns c = λ s functors T p h.
    let k = c.args.cat.now in
    let along : c.in_ok-along.along ≡ row (length k.ends) (kept_along k c.args.store.now c.args.id c.in_ok-kept.kept.numbers c.in_ok-kept.kept.places) =
    c.in_ok-along.ensures ∙ ap₂ (λ n q. row (length k.ends) (kept_along k c.args.store.now c.args.id n q)) c.as_slice.ensures c.as_slice-2.ensures in
    part_made k c.args.store.now c.args.id c.args.truths.now c.objects.ensures.lawful c.objects.result c.objects.ensures.count s functors T p h c.in_ok-kept.kept.numbers c.in_ok-kept.kept.places
    c.in_ok-kept.ensures.numbers c.in_ok-kept.ensures.places c.in_ok-kept.kept.sizes c.in_ok-along.along c.in_ok-kept.ensures.sizes along c.from_rows.result c.from_rows.ensures
