use Rattle.std.proofs.Common.{sym, ap, ◌∙◌}
use Rattle.std.proofs.lemmas.List.{drop_all}
use Rattle.topos_model.specs.declared.raw.RawAlong.{RawAlong}
use Rattle.topos_model.specs.categories.Filling.{has_restriction}
use Rattle.presheaf_core.proofs.ListedEntries.{restriction_passed, restriction_found, restriction_none, entries_passed, entries_found}
use Rattle.presheaf_core.proofs.entries.listed_along.Goals as goal

pub returns-then-listed-f : goal.returns-then-listed-f
returns-then-listed-f c =
    let along = c.args.along.now in
    let i = c.loop-listed.listed-index in
    let d = c.listed-item.result in
    let same = ap (λ (a : RawAlong). a.arrow) (sym c.listed-item.is) ∙ c.if-listed-f.true in (
      c.loop-listed.invariant.has ∙ restriction_found along i c.args.f d c.loop-listed-test.true same,
      c.as_slice.ensures ∙ ap (λ (a : RawAlong). a.entries) c.listed-item.is ∙ sym (c.loop-listed.invariant.entries ∙ entries_found along i c.args.f d c.loop-listed-test.true same),
    )

pub loop-listed-preserved : goal.loop-listed-preserved
loop-listed-preserved c =
    let along = c.args.along.now in
    let i = c.loop-listed.listed-index in
    let d = c.listed-item.result in
    record {
      entries = c.loop-listed.invariant.entries ∙ entries_passed along i c.args.f d c.loop-listed-test.true (λ e. c.if-listed-f.false (ap (λ (a : RawAlong). a.arrow) c.listed-item.is ∙ e));
      has = c.loop-listed.invariant.has ∙ restriction_passed along i c.args.f d c.loop-listed-test.true (λ e. c.if-listed-f.false (ap (λ (a : RawAlong). a.arrow) c.listed-item.is ∙ e));
    }

pub returns : goal.returns
returns c = c.loop-listed.invariant.has ∙ ap (λ l. has_restriction l c.args.f) (drop_all c.loop-listed.listed-index c.args.along.now c.loop-listed-test.false) ∙ restriction_none c.args.f
