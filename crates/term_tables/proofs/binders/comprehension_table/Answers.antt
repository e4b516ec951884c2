use Rattle.std.proofs.Common.{◌≡◌, sym, subst, arith}
use Rattle.std.proofs.lemmas.Result.{IfOk-weaker}
use Rattle.functor_store.specs.Store.{functor_at}
use Rattle.truth_tables.specs.Tables.{table}
use Rattle.truth_tables.specs.Abstraction.{AreThere, AreNumbered}
use Rattle.formula_tables.proofs.AlongArrows.{site_is, restricted_slice}
use Rattle.term_tables.proofs.Contexts.{over_sizes, sizes_long}
use Rattle.term_tables.proofs.SubsetParts.{digit_of, subset_rows_rise, subsets_there, subset_numbers}
use Rattle.term_tables.proofs.binders.comprehension_table.Goals as goal

pub indicators-requires : goal.indicators-requires
indicators-requires c =
    let (w, Γ, T, φ, h) = c.requires.part in
    record {
      objects = omega (arith, c.requires.objects, sizes_long w Γ c.args.sizes.now h.known.counted, sizes_long w _ c.args.inner.now h.counted);
      truths = over_sizes w _ c.args.inner.now h.counted c.args.body.now h.stands.over;
    }

pub abstractions-requires : goal.abstractions-requires
abstractions-requires c =
    let (w, Γ, T, φ, h) = c.requires.part in
    let e = c.as_slice.ensures in
    let context = functor_at c.args.store.now.sealed c.args.context in
    let F = functor_at c.args.store.now.sealed c.args.id in
    let digits : c.in_ok-digits.digits ≡ table c.args.inner.now (digit_of c.args.body.now) = c.in_ok-digits.ensures in
    let r = restricted_slice w Γ c.args.stages.now c.args.store.now c.args.context c.args.sizes.now h.known c.as_slice.result.now e in
    record {
      objects = c.requires.objects;
      sealed = (h.known.sealed, h.type.low);
      site = site_is w Γ c.args.stages.now c.args.store.now c.args.context c.args.sizes.now h.known;
      sources = r.objects;
      tuples = λ o low. sym (r.counts o low);
      arrows = r.arrows;
      rise = subset_rows_rise w Γ T φ c.args.stages.now c.args.store.now c.args.context c.args.id c.args.sizes.now c.args.inner.now c.args.widths.now c.args.body.now h c.in_ok-digits.digits digits;
      there = subst (λ s. AreThere context F c.args.sizes.now s c.args.widths.now c.in_ok-digits.digits) (sym e)
          (subsets_there w Γ T φ c.args.stages.now c.args.store.now c.args.context c.args.id c.args.sizes.now c.args.inner.now c.args.widths.now c.args.body.now h c.in_ok-digits.digits digits);
    }

pub returns : goal.returns
returns c = record {
  stands = IfOk-weaker c.abstractions.result _ _ (λ rows made w Γ T φ h.
      let context = functor_at c.args.store.now.sealed c.args.context in
      let F = functor_at c.args.store.now.sealed c.args.id in
      let digits : c.in_ok-digits.digits ≡ table c.args.inner.now (digit_of c.args.body.now) = c.in_ok-digits.ensures in
      subset_numbers w Γ T φ c.args.stages.now c.args.store.now c.args.context c.args.id c.args.sizes.now c.args.inner.now c.args.widths.now c.args.body.now h c.in_ok-digits.digits digits rows
      (subst (λ s. AreNumbered context F c.args.sizes.now s c.args.widths.now c.in_ok-digits.digits rows) c.as_slice.ensures made)) c.abstractions.ensures;
}
