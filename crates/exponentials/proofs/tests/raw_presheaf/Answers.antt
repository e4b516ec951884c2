use Rattle.std.proofs.Common.{◌≡◌, ℕ, List, ap, sym, subst, ◌∙◌, refl, arith}
use Rattle.std.proofs.lemmas.List.{take_all}
use Rattle.topos_model.specs.declared.raw.RawAlong.{RawAlong}
use Rattle.topos_model.specs.presheaves.PresheafFaults.{IsPresheafListing}
use Rattle.natural_maps.specs.Tables.{table_along}
use Rattle.natural_maps.proofs.TableListings.{presheaf_listing}
use Rattle.exponentials.proofs.tests.raw_presheaf.Goals as goal

pub along-requires-clause-few : goal.along-requires-clause-few
along-requires-clause-few c = omega (arith, (c.if-not-are_restrictions.ensures refl).arrows, c.objects-2.ensures.count, c.laws.ensures.few)

pub returns : goal.returns
returns c =
    let sizes : c.loop-size.copy ≡ c.args.sizes.now = c.loop-size.invariant ∙ take_all c.loop-size.size-index c.args.sizes.now (omega arith) in
    let along : c.in_ok-along.along ≡ table_along c.args.cat.now.objects c.args.rows.now = c.in_ok-along.ensures ∙ ap (λ n. table_along n c.args.rows.now) c.objects-2.ensures.count in
    subst (λ (l : List ℕ). IsPresheafListing c.args.cat.now (record { sizes = l; along = c.in_ok-along.along })) (sym sizes)
    (subst (λ (l : List RawAlong). IsPresheafListing c.args.cat.now (record { sizes = c.args.sizes.now; along = l })) (sym along)
    (presheaf_listing c.args.cat.now c.args.sizes.now c.args.rows.now (omega (arith, c.if-sizes-objects.false, c.objects.ensures.count)) (c.if-not-are_restrictions.ensures refl)))
