use Rattle.std.proofs.Common.{inl, inr, ◌≡◌, ◌<◌, ◌≤◌, ℕ, List, [], length, get_or, map, Option, sym, ap, subst, ◌∙◌, arith}
use Rattle.std.specs.List.{range_with_len}
use Rattle.std.specs.Prelude.{MatchOption}
use Rattle.std.proofs.lemmas.Bool.{cases_lt}
use Rattle.std.proofs.lemmas.List.{length-map, get_or_past}
use Rattle.omega_object.proofs.SealedSieves.{few_sieves}
use Rattle.topos_model.specs.categories.Category.{Category, into, dom}
use Rattle.topos_model.specs.topologies.Cover.{Site}
use Rattle.topos_model.specs.Laws.{IsCategory, IsTopology}
use Rattle.topos_model.specs.topologies.LeastCovers.{least}
use Rattle.fin_category.specs.declared.mask.ArrowMask.{ArrowMask}
use Rattle.fin_category.specs.ArrowSets.{arrows_in}
use Rattle.omega_object.specs.TruthValues.{closed_sieves}
use Rattle.omega_object.specs.Tables.{composites_of, sieve_cells}
use Rattle.omega_object.proofs.Precedence.{numbered_at, numbered_length}
use Rattle.omega_object.proofs.tables.omega_within.Goals as goal

pub returns-in_ok-covers-in-Some : goal.returns-in_ok-covers-in-Some
returns-in_ok-covers-in-Some c =
    let s = c.args.site.now in
    let k = s.category in
    let here = c.cat-cat.result.now in
    let of : here ≡ k = c.cat-cat.ensures in
    let listed = subst (λ (o : Option (List (List ArrowMask))). MatchOption o (c.args.room < sieve_cells s) (λ all. (map (map arrows_in) all ≡ map (closed_sieves s) (range_with_len 0 k.objects)) × (sieve_cells s ≤ c.args.room))) c.in-Some.is c.in_ok-sieves_within.ensures in
    let into_is : map arrows_in c.in_ok-into-in-Some.into ≡ map (into k) (range_with_len 0 k.objects) = c.in_ok-into-in-Some.ensures ∙ ap (λ (x : Category). map (into x) (range_with_len 0 x.objects)) of in
    let below_is : map arrows_in c.in_ok-below-in-Some.below ≡ map (λ f. composites_of k f (into k (dom k f))) (range_with_len 0 (length k.ends)) =
    c.in_ok-below-in-Some.ensures ∙ ap (λ (x : Category). map (λ f. composites_of x f (into x (dom x f))) (range_with_len 0 (length x.ends))) of in
    let covers_are = c.in_ok-covers-in-Some.ensures in (
      record {
        category = subst (λ (x : Category). IsCategory x) of c.laws.ensures.lawful;
        few = subst (λ (x : Category). length x.ends ≤ 512) of c.laws.ensures.few;
        topology = subst (λ (t : Site). IsTopology t) c.top-topology.ensures.site c.top-topology.ensures.topology.topology;
        objects = numbered_length (map arrows_in) (closed_sieves s) c.in-Some.sieves k.objects listed.0;
        into_objects = numbered_length arrows_in (into k) c.in_ok-into-in-Some.into k.objects into_is;
        below_arrows = numbered_length arrows_in _ c.in_ok-below-in-Some.below (length k.ends) below_is;
        cover_arrows = numbered_length arrows_in _ c.in_ok-covers-in-Some.covers (length k.ends) covers_are;
        sieves = λ x low. numbered_at (map arrows_in) (closed_sieves s) c.in-Some.sieves k.objects x [] listed.0 low;
        into_is = λ x low. numbered_at arrows_in (into k) c.in_ok-into-in-Some.into k.objects x _ into_is low;
        below_is = λ f low. numbered_at arrows_in (λ f. composites_of k f (into k (dom k f))) c.in_ok-below-in-Some.below (length k.ends) f _ below_is low;
        covers_are = λ f low. numbered_at arrows_in (λ f. composites_of k f (least s (dom k f))) c.in_ok-covers-in-Some.covers (length k.ends) f _ covers_are low;
      },
      listed.1,
    )

pub invariant_of-result : goal.invariant_of-result
invariant_of-result c =
    let s = c.args.site.now in
    let k = s.category in
    let all = c.in-Some.sieves in
    let listed = subst (λ (o : Option (List (List ArrowMask))). MatchOption o (c.args.room < sieve_cells s) (λ all. (map (map arrows_in) all ≡ map (closed_sieves s) (range_with_len 0 k.objects)) × (sieve_cells s ≤ c.args.room))) c.in-Some.is c.in_ok-sieves_within.ensures in
    let objects : length all ≡ k.objects = numbered_length (map arrows_in) (closed_sieves s) all k.objects listed.0 in
    let within = listed.1 in
    record {
      few = λ x.
          elim (cases_lt x k.objects) [
            | inl low ↦
                let n : length (get_or all x []) ≡ length (closed_sieves s x) = sym (length-map (get_or all x []) arrows_in) ∙ ap length (numbered_at (map arrows_in) (closed_sieves s) all k.objects x [] listed.0 low) in
                omega (arith, n, few_sieves s x low, within, c.requires)
            | inr high ↦ omega (arith, ap length (get_or_past all x [] (omega (arith, high, objects))))
          ];
    }
