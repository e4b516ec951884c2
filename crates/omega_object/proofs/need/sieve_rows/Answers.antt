use Rattle.std.proofs.Common.{◌≡◌, ◌≤◌, ◌+◌, ◌*◌, suc, inl, inr, length, get_or, sym, ap, subst, ◌∙◌, arith}
use Rattle.std.proofs.Math.Nat.{mul-le-mul_right}
use Rattle.std.proofs.lemmas.Bool.{cases_lt}
use Rattle.std.proofs.lemmas.List.{length-map}
use Rattle.topos_model.specs.categories.Category.{into, dom, pull}
use Rattle.fin_category.specs.ArrowSets.{arrows_in}
use Rattle.omega_object.specs.TruthValues.{closed_sieves, sieve_at, IsNumber}
use Rattle.omega_object.specs.Tables.{rows_at}
use Rattle.omega_object.proofs.SealedSieves.{few_sieves}
use Rattle.omega_object.proofs.need.sieve_rows.Goals as goal

pub loop-k-preserved : goal.loop-k-preserved
loop-k-preserved c =
    let s = c.args.site.now in
    let x = c.args.c in
    let w = length (into s.category x) in
    let old = c.loop-k.restrictions in
    let new = c.push_restrictions.new.out in
    let p = c.in_ok-push_restrictions.ensures.pushed in
    let i = c.loop-k.invariant in
    record {
      length_is = let e : (c.loop-k.k + 1) * w ≡ c.loop-k.k * w + w = omega arith in omega (arith, e, p.length_is, i.length_is);
      numbers = λ k j low inside.
          let f = get_or (into s.category x) j 0 in
          elim (cases_lt k c.loop-k.k) [
            | inl b ↦
                let m : suc k * w ≤ c.loop-k.k * w = mul-le-mul_right w (omega arith) in
                let e : suc k * w ≡ k * w + w = omega arith in
                subst (λ n. IsNumber s (dom s.category f) n (pull s.category f (sieve_at s x k))) (sym (p.kept (k * w + j) (omega (arith, m, e, inside, i.length_is)))) (i.numbers k j b inside)
            | inr h ↦
                let same : k ≡ c.loop-k.k = omega (arith, low, h) in
                let place : length old + j ≡ k * w + j = omega (arith, i.length_is, ap (λ n. n * w) same) in
                subst (λ n. IsNumber s (dom s.category f) (get_or new n 0) (pull s.category f (sieve_at s x k))) place
                (subst (λ m. IsNumber s (dom s.category f) (get_or new (length old + j) 0) (pull s.category f (sieve_at s x m))) (sym same) (p.numbers j inside))
          ];
    }
