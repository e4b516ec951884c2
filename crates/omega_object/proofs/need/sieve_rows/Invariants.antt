use Rattle.std.proofs.Common.{◌≡◌, ◌<◌, ◌+◌, ◌*◌, ℕ, length, get_or}
use Rattle.topos_model.specs.categories.Category.{into, dom, pull}
use Rattle.omega_object.specs.TruthValues.{IsNumber, sieve_at}
use Rattle.omega_object.proofs.need.sieve_rows.Given as goal

abbrev pub invariant-loop-k : goal.invariant-loop-k
invariant-loop-k l = record {
  length_is : length l.restrictions ≡ l.k * length (into l.site.category l.c);
  numbers : (k i : ℕ) → k < l.k → i < length (into l.site.category l.c) →
      IsNumber l.site (dom l.site.category (get_or (into l.site.category l.c) i 0)) (get_or l.restrictions (k * length (into l.site.category l.c) + i) 0)
      (pull l.site.category (get_or (into l.site.category l.c) i 0) (sieve_at l.site l.c k));
}
