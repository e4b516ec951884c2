use Rattle.std.proofs.Common.{◌≡◌, ◌<◌, ◌+◌, ℕ, length, get_or}
use Rattle.topos_model.specs.categories.Category.{dom, pull}
use Rattle.omega_object.specs.TruthValues.{IsNumber, sieve_at}
use Rattle.omega_object.proofs.need.push_restrictions.Given as goal

abbrev pub invariant-loop-f : goal.invariant-loop-f
invariant-loop-f l = record {
  length_is : length l.out ≡ length l.fn.out + l.f-index;
  kept : (i : ℕ) → i < length l.fn.out → get_or l.out i 0 ≡ get_or l.fn.out i 0;
  numbers : (i : ℕ) → i < l.f-index →
      IsNumber l.site (dom l.site.category (get_or l.f-items i 0)) (get_or l.out (length l.fn.out + i) 0) (pull l.site.category (get_or l.f-items i 0) (sieve_at l.site l.c l.k));
}
