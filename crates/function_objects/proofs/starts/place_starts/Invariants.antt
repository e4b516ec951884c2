use Rattle.std.proofs.Common.{◌≡◌, ℕ, ◌*◌, ◌≤◌, length, get_or, take}
use Rattle.finite_lists.specs.Members.{In}
use Rattle.topos_model.specs.categories.Category.{dom}
use Rattle.place_closures.specs.Pairs.{start}
use Rattle.place_closures.proofs.PairNumbers.{total}
use Rattle.sealed_types.specs.Sealed.{sizes_in, restrictions_in}
use Rattle.function_objects.proofs.starts.place_starts.Given as goal

abbrev pub invariant-loop-f : goal.invariant-loop-f
invariant-loop-f l = record {
  arrows : length l.starts.items ≡ length l.cat.ends;
  before_is : l.before ≡ total (λ f. sizes_in l.store l.s (dom l.cat f)) (take l.f-index l.f-items);
  few : l.before ≤ l.f-index * 4294967296;
  done : (f : ℕ) → In (take l.f-index l.f-items) f → get_or l.starts.items f 0 ≡ start l.cat (sizes_in l.store l.s) (restrictions_in l.store l.s) l.c f;
}
