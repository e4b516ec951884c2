-- The arrows of a category, and those into an object, by facts.
use Rattle.std.proofs.Common.{ℕ, ◌<◌, length, arith}
use Rattle.std.specs.List.{range_with_len}
use Rattle.std.proofs.lemmas.Bool.{eqb-true, eq-eqb}
use Rattle.finite_lists.specs.Members.{In}
use Rattle.finite_lists.proofs.Lists.{In-filter, In-filter_from}
use Rattle.finite_lists.proofs.DistinctLists.{In-range, In-range_from}
use Rattle.topos_model.specs.categories.Category.{Category, cod, into, arrows}
use Rattle.topos_model.specs.Laws.{IsInto}

-- the arrows into c
pub In-into : (k : Category) (c f : ℕ) → IsInto k c f → In (into k c) f
unfolding into
In-into k c f i = In-filter _ (range_with_len 0 (length k.ends)) f (In-range 0 (length k.ends) f (omega arith) (omega (arith, i.0))) (eq-eqb (cod k f) c i.1)

pub In-into_from : (k : Category) (c f : ℕ) → In (into k c) f → IsInto k c f
unfolding into
In-into_from k c f i =
    let r = In-filter_from _ (range_with_len 0 (length k.ends)) f i in
    let low = In-range_from 0 (length k.ends) f r.0 in
    (omega arith, eqb-true (cod k f) c r.1)

pub In-arrows : (k : Category) (f : ℕ) → f < length k.ends → In (arrows k) f
In-arrows k f h = In-range 0 (length k.ends) f (omega arith) (omega arith)

pub In-arrows_from : (k : Category) (f : ℕ) → In (arrows k) f → f < length k.ends
In-arrows_from k f i = let r = In-range_from 0 (length k.ends) f i in omega arith
