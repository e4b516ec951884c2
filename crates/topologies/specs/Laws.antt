-- Laws of topologies, of their least covers and of closures (III).
use Rattle.std.specs.Prelude.{◌≡◌, ◌↔◌, ℕ, ◌<◌, Bool, true, false, List, []}
use Rattle.std.specs.List.{list_any, list_all}
use Rattle.finite_lists.specs.Members.{In}
use Rattle.topos_model.specs.categories.Category.{into, dom, sieves, pull}
use Rattle.topos_model.specs.topologies.Cover.{Site, covers}
use Rattle.topos_model.specs.Laws.{IsCategory, IsInto, IsTopology}
use Rattle.topos_model.specs.topologies.LeastCovers.{least, closure}
use Rattle.topos_model.specs.topologies.TopologyFaults.{intersection}
use Rattle.topologies.specs.DenseCovers.{dense_least}
use Rattle.topologies.specs.Closures.{ArePlaces, two_passes, IsRestrictionClosed, IsCoverClosed}

abbrev pub DenseIsTopology : Type 0
DenseIsTopology =
    (s : Site) → IsCategory s.category → s.dense ≡ true → IsTopology s × ((c : ℕ) → c < s.category.objects → least s c ≡ dense_least s.category c)

abbrev pub TrivialIsTopology : Type 0
TrivialIsTopology =
    (s : Site) → IsCategory s.category → s.dense ≡ false → s.families ≡ [] → IsTopology s × ((c : ℕ) → c < s.category.objects → least s c ≡ into s.category c)

-- a test passes on all arrows of some cover exactly if it does on the least one
abbrev pub SomeCoverPasses : Type 0
SomeCoverPasses =
    (s : Site) (c : ℕ) (p : ℕ → Bool) → IsCategory s.category → IsTopology s → c < s.category.objects →
    list_any (λ cover. list_all p cover) (covers s c) ≡ list_all p (least s c)

-- closing keeps inclusions and intersections, is done after one step, and commutes with pulling back
abbrev pub ClosuresAreMonotone : Type 0
ClosuresAreMonotone =
    (s : Site) (c : ℕ) (S T : List ℕ) → IsCategory s.category → IsTopology s → In (sieves s.category c) T →
    ((f : ℕ) → In S f → In T f) → (f : ℕ) → In (closure s c S) f → In (closure s c T) f

abbrev pub ClosuresIntersect : Type 0
ClosuresIntersect =
    (s : Site) (c : ℕ) (S T : List ℕ) → IsCategory s.category → IsTopology s → In (sieves s.category c) S → In (sieves s.category c) T →
    closure s c (intersection S T) ≡ intersection (closure s c S) (closure s c T)

abbrev pub ClosuresAreIdempotent : Type 0
ClosuresAreIdempotent =
    (s : Site) (c : ℕ) (S : List ℕ) → IsCategory s.category → IsTopology s → In (sieves s.category c) S → closure s c (closure s c S) ≡ closure s c S

abbrev pub ClosuresPullBack : Type 0
ClosuresPullBack =
    (s : Site) (c f : ℕ) (S : List ℕ) → IsCategory s.category → IsTopology s → In (sieves s.category c) S → IsInto s.category c f →
    pull s.category f (closure s c S) ≡ closure s (dom s.category f) (pull s.category f S)

-- a sieve covers exactly if its closure has the identity
abbrev pub IdentitiesCover : Type 0
IdentitiesCover =
    (s : Site) (c : ℕ) (S : List ℕ) → IsCategory s.category → IsTopology s → c < s.category.objects → In (sieves s.category c) S →
    In (covers s c) S ↔ In (closure s c S) c

-- two passes give the least set above that is closed under restriction and under covers
abbrev pub TwoPassesClose : Type 0
TwoPassesClose =
    (s : Site) (equal : ℕ → ℕ → Bool) (stage : ℕ → ℕ) (move : ℕ → ℕ → ℕ) (all l : List ℕ) → IsCategory s.category → IsTopology s →
    ArePlaces s.category equal stage move all → ((p : ℕ) → In l p → In all p) →
    ((p : ℕ) → In l p → In (two_passes s.category (least s) equal stage move all l) p)
    × IsRestrictionClosed s stage move all (two_passes s.category (least s) equal stage move all l)
    × IsCoverClosed s stage move all (two_passes s.category (least s) equal stage move all l)
    × ((t : List ℕ) → ((p : ℕ) → In l p → In t p) → IsRestrictionClosed s stage move all t → IsCoverClosed s stage move all t →
    (p : ℕ) → In (two_passes s.category (least s) equal stage move all l) p → In t p)
