-- Laws of sieves (I).
use Rattle.std.specs.Prelude.{◌≡◌, ◌↔◌, ℕ, List}
use Rattle.finite_lists.specs.Members.{In}
use Rattle.topos_model.specs.categories.Category.{Category, into, dom, compose, sieves, generated, pull}
use Rattle.topos_model.specs.Laws.{IsCategory, IsInto}
use Rattle.topos_model.specs.topologies.TopologyFaults.{intersection}

abbrev pub PullsAreSieves : Type 0
PullsAreSieves = (k : Category) (c f : ℕ) (S : List ℕ) → IsCategory k → In (sieves k c) S → IsInto k c f → In (sieves k (dom k f)) (pull k f S)

abbrev pub IntersectionsAreSieves : Type 0
IntersectionsAreSieves = (k : Category) (c : ℕ) (S T : List ℕ) → In (sieves k c) S → In (sieves k c) T → In (sieves k c) (intersection S T)

abbrev pub MaximalIsSieve : Type 0
MaximalIsSieve = (k : Category) (c : ℕ) → IsCategory k → In (sieves k c) (into k c)

-- the generated sieve is one, has the arrows, and lies in each sieve that has them
abbrev pub GeneratedIsLeast : Type 0
GeneratedIsLeast =
    (k : Category) (c : ℕ) (gs : List ℕ) → IsCategory k → ((g : ℕ) → In gs g → IsInto k c g) →
    In (sieves k c) (generated k c gs)
    × ((g : ℕ) → In gs g → In (generated k c gs) g)
    × ((S : List ℕ) (h : ℕ) → In (sieves k c) S → ((g : ℕ) → In gs g → In S g) → In (generated k c gs) h → In S h)

-- pulling back along f and then g is pulling back along f.g
abbrev pub PullsCompose : Type 0
PullsCompose =
    (k : Category) (c f g : ℕ) (S : List ℕ) → IsCategory k → In (sieves k c) S → IsInto k c f → IsInto k (dom k f) g →
    pull k g (pull k f S) ≡ pull k (compose k f g) S

-- a sieve has f exactly if its pullback along f has all arrows
abbrev pub MembersPullToAll : Type 0
MembersPullToAll =
    (k : Category) (c f : ℕ) (S : List ℕ) → IsCategory k → In (sieves k c) S → IsInto k c f → In S f ↔ (pull k f S ≡ into k (dom k f))
