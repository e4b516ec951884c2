-- The laws of a category (Categorical Preliminaries), a functor (I) and a topology (III).
use Rattle.std.specs.Prelude.{◌≡◌, ℕ, ◌<◌, ◌⊎◌, List, [], length, get_or, Contains}
use Rattle.finite_lists.specs.Members.{In}
use Rattle.finite_lists.specs.Rising.{Rising}
use Rattle.topos_model.specs.categories.Category.{Category, into, dom, cod, compose, sieves, pull}
use Rattle.topos_model.specs.topologies.Cover.{Site, covers}
use Rattle.topos_model.specs.types.Types.{Presheaf}

-- f is an arrow into c
abbrev pub IsInto : Category → ℕ → ℕ → Type 0
IsInto k c f = (f < length k.ends) × (cod k f ≡ c)

-- g and f are arrows, and f ends where g begins
abbrev pub AreComposable : Category → ℕ → ℕ → Type 0
AreComposable k g f = (g < length k.ends) × IsInto k (dom k g) f

-- the pair of an entry stands lexicographically before that of another
abbrev pub EntryBelow : ℕ × ℕ × ℕ → ℕ × ℕ × ℕ → Type 0
EntryBelow d e = (d.0 < e.0) ⊎ ((d.0 ≡ e.0) × (d.1 < e.1))

pub record IsCategory (k : Category) : Type 0 where
  pub ends : (f : ℕ) → f < length k.ends → (dom k f < k.objects) × (cod k f < k.objects)
  -- the arrow number c is the identity of the object c
  pub identity : (c : ℕ) → c < k.objects → IsInto k c c × (dom k c ≡ c)
  -- the table has one entry for each composable pair, in order, and no other
  pub rising : Rising EntryBelow k.table
  pub entries : (e : ℕ × ℕ × ℕ) → In k.table e → AreComposable k e.0 e.1
  pub listed : (g f : ℕ) → AreComposable k g f → In k.table (g, f, compose k g f)
  pub composite : (c f g : ℕ) → IsInto k c f → IsInto k (dom k f) g → IsInto k c (compose k f g) × (dom k (compose k f g) ≡ dom k g)
  pub left_neutral : (c f : ℕ) → IsInto k c f → compose k c f ≡ f
  pub right_neutral : (c f : ℕ) → IsInto k c f → compose k f (dom k f) ≡ f
  pub associative : (c f g h : ℕ) → IsInto k c f → IsInto k (dom k f) g → IsInto k (dom k g) h → compose k f (compose k g h) ≡ compose k (compose k f g) h

-- the three laws of a Grothendieck topology, over all sieves
pub record IsTopology (s : Site) : Type 0 where
  pub maximal : (c : ℕ) → c < s.category.objects → Contains (covers s c) (into s.category c)
  pub stable : (c f : ℕ) (S : List ℕ) → Contains (covers s c) S → IsInto s.category c f → Contains (covers s (dom s.category f)) (pull s.category f S)
  pub transitive : (c : ℕ) (S R : List ℕ) → Contains (covers s c) S → Contains (sieves s.category c) R →
      ((f : ℕ) → Contains S f → Contains (covers s (dom s.category f)) (pull s.category f R)) → Contains (covers s c) R

-- x.f, the restriction of x along f
abbrev pub act : Presheaf → ℕ → ℕ → ℕ
act X f x = get_or (get_or X.along f []) x 0

-- how many elements there are at c
abbrev pub size : Presheaf → ℕ → ℕ
size X c = get_or X.sizes c 0

pub record IsFunctor (k : Category) (X : Presheaf) : Type 0 where
  -- one size for each object; for each arrow exactly one number for each element of its codomain
  pub objects : length X.sizes ≡ k.objects
  pub arrows : length X.along ≡ length k.ends
  pub total : (c f : ℕ) → IsInto k c f → length (get_or X.along f []) ≡ size X c
  pub within : (c f x : ℕ) → IsInto k c f → x < size X c → act X f x < size X (dom k f)
  pub identity : (c x : ℕ) → c < k.objects → x < size X c → act X c x ≡ x
  pub composite : (c f g x : ℕ) → IsInto k c f → IsInto k (dom k f) g → x < size X c → act X g (act X f x) ≡ act X (compose k f g) x
