-- Least covers by the rules that proofs use, and closedness by them.
use Rattle.std.proofs.Common.{◌≡◌, ℕ, ◌<◌, List}
use Rattle.topos_model.specs.declared.value.Val.{Val}
use Rattle.topos_model.specs.declared.value.Entry.{Entry}
use Rattle.finite_lists.specs.Members.{In}
use Rattle.topos_model.specs.categories.Category.{Category, dom, compose, pull}
use Rattle.topos_model.specs.topologies.Cover.{Site, covers}
use Rattle.topos_model.specs.Laws.{IsCategory, IsInto}
use Rattle.topos_model.specs.types.Types.{places}
use Rattle.sieve_table.proofs.SieveMembers.{In-pull_from}
use Rattle.type_laws.proofs.Arrows.{IsSieve, pull_In, sieve_arrow, pull_sieve}
use Rattle.type_laws.proofs.Places.{moved, In_places}
use Rattle.type_laws.proofs.TruthValues.{IsClosedSieve}
use Rattle.type_laws.proofs.Subsets.{IsClosedSubset}

-- M c is the least cover of c: `sink`, `split`, and a sieve covers exactly if it contains M c
pub record IsLeast (s : Site) (M : ℕ → List ℕ) : Type 0 where
  pub sieve : (c : ℕ) → IsSieve s.category c (M c)
  pub sink : (c f g : ℕ) → IsInto s.category c f → In (M (dom s.category f)) g → In (M c) (compose s.category f g)
  pub split : (c h : ℕ) → In (M c) h → (f g : ℕ) × In (M c) f × In (M (dom s.category f)) g × (compose s.category f g ≡ h)
  pub within : (c f : ℕ) (R : List ℕ) → In (covers s c) R → In (M c) f → In R f
  pub above : (c : ℕ) (R : List ℕ) → c < s.category.objects → IsSieve s.category c R → ((f : ℕ) → In (M c) f → In R f) → In (covers s c) R

-- a presheaf of values in which each matching family on a least cover has exactly one amalgamation
pub record IsValueSheaf (k : Category) (M : ℕ → List ℕ) (values : ℕ → List Val) (restrict : ℕ → Val → Val) : Type 0 where
  pub separated : (c : ℕ) (u v : Val) → c < k.objects → In (values c) u → In (values c) v → ((f : ℕ) → In (M c) f → restrict f u ≡ restrict f v) → u ≡ v
  pub amalgam : (c : ℕ) (t : ℕ → Val) → c < k.objects → ((f : ℕ) → In (M c) f → In (values (dom k f)) (t f)) →
      ((f g : ℕ) → In (M c) f → IsInto k (dom k f) g → restrict g (t f) ≡ t (compose k f g)) →
      (v : Val) × In (values c) v × ((f : ℕ) → In (M c) f → restrict f v ≡ t f)

module _ (s : Site) (laws : IsCategory s.category) (M : ℕ → List ℕ) (least : IsLeast s M) where
  abbrev k : Category
  k = s.category

  pub arrow : (c f : ℕ) → In (M c) f → IsInto k c f
  arrow c f h = sieve_arrow k c f (M c) (least.sieve c).member h

  pub source : (c f : ℕ) → IsInto k c f → dom k f < k.objects
  source c f i = (laws.ends f i.0).0

  -- the identity of the source of an arrow
  pub unit : (c f : ℕ) → IsInto k c f → IsInto k (dom k f) (dom k f) × (dom k (dom k f) ≡ dom k f)
  unit c f i = laws.identity (dom k f) (source c f i)

  pub closed_sieve_least : (c h : ℕ) (S : List ℕ) → IsClosedSieve s c S → IsInto k c h → ((g : ℕ) → In (M (dom k h)) g → In S (compose k h g)) → In S h
  closed_sieve_least c h S closed i each =
      closed.closed h i (least.above (dom k h) (pull k h S) (source c h i) (pull_sieve k laws c h S i closed.sieve) (λ g m. pull_In k c h g S (arrow (dom k h) g m) (each g m)))

  pub least_closed_sieve : (c : ℕ) (S : List ℕ) → IsSieve k c S → ((h : ℕ) → IsInto k c h → ((g : ℕ) → In (M (dom k h)) g → In S (compose k h g)) → In S h) → IsClosedSieve s c S
  least_closed_sieve c S sieve each = record {
    sieve = sieve;
    closed = λ f i r. each f i (λ g m. (In-pull_from k f g S (least.within (dom k f) g (pull k f S) r m)).1);
  }

  -- the same for closed subsets; the test of a cover is made at the least one
  pub closed_subset_least : (values : ℕ → List Val) (restrict : ℕ → Val → Val) (c : ℕ) (e : Entry) (l : List Entry) →
      IsClosedSubset s values restrict c l → In (places s values c) e → ((g : ℕ) → In (M (dom k e.arrow)) g → In l (moved s restrict e g)) → In l e
  closed_subset_least values restrict c e l closed i each =
      closed.closed e (M (dom k e.arrow)) i (least.above (dom k e.arrow) (M (dom k e.arrow)) (source c e.arrow (In_places s values c e i).0) (least.sieve (dom k e.arrow)) (λ f m. m)) each
