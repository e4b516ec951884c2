-- The truth values of a site as the code keeps them.
use Rattle.std.specs.Prelude.{◌≡◌, ℕ, ◌+◌, ◌*◌, ◌<◌, ◌≤◌, ◌⊎◌, List, [], ◌∷◌, ◌++◌, length, get_or, map, sum, Result}
use Rattle.std.specs.List.{range_with_len}
use Rattle.finite_lists.specs.Members.{In}
use Rattle.topos_model.specs.categories.Category.{Category, into, dom, compose, pull}
use Rattle.topos_model.specs.topologies.Cover.{Site}
use Rattle.topos_model.specs.Laws.{IsCategory, IsTopology}
use Rattle.topos_model.specs.topologies.LeastCovers.{least}
use Rattle.topos_model.specs.statements.Form.{max_arrows}
use Rattle.fin_category.specs.declared.mask.ArrowMask.{ArrowMask}
use Rattle.fin_category.specs.ArrowSets.{arrows_in}
use Rattle.fin_category.specs.Masks.{all_added}
use Rattle.omega_object.specs.TruthValues.{closed_sieves, sieve_at, IsNumber}
use Rattle.topos_model.specs.declared.ty.Ty.{Ty}
use Rattle.functor_store.specs.declared.fault.StoreFault.{StoreFault}
use Rattle.functor_store.specs.Store.{Functor, Store, cells, IsFreeKey}
use Rattle.functor_store.specs.Faithful.{Holds}
use Rattle.sealed_functors.specs.declared.rows.ElementRows.{ElementRows}
use Rattle.sealed_functors.specs.Rows.{IsOverExactly}
use Rattle.omega_object.specs.declared.omega.Omega.{Omega}

abbrev pub mask_at : List ArrowMask → ℕ → List ℕ
mask_at masks f = arrows_in (get_or masks f (record { words = [] }))

abbrev pub rows_at : Omega → ℕ → List ArrowMask
rows_at values c = get_or values.sieves c []

-- the composites f.g with g in a list
unfoldable pub composites_of : Category → ℕ → List ℕ → List ℕ
composites_of k f gs = all_added [] (map (compose k f) gs)

-- for each object its closed sieves in order and the arrows into it, and for each arrow its composites with all arrows, and with those of the least cover of its domain
pub record IsOmegaOn (s : Site) (values : Omega) : Type 0 where
  pub category : IsCategory s.category
  pub few : length s.category.ends ≤ max_arrows
  pub topology : IsTopology s
  pub objects : length values.sieves ≡ s.category.objects
  pub into_objects : length values.into ≡ s.category.objects
  pub below_arrows : length values.below ≡ length s.category.ends
  pub cover_arrows : length values.covers ≡ length s.category.ends
  pub sieves : (c : ℕ) → c < s.category.objects → map arrows_in (rows_at values c) ≡ closed_sieves s c
  pub into_is : (c : ℕ) → c < s.category.objects → mask_at values.into c ≡ into s.category c
  pub below_is : (f : ℕ) → f < length s.category.ends → mask_at values.below f ≡ composites_of s.category f (into s.category (dom s.category f))
  pub covers_are : (f : ℕ) → f < length s.category.ends → mask_at values.covers f ≡ composites_of s.category f (least s (dom s.category f))

-- the tables have what is asked of them at the object c
pub record IsInRange (values : Omega) (c : ℕ) : Type 0 where
  pub object : c < length values.into
  pub below : (f : ℕ) → In (mask_at values.into c) f → f < length values.below
  pub covers : (f : ℕ) → In (mask_at values.into c) f → f < length values.covers

-- the cells of all closed sieves
unfoldable pub sieve_cells : Site → ℕ
sieve_cells s = sum (map (λ c. length (closed_sieves s c) * (1 + length (into s.category c))) (range_with_len 0 s.category.objects))

-- the restrictions of the closed sieve number k on c, by their numbers, are put behind a list
pub record ArePushed (s : Site) (c k : ℕ) (old new : List ℕ) : Type 0 where
  pub length_is : length new ≡ length old + length (into s.category c)
  pub kept : (i : ℕ) → i < length old → get_or new i 0 ≡ get_or old i 0
  pub numbers : (i : ℕ) → i < length (into s.category c) →
      IsNumber s (dom s.category (get_or (into s.category c) i 0)) (get_or new (length old + i) 0) (pull s.category (get_or (into s.category c) i 0) (sieve_at s c k))

-- the closed sieves on c with all their restrictions
pub record AreSieveRows (s : Site) (c : ℕ) (r : ElementRows) : Type 0 where
  pub count : r.count ≡ length (closed_sieves s c)
  pub width : r.width ≡ 0
  pub arrows : r.arrows ≡ length (into s.category c)
  pub rows : r.rows ≡ []
  pub length_is : length r.restrictions ≡ r.count * length (into s.category c)
  pub numbers : (k i : ℕ) → k < r.count → i < length (into s.category c) →
      IsNumber s (dom s.category (get_or (into s.category c) i 0)) (get_or r.restrictions (k * length (into s.category c) + i) 0) (pull s.category (get_or (into s.category c) i 0) (sieve_at s c k))

-- a functor is sealed under the type, or was
abbrev pub IsNeeded : Ty → Store → Store → Type 0
IsNeeded T old new =
    (Holds old T × (new ≡ old))
    ⊎ (IsFreeKey old.sealed T × ((F : Functor) × (F.key ≡ T) × (new ≡ record old { sealed = old.sealed ++ F ∷ [] })))

-- the fault is `Over` exactly where the type is not sealed and its cells and those of the store exceed the budget; want of memory may come before
abbrev pub IsOverWhereNew : {A : Type 0} → Result A StoreFault → Ty → Store → ℕ → Type 0
IsOverWhereNew result T store more = IsOverExactly result (IsFreeKey store.sealed T × (store.budget < cells store + more))
