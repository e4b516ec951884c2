-- What is known of truth values and of truth along arrows at one tuple.
use Rattle.std.specs.Prelude.{◌≡◌, ℕ, ◌<◌, Bool, List, [], map, length, get_or}
use Rattle.std.specs.List.{range_with_len}
use Rattle.finite_lists.specs.Members.{In}
use Rattle.topos_model.specs.categories.Category.{Category, into}
use Rattle.topos_model.specs.statements.Form.{max_arrows}
use Rattle.fin_category.specs.Masks.{all_added}
use Rattle.closed_sets.specs.Closed.{chosen}
use Rattle.functor_store.specs.Store.{Store, into as count_into, functor_at, size_at, restrictions_at}
use Rattle.omega_object.specs.declared.omega.Omega.{Omega}
use Rattle.omega_object.specs.Tables.{rows_at}
use Rattle.truth_tables.specs.Tables.{number, along, IsEntry}

-- the number of a closed sieve
pub record IsTruthValue (Ω : Omega) (numbers : List (List ℕ)) (c i : ℕ) : Type 0 where
  pub object : (c < length Ω.sieves) × (c < max_arrows)
  pub entry : IsEntry numbers c i
  pub within : number numbers c i < length (rows_at Ω c)

module _ (truths : List (List Bool)) (sources restrictions arrows : List ℕ) where
  -- the arrows along which the table is true
  abbrev pub true_arrows : List ℕ
  true_arrows = all_added [] (chosen arrows (map (along truths sources restrictions) (range_with_len 0 (length arrows))))

  -- it has a truth value along each of them
  pub record AreRead : Type 0 where
    pub sources_long : length sources ≡ length arrows
    pub few : (f : ℕ) → In arrows f → f < max_arrows
    pub entries : (j : ℕ) → j < length arrows → IsEntry truths (get_or sources j 0) (get_or restrictions j 0)

-- there is a tuple number i at c, with truth values along the arrows into c
pub record IsReadAlong (k : Category) (Ω : Omega) (store : Store) (context : ℕ) (sources : List (List ℕ)) (truths : List (List Bool)) (c i : ℕ) : Type 0 where
  pub object : (c < k.objects) × (c < store.objects) × (c < length sources) × (c < length Ω.sieves)
  pub sealed : context < length store.sealed
  pub element : i < size_at (functor_at store.sealed context) c
  pub arrows : length (into k c) ≡ count_into store.ends c
  pub read : AreRead truths (get_or sources c []) (restrictions_at (functor_at store.sealed context) c i) (into k c)
