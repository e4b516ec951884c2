-- The arrows into each object of a site, as tables are read along them.
use Rattle.std.specs.Prelude.{◌≡◌, ℕ, ◌<◌, false, List, [], map, length, get_or}
use Rattle.std.specs.List.{list_all}
use Rattle.finite_lists.specs.Members.{In}
use Rattle.topos_model.specs.categories.Category.{dom, into}
use Rattle.topos_model.specs.topologies.Cover.{Site}
use Rattle.topos_model.specs.topologies.LeastCovers.{least}
use Rattle.site_stages.specs.declared.stages.Stages.{Stages}

module _ (s : Site) where
  -- the arrow at a place of those into c
  abbrev pub arrow_at : ℕ → ℕ → ℕ
  arrow_at c j = get_or (into s.category c) j 0

  -- at each object the places of these arrows among those into it
  pub record AreChosen (arrows : ℕ → List ℕ) (chosen : List (List ℕ)) : Type 0 where
    pub objects : length chosen ≡ s.category.objects
    pub within : (c j : ℕ) → c < s.category.objects → In (get_or chosen c []) j → j < length (into s.category c)
    pub are : (c : ℕ) → c < s.category.objects → map (arrow_at c) (get_or chosen c []) ≡ arrows c

  -- the sources of the arrows into each object, the places of all and of those of the least cover, and whether this is empty
  pub record AreStages (stages : Stages) : Type 0 where
    pub objects : length stages.sources ≡ s.category.objects
    pub sources : (c : ℕ) → c < s.category.objects → get_or stages.sources c [] ≡ map (dom s.category) (into s.category c)
    pub all_arrows : AreChosen (into s.category) stages.all
    pub least_cover : AreChosen (least s) stages.least
    pub empty_objects : length stages.empty ≡ s.category.objects
    pub empty : (c : ℕ) → c < s.category.objects → get_or stages.empty c false ≡ list_all (λ f. false) (least s c)
