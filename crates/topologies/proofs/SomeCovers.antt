-- What holds on all arrows of some cover holds on the least one.
use Rattle.std.proofs.Common.{◌≡◌, ℕ, ◌<◌, Bool}
use Rattle.std.specs.List.{list_any, list_all}
use Rattle.finite_lists.proofs.Lists.{same_tests, some_any, any_some, all_each, each_all}
use Rattle.topos_model.specs.topologies.Cover.{Site, covers}
use Rattle.topos_model.specs.Laws.{IsCategory, IsTopology}
use Rattle.topos_model.specs.topologies.LeastCovers.{least}
use Rattle.topologies.proofs.LeastCovers.{least-below, least_covers}

pub some_cover : (s : Site) (c : ℕ) (p : ℕ → Bool) → IsCategory s.category → IsTopology s → c < s.category.objects →
    list_any (λ cover. list_all p cover) (covers s c) ≡ list_all p (least s c)
some_cover s c p laws top low =
    same_tests _ _
    (λ h.
    let (S, cover, all) = any_some (λ cover. list_all p cover) (covers s c) h in
    each_all p (least s c) (λ f i. all_each p S f all (least-below s c f S cover i)))
    (λ h. some_any (λ cover. list_all p cover) (covers s c) (least s c) (least_covers s laws top c low) h)
