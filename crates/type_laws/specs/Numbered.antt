-- The functor whose element k at an object is the k-th element of a presheaf of values.
use Rattle.std.specs.Prelude.{ℕ, suc, cond, List, [], ◌∷◌, map, length}
use Rattle.std.specs.List.{range_with_len}
use Rattle.topos_model.specs.declared.value.Val.{Val}
use Rattle.topos_model.specs.categories.Category.{Category, dom, cod}
use Rattle.topos_model.specs.types.Types.{Presheaf}
use Rattle.topos_model.specs.types.Values.{same}

-- the first place of a value
unfoldable pub place_of : Val → List Val → ℕ
place_of v [] = 0
place_of v (u ∷ rest) = cond (same u v) 0 (suc (place_of v rest))

unfoldable pub numbered : Category → (ℕ → List Val) → (ℕ → Val → Val) → Presheaf
numbered k values restrict = record {
  sizes = map (λ c. length (values c)) (range_with_len 0 k.objects);
  along = map (λ f. map (λ v. place_of (restrict f v) (values (dom k f))) (values (cod k f))) (range_with_len 0 (length k.ends));
}
