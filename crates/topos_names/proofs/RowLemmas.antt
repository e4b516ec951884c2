-- One more row for the next of a list.
use Rattle.std.proofs.Common.{◌≡◌, ℕ, ◌+◌, List, [], ◌∷◌, ◌++◌, map, take, slice_get, Some, sym, ap, ◌∙◌}
use Rattle.std.proofs.lemmas.List.{map_more}
use Rattle.std.proofs.lemmas.Option.{get_or_from_slice_get, slice_get_within}

pub map_next : {A B : Type 0} (g : A → B) (es : List A) (i : ℕ) (e : A) (rows more : List B) → rows ≡ map g (take i es) → slice_get es i ≡ Some e → more ≡ rows ++ g e ∷ [] → more ≡ map g (take (i + 1) es)
map_next g es i e rows more so_far at is = is ∙ ap (λ r. r ++ g e ∷ []) so_far ∙ ap (λ a. map g (take i es) ++ g a ∷ []) (sym (get_or_from_slice_get es i e e at)) ∙ sym (map_more g es i e (slice_get_within es i e at))
