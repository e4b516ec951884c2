-- The least covers as they are kept, one for each object.
use Rattle.std.proofs.Common.{◌≡◌, ℕ, ◌+◌, ◌<◌, List, [], ◌∷◌, ◌++◌, length, get_or, map, Option, Some, sym, ap, ◌∙◌, arith}
use Rattle.std.specs.List.{range_with_len, slice_get}
use Rattle.std.proofs.lemmas.List.{map-append}
use Rattle.std.proofs.lemmas.List.FromFn.{length-map-range_with_len, get_or-map-range_with_len, map-range_with_len_more}
use Rattle.std.proofs.lemmas.List.{length-map}
use Rattle.std.proofs.lemmas.Option.{slice_get-map, get_or_from_slice_get}
use Rattle.finite_lists.proofs.Lists.{map_same}
use Rattle.finite_lists.proofs.DistinctLists.{In-range_from}
use Rattle.fin_category.specs.declared.mask.ArrowMask.{ArrowMask}
use Rattle.fin_category.specs.ArrowSets.{arrows_in}

module _ (M : ℕ → List ℕ) where
  -- one more cover
  pub kept-more : (row more : List ArrowMask) (m : ArrowMask) (n : ℕ) → map arrows_in row ≡ map M (range_with_len 0 n) → more ≡ row ++ m ∷ [] → arrows_in m ≡ M n →
      map arrows_in more ≡ map M (range_with_len 0 (n + 1))
  kept-more row more m n e a b =
      ap (map arrows_in) a ∙ map-append arrows_in row (m ∷ []) ∙ ap (λ xs. xs ++ arrows_in m ∷ []) e ∙ ap (λ x. map M (range_with_len 0 n) ++ x ∷ []) b
      ∙ sym (map-range_with_len_more M 0 n n (omega arith))

  pub kept-length : (row : List ArrowMask) (n : ℕ) → map arrows_in row ≡ map M (range_with_len 0 n) → length row ≡ n
  kept-length row n e = sym (length-map row arrows_in) ∙ ap length e ∙ length-map-range_with_len M 0 n

  -- the cover of one object
  pub kept-at : (row : List ArrowMask) (n c : ℕ) (m : ArrowMask) → map arrows_in row ≡ map M (range_with_len 0 n) → c < n → slice_get row c ≡ Some m → arrows_in m ≡ M c
  kept-at row n c m e low g =
      sym (get_or_from_slice_get (map arrows_in row) c (arrows_in m) [] (slice_get-map arrows_in row c ∙ ap (λ (o : Option ArrowMask). Rattle.std.specs.Option.option_map arrows_in o) g))
      ∙ ap (λ xs. get_or xs c []) e ∙ get_or-map-range_with_len M 0 n c c [] low (omega arith)

-- covers that are the same at each object are kept alike
pub same_covers : (M N : ℕ → List ℕ) (n : ℕ) → ((c : ℕ) → c < n → M c ≡ N c) → map M (range_with_len 0 n) ≡ map N (range_with_len 0 n)
same_covers M N n h = map_same M N (range_with_len 0 n) (λ c i. h c (let r = In-range_from 0 n c i in omega (arith, r.1)))
