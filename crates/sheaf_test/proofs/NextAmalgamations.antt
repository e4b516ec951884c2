-- The amalgamations of a family, one after another.
use Rattle.std.proofs.Common.{◌≡◌, ℕ, ◌+◌, ◌-◌, ◌<◌, ◌≤◌, Bool, true, false, cond, eqb, List, [], ◌∷◌, filter, length, get_or, sym, ap, ◌∙◌, arith}
use Rattle.std.specs.List.{range_with_len}
use Rattle.std.proofs.lemmas.Bool.{eq-eqb, ne_eqb}
use Rattle.finite_lists.proofs.Lists.{In_at, all_fails, each_all}
use Rattle.topos_model.specs.types.Types.{Presheaf}
use Rattle.topos_model.specs.Laws.{act, size}
use Rattle.topos_model.specs.topologies.Sheaves.{element_at, amalgamations}
use Rattle.fin_category.proofs.ArrowLists.{Rises}
use Rattle.presheaf_core.proofs.Tables.{range_from}
use Rattle.sheaf_test.specs.Families.{place}
use Rattle.sheaf_test.specs.Amalgamations.{restricts_to, amalgamations_from}
use Rattle.sheaf_test.proofs.FamilyPlaces.{place_within, at_place, element_at-place, element_at-index}

module _ (X : Presheaf) (S family : List ℕ) (rises : Rises S) (long : length family ≡ length S) (x : ℕ) where
  -- one restriction that is another decides
  pub differs : (i : ℕ) → i < length S → (act X (get_or S i 0) x ≡ get_or family i 0 → ⊥) → restricts_to X S family x ≡ false
  differs i low other =
      all_fails (λ f. eqb (act X f x) (element_at S family f)) S (get_or S i 0) (In_at S i 0 low)
      (ne_eqb _ _ (λ e. other (e ∙ element_at-index S family i rises long low)))

  pub restricts : ((i : ℕ) → i < length S → act X (get_or S i 0) x ≡ get_or family i 0) → restricts_to X S family x ≡ true
  restricts same =
      each_all (λ f. eqb (act X f x) (element_at S family f)) S (λ f i.
      let at : act X (get_or S (place S f) 0) x ≡ get_or family (place S f) 0 = same (place S f) (place_within S f i) in
      eq-eqb _ _ (ap (λ g. act X g x) (sym (at_place S f i)) ∙ at ∙ sym (element_at-place S family f i long)))

module _ (X : Presheaf) (c : ℕ) (S family : List ℕ) where
  abbrev kept : ℕ → Bool → List ℕ → List ℕ
  kept x b rest = cond b (x ∷ filter (restricts_to X S family) rest) (filter (restricts_to X S family) rest)

  pub next_some : (x : ℕ) → x < size X c → restricts_to X S family x ≡ true → amalgamations_from X c S family x ≡ x ∷ amalgamations_from X c S family (x + 1)
  unfolding amalgamations_from
  next_some x low e =
      ap (filter (restricts_to X S family)) (range_from x (size X c) low) ∙ ap (λ b. kept x b (range_with_len (x + 1) (size X c - (x + 1)))) e

  pub next_none : (x : ℕ) → x < size X c → restricts_to X S family x ≡ false → amalgamations_from X c S family x ≡ amalgamations_from X c S family (x + 1)
  unfolding amalgamations_from
  next_none x low e =
      ap (filter (restricts_to X S family)) (range_from x (size X c) low) ∙ ap (λ b. kept x b (range_with_len (x + 1) (size X c - (x + 1)))) e

  pub none_left : (x : ℕ) → size X c ≤ x → amalgamations_from X c S family x ≡ []
  unfolding amalgamations_from
  none_left x high = let none : size X c - x ≡ 0 = omega (arith, high) in ap (λ n. filter (restricts_to X S family) (range_with_len x n)) none

  pub from_start : amalgamations X c S family ≡ amalgamations_from X c S family 0
  unfolding amalgamations amalgamations_from
  from_start = let whole : size X c ≡ size X c - 0 = omega arith in ap (λ n. filter (restricts_to X S family) (range_with_len 0 n)) whole
