-- The rows at one object after another.
use Rattle.std.proofs.Common.{◌≡◌, ℕ, ◌+◌, ◌<◌, inl, inr, List, [], ◌∷◌, ◌++◌, length, sym, ap, subst, ◌∙◌, arith}
use Rattle.std.proofs.lemmas.Bool.{cases_lt}
use Rattle.std.proofs.lemmas.List.{length_push, get_or_append_left, get_or_push}
use Rattle.sealed_functors.specs.declared.rows.ElementRows.{ElementRows}
use Rattle.sealed_functors.specs.Rows.{rows_at}

module _ (all new : List ElementRows) (row : ElementRows) (c : ℕ) (is : new ≡ all ++ row ∷ []) (long : length all ≡ c) where
  pub objects_more : length new ≡ c + 1
  objects_more = ap length is ∙ omega (arith, length_push all row, long)

  pub rows_more : (P : ℕ → ElementRows → Type 0) → ((x : ℕ) → x < c → P x (rows_at all x)) → P c row → (x : ℕ) → x < c + 1 → P x (rows_at new x)
  rows_more P before here x low =
      subst (λ (l : List ElementRows). P x (rows_at l x)) (sym is) (elim (cases_lt x c) [
        | inl b ↦ subst (P x) (sym (get_or_append_left all (row ∷ []) _ x (omega (arith, b, long)))) (before x b)
        | inr h ↦
            let same : x ≡ c = omega (arith, low, h) in
            subst (P x) (sym (get_or_push all row _ x (omega (arith, same, long)))) (subst (λ y. P y row) (sym same) here)
      ])
