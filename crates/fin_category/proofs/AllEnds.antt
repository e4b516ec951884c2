-- The ends of all arrows of a listed category: those of the identities, then those of the declared arrows.
use Rattle.std.proofs.Common.{◌≡◌, ℕ, ◌+◌, ◌-◌, ◌<◌, ◌≤◌, inl, inr, map, length, get_or, ap, ◌∙◌, arith}
use Rattle.std.specs.List.{range_with_len}
use Rattle.std.proofs.lemmas.Bool.{cases_lt}
use Rattle.std.proofs.lemmas.List.{get_or_append_left, get_or-append_right, length-append}
use Rattle.std.proofs.lemmas.List.FromFn.{length-map-range_with_len, get_or-map-range_with_len}
use Rattle.finite_lists.specs.Members.{In}
use Rattle.finite_lists.proofs.Lists.{In_at}
use Rattle.topos_model.specs.declared.raw.RawCat.{RawCat}
use Rattle.topos_model.specs.categories.Listed.{all_ends}

module _ (raw : RawCat) where
  pub length-all_ends : length (all_ends raw) ≡ raw.objects + length raw.ends
  unfolding all_ends
  length-all_ends =
      length-append (map (λ c. (c, c)) (range_with_len 0 raw.objects)) raw.ends
      ∙ ap (λ n. n + length raw.ends) (length-map-range_with_len (λ (c : ℕ). (c, c)) 0 raw.objects)

  pub identity_ends : (c : ℕ) → c < raw.objects → get_or (all_ends raw) c (0, 0) ≡ (c, c)
  unfolding all_ends
  identity_ends c h =
      get_or_append_left (map (λ c. (c, c)) (range_with_len 0 raw.objects)) raw.ends (0, 0) c
      (rw (length-map-range_with_len {X = ℕ × ℕ} (λ (c : ℕ). (c, c)) 0 raw.objects) h)
      ∙ get_or-map-range_with_len (λ (c : ℕ). (c, c)) 0 raw.objects c c (0, 0) h (omega arith)

  pub declared_ends : (f : ℕ) → raw.objects ≤ f → get_or (all_ends raw) f (0, 0) ≡ get_or raw.ends (f - raw.objects) (0, 0)
  unfolding all_ends
  declared_ends f h =
      get_or-append_right (map (λ c. (c, c)) (range_with_len 0 raw.objects)) raw.ends raw.objects f (0, 0)
      (length-map-range_with_len (λ (c : ℕ). (c, c)) 0 raw.objects) h

  -- where the listed ends are objects, all are
  pub ends_within : ((e : ℕ × ℕ) → In raw.ends e → (e.0 < raw.objects) × (e.1 < raw.objects)) → (f : ℕ) → f < length (all_ends raw) →
      ((get_or (all_ends raw) f (0, 0)).0 < raw.objects) × ((get_or (all_ends raw) f (0, 0)).1 < raw.objects)
  ends_within within f h =
      elim (cases_lt f raw.objects) [
        | inl low ↦ rw (identity_ends f low) (low, low)
        | inr high ↦
            let l : f - raw.objects < length raw.ends = omega (arith, length-all_ends) in
            rw (declared_ends f high) (within (get_or raw.ends (f - raw.objects) (0, 0)) (In_at raw.ends (f - raw.objects) (0, 0) l))
      ]
