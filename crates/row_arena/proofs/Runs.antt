-- What a `&` to a row of places shows of a run of places that hold their values: that of a slice. Assumes `Logic`.
use mathlib.Core.Path.{◌≡◌, refl}
use mathlib.Core.Bool.{Bool, true, false}
use Prim.Native.Nat.{ℕ, zero, suc, ◌+◌, ◌*◌, ◌≤◌, ◌<◌}
use native.Mathlib.Nat.{not-suc-le-zero, le_of_suc-le-suc}
use native.Mathlib.Omega.{arith}
use mathlib.Core.List.{List, [], ◌∷◌}
use lib.ListN.{length, get_or, take, drop as drop_l}
use seplogic.Ra.Ura.{Ura}
use base.Logic.{ent}
use base.Fml.{Lft}
use types.Logic.{Logic, sem}
use types.Kit.{‵, ◌$◌, ◌∵◌, !, qed, by, keep, drop, use1, rewrite, fsplit, frame, done}
use denote.RawPtr.{block_ptr}
use denote.Slice.{elements_shared}
use denote.Index.{place, place_is}
use Rattle.core.proofs.mem.Param.{El, R, el_x}
use Rattle.core.specs.Mem.Slots.Ownership.{slot_lent, slots_lent}
use Rattle.core.proofs.slots.Places.{sz}

module _ (E : El) {M : Type 1} {𝓤 : Ura M} (𝓛 : Logic 𝓤) (κ : Lft) (b : ℕ) where
  front_lent : (o : ℕ) (xs : List (el_x E)) (fs : List Bool) (len : ℕ) → len ≤ length xs → len ≤ length fs → ((k : ℕ) → k < len → get_or fs k false ≡ true)
      → ent 𝓤 (sem 𝓛 (slots_lent (R E) (block_ptr b o) xs fs κ)) (sem 𝓛 (elements_shared (R E) (take len xs) b o κ))
  front_lent o xs fs zero l m full = qed 𝓛 (‵ (slots_lent (R E) (block_ptr b o) xs fs κ) ∷ []) ∵ keep ! [] $ done !
  front_lent o [] fs (suc len) l m full = absurd (not-suc-le-zero l)
  front_lent o (x ∷ xs) [] (suc len) l m full = absurd (not-suc-le-zero m)
  front_lent o (x ∷ xs) (f ∷ fs) (suc len) l m full =
      qed 𝓛 (‵ (slot_lent (R E) f (block_ptr b o) x κ) ∷ ‵ (slots_lent (R E) (block_ptr b (o + sz E)) xs fs κ) ∷ []) ∵
      rewrite ! 0 (λ (g : Bool). ‵ (slot_lent (R E) g (block_ptr b o) x κ)) (full 0 (let up : 0 < suc len = omega arith in up)) refl $ fsplit ! $ drop ! $ frame ! $
      by ! (front_lent (o + sz E) xs fs len (le_of_suc-le-suc l) (le_of_suc-le-suc m) (λ k lt. full (suc k) (let up : suc k < suc len = omega arith in up)))

  run_at : (o : ℕ) (xs : List (el_x E)) (fs : List Bool) (at len : ℕ) → at + len ≤ length xs → at + len ≤ length fs → ((k : ℕ) → at ≤ k → k < at + len → get_or fs k false ≡ true)
      → ent 𝓤 (sem 𝓛 (slots_lent (R E) (block_ptr b o) xs fs κ)) (sem 𝓛 (elements_shared (R E) (take len (drop_l at xs)) b (place (sz E) o at) κ))
  run_at o xs fs zero len l m full = front_lent o xs fs len (omega (arith, l)) (omega (arith, m)) (λ k lt. full k (omega arith) (omega (arith, lt)))
  run_at o [] fs (suc at) len l m full = let none : suc at + len ≤ 0 = l in absurd (omega (arith, none))
  run_at o (x ∷ xs) [] (suc at) len l m full = let none : suc at + len ≤ 0 = m in absurd (omega (arith, none))
  run_at o (x ∷ xs) (f ∷ fs) (suc at) len l m full =
      let l' : suc at + len ≤ suc (length xs) = l in let m' : suc at + len ≤ suc (length fs) = m in
      qed 𝓛 (‵ (slot_lent (R E) f (block_ptr b o) x κ) ∷ ‵ (slots_lent (R E) (block_ptr b (o + sz E)) xs fs κ) ∷ []) ∵ drop ! $
      by ! (run_at (o + sz E) xs fs at len (omega (arith, l')) (omega (arith, m')) (λ k le lt. full (suc k) (omega (arith, le)) (omega (arith, lt))))

  pub run_lent : (o : ℕ) (xs : List (el_x E)) (fs : List Bool) (at len : ℕ) → at + len ≤ length xs → at + len ≤ length fs → ((k : ℕ) → at ≤ k → k < at + len → get_or fs k false ≡ true)
      → ent 𝓤 (sem 𝓛 (slots_lent (R E) (block_ptr b o) xs fs κ)) (sem 𝓛 (elements_shared (R E) (take len (drop_l at xs)) b (at * sz E + o) κ))
  run_lent o xs fs at len l m full = qed 𝓛 (‵ (slots_lent (R E) (block_ptr b o) xs fs κ) ∷ []) ∵
      use1 𝓛 (‵ (elements_shared (R E) (take len (drop_l at xs)) b (place (sz E) o at) κ)) (run_at o xs fs at len l m full) $
      rewrite ! 0 (λ (k : ℕ). ‵ (elements_shared (R E) (take len (drop_l at xs)) b k κ)) (place_is (sz E) o at) refl $ done !
