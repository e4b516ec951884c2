-- Joined lists, one more.
use Rattle.std.proofs.Common.{◌≡◌, ℕ, zero, suc, ◌+◌, List, ◌++◌, flat_map, sym, ap, ◌∙◌, arith}
use Rattle.std.specs.List.{range_with_len}
use Rattle.std.proofs.lemmas.List.{append_assoc, append-nil}

pub joined_more : {A : Type 0} (f : ℕ → List A) (n start : ℕ) → flat_map f (range_with_len start n) ++ f (start + n) ≡ flat_map f (range_with_len start (n + 1))
joined_more f zero start =
    let e : start + 0 ≡ start = omega arith in
    ap f e ∙ sym (append-nil (f start))
joined_more f (suc n) start =
    let e : start + suc n ≡ (start + 1) + n = omega arith in
    let m : suc (n + 1) ≡ suc n + 1 = omega arith in
    append_assoc (f start) (flat_map f (range_with_len (start + 1) n)) (f (start + suc n)) ∙ ap (λ a. f start ++ (flat_map f (range_with_len (start + 1) n) ++ f a)) e
    ∙ ap (λ l. f start ++ l) (joined_more f n (start + 1)) ∙ ap (λ a. flat_map f (range_with_len start a)) m
