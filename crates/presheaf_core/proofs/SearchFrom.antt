-- The first answer of a test of the numbers from i up to n.
use Rattle.std.proofs.Common.{◌≡◌, ℕ, zero, suc, ◌+◌, ◌-◌, ◌<◌, ◌≤◌, Option, Some, None, ap, ◌∙◌, arith}
use Rattle.std.specs.List.{range_with_len}
use Rattle.finite_lists.specs.First.{first, or_else}
use Rattle.finite_lists.proofs.DistinctLists.{In-range_from}
use Rattle.finite_lists.proofs.FirstAnswers.{first_none}
use Rattle.presheaf_core.proofs.Tables.{range_from}

pub first_from-none : {B : Type 0} (test : ℕ → Option B) (i n : ℕ) → i < n → test i ≡ None → first test (range_with_len i (n - i)) ≡ first test (range_with_len (i + 1) (n - (i + 1)))
first_from-none test i n low e = ap (first test) (range_from i n low) ∙ ap (λ o. or_else o (first test (range_with_len (i + 1) (n - (i + 1))))) e

pub first_from-some : {B : Type 0} (test : ℕ → Option B) (i n : ℕ) (b : B) → i < n → test i ≡ Some b → first test (range_with_len i (n - i)) ≡ Some b
first_from-some test i n b low e = ap (first test) (range_from i n low) ∙ ap (λ o. or_else o (first test (range_with_len (i + 1) (n - (i + 1))))) e

pub first_from-start : {B : Type 0} (test : ℕ → Option B) (n : ℕ) → first test (range_with_len 0 n) ≡ first test (range_with_len 0 (n - 0))
first_from-start test n =
    let whole : n ≡ n - 0 = omega arith in
    ap (λ m. first test (range_with_len 0 m)) whole

-- a search may begin after numbers without an answer, and ends where no number is left with one
pub first_from-skip : {B : Type 0} (test : ℕ → Option B) (i n : ℕ) → i ≤ n → ((j : ℕ) → j < i → test j ≡ None) → first test (range_with_len 0 n) ≡ first test (range_with_len i (n - i))
first_from-skip test zero n low none = first_from-start test n
first_from-skip test (suc i) n low none =
    let e : i + 1 ≡ suc i = omega arith in
    first_from-skip test i n (omega arith) (λ j l. none j (omega arith)) ∙ first_from-none test i n (omega arith) (none i (omega arith)) ∙ ap (λ m. first test (range_with_len m (n - m))) e

pub first_from-nothing : {B : Type 0} (test : ℕ → Option B) (i n : ℕ) → ((j : ℕ) → i ≤ j → test j ≡ None) → first test (range_with_len i (n - i)) ≡ None
first_from-nothing test i n none = first_none test (range_with_len i (n - i)) (λ j l. none j (In-range_from i (n - i) j l).0)
