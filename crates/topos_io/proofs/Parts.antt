-- Bytes taken from a source, or given to a sink, in two parts.
use Rattle.std.proofs.Common.{◌≡◌, ℕ, ◌+◌, ◌-◌, ◌≤◌, arith, List, ◌++◌, length, take, drop, sym, ap, ◌∙◌, take-add}
use Rattle.std.proofs.lemmas.List.{take_rest, drop-drop, take-append-drop}
use Rattle.std.proofs.lemmas.Grind.{common_steps}
use Rattle.std.proofs.Math.Seq.{take-append_seam}

-- the front, and then some of what is behind it
pub take_on : (at n : ℕ) (all : List ℕ) → take at all ++ take n (take (length all - at) (drop at all)) ≡ take (at + n) all
take_on at n all = ap (λ rest. take at all ++ take n rest) (take_rest all at) ∙ sym (take-add at n all)

-- what is left is what was copied to the front of a buffer, and then what is left behind it
pub read_on : (at n : ℕ) (bytes copied rest : List ℕ) → copied ≡ take n (drop at bytes) → n ≤ length (drop at bytes)
    → drop at bytes ≡ take n (copied ++ rest) ++ drop (at + n) bytes
read_on at n bytes copied rest is le =
    let size : length copied ≡ n = grind (arith, common_steps) in
    let front : take n (copied ++ rest) ≡ take n (drop at bytes) =
    ap (λ k. take k (copied ++ rest)) (sym size) ∙ take-append_seam copied rest ∙ is in
    sym (take-append-drop n (drop at bytes)) ∙ ap (λ l. l ++ drop n (drop at bytes)) (sym front)
    ∙ ap (λ l. take n (copied ++ rest) ++ l) (drop-drop n at bytes)
