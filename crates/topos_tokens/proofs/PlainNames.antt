-- ASCII characters with which a name goes on.
use Rattle.std.proofs.Common.{◌≡◌, ℕ, zero, suc, ◌+◌, ◌≤◌, ◌<◌, true, ◌||◌, ◌==◌, List, [], ◌∷◌, ◌++◌, length, take, drop, get_or, refl, sym, ap, subst, ◌∙◌, arith}
use Rattle.std.specs.List.{list_all}
use Rattle.std.specs.Str.{chars, IsUtf8, IsCharBoundary, IsAscii}
use Rattle.std.proofs.lemmas.List.{take-append-drop}
use Rattle.std.proofs.lemmas.List.Folds.{list_all_more}
use Rattle.std.proofs.lemmas.Str.{chars-append, chars-IsAscii, IsCharBoundary-start, IsCharBoundary-after_ascii, IsUtf8-take}
use Rattle.unicode_ident.proofs.IdentLemmas.{is_xid_continue-ascii}
use Rattle.topos_text.specs.Spelling.{continues_name}
use Rattle.topos_tokens.specs.Fronts.{Passed, is_plain}
use Rattle.topos_tokens.proofs.Characters.{both, first_true, second_true}

plain_small : (b : ℕ) → is_plain b ≡ true → b < 128
plain_small b h = grind (arith, h)

plain_continues : (b : ℕ) → is_plain b ≡ true → continues_name b ≡ true
plain_continues b h = ap (λ v. v || (b == 39)) (is_xid_continue-ascii b (plain_small b h)) ∙ h

all_continue : (bs : List ℕ) → list_all is_plain bs ≡ true → list_all continues_name bs ≡ true
all_continue [] all = refl
all_continue (b ∷ bs) all = both (continues_name b) (list_all continues_name bs) (plain_continues b (first_true (is_plain b) (list_all is_plain bs) all)) (all_continue bs (second_true (is_plain b) (list_all is_plain bs) all))

all_ascii : (bs : List ℕ) → list_all is_plain bs ≡ true → IsAscii bs
all_ascii [] all i = omega arith
all_ascii (b ∷ bs) all zero = plain_small b (first_true (is_plain b) (list_all is_plain bs) all)
all_ascii (b ∷ bs) all (suc i) = all_ascii bs (second_true (is_plain b) (list_all is_plain bs) all) i

pub plain_boundary : (bs : List ℕ) (n : ℕ) → IsUtf8 bs → n ≤ length bs → list_all is_plain (take n bs) ≡ true → IsCharBoundary bs n
plain_boundary bs zero u within all = IsCharBoundary-start bs u
plain_boundary bs (suc n) u within all =
    let next : suc n ≡ n + 1 = omega arith in
    let fits : n < length bs = omega (arith, within) in
    let both_pass : list_all is_plain (take (n + 1) bs) ≡ true = subst (λ m. list_all is_plain (take m bs) ≡ true) next all in
    let here : is_plain (get_or bs n 0) ≡ true = second_true (list_all is_plain (take n bs)) (is_plain (get_or bs n 0)) (sym (list_all_more is_plain bs n 0 fits) ∙ both_pass) in
    subst (λ m. IsCharBoundary bs m) (sym next) (IsCharBoundary-after_ascii bs n u fits (plain_small (get_or bs n 0) here))

-- the text goes on behind them
pub plain_passed : (bs : List ℕ) (n : ℕ) → IsUtf8 bs → n ≤ length bs → list_all is_plain (take n bs) ≡ true → Passed continues_name (chars bs) (chars (drop n bs))
plain_passed bs n u within all = record {
  front = take n bs;
  parts = ap chars (sym (take-append-drop n bs)) ∙ chars-append (take n bs) (drop n bs) (IsUtf8-take bs n u (plain_boundary bs n u within all)) ∙ ap (λ z. z ++ chars (drop n bs)) (chars-IsAscii (take n bs) (all_ascii (take n bs) all));
  all = all_continue (take n bs) all;
}
