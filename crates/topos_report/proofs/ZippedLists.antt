-- Two lists beside each other, a pair at a time.
use Rattle.std.proofs.Common.{◌≡◌, ℕ, ◌+◌, ◌<◌, List, ◌++◌, length, get_or, take, min, sym, ◌∙◌, ap, arith}
use Rattle.std.specs.List.{zip}
use Rattle.std.proofs.Math.Seq.{take-length}
use Rattle.std.proofs.lemmas.Slice.Zip.{get_or-zip, length-zip}
use Rattle.topos_report.specs.Lists.{comma_separated, separator}
use Rattle.topos_report.proofs.Commas.{comma_separated-more}

zip_at : {X Y : Type 0} (xs : List X) (ys : List Y) (i : ℕ) (x : X) (y : Y) → i < length xs → i < length ys →
    x ≡ get_or xs i x → y ≡ get_or ys i y → (x, y) ≡ get_or (zip xs ys) i (x, y)
zip_at xs ys i x y h k d e = ap (λ a. (a, y)) d ∙ ap (λ b. (get_or xs i x, b)) e ∙ sym (get_or-zip xs ys i (x, y) h k)

pub zipped-more : {X Y : Type 0} (spelling : X × Y → List ℕ) (xs : List X) (ys : List Y) (i : ℕ) (x : X) (y : Y) →
    i < length xs → i < length ys → x ≡ get_or xs i x → y ≡ get_or ys i y →
    comma_separated spelling (take (i + 1) (zip xs ys)) ≡ comma_separated spelling (take i (zip xs ys)) ++ separator i ++ spelling (x, y)
zipped-more spelling xs ys i x y h k d e =
    comma_separated-more spelling (zip xs ys) i (x, y) (omega (arith, length-zip xs ys)) (zip_at xs ys i x y h k d e)

pub take-zip : {X Y : Type 0} (xs : List X) (ys : List Y) → take (min (length xs) (length ys)) (zip xs ys) ≡ zip xs ys
take-zip xs ys = ap (λ n. take n (zip xs ys)) (sym (length-zip xs ys)) ∙ take-length (zip xs ys)
