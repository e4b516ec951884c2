-- Entries behind a colon, an entry at a time; rows with their places; named maps.
use Rattle.std.proofs.Common.{◌≡◌, ℕ, zero, suc, ◌+◌, ◌<◌, ◌≤◌, List, [], ◌∷◌, ◌++◌, length, map, get_or, take, drop, slice_get, Option, Some, None, refl, sym, ap, ◌∙◌, subst, inl, inr, append-nil, add-one, drop-cons, codes, flat_map, arith}
use Rattle.std.specs.List.{zip, range_with_len}
use Rattle.std.proofs.lemmas.List.{take_more, take_all, length-take, drop_all}
use Rattle.std.proofs.lemmas.Option.{get_or_from_slice_get, slice_get_within, slice_get_cases, slice_get-get_or}
use Rattle.topos_model.specs.declared.doc.Doc.{Doc}
use Rattle.topos_model.specs.declared.answer.MapShape.{MapShape}
use Rattle.topos_report.specs.Names.{place_text}
use Rattle.topos_report.specs.AnswerLines.{listed_map_lines}
use Rattle.topos_report.specs.Lead.{lead}
use Rattle.topos_report.specs.Tables.{listed, with_places, map_lines}
use Rattle.topos_report.proofs.Commas.{comma_separated-last}

-- one entry more
listed-last : {X : Type 0} (spelling : X → List ℕ) (xs : List X) (x : X) → listed spelling (xs ++ x ∷ []) ≡ listed spelling xs ++ lead (length xs) ++ spelling x
listed-last spelling [] x = ap (λ l. codes " " ++ l) (append-nil (spelling x))
listed-last spelling (y ∷ xs) x =
    ap (λ l. codes " " ++ l) (comma_separated-last spelling (y ∷ xs) x)

pub listed-more : {X : Type 0} (spelling : X → List ℕ) (xs : List X) (i : ℕ) (x : X) → i < length xs → get_or xs i x ≡ x →
    listed spelling (take (i + 1) xs) ≡ listed spelling (take i xs) ++ lead i ++ spelling x
listed-more spelling xs i x low at =
    ap (listed spelling) (take_more xs i x low ∙ ap (λ y. take i xs ++ y ∷ []) at)
    ∙ listed-last spelling (take i xs) x
    ∙ ap (λ n. listed spelling (take i xs) ++ lead n ++ spelling x) (omega (arith, length-take i xs))

-- a row with its places
zip_at : (row : List ℕ) (a n i : ℕ) → length row ≡ n → i < length row → (d : ℕ × ℕ) → get_or (zip (range_with_len a n) row) i d ≡ (a + i, get_or row i 0)
zip_at [] a n i count low d = absurd (beyond i low)
  where
    beyond : (i : ℕ) → i < 0 → ⊥
    beyond i low = omega arith
zip_at (x ∷ row) a zero i count low d = absurd (empty count)
  where
    empty : length (x ∷ row) ≡ 0 → ⊥
    empty e = omega arith
zip_at (x ∷ row) a (suc n) zero count low d = ap (λ (n : ℕ). (n, x)) (same a)
  where
    same : (a : ℕ) → a ≡ a + 0
    same a = omega arith
zip_at (x ∷ row) a (suc n) (suc i) count low d = zip_at row (a + 1) n i (omega arith) (omega arith) d ∙ ap (λ (n : ℕ). (n, get_or row i 0)) (omega arith)

zip_count : (row : List ℕ) (a n : ℕ) → length row ≡ n → length (zip (range_with_len a n) row) ≡ n
zip_count [] a zero count = refl
zip_count [] a (suc n) count = absurd (some n count)
  where
    some : (n : ℕ) → 0 ≡ suc n → ⊥
    some n e = omega arith
zip_count (x ∷ row) a zero count = absurd (empty count)
  where
    empty : length (x ∷ row) ≡ 0 → ⊥
    empty e = omega arith
zip_count (x ∷ row) a (suc n) count = let rest : length (zip (range_with_len (a + 1) n) row) ≡ n = zip_count row (a + 1) n (omega arith) in omega (arith, rest)

pub places-more : (spelling : ℕ × ℕ → List ℕ) (row : List ℕ) (x y : ℕ) → x < length row → y ≡ get_or row x 0 →
    listed spelling (take (x + 1) (with_places row)) ≡ listed spelling (take x (with_places row)) ++ lead x ++ spelling (x, y)
places-more spelling row x y low at =
    listed-more spelling (with_places row) x (x, y) (subst (λ n. x < n) (sym (zip_count row 0 (length row) refl)) low)
    (zip_at row 0 (length row) x refl low (x, y) ∙ pair (0 + x) (get_or row x 0) (omega arith) (sym at))
  where
    pair : (a b : ℕ) → a ≡ x → b ≡ y → ◌≡◌ {A = ℕ × ℕ} (a, b) (x, y)
    pair a b e f = rw (e, f) refl

pub all_places : (row : List ℕ) (x : ℕ) → length row ≤ x → take x (with_places row) ≡ with_places row
all_places row x whole = take_all x (with_places row) (subst (λ n. n ≤ x) (sym (zip_count row 0 (length row) refl)) whole)

-- named maps, one after another
module _ {A : Type 0} (names : ℕ → List ℕ) (spelling : List ℕ × A → List ℕ) where
  abbrev named : List ℕ → List A → List ℕ
  named numbers maps = flat_map spelling (zip (map names numbers) maps)

  pub one_named : (numbers : List ℕ) (maps : List A) (i number : ℕ) (m : A) → slice_get numbers i ≡ Some number → i < length maps → get_or maps i m ≡ m →
      named (drop i numbers) (drop i maps) ≡ spelling (names number, m) ++ named (drop (i + 1) numbers) (drop (i + 1) maps)
  one_named numbers maps i number m has low at =
      rw (drop-cons numbers i number (slice_get_within numbers i number has), get_or_from_slice_get numbers i number number has, drop-cons maps i m low, at, add-one) refl

  pub none_named : (numbers : List ℕ) (maps : List A) (i : ℕ) → slice_get numbers i ≡ None → named (drop i numbers) (drop i maps) ≡ []
  none_named numbers maps i none = ap (λ (l : List ℕ). named l (drop i maps)) (drop_all i numbers past)
    where
      past : length numbers ≤ i
      past = elim (slice_get_cases numbers i).1 [ inl found ↦ absurd (some_none (sym found.2 ∙ none)) | inr out ↦ out.0 ]
        where
          some_none : {x : ℕ} → Some x ≡ None → ⊥
          some_none e = cc

  pub all_named : (numbers : List ℕ) (maps : List A) (i : ℕ) → length maps ≤ i → named (drop i numbers) (drop i maps) ≡ []
  all_named numbers maps i whole = ap (named (drop i numbers)) (drop_all i maps whole) ∙ nothing (drop i numbers)
    where
      nothing : (l : List ℕ) → named l [] ≡ []
      nothing [] = refl
      nothing (n ∷ l) = refl

-- a map by its place in a list
pub placed_lines : (doc : Doc) (maps : List MapShape) (i : ℕ) (m : MapShape) → i < length maps → get_or maps i m ≡ m → listed_map_lines doc maps i ≡ map_lines doc (place_text i, m)
unfolding listed_map_lines
placed_lines doc maps i m low at =
    ap (λ (o : Option MapShape). elim o [ None ↦ [] | Some n ↦ map_lines doc (place_text i, n) ]) (slice_get-get_or maps i m low ∙ ap (λ n. Some n) at)
