-- Rows of entries, one after another.
use Rattle.std.proofs.Common.{◌≡◌, ℕ, ◌+◌, ◌<◌, inl, inr, List, [], ◌∷◌, ◌++◌, length, get_or, flat_map, refl, sym, ap, subst, ◌∙◌, arith, append-nil, append_assoc}
use Rattle.std.specs.List.{range_with_len}
use Rattle.std.proofs.lemmas.Bool.{cases_lt}
use Rattle.std.proofs.lemmas.Grind.{flat_map-append}
use Rattle.std.proofs.lemmas.List.{map-id, length_push, get_or_append_left, get_or_push}
use Rattle.std.proofs.lemmas.List.FromFn.{map-range_with_len_more}
use Rattle.truth_tables.specs.Tables.{row}

-- one more entry is put last
pub row-more : {A : Type 0} (entry : ℕ → A) (n : ℕ) (before after : List A) (x : A) → before ≡ row n entry → after ≡ before ++ x ∷ [] → x ≡ entry n → after ≡ row (n + 1) entry
row-more entry n before after x b a e =
    a ∙ ap (λ l. l ++ x ∷ []) b ∙ ap (λ y. row n entry ++ y ∷ []) e ∙ sym (map-range_with_len_more entry 0 n n (omega arith))

-- one more entry is put behind what was there before
pub row-longer : {A : Type 0} (entry : ℕ → A) (n : ℕ) (start before after : List A) (x : A) → before ≡ start ++ row n entry → after ≡ before ++ x ∷ [] → x ≡ entry n → after ≡ start ++ row (n + 1) entry
row-longer entry n start before after x b a e =
    a ∙ ap (λ l. l ++ x ∷ []) b ∙ append_assoc start (row n entry) (x ∷ []) ∙ ap (λ l. start ++ l) (row-more entry n (row n entry) (row n entry ++ x ∷ []) x refl refl e)

range-more : (n : ℕ) → range_with_len 0 (n + 1) ≡ range_with_len 0 n ++ n ∷ []
range-more n =
    sym (map-id (range_with_len 0 (n + 1))) ∙ map-range_with_len_more (λ m. m) 0 n n (omega arith) ∙ ap (λ l. l ++ n ∷ []) (map-id (range_with_len 0 n))

-- the entries of one more place are put last
pub joined-more : {A : Type 0} (entries : ℕ → List A) (n : ℕ) (start before after : List A) → before ≡ start ++ flat_map entries (range_with_len 0 n) → after ≡ before ++ entries n →
    after ≡ start ++ flat_map entries (range_with_len 0 (n + 1))
joined-more entries n start before after b a =
    a ∙ ap (λ l. l ++ entries n) b ∙ append_assoc start (flat_map entries (range_with_len 0 n)) (entries n)
    ∙ ap (λ l. start ++ l) (sym (ap (flat_map entries) (range-more n) ∙ flat_map-append entries (range_with_len 0 n) (n ∷ []) ∙ ap (λ l. flat_map entries (range_with_len 0 n) ++ l) (append-nil (entries n))))

-- what holds of each item holds of one more
pub each-more : {A : Type 0} (P : ℕ → A → Type 0) (d : A) (n : ℕ) (before after : List A) (x : A) → length before ≡ n → ((i : ℕ) → i < n → P i (get_or before i d)) → after ≡ before ++ x ∷ [] → P n x →
    (length after ≡ n + 1) × ((i : ℕ) → i < n + 1 → P i (get_or after i d))
each-more P d n before after x long each a here = (
  ap length a ∙ omega (arith, length_push before x, long),
  λ i low. subst (λ (l : List _). P i (get_or l i d)) (sym a) (elim (cases_lt i n) [
    | inl b ↦ subst (P i) (sym (get_or_append_left before (x ∷ []) d i (omega (arith, b, long)))) (each i b)
    | inr h ↦ (let same : i ≡ n = omega (arith, low, h) in subst (P i) (sym (get_or_push before x d i (omega (arith, same, long)))) (subst (λ m. P m x) (sym same) here))
  ]),
)
