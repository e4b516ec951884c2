-- Rows keep their places while cells and spans are added.
use Rattle.std.proofs.Common.{◌≡◌, ◌+◌, ◌≤◌, List, [], ◌∷◌, ◌++◌, length, take, drop, refl, suc, ap, ◌∙◌, arith, length-drop, take_all}
use Rattle.std.proofs.lemmas.List.{take-append-le, drop-append-le}
use Rattle.std.proofs.Math.Seq.{drop-append_seam}
use Rattle.truth_tables.specs.declared.tuple_tables.Span.{Span}
use Rattle.truth_tables.specs.Spans.{cut, rows_of, AreWithin}

module _ {A : Type 0} where
  cut_kept : (cells more : List A) (span : Span) → span.start + span.len ≤ length cells → cut (cells ++ more) span ≡ cut cells span
  cut_kept cells more span le =
      let inside : span.len ≤ length (drop span.start cells) = omega (arith, le, length-drop span.start cells) in
      ap (take span.len) (drop-append-le span.start cells more (omega (arith, le))) ∙ take-append-le span.len (drop span.start cells) more inside

  rest_within : (cells : List A) (span : Span) (spans : List Span) → AreWithin cells (span ∷ spans) → AreWithin cells spans
  rest_within cells span spans w = record { within = λ k d low. w.within (suc k) d (omega (arith, low)) }

  rows_kept : (cells more : List A) (spans : List Span) → AreWithin cells spans → rows_of (cells ++ more) spans ≡ rows_of cells spans
  rows_kept cells more [] w = refl
  rows_kept cells more (span ∷ spans) w =
      ap (λ row. row ∷ rows_of (cells ++ more) spans) (cut_kept cells more span (w.within 0 span (omega arith)))
      ∙ ap (λ rows. cut cells span ∷ rows) (rows_kept cells more spans (rest_within cells span spans w))

  rows_more : (cells : List A) (spans : List Span) (span : Span) → rows_of cells (spans ++ span ∷ []) ≡ rows_of cells spans ++ cut cells span ∷ []
  rows_more cells [] span = refl
  rows_more cells (s ∷ spans) span = ap (λ rows. cut cells s ∷ rows) (rows_more cells spans span)

  -- the row that was put last
  pub row_added : (before entries cells : List A) (spans after : List Span) (span : Span) → AreWithin before spans → cells ≡ before ++ entries → span.start ≡ length before → span.len ≡ length entries →
      after ≡ spans ++ span ∷ [] → rows_of cells after ≡ rows_of before spans ++ entries ∷ []
  row_added before entries cells spans after span w put start len more =
      let last : cut (before ++ entries) span ≡ entries =
      ap (λ n. take span.len (drop n (before ++ entries))) start ∙ ap (take span.len) (drop-append_seam before entries) ∙ take_all span.len entries (omega (arith, len)) in
      ap (λ l. rows_of l after) put ∙ ap (rows_of (before ++ entries)) more ∙ rows_more (before ++ entries) spans span
      ∙ ap (λ rows. rows ++ cut (before ++ entries) span ∷ []) (rows_kept before entries spans w)
      ∙ ap (λ row. rows_of before spans ++ row ∷ []) last
