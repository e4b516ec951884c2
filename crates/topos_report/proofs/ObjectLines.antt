-- Lines of objects, an object at a time.
use Rattle.std.proofs.Common.{◌≡◌, ℕ, ◌+◌, List, [], ◌∷◌, ◌++◌, map, get_or, sym, ◌∙◌, ap, arith}
use Rattle.topos_model.specs.declared.ty.Ty.{Ty}
use Rattle.topos_model.specs.declared.answer.Tuple.{Tuple}
use Rattle.topos_model.specs.declared.doc.Doc.{Doc}
use Rattle.topos_report.specs.Stages.{tuples_line, tuples_line_at}
use Rattle.topos_report.specs.AnswerLines.{classified_line, classified_at}
use Rattle.std.specs.List.{flat_map, range_with_len}
use Rattle.std.proofs.lemmas.List.Folds.{flat_map-map}
use Rattle.std.proofs.lemmas.List.FromFn.{map-range_with_len_more}
use Rattle.std.proofs.lemmas.Grind.{flat_map-append}
use Rattle.std.proofs.lemmas.List.{append-nil}

abbrev same : ℕ → ℕ
same n = n

pub flat_map-range-more : (f : ℕ → List ℕ) (n : ℕ) → flat_map f (range_with_len 0 (n + 1)) ≡ flat_map f (range_with_len 0 n) ++ f n
flat_map-range-more f n =
    sym (flat_map-map f same (range_with_len 0 (n + 1)))
    ∙ ap (flat_map f) (map-range_with_len_more same 0 n n (omega arith))
    ∙ flat_map-append f (map same (range_with_len 0 n)) (n ∷ [])
    ∙ ap (λ l. l ++ (f n ++ [])) (flat_map-map f same (range_with_len 0 n))
    ∙ ap (λ l. flat_map f (range_with_len 0 n) ++ l) (append-nil (f n))

pub tuples_list-more : (doc : Doc) (types : List Ty) (stages : List (List Tuple)) (c : ℕ) →
    flat_map (tuples_line_at doc types stages) (range_with_len 0 (c + 1)) ≡ flat_map (tuples_line_at doc types stages) (range_with_len 0 c) ++ tuples_line doc types c (get_or stages c [])
unfolding tuples_line_at
tuples_list-more doc types stages c = flat_map-range-more (tuples_line_at doc types stages) c

pub classified-more : (doc : Doc) (types : List Ty) (stages : List (List (Tuple × List ℕ))) (c : ℕ) →
    flat_map (classified_at doc types stages) (range_with_len 0 (c + 1)) ≡ flat_map (classified_at doc types stages) (range_with_len 0 c) ++ flat_map (classified_line doc types c) (get_or stages c [])
unfolding classified_at
classified-more doc types stages c = flat_map-range-more (classified_at doc types stages) c
