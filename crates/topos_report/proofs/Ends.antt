-- The ends of the identities and of the declared arrows.
use Rattle.std.proofs.Common.{◌≡◌, ℕ, ◌-◌, ◌<◌, ◌≤◌, get_or, map, sym, ◌∙◌, arith, subst}
use Rattle.std.specs.List.{range_with_len}
use Rattle.std.proofs.lemmas.List.{get_or_append_left, get_or-append_right}
use Rattle.std.proofs.lemmas.List.FromFn.{length-map-range_with_len, get_or-map-range_with_len}
use Rattle.topos_model.specs.declared.doc.Doc.{Doc}
use Rattle.topos_model.specs.categories.Listed.{all_ends}
use Rattle.topos_report.specs.Values.{ends_of}

abbrev identity : ℕ → ℕ × ℕ
identity c = (c, c)

pub ends_of-identity : (doc : Doc) (f : ℕ) → f < doc.cat.objects → ends_of doc f ≡ (f, f)
unfolding ends_of all_ends
ends_of-identity doc f h =
    get_or_append_left (map identity (range_with_len 0 doc.cat.objects)) doc.cat.ends (0, 0) f (subst (λ n. f < n) (sym (length-map-range_with_len identity 0 doc.cat.objects)) h)
    ∙ get_or-map-range_with_len identity 0 doc.cat.objects f f (0, 0) h (omega arith)

pub ends_of-declared : (doc : Doc) (f : ℕ) → doc.cat.objects ≤ f → ends_of doc f ≡ get_or doc.cat.ends (f - doc.cat.objects) (0, 0)
unfolding ends_of all_ends
ends_of-declared doc f h =
    get_or-append_right (map identity (range_with_len 0 doc.cat.objects)) doc.cat.ends doc.cat.objects f (0, 0) (length-map-range_with_len identity 0 doc.cat.objects) h

pub ruleset ends_rules = (ends_of-identity, ends_of-declared)
