-- What the parts of a statement of a category come to.
use Rattle.std.proofs.Common.{◌≡◌, ℕ, ◌++◌, List, length, replicate, Ok, sym, ap, ◌∙◌}
use Rattle.topos_text.specs.Tokens.{Written}
use Rattle.topos_text.specs.Trees.{Arrows}
use Rattle.topos_text.specs.Names.{Space, change_by, look_up}
use Rattle.topos_text.specs.SiteNames.{with_arrow, object_of, site_statement}
use Rattle.topos_names.specs.Spaces.{limits}
use Rattle.topos_names.proofs.NameLists.{map_to_one}

-- arrows, whose ends are found behind them
pub arrows_statement : (s t : Space) (fs : List Written) (dom cod : Written) (A B : ℕ) → change_by (with_arrow limits) s fs ≡ Ok t → t.objects ≡ s.objects → object_of t dom ≡ Ok A → object_of t cod ≡ Ok B
    → site_statement limits s (Arrows fs dom cod) ≡ Ok (record t { ends = t.ends ++ replicate (length fs) (A, B) })
unfolding site_statement object_of
arrows_statement s t fs dom cod A B names same d c =
    let d' : look_up s.objects dom ≡ Ok A = ap (λ os. look_up os dom) (sym same) ∙ d in
    let c' : look_up s.objects cod ≡ Ok B = ap (λ os. look_up os cod) (sym same) ∙ c in
    let ends : ℕ × ℕ = (A, B) in
    let one = map_to_one fs ends in
    rw (names, d', c', one)
