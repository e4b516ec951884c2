-- A second category, and a functor of categories, are declared.
use Rattle.std.specs.Prelude.{ℕ, [], ◌∷◌, ◌++◌}
use Rattle.topos_text.specs.Tokens.{Written}
use Rattle.topos_text.specs.Names.{Scope, Space}
use Rattle.topos_text.specs.SiteNames.{raw_category}

abbrev pub with_category : Scope → Written → Space → Scope
with_category s d D = record s { cats = s.cats ++ record { name = d.text; objects = D.objects; arrows = D.arrows; cat = raw_category D } ∷ [] }

abbrev pub with_category_functor : Scope → Written → ℕ → Scope
with_category_functor s f D = record s { cat_functors = s.cat_functors ++ (f.text, D) ∷ [] }
