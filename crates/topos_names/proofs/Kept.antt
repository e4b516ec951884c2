-- Names that are kept together, some of which may be there already.
use Rattle.std.proofs.Common.{◌≡◌, Bool, true, false, ◌||◌, List, [], ◌++◌, bytes_eq, refl, sym, ap, ◌∙◌}
use Rattle.std.proofs.lemmas.Slice.Eq.{bytes_eq-Decides}
use Rattle.std.proofs.lemmas.List.Folds.{list_any-append}
use Rattle.topos_text.specs.Names.{Name, known, names_of}
use Rattle.topos_names.specs.Scopes.{seen, IsScope}
use Rattle.topos_names.specs.Spaces.{space_of}
use Rattle.topos_names.specs.declared.space.Space.{Space}
use Rattle.topos_names.specs.declared.scope.Scope.TheInside.{Inside}
use Rattle.topos_names.proofs.ScopeNames.{has}

or_false : (a : Bool) → (a || false) ≡ a
or_false true = refl
or_false false = refl

or_same : (a b : Bool) → (b ≡ true → a ≡ true) → a ≡ (a || b)
or_same true b h = refl
or_same false true h = h refl
or_same false false h = refl

-- a name that is there need not be kept again
pub there_already : (xs : List Name) (t : Name) → has t xs ≡ true → (x : Name) → has x xs ≡ (has x xs || bytes_eq t x)
there_already xs t there x = or_same (has x xs) (bytes_eq t x) (λ e. ap (λ y. has y xs) (sym ((bytes_eq-Decides t x).0 e)) ∙ there)

has-none : (x : Name) (xs : List Name) → has x (xs ++ []) ≡ has x xs
has-none x xs = list_any-append (λ z. bytes_eq z x) xs [] ∙ or_false (has x xs)

-- Before the statements the names of the site and the topologies are kept.
module _ (site : Space) (topologies ks ks' all : List Name) where
  abbrev first_inside : Inside
  first_inside = record { known = all; site = site; topologies = topologies; functors = []; maps = []; cats = []; cat_functors = []; on_functors = []; on_maps = [] }

  known-first : (x : Name) → has x (known (seen first_inside)) ≡ ((has x site.objects || has x site.arrows) || has x topologies)
  unfolding known
  known-first x =
      has-none x ((((((names_of (space_of site) ++ topologies) ++ []) ++ []) ++ []) ++ []) ++ [])
      ∙ has-none x (((((names_of (space_of site) ++ topologies) ++ []) ++ []) ++ []) ++ [])
      ∙ has-none x ((((names_of (space_of site) ++ topologies) ++ []) ++ []) ++ [])
      ∙ has-none x (((names_of (space_of site) ++ topologies) ++ []) ++ [])
      ∙ has-none x ((names_of (space_of site) ++ topologies) ++ [])
      ∙ has-none x (names_of (space_of site) ++ topologies)
      ∙ list_any-append (λ z. bytes_eq z x) (names_of (space_of site)) topologies
      ∙ ap (λ b. b || has x topologies) (list_any-append (λ z. bytes_eq z x) site.objects site.arrows)

  pub first_kept : ((x : Name) → has x ks ≡ (has x [] || has x site.objects)) → ((x : Name) → has x ks' ≡ (has x ks || has x site.arrows)) → ((x : Name) → has x all ≡ (has x ks' || has x topologies)) → IsScope first_inside
  first_kept h1 h2 h3 = record { kept = λ x. h3 x ∙ ap (λ b. b || has x topologies) (h2 x ∙ ap (λ b. b || has x site.arrows) (h1 x)) ∙ sym (known-first x) }
