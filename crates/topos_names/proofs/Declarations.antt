-- A declared name is kept, and is known.
use Rattle.std.proofs.Common.{◌≡◌, ℕ, ◌-◌, ◌||◌, List, [], ◌∷◌, ◌++◌, map, take, length, bytes_eq, Option, refl, sym, ap, ◌∙◌, arith, length-append}
use Rattle.std.proofs.lemmas.List.{map-append, take_at}
use Rattle.topos_text.specs.Names.{Name, known, names_of, functor_names, category_names, category_functor_names, on_functor_names}
use Rattle.topos_names.specs.Scopes.{functor_name, category_name, on_name, seen, IsScope}
use Rattle.topos_names.specs.declared.space.Space.{Space}
use Rattle.topos_names.specs.declared.scope.OnFunctor.{OnFunctor}
use Rattle.topos_names.specs.declared.scope.Scope.TheInside.{Inside}
use Rattle.topos_names.proofs.ScopeNames.{has, Adds, Adds-last, Adds-front, Adds-back}

-- what was kept before a name was put last
pub undone : (ks : List Name) (x : Name) → take (length (ks ++ x ∷ []) - 1) (ks ++ x ∷ []) ≡ ks
undone ks x = take_at ks (x ∷ []) (length (ks ++ x ∷ []) - 1) (omega (arith, length-append ks (x ∷ [])))

module _ (a : Inside) (x : Name) where
  -- the names stay together where one is kept that is known then
  stays : (b : Inside) → b.known ≡ a.known ++ x ∷ [] → Adds x (known (seen b)) (known (seen a)) → IsScope a → IsScope b
  stays b is adds h = record { kept = λ y. ap (has y) is ∙ Adds-last x a.known y ∙ ap (λ t. t || bytes_eq x y) (h.kept y) ∙ sym (adds y) }

  names_more : {V B : Type 0} (g : Name × V → B) (name : B → Name) (v : V) → name (g (x, v)) ≡ x → (es : List (Name × V)) → map name (map g (es ++ (x, v) ∷ [])) ≡ map name (map g es) ++ x ∷ []
  names_more g name v is es = rw (map-append g es ((x, v) ∷ []), map-append name (map g es) (g (x, v) ∷ []), is)

  pub functor_declared : (v : Option (List (List Name))) → IsScope a → IsScope (record a { known = a.known ++ x ∷ []; functors = a.functors ++ (x, v) ∷ [] })
  unfolding known
  functor_declared v h = stays (record a { known = a.known ++ x ∷ []; functors = a.functors ++ (x, v) ∷ [] }) refl (Adds-front x (((((((names_of (seen a).site) ++ (seen a).topologies) ++ (map (λ f. f.name) (map functor_name (a.functors ++ (x, v) ∷ [])))) ++ (seen a).maps) ++ (category_names (seen a))) ++ (category_functor_names (seen a))) ++ (on_functor_names (seen a))) (((((((names_of (seen a).site) ++ (seen a).topologies) ++ (functor_names (seen a))) ++ (seen a).maps) ++ (category_names (seen a))) ++ (category_functor_names (seen a))) ++ (on_functor_names (seen a))) (seen a).on_maps (Adds-front x ((((((names_of (seen a).site) ++ (seen a).topologies) ++ (map (λ f. f.name) (map functor_name (a.functors ++ (x, v) ∷ [])))) ++ (seen a).maps) ++ (category_names (seen a))) ++ (category_functor_names (seen a))) ((((((names_of (seen a).site) ++ (seen a).topologies) ++ (functor_names (seen a))) ++ (seen a).maps) ++ (category_names (seen a))) ++ (category_functor_names (seen a))) (on_functor_names (seen a)) (Adds-front x (((((names_of (seen a).site) ++ (seen a).topologies) ++ (map (λ f. f.name) (map functor_name (a.functors ++ (x, v) ∷ [])))) ++ (seen a).maps) ++ (category_names (seen a))) (((((names_of (seen a).site) ++ (seen a).topologies) ++ (functor_names (seen a))) ++ (seen a).maps) ++ (category_names (seen a))) (category_functor_names (seen a)) (Adds-front x ((((names_of (seen a).site) ++ (seen a).topologies) ++ (map (λ f. f.name) (map functor_name (a.functors ++ (x, v) ∷ [])))) ++ (seen a).maps) ((((names_of (seen a).site) ++ (seen a).topologies) ++ (functor_names (seen a))) ++ (seen a).maps) (category_names (seen a)) (Adds-front x (((names_of (seen a).site) ++ (seen a).topologies) ++ (map (λ f. f.name) (map functor_name (a.functors ++ (x, v) ∷ [])))) (((names_of (seen a).site) ++ (seen a).topologies) ++ (functor_names (seen a))) (seen a).maps (Adds-back x ((names_of (seen a).site) ++ (seen a).topologies) (map (λ f. f.name) (map functor_name (a.functors ++ (x, v) ∷ []))) (functor_names (seen a)) (λ y. ap (has y) (names_more functor_name (λ f. f.name) v refl a.functors) ∙ Adds-last x (functor_names (seen a)) y))))))) h

  pub map_declared : IsScope a → IsScope (record a { known = a.known ++ x ∷ []; maps = a.maps ++ x ∷ [] })
  unfolding known
  map_declared h = stays (record a { known = a.known ++ x ∷ []; maps = a.maps ++ x ∷ [] }) refl (Adds-front x (((((((names_of (seen a).site) ++ (seen a).topologies) ++ (functor_names (seen a))) ++ (a.maps ++ x ∷ [])) ++ (category_names (seen a))) ++ (category_functor_names (seen a))) ++ (on_functor_names (seen a))) (((((((names_of (seen a).site) ++ (seen a).topologies) ++ (functor_names (seen a))) ++ (seen a).maps) ++ (category_names (seen a))) ++ (category_functor_names (seen a))) ++ (on_functor_names (seen a))) (seen a).on_maps (Adds-front x ((((((names_of (seen a).site) ++ (seen a).topologies) ++ (functor_names (seen a))) ++ (a.maps ++ x ∷ [])) ++ (category_names (seen a))) ++ (category_functor_names (seen a))) ((((((names_of (seen a).site) ++ (seen a).topologies) ++ (functor_names (seen a))) ++ (seen a).maps) ++ (category_names (seen a))) ++ (category_functor_names (seen a))) (on_functor_names (seen a)) (Adds-front x (((((names_of (seen a).site) ++ (seen a).topologies) ++ (functor_names (seen a))) ++ (a.maps ++ x ∷ [])) ++ (category_names (seen a))) (((((names_of (seen a).site) ++ (seen a).topologies) ++ (functor_names (seen a))) ++ (seen a).maps) ++ (category_names (seen a))) (category_functor_names (seen a)) (Adds-front x ((((names_of (seen a).site) ++ (seen a).topologies) ++ (functor_names (seen a))) ++ (a.maps ++ x ∷ [])) ((((names_of (seen a).site) ++ (seen a).topologies) ++ (functor_names (seen a))) ++ (seen a).maps) (category_names (seen a)) (Adds-back x (((names_of (seen a).site) ++ (seen a).topologies) ++ (functor_names (seen a))) (a.maps ++ x ∷ []) (seen a).maps (Adds-last x a.maps)))))) h

  pub category_declared : (v : Space) → IsScope a → IsScope (record a { known = a.known ++ x ∷ []; cats = a.cats ++ (x, v) ∷ [] })
  unfolding known
  category_declared v h = stays (record a { known = a.known ++ x ∷ []; cats = a.cats ++ (x, v) ∷ [] }) refl (Adds-front x (((((((names_of (seen a).site) ++ (seen a).topologies) ++ (functor_names (seen a))) ++ (seen a).maps) ++ (map (λ d. d.name) (map category_name (a.cats ++ (x, v) ∷ [])))) ++ (category_functor_names (seen a))) ++ (on_functor_names (seen a))) (((((((names_of (seen a).site) ++ (seen a).topologies) ++ (functor_names (seen a))) ++ (seen a).maps) ++ (category_names (seen a))) ++ (category_functor_names (seen a))) ++ (on_functor_names (seen a))) (seen a).on_maps (Adds-front x ((((((names_of (seen a).site) ++ (seen a).topologies) ++ (functor_names (seen a))) ++ (seen a).maps) ++ (map (λ d. d.name) (map category_name (a.cats ++ (x, v) ∷ [])))) ++ (category_functor_names (seen a))) ((((((names_of (seen a).site) ++ (seen a).topologies) ++ (functor_names (seen a))) ++ (seen a).maps) ++ (category_names (seen a))) ++ (category_functor_names (seen a))) (on_functor_names (seen a)) (Adds-front x (((((names_of (seen a).site) ++ (seen a).topologies) ++ (functor_names (seen a))) ++ (seen a).maps) ++ (map (λ d. d.name) (map category_name (a.cats ++ (x, v) ∷ [])))) (((((names_of (seen a).site) ++ (seen a).topologies) ++ (functor_names (seen a))) ++ (seen a).maps) ++ (category_names (seen a))) (category_functor_names (seen a)) (Adds-back x ((((names_of (seen a).site) ++ (seen a).topologies) ++ (functor_names (seen a))) ++ (seen a).maps) (map (λ d. d.name) (map category_name (a.cats ++ (x, v) ∷ []))) (category_names (seen a)) (λ y. ap (has y) (names_more category_name (λ d. d.name) v refl a.cats) ∙ Adds-last x (category_names (seen a)) y))))) h

  pub category_functor_declared : (v : ℕ) → IsScope a → IsScope (record a { known = a.known ++ x ∷ []; cat_functors = a.cat_functors ++ (x, v) ∷ [] })
  unfolding known
  category_functor_declared v h = stays (record a { known = a.known ++ x ∷ []; cat_functors = a.cat_functors ++ (x, v) ∷ [] }) refl (Adds-front x (((((((names_of (seen a).site) ++ (seen a).topologies) ++ (functor_names (seen a))) ++ (seen a).maps) ++ (category_names (seen a))) ++ (map (λ f. f.0) (a.cat_functors ++ (x, v) ∷ []))) ++ (on_functor_names (seen a))) (((((((names_of (seen a).site) ++ (seen a).topologies) ++ (functor_names (seen a))) ++ (seen a).maps) ++ (category_names (seen a))) ++ (category_functor_names (seen a))) ++ (on_functor_names (seen a))) (seen a).on_maps (Adds-front x ((((((names_of (seen a).site) ++ (seen a).topologies) ++ (functor_names (seen a))) ++ (seen a).maps) ++ (category_names (seen a))) ++ (map (λ f. f.0) (a.cat_functors ++ (x, v) ∷ []))) ((((((names_of (seen a).site) ++ (seen a).topologies) ++ (functor_names (seen a))) ++ (seen a).maps) ++ (category_names (seen a))) ++ (category_functor_names (seen a))) (on_functor_names (seen a)) (Adds-back x (((((names_of (seen a).site) ++ (seen a).topologies) ++ (functor_names (seen a))) ++ (seen a).maps) ++ (category_names (seen a))) (map (λ f. f.0) (a.cat_functors ++ (x, v) ∷ [])) (category_functor_names (seen a)) (λ y. ap (has y) (map-append (λ f. f.0) a.cat_functors ((x, v) ∷ [])) ∙ Adds-last x (category_functor_names (seen a)) y)))) h

  pub on_functor_declared : (v : OnFunctor) → IsScope a → IsScope (record a { known = a.known ++ x ∷ []; on_functors = a.on_functors ++ (x, v) ∷ [] })
  unfolding known
  on_functor_declared v h = stays (record a { known = a.known ++ x ∷ []; on_functors = a.on_functors ++ (x, v) ∷ [] }) refl (Adds-front x (((((((names_of (seen a).site) ++ (seen a).topologies) ++ (functor_names (seen a))) ++ (seen a).maps) ++ (category_names (seen a))) ++ (category_functor_names (seen a))) ++ (map (λ p. p.name) (map on_name (a.on_functors ++ (x, v) ∷ [])))) (((((((names_of (seen a).site) ++ (seen a).topologies) ++ (functor_names (seen a))) ++ (seen a).maps) ++ (category_names (seen a))) ++ (category_functor_names (seen a))) ++ (on_functor_names (seen a))) (seen a).on_maps (Adds-back x ((((((names_of (seen a).site) ++ (seen a).topologies) ++ (functor_names (seen a))) ++ (seen a).maps) ++ (category_names (seen a))) ++ (category_functor_names (seen a))) (map (λ p. p.name) (map on_name (a.on_functors ++ (x, v) ∷ []))) (on_functor_names (seen a)) (λ y. ap (has y) (names_more on_name (λ p. p.name) v refl a.on_functors) ∙ Adds-last x (on_functor_names (seen a)) y))) h

  pub on_map_declared : IsScope a → IsScope (record a { known = a.known ++ x ∷ []; on_maps = a.on_maps ++ x ∷ [] })
  unfolding known
  on_map_declared h = stays (record a { known = a.known ++ x ∷ []; on_maps = a.on_maps ++ x ∷ [] }) refl (Adds-back x (((((((names_of (seen a).site) ++ (seen a).topologies) ++ (functor_names (seen a))) ++ (seen a).maps) ++ (category_names (seen a))) ++ (category_functor_names (seen a))) ++ (on_functor_names (seen a))) (a.on_maps ++ x ∷ []) (seen a).on_maps (Adds-last x a.on_maps)) h
