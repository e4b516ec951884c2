-- What is known once functors and maps are declared.
use Rattle.std.proofs.Common.{◌≡◌, Bool, true, false, ◌||◌, List, [], ◌∷◌, ◌++◌, bytes_eq, Option, None, Some, refl, sym, ap, ◌∙◌, append_assoc}
use Rattle.std.proofs.lemmas.List.{map-append}
use Rattle.topos_model.specs.declared.fault.Fault.{Fault}
use Rattle.topos_text.specs.Tokens.{Written}
use Rattle.topos_text.specs.Names.{Name, Scope, known, names_of, functor_names, category_names, category_functor_names, on_functor_names, with_functor, with_maps, twice_fault, new_fault}
use Rattle.topos_text.specs.StatementNames.{made}
use Rattle.topos_names.proofs.ScopeNames.{has, Adds, Adds-last, Adds-front, Adds-back, twice_fault-same}

or_swap : (a b : Bool) → (a || b) ≡ (b || a)
or_swap true true = refl
or_swap true false = refl
or_swap false true = refl
or_swap false false = refl

-- names with one more
same_more : (x : Name) (more all rest : List Name) (y : Written) → Adds x more all → has y.text all ≡ has y.text rest → twice_fault more y ≡ twice_fault (x ∷ rest) y
same_more x more all rest y adds same = twice_fault-same more (x ∷ rest) y (adds y.text ∙ or_swap (has y.text all) (bytes_eq x y.text) ∙ ap (λ b. bytes_eq x y.text || b) same)

-- names once a map is declared
map_known : (s : Scope) (m : Written) → Adds m.text (known (with_maps s (m ∷ []))) (known s)
unfolding known
map_known s m = Adds-front m.text (((((((names_of s.site) ++ s.topologies) ++ (functor_names s)) ++ (s.maps ++ m.text ∷ [])) ++ (category_names s)) ++ (category_functor_names s)) ++ (on_functor_names s)) (((((((names_of s.site) ++ s.topologies) ++ (functor_names s)) ++ s.maps) ++ (category_names s)) ++ (category_functor_names s)) ++ (on_functor_names s)) s.on_maps (Adds-front m.text ((((((names_of s.site) ++ s.topologies) ++ (functor_names s)) ++ (s.maps ++ m.text ∷ [])) ++ (category_names s)) ++ (category_functor_names s)) ((((((names_of s.site) ++ s.topologies) ++ (functor_names s)) ++ s.maps) ++ (category_names s)) ++ (category_functor_names s)) (on_functor_names s) (Adds-front m.text (((((names_of s.site) ++ s.topologies) ++ (functor_names s)) ++ (s.maps ++ m.text ∷ [])) ++ (category_names s)) (((((names_of s.site) ++ s.topologies) ++ (functor_names s)) ++ s.maps) ++ (category_names s)) (category_functor_names s) (Adds-front m.text ((((names_of s.site) ++ s.topologies) ++ (functor_names s)) ++ (s.maps ++ m.text ∷ [])) ((((names_of s.site) ++ s.topologies) ++ (functor_names s)) ++ s.maps) (category_names s) (Adds-back m.text (((names_of s.site) ++ s.topologies) ++ (functor_names s)) (s.maps ++ m.text ∷ []) s.maps (Adds-last m.text s.maps)))))

module _ (s : Scope) where
  functor_known : (z : Written) (e : Option (List (List Name))) → Adds z.text (known (with_functor s z e)) (known s)
  unfolding known
  functor_known z e = Adds-front z.text (((((((names_of s.site) ++ s.topologies) ++ (functor_names (with_functor s z e))) ++ s.maps) ++ (category_names s)) ++ (category_functor_names s)) ++ (on_functor_names s)) (((((((names_of s.site) ++ s.topologies) ++ (functor_names s)) ++ s.maps) ++ (category_names s)) ++ (category_functor_names s)) ++ (on_functor_names s)) s.on_maps (Adds-front z.text ((((((names_of s.site) ++ s.topologies) ++ (functor_names (with_functor s z e))) ++ s.maps) ++ (category_names s)) ++ (category_functor_names s)) ((((((names_of s.site) ++ s.topologies) ++ (functor_names s)) ++ s.maps) ++ (category_names s)) ++ (category_functor_names s)) (on_functor_names s) (Adds-front z.text (((((names_of s.site) ++ s.topologies) ++ (functor_names (with_functor s z e))) ++ s.maps) ++ (category_names s)) (((((names_of s.site) ++ s.topologies) ++ (functor_names s)) ++ s.maps) ++ (category_names s)) (category_functor_names s) (Adds-front z.text ((((names_of s.site) ++ s.topologies) ++ (functor_names (with_functor s z e))) ++ s.maps) ((((names_of s.site) ++ s.topologies) ++ (functor_names s)) ++ s.maps) (category_names s) (Adds-front z.text (((names_of s.site) ++ s.topologies) ++ (functor_names (with_functor s z e))) (((names_of s.site) ++ s.topologies) ++ (functor_names s)) s.maps (Adds-back z.text ((names_of s.site) ++ s.topologies) (functor_names (with_functor s z e)) (functor_names s) (λ y. ap (has y) (map-append (λ f. f.name) s.functors (record { name = z.text; elements = e } ∷ [])) ∙ Adds-last z.text (functor_names s) y))))))

  -- a functor without maps, with one, and with two
  pub declared : (z : Written) → twice_fault (known s) z ≡ None → new_fault (known s) (z ∷ []) ≡ None
  unfolding new_fault
  declared z p = rw p

  pub not_declared : (z : Written) (zs : List Written) (fault : Fault) → twice_fault (known s) z ≡ Some fault → new_fault (known s) (z ∷ zs) ≡ Some fault
  unfolding new_fault
  not_declared z zs fault p = rw p

  module _ (z p : Written) (new : twice_fault (known s) z ≡ None) where
    second : twice_fault (known (with_functor s z None)) p ≡ twice_fault (z.text ∷ known s) p
    second = same_more z.text (known (with_functor s z None)) (known s) (known s) p (functor_known z None) refl

    pub map_not_declared : (zs : List Written) (fault : Fault) → twice_fault (known (with_functor s z None)) p ≡ Some fault → new_fault (known s) (z ∷ p ∷ zs) ≡ Some fault
    unfolding new_fault
    map_not_declared zs fault e = rw (new, sym second ∙ e)

    pub map_declared : twice_fault (known (with_functor s z None)) p ≡ None → new_fault (known s) (z ∷ p ∷ []) ≡ None
    unfolding new_fault
    map_declared e = rw (new, sym second ∙ e)

    module _ (q : Written) (first : twice_fault (known (with_functor s z None)) p ≡ None) where
      third : twice_fault (known (with_maps (with_functor s z None) (p ∷ []))) q ≡ twice_fault (p.text ∷ z.text ∷ known s) q
      third = same_more p.text (known (with_maps (with_functor s z None) (p ∷ []))) (known (with_functor s z None)) (z.text ∷ known s) q (map_known (with_functor s z None) p) (functor_known z None q.text ∙ or_swap (has q.text (known s)) (bytes_eq z.text q.text))

      pub maps_not_declared : (fault : Fault) → twice_fault (known (with_maps (with_functor s z None) (p ∷ []))) q ≡ Some fault → new_fault (known s) (z ∷ p ∷ q ∷ []) ≡ Some fault
      unfolding new_fault
      maps_not_declared fault e = rw (new, sym second ∙ first, sym third ∙ e)

      pub maps_declared : twice_fault (known (with_maps (with_functor s z None) (p ∷ []))) q ≡ None → new_fault (known s) (z ∷ p ∷ q ∷ []) ≡ None
      unfolding new_fault
      maps_declared e = rw (new, sym second ∙ first, sym third ∙ e)

      pub made_two : with_maps (with_maps (with_functor s z None) (p ∷ [])) (q ∷ []) ≡ made s z (p ∷ q ∷ [])
      made_two = ap (λ ms. record (with_functor s z None) { maps = ms }) (append_assoc s.maps (p.text ∷ []) (q.text ∷ []))
