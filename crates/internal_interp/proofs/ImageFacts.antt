-- Maps in a known context, as the tables of terms take them.
use Rattle.std.proofs.Common.{◌≡◌, ℕ, ◌<◌, ◌≤◌, List, [], get_or, length, sym, ap, subst, ◌∙◌, arith}
use denote.Hole.Carrier
use Rattle.topos_model.specs.declared.term.Term.TheBlock.{hidden-the_row-Term-0}
use Rattle.topos_model.specs.declared.ty.Ty.{Ty, One, Omega}
use Rattle.topos_model.specs.declared.value.Val.{Val, Star}
use Rattle.topos_model.specs.declared.term.Term.{Term, App, Star as StarTerm}
use Rattle.topos_model.specs.declared.context.MapTy.{MapTy}
use Rattle.topos_model.specs.declared.context.MapTable.{MapTable}
use Rattle.topos_model.specs.formulas.Typing.{ends_of}
use Rattle.topos_model.specs.formulas.Forcing.{World, Assigned, value, meaning, image_of}
use Rattle.functor_store.specs.Faithful.{Stands}
use Rattle.truth_tables.specs.Standing.{tuple_at, IsNumberTable}
use Rattle.term_tables.specs.Parts.{AreMapParts, AreImages}
use Rattle.internal_interp.specs.declared.context.Context.{Context}
use Rattle.internal_interp.specs.declared.interpreter.Interpreter.{Interpreter}
use Rattle.internal_interp.specs.declared.interpreter.Valued.{Valued}
use Rattle.internal_interp.specs.Images.{IsArgument}
use Rattle.internal_interp.proofs.Unbound.{beyond}

abbrev pub no_map : MapTable
no_map = record { ends = record { dom = Omega; cod = Omega }; rows = [] }

module _ (w : World) (maps : List MapTy) (i : Interpreter) (Γ : List Ty) (m : ℕ) (context : Context) (t : Term) (argument : Valued) (h : IsArgument w maps i Γ m context t argument) where
  pub map_parts : m < length i.maps.now → (table : MapTable) → table ≡ get_or i.maps.now m no_map → (sizes : List ℕ) (rows : List (List ℕ)) →
      sizes ≡ get_or context.sizes 0 [] → rows ≡ table.rows → AreMapParts w Γ m (ends_of maps m).dom (ends_of maps m).cod t sizes rows argument.numbers
  map_parts low table is sizes rows e r = record {
    counted = e ∙ h.known.scope.known.counted;
    map_stands = subst (AreImages w m (ends_of maps m).dom (ends_of maps m).cod) (sym (r ∙ ap (λ x. x.rows) is)) (h.known.knows.images m (omega (arith, low, h.known.knows.maps_long)));
    arguments_stand = h.stands.stands;
  }

  pub map_type : m < length i.maps.now → (table : MapTable) → table ≡ get_or i.maps.now m no_map → table.ends.cod ≡ (ends_of maps m).cod
  map_type low table is = ap (λ (x : MapTable). x.ends.cod) is ∙ ap (λ (x : MapTy). x.cod) (h.known.knows.ends m (omega (arith, low, h.known.knows.maps_long)))

  pub unnumbered_type : length i.maps.now ≤ m → One ≡ (ends_of maps m).cod
  unnumbered_type far = ap (λ (x : MapTy). x.cod) (sym (beyond maps m (record { dom = One; cod = One }) (omega (arith, far, h.known.knows.maps_long))))

  pub unnumbered_stands : length i.maps.now ≤ m → (numbers : List (List ℕ)) → IsNumberTable w Γ One (value w StarTerm) numbers → IsNumberTable w Γ (ends_of maps m).cod (value w (App m t)) numbers
  unfolding meaning image_of hidden-the_row-Term-0 Carrier.hidden
  unnumbered_stands far numbers s =
      subst (λ U. IsNumberTable w Γ U (value w (App m t)) numbers) (unnumbered_type far)
      (record {
        over = s.over;
        stands = λ c k low inside.
            let a : Assigned = tuple_at w Γ c k in
            let none : get_or w.maps m [] ≡ [] = beyond w.maps m [] (omega (arith, far, h.known.knows.maps_long, h.known.knows.world_maps)) in
            let same : Star ≡ image_of (value w t c a) (get_or (get_or w.maps m []) c []) = sym (ap (λ (l : List (List (Val × Val))). image_of (value w t c a) (get_or l c [])) none) in
            subst (Stands w.site w.functors One c (get_or (get_or numbers c []) k 0)) same (s.stands c k low inside);
      })
