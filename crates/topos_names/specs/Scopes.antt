-- What contracts see of a scope.
use Rattle.std.specs.Prelude.{◌≡◌, List, map, bytes_eq, Option}
use Rattle.std.specs.List.{list_any}
use Rattle.topos_model.specs.declared.doc.FunctorName.{FunctorName}
use Rattle.topos_model.specs.declared.doc.CatDecl.{CatDecl}
use Rattle.topos_model.specs.declared.doc.OnName.{OnName}
use Rattle.topos_text.specs.Names.{Name, Scope, known}
use Rattle.topos_text.specs.SiteNames.{raw_category}
use Rattle.topos_names.specs.Spaces.{space_of}
use Rattle.topos_names.specs.declared.space.Space.{Space}
use Rattle.topos_names.specs.declared.scope.OnFunctor.{OnFunctor}
use Rattle.topos_names.specs.declared.scope.Scope.TheInside.{Inside}

abbrev pub functor_name : Name × Option (List (List Name)) → FunctorName
functor_name e = record { name = e.0; elements = e.1 }

abbrev pub category_name : Name × Space → CatDecl
category_name e = record { name = e.0; objects = e.1.objects; arrows = e.1.arrows; cat = raw_category (space_of e.1) }

abbrev pub on_name : Name × OnFunctor → OnName
on_name e = record { name = e.0; cat = e.1.cat; elements = e.1.elements }

abbrev pub seen : Inside → Scope
seen a = record {
  site = space_of a.site;
  topologies = a.topologies;
  functors = map functor_name a.functors;
  maps = a.maps;
  cats = map category_name a.cats;
  cat_functors = a.cat_functors;
  on_functors = map on_name a.on_functors;
  on_maps = a.on_maps;
}

-- a name is among those that are kept together if it is known
pub record IsScope (a : Inside) : Type 0 where
  pub kept : (x : Name) → list_any (λ y. bytes_eq y x) a.known ≡ list_any (λ y. bytes_eq y x) (known (seen a))
