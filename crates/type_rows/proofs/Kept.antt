-- A store stays faithful where a type is sealed or a fault leaves it as it was.
use Rattle.std.proofs.Common.{◌≡◌, List, Result, Ok, Err, sym, subst}
use Rattle.std.specs.Prelude.{OnOk, OnErr}
use Rattle.topos_model.specs.topologies.Cover.{Site}
use Rattle.topos_model.specs.types.Types.{Presheaf}
use Rattle.functor_store.specs.Store.{Store}
use Rattle.functor_store.specs.Faithful.{IsFaithful}

pub kept_faithful : {A E : Type 0} (r : Result A E) (s : Site) (functors : List Presheaf) (old new : Store) → OnOk r (IsFaithful s functors new) → OnErr r (new ≡ old) → IsFaithful s functors old → IsFaithful s functors new
kept_faithful (Ok x) s functors old new f e h = f
kept_faithful (Err x) s functors old new f e h = subst (IsFaithful s functors) (sym e) h
