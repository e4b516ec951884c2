-- The first failing instance of a law.
use Rattle.std.specs.Prelude.{not, eqb, Option}
use Rattle.std.specs.List.{range_with_len}
use Rattle.topos_model.specs.declared.fault.Fault.{Fault}
use Rattle.topos_model.specs.declared.fault.Fault.TheVariants.{NotAssociative, NotFunctorial}
use Rattle.topos_model.specs.categories.Category.{Category, into, dom, cod, compose, arrows}
use Rattle.topos_model.specs.types.Types.{Presheaf}
use Rattle.topos_model.specs.Laws.{act, size}
use Rattle.finite_lists.specs.First.{first, some_if}

-- the first (h, g, f) with h.(g.f) other than (h.g).f
unfoldable pub associativity_fault : Category → Option Fault
associativity_fault k =
    first (λ h. first (λ g. first (λ f.
    some_if (not (eqb (compose k h (compose k g f)) (compose k (compose k h g) f))) (NotAssociative h g f))
    (into k (dom k g))) (into k (dom k h))) (arrows k)

-- the first (g, f, x) with (x.g).f other than x.(g.f)
unfoldable pub functoriality_fault : Category → Presheaf → Option Fault
functoriality_fault k X =
    first (λ g. first (λ f. first (λ x.
    some_if (not (eqb (act X f (act X g x)) (act X (compose k g f) x))) (NotFunctorial g f x))
    (range_with_len 0 (size X (cod k g)))) (into k (dom k g))) (arrows k)
