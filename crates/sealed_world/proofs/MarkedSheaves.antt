-- Marked presheaves stay sheaves when another one is declared.
use Rattle.std.proofs.Common.{◌≡◌, ℕ, Bool, true, false, List, [], ◌∷◌, ◌++◌, get_or, sym, ap, subst, ◌∙◌, arith}
use Rattle.std.proofs.lemmas.Bool.{false≢true}
use Rattle.std.proofs.lemmas.List.{length_push, get_or_append_left}
use Rattle.topos_model.specs.topologies.Cover.{Site}
use Rattle.topos_model.specs.topologies.Sheaves.{sheaf_fault}
use Rattle.topos_model.specs.types.Types.{Presheaf}
use Rattle.sealed_world.specs.SealedWorlds.{AreSheaves}

unmarked : (n : ℕ) → get_or [] n false ≡ true → ⊥
unmarked n e = false≢true e

pub none_marked : (s : Site) (functors : List Presheaf) (marks : List Bool) → marks ≡ [] → AreSheaves s functors marks
none_marked s functors marks none =
    subst (AreSheaves s functors) (sym none) (record { number = λ n e. absurd (unmarked n e); sheaf = λ n e. absurd (unmarked n e) })

pub still_sheaves : (s : Site) (functors : List Presheaf) (X : Presheaf) (all : List Presheaf) (marks : List Bool) → all ≡ functors ++ X ∷ [] → AreSheaves s functors marks → AreSheaves s all marks
still_sheaves s functors X all marks pushed h =
    subst (λ l. AreSheaves s l marks) (sym pushed) (record {
      number = λ n e. let low = h.number n e in omega (arith, low, length_push functors X);
      sheaf = λ n e. ap (sheaf_fault s) (get_or_append_left functors (X ∷ []) (record { sizes = []; along = [] }) n (h.number n e)) ∙ h.sheaf n e;
    })
