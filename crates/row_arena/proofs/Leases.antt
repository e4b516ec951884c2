-- What a `Lease` owns is taken apart and made. Assumes `Logic`.
use mathlib.Core.Path.{◌≡◌, refl, ◌∙◌}
use Prim.Native.Nat.{ℕ, ◌<◌, ◌^◌}
use mathlib.Core.List.{List, [], ◌∷◌, ◌++◌}
use seplogic.Ra.Ura.{Ura}
use mir.Syntax.{w64}
use mir.Val.{Val, vint, vptr, vstruct, vnil, of_list}
use types.Logic.{Logic}
use types.Kit.{Goal, Step, step, Seq, Item, ‵, ◌$◌, drop, fsplit, fjoin, fpick, feq_l}
use denote.RattleType.{RattleType}
use denote.RawPtr.{block_ptr}
use denote.Shadow.{pure_i}
use denote.Struct.Struct.{Struct}
use denote.Struct.Owning.{shape}
use Rattle.core.proofs.mem.Param.{El, R}
use Rattle.core.proofs.alloc.Calls.{Al, token}
use Rattle.core.proofs.slots.Leases.{lease_val, block_ty, P}
use Rattle.row_arena.specs.contracts.cells.Lease as L

module _ (E : El) (Z : Al) where
  abbrev pub Lr : RattleType
  Lr = L.the_row (R E) (P E Z) Z.g

  abbrev pub made : Z.row.Denot → ℕ → ℕ → ℕ → Lr.Denot
  made a b o n = record { ptr = block_ptr b o; len = n; by = record {}; alloc = a }

module _ (E : El) (Z : Al) {M : Type 1} {𝓤 : Ura M} {𝓛 : Logic 𝓤} {K : Type 0} {Γ : List (Item 𝓤)} {G : Goal 𝓤 𝓛.H} where
  pub lease_had : K → (d : (Lr E Z).Denot) (vs : List Val)
      → (vs ≡ lease_val d.ptr d.len ∷ [] → Seq K 𝓛 (‵ (token Z d.alloc (block_ty E d.len) d.ptr) ∷ Γ) G) → Seq K 𝓛 (‵ ((Lr E Z).own_val d vs) ∷ Γ) G
  lease_had t d vs k =
      fsplit t $ fpick t (λ vss. fsplit t $ feq_l t (λ all. fsplit t $ feq_l t (λ e₀. fsplit t $ fsplit t $ feq_l t (λ e₁. drop t $ fsplit t $ fpick t (λ none. fsplit t $ feq_l t (λ e₂. drop t $ drop t $
      k (all ∙ (λ i. vstruct (of_list (e₀ i ++ (e₁ i ++ (e₂ i ++ [])))) ∷ []))))))))

  pub lease_made : K → (a : Z.row.Denot) (b o n : ℕ) → n < 2 ^ 64
      → Step K 𝓛 (‵ ((Lr E Z).own_val (made E Z a b o n) (lease_val (block_ptr b o) n ∷ [])) ∷ Γ) G (‵ (token Z a (block_ty E n) (block_ptr b o)) ∷ Γ) G
  lease_made t a b o n fn = step (λ s.
      pure_i t ((Struct (shape (L.the_type (R E) (P E Z) Z.g))).own_val (block_ptr b o, (n, (tt, tt))) (lease_val (block_ptr b o) n ∷ [])) (λ vss. (tt, (tt, ((tt, tt), ((λ uss. (tt, tt)), tt)))))
      ((vptr b o ∷ [], (vint w64 n ∷ [], (vstruct vnil ∷ [], tt))), (refl, (refl, ((refl, fn), ((tt, (refl, tt)), tt))))) $ fjoin t $ s)
