use Rattle.std.proofs.Common.{◌≡◌, ◌<◌, ◌≤◌, ℕ, List, inr, length, Option, None, Err, refl, sym, ap, subst, ◌∙◌, arith}
use Rattle.std.specs.Prelude.{MatchOption}
use Rattle.topos_model.specs.declared.ty.Ty.{Omega}
use Rattle.topos_model.specs.topologies.Cover.{Site}
use Rattle.topos_model.specs.types.Types.{Presheaf}
use Rattle.topos_model.specs.statements.Cells.{cells_of}
use Rattle.functor_store.specs.declared.fault.StoreFault.{StoreFault}
use Rattle.functor_store.specs.declared.fault.StoreFault.TheVariants.{Over, NoMemory}
use Rattle.functor_store.specs.Store.{Store, cells, cost, functor_at, IsFreeKey}
use Rattle.functor_store.specs.Faithful.{HasElements, IsFaithful}
use Rattle.functor_store.proofs.Costs.{cost_is}
use Rattle.sealed_functors.specs.declared.rows.ElementRows.{ElementRows}
use Rattle.sealed_functors.specs.Rows.{functor_from, rows_at, IsOverExactly}
use Rattle.omega_object.specs.declared.omega.Omega.{Omega as Values}
use Rattle.omega_object.specs.Tables.{IsOmegaOn, sieve_cells, AreSieveRows}
use Rattle.omega_object.proofs.SealedSieves.{few_objects, cells_are, cost_within, sieve_elements, sieves_shaped, sieves_faithful}
use Rattle.omega_object.proofs.omega.Omega.need.Goals as goal

-- a sealed type costs no more than the store
held_cells : (s : Site) (functors : List Presheaf) (store : Store) (id : ℕ) → IsFaithful s functors store → id < length store.sealed → (functor_at store.sealed id).key ≡ Omega → sieve_cells s ≤ cells store
unfolding cells
held_cells s functors store id h low key =
    let held : HasElements s functors Omega (functor_at store.sealed id) = subst (λ T. HasElements s functors T (functor_at store.sealed id)) key (h.held id low) in
    let e : cost store.ends (functor_at store.sealed id) ≡ sieve_cells s = ap (λ ends. cost ends (functor_at store.sealed id)) h.ends ∙ cost_is s functors Omega (functor_at store.sealed id) held ∙ cells_are s functors in
    omega (arith, e, cost_within store.ends store.sealed id low)

abbrev Made : Site → ℕ → Option Values → Type 0
Made s room o = MatchOption o (room < sieve_cells s) (λ values. IsOmegaOn s values × (sieve_cells s ≤ room))

pub unreachable-requires : goal.unreachable-requires
unreachable-requires c =
    let s = c.args.site.now in
    let store = c.args.store.now in
    let found = subst (λ (o : Option ℕ). MatchOption o (IsFreeKey store.sealed Omega) (λ id. (id < length store.sealed) × ((functor_at store.sealed id).key ≡ Omega))) c.in-Some.is c.find.ensures.place in
    let over : c.cells.result < sieve_cells s = subst (Made s c.cells.result) c.in-None-2.is c.in_ok-values-in-Some.ensures in
    omega (arith, over, c.cells.ensures.cells, held_cells s c.requires.faithful.0 store _ c.requires.faithful.1 found.0 found.1)

pub seal_rows-requires-clause-few : goal.seal_rows-requires-clause-few
seal_rows-requires-clause-few c =
    let s = c.args.site.now in
    let made = subst (Made s c.room-room.result) c.in-Some-3.is c.in_ok-omega_within-in-None.ensures in
    let few = made.0.few in
    omega (arith, ap length c.as_slice.ensures, c.in_ok-rows-in-Some-3.ensures.objects, few_objects s.category made.0.category, few)

pub seal_rows-requires-clause-shaped : goal.seal_rows-requires-clause-shaped
seal_rows-requires-clause-shaped c =
    let s = c.args.site.now in
    let made = subst (Made s c.room-room.result) c.in-Some-3.is c.in_ok-omega_within-in-None.ensures in
    let at = c.as_slice.result.now in
    let long : length at ≡ s.category.objects = ap length c.as_slice.ensures ∙ c.in_ok-rows-in-Some-3.ensures.objects in
    let rows : (x : ℕ) → x < s.category.objects → AreSieveRows s x (rows_at at x) = λ x low. subst (λ (l : List ElementRows). AreSieveRows s x (rows_at l x)) (sym c.as_slice.ensures) (c.in_ok-rows-in-Some-3.ensures.rows x low) in
    sieves_shaped s made.0.category at long rows c.args.store.now.ends c.requires.faithful.1.ends

free_key : (store : Store) (o : Option ℕ) → o ≡ None → MatchOption o (IsFreeKey store.sealed Omega) (λ id. (id < length store.sealed) × ((functor_at store.sealed id).key ≡ Omega)) → IsFreeKey store.sealed Omega
free_key store o e h = subst (λ (o : Option ℕ). MatchOption o (IsFreeKey store.sealed Omega) (λ id. (id < length store.sealed) × ((functor_at store.sealed id).key ≡ Omega))) e h

pub returns-in-None-3-clause-over : goal.returns-in-None-3-clause-over
returns-in-None-3-clause-over c = λ functors.
    let s = c.args.site.now in
    let store = c.args.store.now in
    let over : c.room-room.result < sieve_cells s = subst (Made s c.room-room.result) c.in-None-3.is c.in_ok-omega_within-in-None.ensures in
    (free_key store c.find.result c.in-None.is c.find.ensures.place, omega (arith, over, c.room-room.ensures.room, cells_are s functors))

pub returns-in-Ok-clause-needed : goal.returns-in-Ok-clause-needed
unfolding functor_from
returns-in-Ok-clause-needed c =
    let store = c.args.store.now in
    inr (free_key store c.find.result c.in-None.is c.find.ensures.place, (functor_from Omega c.as_slice.result.now, refl, c.in-Ok.ensures.ok))

pub returns-in-Ok-clause-faithful : goal.returns-in-Ok-clause-faithful
returns-in-Ok-clause-faithful c = λ functors h.
    let s = c.args.site.now in
    let made = subst (Made s c.room-room.result) c.in-Some-3.is c.in_ok-omega_within-in-None.ensures in
    let at = c.as_slice.result.now in
    let long : length at ≡ s.category.objects = ap length c.as_slice.ensures ∙ c.in_ok-rows-in-Some-3.ensures.objects in
    let rows : (x : ℕ) → x < s.category.objects → AreSieveRows s x (rows_at at x) = λ x low. subst (λ (l : List ElementRows). AreSieveRows s x (rows_at l x)) (sym c.as_slice.ensures) (c.in_ok-rows-in-Some-3.ensures.rows x low) in
    subst (λ (t : Store). IsFaithful s functors t) (sym c.in-Ok.ensures.ok) (sieves_faithful s made.0.category at long rows functors c.args.store.now h)

pub returns-in-Ok-clause-over : goal.returns-in-Ok-clause-over
returns-in-Ok-clause-over c = λ functors over.
    let s = c.args.site.now in
    let made = subst (Made s c.room-room.result) c.in-Some-3.is c.in_ok-omega_within-in-None.ensures in
    let w = made.1 in
    let o = over.1 in
    omega (arith, w, o, c.room-room.ensures.room, cells_are s functors)

over_new : (fault : StoreFault) (P Q : Type 0) → IsOverExactly {A = ℕ} (Err fault) P → (P → Q) → IsOverExactly {A = Values} (Err fault) Q
over_new Over P Q h f = f h
over_new NoMemory P Q h f = tt

pub returns-in-Err-clause-over : goal.returns-in-Err-clause-over
returns-in-Err-clause-over c = λ functors.
    let s = c.args.site.now in
    let store = c.args.store.now in
    let made = subst (Made s c.room-room.result) c.in-Some-3.is c.in_ok-omega_within-in-None.ensures in
    let at = c.as_slice.result.now in
    let long : length at ≡ s.category.objects = ap length c.as_slice.ensures ∙ c.in_ok-rows-in-Some-3.ensures.objects in
    let rows : (x : ℕ) → x < s.category.objects → AreSieveRows s x (rows_at at x) = λ x low. subst (λ (l : List ElementRows). AreSieveRows s x (rows_at l x)) (sym c.as_slice.ensures) (c.in_ok-rows-in-Some-3.ensures.rows x low) in
    let e : cost store.ends (functor_from Omega at) ≡ cells_of s functors Omega =
    ap (λ ends. cost ends (functor_from Omega at)) c.requires.faithful.1.ends ∙ cost_is s functors Omega (functor_from Omega at) (sieve_elements s made.0.category at long rows functors) in
    over_new c.in-Err.fault _ _ c.in-Err.ensures.over (λ over. (free_key store c.find.result c.in-None.is c.find.ensures.place, omega (arith, over, e)))
