-- `lend` hands on the `&`s to the values of a run that a `&` to the row holds. Assumes `Logic`.
use mathlib.Core.Path.{◌≡◌, refl, sym, ap, subst, ◌∙◌}
use Prim.Native.Nat.{ℕ, ◌+◌, ◌*◌, ◌≤◌, ◌<◌, ◌^◌}
use native.Mathlib.Omega.{arith}
use mathlib.Core.List.{List, [], ◌∷◌}
use lib.ListN.{length, take, drop as drop_l, length-drop}
use lib.Seq.{length-take-le}
use mir.Syntax.{Fn, w64, named}
use mir.Val.{Val, vint, vptr}
use base.Fml.{ftrue, flt, flft}
use seplogic.Ra.Ura.{Ura}
use mir.MapTy.{inst_fn}
use base.Logic.{SProp, ent, id⊢}
use prog.Memory.{Memory}
use prog.Routine.{Routine}
use prog.Wp.{WpFn, Tables}
use types.Logic.{Logic}
use contract.BorrowLft.{◌⊑◌}
use contract.Monad.{Fun, fact}
use contract.Running.{tables, tables_of}
use denote.RattleType.{owns}
use denote.Signature.{plain, types_at}
use denote.Steps.{heard, nothing}
use denote.Triple.Clauses.{Clauses, Ended, closing}
use denote.Triple.Spec.{Meets, triple_of}
use denote.Triple.Table.{entered}
use sound.WpLaws.{WpFn-mono}
use types.Kit.{‵, raw, ◌⊛◌, ◌$◌, ◌∵◌, !, qed, move, keep, use1, drop, split, split3, join, fsplit, fjoin, feq_i, flt_i, flt_l, suffices, done}
use types.Part.{agg}
use types.Run.{no_more, and_then, size_lit, bin, returns, enter}
use types.ByLocal.{alloc_all, pass_all, free_all, look_at, get, sets}
use denote.Exit.{yes}
use denote.Builtin.{usize, RefOf}
use denote.Memory.{hidden_shr}
use denote.Plain.{uint_vals, uint_Tells}
use denote.RawPtr.{Ptr, RawPtr, ptr_val, in_a_block, rawptr_vals, rawptr_Tells}
use denote.Slice.{slice_val, elements_shared}
use denote.Ref.{shr_vals, shr_Tells}
use denote.Triple.Walked.{says, Stays, stay_dropped, walk_of, ends_at, walked, Goes-dropped, walk_Meets}
use Rattle.core.proofs.mem.Param.{El, R, args, el_x}
use Rattle.core.proofs.ptr.Rows.{times_below, one_below}
use Rattle.core.specs.Mem.Slots.Ownership.{slots_lent, Filled}
use Rattle.core.proofs.slots.Places.{sz}
use Rattle.core.proofs.slots.Opens.{Sr, el_d}
use Rattle.core.proofs.slots.Lent.{shown, none_at_null}
use Rattle.row_arena.proofs.Runs.{run_lent}
use Rattle.row_arena.specs.contracts.cells.lend as F
use Rattle.row_arena.specs.contracts.cells.lend.Key.{name as #self}
use Rattle.row_arena.proofs.cells.lend.Statement as stated
use Rattle.row_arena.proofs.cells.lend.Code as code

length-run : {X : Type 0} (n i : ℕ) (xs : List X) → i + n ≤ length xs → length (take n (drop_l i xs)) ≡ n
length-run n i xs l = let d = length-drop i xs in length-take-le n (drop_l i xs) (omega (arith, d, l))

module _ (E : El) where
  abbrev here : Fn
  here = inst_fn (args E) code.function

  abbrev ended : Ended
  ended = F.ended E.row

  abbrev stayed : Stays ended.signature.params ended.kept
  stayed = (stay_dropped (RefOf (0 ∷ []) tt (plain (λ _. Sr E)) (λ _. tt)) yes, (stay_dropped (plain (λ _. RawPtr)) yes, (stay_dropped (plain (λ _. usize)) yes, (stay_dropped (plain (λ _. usize)) yes, tt))))

  module _ {M : Type 1} {𝓤 : Ura M} (𝓛 : Logic 𝓤) (at_mem : Memory → SProp 𝓤) (run : Routine → Fun 𝓤) (𝓣 : Tables 𝓤 𝓛.H) where
    open 𝓛 use {H}

    abbrev held : Clauses 𝓤 ended
    held = F.clauses E.row 𝓛 at_mem run

    abbrev Bound : Type 0
    Bound = (walk_of 𝓛 ended stayed held).Ghost

    abbrev Goes : Bound → Type 1
    Goes y = ent 𝓤 ((walk_of 𝓛 ended stayed held).pre y) (WpFn 𝓤 H 𝓣.C 𝓣.Λ here ((walk_of 𝓛 ended stayed held).args y) ((walk_of 𝓛 ended stayed held).post y))

    abbrev spelled : Bound → Bound
    spelled z = ((z.0.0, z.0.1, z.0.2, z.0.3, (shr_vals z.0.3.0, (rawptr_vals z.0.3.1.0, (uint_vals w64 z.0.3.1.1.0, (uint_vals w64 z.0.3.1.1.1.0, tt))))), z.1)

    walk : (z : Bound) → z.0.3.1.1.0 < 2 ^ 64 → z.0.3.1.1.1.0 < 2 ^ 64 → Goes (spelled z)
    walk z fi fl =
        let κ = z.0.0.0 in let κ₁ = z.0.0.1.0 in let q = z.0.1.0 in let q₁ = z.0.1.1.0 in
        let rb : ℕ = z.0.3.0.ref_ptr.0 in let ro : ℕ = z.0.3.0.ref_ptr.1 in let h : el_d E = z.0.3.0.now in let p : Ptr = z.0.3.1.0 in let i : ℕ = z.0.3.1.1.0 in let n : ℕ = z.0.3.1.1.1.0 in
        let Post : Val → SProp 𝓤 = (walk_of 𝓛 ended stayed held).post (spelled z) in
        let Ok : Type 0 = (0 < n) × (i + n ≤ h.len) × (p ≡ h.ptr) × Filled h.filled i (i + n) in
        let s : ℕ = sz E in
        let lx : h.len ≡ length h.items = h.ok.0 in let lf : h.len ≡ length h.filled = h.ok.1 in
        let xs : List (el_x E) = take n (drop_l i h.items) in
        qed 𝓛 (((‵ (flft κ q) ⊛ ‵ (flft κ₁ q₁) ⊛ ‵ ftrue) ⊛ ‵ (owns (types_at ended.signature.params z.0.0) z.0.3 (spelled z).0.4)) ∷ (raw (fact 𝓤 (κ₁ ⊑ E.row.lives)) ⊛ raw (fact 𝓤 Ok)) ∷ []) ∵
        move ! (1 ∷ []) $ split ! $ drop ! $ heard ! Ok (λ ok.
        let lo : 0 < n = ok.0 in let hi : i + n ≤ h.len = ok.1 in let li : i < h.len = omega arith in let ix : i < length h.items = omega arith in let fx : i < length h.filled = omega arith in
        let long : length xs ≡ n = length-run n i h.items (omega arith) in
        split ! $ split ! $ move ! (2 ∷ []) $ fsplit ! $ fsplit ! $ drop ! $
        use1 𝓛 (‵ (hidden_shr RawPtr κ h.ptr rb (ro + 0)) ⊛ ‵ (hidden_shr usize κ h.len rb (ro + 8)) ⊛ ‵ (flt (h.len * s) (2 ^ 63)) ⊛ ‵ (slots_lent (R E) h.ptr h.items h.filled κ)) (shown E 𝓛 κ h rb ro) $
        split3 ! $ move ! (2 ∷ []) $ split ! $ flt_l ! (λ fit.
        let small : s < 2 ^ 63 = one_below h.len s (2 ^ 63) (omega arith) fit in let tiny : s < 2 ^ 64 = omega arith in
        let part : i * s < 2 ^ 63 = times_below i h.len s (2 ^ 63) (omega arith) fit in let fm : i * s < 2 ^ 64 = omega arith in
        in_a_block ! h.ptr (λ r. slots_lent (R E) r h.items h.filled κ) (none_at_null E 𝓛 κ h.items h.filled i ix fx (ok.3 i (omega arith) (omega arith))) (λ b o at_b.
        use1 𝓛 (‵ (elements_shared (R E) xs b (i * s + o) κ)) (run_lent E 𝓛 κ b o h.items h.filled i n (omega arith) (omega arith) ok.3) $ keep ! (4 ∷ 5 ∷ 0 ∷ []) $
        let us : List Val = vptr rb ro ∷ vptr b o ∷ vint w64 i ∷ vint w64 n ∷ [] in
        let Run : List Val → SProp 𝓤 = λ ws. WpFn 𝓤 H 𝓣.C 𝓣.Λ here ws Post in
        suffices ! (Run us) (subst (λ (r : Ptr). ent 𝓤 (Run us) (Run (vptr rb ro ∷ ptr_val r ∷ vint w64 i ∷ vint w64 n ∷ []))) (sym (ok.2 ∙ at_b)) (id⊢ 𝓤 (Run us))) $
        enter ! 𝓣.C 𝓣.Λ here us _ $ alloc_all ! (λ l. pass_all ! refl ((tt, tt), ((tt, tt), ((tt, record { fits = fi }), ((tt, record { fits = fl }), tt)))) $
        sets ! (bin ! (get ! refl) (size_lit ! (record { fits = tiny })) (record { fits = fm })) refl (tt, record { fits = fm }) $
        sets ! (bin ! (get ! refl) (get ! refl) tt) refl (tt, tt) $
        sets ! (agg ! (and_then ! (get ! refl) (and_then ! (get ! refl) (no_more !)))) refl (tt, (tt, (record { fits = fl }, tt))) $
        returns ! (look_at ! 0 refl) $ free_all ! refl $
        suffices ! _ (ends_at 𝓛 ended stayed held (spelled z) (slice_val (b, i * s + o) n) (record { ref_ptr = (b, i * s + o); now = xs }) (tt, (tt, (tt, (tt, tt)))) (tt, (tt, (tt, (tt, tt))))) $ says ! refl $
        join ! $ move ! (1 ∷ []) $
        flt_i ! (length xs * s) (2 ^ 63) (subst (λ (k : ℕ). k * s < 2 ^ 63) (sym long) (times_below n h.len s (2 ^ 63) (omega arith) fit)) $ flt_i ! (length xs) (2 ^ 64) (subst (λ (k : ℕ). k < 2 ^ 64) (sym long) fl) $ fjoin ! $
        feq_i ! (List Val) (slice_val (b, i * s + o) n ∷ []) (slice_val (b, i * s + o) (length xs) ∷ []) (ap (λ (k : ℕ). slice_val (b, i * s + o) k ∷ []) (sym long)) $ fjoin ! $ fjoin ! $
        nothing ! $ nothing ! $ fjoin ! $ nothing ! $ fjoin ! $ nothing ! $ fjoin ! $ nothing ! $ fjoin ! $ keep ! (2 ∷ 0 ∷ 1 ∷ []) $ done !))))

    meets : Meets 𝓛 ended.signature (WpFn 𝓤 H 𝓣.C 𝓣.Λ here) (closing 𝓛 ended held)
    meets =
        walk_Meets 𝓛 ended stayed (
          Goes-dropped 𝓛 2 (RefOf (0 ∷ []) tt (plain (λ _. Sr E)) (λ _. tt)) yes (λ κs x f. refl),
          (Goes-dropped 𝓛 2 (plain (λ _. RawPtr)) yes (λ κs x f. refl), (Goes-dropped 𝓛 2 (plain (λ _. usize)) yes (λ κs x f. refl), (Goes-dropped 𝓛 2 (plain (λ _. usize)) yes (λ κs x f. refl), tt))),
        ) held
        (WpFn 𝓤 H 𝓣.C 𝓣.Λ here) (WpFn-mono 𝓤 H 𝓛.laws 𝓣 here)
        (walked 𝓛 ended stayed held (WpFn 𝓤 H 𝓣.C 𝓣.Λ here) (λ κs. (shr_vals, (rawptr_vals, (uint_vals w64, (uint_vals w64, tt))))) (λ κs. (shr_Tells (named 0) κs.0 (Sr E), (rawptr_Tells, (uint_Tells w64, (uint_Tells w64, tt)))))
        (λ κs qs bounds a g are. walk ((κs, qs, bounds, a, (shr_vals a.0, (rawptr_vals a.1.0, (uint_vals w64 a.1.1.0, (uint_vals w64 a.1.1.1.0, tt))))), g) are.1.1.0.1 are.1.1.1.0.1))

pub lend_spec : {M : Type 1} → stated.statement M
unfolding tables_of
lend_spec 𝓤 𝓛 𝓜 𝓡 wired X L =
    let E : El = record { row = X; laws = L } in
    let 𝓣 : Tables 𝓤 𝓛.H = tables_of 𝓤 𝓛.H 𝓜 (tables 𝓤 𝓛.H 𝓜 𝓡 𝓡.env) in
    entered 𝓤 𝓛.H (triple_of 𝓛 (F.signature X) (F.spec X 𝓛 𝓜.mem 𝓡.returns)) 𝓣.C 𝓣.Λ (#self (args E)) (here E) (code.unfolded 𝓤 𝓛.H 𝓜 𝓡 wired (X, tt))
    (meets E 𝓛 𝓜.mem 𝓡.returns 𝓣)
