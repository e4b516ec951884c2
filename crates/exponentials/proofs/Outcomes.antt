-- What holds after parts of a type were sealed, put together.
use Rattle.std.proofs.Common.{◌≡◌, ℕ, ◌+◌, ◌<◌, inl, inr, List, [], ◌∷◌, ◌++◌, length, Result, Ok, Err, refl, sym, ap, subst, ◌∙◌, arith}
use Rattle.std.specs.Prelude.{IfOk, OnOk, OnErr}
use Rattle.std.proofs.lemmas.List.{get_or_push, length_push}
use Rattle.topos_model.specs.declared.ty.Ty.{Ty, Base, Omega}
use Rattle.finite_lists.specs.Members.{In}
use Rattle.finite_lists.proofs.Lists.{In-append_left, In-append_right, In-append_cases}
use Rattle.topos_model.specs.topologies.Cover.{Site}
use Rattle.topos_model.specs.types.Types.{Presheaf}
use Rattle.topos_model.specs.statements.Cells.{cells_of}
use Rattle.topos_model.specs.statements.Needs.{parts}
use Rattle.functor_store.specs.declared.fault.StoreFault.{StoreFault}
use Rattle.functor_store.specs.declared.fault.StoreFault.TheVariants.{Over, NoMemory}
use Rattle.functor_store.specs.Store.{Store, cells, functor_at, IsFreeKey}
use Rattle.functor_store.specs.Faithful.{IsFaithful}
use Rattle.sealed_functors.specs.Rows.{IsOverExactly}
use Rattle.type_rows.specs.TypeRows.{IsAdded}
use Rattle.exponentials.specs.Needed.{IsPlaceOf, IsStuck, IsReady, IsOutcome, WhereOver}
use Rattle.exponentials.proofs.Extended.{kept, kept_as, one_more, weaker, idle_after, held_after, extended}

module _ (s : Site) where
  -- a part asks for no more than the whole
  pub ready_part : (T U : Ty) (store : Store) → ((V : Ty) → In (parts U) V → In (parts T) V) → IsReady s T store → IsReady s U store
  ready_part T U store f h = record { idle = h.idle; faithful = h.faithful; named = λ n i. h.named n (f (Base n) i); omega = λ i. h.omega (f Omega i) }

  pub ready_after : (T U : Ty) (types : List Ty) (old new : Store) (r : Result ℕ StoreFault) → IsReady s T old → IsOutcome s types U old new r → IsReady s T new
  ready_after T U types old new r h o = record {
    idle = idle_after types old new o.extended h.idle;
    faithful = (h.faithful.0, o.faithful h.faithful.0 h.faithful.1);
    named = λ n i. held_after types old new o.extended (Base n) (h.named n i);
    omega = λ i. held_after types old new o.extended Omega (h.omega i);
  }

  -- a type that is there
  pub held_outcome : (T : Ty) (store : Store) (id : ℕ) → IsPlaceOf store id T → IsOutcome s (T ∷ []) T store store (Ok id)
  held_outcome T store id p = record {
    extended = kept (T ∷ []) store;
    faithful = λ functors h. h;
    place = p;
    held = λ U i. elim i [ inl e ↦ (id, p.0, p.1 ∙ e) | inr n ↦ absurd n ];
    stuck = tt;
  }

  -- a type that is sealed now, or not
  pub sealed_outcome : (T : Ty) (old new : Store) (r : Result ℕ StoreFault) → IsFreeKey old.sealed T → OnOk r (IsAdded T old new) → IfOk r (λ id. id ≡ length old.sealed) → OnErr r (new ≡ old) →
      ((functors : List Presheaf) → IsFaithful s functors old → IsFaithful s functors new) →
      ((functors : List Presheaf) → IsFaithful s functors old → IsOverExactly r (old.budget < cells old + cells_of s functors T)) → IsOutcome s (T ∷ []) T old new r
  unfolding functor_at
  sealed_outcome T old new (Ok id) free added place err faithful over =
      let (F, key, is) = added in
      let l : length new.sealed ≡ length old.sealed + 1 = ap (λ (x : Store). length x.sealed) is ∙ length_push old.sealed F in
      let here : (functor_at new.sealed id).key ≡ T = ap (λ (x : Store). (functor_at x.sealed id).key) is ∙ ap (λ G. G.key) (get_or_push old.sealed F _ id (sym place)) ∙ key in
      record {
        extended = one_more (T ∷ []) T old new added free (inl refl);
        faithful = faithful;
        place = (omega (arith, l, place), here);
        held = λ U i. elim i [ inl e ↦ (id, omega (arith, l, place), here ∙ e) | inr n ↦ absurd n ];
        stuck = tt;
      }
  sealed_outcome T old new (Err Over) free added place err faithful over = record {
    extended = kept_as (T ∷ []) old new err;
    faithful = faithful;
    place = tt;
    held = tt;
    stuck = λ functors h. subst (λ (x : Store). IsStuck s functors (T ∷ []) x) (sym err) (record { next = T; part = inl refl; free = free; over = over functors h });
  }
  sealed_outcome T old new (Err NoMemory) free added place err faithful over = record { extended = kept_as (T ∷ []) old new err; faithful = faithful; place = tt; held = tt; stuck = tt }

  -- a fault after some types were sealed
  fault_stuck : (fault : StoreFault) (P Q : Type 0) → (P → Q) → WhereOver {A = ℕ} (Err fault) P → WhereOver {A = ℕ} (Err fault) Q
  fault_stuck Over P Q f h = f h
  fault_stuck NoMemory P Q f h = tt

  stuck_more : (functors : List Presheaf) (here types : List Ty) (store : Store) → ((T : Ty) → In here T → In types T) → IsStuck s functors here store → IsStuck s functors types store
  stuck_more functors here types store f h = record { next = h.next; part = f h.next h.part; free = h.free; over = h.over }

  pub fault_first : (here types : List Ty) (U T : Ty) (old new : Store) (fault : StoreFault) → ((V : Ty) → In here V → In types V) → IsOutcome s here U old new (Err fault) → IsOutcome s types T old new (Err fault)
  fault_first here types U T old new fault f h = record {
    extended = weaker here old new h.extended types f;
    faithful = h.faithful;
    place = tt;
    held = tt;
    stuck = fault_stuck fault _ _ (λ stuck functors faithful. stuck_more functors here types new f (stuck functors faithful)) h.stuck;
  }

  pub fault_second : (before here types : List Ty) (U V T : Ty) (old mid new : Store) (id : ℕ) (fault : StoreFault) → ((W : Ty) → In before W → In types W) → ((W : Ty) → In here W → In types W) →
      IsOutcome s before U old mid (Ok id) → IsOutcome s here V mid new (Err fault) → IsOutcome s types T old new (Err fault)
  fault_second before here types U V T old mid new id fault f g h k = record {
    extended = extended types old mid (weaker before old mid h.extended types f) new (weaker here mid new k.extended types g);
    faithful = λ functors faithful. k.faithful functors (h.faithful functors faithful);
    place = tt;
    held = tt;
    stuck = fault_stuck fault _ _ (λ stuck functors faithful. stuck_more functors here types new g (stuck functors (h.faithful functors faithful))) k.stuck;
  }

  -- two lists of types, one after the other
  pub both : (before here : List Ty) (U V : Ty) (old mid new : Store) (i j : ℕ) → IsOutcome s before U old mid (Ok i) → IsOutcome s here V mid new (Ok j) → IsOutcome s (before ++ here) V old new (Ok j)
  both before here U V old mid new i j h k =
      let types = before ++ here in
      let f : (W : Ty) → In before W → In types W = λ W m. In-append_left before here W m in
      let g : (W : Ty) → In here W → In types W = λ W m. In-append_right before here W m in
      record {
        extended = extended types old mid (weaker before old mid h.extended types f) new (weaker here mid new k.extended types g);
        faithful = λ functors faithful. k.faithful functors (h.faithful functors faithful);
        place = k.place;
        held = λ W m. elim (In-append_cases before here W m) [ inl a ↦ held_after here mid new k.extended W (h.held W a) | inr b ↦ k.held W b ];
        stuck = tt;
      }

  -- the type itself after its parts
  pub whole : (before : List Ty) (U T : Ty) (old mid new : Store) (i : ℕ) (r : Result ℕ StoreFault) → IsOutcome s before U old mid (Ok i) → IsOutcome s (T ∷ []) T mid new r → IsOutcome s (T ∷ before) T old new r
  whole before U T old mid new i (Ok id) h k =
      let types = T ∷ before in
      let f : (W : Ty) → In before W → In types W = λ W m. inr m in
      let g : (W : Ty) → In (T ∷ []) W → In types W = λ W m. elim m [ inl e ↦ inl e | inr n ↦ absurd n ] in
      record {
        extended = extended types old mid (weaker before old mid h.extended types f) new (weaker (T ∷ []) mid new k.extended types g);
        faithful = λ functors faithful. k.faithful functors (h.faithful functors faithful);
        place = k.place;
        held = λ W m. elim m [ inl e ↦ k.held W (inl e) | inr n ↦ held_after (T ∷ []) mid new k.extended W (h.held W n) ];
        stuck = tt;
      }
  whole before U T old mid new i (Err fault) h k =
      fault_second before (T ∷ []) (T ∷ before) U T T old mid new i fault (λ W m. inr m) (λ W m. elim m [ inl e ↦ inl e | inr n ↦ absurd n ]) h k

  -- the same along an equation of the parts
  pub parts_outcome : (T : Ty) (types : List Ty) (old new : Store) (r : Result ℕ StoreFault) → parts T ≡ types → IsOutcome s types T old new r → IsOutcome s (parts T) T old new r
  parts_outcome T types old new r e h = subst (λ l. IsOutcome s l T old new r) (sym e) h

  -- a type with two parts
  module _ (S T U : Ty) (are : parts U ≡ (U ∷ parts S ++ parts T)) where
    pub left_part : (V : Ty) → In (parts S) V → In (parts U) V
    left_part V i = subst (λ l. In l V) (sym are) (inr (In-append_left (parts S) (parts T) V i))

    pub right_part : (V : Ty) → In (parts T) V → In (parts U) V
    right_part V i = subst (λ l. In l V) (sym are) (inr (In-append_right (parts S) (parts T) V i))

    pub left_fault : (old new : Store) (fault : StoreFault) → IsOutcome s (parts S) S old new (Err fault) → IsOutcome s (parts U) U old new (Err fault)
    left_fault old new fault h = fault_first (parts S) (parts U) S U old new fault left_part h

    pub right_fault : (old mid new : Store) (i : ℕ) (fault : StoreFault) → IsOutcome s (parts S) S old mid (Ok i) → IsOutcome s (parts T) T mid new (Err fault) → IsOutcome s (parts U) U old new (Err fault)
    right_fault old mid new i fault h k = fault_second (parts S) (parts T) (parts U) S T U old mid new i fault left_part right_part h k

    pub two_sealed : (old mid last new : Store) (i j : ℕ) (r : Result ℕ StoreFault) → IsOutcome s (parts S) S old mid (Ok i) → IsOutcome s (parts T) T mid last (Ok j) → IsOutcome s (U ∷ []) U last new r → IsOutcome s (parts U) U old new r
    two_sealed old mid last new i j r h k o =
        parts_outcome U (U ∷ parts S ++ parts T) old new r are (whole (parts S ++ parts T) T U old last new j r (both (parts S) (parts T) S T old mid last i j h k) o)

  -- a type with one part
  module _ (T U : Ty) (are : parts U ≡ (U ∷ parts T)) where
    pub only_part : (V : Ty) → In (parts T) V → In (parts U) V
    only_part V i = subst (λ l. In l V) (sym are) (inr i)

    pub only_fault : (old new : Store) (fault : StoreFault) → IsOutcome s (parts T) T old new (Err fault) → IsOutcome s (parts U) U old new (Err fault)
    only_fault old new fault h = fault_first (parts T) (parts U) T U old new fault only_part h

    pub one_sealed : (old mid new : Store) (i : ℕ) (r : Result ℕ StoreFault) → IsOutcome s (parts T) T old mid (Ok i) → IsOutcome s (U ∷ []) U mid new r → IsOutcome s (parts U) U old new r
    one_sealed old mid new i r h o = parts_outcome U (U ∷ parts T) old new r are (whole (parts T) T U old mid new i r h o)
