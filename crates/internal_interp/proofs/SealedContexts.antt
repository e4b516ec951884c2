-- Contexts from their types, whose products are sealed.
use Rattle.std.proofs.Common.{◌≡◌, ℕ, zero, suc, ◌+◌, ◌<◌, ◌≤◌, inl, inr, List, [], ◌∷◌, ◌++◌, length, get_or, reverse, take, drop, refl, sym, ap, subst, ◌∙◌, arith}
use Rattle.std.proofs.lemmas.List.{take_more, take-append-drop, reverse-append}
use Rattle.finite_lists.specs.Members.{In}
use Rattle.finite_lists.proofs.Lists.{In-append_left, In-append_right}
use Rattle.topos_model.specs.declared.ty.Ty.{Ty, One}
use Rattle.topos_model.specs.declared.context.MapTy.{MapTy}
use Rattle.topos_model.specs.statements.Needs.{parts, product}
use Rattle.topos_model.proofs.NeedsEquations.{parts-Two}
use Rattle.topos_model.specs.formulas.Forcing.{World, tuples}
use Rattle.functor_store.specs.Faithful.{Holds}
use Rattle.truth_tables.specs.Tables.{row}
use Rattle.truth_tables.specs.Standing.{counts}
use Rattle.term_typing.proofs.CountedTypes.{context_part}
use Rattle.term_tables.specs.Parts.{IsSealed}
use Rattle.forcing_laws.proofs.NamedSheaves.{part_itself}
use Rattle.internal_interp.specs.declared.context.Context.{Context}
use Rattle.internal_interp.specs.declared.interpreter.Interpreter.{Interpreter}
use Rattle.internal_interp.specs.Contexts.{widths_of, HasSizes}
use Rattle.internal_interp.specs.Known.{Knows, IsScope, IsBinding}
use Rattle.internal_interp.proofs.Bindings.{tuples_of_product}

-- without variables there is one tuple at each object
no_tuples : (w : World) → counts w [] ≡ row w.site.category.objects (λ c. 1)
unfolding counts tuples
no_tuples w = refl

module _ (w : World) (maps : List MapTy) (i : Interpreter) (knows : Knows w maps i) (context : Context) where
  scope_of : (Γ : List Ty) → HasSizes w Γ context → context.product ≡ product Γ → IsSealed i.store.now (product Γ) context.place → IsScope w maps i Γ context
  scope_of Γ sizes is sealed = record {
    known = record { lawful = (maps, knows.lawful); stands = knows.stages; faithful = knows.faithful; sealed = sealed.low; key = sealed.key; counted = sizes.sizes 0 (omega arith) };
    sizes = sizes;
    product_is = is;
  }

  pub scope_none : (tuples : List ℕ) → context.types ≡ [] → context.product ≡ One → IsSealed i.store.now One context.place → tuples ≡ widths_of w One → context.sizes ≡ tuples ∷ [] → context.widths ≡ [] → IsScope w maps i [] context
  scope_none tuples t p sealed many s v =
      let sized : context.sizes ≡ counts w [] ∷ [] = s ∙ ap (λ l. l ∷ []) (many ∙ tuples_of_product w []) in
      scope_of []
      (record {
        types = t;
        sizes_long = ap length s;
        widths_long = ap length v;
        sizes = λ j low. ap (λ l. get_or l j []) sized ∙ at j low;
        widths = λ j low. absurd (omega (arith, low));
      }) p sealed
    where
      at : (j : ℕ) → j ≤ 0 → get_or (counts w [] ∷ []) j [] ≡ counts w (drop j [])
      at zero low = refl
      at (suc j) low = absurd (omega (arith, low))

  pub scope_one : (T : Ty) (tuples values ones : List ℕ) → context.types ≡ T ∷ [] → context.product ≡ T → IsSealed i.store.now T context.place → tuples ≡ widths_of w T → values ≡ widths_of w T → ones ≡ row w.site.category.objects (λ c. 1) →
      context.sizes ≡ tuples ∷ ones ∷ [] → context.widths ≡ values ∷ [] → IsScope w maps i (T ∷ []) context
  scope_one T tuples values ones t p sealed many wide one s v =
      let sized : context.sizes ≡ counts w (T ∷ []) ∷ counts w [] ∷ [] = s ∙ ap (λ l. l ∷ ones ∷ []) (many ∙ tuples_of_product w (T ∷ [])) ∙ ap (λ l. counts w (T ∷ []) ∷ l ∷ []) (one ∙ sym (no_tuples w)) in
      let wides : context.widths ≡ widths_of w T ∷ [] = v ∙ ap (λ l. l ∷ []) wide in
      scope_of (T ∷ [])
      (record {
        types = t;
        sizes_long = ap length s;
        widths_long = ap length v;
        sizes = λ j low. ap (λ l. get_or l j []) sized ∙ at_sizes j low;
        widths = λ j low. ap (λ l. get_or l j []) wides ∙ at_widths j low;
      }) p sealed
    where
      at_sizes : (j : ℕ) → j ≤ 1 → get_or (counts w (T ∷ []) ∷ counts w [] ∷ []) j [] ≡ counts w (drop j (T ∷ []))
      at_sizes zero low = refl
      at_sizes (suc zero) low = refl
      at_sizes (suc (suc j)) low = absurd (omega (arith, low))

      at_widths : (j : ℕ) → j < 1 → get_or (widths_of w T ∷ []) j [] ≡ widths_of w (get_or (T ∷ []) j One)
      at_widths zero low = refl
      at_widths (suc j) low = absurd (omega (arith, low))

-- the product of the outer variables is a part of the whole
outer_part : (Δ Γ : List Ty) (T U : Ty) → In (parts (product (T ∷ Γ))) U → In (parts (product (Δ ++ T ∷ Γ))) U
outer_part [] Γ T U h = h
outer_part (S ∷ []) Γ T U h = subst (λ l. In l U) (sym (parts-Two (product (T ∷ Γ)) S)) (inr (In-append_left (parts (product (T ∷ Γ))) (parts S) U h))
outer_part (S ∷ R ∷ Δ) Γ T U h =
    subst (λ l. In l U) (sym (parts-Two (product (R ∷ Δ ++ T ∷ Γ)) S)) (inr (In-append_left (parts (product (R ∷ Δ ++ T ∷ Γ))) (parts S) U (outer_part (R ∷ Δ) Γ T U h)))

-- the types up to a place, the innermost first
pub types_to : (types : List Ty) (k : ℕ) (T : Ty) → k < length types → get_or types k T ≡ T → reverse (take (k + 1) types) ≡ T ∷ reverse (take k types)
types_to types k T low is = ap reverse (take_more types k T low ∙ ap (λ U. take k types ++ U ∷ []) is) ∙ reverse-append (take k types) (T ∷ [])

module _ (types : List Ty) (k : ℕ) (T : Ty) (low : k < length types) (is : get_or types k T ≡ T) where
  whole_is : reverse types ≡ reverse (drop (k + 1) types) ++ T ∷ reverse (take k types)
  whole_is =
      ap reverse (sym (take-append-drop (k + 1) types)) ∙ reverse-append (take (k + 1) types) (drop (k + 1) types)
      ∙ ap (λ l. reverse (drop (k + 1) types) ++ l) (types_to types k T low is)

  pub product_to : In (parts (product (reverse types))) (product (T ∷ reverse (take k types)))
  product_to =
      subst (λ l. In (parts (product l)) (product (T ∷ reverse (take k types)))) (sym whole_is)
      (outer_part (reverse (drop (k + 1) types)) (reverse (take k types)) T (product (T ∷ reverse (take k types))) (part_itself (product (T ∷ reverse (take k types)))))

  pub type_to : In (parts (product (reverse types))) T
  type_to =
      context_part (reverse types) T T
      (subst (λ l. In l T) (sym whole_is) (In-append_right (reverse (drop (k + 1) types)) (T ∷ reverse (take k types)) T (inl refl))) (part_itself T)

  pub binding_to : (w : World) (maps : List MapTy) (i : Interpreter) (context : Context) → Knows w maps i → IsScope w maps i (reverse (take k types)) context →
      ((P : Ty) → In (parts (product (reverse types))) P → Holds i.store.now P) → IsBinding w maps i (reverse (take k types)) context T
  binding_to w maps i context knows scope held = record { knows = knows; scope = scope; variable = held T type_to; whole = held (product (T ∷ reverse (take k types))) product_to }

-- the first type alone
pub first_type : (types : List Ty) (T : Ty) → 0 < length types → get_or types 0 T ≡ T → reverse (take 1 types) ≡ T ∷ []
first_type types T low is = types_to types 0 T low is ∙ ap (λ l. T ∷ reverse l) (nothing types)
  where
    nothing : (l : List Ty) → take 0 l ≡ []
    nothing [] = refl
    nothing (x ∷ l) = refl

pub no_types : (types : List Ty) → length types ≡ 0 → types ≡ []
no_types [] e = refl
no_types (T ∷ types) e = absurd (omega (arith, e))

-- with the product of no variables One is sealed
pub one_held : (types : List Ty) (held : Ty → Type 0) → types ≡ [] → ((P : Ty) → In (parts (product (reverse types))) P → held P) → held One
one_held types held none all = all One (subst (λ l. In (parts (product (reverse l))) One) (sym none) (part_itself One))
