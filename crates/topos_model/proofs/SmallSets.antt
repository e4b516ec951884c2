-- The sets of no, one and two elements, as presheaves on a category with one arrow, and the maps from and to them.
use Rattle.std.proofs.Common.{◌≡◌, ℕ, zero, suc, ◌<◌, List, [], ◌∷◌, length, get_or, refl, sym, ap, ◌∙◌, arith}
use Rattle.std.proofs.lemmas.List.{ext_get_or}
use Rattle.topos_model.specs.categories.Category.{into}
use Rattle.topos_model.specs.types.Types.{Presheaf}
use Rattle.topos_model.specs.Laws.{act, size, IsFunctor}
use Rattle.topos_model.specs.presheaves.Maps.{Components, component, apply, IsNatural, after_component, after, ExactlyOne}
use Rattle.topos_model.proofs.ShortLists.{one_component, one_entry, two_entries, no_entries}
use Rattle.topos_model.proofs.LawTests.{lawful_functor, natural_map}
use Rattle.topos_model.proofs.SmallCategories.{point}

abbrev pub none : Presheaf
none = record { sizes = 0 ∷ []; along = [] ∷ [] }

abbrev pub one : Presheaf
one = record { sizes = 1 ∷ []; along = (0 ∷ []) ∷ [] }

abbrev pub two : Presheaf
two = record { sizes = 2 ∷ []; along = (0 ∷ 1 ∷ []) ∷ [] }

-- a map of sets
abbrev pub map_of : List ℕ → Components
map_of values = values ∷ []

-- what the examples compute with
opened : Unit {0}
unfolding into after
opened = tt

pub one_lawful : IsFunctor point one
unfolding opened
one_lawful = lawful_functor point one refl refl refl refl refl refl

pub two_lawful : IsFunctor point two
unfolding opened
two_lawful = lawful_functor point two refl refl refl refl refl refl

pub one_to_one : IsNatural point one one (map_of (0 ∷ []))
one_to_one = natural_map point one one _ refl refl refl refl

pub first_of_two : IsNatural point one two (map_of (0 ∷ []))
first_of_two = natural_map point one two _ refl refl refl refl

pub second_of_two : IsNatural point one two (map_of (1 ∷ []))
second_of_two = natural_map point one two _ refl refl refl refl

pub differ : (r s : List ℕ) → (get_or r 0 0 ≡ get_or s 0 0 → ⊥) → map_of r ≡ map_of s → ⊥
differ r s unequal e = unequal (ap (λ (m : Components). apply m 0 0) e)

-- what two have is no property of exactly one
pub two_are_too_many : {A : Type 0} {P : A → Type 0} (a b : A) → P a → P b → (a ≡ b → ⊥) → ExactlyOne P → ⊥
two_are_too_many a b p q unequal only = unequal (only.2 a p ∙ sym (only.2 b q))

-- values below 1
pub to_zero : (r : List ℕ) → ((x : ℕ) → x < length r → get_or r x 0 < 1) → after_component (0 ∷ []) r ≡ r
to_zero [] below = refl
to_zero (zero ∷ r) below = ap (λ (s : List ℕ). 0 ∷ s) (to_zero r (λ x h. below (suc x) (omega arith)))
to_zero (suc y ∷ r) below = absurd (let h : suc y < 1 = below 0 (omega arith) in omega arith)

pub same_zeros : (r s : List ℕ) → length r ≡ length s → ((x : ℕ) → x < length r → get_or r x 0 < 1) → ((x : ℕ) → x < length s → get_or s x 0 < 1) → r ≡ s
same_zeros r s e below below' = ext_get_or 0 r s e (λ x h. let a = below x h in let b = below' x (omega arith) in omega arith)

pub into_one_below : (F : Presheaf) (m : Components) → IsNatural point F one m → (x : ℕ) → x < length (component m 0) → apply m 0 x < 1
into_one_below F m n x h = let t = n.total 0 (omega arith) in n.within 0 x (omega arith) (omega arith)

-- two maps to the set of one element are one
pub into_one_same : (F : Presheaf) (m n : Components) → IsNatural point F one m → IsNatural point F one n → m ≡ n
into_one_same F m n mn nn =
    one_component m mn.objects
    ∙ ap map_of (same_zeros (component m 0) (component n 0) (mn.total 0 (omega arith) ∙ sym (nn.total 0 (omega arith))) (into_one_below F m mn) (into_one_below F n nn))
    ∙ sym (one_component n nn.objects)

pub after_one : (F : Presheaf) (m : Components) → IsNatural point F one m → after (map_of (0 ∷ [])) m ≡ m
unfolding opened
after_one F m n =
    ap (λ (a : Components). after (map_of (0 ∷ [])) a) (one_component m n.objects)
    ∙ ap map_of (to_zero (component m 0) (into_one_below F m n))
    ∙ sym (one_component m n.objects)

pub one_has_no_pair : (c a b : ℕ) → c < 1 → a < b → b < size one c → ⊥
one_has_no_pair zero a b hc hab hb = omega arith
one_has_no_pair (suc c) a b hc hab hb = omega arith

pub no_map_to_none : (u : Components) → IsNatural point one none u → ⊥
no_map_to_none u h = let w : apply u 0 0 < 0 = h.within 0 0 (omega arith) (omega arith) in omega arith

pub two_to_one : IsNatural point two one (map_of (0 ∷ 0 ∷ []))
two_to_one = natural_map point two one _ refl refl refl refl

pub from_one_injective : (c x y : ℕ) → c < 1 → x < size one c → y < size one c → apply (map_of (0 ∷ [])) c x ≡ apply (map_of (0 ∷ [])) c y → x ≡ y
from_one_injective zero x y hc hx hy e = omega arith
from_one_injective (suc c) x y hc hx hy e = absurd (omega arith)

pub none_lawful : IsFunctor point none
unfolding opened
none_lawful = lawful_functor point none refl refl refl refl refl refl

pub no_member : (F : Presheaf) (c x : ℕ) → size F 0 ≡ 0 → c < 1 → x < size F c → ⊥
no_member F zero x e hc hx = omega arith
no_member F (suc c) x e hc hx = omega arith

pub empty_total : (F : Presheaf) (c : ℕ) → size F 0 ≡ 0 → c < 1 → length (component (map_of []) c) ≡ size F c
empty_total F zero e hc = sym e
empty_total F (suc c) e hc = absurd (omega arith)

pub point_target : (c f : ℕ) → f < 1 → (get_or point.ends f (0, 0)).1 ≡ c → c < 1
point_target c zero h e = let r : 0 ≡ c = e in omega arith
point_target c (suc f) h e = absurd (omega arith)

pub empty_map : (F Q : Presheaf) → size F 0 ≡ 0 → IsNatural point F Q (map_of [])
empty_map F Q e = record {
  objects = refl;
  total = λ c h. empty_total F c e h;
  within = λ c x h l. absurd (no_member F c x e h l);
  commutes = λ c f x i h. absurd (no_member F c x e (point_target c f i.0 i.1) h);
}

pub empty_map_only : (F Q : Presheaf) (u : Components) → size F 0 ≡ 0 → IsNatural point F Q u → u ≡ map_of []
empty_map_only F Q u e n = one_component u n.objects ∙ ap map_of (no_entries (component u 0) (n.total 0 (omega arith) ∙ e))

-- where two different elements are equal there is nothing
pub parted : (r : List ℕ) → ((x : ℕ) → x < length r → get_or r x 0 < 1) → after_component (0 ∷ []) r ≡ after_component (1 ∷ []) r → length r ≡ 0
parted [] below e = refl
parted (zero ∷ r) below e = let w : 0 ≡ 1 = ap (λ (s : List ℕ). get_or s 0 0) e in absurd (omega (arith, w))
parted (suc x ∷ r) below e = absurd (let h : suc x < 1 = below 0 (omega arith) in omega arith)

pub nowhere_equal : (F : Presheaf) (l : Components) → IsNatural point F one l → after (map_of (0 ∷ [])) l ≡ after (map_of (1 ∷ [])) l → size F 0 ≡ 0
unfolding opened
nowhere_equal F l n e =
    let o = one_component l n.objects in
    let f : after (map_of (0 ∷ [])) (map_of (component l 0)) ≡ after (map_of (1 ∷ [])) (map_of (component l 0)) =
    ap (λ (a : Components). after (map_of (0 ∷ [])) a) (sym o) ∙ e ∙ ap (λ (a : Components). after (map_of (1 ∷ [])) a) o in
    sym (n.total 0 (omega arith)) ∙ parted (component l 0) (into_one_below F l n) (ap (λ (a : Components). component a 0) f)

-- a map of sets commutes with the identity
set_commutes : (F Q : Presheaf) (r : List ℕ) → IsFunctor point F → IsFunctor point Q → ((x : ℕ) → x < size F 0 → get_or r x 0 < size Q 0)
    → (f x : ℕ) → f < 1 → x < size F 0 → apply (map_of r) 0 (act F f x) ≡ act Q f (apply (map_of r) 0 x)
set_commutes F Q r lf lq within zero x h k =
    ap (λ (v : ℕ). get_or r v 0) (lf.identity 0 x (omega arith) k) ∙ sym (lq.identity 0 (get_or r x 0) (omega arith) (within x k))
set_commutes F Q r lf lq within (suc f) x h k = absurd (omega arith)

set_total : (F : Presheaf) (r : List ℕ) → length r ≡ size F 0 → (c : ℕ) → c < 1 → length (component (map_of r) c) ≡ size F c
set_total F r total zero h = total
set_total F r total (suc c) h = absurd (omega arith)

set_within : (F Q : Presheaf) (r : List ℕ) → ((x : ℕ) → x < size F 0 → get_or r x 0 < size Q 0) → (c x : ℕ) → c < 1 → x < size F c → apply (map_of r) c x < size Q c
set_within F Q r within zero x h k = within x k
set_within F Q r within (suc c) x h k = absurd (omega arith)

set_natural : (F Q : Presheaf) (r : List ℕ) → IsFunctor point F → IsFunctor point Q → ((x : ℕ) → x < size F 0 → get_or r x 0 < size Q 0)
    → (c f x : ℕ) → f < 1 → (get_or point.ends f (0, 0)).1 ≡ c → x < size F c → apply (map_of r) ((get_or point.ends f (0, 0)).0) (act F f x) ≡ act Q f (apply (map_of r) c x)
set_natural F Q r lf lq within zero zero x h e k = set_commutes F Q r lf lq within 0 x (omega arith) k
set_natural F Q r lf lq within zero (suc f) x h e k = absurd (omega arith)
set_natural F Q r lf lq within (suc c) f x h e k = absurd (let w : suc c < 1 = point_target (suc c) f h e in omega arith)

pub set_map : (F Q : Presheaf) (r : List ℕ) → IsFunctor point F → IsFunctor point Q → length r ≡ size F 0 → ((x : ℕ) → x < size F 0 → get_or r x 0 < size Q 0)
    → IsNatural point F Q (map_of r)
set_map F Q r lf lq total within = record {
  objects = refl;
  total = set_total F r total;
  within = set_within F Q r within;
  commutes = λ c f x i h. set_natural F Q r lf lq within c f x i.0 i.1 h;
}

-- an element as a map from the set of one element
pub only_entry : (m : Components) (F : Presheaf) → IsNatural point one F m → m ≡ map_of (apply m 0 0 ∷ [])
only_entry m F n = one_component m n.objects ∙ ap map_of (one_entry (component m 0) (n.total 0 (omega arith)))

pub both_entries : (m : Components) (F : Presheaf) → IsNatural point two F m → m ≡ map_of (apply m 0 0 ∷ apply m 0 1 ∷ [])
both_entries m F n = one_component m n.objects ∙ ap map_of (two_entries (component m 0) (n.total 0 (omega arith)))

-- what follows an element
pub after_element : (v m : Components) (y : ℕ) → length v ≡ 1 → after v (map_of (y ∷ [])) ≡ m → apply v 0 y ≡ apply m 0 0
unfolding opened
after_element v m y e h = ap (λ (k : Components). apply k 0 0) (ap (λ (k : Components). after k (map_of (y ∷ []))) (sym (one_component v e)) ∙ h)

pub element_after : (v : Components) (y : ℕ) → length v ≡ 1 → after v (map_of (y ∷ [])) ≡ map_of (apply v 0 y ∷ [])
unfolding opened
element_after v y e = ap (λ (k : Components). after k (map_of (y ∷ []))) (one_component v e)

-- two elements are a map from the set of two
module _ (F : Presheaf) (m n : Components) (lawful : IsFunctor point F) (first : IsNatural point one F m) (second : IsNatural point one F n) where
  abbrev both : List ℕ
  both = apply m 0 0 ∷ apply n 0 0 ∷ []

  both_within : (x : ℕ) → x < 2 → get_or both x 0 < size F 0
  both_within zero h = first.within 0 0 (omega arith) (omega arith)
  both_within (suc zero) h = second.within 0 0 (omega arith) (omega arith)
  both_within (suc (suc x)) h = absurd (omega arith)

  pub both_once : ExactlyOne (λ (u : Components). IsNatural point two F u × (after u (map_of (0 ∷ [])) ≡ m) × (after u (map_of (1 ∷ [])) ≡ n))
  unfolding opened
  both_once = (
    map_of both,
    (set_map two F both two_lawful lawful refl both_within, sym (only_entry m F first), sym (only_entry n F second)),
    λ v p.
        both_entries v F p.0
        ∙ ap (λ (x : ℕ). map_of (x ∷ apply v 0 1 ∷ [])) (after_element v m 0 p.0.objects p.1)
        ∙ ap (λ (x : ℕ). map_of (apply m 0 0 ∷ x ∷ [])) (after_element v n 1 p.0.objects p.2),
  )
