-- The test for equal types decides equality, and equal types feed a hash alike: the laws that comparisons and hashes of types carry.
use Rattle.std.proofs.Common.{◌≡◌, ℕ, Bool, true, false, ◌&&◌, ◌++◌, refl, ap, sym, ◌∙◌, List, [], IsTrue, eqb}
use Rattle.std.specs.Prelude.{Decides}
use Rattle.std.specs.Cmp.{IsEquivalence, IsPartialEquivalence, partial_equiv_from_equiv, equiv, both_ways}
use Rattle.std.specs.Cmp.Derive.{both_true}
use Rattle.std.specs.Hash as fed
use Rattle.std.specs.Hash.{HashWrites}
use Rattle.std.proofs.lemmas.Bool.{eqb-true, eq-eqb}
use denote.Hole.Carrier
use Rattle.topos_model.specs.declared.ty.Ty.{Ty, out-Ty, roll-out-Ty, Base, One, Omega, Two, Pow, Fun, Two', Pow', Fun', more_of-Ty as one, end_of-Ty as none}
use Rattle.topos_model.specs.declared.ty.Ty.TheVariants.{rolls-Two, rolls-Pow, rolls-Fun}
use Rattle.topos_model.specs.declared.ty.Ty.TheBlock.{shown-the_row-Ty-0}
use Rattle.topos_model.specs.declared.ty.Ty.{roll-Ty}
use Rattle.topos_model.specs.types.SameType.{same_type, type_writes}

both_are : (a b : Bool) → (a && b) ≡ true → (a ≡ true) × (b ≡ true)
both_are true b h = (refl, h)
both_are false b h = (h, absurd (cc))

made_Two : (a : _) (b : _) (S T : Ty) → Two' a (one S none) b (one T none) ≡ Two S T
unfolding out-Ty Carrier.out roll-Ty shown-the_row-Ty-0 Carrier.shown
made_Two a b S T = sym (roll-out-Ty (Two' a (one S none) b (one T none))) ∙ rolls-Two S T

made_Pow : (a : _) (T : Ty) → Pow' a (one T none) ≡ Pow T
unfolding out-Ty Carrier.out roll-Ty shown-the_row-Ty-0 Carrier.shown
made_Pow a T = sym (roll-out-Ty (Pow' a (one T none))) ∙ rolls-Pow T

made_Fun : (a : _) (b : _) (S T : Ty) → Fun' a (one S none) b (one T none) ≡ Fun S T
unfolding out-Ty Carrier.out roll-Ty shown-the_row-Ty-0 Carrier.shown
made_Fun a b S T = sym (roll-out-Ty (Fun' a (one S none) b (one T none))) ∙ rolls-Fun S T

pub same_types_are_equal : (S T : Ty) → same_type S T ≡ true → S ≡ T
unfolding same_type
same_types_are_equal (Base m) (Base n) h = ap Base (eqb-true m n h)
same_types_are_equal One One h = refl
same_types_are_equal Omega Omega h = refl
same_types_are_equal (Two' a (one S none) b (one T none)) (Two' c (one U none) d (one V none)) h =
    let p = both_are _ _ h in
    made_Two a b S T ∙ ap (λ x. Two x T) (same_types_are_equal S U p.0) ∙ ap (Two U) (same_types_are_equal T V p.1) ∙ sym (made_Two c d U V)
same_types_are_equal (Pow' a (one S none)) (Pow' b (one T none)) h = made_Pow a S ∙ ap Pow (same_types_are_equal S T h) ∙ sym (made_Pow b T)
same_types_are_equal (Fun' a (one S none) b (one T none)) (Fun' c (one U none) d (one V none)) h =
    let p = both_are _ _ h in
    made_Fun a b S T ∙ ap (λ x. Fun x T) (same_types_are_equal S U p.0) ∙ ap (Fun U) (same_types_are_equal T V p.1) ∙ sym (made_Fun c d U V)
same_types_are_equal _ _ h = cc

pub same_as_itself : (T : Ty) → same_type T T ≡ true
unfolding same_type
same_as_itself (Base n) = eq-eqb n n refl
same_as_itself One = refl
same_as_itself Omega = refl
same_as_itself (Two' _ (one S none) _ (one T none)) = both_true (same_as_itself S) (same_as_itself T)
same_as_itself (Pow' _ (one T none)) = same_as_itself T
same_as_itself (Fun' _ (one S none) _ (one T none)) = both_true (same_as_itself S) (same_as_itself T)

pub equal_types_are_same : (S T : Ty) → S ≡ T → same_type S T ≡ true
equal_types_are_same S T e = ap (same_type S) (sym e) ∙ same_as_itself S

pub same_type_equivalence : IsEquivalence same_type
same_type_equivalence = record {
  refl = same_as_itself;
  symm = λ S T. both_ways (same_type S T) (same_type T S) (λ h. equal_types_are_same T S (sym (same_types_are_equal S T h))) (λ h. equal_types_are_same S T (sym (same_types_are_equal T S h)));
  congr = λ S T U h. ap (λ V. same_type V U) (same_types_are_equal S T h);
}

pub equal_types_write_alike : (S T : Ty) → IsTrue (same_type S T) → type_writes S ≡ type_writes T
equal_types_write_alike S T h = ap type_writes (same_types_are_equal S T h)
