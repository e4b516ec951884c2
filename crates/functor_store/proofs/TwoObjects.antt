-- The steps of a build over two objects.
use Rattle.std.proofs.Common.{◌≡◌, ℕ, zero, suc, ◌<◌, length, List, [], ◌∷◌, get_or, refl, arith, Some}
use Rattle.topos_model.specs.declared.ty.Ty.{Omega}
use Rattle.functor_store.specs.Store.{Functor, into, bare, push_at, with_row, with_restrictions, sealed_with, functor_at, size_at, IsNext, IsFirstOpen, IsWhole}
use Rattle.functor_store.specs.TwoObjects.{two_elements, two_restricted}

nothing_yet : (o : ℕ) → get_or {A = List (List ℕ)} ([] ∷ [] ∷ []) o [] ≡ []
nothing_yet zero = refl
nothing_yet (suc zero) = refl
nothing_yet (suc (suc o)) = refl

nothing_past : (g h : List (List ℕ)) (o : ℕ) → 1 < o → get_or {A = List (List ℕ)} (g ∷ h ∷ []) o [] ≡ []
nothing_past g h zero l = absurd (omega (arith, l))
nothing_past g h (suc zero) l = absurd (omega (arith, l))
nothing_past g h (suc (suc o)) l = refl

abbrev pub begun : Functor
begun = record { key = Omega; rows = [] ∷ [] ∷ []; restrictions = [] ∷ [] ∷ [] }

abbrev pub first_pushed : List ℕ → Functor
first_pushed entries = record { key = Omega; rows = (entries ∷ []) ∷ [] ∷ []; restrictions = [] ∷ [] ∷ [] }

pub begun_is : bare Omega 2 ≡ begun
unfolding bare
begun_is = refl

pub first_next : IsNext begun 0
first_next = record { nothing_after = λ o l. nothing_yet o; unrestricted = nothing_yet }

pub first_is : (entries : List ℕ) → with_row (Some begun) 0 entries ≡ Some (first_pushed entries)
unfolding with_row push_at
first_is entries = refl

pub second_next : (entries : List ℕ) → IsNext (first_pushed entries) 1
second_next entries = record { nothing_after = nothing_past (entries ∷ []) []; unrestricted = nothing_yet }

pub second_is : (entries : List ℕ) → with_row (Some (first_pushed entries)) 1 [] ≡ Some (two_elements entries)
unfolding with_row push_at
second_is entries = refl

pub third_next : (entries : List ℕ) → IsNext (two_elements entries) 1
third_next entries = record { nothing_after = nothing_past (entries ∷ []) ([] ∷ []); unrestricted = nothing_yet }

abbrev pub first_restricted : List ℕ → Functor
first_restricted entries = record { key = Omega; rows = (entries ∷ []) ∷ ([] ∷ []) ∷ []; restrictions = ((0 ∷ []) ∷ []) ∷ [] ∷ [] }

pub first_open : (entries : List ℕ) → IsFirstOpen (two_elements entries) 0 0
first_open entries = record { before = λ o l. absurd (omega (arith, l)); here = refl; open_here = omega arith }

pub first_restricted_is : (entries : List ℕ) → with_restrictions (Some (two_elements entries)) 0 (0 ∷ []) ≡ Some (first_restricted entries)
unfolding with_restrictions push_at
first_restricted_is entries = refl

first_whole : (entries : List ℕ) (o : ℕ) → o < 1 → length (get_or (first_restricted entries).restrictions o []) ≡ size_at (first_restricted entries) o
first_whole entries zero l = refl
first_whole entries (suc o) l = absurd (omega (arith, l))

pub second_open : (entries : List ℕ) → IsFirstOpen (first_restricted entries) 1 0
second_open entries = record { before = first_whole entries; here = refl; open_here = omega arith }

pub second_restricted_is : (entries : List ℕ) → with_restrictions (Some (first_restricted entries)) 1 (0 ∷ 5 ∷ 6 ∷ []) ≡ Some (two_restricted entries)
unfolding with_restrictions push_at
second_restricted_is entries = refl

pub both_whole : (entries : List ℕ) → IsWhole (two_restricted entries)
both_whole entries zero = refl
both_whole entries (suc zero) = refl
both_whole entries (suc (suc o)) = refl

pub sealed_is : (F : Functor) → sealed_with [] (Some F) ≡ F ∷ []
unfolding sealed_with
sealed_is F = refl

pub sealed_at : (F : Functor) → functor_at (F ∷ []) 0 ≡ F
unfolding functor_at
sealed_at F = refl

pub into_first : into ((0, 0) ∷ (1, 1) ∷ (0, 1) ∷ (0, 1) ∷ []) 0 ≡ 1
unfolding into
into_first = refl

pub into_second : into ((0, 0) ∷ (1, 1) ∷ (0, 1) ∷ (0, 1) ∷ []) 1 ≡ 3
unfolding into
into_second = refl
