-- Rising lists of numbers: members by tests, lists with the same members, and one more member.
use Rattle.std.proofs.Common.{◌≡◌, ℕ, ◌+◌, ◌<◌, ◌≤◌, Bool, true, ◌||◌, ◌⊎◌, inl, inr, List, [], ◌∷◌, length, get_or, drop, filter, refl, sym, ◌∙◌, ap, subst, add-one, arith, eqb}
use Rattle.std.proofs.Math.Seq.{drop-cons}
use Rattle.std.proofs.Math.ListN.{drop_of_length-le}
use Rattle.std.specs.List.{range_with_len}
use Rattle.std.proofs.lemmas.Bool.{eqb-true, eq-eqb, or_cases, or_left, or_right}
use Rattle.finite_lists.specs.Members.{In}
use Rattle.finite_lists.specs.Rising.{Rising}
use Rattle.finite_lists.proofs.Lists.{In-filter, In-filter_from, some_any, any_some, all_each, each_all}
use Rattle.finite_lists.proofs.DistinctLists.{In-range, In-range_from}
use Rattle.finite_lists.proofs.RisingLists.{Rising-filter, Rising-range}
use Rattle.topos_model.specs.categories.Category.{Category, has, into}
use Rattle.topos_model.specs.topologies.Cover.{contains}
use Rattle.topos_model.specs.topologies.TopologyFaults.{intersection}
use Rattle.fin_category.specs.Masks.{limit, members, marked, union, added, all_added}

-- a number is in the list exactly if the test says so
pub has-In : (xs : List ℕ) (x : ℕ) → In xs x → has x xs ≡ true
has-In xs x i = some_any (eqb x) xs x i (eq-eqb x x refl)

pub In-has : (xs : List ℕ) (x : ℕ) → has x xs ≡ true → In xs x
In-has xs x h = let r = any_some (eqb x) xs h in subst (λ y. In xs y) (sym (eqb-true x r.0 r.2)) r.1

pub contains-each : (S T : List ℕ) → contains S T ≡ true → (f : ℕ) → In S f → In T f
contains-each S T h f i = In-has T f (all_each (λ f. has f T) S f h i)

pub each-contains : (S T : List ℕ) → ((f : ℕ) → In S f → In T f) → contains S T ≡ true
each-contains S T h = each_all (λ f. has f T) S (λ f i. has-In T f (h f i))

abbrev pub Rises : List ℕ → Type 0
Rises S = Rising (λ m n. m < n) S

-- rising lists with the same members are one
pub same_members : (xs ys : List ℕ) → Rises xs → Rises ys → ((x : ℕ) → In xs x → In ys x) → ((x : ℕ) → In ys x → In xs x) → xs ≡ ys
same_members [] [] r t to from = refl
same_members [] (y ∷ ys) r t to from = absurd (from y (inl refl))
same_members (x ∷ xs) [] r t to from = absurd (to x (inl refl))
same_members (x ∷ xs) (y ∷ ys) r t to from =
    let head : x ≡ y = elim (to x (inl refl)) [
      | inl e ↦ sym e
      | inr i ↦ elim (from y (inl refl)) [ inl e ↦ e | inr j ↦ let a : y < x = t.0 x i in let b : x < y = r.0 y j in absurd (omega arith) ]
    ] in
    let rest : xs ≡ ys = same_members xs ys r.1 t.1
    (λ z i. elim (to z (inr i)) [ inl e ↦ let a : x < z = r.0 z i in absurd (omega arith) | inr j ↦ j ])
    (λ z i. elim (from z (inr i)) [ inl e ↦ let a : y < z = t.0 z i in absurd (omega arith) | inr j ↦ j ]) in
    cc

pub limit_is : limit ≡ 512
unfolding limit
limit_is = refl

pub below_limit : (f : ℕ) → In (range_with_len 0 limit) f → f < 512
below_limit f i = let r = In-range_from 0 limit f i in omega (arith, r.1, limit_is)

pub In-limit : (f : ℕ) → f < 512 → In (range_with_len 0 limit) f
In-limit f low = In-range 0 limit f (omega arith) (omega (arith, limit_is))

-- the sets rise
pub Rises-filter : (p : ℕ → Bool) (xs : List ℕ) → Rises xs → Rises (filter p xs)
Rises-filter p xs r = Rising-filter (λ m n. m < n) p xs r

pub Rises-members : (words : List ℕ) → Rises (members words)
unfolding members
Rises-members words = Rises-filter (marked words) (range_with_len 0 limit) (Rising-range 0 limit)

pub Rises-union : (S T : List ℕ) → Rises (union S T)
unfolding union
Rises-union S T = Rises-filter (λ f. has f S || has f T) (range_with_len 0 limit) (Rising-range 0 limit)

pub Rises-added : (f : ℕ) (S : List ℕ) → Rises (added f S)
unfolding added
Rises-added f S = Rises-filter (λ g. eqb g f || has g S) (range_with_len 0 limit) (Rising-range 0 limit)

pub Rises-intersection : (S T : List ℕ) → Rises S → Rises (intersection S T)
unfolding intersection
Rises-intersection S T r = Rises-filter (λ f. has f T) S r

pub Rises-into : (k : Category) (c : ℕ) → Rises (into k c)
unfolding into
Rises-into k c = Rises-filter _ (range_with_len 0 (length k.ends)) (Rising-range 0 (length k.ends))

-- their members
pub In-intersection : (S T : List ℕ) (f : ℕ) → In S f → In T f → In (intersection S T) f
unfolding intersection
In-intersection S T f i j = In-filter (λ f. has f T) S f i (has-In T f j)

pub In-intersection_from : (S T : List ℕ) (f : ℕ) → In (intersection S T) f → In S f × In T f
unfolding intersection
In-intersection_from S T f i = let r = In-filter_from (λ f. has f T) S f i in (r.0, In-has T f r.1)

pub In-union_left : (S T : List ℕ) (f : ℕ) → f < 512 → In S f → In (union S T) f
unfolding union
In-union_left S T f low i = In-filter (λ f. has f S || has f T) (range_with_len 0 limit) f (In-limit f low) (or_left (has f S) (has f T) (has-In S f i))

pub In-union_right : (S T : List ℕ) (f : ℕ) → f < 512 → In T f → In (union S T) f
unfolding union
In-union_right S T f low i = In-filter (λ f. has f S || has f T) (range_with_len 0 limit) f (In-limit f low) (or_right (has f S) (has f T) (has-In T f i))

pub In-union_from : (S T : List ℕ) (f : ℕ) → In (union S T) f → In S f ⊎ In T f
unfolding union
In-union_from S T f i =
    let r = In-filter_from (λ f. has f S || has f T) (range_with_len 0 limit) f i in
    elim (or_cases (has f S) (has f T) r.1) [ inl e ↦ inl (In-has S f e) | inr e ↦ inr (In-has T f e) ]

pub In-added : (f : ℕ) (S : List ℕ) → f < 512 → In (added f S) f
unfolding added
In-added f S low = In-filter (λ g. eqb g f || has g S) (range_with_len 0 limit) f (In-limit f low) (or_left (eqb f f) (has f S) (eq-eqb f f refl))

pub In-added_old : (f g : ℕ) (S : List ℕ) → g < 512 → In S g → In (added f S) g
unfolding added
In-added_old f g S low i = In-filter (λ g. eqb g f || has g S) (range_with_len 0 limit) g (In-limit g low) (or_right (eqb g f) (has g S) (has-In S g i))

pub In-added_from : (f g : ℕ) (S : List ℕ) → In (added f S) g → (f ≡ g) ⊎ In S g
unfolding added
In-added_from f g S i =
    let r = In-filter_from (λ g. eqb g f || has g S) (range_with_len 0 limit) g i in
    elim (or_cases (eqb g f) (has g S) r.1) [ inl e ↦ inl (sym (eqb-true g f e)) | inr e ↦ inr (In-has S g e) ]

pub In-members_below : (words : List ℕ) (f : ℕ) → In (members words) f → f < 512
unfolding members
In-members_below words f i = below_limit f (In-filter_from (marked words) (range_with_len 0 limit) f i).0

-- one more member of none
pub added-none : (f : ℕ) → f < 512 → added f [] ≡ f ∷ []
added-none f low =
    same_members (added f []) (f ∷ []) (Rises-added f []) ((λ y i. absurd i), tt) (λ g i. In-added_from f g [] i)
    (λ g i. elim i [ inl e ↦ subst (λ g. In (added f []) g) e (In-added f [] low) | inr n ↦ absurd n ])

-- more members
pub Rises-all_added : (S xs : List ℕ) → Rises S → Rises (all_added S xs)
unfolding all_added
Rises-all_added S [] r = r
Rises-all_added S (x ∷ xs) r = Rises-all_added (added x S) xs (Rises-added x S)

pub In-all_added : (S xs : List ℕ) (f : ℕ) → f < 512 → In S f ⊎ In xs f → In (all_added S xs) f
unfolding all_added
In-all_added S [] f low (inl i) = i
In-all_added S [] f low (inr i) = absurd i
In-all_added S (x ∷ xs) f low (inl i) = In-all_added (added x S) xs f low (inl (In-added_old x f S low i))
In-all_added S (x ∷ xs) f low (inr (inl e)) = In-all_added (added x S) xs f low (inl (subst (λ x. In (added x S) f) (sym e) (In-added f S low)))
In-all_added S (x ∷ xs) f low (inr (inr i)) = In-all_added (added x S) xs f low (inr i)

pub In-all_added_from : (S xs : List ℕ) (f : ℕ) → In (all_added S xs) f → In S f ⊎ In xs f
unfolding all_added
In-all_added_from S [] f i = inl i
In-all_added_from S (x ∷ xs) f i =
    elim (In-all_added_from (added x S) xs f i) [
      | inl j ↦ elim (In-added_from x f S j) [ inl e ↦ inr (inl e) | inr l ↦ inl l ]
      | inr j ↦ inr (inr j)
    ]

-- a rising list of numbers, put into a set one after another
pub all_added-rising : (xs : List ℕ) → Rises xs → ((f : ℕ) → In xs f → f < 512) → all_added [] xs ≡ xs
all_added-rising xs r low =
    same_members (all_added [] xs) xs (Rises-all_added [] xs tt) r
    (λ f i. elim (In-all_added_from [] xs f i) [ inl n ↦ absurd n | inr j ↦ j ])
    (λ f i. In-all_added [] xs f (low f i) (inr i))

pub all_added-step : (S T xs : List ℕ) (i : ℕ) → i < length xs → T ≡ added (get_or xs i 0) S → all_added T (drop (i + 1) xs) ≡ all_added S (drop i xs)
unfolding all_added
all_added-step S T xs i low e = ap (λ U. all_added U (drop (i + 1) xs)) e ∙ ap (λ j. all_added (added (get_or xs i 0) S) (drop j xs)) (add-one i) ∙ sym (ap (all_added S) (drop-cons xs i 0 low))

pub all_added-end : (S xs : List ℕ) (i : ℕ) → length xs ≤ i → all_added S (drop i xs) ≡ S
unfolding all_added
all_added-end S xs i high = ap (all_added S) (drop_of_length-le xs high)
