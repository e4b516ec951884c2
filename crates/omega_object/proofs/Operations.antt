-- The sets of arrows that the operations compute are the closed sieves that are meant.
use Rattle.std.proofs.Common.{◌≡◌, ℕ, ◌<◌, ◌≤◌, Bool, true, false, cond, inl, inr, List, [], ◌∷◌, length, get_or, map, filter, refl, sym, ap, subst, ◌∙◌, arith}
use Rattle.std.proofs.lemmas.List.{length-map}
use Rattle.finite_lists.specs.Members.{In}
use Rattle.finite_lists.proofs.Lists.{In_at, In-map, In-map_from, In-filter, In-filter_from}
use Rattle.topos_model.specs.categories.Category.{Category, into, dom, compose, pull}
use Rattle.topos_model.specs.topologies.Cover.{Site, contains}
use Rattle.topos_model.specs.Laws.{IsCategory, IsInto}
use Rattle.topos_model.specs.topologies.LeastCovers.{least, closure}
use Rattle.topos_model.specs.topologies.TopologyFaults.{intersection}
use Rattle.topos_model.proofs.ArrowsInto.{In-into, In-into_from}
use Rattle.fin_category.specs.Masks.{added, all_added, union}
use Rattle.fin_category.specs.ArrowSets.{arrows_in}
use Rattle.fin_category.proofs.ArrowLists.{contains-each, each-contains, same_members, Rises-all_added, Rises-filter, Rises-into, In-all_added, In-all_added_from, In-intersection, In-intersection_from}
use Rattle.sieve_table.proofs.SieveMembers.{IsSieve, In-pull, In-pull_from, union-sieve, goes}
use Rattle.topologies.proofs.LeastCovers.{least-into}
use Rattle.topologies.proofs.Closure.{In-closure_from, In-closure_least, closure_least_In, Rises-closure}
use Rattle.omega_object.specs.declared.omega.Omega.{Omega}
use Rattle.omega_object.specs.TruthValues.{closed_sieves, sieve_at, implication, IsNumber}
use Rattle.omega_object.specs.Tables.{mask_at, rows_at, composites_of, IsOmegaOn, IsInRange}
use Rattle.omega_object.proofs.Precedence.{mapped_at}

-- the arrows that pass a test, put into a set one after another
pub passed : (p : ℕ → Bool) (S rest : List ℕ) (f : ℕ) → p f ≡ true → all_added (added f S) (filter p rest) ≡ all_added S (filter p (f ∷ rest))
unfolding all_added
passed p S rest f e = ap (λ b. all_added S (cond b (f ∷ filter p rest) (filter p rest))) (sym e)

pub failed : (p : ℕ → Bool) (S rest : List ℕ) (f : ℕ) → p f ≡ false → all_added S (filter p rest) ≡ all_added S (filter p (f ∷ rest))
failed p S rest f e = ap (λ b. all_added S (cond b (f ∷ filter p rest) (filter p rest))) (sym e)

pub none_left : (p : ℕ → Bool) (S : List ℕ) → all_added S (filter p []) ≡ S
unfolding all_added
none_left p S = refl

pub added_next : (h : ℕ → ℕ) (S T rest : List ℕ) (g : ℕ) → T ≡ added (h g) S → all_added T (map h rest) ≡ all_added S (map h (g ∷ rest))
unfolding all_added
added_next h S T rest g e = ap (λ U. all_added U (map h rest)) e

pub added_none : (S : List ℕ) → all_added S [] ≡ S
unfolding all_added
added_none S = refl

module _ (k : Category) (few : length k.ends ≤ 512) where
  In-composites_of : (c f g : ℕ) (gs : List ℕ) → IsCategory k → IsInto k c f → IsInto k (dom k f) g → In gs g → In (composites_of k f gs) (compose k f g)
  unfolding composites_of
  In-composites_of c f g gs laws i j m =
      In-all_added [] (map (compose k f) gs) (compose k f g) (let low = (goes k laws i j).0 in omega (arith, low, few)) (inr (In-map (compose k f) gs g m))

  In-composites_of_from : (f x : ℕ) (gs : List ℕ) → In (composites_of k f gs) x → (g : ℕ) × In gs g × (compose k f g ≡ x)
  unfolding composites_of
  In-composites_of_from f x gs i = elim (In-all_added_from [] (map (compose k f) gs) x i) [ inl n ↦ absurd n | inr m ↦ In-map_from (compose k f) gs x m ]

module _ (s : Site) (Ω : Omega) (is : IsOmegaOn s Ω) where
  abbrev k : Category
  k = s.category

  pub in_range : (c : ℕ) → c < k.objects → IsInRange Ω c
  in_range c low = record {
    object = omega (arith, low, is.into_objects);
    below = λ f i. let a = In-into_from k c f (subst (λ l. In l f) (is.into_is c low) i) in let l = a.0 in omega (arith, l, is.below_arrows);
    covers = λ f i. let a = In-into_from k c f (subst (λ l. In l f) (is.into_is c low) i) in let l = a.0 in omega (arith, l, is.cover_arrows);
  }

  pub sieve_is : (c n : ℕ) → c < k.objects → n < length (rows_at Ω c) → mask_at (rows_at Ω c) n ≡ sieve_at s c n
  sieve_is c n low inside = sym (mapped_at arrows_in (rows_at Ω c) n _ [] inside) ∙ ap (λ l. get_or l n []) (is.sieves c low)

  pub sieve_in : (c n : ℕ) → c < k.objects → n < length (rows_at Ω c) → In (closed_sieves s c) (sieve_at s c n)
  sieve_in c n low inside =
      In_at (closed_sieves s c) n []
      (let e : length (rows_at Ω c) ≡ length (closed_sieves s c) = sym (length-map (rows_at Ω c) arrows_in) ∙ ap length (is.sieves c low) in omega (arith, inside, e))

  few_arrows : (c f : ℕ) (S : List ℕ) → IsSieve k c S → In S f → f < 512
  few_arrows c f S sieve i = let l = (sieve.within f i).0 in omega (arith, l, is.few)

  pub joined_sieve : (c : ℕ) (S T : List ℕ) → IsSieve k c S → IsSieve k c T → IsSieve k c (union S T)
  joined_sieve c S T h h' = union-sieve k c S T (λ f i. few_arrows c f S h i) (λ f i. few_arrows c f T h' i) h h'

  -- the arrows that go into a sieve along the least covers are its closure
  pub closed_is : (c : ℕ) (U : List ℕ) → c < k.objects → IsSieve k c U → all_added [] (filter (λ f. contains (mask_at Ω.covers f) U) (mask_at Ω.into c)) ≡ closure s c U
  closed_is c U low sieve =
      let p : ℕ → Bool = λ f. contains (mask_at Ω.covers f) U in
      let covers : (f : ℕ) → IsInto k c f → mask_at Ω.covers f ≡ composites_of k f (least s (dom k f)) = λ f a. is.covers_are f a.0 in
      same_members _ _ (Rises-all_added [] _ tt) (Rises-closure s c U)
      (λ f i.
      let r = In-filter_from p (mask_at Ω.into c) f (elim (In-all_added_from [] (filter p (mask_at Ω.into c)) f i) [ inl n ↦ absurd n | inr m ↦ m ]) in
      let a = In-into_from k c f (subst (λ l. In l f) (is.into_is c low) r.0) in
      In-closure_least s is.category is.topology c f U sieve a (λ g m.
      contains-each (mask_at Ω.covers f) U r.1 (compose k f g)
      (subst (λ l. In l (compose k f g)) (sym (covers f a)) (In-composites_of k is.few c f g (least s (dom k f)) is.category a (least-into s is.category (dom k f) g m) m))))
      (λ f i.
      let a = (In-closure_from s c f U i).0 in
      let low' : f < 512 = let l = a.0 in omega (arith, l, is.few) in
      In-all_added [] (filter p (mask_at Ω.into c)) f low'
      (inr (In-filter p (mask_at Ω.into c) f (subst (λ l. In l f) (sym (is.into_is c low)) (In-into k c f a))
      (each-contains (mask_at Ω.covers f) U (λ x m.
      let (g, n, e) = In-composites_of_from k is.few f x (least s (dom k f)) (subst (λ l. In l x) (covers f a) m) in
      subst (λ y. In U y) e (closure_least_In s is.category is.topology c f U i g n))))))

  pub implied_is : (c : ℕ) (S T : List ℕ) → c < k.objects → IsSieve k c S →
      all_added [] (filter (λ f. contains (intersection (mask_at Ω.below f) S) T) (mask_at Ω.into c)) ≡ implication k c S T
  unfolding implication
  implied_is c S T low sieve =
      let p : ℕ → Bool = λ f. contains (intersection (mask_at Ω.below f) S) T in
      let q : ℕ → Bool = λ f. contains (pull k f S) (pull k f T) in
      let below : (f : ℕ) → IsInto k c f → mask_at Ω.below f ≡ composites_of k f (into k (dom k f)) = λ f a. is.below_is f a.0 in
      same_members _ _ (Rises-all_added [] _ tt) (Rises-filter q (into k c) (Rises-into k c))
      (λ f i.
      let r = In-filter_from p (mask_at Ω.into c) f (elim (In-all_added_from [] (filter p (mask_at Ω.into c)) f i) [ inl n ↦ absurd n | inr m ↦ m ]) in
      let m = subst (λ l. In l f) (is.into_is c low) r.0 in
      let a = In-into_from k c f m in
      In-filter q (into k c) f m (each-contains (pull k f S) (pull k f T) (λ g n.
      let t = In-pull_from k f g S n in
      In-pull k f g T t.0 (contains-each (intersection (mask_at Ω.below f) S) T r.1 (compose k f g)
      (In-intersection (mask_at Ω.below f) S (compose k f g)
      (subst (λ l. In l (compose k f g)) (sym (below f a)) (In-composites_of k is.few c f g (into k (dom k f)) is.category a t.0 (In-into k (dom k f) g t.0))) t.1)))))
      (λ f i.
      let r = In-filter_from q (into k c) f i in
      let a = In-into_from k c f r.0 in
      let low' : f < 512 = let l = a.0 in omega (arith, l, is.few) in
      In-all_added [] (filter p (mask_at Ω.into c)) f low'
      (inr (In-filter p (mask_at Ω.into c) f (subst (λ l. In l f) (sym (is.into_is c low)) r.0)
      (each-contains (intersection (mask_at Ω.below f) S) T (λ x m.
      let t = In-intersection_from (mask_at Ω.below f) S x m in
      let (g, n, e) = In-composites_of_from k is.few f x (into k (dom k f)) (subst (λ l. In l x) (below f a) t.0) in
      let j = In-into_from k (dom k f) g n in
      subst (λ y. In T y) e (In-pull_from k f g T (contains-each (pull k f S) (pull k f T) r.1 g (In-pull k f g S j (subst (λ y. In S y) (sym e) t.1)))).1)))))

  pub number_is : (c n : ℕ) (S T : List ℕ) → S ≡ T → IsNumber s c n S → IsNumber s c n T
  number_is c n S T e h = subst (λ U. IsNumber s c n U) e h
