-- Values of terms and Kripke-Joyal forcing (VI.5 to VI.7).
use Rattle.std.specs.Prelude.{ℕ, Bool, true, false, cond, ◌&&◌, ◌||◌, not, List, [], ◌∷◌, map, get_or, eqb, filter, flat_map, length}
use Rattle.std.specs.List.{list_any, list_all}
use Rattle.topos_model.specs.declared.ty.Ty.{Ty, One as OneTy}
use Rattle.topos_model.specs.declared.term.Term.{Term, Var, Star as StarTerm, Pair', Fst', Snd', App', Eval', Lam', Compr', Eq', Member', Truth, Falsity, And', Or', Implies', Not', Forall', Exists', Unique', more_of-Term as only, end_of-Term as end}
use Rattle.topos_model.specs.declared.value.Val.{Val, Star, Two, Sv, Sub, Fn}
use Rattle.topos_model.specs.categories.Category.{into, dom, has}
use Rattle.topos_model.specs.topologies.Cover.{Site, covers}
use Rattle.topos_model.specs.types.Values.{same, first_of, second_of, arrows_of, entries_of, assigns_of}
use Rattle.topos_model.specs.types.Types.{Presheaf, in_entries, at_place, places, elements, restr}

-- a site, the functors and the maps declared so far; a map has at each object the pairs of an element and its image
pub record World : Type 0 where
  pub site : Site
  pub functors : List Presheaf
  pub maps : List (List (List (Val × Val)))

-- the values of the variables with their types, the innermost first
abbrev pub Assigned : Type 0
Assigned = List (Ty × Val)

-- the image of a value in the table of a map
unfoldable pub image_of : Val → List (Val × Val) → Val
image_of v [] = Star
image_of v (pair ∷ rest) = cond (same pair.0 v) pair.1 (image_of v rest)

-- a property of tuples at each object
abbrev pub Property : Type 0
Property = ℕ → Assigned → Bool

-- what a term means: its value, and whether it is forced
pub record Meaning : Type 0 where
  pub value : ℕ → Assigned → Val
  pub forces : Property

module _ (w : World) where
  -- the arrows into c
  abbrev pub onto : ℕ → List ℕ
  onto c = into w.site.category c

  abbrev pub source : ℕ → ℕ
  source f = dom w.site.category f

  abbrev pub values : Ty → ℕ → List Val
  values T c = elements w.site w.functors T c

  -- a.f: each value restricted along f
  unfoldable pub along : ℕ → Assigned → Assigned
  along f a = map (λ x. (x.0, restr w.site w.functors x.0 f x.1)) a

  -- φ along all arrows of some cover
  unfoldable pub locally : Property → Property
  locally φ c a = list_any (λ cover. list_all (λ f. φ (source f) (along f a)) cover) (covers w.site c)

  -- φ along all arrows
  unfoldable pub always : Property → Property
  always φ c a = list_all (λ f. φ (source f) (along f a)) (onto c)

  -- the rows of the forcing table
  unfoldable pub falsity_forced : Property
  falsity_forced c a = locally (λ c a. false) c a

  unfoldable pub and_forced : Property → Property → Property
  and_forced φ ψ c a = φ c a && ψ c a

  unfoldable pub or_forced : Property → Property → Property
  or_forced φ ψ c a = locally (λ c a. φ c a || ψ c a) c a

  unfoldable pub implies_forced : Property → Property → Property
  implies_forced φ ψ c a = always (λ c a. not (φ c a) || ψ c a) c a

  unfoldable pub not_forced : Property → Property
  not_forced φ c a = always (λ c a. not (φ c a) || falsity_forced c a) c a

  unfoldable pub exists_forced : Ty → Property → Property
  exists_forced T φ c a = locally (λ c a. list_any (λ b. φ c ((T, b) ∷ a)) (values T c)) c a

  unfoldable pub forall_forced : Ty → Property → Property
  forall_forced T φ c a = always (λ c a. list_all (λ b. φ c ((T, b) ∷ a)) (values T c)) c a

  unfoldable pub unique_forced : Ty → Property → Property
  unique_forced T φ c a = always (λ c a. eqb (length (filter (λ b. φ c ((T, b) ∷ a)) (values T c))) 1) c a

  -- a term of another form is forced where its value holds the identity
  abbrev pub by_value : (ℕ → Assigned → Val) → Meaning
  by_value value = record { value = value; forces = λ c a. has c (arrows_of (value c a)) }

  -- the value of a formula is the list of the arrows along which it is forced
  abbrev pub by_forcing : Property → Meaning
  by_forcing forces = record { value = λ c a. Sv (filter (λ f. forces (source f) (along f a)) (onto c)); forces = forces }

  unfoldable pub meaning : Term → Meaning
  meaning (Var k) = by_value (λ c a. (get_or a k (OneTy, Star)).1)
  meaning StarTerm = by_value (λ c a. Star)
  meaning (Pair' _ (only t end) _ (only u end)) = by_value (λ c a. Two ((meaning t).value c a) ((meaning u).value c a))
  meaning (Fst' _ (only t end)) = by_value (λ c a. first_of ((meaning t).value c a))
  meaning (Snd' _ (only t end)) = by_value (λ c a. second_of ((meaning t).value c a))
  meaning (App' m _ (only t end)) = by_value (λ c a. image_of ((meaning t).value c a) (get_or (get_or w.maps m []) c []))
  meaning (Eval' _ (only t end) _ (only u end)) = by_value (λ c a. at_place c ((meaning u).value c a) (assigns_of ((meaning t).value c a)))
  meaning (Lam' T _ (only t end)) =
      by_value (λ c a. Fn (map (λ e. record { arrow = e.arrow; val = e.val; to = (meaning t).value (source e.arrow) ((T, e.val) ∷ along e.arrow a) })
      (places w.site (values T) c)))
  meaning (Compr' T _ (only φ end)) =
      by_value (λ c a. Sub (filter (λ e. (meaning φ).forces (source e.arrow) ((T, e.val) ∷ along e.arrow a)) (places w.site (values T) c)))
  meaning (Eq' _ (only t end) _ (only u end)) = by_forcing (λ c a. same ((meaning t).value c a) ((meaning u).value c a))
  meaning (Member' _ (only t end) _ (only u end)) = by_forcing (λ c a. in_entries c ((meaning t).value c a) (entries_of ((meaning u).value c a)))
  meaning Truth = by_forcing (λ c a. true)
  meaning Falsity = by_forcing falsity_forced
  meaning (And' _ (only φ end) _ (only ψ end)) = by_forcing (and_forced (meaning φ).forces (meaning ψ).forces)
  meaning (Or' _ (only φ end) _ (only ψ end)) = by_forcing (or_forced (meaning φ).forces (meaning ψ).forces)
  meaning (Implies' _ (only φ end) _ (only ψ end)) = by_forcing (implies_forced (meaning φ).forces (meaning ψ).forces)
  meaning (Not' _ (only φ end)) = by_forcing (not_forced (meaning φ).forces)
  meaning (Forall' T _ (only φ end)) = by_forcing (forall_forced T (meaning φ).forces)
  meaning (Exists' T _ (only φ end)) = by_forcing (exists_forced T (meaning φ).forces)
  meaning (Unique' T _ (only φ end)) = by_forcing (unique_forced T (meaning φ).forces)

  abbrev pub value : Term → ℕ → Assigned → Val
  value t c a = (meaning t).value c a

  abbrev pub forces : Term → Property
  forces φ c a = (meaning φ).forces c a

  -- the tuples of a context, lexicographic, and those that are forced
  unfoldable pub tuples : List Ty → ℕ → List Assigned
  tuples [] c = [] ∷ []
  tuples (T ∷ outer) c = flat_map (λ a. map (λ v. (T, v) ∷ a) (values T c)) (tuples outer c)

  unfoldable pub shown : List Ty → Term → ℕ → List Assigned
  shown context φ c = filter (forces φ c) (tuples context c)
