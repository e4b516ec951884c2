-- The names of a scope, and those that are kept together.
use Rattle.std.proofs.Common.{◌≡◌, ℕ, Bool, true, false, ◌||◌, List, [], ◌∷◌, ◌++◌, map, eqb, get_or, slice_get, unwrap_or, bytes_eq, Option, None, Some, Ok, Err, refl, sym, ap, ◌∙◌}
use Rattle.std.specs.List.{list_any}
use Rattle.std.proofs.lemmas.List.Folds.{list_any-append}
use Rattle.finite_lists.specs.First.{some_if}
use Rattle.topos_model.specs.declared.fault.Fault.{Fault}
use Rattle.topos_model.specs.declared.fault.Fault.TheVariants.{NameTwice, NameUnknown}
use Rattle.topos_text.specs.Tokens.{Written}
use Rattle.topos_text.specs.Names.{Name, Scope, twice_fault, known, look_up, functor_of, functor_names, category_names, category_functor_names, on_functor_names}
use Rattle.topos_text.specs.StatementNames.{category_of, category_functor_of, element_names, space_of, on_functor_of}
use Rattle.topos_names.specs.Spaces as held
use Rattle.topos_names.specs.declared.space.Space.{Space}
use Rattle.topos_names.specs.declared.scope.OnFunctor.{OnFunctor}
use Rattle.topos_names.proofs.NameLists.{at_number}
use Rattle.topos_names.specs.Scopes.{functor_name, category_name, on_name, seen, IsScope}
use Rattle.topos_names.specs.declared.scope.Scope.TheInside.{Inside}

-- whether a name is in a list
abbrev pub has : Name → List Name → Bool
has y xs = list_any (λ z. bytes_eq z y) xs

-- the first list has the name x besides those of the second
abbrev pub Adds : Name → List Name → List Name → Type 0
Adds x more xs = (y : Name) → has y more ≡ (has y xs || bytes_eq x y)

module _ (x : Name) where
  or_last : (a b c : Bool) → ((a || b) || c) ≡ ((a || c) || b)
  or_last true b c = refl
  or_last false true true = refl
  or_last false true false = refl
  or_last false false true = refl
  or_last false false false = refl

  or_assoc : (a b c : Bool) → (a || (b || c)) ≡ ((a || b) || c)
  or_assoc true b c = refl
  or_assoc false b c = refl

  or_false : (a : Bool) → (a || false) ≡ a
  or_false true = refl
  or_false false = refl

  pub Adds-last : (xs : List Name) → Adds x (xs ++ x ∷ []) xs
  Adds-last xs y = list_any-append (λ z. bytes_eq z y) xs (x ∷ []) ∙ ap (λ b. has y xs || b) (or_false (bytes_eq x y))

  pub Adds-front : (more xs ys : List Name) → Adds x more xs → Adds x (more ++ ys) (xs ++ ys)
  Adds-front more xs ys h y = rw (list_any-append (λ z. bytes_eq z y) more ys, list_any-append (λ z. bytes_eq z y) xs ys, h y) (or_last (has y xs) (bytes_eq x y) (has y ys))

  pub Adds-back : (xs more ys : List Name) → Adds x more ys → Adds x (xs ++ more) (xs ++ ys)
  Adds-back xs more ys h y = rw (list_any-append (λ z. bytes_eq z y) xs more, list_any-append (λ z. bytes_eq z y) xs ys, h y) (or_assoc (has y xs) (has y ys) (bytes_eq x y))

-- the names of the first list are among those of the second
pub record IsPart (xs all : List Name) : Type 0 where
  pub there : (y : Name) → has y xs ≡ true → has y all ≡ true

or_true : (a b : Bool) → b ≡ true → (a || b) ≡ true
or_true true b h = refl
or_true false b h = h

pub IsPart-same : (xs : List Name) → IsPart xs xs
IsPart-same xs = record { there = λ y h. h }

pub IsPart-left : (xs all ys : List Name) → IsPart xs all → IsPart xs (all ++ ys)
IsPart-left xs all ys p = record { there = λ y h. list_any-append (λ z. bytes_eq z y) all ys ∙ ap (λ b. b || has y ys) (p.there y h) }

pub IsPart-right : (xs all : List Name) → IsPart xs (all ++ xs)
IsPart-right xs all = record { there = λ y h. list_any-append (λ z. bytes_eq z y) all xs ∙ or_true (has y all) (has y xs) h }

pub not_there : (xs all : List Name) (y : Name) → IsPart xs all → has y all ≡ false → has y xs ≡ false
not_there xs all y p none = by (has y xs) refl
  where
    by : (b : Bool) → has y xs ≡ b → has y xs ≡ false
    by true e = cc (p.there y e, none)
    by false e = e

-- the name is new exactly if it is not there
pub has-new : (xs : List Name) (x : Written) → twice_fault xs x ≡ None → has x.text xs ≡ false
unfolding twice_fault
has-new xs x e = by (has x.text xs) refl e
  where
    by : (b : Bool) → has x.text xs ≡ b → some_if b (NameTwice x.token x.text) ≡ None → has x.text xs ≡ false
    by true p h = cc
    by false p h = p

-- a name that stands twice in a part stands twice in all
pub twice_in_part : (xs all : List Name) (x : Written) (fault : Fault) → IsPart xs all → twice_fault xs x ≡ Some fault → twice_fault all x ≡ Some fault
unfolding twice_fault
twice_in_part xs all x fault p e = by (has x.text xs) refl e
  where
    by : (b : Bool) → has x.text xs ≡ b → some_if b (NameTwice x.token x.text) ≡ Some fault → some_if (has x.text all) (NameTwice x.token x.text) ≡ Some fault
    by true t h = rw (p.there x.text t) h
    by false t h = cc

-- lists with the same names
pub twice_fault-same : (xs ys : List Name) (x : Written) → has x.text xs ≡ has x.text ys → twice_fault xs x ≡ twice_fault ys x
unfolding twice_fault
twice_fault-same xs ys x e = rw e

-- the names of the tables
module _ {V B : Type 0} (g : Name × V → B) (name : B → Name) (same : (e : Name × V) → name (g e) ≡ e.0) where
  names-seen : (es : List (Name × V)) → map name (map g es) ≡ map (λ e. e.0) es
  names-seen [] = refl
  names-seen (e ∷ es) = rw (same e, names-seen es)

pub functor_names-seen : (a : Inside) → functor_names (seen a) ≡ map (λ e. e.0) a.functors
functor_names-seen a = names-seen functor_name (λ f. f.name) (λ e. refl) a.functors

pub category_names-seen : (a : Inside) → category_names (seen a) ≡ map (λ e. e.0) a.cats
category_names-seen a = names-seen category_name (λ d. d.name) (λ e. refl) a.cats

pub on_functor_names-seen : (a : Inside) → on_functor_names (seen a) ≡ map (λ e. e.0) a.on_functors
on_functor_names-seen a = names-seen on_name (λ p. p.name) (λ e. refl) a.on_functors

-- what is looked up in a scope
module _ (a : Inside) (s : Scope) (is : seen a ≡ s) (x : Written) where
  pub functor_of-seen : functor_of s x ≡ look_up (map (λ e. e.0) a.functors) x
  functor_of-seen = rw (← is, functor_names-seen a)

  pub category_of-seen : category_of s x ≡ look_up (map (λ e. e.0) a.cats) x
  category_of-seen = rw (← is, category_names-seen a)

  pub category_functor_of-seen : category_functor_of s x ≡ look_up (map (λ e. e.0) a.cat_functors) x
  category_functor_of-seen = rw (← is)

  pub known_twice : IsScope a → twice_fault (known s) x ≡ twice_fault a.known x
  known_twice h = rw (← is) (twice_fault-same (known (seen a)) a.known x (sym (h.kept x.text)))

-- the parts of what is known
module _ (a : Inside) where
  pub functors_part : IsPart (functor_names (seen a)) (known (seen a))
  unfolding known
  functors_part =
      IsPart-left _ _ (seen a).on_maps (IsPart-left _ _ (on_functor_names (seen a)) (IsPart-left _ _ (category_functor_names (seen a)) (IsPart-left _ _ (category_names (seen a)) (IsPart-left _ _ (seen a).maps (IsPart-right _ _)))))

  pub maps_part : IsPart (seen a).maps (known (seen a))
  unfolding known
  maps_part = IsPart-left _ _ (seen a).on_maps (IsPart-left _ _ (on_functor_names (seen a)) (IsPart-left _ _ (category_functor_names (seen a)) (IsPart-left _ _ (category_names (seen a)) (IsPart-right _ _))))

  pub cats_part : IsPart (category_names (seen a)) (known (seen a))
  unfolding known
  cats_part = IsPart-left _ _ (seen a).on_maps (IsPart-left _ _ (on_functor_names (seen a)) (IsPart-left _ _ (category_functor_names (seen a)) (IsPart-right _ _)))

  pub cat_functors_part : IsPart (category_functor_names (seen a)) (known (seen a))
  unfolding known
  cat_functors_part = IsPart-left _ _ (seen a).on_maps (IsPart-left _ _ (on_functor_names (seen a)) (IsPart-right _ _))

  pub on_functors_part : IsPart (on_functor_names (seen a)) (known (seen a))
  unfolding known
  on_functors_part = IsPart-left _ _ (seen a).on_maps (IsPart-right _ _)

  pub on_maps_part : IsPart (seen a).on_maps (known (seen a))
  unfolding known
  on_maps_part = IsPart-right _ _

  module _ (x : Written) (h : IsScope a) (new : twice_fault a.known x ≡ None) where
    unknown_name : (xs : List Name) → IsPart xs (known (seen a)) → has x.text xs ≡ false
    unknown_name xs p = not_there xs (known (seen a)) x.text p (sym (h.kept x.text) ∙ has-new a.known x new)

    pub functor_new : list_any (λ y. bytes_eq y x.text) (map (λ e. e.0) a.functors) ≡ false
    functor_new = rw (functor_names-seen a) at (unknown_name (functor_names (seen a)) functors_part)

    pub map_new : list_any (λ y. bytes_eq y x.text) a.maps ≡ false
    map_new = unknown_name a.maps maps_part

    pub category_new : list_any (λ y. bytes_eq y x.text) (map (λ e. e.0) a.cats) ≡ false
    category_new = rw (category_names-seen a) at (unknown_name (category_names (seen a)) cats_part)

    pub category_functor_new : list_any (λ y. bytes_eq y x.text) (map (λ e. e.0) a.cat_functors) ≡ false
    category_functor_new = unknown_name (category_functor_names (seen a)) cat_functors_part

    pub on_functor_new : list_any (λ y. bytes_eq y x.text) (map (λ e. e.0) a.on_functors) ≡ false
    on_functor_new = rw (on_functor_names-seen a) at (unknown_name (on_functor_names (seen a)) on_functors_part)

    pub on_map_new : list_any (λ y. bytes_eq y x.text) a.on_maps ≡ false
    on_map_new = unknown_name a.on_maps on_maps_part

-- what stands under a number
module _ (a : Inside) (s : Scope) (is : seen a ≡ s) where
  pub element_names-at : (X U : ℕ) (v : Option (List (List Name))) → slice_get (map (λ e. e.1) a.functors) X ≡ Some v → element_names s X U ≡ get_or (unwrap_or v []) U []
  unfolding element_names
  element_names-at X U v e = rw (← is) (at_number functor_name (λ f. get_or (unwrap_or f.elements []) U []) (λ v. get_or (unwrap_or v []) U []) (λ e. refl) a.functors X (record { name = []; elements = None }) v e)

  pub space_of-at : (d : ℕ) (v : Space) → slice_get (map (λ e. e.1) a.cats) d ≡ Some v → held.space_of v ≡ space_of s d
  unfolding space_of
  space_of-at d v e = sym (rw (← is) (at_number category_name (λ D. record { total = D.cat.objects; objects = D.objects; arrows = D.arrows; ends = D.cat.ends; listed = D.cat.listed }) held.space_of (λ e. refl) a.cats d (record { name = []; objects = []; arrows = []; cat = record { objects = 0; ends = []; listed = [] } }) v e))

  module _ (d : ℕ) (p : Written) where
    pub on_functor_of-none : (fault : Fault) → look_up (map (λ e. e.0) a.on_functors) p ≡ Err fault → on_functor_of s d p ≡ Err fault
    unfolding on_functor_of
    on_functor_of-none fault e = rw (← is, on_functor_names-seen a, e)

    on_cat : (k : ℕ) (v : OnFunctor) → slice_get (map (λ e. e.1) a.on_functors) k ≡ Some v → (get_or (seen a).on_functors k (record { name = []; cat = 0; elements = None })).cat ≡ v.cat
    on_cat k v e = at_number on_name (λ q. q.cat) (λ v. v.cat) (λ e. refl) a.on_functors k (record { name = []; cat = 0; elements = None }) v e

    pub on_functor_of-other : (k : ℕ) (v : OnFunctor) (fault : Fault) → look_up (map (λ e. e.0) a.on_functors) p ≡ Ok k → slice_get (map (λ e. e.1) a.on_functors) k ≡ Some v → eqb v.cat d ≡ false → fault ≡ NameUnknown p.token p.text → on_functor_of s d p ≡ Err fault
    unfolding on_functor_of
    on_functor_of-other k v fault e at other is_fault = rw (← is, on_functor_names-seen a, e, on_cat k v at, other, is_fault)

    pub on_functor_of-some : (k : ℕ) (v : OnFunctor) → look_up (map (λ e. e.0) a.on_functors) p ≡ Ok k → slice_get (map (λ e. e.1) a.on_functors) k ≡ Some v → eqb v.cat d ≡ true → on_functor_of s d p ≡ Ok k
    unfolding on_functor_of
    on_functor_of-some k v e at same = rw (← is, on_functor_names-seen a, e, on_cat k v at, same)
