-- The range of a statement's numbers, and what it declares, a form of statement at a time.
use Rattle.std.proofs.Common.{◌≡◌, ℕ, ◌≤◌, true, ◌&&◌, eqb, ltb, List, Option, Some, None, refl, ap, arith}
use Rattle.topos_model.specs.declared.raw.RawFunctor.{RawFunctor}
use Rattle.topos_model.specs.declared.raw.RawMap.{RawMap}
use Rattle.topos_model.specs.declared.ty.Ty.{Ty}
use Rattle.topos_model.specs.declared.context.Ctx.{Ctx}
use Rattle.term_ranges.specs.Ranges.{is_type_in_range, is_term_in_range}
use Rattle.topos_model.specs.declared.term.Term.{Term}
use Rattle.topos_model.specs.declared.stmt.Stmt.{Stmt}
use Rattle.topos_model.specs.declared.stmt.Stmt.TheVariants.{Presheaf, Map, Product, Coproduct, Equalizer, Coequalizer, Pullback, Pushout, Image, Empty, Sheaf, Hom, Build, Sub, Let, Show, Classify, Valid}
use Rattle.topos_session.specs.Constructions.{is_construction}
use Rattle.topos_model.specs.statements.Form.{is_presheaf_listing, is_map_listing}
use Rattle.topos_session.specs.Ranges.{is_formula_in_range, declares, is_in_range}

-- the number of functors in a count
abbrev first : Option (ℕ × ℕ) → ℕ
first o = elim o [ Some made ↦ made.0 | None ↦ 0 ]

at_most : (m a : ℕ) → m ≡ a → m ≤ 1 → a ≤ 1
at_most m a e l = omega (arith, e, l)

pub range-Presheaf : (objects : ℕ) (ends : List (ℕ × ℕ)) (n l : ℕ) (functor : ℕ) (raw : RawFunctor) → is_in_range objects ends n l (Presheaf functor raw) ≡ (eqb functor n && is_presheaf_listing objects ends raw)
unfolding is_in_range
range-Presheaf objects ends n l functor raw = refl

pub range-Map : (objects : ℕ) (ends : List (ℕ × ℕ)) (n l : ℕ) (m x y : ℕ) (raw : RawMap) → is_in_range objects ends n l (Map m x y raw) ≡ (ltb x n && ltb y n && is_map_listing objects raw.entries)
unfolding is_in_range
range-Map objects ends n l m x y raw = refl

pub range-Product : (objects : ℕ) (ends : List (ℕ × ℕ)) (n l : ℕ) (x y z p q : ℕ) → is_in_range objects ends n l (Product x y z p q) ≡ (eqb z n && ltb x n && ltb y n)
unfolding is_in_range
range-Product objects ends n l x y z p q = refl

pub range-Coproduct : (objects : ℕ) (ends : List (ℕ × ℕ)) (n l : ℕ) (x y z p q : ℕ) → is_in_range objects ends n l (Coproduct x y z p q) ≡ (eqb z n && ltb x n && ltb y n)
unfolding is_in_range
range-Coproduct objects ends n l x y z p q = refl

pub range-Equalizer : (objects : ℕ) (ends : List (ℕ × ℕ)) (n l : ℕ) (m m' z i : ℕ) → is_in_range objects ends n l (Equalizer m m' z i) ≡ (eqb z n && ltb m l && ltb m' l)
unfolding is_in_range
range-Equalizer objects ends n l m m' z i = refl

pub range-Coequalizer : (objects : ℕ) (ends : List (ℕ × ℕ)) (n l : ℕ) (m m' z q : ℕ) → is_in_range objects ends n l (Coequalizer m m' z q) ≡ (eqb z n && ltb m l && ltb m' l)
unfolding is_in_range
range-Coequalizer objects ends n l m m' z q = refl

pub range-Pullback : (objects : ℕ) (ends : List (ℕ × ℕ)) (n l : ℕ) (m m' z p q : ℕ) → is_in_range objects ends n l (Pullback m m' z p q) ≡ (eqb z n && ltb m l && ltb m' l)
unfolding is_in_range
range-Pullback objects ends n l m m' z p q = refl

pub range-Pushout : (objects : ℕ) (ends : List (ℕ × ℕ)) (n l : ℕ) (m m' z i j : ℕ) → is_in_range objects ends n l (Pushout m m' z i j) ≡ (eqb z n && ltb m l && ltb m' l)
unfolding is_in_range
range-Pushout objects ends n l m m' z i j = refl

pub range-Image : (objects : ℕ) (ends : List (ℕ × ℕ)) (n l : ℕ) (m z e j : ℕ) → is_in_range objects ends n l (Image m z e j) ≡ (eqb z n && ltb m l)
unfolding is_in_range
range-Image objects ends n l m z e j = refl

pub range-Sheaf : (objects : ℕ) (ends : List (ℕ × ℕ)) (n l : ℕ) (under x : ℕ) → is_in_range objects ends n l (Sheaf under x) ≡ ltb x n
unfolding is_in_range
range-Sheaf objects ends n l under x = refl

pub range-Hom : (objects : ℕ) (ends : List (ℕ × ℕ)) (n l : ℕ) (x y : ℕ) → is_in_range objects ends n l (Hom x y) ≡ (ltb x n && ltb y n)
unfolding is_in_range
range-Hom objects ends n l x y = refl

pub range-Show : (objects : ℕ) (ends : List (ℕ × ℕ)) (n l : ℕ) (under : ℕ) (ctx : Ctx) (φ : Term) → is_in_range objects ends n l (Show under ctx φ) ≡ is_formula_in_range n l ctx φ
unfolding is_in_range
range-Show objects ends n l under ctx φ = refl

pub range-Classify : (objects : ℕ) (ends : List (ℕ × ℕ)) (n l : ℕ) (under : ℕ) (ctx : Ctx) (φ : Term) → is_in_range objects ends n l (Classify under ctx φ) ≡ is_formula_in_range n l ctx φ
unfolding is_in_range
range-Classify objects ends n l under ctx φ = refl

pub range-Valid : (objects : ℕ) (ends : List (ℕ × ℕ)) (n l : ℕ) (under : ℕ) (ctx : Ctx) (φ : Term) → is_in_range objects ends n l (Valid under ctx φ) ≡ is_formula_in_range n l ctx φ
unfolding is_in_range
range-Valid objects ends n l under ctx φ = refl

pub range-Let : (objects : ℕ) (ends : List (ℕ × ℕ)) (n l : ℕ) (under m : ℕ) (T : Ty) (t : Term) → is_in_range objects ends n l (Let under m T t) ≡ (is_type_in_range n T && is_term_in_range n l t)
unfolding is_in_range
range-Let objects ends n l under m T t = refl

pub range-Build : (objects : ℕ) (ends : List (ℕ × ℕ)) (n l : ℕ) (under z : ℕ) (T : Ty) (u v : ℕ) → is_in_range objects ends n l (Build under z T u v) ≡ (eqb z n && is_type_in_range n T)
unfolding is_in_range
range-Build objects ends n l under z T u v = refl

pub range-Sub : (objects : ℕ) (ends : List (ℕ × ℕ)) (n l : ℕ) (under z : ℕ) (T : Ty) (φ : Term) (i : ℕ) → is_in_range objects ends n l (Sub under z T φ i) ≡ (eqb z n && is_type_in_range n T && is_term_in_range n l φ)
unfolding is_in_range
range-Sub objects ends n l under z T φ i = refl

pub range-other : (objects : ℕ) (ends : List (ℕ × ℕ)) (n l : ℕ) (stmt : Stmt)
    → ((functor : ℕ) (raw : RawFunctor) → stmt ≡ Presheaf functor raw → ⊥)
    → ((m x y : ℕ) (raw : RawMap) → stmt ≡ Map m x y raw → ⊥)
    → ((x y z p q : ℕ) → stmt ≡ Product x y z p q → ⊥)
    → ((x y z p q : ℕ) → stmt ≡ Coproduct x y z p q → ⊥)
    → ((m m' z i : ℕ) → stmt ≡ Equalizer m m' z i → ⊥)
    → ((m m' z q : ℕ) → stmt ≡ Coequalizer m m' z q → ⊥)
    → ((m m' z p q : ℕ) → stmt ≡ Pullback m m' z p q → ⊥)
    → ((m m' z i j : ℕ) → stmt ≡ Pushout m m' z i j → ⊥)
    → ((m z e j : ℕ) → stmt ≡ Image m z e j → ⊥)
    → ((under x : ℕ) → stmt ≡ Sheaf under x → ⊥)
    → ((x y : ℕ) → stmt ≡ Hom x y → ⊥)
    → ((under : ℕ) (ctx : Ctx) (φ : Term) → stmt ≡ Show under ctx φ → ⊥)
    → ((under : ℕ) (ctx : Ctx) (φ : Term) → stmt ≡ Classify under ctx φ → ⊥)
    → ((under : ℕ) (ctx : Ctx) (φ : Term) → stmt ≡ Valid under ctx φ → ⊥)
    → ((under m : ℕ) (T : Ty) (t : Term) → stmt ≡ Let under m T t → ⊥)
    → ((under z : ℕ) (T : Ty) (u v : ℕ) → stmt ≡ Build under z T u v → ⊥)
    → ((under z : ℕ) (T : Ty) (φ : Term) (i : ℕ) → stmt ≡ Sub under z T φ i → ⊥)
    → is_in_range objects ends n l stmt ≡ true
unfolding is_in_range
range-other objects ends n l (Presheaf functor raw) h _ _ _ _ _ _ _ _ _ _ _ _ _ _ _ _ = absurd (h functor raw refl)
range-other objects ends n l (Map m x y raw) _ h _ _ _ _ _ _ _ _ _ _ _ _ _ _ _ = absurd (h m x y raw refl)
range-other objects ends n l (Product x y z p q) _ _ h _ _ _ _ _ _ _ _ _ _ _ _ _ _ = absurd (h x y z p q refl)
range-other objects ends n l (Coproduct x y z p q) _ _ _ h _ _ _ _ _ _ _ _ _ _ _ _ _ = absurd (h x y z p q refl)
range-other objects ends n l (Equalizer m m' z i) _ _ _ _ h _ _ _ _ _ _ _ _ _ _ _ _ = absurd (h m m' z i refl)
range-other objects ends n l (Coequalizer m m' z q) _ _ _ _ _ h _ _ _ _ _ _ _ _ _ _ _ = absurd (h m m' z q refl)
range-other objects ends n l (Pullback m m' z p q) _ _ _ _ _ _ h _ _ _ _ _ _ _ _ _ _ = absurd (h m m' z p q refl)
range-other objects ends n l (Pushout m m' z i j) _ _ _ _ _ _ _ h _ _ _ _ _ _ _ _ _ = absurd (h m m' z i j refl)
range-other objects ends n l (Image m z e j) _ _ _ _ _ _ _ _ h _ _ _ _ _ _ _ _ = absurd (h m z e j refl)
range-other objects ends n l (Sheaf under x) _ _ _ _ _ _ _ _ _ h _ _ _ _ _ _ _ = absurd (h under x refl)
range-other objects ends n l (Hom x y) _ _ _ _ _ _ _ _ _ _ h _ _ _ _ _ _ = absurd (h x y refl)
range-other objects ends n l (Show under ctx φ) _ _ _ _ _ _ _ _ _ _ _ h _ _ _ _ _ = absurd (h under ctx φ refl)
range-other objects ends n l (Classify under ctx φ) _ _ _ _ _ _ _ _ _ _ _ _ h _ _ _ _ = absurd (h under ctx φ refl)
range-other objects ends n l (Valid under ctx φ) _ _ _ _ _ _ _ _ _ _ _ _ _ h _ _ _ = absurd (h under ctx φ refl)
range-other objects ends n l (Let under m T t) _ _ _ _ _ _ _ _ _ _ _ _ _ _ h _ _ = absurd (h under m T t refl)
range-other objects ends n l (Build under z T u v) _ _ _ _ _ _ _ _ _ _ _ _ _ _ _ h _ = absurd (h under z T u v refl)
range-other objects ends n l (Sub under z T φ i) _ _ _ _ _ _ _ _ _ _ _ _ _ _ _ _ h = absurd (h under z T φ i refl)
range-other objects ends n l _ _ _ _ _ _ _ _ _ _ _ _ _ _ _ _ _ _ = refl

pub ruleset range_rules = (range-Presheaf, range-Map, range-Product, range-Coproduct, range-Equalizer, range-Coequalizer, range-Pullback, range-Pushout, range-Image, range-Sheaf, range-Hom, range-Show, range-Classify, range-Valid, range-Let, range-Build, range-Sub)

pub declares-Presheaf : (functor : ℕ) (raw : RawFunctor) → declares (Presheaf functor raw) ≡ Some (1, 0)
unfolding declares
declares-Presheaf functor raw = refl

pub declares-Map : (m x y : ℕ) (raw : RawMap) → declares (Map m x y raw) ≡ Some (0, 1)
unfolding declares
declares-Map m x y raw = refl

pub declares-Product : (x y z p q : ℕ) → declares (Product x y z p q) ≡ Some (1, 2)
unfolding declares
declares-Product x y z p q = refl

pub declares-Coproduct : (x y z p q : ℕ) → declares (Coproduct x y z p q) ≡ Some (1, 2)
unfolding declares
declares-Coproduct x y z p q = refl

pub declares-Equalizer : (m m' z i : ℕ) → declares (Equalizer m m' z i) ≡ Some (1, 1)
unfolding declares
declares-Equalizer m m' z i = refl

pub declares-Coequalizer : (m m' z q : ℕ) → declares (Coequalizer m m' z q) ≡ Some (1, 1)
unfolding declares
declares-Coequalizer m m' z q = refl

pub declares-Pullback : (m m' z p q : ℕ) → declares (Pullback m m' z p q) ≡ Some (1, 2)
unfolding declares
declares-Pullback m m' z p q = refl

pub declares-Pushout : (m m' z i j : ℕ) → declares (Pushout m m' z i j) ≡ Some (1, 2)
unfolding declares
declares-Pushout m m' z i j = refl

pub declares-Image : (m z e j : ℕ) → declares (Image m z e j) ≡ Some (1, 2)
unfolding declares
declares-Image m z e j = refl

pub declares-Empty : (z : ℕ) → declares (Empty z) ≡ Some (1, 0)
unfolding declares
declares-Empty z = refl

pub declares-Sheaf : (under x : ℕ) → declares (Sheaf under x) ≡ Some (0, 0)
unfolding declares
declares-Sheaf under x = refl

pub declares-Hom : (x y : ℕ) → declares (Hom x y) ≡ Some (0, 0)
unfolding declares
declares-Hom x y = refl

pub declares-Show : (under : ℕ) (ctx : Ctx) (φ : Term) → declares (Show under ctx φ) ≡ Some (0, 0)
unfolding declares
declares-Show under ctx φ = refl

pub declares-Classify : (under : ℕ) (ctx : Ctx) (φ : Term) → declares (Classify under ctx φ) ≡ Some (0, 0)
unfolding declares
declares-Classify under ctx φ = refl

pub declares-Valid : (under : ℕ) (ctx : Ctx) (φ : Term) → declares (Valid under ctx φ) ≡ Some (0, 0)
unfolding declares
declares-Valid under ctx φ = refl

pub declares-Let : (under m : ℕ) (T : Ty) (t : Term) → declares (Let under m T t) ≡ Some (0, 1)
unfolding declares
declares-Let under m T t = refl

pub declares-Build : (under z : ℕ) (T : Ty) (u v : ℕ) → declares (Build under z T u v) ≡ Some (1, 2)
unfolding declares
declares-Build under z T u v = refl

pub declares-Sub : (under z : ℕ) (T : Ty) (φ : Term) (i : ℕ) → declares (Sub under z T φ i) ≡ Some (1, 1)
unfolding declares
declares-Sub under z T φ i = refl

pub declares-other : (stmt : Stmt)
    → ((functor : ℕ) (raw : RawFunctor) → stmt ≡ Presheaf functor raw → ⊥)
    → ((m x y : ℕ) (raw : RawMap) → stmt ≡ Map m x y raw → ⊥)
    → ((x y z p q : ℕ) → stmt ≡ Product x y z p q → ⊥)
    → ((x y z p q : ℕ) → stmt ≡ Coproduct x y z p q → ⊥)
    → ((m m' z i : ℕ) → stmt ≡ Equalizer m m' z i → ⊥)
    → ((m m' z q : ℕ) → stmt ≡ Coequalizer m m' z q → ⊥)
    → ((m m' z p q : ℕ) → stmt ≡ Pullback m m' z p q → ⊥)
    → ((m m' z i j : ℕ) → stmt ≡ Pushout m m' z i j → ⊥)
    → ((m z e j : ℕ) → stmt ≡ Image m z e j → ⊥)
    → ((z : ℕ) → stmt ≡ Empty z → ⊥)
    → ((under x : ℕ) → stmt ≡ Sheaf under x → ⊥)
    → ((x y : ℕ) → stmt ≡ Hom x y → ⊥)
    → ((under : ℕ) (ctx : Ctx) (φ : Term) → stmt ≡ Show under ctx φ → ⊥)
    → ((under : ℕ) (ctx : Ctx) (φ : Term) → stmt ≡ Classify under ctx φ → ⊥)
    → ((under : ℕ) (ctx : Ctx) (φ : Term) → stmt ≡ Valid under ctx φ → ⊥)
    → ((under m : ℕ) (T : Ty) (t : Term) → stmt ≡ Let under m T t → ⊥)
    → ((under z : ℕ) (T : Ty) (u v : ℕ) → stmt ≡ Build under z T u v → ⊥)
    → ((under z : ℕ) (T : Ty) (φ : Term) (i : ℕ) → stmt ≡ Sub under z T φ i → ⊥)
    → declares stmt ≡ None
unfolding declares
declares-other (Presheaf functor raw) h _ _ _ _ _ _ _ _ _ _ _ _ _ _ _ _ _ = absurd (h functor raw refl)
declares-other (Map m x y raw) _ h _ _ _ _ _ _ _ _ _ _ _ _ _ _ _ _ = absurd (h m x y raw refl)
declares-other (Product x y z p q) _ _ h _ _ _ _ _ _ _ _ _ _ _ _ _ _ _ = absurd (h x y z p q refl)
declares-other (Coproduct x y z p q) _ _ _ h _ _ _ _ _ _ _ _ _ _ _ _ _ _ = absurd (h x y z p q refl)
declares-other (Equalizer m m' z i) _ _ _ _ h _ _ _ _ _ _ _ _ _ _ _ _ _ = absurd (h m m' z i refl)
declares-other (Coequalizer m m' z q) _ _ _ _ _ h _ _ _ _ _ _ _ _ _ _ _ _ = absurd (h m m' z q refl)
declares-other (Pullback m m' z p q) _ _ _ _ _ _ h _ _ _ _ _ _ _ _ _ _ _ = absurd (h m m' z p q refl)
declares-other (Pushout m m' z i j) _ _ _ _ _ _ _ h _ _ _ _ _ _ _ _ _ _ = absurd (h m m' z i j refl)
declares-other (Image m z e j) _ _ _ _ _ _ _ _ h _ _ _ _ _ _ _ _ _ = absurd (h m z e j refl)
declares-other (Empty z) _ _ _ _ _ _ _ _ _ h _ _ _ _ _ _ _ _ = absurd (h z refl)
declares-other (Sheaf under x) _ _ _ _ _ _ _ _ _ _ h _ _ _ _ _ _ _ = absurd (h under x refl)
declares-other (Hom x y) _ _ _ _ _ _ _ _ _ _ _ h _ _ _ _ _ _ = absurd (h x y refl)
declares-other (Show under ctx φ) _ _ _ _ _ _ _ _ _ _ _ _ h _ _ _ _ _ = absurd (h under ctx φ refl)
declares-other (Classify under ctx φ) _ _ _ _ _ _ _ _ _ _ _ _ _ h _ _ _ _ = absurd (h under ctx φ refl)
declares-other (Valid under ctx φ) _ _ _ _ _ _ _ _ _ _ _ _ _ _ h _ _ _ = absurd (h under ctx φ refl)
declares-other (Let under m T t) _ _ _ _ _ _ _ _ _ _ _ _ _ _ _ h _ _ = absurd (h under m T t refl)
declares-other (Build under z T u v) _ _ _ _ _ _ _ _ _ _ _ _ _ _ _ _ h _ = absurd (h under z T u v refl)
declares-other (Sub under z T φ i) _ _ _ _ _ _ _ _ _ _ _ _ _ _ _ _ _ h = absurd (h under z T φ i refl)
declares-other _ _ _ _ _ _ _ _ _ _ _ _ _ _ _ _ _ _ _ = refl

pub ruleset declared_rules = (declares-Presheaf, declares-Map, declares-Product, declares-Coproduct, declares-Equalizer, declares-Coequalizer, declares-Pullback, declares-Pushout, declares-Image, declares-Empty, declares-Sheaf, declares-Hom, declares-Show, declares-Classify, declares-Valid, declares-Let, declares-Build, declares-Sub)

pub construction-Product : (x y z p q : ℕ) → is_construction (Product x y z p q) ≡ true
unfolding is_construction
construction-Product x y z p q = refl

pub construction-Coproduct : (x y z p q : ℕ) → is_construction (Coproduct x y z p q) ≡ true
unfolding is_construction
construction-Coproduct x y z p q = refl

pub construction-Equalizer : (m n z i : ℕ) → is_construction (Equalizer m n z i) ≡ true
unfolding is_construction
construction-Equalizer m n z i = refl

pub construction-Coequalizer : (m n z q : ℕ) → is_construction (Coequalizer m n z q) ≡ true
unfolding is_construction
construction-Coequalizer m n z q = refl

pub construction-Pullback : (m n z p q : ℕ) → is_construction (Pullback m n z p q) ≡ true
unfolding is_construction
construction-Pullback m n z p q = refl

pub construction-Pushout : (m n z i j : ℕ) → is_construction (Pushout m n z i j) ≡ true
unfolding is_construction
construction-Pushout m n z i j = refl

pub construction-Image : (m z e j : ℕ) → is_construction (Image m z e j) ≡ true
unfolding is_construction
construction-Image m z e j = refl

pub construction-Empty : (z : ℕ) → is_construction (Empty z) ≡ true
unfolding is_construction
construction-Empty z = refl

pub ruleset kind_rules = (construction-Product, construction-Coproduct, construction-Equalizer, construction-Coequalizer, construction-Pullback, construction-Pushout, construction-Image, construction-Empty)

-- there is no other construction
pub no_other_construction : (stmt : Stmt) → is_construction stmt ≡ true
    → ((x y z p q : ℕ) → stmt ≡ Product x y z p q → ⊥)
    → ((x y z p q : ℕ) → stmt ≡ Coproduct x y z p q → ⊥)
    → ((m n z i : ℕ) → stmt ≡ Equalizer m n z i → ⊥)
    → ((m n z q : ℕ) → stmt ≡ Coequalizer m n z q → ⊥)
    → ((m n z p q : ℕ) → stmt ≡ Pullback m n z p q → ⊥)
    → ((m n z i j : ℕ) → stmt ≡ Pushout m n z i j → ⊥)
    → ((m z e j : ℕ) → stmt ≡ Image m z e j → ⊥)
    → ((z : ℕ) → stmt ≡ Empty z → ⊥)
    → ⊥
unfolding is_construction
no_other_construction (Product x y z p q) kind h _ _ _ _ _ _ _ = h x y z p q refl
no_other_construction (Coproduct x y z p q) kind _ h _ _ _ _ _ _ = h x y z p q refl
no_other_construction (Equalizer m n z i) kind _ _ h _ _ _ _ _ = h m n z i refl
no_other_construction (Coequalizer m n z q) kind _ _ _ h _ _ _ _ = h m n z q refl
no_other_construction (Pullback m n z p q) kind _ _ _ _ h _ _ _ = h m n z p q refl
no_other_construction (Pushout m n z i j) kind _ _ _ _ _ h _ _ = h m n z i j refl
no_other_construction (Image m z e j) kind _ _ _ _ _ _ h _ = h m z e j refl
no_other_construction (Empty z) kind _ _ _ _ _ _ _ h = h z refl
no_other_construction _ kind _ _ _ _ _ _ _ _ = cc

-- a statement declares one functor at most
pub declares_few : (stmt : Stmt) (a b : ℕ) → declares stmt ≡ Some (a, b) → a ≤ 1
unfolding declares
declares_few (Presheaf functor raw) a b e = at_most 1 a (ap first e) (omega arith)
declares_few (Map m x y raw) a b e = at_most 0 a (ap first e) (omega arith)
declares_few (Product x y z p q) a b e = at_most 1 a (ap first e) (omega arith)
declares_few (Coproduct x y z p q) a b e = at_most 1 a (ap first e) (omega arith)
declares_few (Equalizer m n z i) a b e = at_most 1 a (ap first e) (omega arith)
declares_few (Coequalizer m n z q) a b e = at_most 1 a (ap first e) (omega arith)
declares_few (Pullback m n z p q) a b e = at_most 1 a (ap first e) (omega arith)
declares_few (Pushout m n z i j) a b e = at_most 1 a (ap first e) (omega arith)
declares_few (Image m z k j) a b e = at_most 1 a (ap first e) (omega arith)
declares_few (Empty z) a b e = at_most 1 a (ap first e) (omega arith)
declares_few (Sheaf under x) a b e = at_most 0 a (ap first e) (omega arith)
declares_few (Hom x y) a b e = at_most 0 a (ap first e) (omega arith)
declares_few (Show under ctx φ) a b e = at_most 0 a (ap first e) (omega arith)
declares_few (Classify under ctx φ) a b e = at_most 0 a (ap first e) (omega arith)
declares_few (Valid under ctx φ) a b e = at_most 0 a (ap first e) (omega arith)
declares_few (Let under m T t) a b e = at_most 0 a (ap first e) (omega arith)
declares_few (Build under z T u v) a b e = at_most 1 a (ap first e) (omega arith)
declares_few (Sub under z T φ i) a b e = at_most 1 a (ap first e) (omega arith)
declares_few _ a b e = cc
