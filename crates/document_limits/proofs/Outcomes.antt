-- What holds of all that may be found.
use Rattle.std.proofs.Common.{◌≡◌, List, [], ◌∷◌, Option, Some, None, refl, subst}
use Rattle.std.specs.Prelude.{Ok, Err}
use Rattle.topos_model.specs.declared.fault.Fault.{Fault}
use Rattle.topos_text.specs.Names.{Checked, ◌>>=◌, ◌>>◌, change_by}

-- whatever is found has the property
abbrev pub Always : {A : Type 0} → (A → Type 0) → Checked A → Type 0
Always P c = (a : _) → c ≡ Ok a → P a

ok_is : {A : Type 0} (a b : A) → ◌≡◌ {A = Checked A} (Ok a) (Ok b) → a ≡ b
ok_is a b e = cc

pub always_ok : {A : Type 0} (P : A → Type 0) (a : A) → P a → Always P (Ok a)
always_ok P a h = λ b e. subst P (ok_is a b e) h

pub always_bind : {A B : Type 0} (P : B → Type 0) (c : Checked A) (next : A → Checked B) → ((a : A) → c ≡ Ok a → Always P (next a)) → Always P (c >>= next)
always_bind P (Ok a) next h = h a refl
always_bind P (Err fault) next h = λ b e. absurd (cc)

pub always_guard : {A : Type 0} (P : A → Type 0) (found : Option Fault) (next : Checked A) → (found ≡ None → Always P next) → Always P (found >> next)
always_guard P None next h = h refl
always_guard P (Some fault) next h = λ b e. absurd (cc)

-- one change after another keeps what each change keeps
pub always_change : {S A : Type 0} (P : S → Type 0) (change : S → A → Checked S) → ((s : S) (a : A) → P s → Always P (change s a)) → (s : S) (xs : List A) → P s → Always P (change_by change s xs)
unfolding change_by
always_change P change keeps s [] h = always_ok P s h
always_change P change keeps s (x ∷ xs) h = always_bind P (change s x) (λ t. change_by change t xs) (λ t e. always_change P change keeps t xs (keeps s x h t e))

-- what one finds the other finds
abbrev pub Keeps : {A : Type 0} → Checked A → Checked A → Type 0
Keeps c d = (a : _) → c ≡ Ok a → d ≡ Ok a

pub keeps_itself : {A : Type 0} (c : Checked A) → Keeps c c
keeps_itself c = λ a h. h

pub keeps_bind : {A B : Type 0} (c d : Checked A) (next more : A → Checked B) → Keeps c d → ((a : A) → Keeps (next a) (more a)) → Keeps (c >>= next) (d >>= more)
keeps_bind (Ok a) d next more h k = λ b e. rw (h a refl) (k a b e)
keeps_bind (Err fault) d next more h k = λ b e. absurd (cc)

pub keeps_guard : {A : Type 0} (found : Option Fault) (c d : Checked A) → Keeps c d → Keeps (found >> c) (found >> d)
keeps_guard None c d h = h
keeps_guard (Some fault) c d h = λ a e. absurd (cc)

-- without the guard too
pub keeps_unguarded : {A : Type 0} (found : Option Fault) (c d : Checked A) → Keeps c d → Keeps (found >> c) d
keeps_unguarded None c d h = h
keeps_unguarded (Some fault) c d h = λ a e. absurd (cc)

pub keeps_change : {S A : Type 0} (change other : S → A → Checked S) → ((s : S) (a : A) → Keeps (change s a) (other s a)) → (s : S) (xs : List A) → Keeps (change_by change s xs) (change_by other s xs)
unfolding change_by
keeps_change change other each s [] = keeps_itself (Ok s)
keeps_change change other each s (x ∷ xs) = keeps_bind (change s x) (other s x) (λ t. change_by change t xs) (λ t. change_by other t xs) (each s x) (λ t. keeps_change change other each t xs)

-- what the other finds, if it has the property, the first one finds
abbrev pub Returns : {A : Type 0} → (A → Type 0) → Checked A → Checked A → Type 0
Returns P c d = (a : _) → d ≡ Ok a → P a → c ≡ Ok a

pub returns_itself : {A : Type 0} (P : A → Type 0) (c : Checked A) → Returns P c c
returns_itself P c = λ a e h. e

pub returns_bind : {A B : Type 0} (P : B → Type 0) (Q : A → Type 0) (c d : Checked A) (next more : A → Checked B) → Returns Q c d
    → ((a : A) → d ≡ Ok a → Always (λ b. P b → Q a) (more a)) → ((a : A) → d ≡ Ok a → Returns P (next a) (more a)) → Returns P (c >>= next) (d >>= more)
returns_bind P Q c (Ok a) next more h back k = λ b e p. rw (h a refl (back a refl b e p)) (k a refl b e p)
returns_bind P Q c (Err fault) next more h back k = λ b e p. absurd (cc)

pub returns_after : {A B : Type 0} (P : B → Type 0) (c : Checked A) (next more : A → Checked B) → ((a : A) → c ≡ Ok a → Returns P (next a) (more a)) → Returns P (c >>= next) (c >>= more)
returns_after P (Ok a) next more k = k a refl
returns_after P (Err fault) next more k = λ b e p. absurd (cc)

pub returns_guard : {A : Type 0} (P : A → Type 0) (found : Option Fault) (c d : Checked A) → Returns P c d → Returns P (found >> c) (found >> d)
returns_guard P None c d h = h
returns_guard P (Some fault) c d h = λ a e p. absurd (cc)

pub returns_limit : {A : Type 0} (P : A → Type 0) (found : Option Fault) (c d : Checked A) → Always (λ a. P a → found ≡ None) d → Returns P c d → Returns P (found >> c) d
returns_limit P found c d few h = λ a e p. rw (few a e p) (h a e p)

pub change_back : {S A : Type 0} (P : S → Type 0) (change : S → A → Checked S) → ((s : S) (a : A) → Always (λ t. P t → P s) (change s a)) → (s : S) (xs : List A) → Always (λ t. P t → P s) (change_by change s xs)
unfolding change_by
change_back P change back s [] = always_ok (λ t. P t → P s) s (λ p. p)
change_back P change back s (x ∷ xs) = always_bind (λ t. P t → P s) (change s x) (λ t. change_by change t xs) (λ t e u g p. back s x t e (change_back P change back t xs u g p))

pub returns_change : {S A : Type 0} (P : S → Type 0) (change other : S → A → Checked S) → ((s : S) (a : A) → Returns P (change s a) (other s a)) → ((s : S) (a : A) → Always (λ t. P t → P s) (other s a))
    → (s : S) (xs : List A) → Returns P (change_by change s xs) (change_by other s xs)
unfolding change_by
returns_change P change other each back s [] = returns_itself P (Ok s)
returns_change P change other each back s (x ∷ xs) =
    returns_bind P P (change s x) (other s x) (λ t. change_by change t xs) (λ t. change_by other t xs) (each s x) (λ t e. change_back P other back t xs) (λ t e. returns_change P change other each back t xs)
