-- How the reading of a phrase follows from the reading of its parts.
use Rattle.std.proofs.Common.{◌≡◌, ◌+◌, ◌≤◌, List, ◌∷◌, length, Result, Ok, Err, sym, subst, arith}
use Rattle.topos_text.specs.declared.word.Word.TheVariants as word
use Rattle.topos_text.specs.declared.symbol.Symbol.TheVariants as symbol
use Rattle.topos_text.specs.Tokens.{Token, Written, Name, Reserved, Sign}
use Rattle.topos_text.specs.Trees.{TypeTree, TermTree, Binding}
use Rattle.topos_text.specs.Trees as tree
use Rattle.topos_grammar.specs.Kinds.{Sort, Tree, Kind, AnyType, ProductType, MoreFactors, PrefixType}
use Rattle.topos_grammar.specs.Codes.{Class, AnyName, Is, the, sign, Code, give, eat, name, call, code}
use Rattle.topos_grammar.specs.Reading.{Read, Whole, Stops, Reading, Reads, gives, eats, eats_not, names, calls, calls_not, peeks, peeks_not}
use Rattle.topos_grammar.specs.Gives.{least, Fails, Gives, Misses}
use Rattle.topos_grammar.specs.declared.stop.Stop.{Stop}
use Rattle.topos_grammar.specs.declared.stop.Stop.TheVariants.{NoMemory, At}

-- a phrase stops where its part does
pub fails_from : {s o : Sort} (e : Stop) (from : Kind o) (to : Kind s) (before toks : List Token) → ((rest : List Token) → Reads (code from) before (Stops rest) → Reads (code to) toks (Stops rest)) → Fails from before e → Fails to toks e
fails_from NoMemory from to before toks step h = tt
fails_from (At left) from to before toks step (rest, d, is) = (rest, step rest d, is)

-- a phrase gives what its last part does
pub gives_from : {X : Type 0} {s : Sort} (tree : X → Tree s) (rest : X → List Token) (from to : Kind s) (before toks : List Token) (r : Result X Stop) → ((x : Read s) → Reads (code from) before x → Reads (code to) toks x) → length before + least to ≤ length toks + least from
    → Gives tree rest from before r → Gives tree rest to toks r
gives_from tree rest from to before toks (Ok x) step le (d, shorter) = (step (Whole (tree x) (rest x)) d, omega (arith, shorter, le))
gives_from tree rest from to before toks (Err e) step le h = fails_from e from to before toks (λ r d. step (Stops r) d) h

-- a phrase stops at a token that is not there
pub fails_at : {s : Sort} (e : Stop) (C : Class) (K : Kind s) (before toks : List Token) → ((Is C before → ⊥) → Reads (code K) toks (Stops before)) → Misses C before e → Fails K toks e
fails_at NoMemory C K before toks step h = absurd h
fails_at (At left) C K before toks step (other, is) = (before, step other, is)

pub eats_at : {s : Sort} {u : Token} {k : Code s} {toks rest : List Token} {r : Read s} → toks ≡ u ∷ rest → Reads k rest r → Reads (eat u k) toks r
eats_at {s} {u} {k} {toks} {rest} {r} e d = subst (λ z. Reading s (eat u k) z r) (sym e) (eats d)

pub names_at : {s : Sort} {x : Written} {k : Written → Code s} {toks rest : List Token} {r : Read s} → toks ≡ Name x ∷ rest → Reads (k x) rest r → Reads (name k) toks r
names_at {s} {x} {k} {toks} {rest} {r} e d = subst (λ z. Reading s (name k) z r) (sym e) (names d)

-- ---- types

pub any_type_stops : (toks rest : List Token) → Reads (code ProductType) toks (Stops rest) → Reads (code AnyType) toks (Stops rest)
unfolding code
any_type_stops toks rest d = calls_not d

pub any_type_alone : (toks rest : List Token) (S : TypeTree) → Reads (code ProductType) toks (Whole S rest) → (Is (sign symbol.Arrow) rest → ⊥) → Reads (code AnyType) toks (Whole S rest)
unfolding code
any_type_alone toks rest S d other = calls d (peeks_not other gives)

pub function_stops : (toks rest behind end : List Token) (S : TypeTree) → Reads (code ProductType) toks (Whole S rest) → rest ≡ Sign symbol.Arrow ∷ behind → Reads (code AnyType) behind (Stops end) → Reads (code AnyType) toks (Stops end)
unfolding code
function_stops toks rest behind end S d is e = calls d (peeks (behind, is) (eats_at is (calls_not e)))

pub function_read : (toks rest behind end : List Token) (S T : TypeTree) → Reads (code ProductType) toks (Whole S rest) → rest ≡ Sign symbol.Arrow ∷ behind → Reads (code AnyType) behind (Whole T end) → Reads (code AnyType) toks (Whole (tree.Function S T) end)
unfolding code
function_read toks rest behind end S T d is e = calls d (peeks (behind, is) (eats_at is (calls e gives)))

pub product_type_stops : (toks rest : List Token) → Reads (code PrefixType) toks (Stops rest) → Reads (code ProductType) toks (Stops rest)
unfolding code
product_type_stops toks rest d = calls_not d

-- what is called last gives what the phrase gives
pub last_call : {s : Sort} {K : Kind s} {toks : List Token} {x : Read s} → Reads (code K) toks x → Reads (call K give) toks x
last_call {x = Whole v rest} d = calls d gives
last_call {x = Stops rest} d = calls_not d

pub product_type_read : (toks rest : List Token) (S : TypeTree) (x : Read _) → Reads (code PrefixType) toks (Whole S rest) → Reads (code (MoreFactors S)) rest x → Reads (code ProductType) toks x
unfolding code
product_type_read toks rest S x d e = calls d (last_call e)

pub factors_end : (toks : List Token) (R : TypeTree) → (Is (sign symbol.Star) toks → ⊥) → Reads (code (MoreFactors R)) toks (Whole R toks)
unfolding code
factors_end toks R other = peeks_not other gives

pub factors_stop : (toks behind rest : List Token) (R : TypeTree) → toks ≡ Sign symbol.Star ∷ behind → Reads (code PrefixType) behind (Stops rest) → Reads (code (MoreFactors R)) toks (Stops rest)
unfolding code
factors_stop toks behind rest R is d = peeks (behind, is) (eats_at is (calls_not d))

pub factors_more : (toks behind rest : List Token) (R S : TypeTree) (x : Read _) → toks ≡ Sign symbol.Star ∷ behind → Reads (code PrefixType) behind (Whole S rest) → Reads (code (MoreFactors (tree.Product R S))) rest x → Reads (code (MoreFactors R)) toks x
unfolding code
factors_more toks behind rest R S x is d e = peeks (behind, is) (eats_at is (calls d (last_call e)))

pub power_stops : (toks behind rest : List Token) → toks ≡ Reserved word.Pow ∷ behind → Reads (code PrefixType) behind (Stops rest) → Reads (code PrefixType) toks (Stops rest)
unfolding code
power_stops toks behind rest is d = peeks (behind, is) (eats_at is (calls_not d))

pub power_read : (toks behind rest : List Token) (T : TypeTree) → toks ≡ Reserved word.Pow ∷ behind → Reads (code PrefixType) behind (Whole T rest) → Reads (code PrefixType) toks (Whole (tree.Power T) rest)
unfolding code
power_read toks behind rest T is d = peeks (behind, is) (eats_at is (calls d gives))

pub functor_read : (toks rest : List Token) (x : Written) → (Is (the word.Pow) toks → ⊥) → toks ≡ Name x ∷ rest → Reads (code PrefixType) toks (Whole (tree.Functor x) rest)
unfolding code
functor_read toks rest x no_pow is = peeks_not no_pow (peeks (x, rest, is) (names_at is gives))

pub one_read : (toks rest : List Token) → (Is (the word.Pow) toks → ⊥) → (Is AnyName toks → ⊥) → toks ≡ Reserved word.One ∷ rest → Reads (code PrefixType) toks (Whole tree.One rest)
unfolding code
one_read toks rest no_pow no_name is = peeks_not no_pow (peeks_not no_name (peeks (rest, is) (eats_at is gives)))

pub omega_read : (toks rest : List Token) → (Is (the word.Pow) toks → ⊥) → (Is AnyName toks → ⊥) → (Is (the word.One) toks → ⊥) → toks ≡ Reserved word.Omega ∷ rest → Reads (code PrefixType) toks (Whole tree.Omega rest)
unfolding code
omega_read toks rest no_pow no_name no_one is = peeks_not no_pow (peeks_not no_name (peeks_not no_one (peeks (rest, is) (eats_at is gives))))

-- no other prefix stands in front
pub record NoPrefix (toks : List Token) : Type 0 where
  pub no_pow : Is (the word.Pow) toks → ⊥
  pub no_name : Is AnyName toks → ⊥
  pub no_one : Is (the word.One) toks → ⊥
  pub no_omega : Is (the word.Omega) toks → ⊥

pub unopened_type : (toks : List Token) → NoPrefix toks → (Is (sign symbol.OpenParenthesis) toks → ⊥) → Reads (code PrefixType) toks (Stops toks)
unfolding code
unopened_type toks n other = peeks_not n.no_pow (peeks_not n.no_name (peeks_not n.no_one (peeks_not n.no_omega (eats_not other))))

pub grouped_type_stops : (toks inside rest : List Token) → NoPrefix toks → toks ≡ Sign symbol.OpenParenthesis ∷ inside → Reads (code AnyType) inside (Stops rest) → Reads (code PrefixType) toks (Stops rest)
unfolding code
grouped_type_stops toks inside rest n is d = peeks_not n.no_pow (peeks_not n.no_name (peeks_not n.no_one (peeks_not n.no_omega (eats_at is (calls_not d)))))

pub unclosed_type : (toks inside rest : List Token) (T : TypeTree) → NoPrefix toks → toks ≡ Sign symbol.OpenParenthesis ∷ inside → Reads (code AnyType) inside (Whole T rest) → (Is (sign symbol.CloseParenthesis) rest → ⊥) → Reads (code PrefixType) toks (Stops rest)
unfolding code
unclosed_type toks inside rest T n is d other = peeks_not n.no_pow (peeks_not n.no_name (peeks_not n.no_one (peeks_not n.no_omega (eats_at is (calls d (eats_not other))))))

pub grouped_type_read : (toks inside rest end : List Token) (T : TypeTree) → NoPrefix toks → toks ≡ Sign symbol.OpenParenthesis ∷ inside → Reads (code AnyType) inside (Whole T rest) → rest ≡ Sign symbol.CloseParenthesis ∷ end → Reads (code PrefixType) toks (Whole T end)
unfolding code
grouped_type_read toks inside rest end T n is d closed = peeks_not n.no_pow (peeks_not n.no_name (peeks_not n.no_one (peeks_not n.no_omega (eats_at is (calls d (eats_at closed gives))))))
