-- What is read derives, and what is read up to where reading stops begins something that derives.
use Rattle.std.proofs.Common.{◌≡◌, inl, inr, List, [], ◌∷◌, ◌++◌, refl, sym, ap, subst, ◌∙◌, append_assoc, ℕ}
use Rattle.std.proofs.lemmas.List.{append-nil}
use Rattle.topos_text.specs.Tokens.{Token, Written, Name, Place}
use Rattle.topos_text.specs.Phrases.{Part, token}
use Rattle.topos_text.specs.Documents.{Derives, nothing, this}
use Rattle.topos_text.proofs.DerivationParts.{joined}
use Rattle.topos_grammar.specs.Kinds.{Sort, Tree, Kind, part}
use Rattle.topos_grammar.specs.Codes.{Class, Code, give, eat, name, call, peek, loop, code, place, numbered}
use Rattle.topos_grammar.specs.Reading.{Read, Whole, Stops, Reading, gives, eats, eats_not, names, names_not, calls, calls_not, peeks, peeks_not, loops, loops_not, loops_end, places, places_not, numbers, numbers_not}
use Rattle.topos_grammar.proofs.Accepting.{Accepts, derive_by}
use Rattle.topos_grammar.proofs.Sides.{side_of, sample}

-- the tokens before the rest are what the code reads
pub record Found {s : Sort} (c : Code s) (toks : List Token) (v : Tree s) (rest : List Token) : Type 0 where
  pub front : List Token
  pub side : List Part
  pub parts : toks ≡ front ++ rest
  pub accepts : Accepts c v side
  pub derives : Derives side front

-- the tokens before the rest begin what the code reads
pub record Begun {s : Sort} (c : Code s) (toks rest : List Token) : Type 0 where
  pub front : List Token
  pub more : List Token
  pub tree : Tree s
  pub side : List Part
  pub parts : toks ≡ front ++ rest
  pub accepts : Accepts c tree side
  pub derives : Derives side (front ++ more)

abbrev pub Means : {s : Sort} → Code s → List Token → Read s → Type 0
Means c toks (Whole v rest) = Found c toks v rest
Means c toks (Stops rest) = Begun c toks rest

-- how a code can be read to its end
pub record Ended {s : Sort} (c : Code s) : Type 0 where
  pub tree : Tree s
  pub side : List Part
  pub toks : List Token
  pub accepts : Accepts c tree side
  pub derives : Derives side toks

some_name : Written
some_name = record { text = []; token = 0 }

pub ended : {s : Sort} (c : Code s) → Ended c
ended (give v) = record { tree = v; side = []; toks = []; accepts = (refl, refl); derives = nothing }
ended (eat u k) = let e = ended k in record { tree = e.tree; side = token u ∷ e.side; toks = u ∷ e.toks; accepts = (e.side, refl, e.accepts); derives = this e.derives }
ended (name k) = let e = ended (k some_name) in record { tree = e.tree; side = token (Name some_name) ∷ e.side; toks = Name some_name ∷ e.toks; accepts = (some_name, e.side, refl, e.accepts); derives = this e.derives }
ended (place k) = let e = ended (k 0 some_name) in record { tree = e.tree; side = token (Place 0 some_name) ∷ e.side; toks = Place 0 some_name ∷ e.toks; accepts = (0, some_name, e.side, refl, e.accepts); derives = this e.derives }
ended (numbered n k) = let e = ended (k some_name) in record { tree = e.tree; side = token (Place n some_name) ∷ e.side; toks = Place n some_name ∷ e.toks; accepts = (some_name, e.side, refl, e.accepts); derives = this e.derives }
ended (call K k) =
    let v = sample K in
    let e = ended (k v.0) in
    record { tree = e.tree; side = part K v.0 ∷ e.side; toks = v.1 ++ e.toks; accepts = (v.0, e.side, refl, e.accepts); derives = joined v.2 e.derives }
ended (peek C a b) = let e = ended b in record { tree = e.tree; side = e.side; toks = e.toks; accepts = inr e.accepts; derives = e.derives }
ended (loop C item k) = let e = ended (k []) in record { tree = e.tree; side = e.side; toks = e.toks; accepts = ([], [], e.side, refl, refl, e.accepts); derives = e.derives }

-- nothing is read yet
begin : {s : Sort} (c : Code s) (toks : List Token) → Begun c toks toks
begin c toks = let e = ended c in record { front = []; more = e.toks; tree = e.tree; side = e.side; parts = refl; accepts = e.accepts; derives = e.derives }

two : (toks front mid second rest : List Token) → toks ≡ front ++ mid → mid ≡ second ++ rest → toks ≡ (front ++ second) ++ rest
two toks front mid second rest p q = p ∙ ap (λ z. front ++ z) q ∙ sym (append_assoc front second rest)

eaten : {s : Sort} (u : Token) (k : Code s) (toks : List Token) (r : Read s) → Means k toks r → Means (eat u k) (u ∷ toks) r
eaten u k toks (Whole v rest) f = record { front = u ∷ f.front; side = token u ∷ f.side; parts = ap (λ z. u ∷ z) f.parts; accepts = (f.side, refl, f.accepts); derives = this f.derives }
eaten u k toks (Stops rest) b = record { front = u ∷ b.front; more = b.more; tree = b.tree; side = token u ∷ b.side; parts = ap (λ z. u ∷ z) b.parts; accepts = (b.side, refl, b.accepts); derives = this b.derives }

named : {s : Sort} (x : Written) (k : Written → Code s) (toks : List Token) (r : Read s) → Means (k x) toks r → Means (name k) (Name x ∷ toks) r
named x k toks (Whole v rest) f = record { front = Name x ∷ f.front; side = token (Name x) ∷ f.side; parts = ap (λ z. Name x ∷ z) f.parts; accepts = (x, f.side, refl, f.accepts); derives = this f.derives }
named x k toks (Stops rest) b = record { front = Name x ∷ b.front; more = b.more; tree = b.tree; side = token (Name x) ∷ b.side; parts = ap (λ z. Name x ∷ z) b.parts; accepts = (x, b.side, refl, b.accepts); derives = this b.derives }

placed : {s : Sort} (n : ℕ) (x : Written) (k : ℕ → Written → Code s) (toks : List Token) (r : Read s) → Means (k n x) toks r → Means (place k) (Place n x ∷ toks) r
placed n x k toks (Whole v rest) f = record { front = Place n x ∷ f.front; side = token (Place n x) ∷ f.side; parts = ap (λ z. Place n x ∷ z) f.parts; accepts = (n, x, f.side, refl, f.accepts); derives = this f.derives }
placed n x k toks (Stops rest) b = record { front = Place n x ∷ b.front; more = b.more; tree = b.tree; side = token (Place n x) ∷ b.side; parts = ap (λ z. Place n x ∷ z) b.parts; accepts = (n, x, b.side, refl, b.accepts); derives = this b.derives }

numbered_as : {s : Sort} (n : ℕ) (x : Written) (k : Written → Code s) (toks : List Token) (r : Read s) → Means (k x) toks r → Means (numbered n k) (Place n x ∷ toks) r
numbered_as n x k toks (Whole v rest) f = record { front = Place n x ∷ f.front; side = token (Place n x) ∷ f.side; parts = ap (λ z. Place n x ∷ z) f.parts; accepts = (x, f.side, refl, f.accepts); derives = this f.derives }
numbered_as n x k toks (Stops rest) b = record { front = Place n x ∷ b.front; more = b.more; tree = b.tree; side = token (Place n x) ∷ b.side; parts = ap (λ z. Place n x ∷ z) b.parts; accepts = (x, b.side, refl, b.accepts); derives = this b.derives }

called : {s u : Sort} (K : Kind u) (k : Tree u → Code s) (v : Tree u) (toks mid : List Token) (r : Read s) → Found (code K) toks v mid → Means (k v) mid r → Means (call K k) toks r
called K k v toks mid (Whole t rest) f g = record {
  front = f.front ++ g.front;
  side = part K v ∷ g.side;
  parts = two toks f.front mid g.front rest f.parts g.parts;
  accepts = (v, g.side, refl, g.accepts);
  derives = derive_by K v (side_of K v f.side f.accepts) f.derives g.derives;
}
called K k v toks mid (Stops rest) f g = record {
  front = f.front ++ g.front;
  more = g.more;
  tree = g.tree;
  side = part K v ∷ g.side;
  parts = two toks f.front mid g.front rest f.parts g.parts;
  accepts = (v, g.side, refl, g.accepts);
  derives = subst (λ z. Derives (part K v ∷ g.side) z) (sym (append_assoc f.front g.front g.more)) (derive_by K v (side_of K v f.side f.accepts) f.derives g.derives);
}

called_not : {s u : Sort} (K : Kind u) (k : Tree u → Code s) (toks rest : List Token) → Begun (code K) toks rest → Begun (call K k) toks rest
called_not K k toks rest b =
    let e = ended (k b.tree) in
    record {
      front = b.front;
      more = b.more ++ e.toks;
      tree = e.tree;
      side = part K b.tree ∷ e.side;
      parts = b.parts;
      accepts = (b.tree, e.side, refl, e.accepts);
      derives = subst (λ z. Derives (part K b.tree ∷ e.side) z) (append_assoc b.front b.more e.toks) (derive_by K b.tree (side_of K b.tree b.side b.accepts) b.derives e.derives);
    }

first : {s : Sort} (C : Class) (a b : Code s) (toks : List Token) (r : Read s) → Means a toks r → Means (peek C a b) toks r
first C a b toks (Whole v rest) f = record { front = f.front; side = f.side; parts = f.parts; accepts = inl f.accepts; derives = f.derives }
first C a b toks (Stops rest) g = record { front = g.front; more = g.more; tree = g.tree; side = g.side; parts = g.parts; accepts = inl g.accepts; derives = g.derives }

second : {s : Sort} (C : Class) (a b : Code s) (toks : List Token) (r : Read s) → Means b toks r → Means (peek C a b) toks r
second C a b toks (Whole v rest) f = record { front = f.front; side = f.side; parts = f.parts; accepts = inr f.accepts; derives = f.derives }
second C a b toks (Stops rest) g = record { front = g.front; more = g.more; tree = g.tree; side = g.side; parts = g.parts; accepts = inr g.accepts; derives = g.derives }

one_more : {s u : Sort} (C : Class) (item : Code u) (k : List (Tree u) → Code s) (v : Tree u) (t : Tree s) (front side : List Part) → Accepts item v front → Accepts (loop C item (λ vs. k (v ∷ vs))) t side → Accepts (loop C item k) t (front ++ side)
one_more C item k v t front side a (vs, items, rest, is, all, acc) = (v ∷ vs, front ++ items, rest, ap (λ z. front ++ z) is ∙ sym (append_assoc front items rest), (front, items, refl, a, all), acc)

looped : {s u : Sort} (C : Class) (item : Code u) (k : List (Tree u) → Code s) (v : Tree u) (toks mid : List Token) (r : Read s) → Found item toks v mid → Means (loop C item (λ vs. k (v ∷ vs))) mid r → Means (loop C item k) toks r
looped C item k v toks mid (Whole t rest) f g = record {
  front = f.front ++ g.front;
  side = f.side ++ g.side;
  parts = two toks f.front mid g.front rest f.parts g.parts;
  accepts = one_more C item k v t f.side g.side f.accepts g.accepts;
  derives = joined f.derives g.derives;
}
looped C item k v toks mid (Stops rest) f g = record {
  front = f.front ++ g.front;
  more = g.more;
  tree = g.tree;
  side = f.side ++ g.side;
  parts = two toks f.front mid g.front rest f.parts g.parts;
  accepts = one_more C item k v g.tree f.side g.side f.accepts g.accepts;
  derives = subst (λ z. Derives (f.side ++ g.side) z) (sym (append_assoc f.front g.front g.more)) (joined f.derives g.derives);
}

looped_not : {s u : Sort} (C : Class) (item : Code u) (k : List (Tree u) → Code s) (toks rest : List Token) → Begun item toks rest → Begun (loop C item k) toks rest
looped_not C item k toks rest b =
    let e = ended (k (b.tree ∷ [])) in
    record {
      front = b.front;
      more = b.more ++ e.toks;
      tree = e.tree;
      side = b.side ++ e.side;
      parts = b.parts;
      accepts = (b.tree ∷ [], b.side, e.side, refl, (b.side, [], sym (append-nil b.side), b.accepts, refl), e.accepts);
      derives = subst (λ z. Derives (b.side ++ e.side) z) (append_assoc b.front b.more e.toks) (joined b.derives e.derives);
    }

looped_end : {s u : Sort} (C : Class) (item : Code u) (k : List (Tree u) → Code s) (toks : List Token) (r : Read s) → Means (k []) toks r → Means (loop C item k) toks r
looped_end C item k toks (Whole v rest) f = record { front = f.front; side = f.side; parts = f.parts; accepts = ([], [], f.side, refl, refl, f.accepts); derives = f.derives }
looped_end C item k toks (Stops rest) g = record { front = g.front; more = g.more; tree = g.tree; side = g.side; parts = g.parts; accepts = ([], [], g.side, refl, refl, g.accepts); derives = g.derives }

-- what reading gives means what it says
pub meaning : {s : Sort} {c : Code s} {toks : List Token} {r : Read s} → Reading s c toks r → Means c toks r
meaning gives = record { front = []; side = []; parts = refl; accepts = (refl, refl); derives = nothing }
meaning (eats {u = u} {k = k} {toks = toks} {r = r} d) = eaten u k toks r (meaning d)
meaning (eats_not {u = u} {k = k} {toks = toks} other) = begin (eat u k) toks
meaning (names {x = x} {k = k} {toks = toks} {r = r} d) = named x k toks r (meaning d)
meaning (names_not {k = k} {toks = toks} other) = begin (name k) toks
meaning (places {n = n} {x = x} {k = k} {toks = toks} {r = r} d) = placed n x k toks r (meaning d)
meaning (places_not {k = k} {toks = toks} other) = begin (place k) toks
meaning (numbers {n = n} {x = x} {k = k} {toks = toks} {r = r} d) = numbered_as n x k toks r (meaning d)
meaning (numbers_not {n = n} {k = k} {toks = toks} other) = begin (numbered n k) toks
meaning (calls {K = K} {k = k} {v = v} {toks = toks} {rest = rest} {r = r} d e) = called K k v toks rest r (meaning d) (meaning e)
meaning (calls_not {K = K} {k = k} {toks = toks} {rest = rest} d) = called_not K k toks rest (meaning d)
meaning (peeks {C = C} {a = a} {b = b} {toks = toks} {r = r} is d) = first C a b toks r (meaning d)
meaning (peeks_not {C = C} {a = a} {b = b} {toks = toks} {r = r} other d) = second C a b toks r (meaning d)
meaning (loops {C = C} {item = item} {k = k} {v = v} {toks = toks} {rest = rest} {r = r} is d e) = looped C item k v toks rest r (meaning d) (meaning e)
meaning (loops_not {C = C} {item = item} {k = k} {toks = toks} {rest = rest} is d) = looped_not C item k toks rest (meaning d)
meaning (loops_end {C = C} {item = item} {k = k} {toks = toks} {r = r} other d) = looped_end C item k toks r (meaning d)
