-- What tables say of the category that they are of.
use Rattle.std.proofs.Common.{◌≡◌, ℕ, ◌*◌, ◌<◌, ◌≤◌, eqb, List, [], length, get_or, refl, sym, ap, subst, ◌∙◌, arith}
use Rattle.std.specs.List.{range_with_len}
use Rattle.std.proofs.lemmas.List.Sums.{length-filter, count_by-le-length}
use Rattle.std.proofs.lemmas.List.FromFn.{length-range_with_len, length-map-range_with_len, get_or-map-range_with_len}
use Rattle.finite_lists.specs.Members.{In}
use Rattle.finite_lists.proofs.Lists.{In_at}
use Rattle.topos_model.specs.categories.Category.{Category, dom, cod, compose, into}
use Rattle.topos_model.specs.Laws.{IsInto}
use Rattle.topos_model.specs.statements.Form.{max_objects, max_arrows}
use Rattle.fin_category.specs.Tables.{tabulated, entry, category_of, ending_at, ending_at_each, IsClosed, AreTables}
use Rattle.fin_category.proofs.Rows.{ending_at-into}
use Rattle.topos_model.proofs.ArrowsInto.{In-into_from}
use Rattle.fin_category.proofs.Tabulated.{compose-tabulated}

pub record AreOf (k : Category) (objects : ℕ) (ends : List (ℕ × ℕ)) (square : List ℕ) (rows : List (List ℕ)) : Type 0 where
  pub objects_are : objects ≡ k.objects
  pub ends_are : ends ≡ k.ends
  pub few_objects : k.objects ≤ max_objects
  pub few_arrows : length k.ends ≤ max_arrows
  pub closed : IsClosed k
  pub places : length square ≡ length k.ends * length k.ends
  pub composites : (g f : ℕ) → g < length k.ends → f < length k.ends → cod k f ≡ dom k g → entry square (length k.ends) g f ≡ compose k g f
  pub count : length rows ≡ k.objects
  pub arrows_into : (c : ℕ) → c < k.objects → get_or rows c [] ≡ into k c

pub length-each : (ends : List (ℕ × ℕ)) (objects : ℕ) → length (ending_at_each ends objects) ≡ objects
unfolding ending_at_each
length-each ends objects = length-map-range_with_len {X = List ℕ} (ending_at ends) 0 objects

pub get_or-each : (ends : List (ℕ × ℕ)) (objects c : ℕ) → c < objects → get_or (ending_at_each ends objects) c [] ≡ ending_at ends c
unfolding ending_at_each
get_or-each ends objects c h = get_or-map-range_with_len {X = List ℕ} (ending_at ends) 0 objects c c [] h (omega arith)

own_tables : (objects : ℕ) (ends : List (ℕ × ℕ)) (square : List ℕ) (rows : List (List ℕ)) → AreTables objects ends square rows → AreOf (category_of objects ends square) objects ends square rows
unfolding category_of tabulated
own_tables objects ends square rows t = record {
  objects_are = refl;
  ends_are = refl;
  few_objects = t.few_objects;
  few_arrows = t.few_arrows;
  closed = t.closed;
  places = t.places;
  composites = λ g f p q m. sym (compose-tabulated objects ends (entry square (length ends)) g f (p, (q, m)));
  count = ap length t.rows_into ∙ length-each ends objects;
  arrows_into = λ c h. ap (λ rows. get_or rows c []) t.rows_into ∙ get_or-each ends objects c h ∙ ending_at-into (category_of objects ends square) c;
}

pub tables_of : (objects : ℕ) (ends : List (ℕ × ℕ)) (square : List ℕ) (rows : List (List ℕ)) (k : Category) → category_of objects ends square ≡ k → AreTables objects ends square rows → AreOf k objects ends square rows
tables_of objects ends square rows k is t = subst (λ (k : Category). AreOf k objects ends square rows) is (own_tables objects ends square rows t)

pub into_each : (k : Category) (c : ℕ) (row : List ℕ) → row ≡ into k c → (i : ℕ) → i < length row → IsInto k c (get_or row i 0)
into_each k c row e i h = In-into_from k c (get_or row i 0) (subst (λ (xs : List ℕ). In xs (get_or row i 0)) e (In_at row i 0 h))

pub few_into : (k : Category) (c : ℕ) → length (into k c) ≤ length k.ends
unfolding into
few_into k c = omega (arith, length-filter (λ f. eqb (cod k f) c) (range_with_len 0 (length k.ends)), count_by-le-length (λ f. eqb (cod k f) c) (range_with_len 0 (length k.ends)), length-range_with_len 0 (length k.ends))
