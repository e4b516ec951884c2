-- The element of a sealed type with a row that has the element's relation to the places.
use Rattle.std.proofs.Common.{◌≡◌, ℕ, ◌<◌, List, [], get_or, sym, subst, ◌∙◌, arith}
use Rattle.topos_model.specs.declared.ty.Ty.{Ty}
use Rattle.topos_model.specs.declared.value.Val.{Val}
use Rattle.topos_model.specs.declared.value.Entry.{Entry}
use Rattle.finite_lists.specs.Members.{In}
use Rattle.finite_lists.specs.Rising.{Rising, NumbersBelow}
use Rattle.finite_lists.proofs.Lists.{In_at}
use Rattle.topos_model.specs.topologies.Cover.{Site}
use Rattle.topos_model.specs.types.Types.{Presheaf}
use Rattle.functor_store.specs.Store.{Functor, size_at, element_at}
use Rattle.functor_store.specs.Faithful.{Stands, HasElements}
use Rattle.natural_search.proofs.RisingRows.{stands_once}
use Rattle.term_tables.proofs.RowMatches.{Matches, matches_same}

module _ (s : Site) (functors : List Presheaf) (U : Ty) (F : Functor) (h : HasElements s functors U F) (c : ℕ) (low : c < s.category.objects) (rise : Rising NumbersBelow (get_or F.rows c []))
    (P : Entry → ℕ → Type 0) (one : (e : Entry) (m n : ℕ) → P e m → P e n → m ≡ n) (ps : List Entry) (n : ℕ) (v : Val) (stand : Stands s functors U c n v) (own : Matches P ps (element_at F c n))
    (row : List ℕ) (made : Matches P ps row) where
  n_low : n < size_at F c
  n_low = let e = h.sizes c low in let l = stand.within in omega (arith, e, l)

  row_is : element_at F c n ≡ row
  row_is = matches_same P one ps (element_at F c n) row own made

  pub row_there : In (get_or F.rows c []) row
  row_there = subst (In (get_or F.rows c [])) row_is (In_at (get_or F.rows c []) n [] n_low)

  pub row_stands : (k : ℕ) → k < size_at F c → element_at F c k ≡ row → Stands s functors U c k v
  row_stands k inside is = subst (λ m. Stands s functors U c m v) (sym (stands_once (get_or F.rows c []) rise k n inside n_low (is ∙ sym row_is))) stand
