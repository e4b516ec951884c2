use Rattle.std.proofs.Common.{◌≡◌, ℕ, ◌<◌, List, length, get_or, sym, ap, subst, ◌∙◌}
use Rattle.std.proofs.lemmas.List.{get_or_default}
use Rattle.topos_model.specs.declared.context.MapTable.{MapTable}
use Rattle.topos_model.specs.Laws.{IsFunctor}
use Rattle.formula_answers.specs.MapTables.{no_table, table_at}
use Rattle.topos_session.specs.Functors.{functor_at}
use Rattle.topos_session.specs.Declarations.{functor_map_of}
use Rattle.topos_session.proofs.MadeFunctors.{between_presheaves, first_other, second_other, presheaf_low, presheaf_natural}
use Rattle.topos_session.proofs.declarations.Declarations.functor_map.Goals as goal
use Rattle.topos_session.proofs.declarations.Declarations.functor_map.Goals.{in_default-via-in-Base+in_default, in_default-via-in_default}

-- the table that is read is that of the number
read_table : (read tables : List MapTable) (n : ℕ) (m : MapTable) → read ≡ tables → n < length tables → m ≡ get_or read n m → table_at tables n ≡ m
read_table read tables n m same low is = get_or_default tables n no_table m low ∙ ap (λ l. get_or l n m) (sym same) ∙ sym is

pub returns-in_default : goal.returns-in_default
returns-in_default c =
    let m = c.index-tables-n.result in
    let here = read_table c.tables.result.now c.args.self.now.maps c.args.n m c.tables.ensures c.requires.number c.index-tables-n.is in
    elim c.in_default.branch [
      | in_default-via-in-Base+in_default w ↦ sym (ap functor_map_of here ∙ second_other m w.in_default.not-Base-1)
      | in_default-via-in_default w ↦ sym (ap functor_map_of here ∙ first_other m w.in_default.not-Base-0)
    ]

pub functor-requires : goal.functor-requires
functor-requires c =
    let so = c.args.self.now in
    let here = read_table c.tables.result.now so.maps c.args.n c.index-tables-n.result c.tables.ensures c.requires.number c.index-tables-n.is in
    presheaf_low (length so.world.functors) (table_at so.maps c.args.n).ends.dom c.in-Base-Base.dom (ap (λ (m : MapTable). m.ends.dom) here ∙ c.in-Base-Base.is-0) (c.requires.lawful.1.maps c.args.n c.requires.number).domain

pub functor-requires-2 : goal.functor-requires-2
functor-requires-2 c =
    let so = c.args.self.now in
    let here = read_table c.tables.result.now so.maps c.args.n c.index-tables-n.result c.tables.ensures c.requires.number c.index-tables-n.is in
    presheaf_low (length so.world.functors) (table_at so.maps c.args.n).ends.cod c.in-Base-Base.cod (ap (λ (m : MapTable). m.ends.cod) here ∙ c.in-Base-Base.is-1) (c.requires.lawful.1.maps c.args.n c.requires.number).codomain

pub from_rows-map-requires : goal.from_rows-map-requires
from_rows-map-requires c =
    let so = c.args.self.now in
    let lawful = c.requires.lawful.1 in
    let here = read_table c.tables.result.now so.maps c.args.n c.index-tables-n.result c.tables.ensures c.requires.number c.index-tables-n.is in
    let functor : (x : ℕ) → x < length so.world.functors → IsFunctor so.world.site.category (functor_at so.world.functors x) = λ x low. subst (λ k. IsFunctor k (functor_at so.world.functors x)) (sym lawful.category) (lawful.functors x low) in
    let natural = presheaf_natural so.world.site so.world.functors functor (table_at so.maps c.args.n) (lawful.maps c.args.n c.requires.number)
    c.in-Base-Base.dom c.in-Base-Base.cod (ap (λ (m : MapTable). m.ends.dom) here ∙ c.in-Base-Base.is-0) (ap (λ (m : MapTable). m.ends.cod) here ∙ c.in-Base-Base.is-1) in
    record { natural = rw (c.cat.ensures, c.functor.ensures, c.functor-2.ensures, c.in_ok-rows.ensures) (rw here at natural) }

pub returns : goal.returns
returns c =
    let m = c.index-tables-n.result in
    let here = read_table c.tables.result.now c.args.self.now.maps c.args.n m c.tables.ensures c.requires.number c.index-tables-n.is in
    rw (c.from_rows-map.ensures, c.in_ok-rows.ensures) (sym (ap functor_map_of here ∙ between_presheaves m c.in-Base-Base.dom c.in-Base-Base.cod c.in-Base-Base.is-0 c.in-Base-Base.is-1))
