use Rattle.std.proofs.Common.{sym, ap, subst, ◌∙◌}
use Rattle.std.specs.Option.{option_map}
use Rattle.topos_model.specs.Laws.{IsCategory}
use Rattle.topos_model.specs.Faults.{associativity_fault}
use Rattle.fin_category.proofs.Associative.{triple_fault, fault-failing_triple}
use Rattle.fin_category.proofs.Faults.{associativity_decides}
use Rattle.fin_category.proofs.FilledCategories.{faultless_category}
use Rattle.fin_category.proofs.category.Cat.check.Goals as goal

pub returns-in-None-clause-faultless : goal.returns-in-None-clause-faultless
returns-in-None-clause-faultless c =
    associativity_decides c.args.raw.now c.in_ok-tables.ensures.listing c.in_ok-tables.ensures.missing ∙ ap associativity_fault (sym c.in_ok-tables.ensures.category)
    ∙ sym (fault-failing_triple c.in_ok-tables.tables) ∙ ap (option_map triple_fault) (sym c.in-None.ensures)

pub invariant_of-result : goal.invariant_of-result
invariant_of-result c =
    subst IsCategory (sym c.in_ok-tables.ensures.category) (faultless_category c.args.raw.now c.requires.within (returns-in-None-clause-faultless c)).1

pub returns-in-Some-clause-fault : goal.returns-in-Some-clause-fault
returns-in-Some-clause-fault c =
    associativity_decides c.args.raw.now c.in_ok-tables.ensures.listing c.in_ok-tables.ensures.missing ∙ ap associativity_fault (sym c.in_ok-tables.ensures.category)
    ∙ sym (fault-failing_triple c.in_ok-tables.tables) ∙ ap (option_map triple_fault) (sym c.in-Some.ensures)
