use Rattle.std.proofs.Common.{◌≡◌, ℕ, eqb, filter, drop}
use Rattle.topos_model.specs.categories.Filling.{domain_of}
use Rattle.fin_category.specs.Filling.{sole}
use Rattle.fin_category.proofs.Soles.{sole_with}
use Rattle.fin_category.proofs.filling.sole_from.Given as goal

abbrev pub invariant-loop-h : goal.invariant-loop-h
invariant-loop-h l =
    sole (filter (λ (h : ℕ). eqb (domain_of l.ends h) l.domain) l.row) ≡ sole_with l.found (filter (λ (h : ℕ). eqb (domain_of l.ends h) l.domain) (drop l.h-index l.row))
