use Rattle.std.proofs.Common.{◌≡◌, ◌↔◌, List, [], ◌∷◌, reverse, refl, sym, ap₂, subst, ◌∙◌}
use Rattle.std.specs.List.{flat_map}
use Rattle.finite_lists.specs.Members.{In}
use Rattle.std.proofs.lemmas.Result.{err_from_is_err_and}
use Rattle.topos_model.specs.declared.ty.Ty.{Ty}
use Rattle.topos_model.specs.formulas.Typing.{typed}
use Rattle.topos_model.specs.statements.Needs.{parts, term_needs}
use Rattle.term_typing.specs.Inferring.{IsFaultOf}
use Rattle.formula_answers.specs.MapTables.{ends_of}
use Rattle.topos_session.proofs.TermMaps.{typing_refuses, size_refuses, size_accepts}
use Rattle.topos_session.proofs.term_maps.map_types.Goals as goal

-- the context has one variable
one : (row : List Ty) (T : Ty) → row ≡ T ∷ [] → reverse row ≡ T ∷ []
one row T is = rw is refl

pub returns-in_err-found-clause-stop : goal.returns-in_err-found-clause-stop
returns-in_err-found-clause-stop c =
    let p = err_from_is_err_and c.from_residual-in_err-found.result c.from_residual-in_err-found.ensures.1 in
    let Γ = one c.in_ok-ctx.ctx.types c.args.ty.now c.in_ok-ctx.ensures in
    rw (p.1, p.2) (typing_refuses c.args.maps.now c.args.ty.now c.args.term.now c.in_err-found.field-0.0
    (subst (λ Γ. IsFaultOf (typed (ends_of c.args.maps.now) Γ c.args.term.now) c.in_err-found.field-0.0) Γ
    (subst (λ ends. IsFaultOf (typed ends (reverse c.in_ok-ctx.ctx.types) c.args.term.now) c.in_err-found.field-0.0) c.ends.ensures c.in_err-found.ensures.typing)))

pub returns-then-nodes-gt-MAX_NODES-clause-stop : goal.returns-then-nodes-gt-MAX_NODES-clause-stop
returns-then-nodes-gt-MAX_NODES-clause-stop c =
    let Γ = one c.in_ok-ctx.ctx.types c.args.ty.now c.in_ok-ctx.ensures in
    size_refuses c.args.maps.now c.args.ty.now c.args.term.now c.in_ok-found.found.ty c.in_ok-nodes.nodes
    (ap₂ (λ ends Γ. typed ends Γ c.args.term.now) (sym c.ends.ensures) (sym Γ) ∙ c.in_ok-found.ensures.typing) c.in_ok-nodes.ensures c.if-nodes-gt-MAX_NODES.true

pub returns-clause-types : goal.returns-clause-types
returns-clause-types c =
    let Γ = one c.in_ok-ctx.ctx.types c.args.ty.now c.in_ok-ctx.ensures in
    let typing = ap₂ (λ ends Γ. typed ends Γ c.args.term.now) (sym c.ends.ensures) (sym Γ) ∙ c.in_ok-found.ensures.typing in
    record {
      codomain = c.in_ok-found.found.ty;
      typing = typing;
      faultless = size_accepts c.args.maps.now c.args.ty.now c.args.term.now c.in_ok-found.found.ty c.in_ok-nodes.nodes typing c.in_ok-nodes.ensures c.if-nodes-gt-MAX_NODES.false;
      counted = subst (λ Γ. (T : Ty) → In (flat_map parts c.in_ok-found.found.types) T ↔ In (term_needs (ends_of c.args.maps.now) Γ c.args.term.now) T) Γ
          (subst (λ ends. (T : Ty) → In (flat_map parts c.in_ok-found.found.types) T ↔ In (term_needs ends (reverse c.in_ok-ctx.ctx.types) c.args.term.now) T) c.ends.ensures c.in_ok-found.ensures.types);
    }
