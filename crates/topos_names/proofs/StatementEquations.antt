-- What statements come to, from what is found in them.
use Rattle.std.proofs.Common.{◌≡◌, ℕ, List, [], ◌∷◌, Option, Some, None, Ok, Err, refl, ap, ◌∙◌}
use Rattle.topos_model.specs.declared.ty.Ty.{Ty}
use Rattle.topos_model.specs.declared.term.Term.{Term}
use Rattle.topos_model.specs.declared.stmt.Stmt.{Stmt}
use Rattle.topos_model.specs.declared.stmt.Stmt.TheVariants as stmt
use Rattle.topos_model.specs.declared.fault.Fault.{Fault}
use Rattle.topos_model.specs.declared.raw.RawFunctor.{RawFunctor}
use Rattle.topos_text.specs.Tokens.{Written}
use Rattle.topos_text.specs.Trees as tree
use Rattle.topos_text.specs.Trees.{Question, Binding, TermTree, SectionTree}
use Rattle.topos_text.specs.Names.{Name, Checked, ◌>>=◌, ◌>>◌, Scope, Space, known, twice_fault, new_fault, under_of, with_functor, next_functor}
use Rattle.topos_text.specs.TermNames.{term_of, context_of, variables}
use Rattle.topos_text.specs.StatementNames.{Sections, statement_of, asked, sections_of, stages_of, raw_functor}
use Rattle.topos_names.specs.Spaces.{limits}
use Rattle.topos_names.specs.Parts.{presheaf_of}
use Rattle.topos_names.proofs.MadeNames.{declared, not_declared}

pub ask_made : (s : Scope) (q : Question) (j : Option Written) (bs : List Binding) (t : TermTree) (J : ℕ) (Ts : List Ty) (φ : Term) (made : Stmt)
    → under_of s j ≡ Ok J → context_of s [] bs ≡ Ok Ts → term_of s (variables bs) t ≡ Ok φ → made ≡ asked s q J (record { types = Ts }) φ → statement_of limits s (tree.Ask q j bs t) ≡ Ok (s, made)
unfolding statement_of
ask_made s q j bs t J Ts φ made p types body is = rw (p, types, body, is)

-- what is made of the sections of a presheaf
abbrev found_of : Space → Sections → List (List Name) × RawFunctor
found_of s found = (stages_of limits s found, raw_functor limits s found)

with_sections : {X : Type 0} (make : List (List Name) → RawFunctor → X) (s : Space) (r : Checked Sections)
    → (r >>= λ found. Ok (make (stages_of limits s found) (raw_functor limits s found))) ≡ ((r >>= λ found. Ok (found_of s found)) >>= λ p. Ok (make p.0 p.1))
with_sections make s (Ok found) = refl
with_sections make s (Err f) = refl

module _ (s : Scope) (x : Written) (parts : List SectionTree) where
  presheaf_statement : statement_of limits s (tree.Presheaf x parts) ≡ (new_fault (known s) (x ∷ []) >> (presheaf_of s.site parts >>= λ p. Ok (with_functor s x (Some p.0), stmt.Presheaf (next_functor s) p.1)))
  unfolding statement_of
  presheaf_statement = ap (λ r. new_fault (known s) (x ∷ []) >> r) (with_sections (λ stages raw. (with_functor s x (Some stages), stmt.Presheaf (next_functor s) raw)) s.site (sections_of limits s.site parts))

  pub presheaf_twice : (fault : Fault) → twice_fault (known s) x ≡ Some fault → statement_of limits s (tree.Presheaf x parts) ≡ Err fault
  presheaf_twice fault e = presheaf_statement ∙ rw (not_declared s x [] fault e)

  module _ (new : twice_fault (known s) x ≡ None) where
    pub presheaf_stops : (fault : Fault) → presheaf_of s.site parts ≡ Err fault → statement_of limits s (tree.Presheaf x parts) ≡ Err fault
    presheaf_stops fault e = presheaf_statement ∙ rw (declared s x new, e)

    pub presheaf_made : (stages : List (List Name)) (raw : RawFunctor) → presheaf_of s.site parts ≡ Ok (stages, raw) → statement_of limits s (tree.Presheaf x parts) ≡ Ok (with_functor s x (Some stages), stmt.Presheaf (next_functor s) raw)
    presheaf_made stages raw e = presheaf_statement ∙ rw (declared s x new, e)
