-- The spelling of values, a form of type at a time.
use Rattle.std.proofs.Common.{◌≡◌, ℕ, refl}
use Rattle.std.specs.Prelude.{codes}
use denote.Hole.Carrier
use Rattle.topos_model.specs.declared.ty.Ty.{Ty, Base, One, Omega, Two, Pow, Fun}
use Rattle.topos_model.specs.declared.ty.Ty.TheBlock.{hidden-the_row-Ty-0}
use Rattle.topos_model.specs.declared.value.Val.{Val}
use Rattle.topos_model.specs.declared.doc.Doc.{Doc}
use Rattle.topos_model.specs.types.Values.{number_of, arrows_of, entries_of, assigns_of}
use Rattle.topos_report.specs.Names.{element_name}
use Rattle.topos_report.specs.Values.{value_text, sieve_text, pair_text, subset_text, function_text}

pub value_text-Base : (doc : Doc) (n c : ℕ) (v : Val) → value_text doc (Base n) c v ≡ element_name doc n c (number_of v)
unfolding value_text
value_text-Base doc n c v = refl

pub value_text-One : (doc : Doc) (c : ℕ) (v : Val) → value_text doc One c v ≡ codes "()"
unfolding value_text
value_text-One doc c v = refl

pub value_text-Omega : (doc : Doc) (c : ℕ) (v : Val) → value_text doc Omega c v ≡ sieve_text doc (arrows_of v)
unfolding value_text
value_text-Omega doc c v = refl

pub value_text-Two : (doc : Doc) (S T : Ty) (c : ℕ) (v : Val) → value_text doc (Two S T) c v ≡ pair_text doc (value_text doc S c) (value_text doc T c) v
unfolding value_text hidden-the_row-Ty-0 Carrier.hidden
value_text-Two doc S T c v = refl

pub value_text-Pow : (doc : Doc) (T : Ty) (c : ℕ) (v : Val) → value_text doc (Pow T) c v ≡ subset_text doc (value_text doc T) (entries_of v)
unfolding value_text hidden-the_row-Ty-0 Carrier.hidden
value_text-Pow doc T c v = refl

pub value_text-Fun : (doc : Doc) (S T : Ty) (c : ℕ) (v : Val) → value_text doc (Fun S T) c v ≡ function_text doc (value_text doc S) (value_text doc T) (assigns_of v)
unfolding value_text hidden-the_row-Ty-0 Carrier.hidden
value_text-Fun doc S T c v = refl

pub ruleset spelling_rules = (value_text-Base, value_text-One, value_text-Omega, value_text-Two, value_text-Pow, value_text-Fun)
