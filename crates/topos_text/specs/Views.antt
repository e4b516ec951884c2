-- Trees, without where they lie in memory.
use Rattle.std.specs.Prelude.{map}
use Rattle.std.specs.Option.{option_map}
use Rattle.topos_text.specs.Tokens.{written}
use Rattle.topos_text.specs.Trees as tree
use Rattle.topos_text.specs.declared.tree.TypeTree.{TypeTree}
use Rattle.topos_text.specs.declared.tree.TypeTree.TheVariants as types
use Rattle.topos_text.specs.declared.tree.Binding.{Binding}
use Rattle.topos_text.specs.declared.tree.Binder.{Binder}
use Rattle.topos_text.specs.declared.tree.Binder.TheVariants as binders
use Rattle.topos_text.specs.declared.tree.TermTree.{TermTree}
use Rattle.topos_text.specs.declared.tree.TermTree.TheVariants as terms
use Rattle.topos_text.specs.declared.site.ArrowTree.{ArrowTree}
use Rattle.topos_text.specs.declared.site.ArrowTree.TheVariants as arrows
use Rattle.topos_text.specs.declared.site.SiteTree.{SiteTree}
use Rattle.topos_text.specs.declared.site.SiteTree.TheVariants as sites
use Rattle.topos_text.specs.declared.site.CoverTree.{CoverTree}
use Rattle.topos_text.specs.declared.site.CoversTree.{CoversTree}
use Rattle.topos_text.specs.declared.site.CoversTree.TheVariants as covers
use Rattle.topos_text.specs.declared.site.TopologyTree.{TopologyTree}
use Rattle.topos_text.specs.declared.statement.EntryTree.{EntryTree}
use Rattle.topos_text.specs.declared.statement.SectionTree.{SectionTree}
use Rattle.topos_text.specs.declared.statement.SectionTree.TheVariants as sections
use Rattle.topos_text.specs.declared.statement.ElementTree.{ElementTree}
use Rattle.topos_text.specs.declared.statement.ElementTree.TheVariants as elements
use Rattle.topos_text.specs.declared.statement.MappingTree.{MappingTree}
use Rattle.topos_text.specs.declared.statement.MapAtTree.{MapAtTree}
use Rattle.topos_text.specs.declared.statement.SentTree.{SentTree}
use Rattle.topos_text.specs.declared.statement.SentTree.TheVariants as sent
use Rattle.topos_text.specs.declared.statement.PlaceTree.{PlaceTree}
use Rattle.topos_text.specs.declared.statement.StepTree.{StepTree}
use Rattle.topos_text.specs.declared.statement.Construction.{Construction}
use Rattle.topos_text.specs.declared.statement.Construction.TheVariants as constructions
use Rattle.topos_text.specs.declared.statement.Fork.{Fork}
use Rattle.topos_text.specs.declared.statement.Fork.TheVariants as forks
use Rattle.topos_text.specs.declared.statement.Question.{Question}
use Rattle.topos_text.specs.declared.statement.Question.TheVariants as questions
use Rattle.topos_text.specs.declared.statement.Extension.{Extension}
use Rattle.topos_text.specs.declared.statement.Extension.TheVariants as extensions
use Rattle.topos_text.specs.declared.statement.StatementTree.{StatementTree}
use Rattle.topos_text.specs.declared.statement.StatementTree.TheVariants as statements
use Rattle.topos_text.specs.declared.statement.DocumentTree.{DocumentTree}
use Rattle.topos_text.specs.declared.statement.DocumentTree.TheVariants as documents

abbrev pub type_of : TypeTree → tree.TypeTree
type_of (types.Functor x) = tree.Functor (written x)
type_of types.One = tree.One
type_of types.Omega = tree.Omega
type_of (types.Power' p T) = tree.Power (type_of T)
type_of (types.Product' p S q T) = tree.Product (type_of S) (type_of T)
type_of (types.Function' p S q T) = tree.Function (type_of S) (type_of T)

abbrev pub binding_of : Binding → tree.Binding
binding_of b = record { variable = written b.variable; type = type_of b.ty }

abbrev pub binder_of : Binder → tree.Binder
binder_of binders.Forall = tree.Forall
binder_of binders.Exists = tree.Exists
binder_of binders.Unique = tree.Unique
binder_of binders.Fun = tree.Fun

abbrev pub term_of : TermTree → tree.TermTree
term_of (terms.Named x) = tree.Named (written x)
term_of terms.Truth = tree.Truth
term_of terms.Falsity = tree.Falsity
term_of terms.Unit = tree.Unit
term_of (terms.Grouped' p s) = tree.Grouped (term_of s)
term_of (terms.Paired' p s q t) = tree.Paired (term_of s) (term_of t)
term_of (terms.First' p s) = tree.First (term_of s)
term_of (terms.Second' p s) = tree.Second (term_of s)
term_of (terms.Applied' p s q t) = tree.Applied (term_of s) (term_of t)
term_of (terms.Subset' b p s) = tree.Subset (binding_of b) (term_of s)
term_of (terms.Equal' p s q t) = tree.Equal (term_of s) (term_of t)
term_of (terms.Member' p s q t) = tree.Member (term_of s) (term_of t)
term_of (terms.Not' p s) = tree.Not (term_of s)
term_of (terms.And' p s q t) = tree.And (term_of s) (term_of t)
term_of (terms.Or' p s q t) = tree.Or (term_of s) (term_of t)
term_of (terms.Implies' p s q t) = tree.Implies (term_of s) (term_of t)
term_of (terms.Bound' b x p s) = tree.Bound (binder_of b) (binding_of x) (term_of s)

-- the site

abbrev pub arrow_of : ArrowTree → tree.ArrowTree
arrow_of (arrows.Declared f) = tree.Declared (written f)
arrow_of (arrows.Identity x) = tree.Identity (written x)

abbrev pub site_of : SiteTree → tree.SiteTree
site_of (sites.Objects xs) = tree.Objects (map written xs.items)
site_of (sites.Arrows fs d c) = tree.Arrows (map written fs.items) (written d) (written c)
site_of (sites.Composite g f h) = tree.Composite (written g) (written f) (arrow_of h)

abbrev pub cover_of : CoverTree → tree.CoverTree
cover_of c = record { object = written c.object; arrows = map arrow_of c.arrows.items }

abbrev pub covers_of : CoversTree → tree.CoversTree
covers_of covers.Dense = tree.Dense
covers_of (covers.Listed cs) = tree.Listed (map cover_of cs.items)

abbrev pub topology_of : TopologyTree → tree.TopologyTree
topology_of t = record { name = written t.name; covers = covers_of t.covers }

-- the statements behind the site

abbrev pub entry_of : EntryTree → tree.EntryTree
entry_of e = record { from = written e.from; to = written e.to }

abbrev pub section_of : SectionTree → tree.SectionTree
section_of (sections.At u xs) = tree.At (written u) (map written xs.items)
section_of (sections.Along f es) = tree.Along (written f) (map entry_of es.items)

abbrev pub element_of : ElementTree → tree.ElementTree
element_of (elements.ByName x) = tree.ByName (written x)
element_of (elements.ByPlace n x) = tree.ByPlace n (written x)

abbrev pub mapping_of : MappingTree → tree.MappingTree
mapping_of e = record { from = element_of e.from; to = element_of e.to }

abbrev pub map_at_of : MapAtTree → tree.MapAtTree
map_at_of p = record { object = written p.object; entries = map mapping_of p.entries.items }

abbrev pub sent_of : SentTree → tree.SentTree
sent_of (sent.ObjectTo d c) = tree.ObjectTo (written d) (written c)
sent_of (sent.ArrowTo u f) = tree.ArrowTo (written u) (arrow_of f)

abbrev pub place_of : PlaceTree → tree.PlaceTree
place_of p = record { number = p.number; written = written p.written }

abbrev pub step_of : StepTree → tree.StepTree
step_of s = record {
  rule = written s.rule;
  from = map place_of s.from.items;
  context = map binding_of s.context.items;
  hypotheses = map (λ t. term_of t.value) s.hypotheses.items;
  conclusion = term_of s.conclusion.value;
  with_term = option_map (λ t. term_of t.value) s.with_term;
}

abbrev pub construction_of : Construction → tree.Construction
construction_of constructions.Product = tree.ProductOf
construction_of constructions.Coproduct = tree.CoproductOf
construction_of constructions.Pullback = tree.PullbackOf
construction_of constructions.Pushout = tree.PushoutOf

abbrev pub fork_of : Fork → tree.Fork
fork_of forks.Equalizer = tree.EqualizerOf
fork_of forks.Coequalizer = tree.CoequalizerOf

abbrev pub question_of : Question → tree.Question
question_of questions.Show = tree.Show
question_of questions.Classify = tree.Classify
question_of questions.Valid = tree.Valid

abbrev pub extension_of : Extension → tree.Extension
extension_of extensions.Left = tree.Lan
extension_of extensions.Right = tree.Ran

abbrev pub statement_of : StatementTree → tree.StatementTree
statement_of (statements.Presheaf x ss) = tree.Presheaf (written x) (map section_of ss.items)
statement_of (statements.Map m x y ps) = tree.Map (written m) (written x) (written y) (map map_at_of ps.items)
statement_of (statements.Construct c x y z p q) = tree.Construct (construction_of c) (written x) (written y) (written z) (written p) (written q)
statement_of (statements.Forked c m n z i) = tree.Forked (fork_of c) (written m) (written n) (written z) (written i)
statement_of (statements.Image m z e i) = tree.Image (written m) (written z) (written e) (written i)
statement_of (statements.Empty z) = tree.Empty (written z)
statement_of (statements.Sheafify j x a e) = tree.Sheafify (option_map written j) (written x) (written a) (written e)
statement_of (statements.Sheaf j x) = tree.Sheaf (option_map written j) (written x)
statement_of (statements.Hom x y) = tree.Hom (written x) (written y)
statement_of (statements.Build j e T u v) = tree.Build (option_map written j) (written e) (type_of T) (written u) (written v)
statement_of (statements.Sub j s b t i) = tree.Sub (option_map written j) (written s) (binding_of b) (term_of t.value) (written i)
statement_of (statements.Let j m b t) = tree.Let (option_map written j) (written m) (binding_of b) (term_of t.value)
statement_of (statements.Ask q j g t) = tree.Ask (question_of q) (option_map written j) (map binding_of g.items) (term_of t.value)
statement_of (statements.Why j u k g t) = tree.Why (option_map written j) (written u) (place_of k) (map binding_of g.items) (term_of t.value)
statement_of (statements.Derive j ss) = tree.Derive (option_map written j) (map step_of ss.items)
statement_of (statements.Local m) = tree.Local (written m)
statement_of (statements.LocalAs j m) = tree.LocalAs (written j) (written m)
statement_of (statements.Category d ss) = tree.Category (written d) (map site_of ss.items)
statement_of (statements.CategoryFunctor f d ss) = tree.CategoryFunctor (written f) (written d) (map sent_of ss.items)
statement_of (statements.Restricted f x y) = tree.Restricted (written f) (written x) (written y)
statement_of (statements.PresheafOn p d ss) = tree.PresheafOn (written p) (written d) (map section_of ss.items)
statement_of (statements.Extended x f p l e) = tree.Extended (extension_of x) (written f) (written p) (written l) (written e)

-- documents

abbrev pub document_of : DocumentTree → tree.DocumentTree
document_of (documents.FirstVersion ss c rest) = tree.FirstVersion (map site_of ss.items) (covers_of c) (map statement_of rest.items)
document_of (documents.SecondVersion ss ts rest) = tree.SecondVersion (map site_of ss.items) (map topology_of ts.items) (map statement_of rest.items)
