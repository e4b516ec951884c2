-- The grammar of the site: objects, arrows and composites, and then the covers.
use Rattle.std.specs.Prelude.{List, [], ◌∷◌, ◌++◌}
use Rattle.topos_text.specs.declared.word.Word.TheVariants as word
use Rattle.topos_text.specs.declared.symbol.Symbol.TheVariants as symbol
use Rattle.topos_text.specs.Tokens.{Written}
use Rattle.topos_text.specs.Trees.{ArrowTree, Declared, Identity, Objects, Arrows, Composite, CoverTree, Dense, Listed}
use Rattle.topos_text.specs.Phrases.{Part, SitePhrase, site, SiteStatement, ArrowName, Cover, Covers, Topology, the, sign, name, names, commas, each}

-- A right side of a phrase of the site.
pub data SiteSide : SitePhrase → List Part → Type 0 where
  -- objects = "object" NAME {{ "," NAME }}
  objects : {x : Written} {xs : List Written} → SiteSide (SiteStatement (Objects (x ∷ xs))) (the word.Object ∷ names x xs)
  -- arrows = "arrow" NAME {{ "," NAME }} ":" NAME "->" NAME
  arrows : {f dom cod : Written} {fs : List Written}
      → SiteSide (SiteStatement (Arrows (f ∷ fs) dom cod)) (the word.Arrow ∷ names f fs ++ sign symbol.Colon ∷ name dom ∷ sign symbol.Arrow ∷ name cod ∷ [])
  -- composite = "compose" NAME "." NAME "=" arrow_name
  composite : {g f : Written} {h : ArrowTree}
      → SiteSide (SiteStatement (Composite g f h)) (the word.Compose ∷ name g ∷ sign symbol.Dot ∷ name f ∷ sign symbol.Equals ∷ site (ArrowName h) ∷ [])
  -- arrow_name = NAME | "id" NAME
  declared : {f : Written} → SiteSide (ArrowName (Declared f)) (name f ∷ [])
  identity : {x : Written} → SiteSide (ArrowName (Identity x)) (the word.Id ∷ name x ∷ [])
  -- cover = "cover" NAME "by" ( "none" | arrow_name {{ "," arrow_name }} )
  cover_by_none : {x : Written} → SiteSide (Cover (record { object = x; arrows = [] })) (the word.Cover ∷ name x ∷ the word.By ∷ the word.None ∷ [])
  cover_by : {x : Written} {f : ArrowTree} {fs : List ArrowTree}
      → SiteSide (Cover (record { object = x; arrows = f ∷ fs })) (the word.Cover ∷ name x ∷ the word.By ∷ commas (λ g. site (ArrowName g) ∷ []) f fs)
  -- [ "topology" "dense" ";" | cover ";" {{ cover ";" }} ]
  no_cover : SiteSide (Covers (Listed [])) []
  dense : SiteSide (Covers Dense) (the word.Topology ∷ the word.Dense ∷ sign symbol.Semicolon ∷ [])
  covers : {c : CoverTree} {cs : List CoverTree} → SiteSide (Covers (Listed (c ∷ cs))) (each (λ x. site (Cover x)) (c ∷ cs))
  -- topology = "topology" NAME "=" "dense" | "topology" NAME "{" {{ cover ";" }} "}"
  dense_topology : {j : Written} → SiteSide (Topology (record { name = j; covers = Dense })) (the word.Topology ∷ name j ∷ sign symbol.Equals ∷ the word.Dense ∷ [])
  listed_topology : {j : Written} {cs : List CoverTree}
      → SiteSide (Topology (record { name = j; covers = Listed cs })) (the word.Topology ∷ name j ∷ sign symbol.OpenBrace ∷ each (λ x. site (Cover x)) cs ++ sign symbol.CloseBrace ∷ [])
