use Rattle.std.proofs.Common.{map, refl}
use Rattle.topos_text.specs.declared.word.Word.TheVariants as word
use Rattle.topos_text.specs.Tokens.{token_of}
use Rattle.topos_text.specs.Trees as tree
use Rattle.topos_text.specs.Views.{statement_of}
use Rattle.std.proofs.lemmas.List.{length-map}
use Rattle.std.proofs.Common.{sym}
use Rattle.topos_grammar.specs.Codes.{presheaf, map_of, construct, forked, image, empty, sheafify, sheaf, hom, build, subobject, let_be, asked, valid, why, derive, local, category, category_functor, extended}
use Rattle.topos_statements.specs.Views.{version_of}
use Rattle.topos_statements.proofs.Branches.{branch_gives, no_word, no_branch, other_word}
use Rattle.topos_statements.proofs.statement.statement.Goals as goal

pub returns-in_default : goal.returns-in_default
returns-in_default c = (map token_of c.args.tokens.now, no_word (version_of c.args.version) (map token_of c.args.tokens.now) c.in_default.ensures, sym (length-map c.args.tokens.now token_of))

pub returns-in-Presheaf : goal.returns-in-Presheaf
returns-in-Presheaf c = branch_gives (version_of c.args.version) 0 (word.Presheaf, presheaf) c.in-Some.word (map token_of c.args.tokens.now) (map token_of c.in-Some.rest.now) (λ x. statement_of x.0.value) (λ x. map token_of x.1.now) c.presheaf.result refl c.in-Presheaf.is c.in-Some.ensures c.presheaf.ensures

pub returns-in-Map : goal.returns-in-Map
returns-in-Map c = branch_gives (version_of c.args.version) 1 (word.Map, map_of) c.in-Some.word (map token_of c.args.tokens.now) (map token_of c.in-Some.rest.now) (λ x. statement_of x.0.value) (λ x. map token_of x.1.now) c.map_of.result refl c.in-Map.is c.in-Some.ensures c.map_of.ensures

pub returns-in-Product : goal.returns-in-Product
returns-in-Product c = branch_gives (version_of c.args.version) 2 (word.Product, construct tree.ProductOf) c.in-Some.word (map token_of c.args.tokens.now) (map token_of c.in-Some.rest.now) (λ x. statement_of x.0.value) (λ x. map token_of x.1.now) c.construct.result refl c.in-Product.is c.in-Some.ensures c.construct.ensures

pub returns-in-Equalizer : goal.returns-in-Equalizer
returns-in-Equalizer c = branch_gives (version_of c.args.version) 3 (word.Equalizer, forked tree.EqualizerOf) c.in-Some.word (map token_of c.args.tokens.now) (map token_of c.in-Some.rest.now) (λ x. statement_of x.0.value) (λ x. map token_of x.1.now) c.forked.result refl c.in-Equalizer.is c.in-Some.ensures c.forked.ensures

pub returns-in-Pullback : goal.returns-in-Pullback
returns-in-Pullback c = branch_gives (version_of c.args.version) 4 (word.Pullback, construct tree.PullbackOf) c.in-Some.word (map token_of c.args.tokens.now) (map token_of c.in-Some.rest.now) (λ x. statement_of x.0.value) (λ x. map token_of x.1.now) c.construct-in-Pullback.result refl c.in-Pullback.is c.in-Some.ensures c.construct-in-Pullback.ensures

pub returns-in-Image : goal.returns-in-Image
returns-in-Image c = branch_gives (version_of c.args.version) 5 (word.Image, image) c.in-Some.word (map token_of c.args.tokens.now) (map token_of c.in-Some.rest.now) (λ x. statement_of x.0.value) (λ x. map token_of x.1.now) c.image.result refl c.in-Image.is c.in-Some.ensures c.image.ensures

pub returns-in-Empty : goal.returns-in-Empty
returns-in-Empty c = branch_gives (version_of c.args.version) 6 (word.Empty, empty) c.in-Some.word (map token_of c.args.tokens.now) (map token_of c.in-Some.rest.now) (λ x. statement_of x.0.value) (λ x. map token_of x.1.now) c.empty.result refl c.in-Empty.is c.in-Some.ensures c.empty.ensures

pub returns-in-Coproduct : goal.returns-in-Coproduct
returns-in-Coproduct c = branch_gives (version_of c.args.version) 7 (word.Coproduct, construct tree.CoproductOf) c.in-Some.word (map token_of c.args.tokens.now) (map token_of c.in-Some.rest.now) (λ x. statement_of x.0.value) (λ x. map token_of x.1.now) c.construct-in-Coproduct.result refl c.in-Coproduct.is c.in-Some.ensures c.construct-in-Coproduct.ensures

pub returns-in-Coequalizer : goal.returns-in-Coequalizer
returns-in-Coequalizer c = branch_gives (version_of c.args.version) 8 (word.Coequalizer, forked tree.CoequalizerOf) c.in-Some.word (map token_of c.args.tokens.now) (map token_of c.in-Some.rest.now) (λ x. statement_of x.0.value) (λ x. map token_of x.1.now) c.forked-in-Coequalizer.result refl c.in-Coequalizer.is c.in-Some.ensures c.forked-in-Coequalizer.ensures

pub returns-in-Pushout : goal.returns-in-Pushout
returns-in-Pushout c = branch_gives (version_of c.args.version) 9 (word.Pushout, construct tree.PushoutOf) c.in-Some.word (map token_of c.args.tokens.now) (map token_of c.in-Some.rest.now) (λ x. statement_of x.0.value) (λ x. map token_of x.1.now) c.construct-in-Pushout.result refl c.in-Pushout.is c.in-Some.ensures c.construct-in-Pushout.ensures

pub returns-in-Sheafify : goal.returns-in-Sheafify
returns-in-Sheafify c = branch_gives (version_of c.args.version) 10 (word.Sheafify, sheafify (version_of c.args.version)) c.in-Some.word (map token_of c.args.tokens.now) (map token_of c.in-Some.rest.now) (λ x. statement_of x.0.value) (λ x. map token_of x.1.now) c.sheafify.result refl c.in-Sheafify.is c.in-Some.ensures c.sheafify.ensures

pub returns-in-Sheaf : goal.returns-in-Sheaf
returns-in-Sheaf c = branch_gives (version_of c.args.version) 11 (word.Sheaf, sheaf (version_of c.args.version)) c.in-Some.word (map token_of c.args.tokens.now) (map token_of c.in-Some.rest.now) (λ x. statement_of x.0.value) (λ x. map token_of x.1.now) c.sheaf.result refl c.in-Sheaf.is c.in-Some.ensures c.sheaf.ensures

pub returns-in-Hom : goal.returns-in-Hom
returns-in-Hom c = branch_gives (version_of c.args.version) 12 (word.Hom, hom) c.in-Some.word (map token_of c.args.tokens.now) (map token_of c.in-Some.rest.now) (λ x. statement_of x.0.value) (λ x. map token_of x.1.now) c.hom.result refl c.in-Hom.is c.in-Some.ensures c.hom.ensures

pub returns-in-Build : goal.returns-in-Build
returns-in-Build c = branch_gives (version_of c.args.version) 13 (word.Build, build (version_of c.args.version)) c.in-Some.word (map token_of c.args.tokens.now) (map token_of c.in-Some.rest.now) (λ x. statement_of x.0.value) (λ x. map token_of x.1.now) c.build.result refl c.in-Build.is c.in-Some.ensures c.build.ensures

pub returns-in-Sub : goal.returns-in-Sub
returns-in-Sub c = branch_gives (version_of c.args.version) 14 (word.Sub, subobject (version_of c.args.version)) c.in-Some.word (map token_of c.args.tokens.now) (map token_of c.in-Some.rest.now) (λ x. statement_of x.0.value) (λ x. map token_of x.1.now) c.subobject.result refl c.in-Sub.is c.in-Some.ensures c.subobject.ensures

pub returns-in-Let : goal.returns-in-Let
returns-in-Let c = branch_gives (version_of c.args.version) 15 (word.Let, let_be (version_of c.args.version)) c.in-Some.word (map token_of c.args.tokens.now) (map token_of c.in-Some.rest.now) (λ x. statement_of x.0.value) (λ x. map token_of x.1.now) c.let_be.result refl c.in-Let.is c.in-Some.ensures c.let_be.ensures

pub returns-in-Show : goal.returns-in-Show
returns-in-Show c = branch_gives (version_of c.args.version) 16 (word.Show, asked tree.Show (version_of c.args.version)) c.in-Some.word (map token_of c.args.tokens.now) (map token_of c.in-Some.rest.now) (λ x. statement_of x.0.value) (λ x. map token_of x.1.now) c.asked.result refl c.in-Show.is c.in-Some.ensures c.asked.ensures

pub returns-in-Classify : goal.returns-in-Classify
returns-in-Classify c = branch_gives (version_of c.args.version) 17 (word.Classify, asked tree.Classify (version_of c.args.version)) c.in-Some.word (map token_of c.args.tokens.now) (map token_of c.in-Some.rest.now) (λ x. statement_of x.0.value) (λ x. map token_of x.1.now) c.asked-in-Classify.result refl c.in-Classify.is c.in-Some.ensures c.asked-in-Classify.ensures

pub returns-in-Valid : goal.returns-in-Valid
returns-in-Valid c = branch_gives (version_of c.args.version) 18 (word.Valid, valid (version_of c.args.version)) c.in-Some.word (map token_of c.args.tokens.now) (map token_of c.in-Some.rest.now) (λ x. statement_of x.0.value) (λ x. map token_of x.1.now) c.valid.result refl c.in-Valid.is c.in-Some.ensures c.valid.ensures

pub returns-in-Why : goal.returns-in-Why
returns-in-Why c = branch_gives (version_of c.args.version) 19 (word.Why, why (version_of c.args.version)) c.in-Some.word (map token_of c.args.tokens.now) (map token_of c.in-Some.rest.now) (λ x. statement_of x.0.value) (λ x. map token_of x.1.now) c.why.result refl c.in-Why.is c.in-Some.ensures c.why.ensures

pub returns-in-Derive : goal.returns-in-Derive
returns-in-Derive c = branch_gives (version_of c.args.version) 20 (word.Derive, derive (version_of c.args.version)) c.in-Some.word (map token_of c.args.tokens.now) (map token_of c.in-Some.rest.now) (λ x. statement_of x.0.value) (λ x. map token_of x.1.now) c.derive.result refl c.in-Derive.is c.in-Some.ensures c.derive.ensures

pub returns-in-Local : goal.returns-in-Local
returns-in-Local c = branch_gives (version_of c.args.version) 21 (word.Local, local) c.in-Some.word (map token_of c.args.tokens.now) (map token_of c.in-Some.rest.now) (λ x. statement_of x.0.value) (λ x. map token_of x.1.now) c.local.result refl c.in-Local.is c.in-Some.ensures c.local.ensures

pub returns-in-Category : goal.returns-in-Category
returns-in-Category c = branch_gives (version_of c.args.version) 22 (word.Category, category) c.in-Some.word (map token_of c.args.tokens.now) (map token_of c.in-Some.rest.now) (λ x. statement_of x.0.value) (λ x. map token_of x.1.now) c.category.result refl c.in-Category.is c.in-Some.ensures c.category.ensures

pub returns-in-Functor : goal.returns-in-Functor
returns-in-Functor c = branch_gives (version_of c.args.version) 23 (word.Functor, category_functor) c.in-Some.word (map token_of c.args.tokens.now) (map token_of c.in-Some.rest.now) (λ x. statement_of x.0.value) (λ x. map token_of x.1.now) c.category_functor.result refl c.in-Functor.is c.in-Some.ensures c.category_functor.ensures

pub returns-in-Lan : goal.returns-in-Lan
returns-in-Lan c = branch_gives (version_of c.args.version) 24 (word.Lan, extended tree.Lan) c.in-Some.word (map token_of c.args.tokens.now) (map token_of c.in-Some.rest.now) (λ x. statement_of x.0.value) (λ x. map token_of x.1.now) c.extended.result refl c.in-Lan.is c.in-Some.ensures c.extended.ensures

pub returns-in-Ran : goal.returns-in-Ran
returns-in-Ran c = branch_gives (version_of c.args.version) 25 (word.Ran, extended tree.Ran) c.in-Some.word (map token_of c.args.tokens.now) (map token_of c.in-Some.rest.now) (λ x. statement_of x.0.value) (λ x. map token_of x.1.now) c.extended-in-Ran.result refl c.in-Ran.is c.in-Some.ensures c.extended-in-Ran.ensures

pub returns-in_default-word : goal.returns-in_default-word
returns-in_default-word c = (map token_of c.args.tokens.now, no_branch (version_of c.args.version) (map token_of c.args.tokens.now) (other_word (map token_of c.args.tokens.now) (map token_of c.in-Some.rest.now) c.in-Some.word word.Presheaf c.in-Some.ensures c.in_default-word.not-Presheaf, (other_word (map token_of c.args.tokens.now) (map token_of c.in-Some.rest.now) c.in-Some.word word.Map c.in-Some.ensures c.in_default-word.not-Map, (other_word (map token_of c.args.tokens.now) (map token_of c.in-Some.rest.now) c.in-Some.word word.Product c.in-Some.ensures c.in_default-word.not-Product, (other_word (map token_of c.args.tokens.now) (map token_of c.in-Some.rest.now) c.in-Some.word word.Equalizer c.in-Some.ensures c.in_default-word.not-Equalizer, (other_word (map token_of c.args.tokens.now) (map token_of c.in-Some.rest.now) c.in-Some.word word.Pullback c.in-Some.ensures c.in_default-word.not-Pullback, (other_word (map token_of c.args.tokens.now) (map token_of c.in-Some.rest.now) c.in-Some.word word.Image c.in-Some.ensures c.in_default-word.not-Image, (other_word (map token_of c.args.tokens.now) (map token_of c.in-Some.rest.now) c.in-Some.word word.Empty c.in-Some.ensures c.in_default-word.not-Empty, (other_word (map token_of c.args.tokens.now) (map token_of c.in-Some.rest.now) c.in-Some.word word.Coproduct c.in-Some.ensures c.in_default-word.not-Coproduct, (other_word (map token_of c.args.tokens.now) (map token_of c.in-Some.rest.now) c.in-Some.word word.Coequalizer c.in-Some.ensures c.in_default-word.not-Coequalizer, (other_word (map token_of c.args.tokens.now) (map token_of c.in-Some.rest.now) c.in-Some.word word.Pushout c.in-Some.ensures c.in_default-word.not-Pushout, (other_word (map token_of c.args.tokens.now) (map token_of c.in-Some.rest.now) c.in-Some.word word.Sheafify c.in-Some.ensures c.in_default-word.not-Sheafify, (other_word (map token_of c.args.tokens.now) (map token_of c.in-Some.rest.now) c.in-Some.word word.Sheaf c.in-Some.ensures c.in_default-word.not-Sheaf, (other_word (map token_of c.args.tokens.now) (map token_of c.in-Some.rest.now) c.in-Some.word word.Hom c.in-Some.ensures c.in_default-word.not-Hom, (other_word (map token_of c.args.tokens.now) (map token_of c.in-Some.rest.now) c.in-Some.word word.Build c.in-Some.ensures c.in_default-word.not-Build, (other_word (map token_of c.args.tokens.now) (map token_of c.in-Some.rest.now) c.in-Some.word word.Sub c.in-Some.ensures c.in_default-word.not-Sub, (other_word (map token_of c.args.tokens.now) (map token_of c.in-Some.rest.now) c.in-Some.word word.Let c.in-Some.ensures c.in_default-word.not-Let, (other_word (map token_of c.args.tokens.now) (map token_of c.in-Some.rest.now) c.in-Some.word word.Show c.in-Some.ensures c.in_default-word.not-Show, (other_word (map token_of c.args.tokens.now) (map token_of c.in-Some.rest.now) c.in-Some.word word.Classify c.in-Some.ensures c.in_default-word.not-Classify, (other_word (map token_of c.args.tokens.now) (map token_of c.in-Some.rest.now) c.in-Some.word word.Valid c.in-Some.ensures c.in_default-word.not-Valid, (other_word (map token_of c.args.tokens.now) (map token_of c.in-Some.rest.now) c.in-Some.word word.Why c.in-Some.ensures c.in_default-word.not-Why, (other_word (map token_of c.args.tokens.now) (map token_of c.in-Some.rest.now) c.in-Some.word word.Derive c.in-Some.ensures c.in_default-word.not-Derive, (other_word (map token_of c.args.tokens.now) (map token_of c.in-Some.rest.now) c.in-Some.word word.Local c.in-Some.ensures c.in_default-word.not-Local, (other_word (map token_of c.args.tokens.now) (map token_of c.in-Some.rest.now) c.in-Some.word word.Category c.in-Some.ensures c.in_default-word.not-Category, (other_word (map token_of c.args.tokens.now) (map token_of c.in-Some.rest.now) c.in-Some.word word.Functor c.in-Some.ensures c.in_default-word.not-Functor, (other_word (map token_of c.args.tokens.now) (map token_of c.in-Some.rest.now) c.in-Some.word word.Lan c.in-Some.ensures c.in_default-word.not-Lan, (other_word (map token_of c.args.tokens.now) (map token_of c.in-Some.rest.now) c.in-Some.word word.Ran c.in-Some.ensures c.in_default-word.not-Ran, tt)))))))))))))))))))))))))), sym (length-map c.args.tokens.now token_of))
