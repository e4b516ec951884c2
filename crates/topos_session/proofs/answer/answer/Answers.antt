use Rattle.std.proofs.lemmas.Result.{IfErr-weaker, on_err_weaker}
use Rattle.topos_session.proofs.LawfulDeclarations.{unchanged_kept}
use Rattle.std.proofs.Common.{refl, length}
use Rattle.topos_session.proofs.StatementRanges.{listing_of, map_range, sheaf_range, hom_range, formula_range, classified_range, judged_range, defined_range, built_range, part_range}
use Rattle.topos_session.proofs.StatementAnswers.{refused_other}
use Rattle.topos_model.specs.declared.stmt.Stmt.TheVariants.{Sheaf}
use Rattle.topos_session.specs.Declarations.{IsKept}
use Rattle.topos_session.specs.Statements.{IsStoppedOver}
use Rattle.topos_session.proofs.answer.answer.Goals as goal

pub declare_presheaf-requires-clause-listing : goal.declare_presheaf-requires-clause-listing
declare_presheaf-requires-clause-listing c =
    let so = c.args.so.now in
    listing_of c.args.so.now.world.site.category (length so.world.functors) (length so.maps) c.args.stmt.now c.in-Presheaf.functor c.in-Presheaf.raw c.in-Presheaf.is c.requires.range

pub declare_map-requires-clause-domain : goal.declare_map-requires-clause-domain
declare_map-requires-clause-domain c =
    let so = c.args.so.now in
    let m = c.in-Map in
    (map_range c.args.so.now.world.site.category (length so.world.functors) (length so.maps) c.args.stmt.now m.map m.dom m.cod m.raw m.is c.requires.range).domain

pub declare_map-requires-clause-codomain : goal.declare_map-requires-clause-codomain
declare_map-requires-clause-codomain c =
    let so = c.args.so.now in
    let m = c.in-Map in
    (map_range c.args.so.now.world.site.category (length so.world.functors) (length so.maps) c.args.stmt.now m.map m.dom m.cod m.raw m.is c.requires.range).codomain

pub declare_map-requires-clause-listing : goal.declare_map-requires-clause-listing
declare_map-requires-clause-listing c =
    let so = c.args.so.now in
    let m = c.in-Map in
    (map_range c.args.so.now.world.site.category (length so.world.functors) (length so.maps) c.args.stmt.now m.map m.dom m.cod m.raw m.is c.requires.range).listing

pub test_sheaf-requires-clause-range : goal.test_sheaf-requires-clause-range
test_sheaf-requires-clause-range c =
    let so = c.args.so.now in
    sheaf_range c.args.so.now.world.site.category (length so.world.functors) (length so.maps) c.args.stmt.now c.in-Sheaf.under c.in-Sheaf.x c.in-Sheaf.is c.requires.range

pub list-requires-clause-domain : goal.list-requires-clause-domain
list-requires-clause-domain c =
    let so = c.args.so.now in
    (hom_range c.args.so.now.world.site.category (length so.world.functors) (length so.maps) c.args.stmt.now c.in-Hom.x c.in-Hom.y c.in-Hom.is c.requires.range).0

pub list-requires-clause-codomain : goal.list-requires-clause-codomain
list-requires-clause-codomain c =
    let so = c.args.so.now in
    (hom_range c.args.so.now.world.site.category (length so.world.functors) (length so.maps) c.args.stmt.now c.in-Hom.x c.in-Hom.y c.in-Hom.is c.requires.range).1

pub returns-in_default-clause-stop : goal.returns-in_default-clause-stop
returns-in_default-clause-stop c = refused_other c.args.so.now.world.site.category c.args.so.now c.args.stmt.now c.in_default.not-Presheaf c.in_default.not-Map c.in_default.not-Product c.in_default.not-Coproduct c.in_default.not-Equalizer c.in_default.not-Coequalizer c.in_default.not-Pullback c.in_default.not-Pushout c.in_default.not-Image c.in_default.not-Empty c.in_default.not-Sheaf c.in_default.not-Hom c.in_default.not-Show c.in_default.not-Classify c.in_default.not-Valid c.in_default.not-Let c.in_default.not-Build c.in_default.not-Sub

pub returns-in-Presheaf-clause-unchanged : goal.returns-in-Presheaf-clause-unchanged
returns-in-Presheaf-clause-unchanged c = on_err_weaker c.declare_presheaf.result (unchanged_kept c.args.so.now c.declare_presheaf.new.so) c.declare_presheaf.ensures.unchanged

pub returns-in-Map-clause-unchanged : goal.returns-in-Map-clause-unchanged
returns-in-Map-clause-unchanged c = on_err_weaker c.declare_map.result (unchanged_kept c.args.so.now c.declare_map.new.so) c.declare_map.ensures.unchanged

pub returns-in-Product-clause-unchanged : goal.returns-in-Product-clause-unchanged
returns-in-Product-clause-unchanged c = on_err_weaker c.build.result (unchanged_kept c.args.so.now c.build.new.so) c.build.ensures.unchanged

pub returns-in-Coproduct-clause-unchanged : goal.returns-in-Coproduct-clause-unchanged
returns-in-Coproduct-clause-unchanged c = on_err_weaker c.build-in-Coproduct.result (unchanged_kept c.args.so.now c.build-in-Coproduct.new.so) c.build-in-Coproduct.ensures.unchanged

pub returns-in-Equalizer-clause-unchanged : goal.returns-in-Equalizer-clause-unchanged
returns-in-Equalizer-clause-unchanged c = on_err_weaker c.build-in-Equalizer.result (unchanged_kept c.args.so.now c.build-in-Equalizer.new.so) c.build-in-Equalizer.ensures.unchanged

pub returns-in-Coequalizer-clause-unchanged : goal.returns-in-Coequalizer-clause-unchanged
returns-in-Coequalizer-clause-unchanged c = on_err_weaker c.build-in-Coequalizer.result (unchanged_kept c.args.so.now c.build-in-Coequalizer.new.so) c.build-in-Coequalizer.ensures.unchanged

pub returns-in-Pullback-clause-unchanged : goal.returns-in-Pullback-clause-unchanged
returns-in-Pullback-clause-unchanged c = on_err_weaker c.build-in-Pullback.result (unchanged_kept c.args.so.now c.build-in-Pullback.new.so) c.build-in-Pullback.ensures.unchanged

pub returns-in-Pushout-clause-unchanged : goal.returns-in-Pushout-clause-unchanged
returns-in-Pushout-clause-unchanged c = on_err_weaker c.build-in-Pushout.result (unchanged_kept c.args.so.now c.build-in-Pushout.new.so) c.build-in-Pushout.ensures.unchanged

pub returns-in-Image-clause-unchanged : goal.returns-in-Image-clause-unchanged
returns-in-Image-clause-unchanged c = on_err_weaker c.build-in-Image.result (unchanged_kept c.args.so.now c.build-in-Image.new.so) c.build-in-Image.ensures.unchanged

pub returns-in-Empty-clause-unchanged : goal.returns-in-Empty-clause-unchanged
returns-in-Empty-clause-unchanged c = on_err_weaker c.build-in-Empty.result (unchanged_kept c.args.so.now c.build-in-Empty.new.so) c.build-in-Empty.ensures.unchanged

pub returns-in-Sheaf-clause-unchanged : goal.returns-in-Sheaf-clause-unchanged
returns-in-Sheaf-clause-unchanged c = IfErr-weaker c.test_sheaf.result (IsStoppedOver c.args.so.now.world.site.category c.args.so.now (Sheaf c.in-Sheaf.under c.in-Sheaf.x)) (λ s. IsKept c.args.so.now c.args.so.now) (λ s h. unchanged_kept c.args.so.now c.args.so.now refl) c.test_sheaf.ensures.stop

pub returns-in-Hom-clause-unchanged : goal.returns-in-Hom-clause-unchanged
returns-in-Hom-clause-unchanged c = on_err_weaker c.list.result (unchanged_kept c.args.so.now c.list.new.so) c.list.ensures.unchanged

pub returns-in_default-clause-unchanged : goal.returns-in_default-clause-unchanged
returns-in_default-clause-unchanged c = unchanged_kept c.args.so.now c.args.so.now refl

pub show-requires-clause-range : goal.show-requires-clause-range
show-requires-clause-range c =
    let so = c.args.so.now in
    formula_range so.world.site.category.objects so.world.site.category.ends (length so.world.functors) (length so.maps) c.args.stmt.now c.in-Show.under c.in-Show.ctx c.in-Show.phi c.in-Show.is c.requires.range

pub classify-requires-clause-range : goal.classify-requires-clause-range
classify-requires-clause-range c =
    let so = c.args.so.now in
    classified_range so.world.site.category.objects so.world.site.category.ends (length so.world.functors) (length so.maps) c.args.stmt.now c.in-Classify.under c.in-Classify.ctx c.in-Classify.phi c.in-Classify.is c.requires.range

pub judge-requires-clause-range : goal.judge-requires-clause-range
judge-requires-clause-range c =
    let so = c.args.so.now in
    judged_range so.world.site.category.objects so.world.site.category.ends (length so.world.functors) (length so.maps) c.args.stmt.now c.in-Valid.under c.in-Valid.ctx c.in-Valid.phi c.in-Valid.is c.requires.range

pub define-requires-clause-type_range : goal.define-requires-clause-type_range
define-requires-clause-type_range c =
    let so = c.args.so.now in
    (defined_range so.world.site.category.objects so.world.site.category.ends (length so.world.functors) (length so.maps) c.args.stmt.now c.in-Let.under c.in-Let.map c.in-Let.ty c.in-Let.term c.in-Let.is c.requires.range).0

pub define-requires-clause-range : goal.define-requires-clause-range
define-requires-clause-range c =
    let so = c.args.so.now in
    (defined_range so.world.site.category.objects so.world.site.category.ends (length so.world.functors) (length so.maps) c.args.stmt.now c.in-Let.under c.in-Let.map c.in-Let.ty c.in-Let.term c.in-Let.is c.requires.range).1

pub declare_type-requires-clause-next : goal.declare_type-requires-clause-next
declare_type-requires-clause-next c =
    let so = c.args.so.now in
    (built_range so.world.site.category.objects so.world.site.category.ends (length so.world.functors) (length so.maps) c.args.stmt.now c.in-Build.under c.in-Build.functor c.in-Build.ty c.in-Build.u c.in-Build.v c.in-Build.is c.requires.range).0

pub declare_type-requires-clause-range : goal.declare_type-requires-clause-range
declare_type-requires-clause-range c =
    let so = c.args.so.now in
    (built_range so.world.site.category.objects so.world.site.category.ends (length so.world.functors) (length so.maps) c.args.stmt.now c.in-Build.under c.in-Build.functor c.in-Build.ty c.in-Build.u c.in-Build.v c.in-Build.is c.requires.range).1

pub declare_part-requires-clause-next : goal.declare_part-requires-clause-next
declare_part-requires-clause-next c =
    let so = c.args.so.now in
    (part_range so.world.site.category.objects so.world.site.category.ends (length so.world.functors) (length so.maps) c.args.stmt.now c.in-Sub.under c.in-Sub.functor c.in-Sub.ty c.in-Sub.phi c.in-Sub.map c.in-Sub.is c.requires.range).next

pub declare_part-requires-clause-type_range : goal.declare_part-requires-clause-type_range
declare_part-requires-clause-type_range c =
    let so = c.args.so.now in
    (part_range so.world.site.category.objects so.world.site.category.ends (length so.world.functors) (length so.maps) c.args.stmt.now c.in-Sub.under c.in-Sub.functor c.in-Sub.ty c.in-Sub.phi c.in-Sub.map c.in-Sub.is c.requires.range).type

pub declare_part-requires-clause-range : goal.declare_part-requires-clause-range
declare_part-requires-clause-range c =
    let so = c.args.so.now in
    (part_range so.world.site.category.objects so.world.site.category.ends (length so.world.functors) (length so.maps) c.args.stmt.now c.in-Sub.under c.in-Sub.functor c.in-Sub.ty c.in-Sub.phi c.in-Sub.map c.in-Sub.is c.requires.range).formula
