use Rattle.std.proofs.Common.{◌≡◌, true, length, subst}
use Rattle.topos_model.specs.declared.stmt.Stmt.{Stmt}
use Rattle.topos_session.specs.Ranges.{is_in_range}
use Rattle.topos_session.proofs.StatementForms.{no_other_construction}
use Rattle.topos_session.proofs.MadeFunctors.{product_range, coproduct_range, equalizer_range, coequalizer_range, pullback_range, pushout_range, image_range}
use Rattle.topos_session.proofs.constructions.construct.Goals as goal

pub product_of-requires-clause-first : goal.product_of-requires-clause-first
product_of-requires-clause-first c =
    let k = c.args.cat.now in
    let so = c.args.so.now in
    (product_range k.objects k.ends (length so.world.functors) (length so.maps) _ _ _ _ _ (subst (λ (stmt : Stmt). is_in_range k.objects k.ends (length so.world.functors) (length so.maps) stmt ≡ true) c.in-Product.is c.requires.range)).first

pub product_of-requires-clause-second : goal.product_of-requires-clause-second
product_of-requires-clause-second c =
    let k = c.args.cat.now in
    let so = c.args.so.now in
    (product_range k.objects k.ends (length so.world.functors) (length so.maps) _ _ _ _ _ (subst (λ (stmt : Stmt). is_in_range k.objects k.ends (length so.world.functors) (length so.maps) stmt ≡ true) c.in-Product.is c.requires.range)).second

pub coproduct_of-requires-clause-first : goal.coproduct_of-requires-clause-first
coproduct_of-requires-clause-first c =
    let k = c.args.cat.now in
    let so = c.args.so.now in
    (coproduct_range k.objects k.ends (length so.world.functors) (length so.maps) _ _ _ _ _ (subst (λ (stmt : Stmt). is_in_range k.objects k.ends (length so.world.functors) (length so.maps) stmt ≡ true) c.in-Coproduct.is c.requires.range)).first

pub coproduct_of-requires-clause-second : goal.coproduct_of-requires-clause-second
coproduct_of-requires-clause-second c =
    let k = c.args.cat.now in
    let so = c.args.so.now in
    (coproduct_range k.objects k.ends (length so.world.functors) (length so.maps) _ _ _ _ _ (subst (λ (stmt : Stmt). is_in_range k.objects k.ends (length so.world.functors) (length so.maps) stmt ≡ true) c.in-Coproduct.is c.requires.range)).second

pub equalizer_of-requires-clause-first : goal.equalizer_of-requires-clause-first
equalizer_of-requires-clause-first c =
    let k = c.args.cat.now in
    let so = c.args.so.now in
    (equalizer_range k.objects k.ends (length so.world.functors) (length so.maps) _ _ _ _ (subst (λ (stmt : Stmt). is_in_range k.objects k.ends (length so.world.functors) (length so.maps) stmt ≡ true) c.in-Equalizer.is c.requires.range)).first

pub equalizer_of-requires-clause-second : goal.equalizer_of-requires-clause-second
equalizer_of-requires-clause-second c =
    let k = c.args.cat.now in
    let so = c.args.so.now in
    (equalizer_range k.objects k.ends (length so.world.functors) (length so.maps) _ _ _ _ (subst (λ (stmt : Stmt). is_in_range k.objects k.ends (length so.world.functors) (length so.maps) stmt ≡ true) c.in-Equalizer.is c.requires.range)).second

pub coequalizer_of-requires-clause-first : goal.coequalizer_of-requires-clause-first
coequalizer_of-requires-clause-first c =
    let k = c.args.cat.now in
    let so = c.args.so.now in
    (coequalizer_range k.objects k.ends (length so.world.functors) (length so.maps) _ _ _ _ (subst (λ (stmt : Stmt). is_in_range k.objects k.ends (length so.world.functors) (length so.maps) stmt ≡ true) c.in-Coequalizer.is c.requires.range)).first

pub coequalizer_of-requires-clause-second : goal.coequalizer_of-requires-clause-second
coequalizer_of-requires-clause-second c =
    let k = c.args.cat.now in
    let so = c.args.so.now in
    (coequalizer_range k.objects k.ends (length so.world.functors) (length so.maps) _ _ _ _ (subst (λ (stmt : Stmt). is_in_range k.objects k.ends (length so.world.functors) (length so.maps) stmt ≡ true) c.in-Coequalizer.is c.requires.range)).second

pub pullback_of-requires-clause-first : goal.pullback_of-requires-clause-first
pullback_of-requires-clause-first c =
    let k = c.args.cat.now in
    let so = c.args.so.now in
    (pullback_range k.objects k.ends (length so.world.functors) (length so.maps) _ _ _ _ _ (subst (λ (stmt : Stmt). is_in_range k.objects k.ends (length so.world.functors) (length so.maps) stmt ≡ true) c.in-Pullback.is c.requires.range)).first

pub pullback_of-requires-clause-second : goal.pullback_of-requires-clause-second
pullback_of-requires-clause-second c =
    let k = c.args.cat.now in
    let so = c.args.so.now in
    (pullback_range k.objects k.ends (length so.world.functors) (length so.maps) _ _ _ _ _ (subst (λ (stmt : Stmt). is_in_range k.objects k.ends (length so.world.functors) (length so.maps) stmt ≡ true) c.in-Pullback.is c.requires.range)).second

pub pushout_of-requires-clause-first : goal.pushout_of-requires-clause-first
pushout_of-requires-clause-first c =
    let k = c.args.cat.now in
    let so = c.args.so.now in
    (pushout_range k.objects k.ends (length so.world.functors) (length so.maps) _ _ _ _ _ (subst (λ (stmt : Stmt). is_in_range k.objects k.ends (length so.world.functors) (length so.maps) stmt ≡ true) c.in-Pushout.is c.requires.range)).first

pub pushout_of-requires-clause-second : goal.pushout_of-requires-clause-second
pushout_of-requires-clause-second c =
    let k = c.args.cat.now in
    let so = c.args.so.now in
    (pushout_range k.objects k.ends (length so.world.functors) (length so.maps) _ _ _ _ _ (subst (λ (stmt : Stmt). is_in_range k.objects k.ends (length so.world.functors) (length so.maps) stmt ≡ true) c.in-Pushout.is c.requires.range)).second

pub image_of-requires-clause-map : goal.image_of-requires-clause-map
image_of-requires-clause-map c =
    let k = c.args.cat.now in
    let so = c.args.so.now in
    (image_range k.objects k.ends (length so.world.functors) (length so.maps) _ _ _ _ (subst (λ (stmt : Stmt). is_in_range k.objects k.ends (length so.world.functors) (length so.maps) stmt ≡ true) c.in-Image.is c.requires.range)).1

pub unreachable-requires : goal.unreachable-requires
unreachable-requires c = no_other_construction c.args.stmt.now c.requires.construction c.in_default.not-Product c.in_default.not-Coproduct c.in_default.not-Equalizer c.in_default.not-Coequalizer c.in_default.not-Pullback c.in_default.not-Pushout c.in_default.not-Image c.in_default.not-Empty
