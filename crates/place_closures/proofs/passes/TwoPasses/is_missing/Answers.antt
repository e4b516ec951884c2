use Rattle.std.proofs.Common.{[], false, get_or, sym, ◌∙◌, arith}
use Rattle.std.proofs.lemmas.Bool.{false≢true}
use Rattle.std.proofs.lemmas.Option.{get_or_from_slice_get}
use Rattle.finite_lists.proofs.Lists.{all_each, each_all}
use Rattle.fin_category.proofs.ArrowLists.{has-In, In-has}
use Rattle.place_closures.proofs.Adding.{row_has, has_row}
use Rattle.place_closures.proofs.passes.TwoPasses.is_missing.Goals as goal

pub has_all-requires : goal.has_all-requires
has_all-requires c = λ j h.
    let s = c.args.self.now in
    let at = c.as_slice.ensures ∙ sym (get_or_from_slice_get s.covers c.args.k _ [] c.get-then-not-get.ensures) in
    let w = s.lawful.within c.args.k j (s.lawful.covers_below c.args.k j (row_has s.covers c.args.k j _ at h)) in
    omega (arith, w, c.requires.places)

pub returns-then-not-get-clause-missing : goal.returns-then-not-get-clause-missing
returns-then-not-get-clause-missing c = λ yes.
    let s = c.args.self.now in
    let at = c.as_slice.ensures ∙ sym (get_or_from_slice_get s.covers c.args.k _ [] c.get-then-not-get.ensures) in
    (sym c.if-not-get.ensures, λ l h. all_each (λ j. get_or c.args.set.now j false) c.as_slice.result.now l (sym c.has_all.ensures ∙ yes) (In-has _ l (has_row s.covers c.args.k l _ at h)))

pub returns-then-not-get-clause-there : goal.returns-then-not-get-clause-there
returns-then-not-get-clause-there c = λ out each.
    let s = c.args.self.now in
    let at = c.as_slice.ensures ∙ sym (get_or_from_slice_get s.covers c.args.k _ [] c.get-then-not-get.ensures) in
    absurd (false≢true (sym out ∙ c.has_all.ensures ∙ each_all (λ j. get_or c.args.set.now j false) c.as_slice.result.now (λ j m. each j (row_has s.covers c.args.k j _ at (has-In _ j m)))))
