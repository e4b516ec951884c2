-- Values beside their types, a pair at a time.
use Rattle.std.proofs.Common.{◌≡◌, ℕ, ◌+◌, ◌<◌, List, ◌++◌, length, get_or, take}
use Rattle.std.specs.List.{zip}
use Rattle.topos_model.specs.declared.ty.Ty.{Ty}
use Rattle.topos_model.specs.declared.value.Val.{Val}
use Rattle.topos_model.specs.declared.doc.Doc.{Doc}
use Rattle.topos_report.specs.Values.{value_text, typed_text}
use Rattle.topos_report.specs.Lists.{comma_separated, separator}
use Rattle.topos_report.proofs.ZippedLists.{zipped-more}

pub typed_text-more : (doc : Doc) (types : List Ty) (vals : List Val) (c i : ℕ) (T : Ty) (v : Val) →
    i < length types → i < length vals → T ≡ get_or types i T → v ≡ get_or vals i v →
    comma_separated (typed_text doc c) (take (i + 1) (zip types vals)) ≡ comma_separated (typed_text doc c) (take i (zip types vals)) ++ separator i ++ value_text doc T c v
unfolding typed_text
typed_text-more doc types vals c i T v h k d e = zipped-more (typed_text doc c) types vals i T v h k d e
