use Rattle.std.proofs.Common.{◌≡◌, ◌<◌, ◌≤◌, List, ℕ, length, take, drop, arith, sym, ap, ◌∙◌}
use Rattle.std.proofs.lemmas.Grind.{common_steps}
use Rattle.topos_io.specs.Memory.{PlannedSource}
use Rattle.topos_io.proofs.Parts.{read_on}
use Rattle.topos_io.proofs.memory.MemSourceSource.read.Goals as goal

pub returns-clause-bytes : goal.returns-clause-bytes
returns-clause-bytes c =
    let bytes : List ℕ = c.self.inside.bytes.items in
    let at : ℕ = c.self.inside.at in
    let n : ℕ = c.min-n.result in
    let into : List ℕ = c.args.into.now in
    let some : 0 < n = grind (arith, common_steps) in
    let fits : n ≤ length into = grind (arith, common_steps) in
    let copied : c.copy_from_slice.new.self ≡ take n (drop at bytes) = grind (arith, common_steps) in
    let left : n ≤ length (drop at bytes) = grind (arith, common_steps) in
    let was : c.args.self.now.left ≡ drop at bytes = sym (ap (λ (planned : PlannedSource). planned.left) c.self.view_is) in
    (some, grind (arith, common_steps), was ∙ read_on at n bytes c.copy_from_slice.new.self (drop n into) copied left)
