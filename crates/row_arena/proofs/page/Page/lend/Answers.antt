use Rattle.std.proofs.Common.{◌≡◌, length, take, drop, sym, ap, ◌∙◌, arith, Some}
use Rattle.std.specs.Mem.Slots.{slots_items}
use Rattle.row_arena.specs.Held.{cells_of}
use Rattle.row_arena.proofs.Written.{run_of_written, length_written}
use Rattle.row_arena.proofs.page.Page.lend.Goals as goal

pub lend-requires : goal.lend-requires
lend-requires c =
    let now : c.args.self.now ≡ cells_of (Some c.in-Some.places) = sym c.self.view_is ∙ ap cells_of c.in-Some.is in
    let items = ap (λ v. length v.items) now in
    let within = c.in-Some.places.within in
    let long = length_written c.in-Some.places.written (slots_items c.in-Some.places.slots) (omega (arith, within, c.in-Some.places.slots.ok.0)) in
    (omega arith, omega (arith, c.requires.within, items, long, within), c.in-Some.places.here.0, λ k l m. c.in-Some.places.filled k (omega arith) (omega (arith, m, c.requires.within, items, long)))

pub returns-in-Some : goal.returns-in-Some
returns-in-Some c =
    let now : c.args.self.now ≡ cells_of (Some c.in-Some.places) = sym c.self.view_is ∙ ap cells_of c.in-Some.is in
    let items = ap (λ v. length v.items) now in
    record {
      row = c.lend.ensures ∙ run_of_written c.args.at c.args.len c.in-Some.places.written (slots_items c.in-Some.places.slots) (omega (arith, c.requires.within, items))
          ∙ ap (λ v. take c.args.len (drop c.args.at v.items)) (sym now);
    }
