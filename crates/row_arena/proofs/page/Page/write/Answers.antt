use Rattle.std.proofs.Common.{◌≡◌, ◌++◌, [], length, sym, ap, ◌∙◌, arith, Some, None}
use Rattle.std.specs.Mem.Slots.{slots_items}
use Rattle.row_arena.specs.Held.{cells_of}
use Rattle.row_arena.proofs.Written.{front_written, none_in, length_written}
use Rattle.row_arena.proofs.page.Page.write.Goals as goal
use Rattle.row_arena.proofs.page.Page.write.Goals.{in-Some, in-None}

pub copy_in-requires : goal.copy_in-requires
copy_in-requires c =
    let now : c.args.self.now ≡ cells_of (Some c.in-Some.places) = sym c.self.view_is ∙ ap cells_of c.in-Some.is in
    let items = ap (λ v. length v.items) now in
    let room = ap (λ v. v.room) now in
    let long = length_written c.in-Some.places.written (slots_items c.in-Some.places.slots) (omega (arith, c.in-Some.places.within, c.in-Some.places.slots.ok.0)) in
    omega (arith, c.requires.room, items, room, long)

pub returns-clause-items : goal.returns-clause-items
returns-clause-items c =
    elim c.match-self.branch [
      | in-Some w ↦
          let now : c.args.self.now ≡ cells_of (Some w.in-Some.places) = sym c.self.view_is ∙ ap cells_of w.in-Some.is in
          let within = w.in-Some.places.within in
          let long = w.in-Some.places.slots.ok.0 in
          ap (λ p. (cells_of p.places).items) w.self-inside-is
          ∙ front_written (slots_items w.in-Some.places.slots) (slots_items w.copy_in.new.self) c.args.row.now _ w.in-Some.places.written (omega (arith, within, long)) w.copy_in.ensures.items
          ∙ ap (λ v. v.items ++ c.args.row.now) (sym now)
      | in-None w ↦
          let now : c.args.self.now ≡ cells_of None = sym c.self.view_is ∙ ap cells_of w.in-None.is in
          let room = ap (λ v. v.room) now in
          let nothing : c.args.row.now ≡ [] = none_in c.args.row.now (omega (arith, c.requires.room, room)) in
          ap (λ p. (cells_of p.places).items) w.self-inside-is
          ∙ ap (λ p. (cells_of p).items) w.in-None.is
          ∙ sym (ap (λ v. v.items ++ c.args.row.now) now ∙ ap (λ r. [] ++ r) nothing)
    ]

pub returns-clause-room : goal.returns-clause-room
returns-clause-room c =
    elim c.match-self.branch [
      | in-Some w ↦
          let now : c.args.self.now ≡ cells_of (Some w.in-Some.places) = sym c.self.view_is ∙ ap cells_of w.in-Some.is in
          ap (λ p. (cells_of p.places).room) w.self-inside-is ∙ w.copy_in.ensures.places.count ∙ ap (λ v. v.room) (sym now)
      | in-None w ↦
          let now : c.args.self.now ≡ cells_of None = sym c.self.view_is ∙ ap cells_of w.in-None.is in
          ap (λ p. (cells_of p.places).room) w.self-inside-is ∙ ap (λ p. (cells_of p).room) w.in-None.is ∙ ap (λ v. v.room) (sym now)
    ]
