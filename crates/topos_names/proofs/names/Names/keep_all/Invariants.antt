use Rattle.std.proofs.Common.{◌≡◌, ◌||◌, map, take, bytes_eq}
use Rattle.std.specs.List.{list_any}
use Rattle.topos_text.specs.Names.{Name}
use Rattle.topos_names.proofs.names.Names.keep_all.Given as goal

abbrev pub invariant-loop-text : goal.invariant-loop-text
invariant-loop-text l = (x : Name) → list_any (λ y. bytes_eq y x) l.self ≡ (list_any (λ y. bytes_eq y x) l.initial.self || list_any (λ y. bytes_eq y x) (map (λ k. k.now) (take l.text-index l.text-items)))
