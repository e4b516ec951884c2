-- Worked examples, by computation: texts that are made, and what is written of their runs.
use Rattle.std.specs.Prelude.{◌≡◌, length, codes, refl}
use Rattle.std.specs.Fmt.{digits}
use Rattle.topos_program.specs.Generated.{vertex, edge, source, target, listing, generate, count_lines, last_line, made_text}

-- what the examples compute with
opened : Unit {0}
unfolding digits vertex edge source target listing generate count_lines last_line made_text
opened = tt

loop : generate 1
    ≡ codes "object V, E;\narrow s, t : V -> E;\npresheaf G {\nat V : v0;\nat E : e0;\nalong s : e0 -> v0;\nalong t : e0 -> v0;\n};\nshow { x : G, y : G | x = y };\nvalid x : G, y : G | x = y or not x = y;\nvalid x : G | exists y : G . not x = y;\n"
unfolding opened
loop = refl

loop_length : length (generate 1) ≡ 224
unfolding opened
loop_length = refl

loop_lines : count_lines (generate 1) ≡ 11
unfolding opened
loop_lines = refl

triangle : listing (codes "along t : ") (target 3) 3 ≡ codes "along t : e0 -> v1, e1 -> v2, e2 -> v0;\n"
unfolding opened
triangle = refl

loop_made : made_text 1 (codes "4 show\nV: (v0, v0)\nE: (e0, e0)\n5 valid\n6 not valid\nV: (v0)\nE: (e0)\ncells 36\n") ≡ codes "size 1\nbytes 224\nlines 8\ncells 36\n"
unfolding opened
loop_made = refl

-- a run that stops at the budget
stopped_made : made_text 1 (codes "4 budget\n") ≡ codes "size 1\nbytes 224\nlines 1\n4 budget\n"
unfolding opened
stopped_made = refl

-- the longest one
longest : length (generate 256) ≡ 9776
unfolding opened
longest = refl
