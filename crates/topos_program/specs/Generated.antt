-- The text that is made: a graph that is one cycle, its equal pairs, and two verdicts.
use Rattle.std.specs.Prelude.{ℕ, ◌+◌, ◌-◌, ◌%◌, List, ◌++◌, length, take, codes, decimal, filter, eqb}
use Rattle.std.specs.List.{range_with_len, after_last}
use Rattle.topos_report.specs.Lists.{comma_separated}

-- the names of vertices and edges
unfoldable pub vertex : ℕ → List ℕ
vertex i = codes "v" ++ decimal i

unfoldable pub edge : ℕ → List ℕ
edge i = codes "e" ++ decimal i

-- edge i goes from vertex i to the next one, and the last edge to vertex 0
unfoldable pub source : ℕ → List ℕ
source i = edge i ++ codes " -> " ++ vertex i

unfoldable pub target : ℕ → ℕ → List ℕ
target n i = edge i ++ codes " -> " ++ vertex ((i + 1) % n)

-- a word, and what there is for 0, .., n - 1
unfoldable pub listing : List ℕ → (ℕ → List ℕ) → ℕ → List ℕ
listing word spelling n = word ++ comma_separated spelling (range_with_len 0 n) ++ codes ";\n"

-- the text for a cycle of n edges
unfoldable pub generate : ℕ → List ℕ
generate n =
    codes "object V, E;\n"
    ++ codes "arrow s, t : V -> E;\n"
    ++ codes "presheaf G {\n"
    ++ listing (codes "at V : ") vertex n
    ++ listing (codes "at E : ") edge n
    ++ listing (codes "along s : ") source n
    ++ listing (codes "along t : ") (target n) n
    ++ codes "};\n"
    ++ codes "show { x : G, y : G | x = y };\n"
    ++ codes "valid x : G, y : G | x = y or not x = y;\n"
    ++ codes "valid x : G | exists y : G . not x = y;\n"

-- each line ends with a line feed
abbrev pub line_feed : ℕ
line_feed = 10

-- how many lines a text has
unfoldable pub count_lines : List ℕ → ℕ
count_lines text = length (filter (eqb line_feed) text)

-- and the last of them
unfoldable pub last_line : List ℕ → List ℕ
last_line text = after_last (eqb line_feed) (take (length text - 1) text) ++ codes "\n"

-- what is written where a text was made: its size, its length, and the length and the last line of the report of its run
unfoldable pub made_text : ℕ → List ℕ → List ℕ
made_text n report =
    codes "size " ++ decimal n ++ codes "\n"
    ++ codes "bytes " ++ decimal (length (generate n)) ++ codes "\n"
    ++ codes "lines " ++ decimal (count_lines report) ++ codes "\n"
    ++ last_line report
