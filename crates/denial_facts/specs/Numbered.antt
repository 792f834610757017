-- A note behind the number of its line.
use Rattle.std.specs.Prelude.{ℕ, List, ◌++◌, codes}
use Rattle.std.specs.Fmt.{decimal}

-- the number of a line, and a note on it
abbrev pub numbered_text : ℕ → List ℕ → List ℕ
numbered_text number note = codes "line " ++ (decimal number ++ (codes ": " ++ (note ++ codes "\n")))
