-- The lines of a text, and those that are not blank, with their numbers.
use Rattle.std.specs.Prelude.{ℕ, ◌+◌, List, [], ◌∷◌, length, ◌==◌, if◌then◌else◌}
use Rattle.std.specs.List.{slice_split}
use Rattle.std.specs.Io.BufRead.{strip_last}
use Rattle.text_words.specs.Words.{words}

-- Each line without one carriage return at its end. What follows the last line end is a line unless it is empty.
abbrev pub lines_of_parts : List (List ℕ) → List (List ℕ)
lines_of_parts [] = []
lines_of_parts (part ∷ []) = if length part == 0 then [] else (strip_last 13 part ∷ [])
lines_of_parts (part ∷ next ∷ parts) = strip_last 13 part ∷ lines_of_parts (next ∷ parts)

-- the lines of a text, cut at each line feed
unfoldable pub lines : List ℕ → List (List ℕ)
lines text = lines_of_parts (slice_split (λ b. b == 10) text)

-- a line by its number and its bytes
pub record Numbered : Type 0 where
  pub number : ℕ
  pub text : List ℕ

abbrev pub numbered : ℕ → List ℕ → Numbered
numbered n text = record { number = n; text = text }

-- the line and what follows, or only what follows where the line has no word
abbrev pub unless_blank : Numbered → List (List ℕ) → List Numbered → List Numbered
unless_blank line [] more = more
unless_blank line (w ∷ ws) more = line ∷ more

-- the lines that are not blank, where the first line has number n
abbrev pub full_lines : ℕ → List (List ℕ) → List Numbered
full_lines n [] = []
full_lines n (line ∷ more) = unless_blank (numbered n line) (words line) (full_lines (n + 1) more)

-- the lines of a text that are not blank, where its first line has number n
abbrev pub full_left : ℕ → List ℕ → List Numbered
full_left n text = full_lines n (lines text)

-- the number of lines plus 1, where the first has number n
abbrev pub number_after : ℕ → List ℕ → ℕ
number_after n text = n + length (lines text)
