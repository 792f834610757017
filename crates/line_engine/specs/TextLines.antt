-- The lines of a whole text.
use Rattle.std.specs.Prelude.{ℕ, ◌==◌, List, [], ◌∷◌}
use Rattle.std.specs.List.{slice_split}
use Rattle.line_engine.specs.Running.{last_line}

-- the lines of a text: what comes before each line end, and what follows the last one unless that is empty
abbrev pub whole_lines : List (List ℕ) → List (List ℕ)
whole_lines [] = []
whole_lines (part ∷ []) = last_line part
whole_lines (part ∷ next ∷ parts) = part ∷ whole_lines (next ∷ parts)

abbrev pub lines_of : List ℕ → List (List ℕ)
lines_of text = whole_lines (slice_split (λ b. b == 10) text)
