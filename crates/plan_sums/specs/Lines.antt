-- The lines of an output, and its last listing.
use Rattle.std.specs.Prelude.{◌≡◌, ℕ, ◌+◌, ◌<◌, ◌≤◌, ◌==◌, ◌&&◌, if◌then◌else◌, List, [], length, codes, slice_index_or, Option, Some, None}
use Rattle.std.specs.Str.{bytes_eq}
use Rattle.text_words.specs.Words.{words}
use Rattle.plan_sums.specs.declared.lines.Kind.{Kind}
use Rattle.plan_sums.specs.declared.lines.Kind.TheVariants as kinds
use Rattle.plan_sums.specs.declared.finding.Span.{Span}

-- What a line of these words is to a listing: one of its rows, where the first word is `row`; its end, where the only word is `end`; or neither.
abbrev pub kind_of_words : List (List ℕ) → Kind
kind_of_words ws =
    if bytes_eq (slice_index_or ws 0 []) (codes "row") then kinds.Row
    else (if (length ws == 1) && bytes_eq (slice_index_or ws 0 []) (codes "end") then kinds.End else kinds.Other)

abbrev pub kind_of : List ℕ → Kind
kind_of line = kind_of_words (words line)

-- the line at a place, from 0
abbrev pub line_at : List (List ℕ) → ℕ → List ℕ
line_at lines k = slice_index_or lines k []

abbrev pub kind_at : List (List ℕ) → ℕ → Kind
kind_at lines k = kind_of (line_at lines k)

-- A listing: one row or more, all the rows that come together, and then the line that ends it. It is named by the places of its first row and of its
-- end.
pub record IsListing (lines : List (List ℕ)) (first end : ℕ) : Type 0 where
  pub some : first < end
  pub within : end < length lines
  pub rows : (k : ℕ) → first ≤ k → k < end → kind_at lines k ≡ kinds.Row
  pub ended : kind_at lines end ≡ kinds.End
  pub whole : (k : ℕ) → k + 1 ≡ first → kind_at lines k ≡ kinds.Row → ⊥

-- a listing, and no other one ends behind it
pub record IsLastListing (lines : List (List ℕ)) (span : Span) : Type 0 where
  pub listing : IsListing lines span.first span.end
  pub last : (first end : ℕ) → IsListing lines first end → end ≤ span.end

-- the last listing of some lines, or that they have none
abbrev pub IsFound : List (List ℕ) → Option Span → Type 0
IsFound lines None = (first end : ℕ) → IsListing lines first end → ⊥
IsFound lines (Some span) = IsLastListing lines span
