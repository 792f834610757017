-- The rows of the last listing of an output.
use Rattle.std.specs.Prelude.{◌≡◌, ℕ, ◌+◌, ◌<◌, ◌⊎◌, false, ◌==◌, ◌&&◌, nat_lt, if◌then◌else◌, List, [], ◌∷◌, length, Option, Some, None, MatchOption}
use Rattle.text_words.specs.Words.{words, number}
use Rattle.solomon_reader.specs.Cuts.{lines}
use Rattle.plan_sums.specs.declared.row.Row.{Row}
use Rattle.plan_sums.specs.declared.fault.RowsFault.{RowsFault}
use Rattle.plan_sums.specs.declared.fault.RowsFault.TheVariants as faults
use Rattle.plan_sums.specs.declared.finding.Span.{Span}
use Rattle.plan_sums.specs.Places.{Places}
use Rattle.plan_sums.specs.Rows.{fits, row_at, AllFit}
use Rattle.plan_sums.specs.Lines.{IsLastListing, IsFound, line_at}

-- ---- the row of a line

-- vehicle, place, customer, load and time of a planned customer
abbrev pub planned_row : Option ℕ → Option ℕ → Option ℕ → Option ℕ → Option ℕ → Option Row
planned_row (Some v) (Some p) (Some c) (Some l) (Some e) = if nat_lt 0 v && nat_lt 0 p then Some (record { vehicle = v; place = p; customer = c; load = l; early = e }) else None
planned_row _ _ _ _ _ = None

-- 0, 0 and a customer who is not planned
abbrev pub lone_row : Option ℕ → Option ℕ → Option ℕ → Option Row
lone_row (Some v) (Some p) (Some c) = if (v == 0) && (p == 0) then Some (record { vehicle = 0; place = 0; customer = c; load = 0; early = 0 }) else None
lone_row _ _ _ = None

-- behind the word `row` a line has the numbers of one of the two
abbrev pub row_of_words : List (List ℕ) → Option Row
row_of_words (w ∷ v ∷ p ∷ c ∷ []) = lone_row (number v) (number p) (number c)
row_of_words (w ∷ v ∷ p ∷ c ∷ l ∷ e ∷ []) = planned_row (number v) (number p) (number c) (number l) (number e)
row_of_words _ = None

abbrev pub row_of : List ℕ → Option Row
row_of line = row_of_words (words line)

-- ---- what is read

-- from a place on, so many lines are these rows, and each fits behind those before it
pub record AreRowsFrom (p : Places) (ls : List (List ℕ)) (first : ℕ) (rows : List Row) : Type 0 where
  pub read : (k : ℕ) → k < length rows → row_of (line_at ls (first + k)) ≡ Some (row_at rows k)
  pub fit : AllFit p rows

-- a line that is no row, or one that does not fit behind the rows before it
abbrev pub IsNoRow : Places → List Row → List ℕ → Type 0
IsNoRow p before line = MatchOption (row_of line) (Unit {0}) (λ row. fits p before row ≡ false)

-- the first row of a listing that is none of the instance, on this line, from 1
pub record IsBadRowAt (p : Places) (ls : List (List ℕ)) (span : Span) (line : ℕ) : Type 0 where
  pub before : List Row
  pub within : span.first + length before < span.end
  pub rows_from : AreRowsFrom p ls span.first before
  pub bad : IsNoRow p before (line_at ls (span.first + length before))
  pub here : line ≡ span.first + length before + 1

-- so many rows, of a listing at these places
pub record AreRowsAt (p : Places) (ls : List (List ℕ)) (span : Span) (rows : List Row) : Type 0 where
  pub counted : span.first + length rows ≡ span.end
  pub rows_from : AreRowsFrom p ls span.first rows

-- why its rows are not read: the first bad row, or memory ran out
abbrev pub IsFaultAt : Places → List (List ℕ) → Span → RowsFault → Type 0
IsFaultAt p ls span faults.NoMemory = Unit {0}
IsFaultAt p ls span (faults.Line line) = IsBadRowAt p ls span line

-- there is no listing, and the line is the one behind the last
pub record HasNoListing (ls : List (List ℕ)) (line : ℕ) : Type 0 where
  pub none : IsFound ls None
  pub here : line ≡ length ls + 1

-- why no rows are read of an output: the first bad row of its last listing, or it has no listing, or memory ran out
abbrev pub IsFault : Places → List ℕ → RowsFault → Type 0
IsFault p text faults.NoMemory = Unit {0}
IsFault p text (faults.Line line) = ((span : Span) × IsLastListing (lines text) span × IsBadRowAt p (lines text) span line) ⊎ HasNoListing (lines text) line

-- the rows are those of the last listing of an output
abbrev pub AreLastRows : Places → List ℕ → List Row → Type 0
AreLastRows p text rows = (span : Span) × IsLastListing (lines text) span × AreRowsAt p (lines text) span rows
