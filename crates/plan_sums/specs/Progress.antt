-- What has come of the lines, rows and sums of a listing so far.
use Rattle.std.specs.Prelude.{◌≡◌, ℕ, ◌+◌, ◌*◌, ◌<◌, ◌≤◌, Bool, true, false, List, ◌∷◌, [], ◌++◌, Option, Some, None}
use Rattle.limits.specs.declared.TheConstants.{LONGEST_TRAVEL}
use Rattle.plan_sums.specs.declared.row.Row.{Row}
use Rattle.plan_sums.specs.declared.finding.Span.{Span}
use Rattle.plan_sums.specs.declared.finding.Search.{Search}
use Rattle.plan_sums.specs.declared.lines.Kind.TheVariants as kinds
use Rattle.plan_sums.specs.declared.tour.Tally.{Tally}
use Rattle.plan_sums.specs.Places.{Places}
use Rattle.plan_sums.specs.Reading.{IsNoRow, row_of}
use Rattle.plan_sums.specs.Rows.{AllFit, AreRows, AreSeen, fits}
use Rattle.plan_sums.specs.Lines.{IsListing, kind_at}
use Rattle.plan_sums.specs.Tours.{first_of, ways}

-- the last listing that ends before a place, or that there is none
abbrev pub IsFoundBefore : List (List ℕ) → ℕ → Option Span → Type 0
IsFoundBefore lines n None = (first end : ℕ) → end < n → IsListing lines first end → ⊥
IsFoundBefore lines n (Some span) = (span.end < n) × IsListing lines span.first span.end × ((first end : ℕ) → end < n → IsListing lines first end → end ≤ span.end)

-- the lines before a place were searched
pub record IsSearched (lines : List (List ℕ)) (n : ℕ) (search : Search) : Type 0 where
  pub start : search.first ≤ n
  pub rows : (k : ℕ) → search.first ≤ k → k < n → kind_at lines k ≡ kinds.Row
  pub whole : (k : ℕ) → k + 1 ≡ search.first → kind_at lines k ≡ kinds.Row → ⊥
  pub found : IsFoundBefore lines n search.found

-- rows of a listing so far, and whose they are
pub record AreTaken (p : Places) (rows : List Row) (seen : List Bool) : Type 0 where
  pub are_rows : AreRows p rows
  pub fit : AllFit p rows
  pub known : AreSeen p rows seen

-- one more row: it fits, and is taken, or it does not
abbrev pub IsTakenBy : Places → List Row → List Row → List Bool → Row → Bool → Type 0
IsTakenBy p old new seen row true = (new ≡ old ++ row ∷ []) × AreTaken p new seen
IsTakenBy p old new seen row false = fits p old row ≡ false

-- the row of one more line: it is taken, or the line has none that may come next
abbrev pub IsLineTaken : Places → List Row → List Row → List Bool → List ℕ → Bool → Type 0
IsLineTaken p old new seen line true = (row : Row) × (row_of line ≡ Some row) × IsTakenBy p old new seen row true
IsLineTaken p old new seen line false = IsNoRow p old line

-- the first row of the vehicle of the last of some rows, and the ways to its stops
pub record IsTallied (p : Places) (rows : List Row) (n : ℕ) (tally : Tally) : Type 0 where
  pub start : tally.first ≤ n
  pub here : (k : ℕ) → k + 1 ≡ n → tally.first ≤ k
  pub first : (k : ℕ) → k + 1 ≡ n → tally.first ≡ first_of rows k
  pub ways : tally.ways ≡ ways p rows tally.first n
  pub small : tally.ways ≤ n * LONGEST_TRAVEL
