-- The cumuls along the routes of a view, kept from both ends.
use Rattle.std.specs.Prelude.{◌≡◌, ◌≢◌, ℕ, ◌+◌, ◌-◌, ◌*◌, ◌<◌, List, [], ◌∷◌, ◌++◌, length, slice_index_or, take, drop, Option, None}
use Rattle.callback_store.specs.Tables.{Table}
use Rattle.dimension_core.specs.declared.range.Range.{Range}
use Rattle.dimension_core.specs.Cumuls.{Bounds, IsSpan, Reaches, table_of}
use Rattle.dimension_core.specs.Onward.{IsOnward}
use Rattle.dimension_core.specs.Setting.{Setting, dimension_at}
use Rattle.plan_core.specs.Plan.{route_at}

-- as many spans for each dimension as the width says, dimension by dimension
pub record SpanTable : Type 0 where
  pub width : ℕ
  pub cells : List (Option Range)

-- the span at a place in the dimension at the place k, both from 0 on
abbrev pub span_at : SpanTable → ℕ → ℕ → Option Range
span_at spans k place = slice_index_or spans.cells (k * spans.width + place) None

-- x is a cumul at the first of some nodes from which the way over the others can go on
abbrev pub GoesOn : Table → Bounds → ℕ → List ℕ → ℕ → Type 0
GoesOn t d vehicle [] x = ⊥
GoesOn t d vehicle (z ∷ rest) x = IsOnward t d vehicle z rest x

-- the cumuls after the first customers of a route, in the dimension at the place k
abbrev pub IsAhead : Setting → ℕ → List ℕ → ℕ → Option Range → Type 0
IsAhead s vehicle front k span = IsSpan span (Reaches (table_of s.tables (dimension_at s k)) (dimension_at s k) vehicle front)

-- the cumuls at the first of the last customers of a route from which they and the depot can be gone to
abbrev pub IsBehind : Setting → ℕ → List ℕ → ℕ → Option Range → Type 0
IsBehind s vehicle back k span = IsSpan span (GoesOn (table_of s.tables (dimension_at s k)) (dimension_at s k) vehicle (back ++ 0 ∷ []))

-- the first n numbers of a table, row by row
pub record AreCells (P : ℕ → ℕ → Option Range → Type 0) (width n : ℕ) (cells : List (Option Range)) : Type 0 where
  pub counted : length cells ≡ n
  pub each : (k place : ℕ) → place < width → k * width + place < n → P k place (slice_index_or cells (k * width + place) None)

-- in each dimension the spans after each number of first customers of a route
pub record AreAhead (s : Setting) (vehicle : ℕ) (route : List ℕ) (spans : SpanTable) : Type 0 where
  pub width : spans.width ≡ length route + 1
  pub cells : AreCells (λ k place span. IsAhead s vehicle (take place route) k span) spans.width (length s.dimensions * spans.width) spans.cells

-- and before each number of last ones
pub record AreBehind (s : Setting) (vehicle : ℕ) (route : List ℕ) (spans : SpanTable) : Type 0 where
  pub width : spans.width ≡ length route + 1
  pub cells : AreCells (λ k place span. IsBehind s vehicle (drop (length route - place) route) k span) spans.width (length s.dimensions * spans.width) spans.cells

-- a table has the spans after some first customers, and before some last ones
pub record HasAhead (s : Setting) (vehicle : ℕ) (front : List ℕ) (spans : SpanTable) : Type 0 where
  pub within : (k : ℕ) → k < length s.dimensions → k * spans.width + length front < length spans.cells
  pub each : (k : ℕ) → k < length s.dimensions → IsAhead s vehicle front k (span_at spans k (length front))

pub record HasBehind (s : Setting) (vehicle : ℕ) (back : List ℕ) (spans : SpanTable) : Type 0 where
  pub within : (k : ℕ) → k < length s.dimensions → k * spans.width + length back < length spans.cells
  pub each : (k : ℕ) → k < length s.dimensions → IsBehind s vehicle back k (span_at spans k (length back))

-- what is kept for a vehicle: the spans from both ends of its route, and those from the end of another's route; nothing where the width is 0
pub record KeptSpans : Type 0 where
  pub ahead : SpanTable
  pub behind : SpanTable
  pub over : SpanTable

pub record AreKept (s : Setting) (routes : List (List ℕ)) (v w : ℕ) (kept : KeptSpans) : Type 0 where
  pub ahead : 0 < kept.ahead.width → AreAhead s v (route_at routes v) kept.ahead
  pub behind : 0 < kept.behind.width → AreBehind s v (route_at routes v) kept.behind
  pub over : v ≢ w → 0 < kept.over.width → AreBehind s v (route_at routes w) kept.over
