-- The ranges along a route in one dimension.
use Rattle.std.specs.Prelude.{ℕ, ◌+◌, ◌<◌, ◌≤◌, List, length, take, slice_index_or, Option}
use Rattle.dimension_core.specs.declared.range.Range.{Range}
use Rattle.dimension_core.specs.Cumuls.{IsSpan, Reaches, table_of}
use Rattle.dimension_core.specs.Setting.{Setting, dimension_at}
use Rattle.dimension_core.specs.Spans.{IsSpanOf, no_range}

-- as `IsSpanOf`, where there may be no cumul: the interval of the cumuls at the last of some nodes, in the dimension at place d, from 0 on
abbrev pub IsSpanAt : Setting → ℕ → ℕ → List ℕ → Option Range → Type 0
IsSpanAt s d vehicle nodes span = IsSpan span (Reaches (table_of s.tables (dimension_at s d)) (dimension_at s d) vehicle nodes)

-- these are the ranges at the first customers of the route, one for each, in the dimension at place d
pub record IsTrack (s : Setting) (d vehicle : ℕ) (route : List ℕ) (spans : List Range) : Type 0 where
  pub within : length spans ≤ length route
  pub each : (k : ℕ) → k < length spans → IsSpanOf s d vehicle (take (k + 1) route) (slice_index_or spans k no_range)
