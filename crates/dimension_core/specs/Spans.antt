-- The cumuls that a vehicle may have at a stop, in each dimension.
use Rattle.std.specs.Prelude.{ℕ, List, Some}
use Rattle.dimension_core.specs.declared.range.Range.{Range}
use Rattle.dimension_core.specs.Cumuls.{IsSpan, Reaches, table_of}
use Rattle.dimension_core.specs.Setting.{Setting, dimension_at}

-- the range is that of the cumuls in the dimension at place k, from 0 on, at the last of some nodes on the vehicle's way
abbrev pub IsSpanOf : Setting → ℕ → ℕ → List ℕ → Range → Type 0
IsSpanOf s k vehicle nodes range =
    IsSpan (Some range) (Reaches (table_of s.tables (dimension_at s k)) (dimension_at s k) vehicle nodes)

abbrev pub no_range : Range
no_range = record { lo = 0; hi = 0 }
