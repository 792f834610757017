-- What a cache of ranges keeps, and to which routes it belongs.
use Rattle.std.specs.Prelude.{◌≡◌, ℕ, ◌+◌, ◌-◌, ◌*◌, ◌<◌, ◌≤◌, List, [], length, take, slice_index_or}
use Rattle.dimension_core.specs.declared.range.Range.{Range}
use Rattle.dimension_core.specs.Setting.{Setting}
use Rattle.dimension_core.specs.Spans.{IsSpanOf, no_range}
use Rattle.plan_core.specs.Plan.{route_at}

-- For a vehicle: how many customers its route has, and for each dimension in order a range for each of them in order.
pub record RowState : Type 0 where
  pub stops : ℕ
  pub ranges : List Range

-- for each vehicle in order its row
pub record CacheState : Type 0 where
  pub rows : List RowState

abbrev pub no_row : RowState
no_row = record { stops = 0; ranges = [] }

-- the row of a vehicle, vehicles counted from 1
abbrev pub row_at : CacheState → ℕ → RowState
row_at cache v = slice_index_or cache.rows (v - 1) no_row

-- the range of the dimension at place d at the customer at place k, both from 0 on
abbrev pub range_at : RowState → ℕ → ℕ → Range
range_at row d k = slice_index_or row.ranges (d * row.stops + k) no_range

-- the row is that of the vehicle's route: each range holds exactly the cumuls that can be reached at its customer
pub record IsRowOf (s : Setting) (vehicle : ℕ) (route : List ℕ) (row : RowState) : Type 0 where
  pub counted : row.stops ≡ length route
  pub sized : length row.ranges ≡ length s.dimensions * row.stops
  pub spans : (d k : ℕ) → d < length s.dimensions → k < length route → IsSpanOf s d vehicle (take (k + 1) route) (range_at row d k)

-- the cache is that of these routes, one for each vehicle of the setting
pub record IsCacheOf (s : Setting) (routes : List (List ℕ)) (cache : CacheState) : Type 0 where
  pub vehicles : length routes ≡ s.vehicles
  pub sized : length cache.rows ≡ s.vehicles
  pub each : (v : ℕ) → 1 ≤ v → v ≤ s.vehicles → IsRowOf s v (route_at routes v) (row_at cache v)

-- the cache is that of these routes, and the dimension d has a range at the place of the vehicle's route; all three count from 1
pub record HasEarly (s : Setting) (routes : List (List ℕ)) (cache : CacheState) (d vehicle place : ℕ) : Type 0 where
  pub kept : IsCacheOf s routes cache
  pub first_dimension : 1 ≤ d
  pub last_dimension : d ≤ length s.dimensions
  pub first_vehicle : 1 ≤ vehicle
  pub last_vehicle : vehicle ≤ s.vehicles
  pub first_place : 1 ≤ place
  pub last_place : place ≤ length (route_at routes vehicle)
