-- The parts of a new route's row: the ranges that stay, and those that are walked.
use Rattle.std.specs.Prelude.{◌≡◌, ℕ, ◌+◌, ◌*◌, ◌<◌, ◌≤◌, List, length, take, slice_index_or}
use Rattle.dimension_core.specs.declared.range.Range.{Range}
use Rattle.dimension_core.specs.Setting.{Setting}
use Rattle.dimension_core.specs.Spans.{IsSpanOf, no_range}
use Rattle.plan_core.specs.Drafts.{DraftState, drafted}
use Rattle.plan_core.specs.Front.{IsCommonFront}
use Rattle.plan_core.specs.Plan.{route_at}
use Rattle.range_cache.specs.Cache.{RowState, range_at}
use Rattle.range_cache.specs.declared.fresh.Fresh.{Fresh}

-- these are the ranges at customers of the route after this many of the first ones, in the dimension at place d
pub record IsTrackAfter (s : Setting) (d vehicle front : ℕ) (route : List ℕ) (spans : List Range) : Type 0 where
  pub within : front + length spans ≤ length route
  pub each : (k : ℕ) → k < length spans → IsSpanOf s d vehicle (take (front + k + 1) route) (slice_index_or spans k no_range)

-- in each dimension the row begins with the ranges at this many of the first customers of the route
pub record HasFront (s : Setting) (vehicle front : ℕ) (route : List ℕ) (row : RowState) : Type 0 where
  pub stops : front ≤ row.stops
  pub within : front ≤ length route
  pub sized : length row.ranges ≡ length s.dimensions * row.stops
  pub spans : (d k : ℕ) → d < length s.dimensions → k < front → IsSpanOf s d vehicle (take (k + 1) route) (range_at row d k)

-- the row is that of the route's customers after this many of the first ones
pub record IsTailOf (s : Setting) (vehicle front : ℕ) (route : List ℕ) (row : RowState) : Type 0 where
  pub counted : front + row.stops ≡ length route
  pub sized : length row.ranges ≡ length s.dimensions * row.stops
  pub spans : (d k : ℕ) → d < length s.dimensions → k < row.stops → IsSpanOf s d vehicle (take (front + k + 1) route) (range_at row d k)

-- in each of n dimensions the row has this many of the first ranges of the old one, and then those of the fresh one
pub record IsJoin (n front : ℕ) (old fresh row : RowState) : Type 0 where
  pub counted : row.stops ≡ front + fresh.stops
  pub sized : length row.ranges ≡ n * row.stops
  pub first : (d k : ℕ) → d < n → k < front → range_at row d k ≡ range_at old d k
  pub after : (d k : ℕ) → d < n → k < fresh.stops → range_at row d (front + k) ≡ range_at fresh d k

-- a draft was walked: from the longest common prefix of the old and the new route on, with the ranges of the customers after it
pub record IsFreshOf (s : Setting) (routes : List (List ℕ)) (draft : DraftState) (fresh : Fresh) : Type 0 where
  pub common : IsCommonFront (route_at routes draft.vehicle) (drafted routes draft) fresh.front
  pub tail : IsTailOf s draft.vehicle fresh.front (drafted routes draft) fresh.row

-- the first n of the new routes were walked, one by one, each by its draft
abbrev pub AreFreshOf : {R : Type 0} → (R → DraftState) → Setting → List (List ℕ) → List R → List Fresh → ℕ → Type 0
AreFreshOf {R} draft s routes new freshes n =
    (k : ℕ) (r : R) (f : Fresh) → k < n → IsFreshOf s routes (draft (slice_index_or new k r)) (slice_index_or freshes k f)
