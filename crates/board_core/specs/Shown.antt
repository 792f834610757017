-- How a listing grows by the spots of a plan, and which customers are marked as placed on the way.
use Rattle.std.specs.Prelude.{◌≡◌, ℕ, ◌+◌, ◌<◌, ◌≤◌, Bool, false, ◌||◌, List, ◌++◌, length, map, filter, slice_index_or, All}
use Rattle.dimension_core.specs.Setting.{Setting}
use Rattle.plan_core.specs.declared.touch.Touch.{Touch}
use Rattle.plan_core.specs.Plan.{route_at}
use Rattle.plan_core.specs.Among.{is_among}
use Rattle.move_core.specs.Moves.{is_placed}
use Rattle.range_cache.specs.Cache.{CacheState, IsCacheOf}
use Rattle.policy_core.specs.Access.{has_access}
use Rattle.board_rules.specs.Listing.{RowShown, spot_of, is_readable, HasEarlyValues}
use Rattle.board_rules.specs.State.{BoardState}

-- the rows grew by those of the spots that the session may read in the state, each with its early values
pub record Grows (s : Setting) (state : BoardState) (session : ℕ) (seen : List Touch) (old new : List RowShown) : Type 0 where
  pub spots : map spot_of new ≡ map spot_of old ++ filter (is_readable (has_access state.policy session)) seen
  pub early : All (HasEarlyValues s state.routes) old → All (HasEarlyValues s state.routes) new

-- the cache is that of these routes, and a customer stands at the place of the vehicle's route
pub record IsStop (s : Setting) (routes : List (List ℕ)) (cache : CacheState) (vehicle place : ℕ) : Type 0 where
  pub kept : IsCacheOf s routes cache
  pub first_vehicle : 1 ≤ vehicle
  pub last_vehicle : vehicle ≤ s.vehicles
  pub first_place : 1 ≤ place
  pub last_place : place ≤ length (route_at routes vehicle)

-- Marks, one for each customer by number: those of the route's customers were set, and the others kept.
pub record AreMarkedOn (route : List ℕ) (old new : List Bool) : Type 0 where
  pub sized : length new ≡ length old
  pub each : (k : ℕ) → k < length old → slice_index_or new k false ≡ (slice_index_or old k false || is_among (k + 1) route)

-- the same for the customers of all routes
pub record AreMarked (routes : List (List ℕ)) (old new : List Bool) : Type 0 where
  pub sized : length new ≡ length old
  pub each : (k : ℕ) → k < length old → slice_index_or new k false ≡ (slice_index_or old k false || is_placed routes (k + 1))
