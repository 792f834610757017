-- Listings: the rows of the whole plan, of which a session sees those that it may read.
use Rattle.std.specs.Prelude.{◌≡◌, ℕ, ◌+◌, ◌<◌, Bool, not, ◌&&◌, ◌||◌, ◌==◌, if◌then◌else◌, List, [], ◌∷◌, ◌++◌, length, take, map, filter, slice_index, All}
use Rattle.std.specs.List.{range_with_len}
use Rattle.dimension_core.specs.Cumuls.{IsEarly, table_of}
use Rattle.dimension_core.specs.Setting.{Setting, dimension_at}
use Rattle.permission_core.specs.declared.objects.Operation.{Operation}
use Rattle.permission_core.specs.declared.objects.Operation.TheVariants as operations
use Rattle.permission_core.specs.declared.objects.Object.{Object}
use Rattle.permission_core.specs.declared.objects.Object.TheVariants as objects
use Rattle.plan_core.specs.declared.touch.Touch.{Touch}
use Rattle.plan_core.specs.Plan.{route_at}
use Rattle.move_core.specs.Moves.{is_placed}
use Rattle.move_core.specs.Touched.{touches}
use Rattle.board_rules.specs.Rules.{basis_of}
use Rattle.board_rules.specs.State.{BoardState}

-- a row as it is shown: vehicle and place are 0 for an unassigned customer, which has no early values
pub record RowShown : Type 0 where
  pub vehicle : ℕ
  pub place : ℕ
  pub customer : ℕ
  pub early : List ℕ

-- where the customer of a row stands
abbrev pub spot_of : RowShown → Touch
spot_of row = record { vehicle = row.vehicle; place = row.place; customer = row.customer }

-- the spots of routes, where the first is that of the vehicle, by vehicle and place
abbrev pub placed_spots : ℕ → List (List ℕ) → List Touch
placed_spots vehicle [] = []
placed_spots vehicle (route ∷ routes) = touches vehicle 1 route ++ placed_spots (vehicle + 1) routes

-- the customers that stand nowhere, by number
abbrev pub unassigned_spots : ℕ → List (List ℕ) → List Touch
unassigned_spots customers routes =
    map (λ c. record { vehicle = 0; place = 0; customer = c }) (filter (λ c. not (is_placed routes c)) (range_with_len 1 customers))

-- the spots of the whole plan: by vehicle and place, and then the unassigned customers by number
abbrev pub all_spots : ℕ → List (List ℕ) → List Touch
all_spots customers routes = placed_spots 1 routes ++ unassigned_spots customers routes

-- whether a session with these permissions may read a spot: it needs `view` on the customer and, where that is placed, on its vehicle
abbrev pub is_readable : (Operation → Object → Bool) → Touch → Bool
is_readable may spot =
    may operations.View (objects.Customer spot.customer)
    && (spot.vehicle == 0 || may operations.View (objects.Vehicle spot.vehicle))

-- the row has an early value for each dimension where it is placed, and none where it is not
pub record HasEarlyValues (s : Setting) (routes : List (List ℕ)) (row : RowShown) : Type 0 where
  pub sized : length row.early ≡ (if row.vehicle == 0 then 0 else length s.dimensions)
  pub values : (k : ℕ) → k < length row.early →
      IsEarly (table_of s.tables (dimension_at s k)) (dimension_at s k) row.vehicle (take row.place (route_at routes row.vehicle)) (slice_index row.early k)

-- the rows are exactly those of the whole plan that may be read, in their order
pub record IsListingBy (s : Setting) (may : Operation → Object → Bool) (routes : List (List ℕ)) (rows : List RowShown) : Type 0 where
  pub spots : map spot_of rows ≡ filter (is_readable may) (all_spots s.customers routes)
  pub early : All (HasEarlyValues s routes) rows

-- the rows are exactly those that the session may read in the state
abbrev pub IsListing : Setting → BoardState → ℕ → List RowShown → Type 0
IsListing s state session rows = IsListingBy s (basis_of state session).may state.routes rows
