-- The sums of each vehicle of a listing.
use Rattle.std.specs.Prelude.{ℕ, zero, suc, ◌+◌, ◌-◌, Bool, ◌&&◌, ◌==◌, if◌then◌else◌, List, [], ◌∷◌, length, Option, Some, None}
use Rattle.std.specs.List.{flat_map, range_with_len, sum_by}
use Rattle.travel_table.specs.Travel.{node_at}
use Rattle.plan_sums.specs.declared.row.Row.{Row}
use Rattle.plan_sums.specs.declared.tour.Tour.{Tour}
use Rattle.plan_sums.specs.Places.{Places, time_between, travel_of}
use Rattle.plan_sums.specs.Rows.{row_at, is_planned}
use Rattle.plan_sums.specs.Visits.{is_first, is_last, way_at}

-- the place in the listing of the first row of the vehicle whose row is at k
abbrev pub first_of : List Row → ℕ → ℕ
first_of rows zero = 0
first_of rows (suc k) = if is_first rows (suc k) then suc k else first_of rows k

-- the ways to the stops of the rows from one place up to another
abbrev pub ways : Places → List Row → ℕ → ℕ → ℕ
ways p rows from to = sum_by (way_at p rows) (range_with_len from (to - from))

-- when the vehicle leaves the depot, at the latest, for its first stop: known only where that is at its first place
abbrev pub start_of : Places → Row → Option ℕ
start_of p row = if row.place == 1 then Some (row.early - time_between p 0 row.customer) else None

-- The sums of the vehicle whose rows in the listing are those from one place up to another, with it.
abbrev pub tour_of : Places → List Row → ℕ → ℕ → Tour
tour_of p rows first last = record {
  vehicle = (row_at rows last).vehicle;
  stops = last + 1 - first;
  hidden = (row_at rows last).place - (last + 1 - first);
  load = (row_at rows last).load + (node_at p.nodes (row_at rows last).customer).demand;
  start = start_of p (row_at rows first);
  back = (row_at rows last).early + time_between p (row_at rows last).customer 0;
  distance = ways p rows first (last + 1) + travel_of p (row_at rows last).customer 0;
}

-- the row at a place is the last of a vehicle
abbrev pub ends_tour : List Row → ℕ → Bool
ends_tour rows k = is_planned (row_at rows k) && is_last rows k

-- a tour for each last row of a vehicle
abbrev pub tour_at : Places → List Row → ℕ → List Tour
tour_at p rows k = if ends_tour rows k then tour_of p rows (first_of rows k) k ∷ [] else []

-- one for each vehicle that has a row, in the order of the listing
abbrev pub tours_before : Places → List Row → ℕ → List Tour
tours_before p rows n = flat_map (tour_at p rows) (range_with_len 0 n)

abbrev pub tours_of : Places → List Row → List Tour
tours_of p rows = tours_before p rows (length rows)

-- what the tours cost
abbrev pub cost_of : List Tour → ℕ
cost_of tours = sum_by (λ tour. tour.distance) tours
