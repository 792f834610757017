-- The sums as text.
use Rattle.std.specs.Prelude.{ℕ, ◌-◌, List, ◌++◌, length, codes, filter, not, Option, Some, None}
use Rattle.std.specs.List.{flat_map}
use Rattle.std.specs.Fmt.{decimal}
use Rattle.plan_sums.specs.declared.row.Row.{Row}
use Rattle.plan_sums.specs.declared.tour.Tour.{Tour}
use Rattle.plan_sums.specs.Places.{Places}
use Rattle.plan_sums.specs.Rows.{is_planned}
use Rattle.plan_sums.specs.Tours.{tours_of, cost_of}

-- a time, or a hyphen where it is not known
abbrev pub time_text : Option ℕ → List ℕ
time_text None = codes "-"
time_text (Some t) = decimal t

-- the line of a vehicle: its sums, each behind its name
abbrev pub tour_text : ℕ → Tour → List ℕ
tour_text capacity tour = codes "vehicle " ++ (decimal tour.vehicle
    ++ (codes " stops " ++ (decimal tour.stops
    ++ (codes " hidden " ++ (decimal tour.hidden
    ++ (codes " load " ++ (decimal tour.load
    ++ (codes " of " ++ (decimal capacity
    ++ (codes " start " ++ (time_text tour.start
    ++ (codes " back " ++ (decimal tour.back
    ++ (codes " distance " ++ (decimal tour.distance ++ codes "\n")))))))))))))))

-- the customers who are not planned
abbrev pub open_count : List Row → ℕ
open_count rows = length (filter (λ row. not (is_planned row)) rows)

-- the last line: vehicles with a row, of all, planned and other customers of the listing, and what the tours cost
abbrev pub total_text : ℕ → List Row → List Tour → List ℕ
total_text vehicles rows tours = codes "plan vehicles " ++ (decimal (length tours)
    ++ (codes " of " ++ (decimal vehicles
    ++ (codes " stops " ++ (decimal (length rows - open_count rows)
    ++ (codes " open " ++ (decimal (open_count rows)
    ++ (codes " cost " ++ (decimal (cost_of tours) ++ codes "\n")))))))))

-- a line for each vehicle, and the last line
abbrev pub sums_text : Places → List Row → List ℕ
sums_text p rows = flat_map (tour_text p.capacity) (tours_of p rows) ++ total_text p.vehicles rows (tours_of p rows)
